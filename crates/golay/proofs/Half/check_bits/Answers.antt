use Rattle.std.proofs.Common.{◌≡◌, ◌%◌, ap, mod-eq_of_lt, arith}
use lib.Count.{ones}
use Rattle.golay.proofs.Checks.{code_parts}
use Rattle.golay.proofs.Half.check_bits.Goals as goal

pub returns : goal.returns
returns c =
    let d = c.args.self.bits in
    let m = c.remainder_of-remainder in
    let same : d % 4096 ≡ d = mod-eq_of_lt c.args.self.fits in
    let parts = code_parts d m.result m.ensures.within m.ensures.value in
    omega (arith, ap ones same)
