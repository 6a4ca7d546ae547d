use Rattle.std.proofs.Common.{◌≡◌, ◌/◌, ◌%◌, Some, None, sym, ap, ◌∙◌, subst, rules}
use lib.Bits.{bit_xor}
use Rattle.golay.specs.Golay.{check_of}
use Rattle.golay.specs.Nearest.{Near, counted, Explains}
use Rattle.golay.proofs.Unique.{near_is}
use Rattle.golay.proofs.Turned.{near_mended}
use Rattle.golay.proofs.Word.mended.Goals as goal

pub returns-in_err-wrong : goal.returns-in_err-wrong
returns-in_err-wrong c =
    let n = c.args.self.bits in
    let syndrome : c.bitxor.result.bits ≡ bit_xor (check_of (n / 4096)) (n % 4096) = grind rules in
    let none : Explains c.bitxor.result.bits 12 3 None = c.in_err-wrong.ensures in
    let only : Near 3 n None = near_mended n c.bitxor.result.bits None c.args.self.fits syndrome none in
    rw c.from_residual.ensures (record { value = sym (near_is 3 n None only); only = only })

pub returns : goal.returns
returns c =
    let n = c.args.self.bits in
    let d = c.in_ok-wrong.wrong.bits in
    let syndrome : c.bitxor.result.bits ≡ bit_xor (check_of (n / 4096)) (n % 4096) = grind rules in
    let found : Explains c.bitxor.result.bits 12 3 (Some d) = c.in_ok-wrong.ensures in
    let whole : c.bitxor-2.result.bits ≡ bit_xor (n / 4096) d = c.bitxor-2.ensures ∙ ap (λ x. bit_xor x d) c.data-data.ensures in
    let only : Near 3 n (counted n (Some c.bitxor-2.result.bits)) =
    subst (λ x. Near 3 n (counted n (Some x))) (sym whole) (near_mended n c.bitxor.result.bits (Some d) c.args.self.fits syndrome found) in
    record { value = sym (near_is 3 n (counted n (Some c.bitxor-2.result.bits)) only); only = only }
