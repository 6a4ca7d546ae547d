use Rattle.std.proofs.Common.{ℕ, ◌^◌, ◌<◌, ◌≤◌, arith}
use lib.Bits.{bit_xor, xor_lt}
use lib.Count.{ones, ones-le}
use Rattle.golay.proofs.Word.distance.Goals as goal

differing : (a b : ℕ) → a < 2 ^ 24 → b < 2 ^ 24 → ones (bit_xor a b) ≤ 24
differing a b p q = ones-le 24 (bit_xor a b) (xor_lt 24 a b p q)

pub overflow_cast-result : goal.overflow_cast-result
overflow_cast-result c = omega (arith, differing c.args.self.bits c.args.other.bits c.args.self.fits c.args.other.fits)

pub returns-clause-within : goal.returns-clause-within
returns-clause-within c = differing c.args.self.bits c.args.other.bits c.args.self.fits c.args.other.fits
