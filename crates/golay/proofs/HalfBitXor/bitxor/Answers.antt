use lib.Bits.{xor_lt}
use Rattle.golay.proofs.HalfBitXor.bitxor.Goals as goal

pub invariant_of-result : goal.invariant_of-result
invariant_of-result c = record { fits = xor_lt 12 c.args.self.bits c.args.other.bits c.args.self.fits c.args.other.fits }
