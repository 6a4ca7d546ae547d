use Rattle.std.proofs.Common.{arith}
use Rattle.codes.proofs.Whites.{one_on_bits}
use Rattle.codes.proofs.whitening.one_on.Goals as goal

pub returns : goal.returns
returns c = record { small = omega arith; bits = one_on_bits c.args.register }
