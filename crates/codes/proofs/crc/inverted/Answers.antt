use Rattle.std.proofs.Common.{arith}
use Rattle.codes.proofs.Checks.{inverted_number}
use Rattle.codes.proofs.crc.inverted.Goals as goal

pub returns : goal.returns
returns c = inverted_number c.args.register (omega arith)
