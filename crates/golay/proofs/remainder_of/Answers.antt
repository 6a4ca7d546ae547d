use Rattle.golay.proofs.Checks.{register_top}
use Rattle.golay.proofs.remainder_of.Goals as goal

pub returns-clause-value : goal.returns-clause-value
returns-clause-value c = register_top c.args.«data» c.shift_in_number.result c.shift_in_number.ensures
