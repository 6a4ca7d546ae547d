use Rattle.walk.proofs.Running.{runs}
use Rattle.walk.proofs.Frames.new.Goals as goal

pub returns-clause-run : goal.returns-clause-run
returns-clause-run g c = runs g.M.Measure.means c.args.measure.now c.args.readings.now
