use Rattle.walk.specs.Walks.{here}
use Rattle.walk.proofs.Running.{few_come}
use Rattle.walk.proofs.FramesIterator.size_hint.Goals as goal

pub returns-clause-upper : goal.returns-clause-upper
returns-clause-upper g c =
    let frames = c.args.self.now in
    (tt, few_come g.M.Measure.means frames.measure.now frames.walk.readings.now (here frames.walk) c.saturating_sub-rest.result c.saturating_sub-rest.ensures)
