use Rattle.survival.proofs.Apart.{seven}
use Rattle.survival.proofs.Recovering.{survives, undamaged_marks}
use Rattle.survival.proofs.read_marks.Goals as goal

pub returns : goal.returns
returns g c =
    let μ = g.M.Measure.means in
    let muted = g.M.MutedMarks.muted in
    let tied = g.met.M.MutedMarks.tied in
    let m = c.args.m.now in
    let block = c.args.block in
    let readings = c.args.readings.now in
    let work = c.args.work.now in
    let searched = c.search.ensures.answer in
    record {
      searched = searched;
      survives = survives μ muted tied m block readings work.totals work.numbers c.search.result searched;
      undamaged = undamaged_marks μ muted tied m block readings work.totals work.numbers c.search.result searched;
      distance = seven;
      kept = c.search.ensures.kept;
    }
