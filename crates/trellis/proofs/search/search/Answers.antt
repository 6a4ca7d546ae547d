use Rattle.std.proofs.Common.{sym, ◌∙◌, subst}
use Rattle.trellis.specs.Answers.{work_fault, Answers}
use Rattle.trellis.proofs.Finding.{searched}
use Rattle.trellis.proofs.search.search.Goals as goal

pub returns-clause-answer : goal.returns-clause-answer
returns-clause-answer g c =
    let μ = g.M.Measure.means in
    let m = c.args.m.now in
    let block = c.args.block in
    let readings = c.args.readings.now in
    let whole = rw c.unwrap-readings.ensures at c.as_array.ensures.cases in
    searched μ m block readings (work_fault readings c.args.work.now) c.find.result
    (sym c.check_sizes.ensures ∙ c.in_ok-check_sizes.was) (subst (λ ys. Answers μ m block ys c.find.result) whole.same c.find.ensures)
