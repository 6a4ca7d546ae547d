use Rattle.std.proofs.Common.{◌≡◌, reverse, take, set, ◌∙◌, subst, arith, take_all}
use Rattle.std.proofs.lemmas.List.{get_or-set_same}
use Rattle.layout.specs.Places.{length_of}
use Rattle.trellis.specs.Words.{heard_first}
use Rattle.trellis.specs.Steps.{Holds}
use Rattle.trellis.proofs.Holding.{holds_none}
use Rattle.trellis.proofs.Hearing.{weighed_more}
use Rattle.trellis.proofs.search.weigh.Goals as goal

pub loop-t-init : goal.loop-t-init
loop-t-init g c =
    let μ = g.M.Measure.means in
    let m = c.args.m.now in
    let first = get_or-set_same c.args.bank.now 0 c.start.result (μ.start m) (omega arith) in
    holds_none μ m (set c.args.bank.now 0 c.start.result) (first ∙ c.start.ensures)

pub loop-t-preserved : goal.loop-t-preserved
loop-t-preserved g c =
    weighed_more g.M.Measure.means c.args.m.now c.args.block c.args.readings.now c.loop-t.bank c.step.new.bank
    c.loop-t.decisions c.loop-t.t c.step.result
    c.step.ensures (omega arith) (omega (arith, c.requires)) (omega arith) c.loop-t.invariant
