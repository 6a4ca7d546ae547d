use Rattle.std.proofs.Common.{◌<◌, length, get_or, refl, subst, arith}
use Rattle.std.proofs.lemmas.List.{get_or_default}
use Rattle.trellis.specs.Steps.{Stepped}
use Rattle.trellis.proofs.Holding.{stepped}
use Rattle.trellis.proofs.steps.step.Goals as goal

pub returns : goal.returns
returns g c =
    let μ = g.M.Measure.means in
    let m = c.args.m.now in
    let readings = c.args.readings.now in
    let next = c.advance-decisions.new.new in
    let inside : c.place-place.result < length readings = omega (arith, c.place-place.ensures.value, c.place-place.ensures.law.within c.args.t c.requires, c.type_inv.readings) in
    let reading = get_or readings c.place-place.result c.index-readings-place.result in
    subst (λ place. Stepped μ m c.args.t place readings c.args.bank.now next c.if_both.result) c.place-place.ensures.value
    (stepped μ m c.args.t c.place-place.result readings c.args.bank.now next next reading c.all_reached-both.result c.advance-decisions.result c.if_both.result
    inside (get_or_default readings c.place-place.result c.index-readings-place.result reading inside) c.all_reached-both.ensures c.advance-decisions.ensures.totals c.advance-decisions.ensures.decisions refl c.if_both.ensures)
