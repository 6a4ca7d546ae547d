use Rattle.std.proofs.Common.{sym, ap}
use Rattle.fault.specs.Faults.{refused_or}
use Rattle.receive.proofs.Propers.{proper-here, improper_here, all_proper}
use Rattle.receive.proofs.fich.check_proper.Goals as goal

pub loop-place-preserved : goal.loop-place-preserved
loop-place-preserved g c =
    proper-here (g.M.Measure.means.proper c.args.m.now) c.args.readings.now c.loop-place.place c.index-readings-place.result _
    c.loop-place-test.true c.index-readings-place.is (sym c.if-not-proper.ensures) c.loop-place.invariant

pub returns-then-not-proper : goal.returns-then-not-proper
returns-then-not-proper g c =
    ap (λ o. refused_or o tt)
    (improper_here (g.M.Measure.means.proper c.args.m.now) c.args.readings.now c.loop-place.place c.index-readings-place.result _
    c.loop-place-test.true c.index-readings-place.is (sym c.if-not-proper.ensures) c.loop-place.invariant)

pub returns : goal.returns
returns g c =
    ap (λ o. refused_or o tt)
    (all_proper (g.M.Measure.means.proper c.args.m.now) c.args.readings.now c.loop-place.place _ c.loop-place-test.false c.loop-place.invariant)
