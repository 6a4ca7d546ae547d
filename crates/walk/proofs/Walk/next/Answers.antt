use Rattle.std.proofs.Common.{Some, None, refl, ap}
use Rattle.walk.specs.Walks.{here, seen}
use Rattle.walk.proofs.Stepping.{stepped}
use Rattle.walk.proofs.Running.{runs}
use Rattle.walk.proofs.Walk.next.Goals as goal

pub returns : goal.returns
returns g c =
    let μ = g.M.Measure.means in
    let walk = c.args.self.now in
    let m = c.args.m.now in
    let readings = walk.readings.now in
    let s =
    stepped μ m readings (here walk) (here c.hand_out.new.self) (seen (Some c.hand_out.result))
    (Some (c.in_ok-place.place, c.in_ok-place.missed)) c.in_ok-place.ensures.value c.hand_out.ensures.value c.hand_out.ensures.after in
    record { value = s.value; after = s.after; same = c.hand_out.ensures.same; law = s.law; run = runs μ m readings }

pub returns-in_err-place : goal.returns-in_err-place
returns-in_err-place g c =
    let μ = g.M.Measure.means in
    let walk = c.args.self.now in
    let m = c.args.m.now in
    let readings = walk.readings.now in
    let q = here walk in
    let none = c.from_residual.ensures in
    let s = stepped μ m readings q q (seen c.from_residual.result) None c.in_err-place.ensures.value (ap seen none) refl in
    record { value = s.value; after = s.after; same = refl; law = s.law; run = runs μ m readings }
