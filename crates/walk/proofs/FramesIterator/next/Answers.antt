use Rattle.std.proofs.Common.{refl}
use Rattle.walk.proofs.Running.{went}
use Rattle.walk.proofs.FramesIterator.next.Goals as goal

pub returns : goal.returns
returns g c =
    let e = c.next.ensures in
    let w =
    went g.M.Measure.means c.args.self.now (record { measure = c.args.self.now.measure; walk = c.next.new.self }) c.next.result e.value e.after e.law e.same refl in
    record {
      steps = record { yields = w.0; value = e.value; after = e.after; same = e.same; measure = refl; law = e.law; run = e.run };
      goes = w.1;
    }
