use Rattle.std.proofs.Common.{◌≡◌, ◌+◌, ◌-◌, take, drop, ap, arith}
use Rattle.walk.proofs.Stepping.{part_shown}
use Rattle.walk.proofs.Walk.hand_out.Goals as goal

pub returns-clause-value : goal.returns-clause-value
returns-clause-value g c =
    let n : c.args.place + 480 - c.args.place ≡ 480 = omega arith in
    let readings = c.args.self.now.readings.now in
    part_shown c.args.place c.args.missed readings _ (ap (λ k. take k (drop c.args.place readings)) n)
