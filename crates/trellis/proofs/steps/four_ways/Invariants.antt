use Rattle.std.proofs.Common.{◌≡◌}
use Rattle.trellis.proofs.Ways.{each}
use Rattle.trellis.proofs.steps.four_ways.Given as goal

abbrev pub invariant-loop-w : goal.invariant-loop-w
invariant-loop-w g l =
    l.ways ≡ each (λ t d. g.M.Measure.means.extend l.m t l.place l.reading d) l.initial.ways l.dibits l.w
