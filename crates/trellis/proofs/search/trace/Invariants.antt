use Rattle.std.proofs.Common.{◌≡◌, ◌<◌, ◌≤◌, ◌++◌, reverse, length, take, drop}
use Rattle.trellis.specs.Steps.{traced}
use Rattle.trellis.proofs.search.trace.Given as goal

abbrev pub invariant-loop-t : goal.invariant-loop-t
invariant-loop-t l =
    (l.t ≤ length l.decisions)
    × (l.state < 16)
    × (reverse (traced (reverse (take l.t l.decisions)) l.state) ++ drop l.t l.decisions ≡ reverse (traced (reverse l.initial.decisions) 0))

abbrev pub decreases-loop-t : goal.decreases-loop-t
decreases-loop-t l = l.t
