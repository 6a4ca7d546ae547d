use Rattle.std.proofs.Common.{reverse, take}
use Rattle.trellis.specs.Words.{heard_first}
use Rattle.trellis.specs.Steps.{Holds}
use Rattle.trellis.proofs.search.weigh.Given as goal

abbrev pub invariant-loop-t : goal.invariant-loop-t
invariant-loop-t g l =
    Holds g.M.Measure.means l.m (reverse (heard_first l.block l.readings l.t)) l.bank (reverse (take l.t l.decisions))
