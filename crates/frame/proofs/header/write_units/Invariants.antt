use Rattle.std.proofs.Common.{◌≡◌, ℕ, ◌<◌, get_or}
use Rattle.frame.specs.Coding.{by_turns}
use Rattle.frame.proofs.header.write_units.Given as goal

abbrev pub invariant-loop-k : goal.invariant-loop-k
invariant-loop-k l = (n : ℕ) → n < l.k → get_or l.part n 0 ≡ get_or (by_turns 9 5 l.first l.second) n 0
