use Rattle.std.proofs.Common.{◌≡◌, ℕ, ◌*◌, ◌<◌, length}
use Rattle.trellis.specs.Steps.{packed, at_bank, one_wins, kept, hears}
use Rattle.trellis.proofs.steps.advance.Given as goal

abbrev pub invariant-loop-j : goal.invariant-loop-j
invariant-loop-j g l =
    let μ = g.M.Measure.means in
    let y = hears l.place l.reading in
    (length l.new ≡ 16)
    × (l.decisions ≡ packed (one_wins μ l.m y l.old) (2 * l.j))
    × ((s : ℕ) → s < 2 * l.j → at_bank μ l.m l.new s ≡ kept μ l.m l.both y l.old s)
