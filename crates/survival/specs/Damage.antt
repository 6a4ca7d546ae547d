-- What happened to the bits of a block on their way, where readings are marks.
use Rattle.std.specs.Prelude.{ℕ, ◌+◌, Bool, cond, List, [], ◌∷◌}
use Rattle.bits.specs.declared.Dibit.{Dibit}
use Rattle.measure.specs.Marks.{first_lost, second_lost, misses}
use Rattle.trellis.specs.Words.{Heard}

module _ (muted : ℕ → Bool) where
  -- how many bits of one reading can be read and are not those of a dibit; of a muted reading none can be read
  abbrev pub flips_at : Heard ℕ → Dibit → ℕ
  flips_at y d = cond (muted y.place) 0 (misses y.reading d)

  -- how many bits of one reading cannot be read: those that are marked so, and both of a muted reading
  abbrev pub unreadable_at : Heard ℕ → ℕ
  unreadable_at y = cond (muted y.place) 2 (first_lost y.reading + second_lost y.reading)

  -- how many bits of the dibits were flipped
  unfoldable pub flips : List (Heard ℕ) → List Dibit → ℕ
  flips [] ds = 0
  flips (y ∷ ys) [] = 0
  flips (y ∷ ys) (d ∷ ds) = flips_at y d + flips ys ds

  -- how many bits cannot be read
  unfoldable pub unreadable : List (Heard ℕ) → ℕ
  unreadable [] = 0
  unreadable (y ∷ ys) = unreadable_at y + unreadable ys
