-- The interleave of 20 × M items: item i goes to place 20 × (i mod M) + i / M.
use Rattle.std.specs.Prelude.{◌≡◌, ℕ, ◌+◌, ◌*◌, ◌/◌, ◌%◌, ◌<◌}
use Rattle.codes.specs.declared.interleave.Interleave.{Interleave}
use Rattle.codes.specs.declared.interleave.Interleave.TheVariants.{Five, Nine}

-- the M of a block of 100 dibits, and of one of 180
abbrev pub rows_of : Interleave → ℕ
rows_of Five = 5
rows_of Nine = 9

-- the place of item i
abbrev pub place_of : ℕ → ℕ → ℕ
place_of m i = 20 * (i % m) + i / m

-- the item at place j
abbrev pub item_at : ℕ → ℕ → ℕ
item_at m j = m * (j % 20) + j / 20

-- each item has one place, and each place one item
pub record Bijection (m : ℕ) : Type 0 where
  pub placed : (i : ℕ) → i < 20 * m → (place_of m i < 20 * m) × (item_at m (place_of m i) ≡ i)
  pub filled : (j : ℕ) → j < 20 * m → (item_at m j < 20 * m) × (place_of m (item_at m j) ≡ j)
