-- The sizes of lent work memory.
use Rattle.std.specs.Prelude.{ℕ}

-- how many totals there are, and how many numbers
pub record Sizes : Type 0 where
  pub totals : ℕ
  pub numbers : ℕ
