-- Marks of which some places are muted.
use Rattle.std.specs.Prelude.{◌≡◌, ℕ, Bool, cond, nat_lt}
use Rattle.bits.specs.declared.Dibit.{Dibit}
use Rattle.measure.specs.Meaning.{Meaning}
use Rattle.measure.specs.Marks.{marks_extended, marks_plain, marks_proper}

-- a measure that is marks with some places muted
pub record IsMutedMarks {S : Type 0} (μ : Meaning S ℕ ℕ) (muted : S → ℕ → Bool) : Type 0 where
  pub start : (m : S) → μ.start m ≡ 0
  pub extend : (m : S) (total place reading : ℕ) (d : Dibit)
      → μ.extend m total place reading d ≡ cond (muted m place) total (marks_extended total reading d)
  pub better : (m : S) (a b : ℕ) → μ.better m a b ≡ nat_lt a b
  pub plain : (m : S) (reading : ℕ) → μ.plain m reading ≡ marks_plain reading
  pub proper : (m : S) (reading : ℕ) → μ.proper m reading ≡ marks_proper reading
