-- What a measure says: how well supposed dibits fit the readings, as a total that grows reading by reading.
-- Everything depends on the measure's own settings, its first argument, and on what is passed alone.
use Rattle.std.specs.Prelude.{◌≡◌, ℕ, Bool, true, false}
use Rattle.bits.specs.declared.Dibit.{Dibit}

-- for measures S, readings R and totals T
pub record Meaning (S R T : Type 0) : Type 0 where
  pub start : S → T
  -- the total so far, the place, the reading there, and the dibit supposed there
  pub extend : S → T → ℕ → R → Dibit → T
  pub better : S → T → T → Bool
  pub plain : S → R → Dibit
  pub proper : S → R → Bool

-- p is no worse than q: q is not better
abbrev pub NoWorse : {S R T : Type 0} → Meaning S R T → S → T → T → Type 0
NoWorse μ m p q = μ.better m q p ≡ false

pub record Lawful {S R T : Type 0} (μ : Meaning S R T) : Type 0 where
  -- of two totals at most one is better, and a total is never better than itself
  pub apart : (m : S) (p q : T) → μ.better m p q ≡ true → μ.better m q p ≡ false
  pub itself : (m : S) (p : T) → μ.better m p p ≡ false
  -- no worse is transitive
  pub chain : (m : S) (p q r : T) → NoWorse μ m p q → NoWorse μ m q r → NoWorse μ m p r
  -- the same extension keeps no worse
  pub keeps : (m : S) (p q : T) (place : ℕ) (reading : R) (d : Dibit) → NoWorse μ m p q
      → NoWorse μ m (μ.extend m p place reading d) (μ.extend m q place reading d)
