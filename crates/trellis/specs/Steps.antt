-- What the search holds on its way: a bank of sixteen totals, and a number of sixteen decisions for each step.
use Rattle.std.specs.Prelude.{◌≡◌, ℕ, zero, suc, ◌+◌, ◌/◌, ◌%◌, ◌^◌, ◌<◌, Bool, cond, List, [], ◌∷◌, length, Some, nat_lt, slice_index_or}
use Rattle.bits.specs.declared.Dibit.{Dibit}
use Rattle.bits.specs.declared.Dibit.TheVariants.{D00, D01, D10, D11}
use Rattle.measure.specs.Meaning.{Meaning}
use Rattle.trellis.specs.Words.{Heard}
use Rattle.trellis.specs.Search.{earlier_state, output, best}

-- how many states are reached after k steps
abbrev pub reached : ℕ → ℕ
reached k = cond (nat_lt k 4) (2 ^ k) 16

-- truth values as the bits of a number
unfoldable pub packed : (ℕ → Bool) → ℕ → ℕ
packed f zero = 0
packed f (suc n) = packed f n + cond (f n) (2 ^ n) 0

-- the inputs that decisions, newest first, lead back through from state s
unfoldable pub traced : List ℕ → ℕ → List ℕ
traced [] s = []
traced (d ∷ ds) s = s % 2 ∷ traced ds (earlier_state (d / 2 ^ s % 2) s)

module _ {S R T : Type 0} (μ : Meaning S R T) (m : S) where
  -- the total of state s in a bank
  abbrev pub at_bank : List T → ℕ → T
  at_bank bank s = slice_index_or bank s (μ.start m)

  -- the total of state s, one reading further from the state before it with oldest bit o
  abbrev pub via : Heard R → List T → ℕ → ℕ → T
  via y bank o s = μ.extend m (at_bank bank (earlier_state o s)) y.place y.reading (output (earlier_state o s) (s % 2))

  -- whether the way by oldest bit 1 is taken
  abbrev pub one_wins : Heard R → List T → ℕ → Bool
  one_wins y bank s = μ.better m (via y bank 1 s) (via y bank 0 s)

  -- the better of the two ways
  abbrev pub winner : Heard R → List T → ℕ → T
  winner y bank s = cond (one_wins y bank s) (via y bank 1 s) (via y bank 0 s)

  -- the same, if both states before are reached; else there is one way
  abbrev pub kept : Bool → Heard R → List T → ℕ → T
  kept both y bank s = cond both (winner y bank s) (via y bank 0 s)

  -- bank and decisions, newest first, say the best path into each state that is reached
  unfoldable pub Holds : List (Heard R) → List T → List ℕ → Type 0
  Holds ys bank ds = (s : ℕ) → s < reached (length ys) → best μ m ys s ≡ Some record { inputs = traced ds s; total = at_bank bank s }

abbrev pub hears : {R : Type 0} → ℕ → R → Heard R
hears place reading = record { place = place; reading = reading }

-- a bank leads to the next and a decision, by the reading at a place after t others
unfoldable pub Stepped : {S R T : Type 0} (μ : Meaning S R T) (m : S) → ℕ → ℕ → List R → List T → List T → ℕ → Type 0
Stepped {R = R} μ m t place readings old new decision =
    (y : R) (ys : List (Heard R)) (ds : List ℕ) → y ≡ slice_index_or readings place y → length ys ≡ t → Holds μ m ys old ds → Holds μ m (hears place y ∷ ys) new (decision ∷ ds)

-- both bits of a dibit turned
abbrev pub turned : Dibit → Dibit
turned D00 = D11
turned D01 = D10
turned D10 = D01
turned D11 = D00
