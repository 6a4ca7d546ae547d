-- The best word into each state of the trellis. A state is the last four inputs as a number, the newest lowest.
-- Inputs and readings stand newest first here.
use Rattle.std.specs.Prelude.{ℕ, ◌+◌, ◌*◌, ◌/◌, ◌%◌, cond, List, [], ◌∷◌, reverse, Some, None, Option, ◌==◌}
use Rattle.bits.specs.declared.Dibit.{Dibit}
use Rattle.codes.specs.Convolution.{symbol}
use Rattle.layout.specs.declared.Block.{Block}
use Rattle.measure.specs.Meaning.{Meaning}
use Rattle.trellis.specs.Words.{Heard, heard}

-- the state before s whose oldest bit is o
abbrev pub earlier_state : ℕ → ℕ → ℕ
earlier_state o s = s / 2 + 8 * o

-- the dibit for input u in state s
abbrev pub output : ℕ → ℕ → Dibit
output s u = symbol u (s % 2) (s / 2 % 2) (s / 4 % 2) (s / 8 % 2)

-- inputs, newest first, with their total
pub record PathTo (T : Type 0) : Type 0 where
  pub inputs : List ℕ
  pub total : T

module _ {S R T : Type 0} (μ : Meaning S R T) (m : S) where
  -- a path into state s, one reading further by the input u
  abbrev pub longer : Heard R → ℕ → ℕ → Option (PathTo T) → Option (PathTo T)
  longer y s u None = None
  longer y s u (Some p) = Some record { inputs = u ∷ p.inputs; total = μ.extend m p.total y.place y.reading (output s u) }

  -- of two paths into a state the second only if its total is better; a state that is not reached offers none
  abbrev pub chosen : Option (PathTo T) → Option (PathTo T) → Option (PathTo T)
  chosen None q = q
  chosen (Some p) None = Some p
  chosen (Some p) (Some q) = cond (μ.better m q.total p.total) (Some q) (Some p)

  -- from the best paths into the states before, those into s
  abbrev pub next_best : Heard R → (ℕ → Option (PathTo T)) → ℕ → Option (PathTo T)
  next_best y before s =
      chosen (longer y (earlier_state 0 s) (s % 2) (before (earlier_state 0 s)))
      (longer y (earlier_state 1 s) (s % 2) (before (earlier_state 1 s)))

  -- at first only the all-0 state is reached
  unfoldable pub best : List (Heard R) → ℕ → Option (PathTo T)
  best [] s = cond (s == 0) (Some record { inputs = []; total = μ.start m }) None
  best (y ∷ ys) s = next_best y (best ys) s

  -- the answer for a block: the best path into the all-0 state
  abbrev pub answer : Block → List R → Option (PathTo T)
  answer block readings = best (reverse (heard block readings)) 0
