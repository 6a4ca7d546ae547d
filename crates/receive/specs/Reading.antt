-- What a frame of readings says of its FICH, for every measure: the FICH of the word that the search answers, or the first refusal.
use Rattle.std.specs.Prelude.{◌≡◌, ℕ, suc, ◌+◌, ◌*◌, ◌≤◌, Bool, cond, List, [], ◌∷◌, reverse, take, Some, None, Ok, Err, Option, Result}
use Rattle.codes.specs.Convolution.{coded}
use Rattle.fault.specs.declared.Fault.{Fault}
use Rattle.fault.specs.declared.Fault.TheVariants.{Improper}
use Rattle.fields.specs.declared.fich.Fich.{Fich as FichFields}
use Rattle.fields.specs.Received.{Sendable}
use Rattle.frame.specs.Header.{fich_inputs}
use Rattle.layout.specs.declared.Block.{Block}
use Rattle.layout.specs.declared.Block.TheVariants.{Fich}
use Rattle.measure.specs.Meaning.{Meaning}
use Rattle.survival.specs.Damage.{flips, unreadable}
use Rattle.trellis.specs.Sizes.{Sizes}
use Rattle.trellis.specs.Answers.{work_fault}
use Rattle.trellis.specs.Search.{PathTo, answer}
use Rattle.trellis.specs.Words.{heard, free_inputs, Unbeaten, Decisive}
use Rattle.receive.specs.Words.{fich_of_word}

-- the first of some readings that is not proper, counted from place k on
unfoldable pub first_improper : {R : Type 0} → (R → Bool) → ℕ → List R → Option Fault
first_improper proper k [] = None
first_improper proper k (y ∷ ys) = cond (proper y) (first_improper proper (suc k) ys) (Some (Improper k))

-- the first refusal of two
abbrev pub or_else : Option Fault → Option Fault → Option Fault
or_else (Some fault) later = Some fault
or_else None later = later

-- an answer, unless there is a refusal before it
abbrev pub unless_refused : {A : Type 0} → Option Fault → Result A Fault → Result A Fault
unless_refused (Some fault) r = Err fault
unless_refused None r = r

abbrev pub inputs_of : {T : Type 0} → Option (PathTo T) → List ℕ
inputs_of None = []
inputs_of (Some p) = reverse p.inputs

module _ {S R T : Type 0} (μ : Meaning S R T) (m : S) where
  -- a wrong size, and then a reading that is not proper
  abbrev pub frame_fault : List R → Sizes → Option Fault
  frame_fault readings work = or_else (work_fault readings work) (first_improper (μ.proper m) 0 readings)

  -- the free inputs of the best word of a block
  abbrev pub best_word : Block → List R → List ℕ
  best_word block readings = take (free_inputs block) (inputs_of (answer μ m block readings))

  abbrev pub fich_answer : List R → Sizes → Result FichFields Fault
  fich_answer readings work = unless_refused (frame_fault readings work) (fich_of_word (best_word Fich readings))

  -- the FICH is that of a word which no other beats; and where the word of a FICH that may be sent beats all others, that FICH comes
  pub record HeardFich (readings : List R) (fault : Option Fault) (r : Result FichFields Fault) : Type 0 where
    pub unbeaten : fault ≡ None → Unbeaten μ m (free_inputs Fich) (heard Fich readings) (best_word Fich readings)
    pub decisive : (f : FichFields) → Sendable f → fault ≡ None → Decisive μ m (free_inputs Fich) (heard Fich readings) (fich_inputs f) → r ≡ Ok f

-- marks, some of them muted: a FICH that was sent comes back where its block has flipped bits twice and unreadable ones at most six
abbrev pub FichSurvives : (ℕ → Bool) → List ℕ → Option Fault → Result FichFields Fault → Type 0
FichSurvives muted readings fault r =
    (f : FichFields) → Sendable f → fault ≡ None
    → 2 * flips muted (heard Fich readings) (coded (fich_inputs f)) + unreadable muted (heard Fich readings) ≤ 6
    → r ≡ Ok f
