-- A search recovers a decisive word.
use Rattle.std.proofs.Common.{◌≡◌, ℕ, ◌+◌, Bool, eqb, List, length, ℤ, Some, None, Option, Result, ◌∙◌, subst, arith}
use Rattle.std.proofs.lemmas.Bool.{eqb-true, cond_both}
use Rattle.codes.specs.Convolution.{coded}
use Rattle.fault.specs.declared.Fault.{Fault}
use Rattle.fault.specs.declared.Fault.TheVariants.{WrongSize}
use Rattle.fault.specs.declared.Memory.TheVariants.{Readings}
use Rattle.layout.specs.declared.Block.{Block}
use Rattle.layout.specs.Places.{length_of}
use Rattle.layout.proofs.Own.{own_places}
use Rattle.measure.specs.Meaning.{Meaning}
use Rattle.measure.specs.Muting.{IsMutedMarks}
use Rattle.measure.specs.Levels.{levels_means}
use Rattle.measure.specs.declared.levels.Levels.{Levels}
use Rattle.trellis.specs.declared.search.Found.{Found}
use Rattle.trellis.specs.Words.{heard, free_inputs, Word, Decisive}
use Rattle.trellis.specs.Answers.{size_fault, Searched}
use Rattle.trellis.proofs.Finding.{sizes}
use Rattle.trellis.proofs.Hearing.{length-heard}
use Rattle.survival.specs.Survival.{Recovered, Survives, UndamagedMarks, UndamagedLevels}
use Rattle.survival.proofs.Flips.{unharmed, marks_decisive}
use Rattle.survival.proofs.Levels.{levels_decisive}

recovered : {S R : Type 0} (μ : Meaning S R ℕ) (m : S) (block : Block) (readings : List R) (fault : Option Fault) (r : Result (Found ℕ) Fault) (sent : List ℕ)
    → Searched μ m block readings fault r → fault ≡ None → Word (free_inputs block) sent → Decisive μ m (free_inputs block) (heard block readings) sent
    → Recovered block sent r
recovered μ m block readings fault r sent searched none word best =
    let answer = subst (λ o. Searched μ m block readings o r) none searched in
    (answer.0, answer.1, answer.2.decisive sent word best)

-- sizes that are not refused: a whole frame of readings
whole_frame : (readings totals numbers : ℕ) → size_fault readings totals numbers ≡ None → readings ≡ 480
whole_frame readings totals numbers e =
    cond_both (eqb readings 480) (size_fault 480 totals numbers) (Some (WrongSize Readings)) (λ o. o ≡ None → readings ≡ 480)
    (λ whole _. eqb-true readings 480 whole)
    (λ _ none. let z : ◌≡◌ {A = ℕ} 0 1 = cc in absurd (omega arith)) e

-- where no size is refused, the block has a reading for each of its dibits
pub all_heard : {R : Type 0} (block : Block) (readings : List R) (totals numbers : ℕ) → size_fault (length readings) totals numbers ≡ None
    → length (heard block readings) ≡ free_inputs block + 4
all_heard block readings totals numbers none =
    length-heard block readings (length_of block) (own_places block) (whole_frame (length readings) totals numbers none) (omega arith) ∙ (sizes block).2

module _ {S : Type 0} (μ : Meaning S ℕ ℕ) (muted : S → ℕ → Bool) (tied : IsMutedMarks μ muted) (m : S)
    (block : Block) (readings : List ℕ) (totals numbers : ℕ) (r : Result (Found ℕ) Fault)
    (searched : Searched μ m block readings (size_fault (length readings) totals numbers) r) where
  pub survives : Survives (muted m) block readings (size_fault (length readings) totals numbers) r
  survives sent none word few =
      recovered μ m block readings _ r sent searched none word
      (marks_decisive μ muted tied m (free_inputs block) (heard block readings) sent (all_heard block readings totals numbers none) word few)

  pub undamaged_marks : UndamagedMarks (muted m) block readings (size_fault (length readings) totals numbers) r
  undamaged_marks sent none word quiet same =
      survives sent none word (omega (arith, unharmed (muted m) (heard block readings) (coded sent) quiet same))

pub undamaged_levels : (m : Levels) (block : Block) (readings : List ℤ) (fault : Option Fault) (r : Result (Found ℕ) Fault)
    → Searched levels_means m block readings fault r → UndamagedLevels block readings fault r
undamaged_levels m block readings fault r searched sent none word same =
    recovered levels_means m block readings fault r sent searched none word (levels_decisive m (free_inputs block) (heard block readings) sent word same)
