-- From what the search answers for the FICH block to the FICH.
use Rattle.std.proofs.Common.{◌≡◌, ℕ, Bool, List, [], ◌∷◌, ◌++◌, take, Some, None, Ok, Err, Option, Result, sym, refl, ap, ◌∙◌, subst, arith}
use Rattle.std.proofs.lemmas.List.{reverse-reverse, take_at}
use Rattle.fault.specs.declared.Fault.{Fault}
use Rattle.fields.specs.declared.fich.Fich.{Fich as FichFields}
use Rattle.frame.specs.Header.{fich_inputs}
use Rattle.layout.specs.declared.Block.{Block}
use Rattle.layout.specs.declared.Block.TheVariants.{Fich}
use Rattle.measure.specs.Meaning.{Meaning}
use Rattle.measure.specs.Muting.{IsMutedMarks}
use Rattle.survival.proofs.Flips.{marks_decisive}
use Rattle.survival.proofs.Recovering.{all_heard}
use Rattle.trellis.specs.declared.search.Found.{Found}
use Rattle.trellis.specs.Sizes.{Sizes}
use Rattle.trellis.specs.Answers.{work_fault, word_inputs, Answers, Searched}
use Rattle.trellis.specs.Words.{heard, free_inputs, Unbeaten}
use Rattle.receive.specs.Words.{fich_of_word}
use Rattle.receive.specs.Reading.{or_else, unless_refused, inputs_of, frame_fault, best_word, fich_answer, HeardFich, FichSurvives}
use Rattle.receive.proofs.Returning.{fich-word, fich_again}

module _ {S R T : Type 0} (μ : Meaning S R T) (m : S) (readings : List R) where
  best_is : (block : Block) (found : Found T) → Answers μ m block readings found → word_inputs block found.word ≡ best_word μ m block readings
  best_is block found a =
      let w = word_inputs block found.word in
      sym (ap (λ o. take (free_inputs block) (inputs_of o)) a.exact
      ∙ ap (take (free_inputs block)) (reverse-reverse (w ++ 0 ∷ 0 ∷ 0 ∷ 0 ∷ []))
      ∙ take_at w (0 ∷ 0 ∷ 0 ∷ 0 ∷ []) (free_inputs block) a.word.long)

  -- a call of the search that could refuse no size
  answers : (fault : Option Fault) (r : Result (Found T) Fault) (found : Found T) → fault ≡ None → Searched μ m Fich readings fault r → r ≡ Ok found
      → Answers μ m Fich readings found
  answers fault r found none searched is =
      let s = subst (λ o. Searched μ m Fich readings o r) none searched in
      let same : s.0 ≡ found = let e = s.1 in cc in
      subst (Answers μ m Fich readings) same s.2

  pub no_refusal : {A : Type 0} (fault : Option Fault) (r : Result (Found T) Fault) (e : Fault) → fault ≡ None → Searched μ m Fich readings fault r → r ≡ Err e → A
  no_refusal fault r e none searched is =
      let s = subst (λ o. Searched μ m Fich readings o r) none searched in
      let z : ◌≡◌ {A = ℕ} 0 1 = let o = s.1 in cc in
      absurd (omega arith)

  pub fich_value : (fault : Option Fault) (r : Result (Found T) Fault) (found : Found T) (answer : Result FichFields Fault) → fault ≡ None
      → Searched μ m Fich readings fault r → r ≡ Ok found → answer ≡ fich_of_word (word_inputs Fich found.word) → answer ≡ fich_of_word (best_word μ m Fich readings)
  fich_value fault r found answer none searched is so = so ∙ ap fich_of_word (best_is Fich found (answers fault r found none searched is))

  pub fich_law : (fault : Option Fault) (r : Result (Found T) Fault) (found : Found T) (answer : Result FichFields Fault) → fault ≡ None
      → Searched μ m Fich readings fault r → r ≡ Ok found → answer ≡ fich_of_word (word_inputs Fich found.word) → HeardFich μ m readings None answer
  fich_law fault r found answer none searched is so =
      let a = answers fault r found none searched is in
      record {
        unbeaten = λ _. subst (Unbeaten μ m (free_inputs Fich) (heard Fich readings)) (best_is Fich found a) a.unbeaten;
        decisive = λ f lawful _ best. so ∙ ap fich_of_word (a.decisive (fich_inputs f) (fich-word f) best) ∙ fich_again f lawful;
      }

  -- a refusal promises nothing of the word
  pub refused_law : (fault : Option Fault) (e : Fault) (r : Result FichFields Fault) → fault ≡ Some e → HeardFich μ m readings fault r
  refused_law fault e r is = record {
    unbeaten = λ none. let z : ◌≡◌ {A = ℕ} 0 1 = cc in absurd (omega arith);
    decisive = λ f lawful none best. let z : ◌≡◌ {A = ℕ} 0 1 = cc in absurd (omega arith);
  }

pub refused_value : {S R T : Type 0} (μ : Meaning S R T) (m : S) (readings : List R) (work : Sizes) (e : Fault) (r : Result FichFields Fault)
    → frame_fault μ m readings work ≡ Some e → r ≡ Err e → r ≡ fich_answer μ m readings work
refused_value μ m readings work e r is so = so ∙ sym (ap (λ o. unless_refused o (fich_of_word (best_word μ m Fich readings))) is)

-- no refusal at all is no refusal of the first kind
pub first_none : (first second : Option Fault) → or_else first second ≡ None → first ≡ None
first_none None second e = refl
first_none (Some fault) second e = let z : ◌≡◌ {A = ℕ} 0 1 = cc in absurd (omega arith)

pub fich_survives : {S : Type 0} (μ : Meaning S ℕ ℕ) (muted : S → ℕ → Bool) (tied : IsMutedMarks μ muted) (m : S) (readings : List ℕ) (work : Sizes) (r : Result FichFields Fault)
    → HeardFich μ m readings (frame_fault μ m readings work) r → FichSurvives (muted m) readings (frame_fault μ m readings work) r
fich_survives μ muted tied m readings work r law f lawful none few =
    law.decisive f lawful none
    (marks_decisive μ muted tied m (free_inputs Fich) (heard Fich readings) (fich_inputs f)
    (all_heard Fich readings work.totals work.numbers (first_none (work_fault readings work) _ none)) (fich-word f) few)
