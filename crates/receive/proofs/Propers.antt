-- Looking for the first reading that is not proper.
use Rattle.std.proofs.Common.{◌≡◌, ℕ, ◌+◌, ◌<◌, ◌≤◌, Bool, true, false, cond, List, ◌∷◌, length, get_or, drop, Some, None, Option, sym, ap, ◌∙◌, add-one}
use Rattle.std.proofs.lemmas.List.{drop_more, drop_all}
use Rattle.fault.specs.declared.Fault.{Fault}
use Rattle.fault.specs.declared.Fault.TheVariants.{Improper}
use Rattle.receive.specs.Reading.{first_improper}

module _ {R : Type 0} (proper : R → Bool) (readings : List R) where
  -- the reading at place i, and those after it
  looked_at : (i : ℕ) (x : R) → i < length readings → x ≡ get_or readings i x
      → first_improper proper i (drop i readings) ≡ cond (proper x) (first_improper proper (i + 1) (drop (i + 1) readings)) (Some (Improper i))
  unfolding first_improper
  looked_at i x h is =
      ap (first_improper proper i) (drop_more readings i x h)
      ∙ ap (λ y. first_improper proper i (y ∷ drop (i + 1) readings)) (sym is)
      ∙ ap (λ k. cond (proper x) (first_improper proper k (drop (i + 1) readings)) (Some (Improper i))) (sym (add-one i))

  pub proper-here : (i : ℕ) (x : R) (all : Option Fault) → i < length readings → x ≡ get_or readings i x → proper x ≡ true
      → first_improper proper i (drop i readings) ≡ all → first_improper proper (i + 1) (drop (i + 1) readings) ≡ all
  proper-here i x all h is good so =
      ap (λ b. cond b (first_improper proper (i + 1) (drop (i + 1) readings)) (Some (Improper i))) (sym good) ∙ sym (looked_at i x h is) ∙ so

  pub improper_here : (i : ℕ) (x : R) (all : Option Fault) → i < length readings → x ≡ get_or readings i x → proper x ≡ false
      → first_improper proper i (drop i readings) ≡ all → Some (Improper i) ≡ all
  improper_here i x all h is bad so =
      ap (λ b. cond b (first_improper proper (i + 1) (drop (i + 1) readings)) (Some (Improper i))) (sym bad) ∙ sym (looked_at i x h is) ∙ so

  pub all_proper : (i : ℕ) (all : Option Fault) → length readings ≤ i → first_improper proper i (drop i readings) ≡ all → None ≡ all
  unfolding first_improper
  all_proper i all h so = sym (ap (first_improper proper i) (drop_all i readings h)) ∙ so
