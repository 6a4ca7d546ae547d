-- A sync word starts where the test says so.
use Rattle.std.proofs.Common.{◌≡◌, ℕ, zero, suc, ◌+◌, ◌-◌, ◌<◌, ◌≤◌, Bool, true, false, ◌&&◌, eqb, List, [], ◌∷◌, map, length, get_or, take, drop, Some, None, Option, sym, refl, ap, ◌∙◌, subst, ⊎_elim, arith, length-drop, length-take}
use Rattle.std.specs.Prelude.{MatchOption, MatchBool, HoldsAt}
use Rattle.std.specs.List.{AllWithin, enumerate_from}
use Rattle.std.proofs.lemmas.List.FromFn.{length-enumerate_from, get_or-enumerate_from}
use lib.ListN.{length-map}
use Rattle.std.proofs.lemmas.List.{get_or-map, ext_get_or}
use Rattle.std.proofs.lemmas.Bool.{eq-eqb, eqb-true, and_parts, and_from, cases_Bool, cases_eq, both_ways, cond-true, cond-false}
use Rattle.std.proofs.lemmas.Bool.Decides.{Decides-below_and, Decides-eqb}
use Rattle.bits.specs.declared.Dibit.{Dibit}
use Rattle.bits.specs.declared.Dibit.TheVariants.{D00, D01, D10, D11}
use Rattle.bits.specs.Bits.{bits_of}
use Rattle.bits.specs.Dibits.{value_of, dibit_of, dibits_of}
use Rattle.bits.proofs.Packing.{length-dibits_of}
use Rattle.layout.specs.Places.{sync_word}
use Rattle.measure.specs.Meaning.{Meaning}
use Rattle.walk.specs.Sync.{same_dibits, sync_dibit, plain_from, Starts, synced, frame_places, first_of, first_sync}

from_value : (d : Dibit) → dibit_of (value_of d) ≡ d
from_value D00 = refl
from_value D01 = refl
from_value D10 = refl
from_value D11 = refl

same : (ds : List Dibit) → same_dibits ds ds ≡ true
unfolding same_dibits
same [] = refl
same (d ∷ ds) = and_from (eqb (value_of d) (value_of d)) (same_dibits ds ds) (eq-eqb (value_of d) (value_of d) refl) (same ds)

equal : (ds es : List Dibit) → same_dibits ds es ≡ true → ds ≡ es
unfolding same_dibits
equal [] [] h = refl
equal [] (e ∷ es) h = absurd (let z : ◌≡◌ {A = ℕ} 0 1 = cc in omega arith)
equal (d ∷ ds) [] h = absurd (let z : ◌≡◌ {A = ℕ} 0 1 = cc in omega arith)
equal (d ∷ ds) (e ∷ es) h =
    let parts = and_parts (eqb (value_of d) (value_of e)) (same_dibits ds es) h in
    let one : d ≡ e = sym (from_value d) ∙ ap dibit_of (eqb-true (value_of d) (value_of e) parts.0) ∙ from_value e in
    let rest = equal ds es parts.1 in cc

-- the dibits below n of the sync word are those of its bytes
agree : ℕ → Bool
agree zero = true
agree (suc n) = eqb (value_of (sync_dibit n)) (value_of (get_or (dibits_of sync_word) n D00)) && agree n

pub sync_dibit_is : (k : ℕ) → k < 20 → sync_dibit k ≡ get_or (dibits_of sync_word) k D00
unfolding bits_of dibits_of agree
sync_dibit_is k h =
    let e =
    (Decides-below_and (λ n. eqb (value_of (sync_dibit n)) (value_of (get_or (dibits_of sync_word) n D00)))
    (λ n. value_of (sync_dibit n) ≡ value_of (get_or (dibits_of sync_word) n D00)) agree
    (λ n. Decides-eqb (value_of (sync_dibit n)) (value_of (get_or (dibits_of sync_word) n D00))) refl (λ _. refl) 20).0 refl k h in
    sym (from_value (sync_dibit k)) ∙ ap dibit_of e ∙ from_value (get_or (dibits_of sync_word) k D00)

length_sync : length (dibits_of sync_word) ≡ 20
length_sync = length-dibits_of sync_word

module _ {S R T : Type 0} (μ : Meaning S R T) (m : S) (readings : List R) where
  pub synced_true : (place : ℕ) → synced μ m readings place ≡ true → Starts μ m readings place
  unfolding synced
  synced_true place h = equal (plain_from μ m readings place) (dibits_of sync_word) h

  pub synced_false : (place : ℕ) → synced μ m readings place ≡ false → Starts μ m readings place → ⊥
  unfolding synced
  synced_false place h e =
      both_ways (synced μ m readings place) h
      (ap (λ ds. same_dibits ds (dibits_of sync_word)) e ∙ same (dibits_of sync_word))

  pub starts-synced : (place : ℕ) → Starts μ m readings place → synced μ m readings place ≡ true
  unfolding synced
  starts-synced place e = ap (λ ds. same_dibits ds (dibits_of sync_word)) e ∙ same (dibits_of sync_word)

  pub not_synced : (place : ℕ) → (Starts μ m readings place → ⊥) → false ≡ synced μ m readings place
  not_synced place never = ⊎_elim (λ e. absurd (never (synced_true place e))) (λ e. sym e) (cases_Bool (synced μ m readings place))

  -- fewer readings than a sync word has
  pub short_of_sync : (place : ℕ) → length readings < place + 20 → false ≡ synced μ m readings place
  short_of_sync place h =
      let n = length-map (take 20 (drop place readings)) (μ.plain m) in
      not_synced place (λ e. let l = ap length e in omega (arith, n, l, length_sync, length-take 20 (drop place readings), length-drop place readings))

  -- the words of a recording, dibit by dibit: place k has the sync word's dibit k, or it has another
  abbrev pub Alike : ℕ × R → Type 0
  Alike p = μ.plain m p.1 ≡ sync_dibit p.0

  abbrev pub Unlike : ℕ × R → Type 0
  Unlike p = μ.plain m p.1 ≡ sync_dibit p.0 → ⊥

  at_word : (P : ℕ × R → Type 0) (ws : List R) (w : R) (k : ℕ) → k < length ws → HoldsAt P (enumerate_from 0 ws) k → P (k, get_or ws k w)
  at_word P ws w k h holds =
      let none : 0 + k ≡ k = omega arith in
      subst (λ i. P (i, get_or ws k w)) none (subst P (get_or-enumerate_from 0 ws k (0, w) h) (holds (0, w)))

  -- what the comparison of all dibits of a word says
  pub compared : (place : ℕ) (r : Bool) (ws : List R) → ws ≡ take 20 (drop place readings) → length ws ≡ 20
      → MatchBool r (AllWithin Alike (enumerate_from 0 ws) 0 (length (enumerate_from 0 ws)))
      ((k : ℕ) × (k < length (enumerate_from 0 ws)) × HoldsAt Unlike (enumerate_from 0 ws) k)
      → r ≡ synced μ m readings place
  unfolding synced
  compared place r [] part n h = absurd (omega arith)
  compared place true (w ∷ ws) part n h =
      let l = length-enumerate_from 0 (w ∷ ws) in
      let s = length-map (w ∷ ws) (μ.plain m) in
      let same : map (μ.plain m) (w ∷ ws) ≡ dibits_of sync_word =
      ext_get_or D00 (map (μ.plain m) (w ∷ ws)) (dibits_of sync_word) (omega (arith, length_sync))
      (λ k b. get_or-map (μ.plain m) (w ∷ ws) k w D00 (omega arith)
      ∙ at_word Alike (w ∷ ws) w k (omega arith) (λ d. h k d (omega arith) (omega arith))
      ∙ sync_dibit_is k (omega arith)) in
      sym (starts-synced place (ap (map (μ.plain m)) (sym part) ∙ same))
  compared place false (w ∷ ws) part n h =
      let l = length-enumerate_from 0 (w ∷ ws) in
      let k = h.0 in
      let below = h.1 in
      not_synced place (λ s. at_word Unlike (w ∷ ws) w k (omega arith) h.2
      (sym (get_or-map (μ.plain m) (w ∷ ws) k w D00 (omega arith))
      ∙ ap (λ rs. get_or (map (μ.plain m) rs) k D00) part
      ∙ ap (λ ds. get_or ds k D00) s
      ∙ sym (sync_dibit_is k (omega arith))))

  -- the first of n places where a sync word starts
  first_is : (n from : ℕ) (r : Option ℕ)
      → MatchOption r ((k : ℕ) → from ≤ k → k < from + n → synced μ m readings k ≡ false)
      (λ i. (from ≤ i) × (i < from + n) × (synced μ m readings i ≡ true) × ((k : ℕ) → from ≤ k → k < i → synced μ m readings k ≡ false))
      → r ≡ first_of μ m readings n from
  unfolding first_of
  first_is zero from None h = refl
  first_is zero from (Some i) h = absurd (omega arith)
  first_is (suc n) from None h =
      first_is n (suc from) None (λ k a b. h k (omega arith) (omega arith)) ∙ sym (cond-false (synced μ m readings from) _ _ (h from (omega arith) (omega arith)))
  first_is (suc n) from (Some i) h =
      ⊎_elim
      (λ e. ap Some e ∙ sym (cond-true (synced μ m readings from) _ _ (ap (synced μ m readings) (sym e) ∙ h.2)))
      (λ d. first_is n (suc from) (Some i) (omega (arith, h.0), omega (arith, h.1), h.2, λ k a b. h.3 k (omega arith) b)
      ∙ sym (cond-false (synced μ m readings from) _ _ (h.3 from (omega arith) (omega (arith, h.0)))))
      (cases_eq i from)

  -- what a hunt that ends before a place finds
  pub hunted : (from end : ℕ) (r : Option ℕ) → end ≡ frame_places (length readings)
      → MatchOption r ((k : ℕ) → from ≤ k → k < end → synced μ m readings k ≡ false)
      (λ i. (from ≤ i) × (i < end) × (synced μ m readings i ≡ true) × ((k : ℕ) → from ≤ k → k < i → synced μ m readings k ≡ false))
      → r ≡ first_sync μ m readings from
  hunted from end None e h = first_is (frame_places (length readings) - from) from None (λ k a b. h k a (omega arith))
  hunted from end (Some i) e h =
      first_is (frame_places (length readings) - from) from (Some i) (h.0, omega (arith, h.0, h.1), h.2, h.3)
