-- A bank and its decisions go on saying the best paths, one reading further.
use Rattle.std.proofs.Common.{◌≡◌, ℕ, zero, suc, ◌*◌, ◌/◌, ◌%◌, ◌^◌, ◌<◌, ◌≤◌, Bool, true, false, cond, ltb, leb, ◌⊎◌, List, [], ◌∷◌, length, get_or, Some, None, Option, sym, refl, ap, ◌∙◌, subst, inl, inr, arith, ne_eqb}
use native.Mathlib.Nat.{zero-div}
use Rattle.std.proofs.lemmas.List.{get_or_read}
use Rattle.std.proofs.lemmas.Bool.{cond-false, le-ltb, leb-true, leb-false}
use Rattle.measure.specs.Meaning.{Meaning}
use Rattle.trellis.specs.Words.{Heard}
use Rattle.trellis.specs.Search.{earlier_state, PathTo, longer, chosen, best}
use Rattle.trellis.specs.Steps.{reached, packed, traced, at_bank, via, one_wins, winner, kept, hears, Holds, Stepped}
use Rattle.trellis.proofs.Decisions.{unpacked}

-- how many states are reached, early and later
reached_is : (k : ℕ)
    → ((k < 4) × (reached (suc k) ≡ 2 * reached k) × (0 < reached k) × (reached k ≤ 8)) ⊎ ((4 ≤ k) × (reached k ≡ 16) × (reached (suc k) ≡ 16))
reached_is zero = inl (omega arith, refl, omega arith, omega arith)
reached_is (suc zero) = inl (omega arith, refl, omega arith, omega arith)
reached_is (suc (suc zero)) = inl (omega arith, refl, omega arith, omega arith)
reached_is (suc (suc (suc zero))) = inl (omega arith, refl, omega arith, omega arith)
reached_is (suc (suc (suc (suc k)))) =
    let n = suc (suc (suc (suc k))) in
    inr (omega arith, cond-false (ltb n 4) _ _ (le-ltb n 4 (omega arith)), cond-false (ltb (suc n) 4) _ _ (le-ltb (suc n) 4 (omega arith)))

pub some_reached : (k : ℕ) → 0 < reached k
some_reached k = let a = reached_is k in omega arith

-- what is out of reach stays so one step before
reached_back : (k s : ℕ) → s < 16 → reached (suc k) ≤ s → (reached k ≤ earlier_state 0 s) × (reached k ≤ earlier_state 1 s)
reached_back k s h r = let a = reached_is k in (omega arith, omega arith)

module _ {S R T : Type 0} (μ : Meaning S R T) (m : S) where
  unreached : (ys : List (Heard R)) (s : ℕ) → s < 16 → reached (length ys) ≤ s → best μ m ys s ≡ None
  unfolding best
  unreached [] s h r = ap (λ t. cond t (Some record { inputs = []; total = μ.start m }) None) (ne_eqb s 0 (omega arith))
  unreached (y ∷ ys) s h r =
      let b = reached_back (length ys) s h r in
      let none-0 : best μ m ys (earlier_state 0 s) ≡ None = unreached ys (earlier_state 0 s) (omega arith) b.0 in
      let none_1 : best μ m ys (earlier_state 1 s) ≡ None = unreached ys (earlier_state 1 s) (omega arith) b.1 in
      ap (λ o. chosen μ m (longer μ m y (earlier_state 0 s) (s % 2) o) (longer μ m y (earlier_state 1 s) (s % 2) (best μ m ys (earlier_state 1 s)))) none-0
      ∙ ap (λ o. chosen μ m None (longer μ m y (earlier_state 1 s) (s % 2) o)) none_1

  -- nothing heard: the start total is that of the all-0 state
  pub holds_none : (bank : List T) → at_bank μ m bank 0 ≡ μ.start m → Holds μ m [] bank []
  unfolding Holds best traced
  holds_none bank e zero h = ap (λ t. Some record { inputs = []; total = t }) (sym e)
  holds_none bank e (suc s) h = absurd (omega arith)

  module _ (y : Heard R) (ys : List (Heard R)) (bank next : List T) (ds : List ℕ) where
    -- the path into the state before s with oldest bit o, as the bank says it
    abbrev told : ℕ → ℕ → Option (PathTo T)
    told o s = Some record { inputs = traced ds (earlier_state o s); total = at_bank μ m bank (earlier_state o s) }

    abbrev said : ℕ → ℕ → T → Option (PathTo T)
    said o s t = Some record { inputs = s % 2 ∷ traced ds (earlier_state o s); total = t }

    -- early, a state has one way into it
    pub holds_early : length ys < 4 → ((s : ℕ) → s < 2 * reached (length ys) → at_bank μ m next s ≡ via μ m y bank 0 s)
        → Holds μ m ys bank ds → Holds μ m (y ∷ ys) next (0 ∷ ds)
    unfolding Holds best traced
    holds_early early totals held s h =
        let r = reached_is (length ys) in
        let none_1 : best μ m ys (earlier_state 1 s) ≡ None = unreached ys (earlier_state 1 s) (omega arith) (omega arith) in
        let some-0 : best μ m ys (earlier_state 0 s) ≡ told 0 s = held (earlier_state 0 s) (omega arith) in
        let zero_bit : 0 / 2 ^ s % 2 ≡ 0 = ap (λ x. x % 2) (zero-div (2 ^ s)) in
        ap (λ o. chosen μ m (longer μ m y (earlier_state 0 s) (s % 2) o) (longer μ m y (earlier_state 1 s) (s % 2) (best μ m ys (earlier_state 1 s)))) some-0
        ∙ ap (λ o. chosen μ m (said 0 s (via μ m y bank 0 s)) (longer μ m y (earlier_state 1 s) (s % 2) o)) none_1
        ∙ ap (said 0 s) (sym (totals s (omega arith)))
        ∙ ap (λ o. said o s (at_bank μ m next s)) (sym zero_bit)

    two_ways : (s : ℕ) (t : Bool)
        → cond t (said 1 s (via μ m y bank 1 s)) (said 0 s (via μ m y bank 0 s)) ≡ said (cond t 1 0) s (cond t (via μ m y bank 1 s) (via μ m y bank 0 s))
    two_ways s true = refl
    two_ways s false = refl

    -- later, the better of two
    pub holds_later : (d : ℕ) → 4 ≤ length ys → ((s : ℕ) → s < 16 → at_bank μ m next s ≡ winner μ m y bank s) → d ≡ packed (one_wins μ m y bank) 16
        → Holds μ m ys bank ds → Holds μ m (y ∷ ys) next (d ∷ ds)
    unfolding Holds best traced
    holds_later d later totals word held s h =
        let r = reached_is (length ys) in
        let below : s < 16 = omega arith in
        let some-0 : best μ m ys (earlier_state 0 s) ≡ told 0 s = held (earlier_state 0 s) (omega arith) in
        let some-1 : best μ m ys (earlier_state 1 s) ≡ told 1 s = held (earlier_state 1 s) (omega arith) in
        let bit : d / 2 ^ s % 2 ≡ cond (one_wins μ m y bank s) 1 0 = ap (λ x. x / 2 ^ s % 2) word ∙ unpacked (one_wins μ m y bank) 16 s below in
        ap (λ o. chosen μ m (longer μ m y (earlier_state 0 s) (s % 2) o) (longer μ m y (earlier_state 1 s) (s % 2) (best μ m ys (earlier_state 1 s)))) some-0
        ∙ ap (λ o. chosen μ m (said 0 s (via μ m y bank 0 s)) (longer μ m y (earlier_state 1 s) (s % 2) o)) some-1
        ∙ two_ways s (one_wins μ m y bank s)
        ∙ ap (λ o. said o s (winner μ m y bank s)) (sym bit)
        ∙ ap (said (d / 2 ^ s % 2) s) (sym (totals s below))

  -- one step, early or later
  holds_more : (both : Bool) (y : Heard R) (ys : List (Heard R)) (bank next : List T) (ds : List ℕ) (won : ℕ) → both ≡ leb 4 (length ys)
      → ((s : ℕ) → s < 16 → at_bank μ m next s ≡ kept μ m both y bank s) → won ≡ packed (one_wins μ m y bank) 16
      → Holds μ m ys bank ds → Holds μ m (y ∷ ys) next (cond both won 0 ∷ ds)
  holds_more true y ys bank next ds won e totals word held = holds_later y ys bank next ds won (leb-true 4 (length ys) (sym e)) totals word held
  holds_more false y ys bank next ds won e totals word held =
      let r = reached_is (length ys) in
      let early = leb-false 4 (length ys) (sym e) in
      holds_early y ys bank next ds (omega arith) (λ s h. totals s (omega arith)) held

  -- what the code does in one step
  pub stepped : (t place : ℕ) (readings : List R) (old next new : List T) (x : R) (both : Bool) (won decision : ℕ) → place < length readings
      → x ≡ get_or readings place x → both ≡ leb 4 t
      → ((s : ℕ) → s < 16 → at_bank μ m next s ≡ kept μ m both (hears place x) old s) → won ≡ packed (one_wins μ m (hears place x) old) 16
      → new ≡ next → decision ≡ cond both won 0 → Stepped μ m t place readings old new decision
  unfolding Stepped
  stepped t place readings old next new x both won decision inside ex eb totals word en ed y ys ds ey size held =
      let same : x ≡ y = get_or_read readings place x inside ex y ∙ sym ey in
      let more = holds_more both (hears place x) ys old next ds won (eb ∙ ap (leb 4) (sym size)) totals word held in
      subst (λ z. Holds μ m (hears place z ∷ ys) new (decision ∷ ds)) same
      (subst (λ l. Holds μ m (hears place x ∷ ys) l (decision ∷ ds)) (sym en) (subst (λ d. Holds μ m (hears place x ∷ ys) next (d ∷ ds)) (sym ed) more))
