-- One step of a walk keeps its law.
use Rattle.std.proofs.Common.{◌≡◌, ℕ, zero, suc, ◌+◌, ◌-◌, ◌<◌, ◌≤◌, Bool, true, false, ltb, leb, List, length, take, drop, Some, None, Option, sym, refl, ap, ◌∙◌, subst, ⊎_elim, arith}
use Rattle.std.proofs.lemmas.Bool.{cases_Bool, cases_eq, both_ways, cond-true, cond-false, cond_both, leb-true, leb-false, ltb-true, ltb-false}
use Rattle.measure.specs.Meaning.{Meaning}
use Rattle.walk.specs.Sync.{synced, frame_places, first_of, first_sync}
use Rattle.walk.specs.Walks.{Position, Seen, found, past, shown, taken, frame_taken, position_after}
use Rattle.walk.specs.Frames.{Takes}
use Rattle.walk.proofs.Starting.{synced_true, synced_false}

-- a frame that lends a part of the recording
abbrev pub lending : {R : Type 0} → ℕ → Bool → List R → Option (Seen R)
lending place missed part = Some record { place = place; missed = missed; readings = part }

pub part_shown : {R : Type 0} (place : ℕ) (missed : Bool) (readings part : List R) → part ≡ take 480 (drop place readings)
    → lending place missed part ≡ shown readings (Some (place, missed))
part_shown place missed readings part e = ap (lending place missed) e

module _ {S R T : Type 0} (μ : Meaning S R T) (m : S) (readings : List R) where
  -- where the first sync word of n places is
  record First (n from place : ℕ) : Type 0 where
    pub onward : from ≤ place
    pub below : place < from + n
    pub here : synced μ m readings place ≡ true
    pub before : (p : ℕ) → from ≤ p → p < place → synced μ m readings p ≡ false

  first_some : (n from place : ℕ) → first_of μ m readings n from ≡ Some place → First n from place
  unfolding first_of
  first_some zero from place e = absurd (let z : ◌≡◌ {A = ℕ} 0 1 = cc in omega arith)
  first_some (suc n) from place e =
      ⊎_elim
      (λ yes.
      let same : from ≡ place =
      let s = sym (cond-true (synced μ m readings from) (Some from) (first_of μ m readings n (suc from)) yes) ∙ e in cc in
      record {
        onward = omega arith;
        below = omega arith;
        here = ap (synced μ m readings) (sym same) ∙ yes;
        before = λ p h l. absurd (omega arith);
      })
      (λ other.
      let later = first_some n (suc from) place (sym (cond-false (synced μ m readings from) (Some from) (first_of μ m readings n (suc from)) other) ∙ e) in
      record {
        onward = omega arith;
        below = omega arith;
        here = later.here;
        before = λ p h l. ⊎_elim (λ s. ap (synced μ m readings) s ∙ other) (λ d. later.before p (omega arith) l) (cases_eq p from);
      })
      (cases_Bool (synced μ m readings from))

  first_missing : (n from : ℕ) → first_of μ m readings n from ≡ None → (p : ℕ) → from ≤ p → p < from + n → synced μ m readings p ≡ false
  unfolding first_of
  first_missing zero from e p h l = absurd (omega arith)
  first_missing (suc n) from e p h l =
      ⊎_elim
      (λ yes. absurd (let s = sym (cond-true (synced μ m readings from) (Some from) (first_of μ m readings n (suc from)) yes) ∙ e in let z : ◌≡◌ {A = ℕ} 0 1 = cc in omega arith))
      (λ other.
      let later = first_missing n (suc from) (sym (cond-false (synced μ m readings from) (Some from) (first_of μ m readings n (suc from)) other) ∙ e) in
      ⊎_elim (λ s. ap (synced μ m readings) s ∙ other) (λ d. later p (omega arith) (omega arith)) (cases_eq p from))
      (cases_Bool (synced μ m readings from))

  -- a step to what is taken
  abbrev Step : Position → Option (ℕ × Bool) → Type 0
  Step q t = Takes μ m readings q (past q t) (shown readings t)

  hunts : (q : Position) → (q.locked ≡ true → q.misses < 3 → ⊥) → (o : Option ℕ) → first_sync μ m readings q.place ≡ o → Step q (found o)
  hunts q free None e =
      let none = first_missing (frame_places (length readings) - q.place) q.place e in
      record {
        unchanged = refl;
        none_left = λ p h l. synced_false μ m readings p (none p h (omega arith));
        too_short = λ l h. absurd (free l h);
      }
  hunts q free (Some place) e =
      let f = first_some (frame_places (length readings) - q.place) q.place place e in
      record {
        sound = record {
          whole = omega (arith, f.below);
          part = refl;
          hit = λ _. synced_true μ m readings place f.here;
          missed = λ t. cc;
        };
        onward = f.onward;
        past = refl;
        locks = refl;
        counts = λ t. cc;
        resets = λ _. refl;
        missed = λ t. cc;
        stays = λ l h. absurd (free l h);
        none_passed = λ p h l. synced_false μ m readings p (f.before p h l);
      }

  hits : (q : Position) → q.place + 480 ≤ length readings → synced μ m readings q.place ≡ true → Step q (Some (q.place, false))
  hits q whole here = record {
    sound = record { whole = whole; part = refl; hit = λ _. synced_true μ m readings q.place here; missed = λ t. cc };
    onward = omega arith;
    past = refl;
    locks = refl;
    counts = λ t. cc;
    resets = λ _. refl;
    missed = λ t. cc;
    stays = λ _ _. refl;
    none_passed = λ p h l. absurd (omega arith);
  }

  misses : (q : Position) → q.locked ≡ true → q.misses < 3 → q.place + 480 ≤ length readings → synced μ m readings q.place ≡ false
      → Step q (Some (q.place, true))
  misses q locked few whole here = record {
    sound = record { whole = whole; part = refl; hit = λ f. cc; missed = λ _. synced_false μ m readings q.place here };
    onward = omega arith;
    past = refl;
    locks = refl;
    counts = λ _. refl;
    resets = λ f. cc;
    missed = λ _. (refl, locked, few);
    stays = λ _ _. refl;
    none_passed = λ p h l. absurd (omega arith);
  }

  ends : (q : Position) → length readings < q.place + 480 → Step q None
  ends q short = record { unchanged = refl; none_left = λ p h l. absurd (omega arith); too_short = λ _ _. short }

  pub takes : (q : Position) → Takes μ m readings q (position_after μ m readings q) (frame_taken μ m readings q)
  takes q =
      let hunted = found (first_sync μ m readings q.place) in
      cond_both q.locked _ hunted (Step q)
      (λ locked.
      cond_both (leb (q.place + 480) (length readings)) _ None (Step q)
      (λ whole.
      cond_both (synced μ m readings q.place) (Some (q.place, false)) _ (Step q)
      (λ here. hits q (leb-true _ _ whole) here)
      (λ here.
      cond_both (ltb q.misses 3) (Some (q.place, true)) hunted (Step q)
      (λ few. misses q locked (ltb-true _ _ few) (leb-true _ _ whole) here)
      (λ many. hunts q (λ _ few. absurd (omega (arith, ltb-false q.misses 3 many))) _ refl)))
      (λ short. ends q (leb-false _ _ short)))
      (λ free. hunts q (λ l _. both_ways q.locked free l) _ refl)

  -- what a walk answered by what was taken, with the law
  pub record Stepped (q to : Position) (answer : Option (Seen R)) : Type 0 where
    pub value : answer ≡ frame_taken μ m readings q
    pub after : to ≡ position_after μ m readings q
    pub law : Takes μ m readings q to answer

  pub stepped : (q after : Position) (answer : Option (Seen R)) (t : Option (ℕ × Bool)) → t ≡ taken μ m readings q
      → answer ≡ shown readings t → after ≡ past q t → Stepped q after answer
  stepped q after answer t e v a =
      let value = v ∙ ap (shown readings) e in
      let moved = a ∙ ap (past q) e in
      record {
        value = value;
        after = moved;
        law =
            subst (λ o. Takes μ m readings q after o) (sym value)
            (subst (λ p. Takes μ m readings q p (frame_taken μ m readings q)) (sym moved) (takes q));
      }
