-- The best path into a state is a path of its own total, and no path into that state is better.
use Rattle.std.proofs.Common.{◌≡◌, ℕ, suc, ◌+◌, ◌*◌, ◌%◌, ◌<◌, Bool, true, false, cond, eqb, List, [], ◌∷◌, length, Some, None, Option, sym, refl, ap, ◌∙◌, subst, ⊎_elim, arith, eqb-true}
use Rattle.bits.specs.Bits.{Bits}
use Rattle.measure.specs.Meaning.{Meaning, Lawful}
use Rattle.trellis.specs.Words.{Heard}
use Rattle.trellis.specs.Search.{earlier_state, output, PathTo, longer, chosen, best}
use Rattle.trellis.proofs.States.{state_of, state_below, before_next, last_input, next_of_before, earlier_below}

abbrev Each : {T : Type 0} → (PathTo T → Type 0) → Option (PathTo T) → Type 0
Each P None = Unit {0}
Each P (Some p) = P p

module _ {S R T : Type 0} (μ : Meaning S R T) (m : S) where
  -- the total of inputs over as many readings, both newest first
  unfoldable pub total_of : List (Heard R) → List ℕ → T
  total_of [] us = μ.start m
  total_of (y ∷ ys) [] = μ.start m
  total_of (y ∷ ys) (u ∷ us) = μ.extend m (total_of ys us) y.place y.reading (output (state_of us) u)

  -- a path over the readings into s, with its own total
  pub record Sound (ys : List (Heard R)) (s : ℕ) (p : PathTo T) : Type 0 where
    pub bits : Bits p.inputs
    pub long : length p.inputs ≡ length ys
    pub ends : state_of p.inputs ≡ s
    pub own : p.total ≡ total_of ys p.inputs

  chosen_each : (P : PathTo T → Type 0) (p q : Option (PathTo T)) → Each P p → Each P q → Each P (chosen μ m p q)
  chosen_each P None q hp hq = hq
  chosen_each P (Some p) None hp hq = hp
  chosen_each P (Some p) (Some q) hp hq =
      elim (μ.better m q.total p.total) as (λ t. Each P (cond t (Some q) (Some p))) [ true ↦ hq | false ↦ hp ]

  longer-sound : (ys : List (Heard R)) (y : Heard R) (s o : ℕ) (p : Option (PathTo T)) → s < 16 → o < 2
      → Each (Sound ys (earlier_state o s)) p → Each (Sound (y ∷ ys) s) (longer μ m y (earlier_state o s) (s % 2) p)
  unfolding state_of total_of
  longer-sound ys y s o None hs ho h = tt
  longer-sound ys y s o (Some p) hs ho h = record {
    bits = (omega arith, h.bits);
    long = ap suc h.long;
    ends = ap (λ x. (2 * x + s % 2) % 16) h.ends ∙ next_of_before s o hs ho;
    own =
        ap (λ t. μ.extend m t y.place y.reading (output (earlier_state o s) (s % 2))) h.own
        ∙ ap (λ x. μ.extend m (total_of ys p.inputs) y.place y.reading (output x (s % 2))) (sym h.ends);
  }

  start-sound : (s : ℕ) (t : Bool) → eqb s 0 ≡ t → Each (Sound [] s) (cond t (Some record { inputs = []; total = μ.start m }) None)
  unfolding state_of total_of
  start-sound s true e = record { bits = tt; long = refl; ends = sym (eqb-true s 0 e); own = refl }
  start-sound s false e = tt

  pub best-sound : (ys : List (Heard R)) (s : ℕ) → s < 16 → Each (Sound ys s) (best μ m ys s)
  unfolding best
  best-sound [] s h = start-sound s _ refl
  best-sound (y ∷ ys) s h =
      chosen_each (Sound (y ∷ ys) s) _ _
      (longer-sound ys y s 0 (best μ m ys (earlier_state 0 s)) h (omega arith) (best-sound ys (earlier_state 0 s) (earlier_below 0 s (omega arith) h)))
      (longer-sound ys y s 1 (best μ m ys (earlier_state 1 s)) h (omega arith) (best-sound ys (earlier_state 1 s) (earlier_below 1 s (omega arith) h)))

  -- there is a path, and t is not better than its total
  abbrev pub Covers : Option (PathTo T) → T → Type 0
  Covers None t = ⊥
  Covers (Some p) t = μ.better m t p.total ≡ false

  module _ (law : Lawful μ) where
    by_first : (p q : PathTo T) (t : T) (b : Bool) → μ.better m q.total p.total ≡ b → μ.better m t p.total ≡ false → Covers (cond b (Some q) (Some p)) t
    by_first p q t true e h = law.chain m q.total p.total t (law.apart m q.total p.total e) h
    by_first p q t false e h = h

    by_second : (p q : PathTo T) (t : T) (b : Bool) → μ.better m q.total p.total ≡ b → μ.better m t q.total ≡ false → Covers (cond b (Some q) (Some p)) t
    by_second p q t true e h = h
    by_second p q t false e h = law.chain m p.total q.total t e h

    covers_first : (p q : Option (PathTo T)) (t : T) → Covers p t → Covers (chosen μ m p q) t
    covers_first None q t h = absurd h
    covers_first (Some p) None t h = h
    covers_first (Some p) (Some q) t h = by_first p q t _ refl h

    covers_second : (p q : Option (PathTo T)) (t : T) → Covers q t → Covers (chosen μ m p q) t
    covers_second None q t h = h
    covers_second (Some p) None t h = absurd h
    covers_second (Some p) (Some q) t h = by_second p q t _ refl h

    covers_longer : (y : Heard R) (s u : ℕ) (p : Option (PathTo T)) (t : T) → Covers p t
        → Covers (longer μ m y s u p) (μ.extend m t y.place y.reading (output s u))
    covers_longer y s u None t h = absurd h
    covers_longer y s u (Some p) t h = law.keeps m p.total t y.place y.reading (output s u) h

    pub best_covers : (ys : List (Heard R)) (us : List ℕ) → Bits us → length us ≡ length ys → Covers (best μ m ys (state_of us)) (total_of ys us)
    unfolding best state_of total_of
    best_covers [] [] h e = law.itself m (μ.start m)
    best_covers [] (u ∷ us) h e = absurd (omega arith)
    best_covers (y ∷ ys) [] h e = absurd (omega arith)
    best_covers (y ∷ ys) (u ∷ us) h e =
        let σ = state_of us in
        let s = (2 * σ + u) % 16 in
        let t = total_of (y ∷ ys) (u ∷ us) in
        let here : Covers (longer μ m y σ u (best μ m ys σ)) t =
        covers_longer y σ u (best μ m ys σ) (total_of ys us) (best_covers ys us h.1 (omega arith)) in
        let from : (x : ℕ) → x ≡ σ → Covers (longer μ m y x (s % 2) (best μ m ys x)) t =
        λ x is.
        subst (λ x. Covers (longer μ m y x (s % 2) (best μ m ys x)) t) (sym is)
        (subst (λ v. Covers (longer μ m y σ v (best μ m ys σ)) t) (sym (last_input σ u h.0)) here) in
        ⊎_elim
        (λ is. covers_first _ _ t (from (earlier_state 0 s) is))
        (λ is. covers_second _ _ t (from (earlier_state 1 s) is))
        (before_next σ u (state_below us) h.0)

    -- what is answered: a path into s with its own total, which no other such path beats
    pub record Best (ys : List (Heard R)) (s : ℕ) (p : PathTo T) : Type 0 where
      pub sound : Sound ys s p
      pub least : (us : List ℕ) → Bits us → length us ≡ length ys → state_of us ≡ s → μ.better m (total_of ys us) p.total ≡ false

    pub best_is : (ys : List (Heard R)) (s : ℕ) (p : PathTo T) → s < 16 → best μ m ys s ≡ Some p → Best ys s p
    best_is ys s p h e = record {
      sound = subst (Each (Sound ys s)) e (best-sound ys s h);
      least = λ us hb hl hs. subst (λ o. Covers o (total_of ys us)) (ap (best μ m ys) hs ∙ e) (best_covers ys us hb hl);
    }
