-- The frames of a whole recording.
use Rattle.std.proofs.Common.{◌≡◌, ℕ, zero, suc, ◌+◌, ◌-◌, ◌*◌, ◌/◌, ◌<◌, ◌≤◌, true, cond, ◌⊎◌, List, [], ◌∷◌, ◌++◌, length, Some, None, Option, sym, refl, ap, ◌∙◌, subst, inl, inr, ⊎_elim, arith}
use Rattle.std.proofs.lemmas.Bool.{cases_Bool, cases_lt, cond-true, cond-false}
use Rattle.measure.specs.Meaning.{Meaning}
use Rattle.walk.specs.Sync.{Starts}
use Rattle.std.specs.Prelude.{⊤}
use Rattle.std.specs.Iterator.{YieldsFirstBy, item_count, MakesProgress}
use Rattle.walk.specs.declared.Frames.{Frames}
use Rattle.walk.specs.declared.Frame.{Frame}
use Rattle.walk.specs.Walks.{Position, Seen, here, as_seen, seen, start, frame_taken, position_after}
use Rattle.walk.specs.Frames.{then_more, Inside, NoFourMissed, frames_from, enough, frames_after, all_frames, to_come, Hands, Ends, Takes, InOrder, Runs}
use Rattle.walk.proofs.Stepping.{takes}

-- no frame is missed after three in succession, n of which came before
abbrev Counted : {R : Type 0} → ℕ → List (Seen R) → Type 0
Counted n [] = Unit {0}
Counted n (f ∷ fs) = (f.missed ≡ true → n < 3) × Counted (cond f.missed (n + 1) 0) fs

no_four : {R : Type 0} (fs : List (Seen R)) (n : ℕ) → Counted n fs → NoFourMissed fs
no_four fs n h [] after a b c d e p q r s =
    let g = subst (Counted n) e h in
    let one = cond-true a.missed (n + 1) 0 p in
    let two = cond-true b.missed (cond a.missed (n + 1) 0 + 1) 0 q in
    let three = cond-true c.missed (cond b.missed (cond a.missed (n + 1) 0 + 1) 0 + 1) 0 r in
    omega (arith, g.1.1.1.0 s)
no_four [] n h (x ∷ xs) after a b c d e p q r s = let z = ap length e in omega arith
no_four (f ∷ fs) n h (x ∷ xs) after a b c d e p q r s =
    let rest : fs ≡ xs ++ a ∷ b ∷ c ∷ d ∷ after = cc in
    no_four fs (cond f.missed (n + 1) 0) h.1 xs after a b c d rest p q r s

module _ {S R T : Type 0} (μ : Meaning S R T) (m : S) (readings : List R) where
  abbrev step : Position → Option (Seen R)
  step = frame_taken μ m readings

  abbrev next : Position → Position
  next = position_after μ m readings

  abbrev frames : ℕ → Position → List (Seen R)
  frames = frames_from μ m readings

  at_some : (before after : Position) (o : Option (Seen R)) (f : Seen R) → o ≡ Some f → Takes μ m readings before after o → Hands μ m readings before after f
  at_some before after o f e h = subst (λ v. Takes μ m readings before after v) e h

  at_none : (before after : Position) (o : Option (Seen R)) → o ≡ None → Takes μ m readings before after o → Ends μ m readings before after
  at_none before after o e h = subst (λ v. Takes μ m readings before after v) e h

  hands : (q : Position) (f : Seen R) → step q ≡ Some f → Hands μ m readings q (next q) f
  hands q f e = at_some q (next q) (step q) f e (takes μ m readings q)

  ends : (q : Position) → step q ≡ None → Ends μ m readings q (next q)
  ends q e = at_none q (next q) (step q) e (takes μ m readings q)

  by_option : (o : Option (Seen R)) → (o ≡ None) ⊎ ((f : Seen R) × (o ≡ Some f))
  by_option None = inl refl
  by_option (Some f) = inr (f, refl)

  -- each frame leaves fewer
  enough_falls : (q : Position) (f : Seen R) → step q ≡ Some f → enough readings (next q) < enough readings q
  enough_falls q f e = let h = hands q f e in omega (arith, h.past, h.onward, h.sound.whole)

  nothing_left : (q : Position) → enough readings q ≤ 0 → step q ≡ None
  nothing_left q h = ⊎_elim (λ e. e) (λ p. absurd (let l = enough_falls q p.0 p.1 in omega arith)) (by_option (step q))

  none_from : (n : ℕ) (q : Position) → step q ≡ None → frames n q ≡ []
  unfolding frames_from
  none_from zero q e = refl
  none_from (suc n) q e = ap (λ o. then_more o (frames n (next q))) e

  -- more steps than enough change nothing
  pub same_frames : (n k : ℕ) (q : Position) → enough readings q ≤ n → enough readings q ≤ k → frames n q ≡ frames k q
  unfolding frames_from
  same_frames zero k q h l = sym (none_from k q (nothing_left q h))
  same_frames (suc n) zero q h l = none_from (suc n) q (nothing_left q l)
  same_frames (suc n) (suc k) q h l =
      ⊎_elim
      (λ e. none_from (suc n) q e ∙ sym (none_from (suc k) q e))
      (λ p. let falls = enough_falls q p.0 p.1 in ap (then_more (step q)) (same_frames n k (next q) (omega arith) (omega arith)))
      (by_option (step q))

  -- the frames from a position on, by the step that is made there
  pub frames_end : (q : Position) → None ≡ step q → frames_after μ m readings q ≡ []
  frames_end q e = none_from (enough readings q) q (sym e)

  pub frames_go_on : (q after : Position) (f : Seen R) → Some f ≡ step q → after ≡ next q
      → frames_after μ m readings q ≡ f ∷ frames_after μ m readings after
  unfolding frames_from
  frames_go_on q after f e h =
      let falls = enough_falls q f (sym e) in
      let n = enough readings q - 1 in
      let one : enough readings q ≡ suc n = omega arith in
      ap (λ k. frames k q) one
      ∙ ap (λ o. then_more o (frames n (next q))) (sym e)
      ∙ ap (λ fs. f ∷ fs) (same_frames n (enough readings (next q)) (next q) (omega arith) (omega arith))
      ∙ ap (λ p. f ∷ frames_after μ m readings p) (sym h)

  in_order : (n : ℕ) (q : Position) → InOrder μ m readings q.place (frames n q)
  unfolding frames_from
  in_order zero q = tt
  in_order (suc n) q =
      let rest = frames n (next q) in
      let P : Option (Seen R) → Type 0 = λ o. InOrder μ m readings q.place (then_more o rest) in
      ⊎_elim
      (λ e. subst P (sym e) tt)
      (λ p. let h = hands q p.0 p.1 in
      subst P (sym p.1) (h.onward, h.sound, subst (λ k. InOrder μ m readings k rest) h.past (in_order n (next q))))
      (by_option (step q))

  none_lost : (n : ℕ) (q : Position) (place : ℕ) → enough readings q ≤ n → q.place ≤ place → place + 480 ≤ length readings
      → Starts μ m readings place → Inside place (frames n q)
  unfolding frames_from
  none_lost zero q place h l w s = absurd (omega arith)
  none_lost (suc n) q place h l w s =
      let rest = frames n (next q) in
      let P : Option (Seen R) → Type 0 = λ o. Inside place (then_more o rest) in
      ⊎_elim
      (λ e. absurd ((ends q e).none_left place l w s))
      (λ p.
      let f = p.0 in
      let d = hands q f p.1 in
      let falls = enough_falls q f p.1 in
      subst P (sym p.1)
      (⊎_elim
      (λ early. absurd (d.none_passed place l early s))
      (λ from.
      ⊎_elim
      (λ inside. inl (from, inside))
      (λ after. inr (none_lost n (next q) place (omega arith) (omega (arith, d.past)) w s))
      (cases_lt place (f.place + 480)))
      (cases_lt place f.place)))
      (by_option (step q))

  counted : (n : ℕ) (q : Position) → Counted q.misses (frames n q)
  unfolding frames_from
  counted zero q = tt
  counted (suc n) q =
      let rest = frames n (next q) in
      let P : Option (Seen R) → Type 0 = λ o. Counted q.misses (then_more o rest) in
      ⊎_elim
      (λ e. subst P (sym e) tt)
      (λ p.
      let f = p.0 in
      let h = hands q f p.1 in
      let next-misses : (next q).misses ≡ cond f.missed (q.misses + 1) 0 =
      ⊎_elim
      (λ yes. h.counts yes ∙ sym (cond-true f.missed (q.misses + 1) 0 yes))
      (λ other. h.resets other ∙ sym (cond-false f.missed (q.misses + 1) 0 other))
      (cases_Bool f.missed) in
      subst P (sym p.1) (λ t. (h.missed t).2, subst (λ k. Counted k rest) next-misses (counted n (next q))))
      (by_option (step q))

  -- frames from a position on take 480 readings each
  room : (n : ℕ) (q : Position) → length (frames n q) * 480 ≤ length readings - q.place
  unfolding frames_from
  room zero q = omega arith
  room (suc n) q =
      let rest = frames n (next q) in
      let P : Option (Seen R) → Type 0 = λ o. length (then_more o rest) * 480 ≤ length readings - q.place in
      ⊎_elim
      (λ e. subst P (sym e) (omega arith))
      (λ p.
      let h = hands q p.0 p.1 in
      let more = room n (next q) in
      subst P (sym p.1) (omega (arith, h.past, h.onward, h.sound.whole)))
      (by_option (step q))

  pub few_come : (q : Position) (rest : ℕ) → rest ≡ length readings - q.place → length (frames_after μ m readings q) ≤ rest / 480
  few_come q rest e = let r = room (enough readings q) q in omega arith

  pub runs : Runs μ m readings (all_frames μ m readings)
  runs = record {
    order = in_order (enough readings start) start;
    few_missed = λ before after a b c d e. no_four (all_frames μ m readings) 0 (counted (enough readings start) start) before after a b c d e;
    none_lost = λ place w s. none_lost (enough readings start) start place (omega arith) (omega arith) w s;
  }

-- a step of a walk, said of the frames that are still to come
module _ {S R T : Type 0} (μ : Meaning S R T) where
  abbrev Goes : Frames S R T → Option (Frame R) → Frames S R T → Type 0
  Goes w answer v = YieldsFirstBy as_seen (to_come μ) w answer v × MakesProgress {A = Frame R} (λ _. ⊤) (item_count (to_come μ)) w answer v

  pub went : (w v : Frames S R T) (answer : Option (Frame R)) → seen answer ≡ frame_taken μ w.measure.now w.walk.readings.now (here w.walk)
      → here v.walk ≡ position_after μ w.measure.now w.walk.readings.now (here w.walk)
      → Takes μ w.measure.now w.walk.readings.now (here w.walk) (here v.walk) (seen answer)
      → v.walk.readings ≡ w.walk.readings → v.measure ≡ w.measure → Goes w answer v
  went w v None value after law readings measure =
      let none = frames_end μ w.measure.now w.walk.readings.now (here w.walk) value in
      let same : to_come μ v ≡ frames_after μ w.measure.now w.walk.readings.now (here v.walk) =
      ap (λ rs. frames_after μ v.measure.now rs.now (here v.walk)) readings ∙ ap (λ m. frames_after μ m.now w.walk.readings.now (here v.walk)) measure in
      let left = same ∙ ap (frames_after μ w.measure.now w.walk.readings.now) law.unchanged ∙ none in
      ((none, left), record { on = λ _. tt; keeps = tt; rests = λ _. tt })
  went w v (Some f) value after law readings measure =
      let same : to_come μ v ≡ frames_after μ w.measure.now w.walk.readings.now (here v.walk) =
      ap (λ rs. frames_after μ v.measure.now rs.now (here v.walk)) readings ∙ ap (λ m. frames_after μ m.now w.walk.readings.now (here v.walk)) measure in
      let on = frames_go_on μ w.measure.now w.walk.readings.now (here w.walk) (here v.walk) (as_seen f) value after in
      let steps : to_come μ w ≡ as_seen f ∷ to_come μ v = on ∙ ap (λ fs. as_seen f ∷ fs) (sym same) in
      (steps, record { on = λ _. (tt, tt, let n = ap length steps in omega arith); keeps = tt; rests = λ _. tt })
