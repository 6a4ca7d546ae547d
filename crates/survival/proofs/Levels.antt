-- Levels: where each is the nominal level of the dibit sent, the total of the word sent is 0, and that of any other is not.
use Rattle.std.proofs.Common.{◌≡◌, ℕ, ◌+◌, ◌-◌, ◌*◌, ◌^◌, ◌≤◌, min, Bool, eqb, leb, List, [], ◌∷◌, map, length, get_or, drop, ℤ, pos, sym, refl, ap, ◌∙◌, subst, arith, eqb→eq, leb→le}
use Rattle.std.proofs.lemmas.Bool.{lt-ltb}
use Rattle.bits.specs.declared.Dibit.{Dibit}
use Rattle.codes.specs.Convolution.{coded}
use Rattle.measure.specs.declared.levels.Levels.{Levels}
use Rattle.measure.specs.Levels.{nominal_level, level_difference, levels_extended, levels_means}
use Rattle.trellis.specs.Words.{Heard, weighed, Word, Decisive}
use Rattle.survival.specs.Distance.{apart, differing}
use Rattle.survival.proofs.Cases.{each_dibit, at_dibit}
use Rattle.survival.proofs.Apart.{seven}

-- the squared difference between a reading and the nominal level of a dibit
abbrev squared : ℤ → Dibit → ℕ
squared reading d = level_difference reading d * level_difference reading d

own_squared : (d : Dibit) → squared (nominal_level d) d ≡ 0
own_squared d = eqb→eq _ _ (at_dibit (λ e. eqb (squared (nominal_level e) e) 0) d tt)

apart_squared : (d e : Dibit) → apart d e ≤ squared (nominal_level d) e
apart_squared d e =
    let near : Dibit → Dibit → Bool = λ x y. leb (apart x y) (squared (nominal_level x) y) in
    leb→le _ _ (at_dibit (near d) e (at_dibit (λ x. each_dibit (near x)) d tt))

module _ (m : Levels) where
  total_of_sent : (ys : List (Heard ℤ)) (ds : List Dibit) (total : ℕ) → map (λ y. y.reading) ys ≡ map nominal_level ds → total ≤ 2 ^ 64 - 1
      → weighed levels_means m total ys ds ≡ total
  unfolding weighed
  total_of_sent [] ds total e h = refl
  total_of_sent (y ∷ ys) [] total e h = refl
  total_of_sent (y ∷ ys) (d ∷ ds) total e h =
      let same : levels_extended total y.reading d ≡ total =
      ap (λ r. levels_extended total r d) (ap (λ l. get_or l 0 (pos 0)) e) ∙ ap (λ k. min (2 ^ 64 - 1) (total + k)) (own_squared d) ∙ omega arith in
      ap (λ t. weighed levels_means m t ys ds) same ∙ total_of_sent ys ds total (ap (drop 1) e) h

  total_of_other : (ys : List (Heard ℤ)) (ds es : List Dibit) (least total : ℕ) → map (λ y. y.reading) ys ≡ map nominal_level ds
      → min (2 ^ 64 - 1) least ≤ total → min (2 ^ 64 - 1) (least + differing ds es) ≤ weighed levels_means m total ys es
  unfolding weighed differing
  total_of_other [] [] es least total e h = omega arith
  total_of_other [] (d ∷ ds) es least total e h = absurd (let z = ap length e in omega arith)
  total_of_other (y ∷ ys) [] es least total e h = absurd (let z = ap length e in omega arith)
  total_of_other (y ∷ ys) (d ∷ ds) [] least total e h = omega arith
  total_of_other (y ∷ ys) (d ∷ ds) (x ∷ es) least total e h =
      let nominal : y.reading ≡ nominal_level d = ap (λ l. get_or l 0 (pos 0)) e in
      let more : min (2 ^ 64 - 1) (least + apart d x) ≤ levels_extended total y.reading x =
      subst (λ r. min (2 ^ 64 - 1) (least + apart d x) ≤ levels_extended total r x) (sym nominal) (omega (arith, apart_squared d x)) in
      let later = total_of_other ys ds es (least + apart d x) (levels_extended total y.reading x) (ap (drop 1) e) more in
      omega arith

  pub levels_decisive : (n : ℕ) (ys : List (Heard ℤ)) (sent : List ℕ) → Word n sent → map (λ y. y.reading) ys ≡ map nominal_level (coded sent)
      → Decisive levels_means m n ys sent
  levels_decisive n ys sent word e other h ne =
      let far = seven sent other word.bits h.bits (omega (arith, word.long, h.long)) (λ same. ne (sym same)) in
      let none = total_of_sent ys (coded sent) 0 e (omega arith) in
      let some = total_of_other ys (coded sent) (coded other) 0 0 e (omega arith) in
      lt-ltb _ _ (omega arith)
