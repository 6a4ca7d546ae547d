-- From the best path into the all-0 state to the word of a block: its total is its own, no word beats it, and a decisive word is it.
use Rattle.std.proofs.Common.{◌≡◌, ℕ, suc, ◌+◌, ◌⊎◌, List, [], ◌∷◌, ◌++◌, reverse, length, get_or, take, drop, Some, sym, refl, ap, ◌∙◌, subst, inl, inr, ⊎_elim, arith, length-append, length-drop, take_at}
use mathlib.Core.List.{reverse_aux}
use lib.ListN.{length-reverse}
use Rattle.std.proofs.lemmas.List.{reverse-append, reverse-reverse}
use Rattle.std.proofs.lemmas.Bool.{cases_eq, both_ways}
use Rattle.bits.specs.Bits.{Bits}
use Rattle.bits.proofs.Numbers.{bits-append, bits-drop}
use Rattle.codes.specs.Convolution.{coded_after}
use Rattle.measure.specs.Meaning.{Meaning, Lawful}
use Rattle.trellis.specs.Words.{Heard, weighed, word_total, Word, Unbeaten, Decisive}
use Rattle.trellis.specs.Search.{PathTo, best}
use Rattle.trellis.proofs.States.{state_of, output_is, zero_state}
use Rattle.trellis.proofs.Optimal.{total_of, Best, best_is}

same_or_not : (xs ys : List ℕ) → (xs ≡ ys) ⊎ (xs ≡ ys → ⊥)
same_or_not [] [] = inl refl
same_or_not [] (y ∷ ys) = inr (λ e. let z = ap length e in omega arith)
same_or_not (x ∷ xs) [] = inr (λ e. let z = ap length e in omega arith)
same_or_not (x ∷ xs) (y ∷ ys) =
    ⊎_elim
    (λ ex. ⊎_elim (λ es. inl (ap (λ v. v ∷ xs) ex ∙ ap (λ l. y ∷ l) es)) (λ no. inr (λ e. no (ap (drop 1) e))) (same_or_not xs ys))
    (λ no. inr (λ e. no (ap (λ l. get_or l 0 0) e)))
    (cases_eq x y)

abbrev rest : List ℕ
rest = 0 ∷ 0 ∷ 0 ∷ 0 ∷ []

-- a word with its rest, newest first
newest : (w : List ℕ) → reverse (w ++ rest) ≡ 0 ∷ 0 ∷ 0 ∷ 0 ∷ reverse w
newest w = reverse-append w rest

ends_at_rest : (w : List ℕ) → state_of (reverse (w ++ rest)) ≡ 0
unfolding state_of
ends_at_rest w = ap state_of (newest w) ∙ omega arith

pub bits-reverse : (xs ys : List ℕ) → Bits xs → Bits ys → Bits (reverse_aux xs ys)
bits-reverse [] ys p q = q
bits-reverse (x ∷ xs) ys p q = bits-reverse xs (x ∷ ys) p.1 (p.0, q)

module _ {S R T : Type 0} (μ : Meaning S R T) (m : S) where
  -- a total goes on the same way by states as by coded dibits
  goes_on : (ys before : List (Heard R)) (us past : List ℕ) → length us ≡ length ys → length past ≡ length before → Bits past → Bits us
      → weighed μ m (total_of μ m before past) ys (coded_after past us) ≡ total_of μ m (reverse_aux ys before) (reverse_aux us past)
  unfolding weighed total_of coded_after
  goes_on [] before [] past e f p q = refl
  goes_on [] before (u ∷ us) past e f p q = absurd (omega arith)
  goes_on (y ∷ ys) before [] past e f p q = absurd (omega arith)
  goes_on (y ∷ ys) before (u ∷ us) past e f p q =
      ap (λ d. weighed μ m (μ.extend m (total_of μ m before past) y.place y.reading d) ys (coded_after (u ∷ past) us)) (sym (output_is past u p))
      ∙ goes_on ys (y ∷ before) us (u ∷ past) (omega arith) (ap suc f) (q.0, p) q.1

  pub total_is : (ys : List (Heard R)) (w : List ℕ) → Bits w → length w + 4 ≡ length ys → word_total μ m ys w ≡ total_of μ m (reverse ys) (reverse (w ++ rest))
  unfolding total_of
  total_is ys w h e =
      goes_on ys [] (w ++ rest) [] (length-append w rest ∙ e) refl tt (bits-append w rest h (omega arith, (omega arith, (omega arith, (omega arith, tt)))))

  module _ (law : Lawful μ) (n : ℕ) (ys : List (Heard R)) (long : length ys ≡ n + 4) (p : PathTo T) (e : best μ m (reverse ys) 0 ≡ Some p) where
    it : Best μ m law (reverse ys) 0 p
    it = best_is μ m law (reverse ys) 0 p (omega arith) e

    size : length p.inputs ≡ n + 4
    unfolding it
    size = it.sound.long ∙ length-reverse ys ∙ long

    -- the free inputs, oldest first
    unfoldable pub word : List ℕ
    word = take n (reverse p.inputs)

    split : p.inputs ≡ 0 ∷ 0 ∷ 0 ∷ 0 ∷ drop 4 p.inputs
    unfolding it
    split = zero_state p.inputs it.sound.bits (omega (arith, size)) it.sound.ends

    word_is : word ≡ reverse (drop 4 p.inputs)
    unfolding word
    word_is =
        let free = drop 4 p.inputs in
        let whole : reverse p.inputs ≡ reverse free ++ rest = ap reverse split ∙ reverse-append rest free in
        ap (take n) whole ∙ take_at (reverse free) rest n (length-reverse free ∙ length-drop 4 p.inputs ∙ omega (arith, size))

    pub inputs_are : p.inputs ≡ reverse (word ++ rest)
    inputs_are =
        split
        ∙ sym (ap (λ l. reverse (l ++ rest)) word_is ∙ newest (reverse (drop 4 p.inputs)) ∙ ap (λ l. 0 ∷ 0 ∷ 0 ∷ 0 ∷ l) (reverse-reverse (drop 4 p.inputs)))

    pub word_sound : Word n word
    unfolding it
    word_sound = record {
      bits = subst Bits (sym word_is) (bits-reverse (drop 4 p.inputs) [] (bits-drop 4 p.inputs it.sound.bits) tt);
      long = ap length word_is ∙ length-reverse (drop 4 p.inputs) ∙ length-drop 4 p.inputs ∙ omega (arith, size);
    }

    total_of_word : (w : List ℕ) → Word n w → word_total μ m ys w ≡ total_of μ m (reverse ys) (reverse (w ++ rest))
    total_of_word w h = total_is ys w h.bits (omega (arith, h.long))

    pub own_total : p.total ≡ word_total μ m ys word
    unfolding it
    own_total = it.sound.own ∙ ap (total_of μ m (reverse ys)) inputs_are ∙ sym (total_of_word word word_sound)

    pub unbeaten : Unbeaten μ m n ys word
    unfolding it
    unbeaten other h =
        let us = reverse (other ++ rest) in
        ap (λ t. μ.better m t (word_total μ m ys word)) (total_of_word other h)
        ∙ ap (μ.better m (total_of μ m (reverse ys) us)) (sym own_total)
        ∙ it.least us
        (bits-reverse (other ++ rest) [] (bits-append other rest h.bits (omega arith, (omega arith, (omega arith, (omega arith, tt))))) tt)
        (length-reverse (other ++ rest) ∙ length-append other rest ∙ omega (arith, h.long, length-reverse ys))
        (ends_at_rest other)

    pub decisive : (sent : List ℕ) → Word n sent → Decisive μ m n ys sent → word ≡ sent
    decisive sent h better =
        ⊎_elim (λ same. same) (λ other. absurd (both_ways _ (unbeaten sent h) (better word word_sound other))) (same_or_not word sent)
