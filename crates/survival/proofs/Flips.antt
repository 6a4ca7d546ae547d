-- Marks: the total of a word is the number of flips against it, and few flips and unreadable bits leave the word sent the best.
use Rattle.std.proofs.Common.{◌≡◌, ℕ, ◌+◌, ◌*◌, ◌<◌, ◌≤◌, min, Bool, true, false, cond, T, eqb, ltb, leb, List, [], ◌∷◌, ◌++◌, map, length, get_or, drop, sym, refl, ap, ◌∙◌, arith, eqb→eq, leb→le, length-append}
use Rattle.std.proofs.lemmas.Bool.{lt-ltb}
use Rattle.bits.specs.Dibits.{first, second, value_of}
use Rattle.bits.specs.declared.Dibit.{Dibit}
use Rattle.codes.specs.Convolution.{coded}
use Rattle.codes.proofs.Coder.{length-coded_after}
use Rattle.measure.specs.Meaning.{Meaning}
use Rattle.measure.specs.Marks.{first_lost, second_lost, first_read, second_read, miss, misses, marks_extended}
use Rattle.measure.specs.Muting.{IsMutedMarks}
use Rattle.trellis.specs.Words.{Heard, weighed, word_total, Word, Decisive}
use Rattle.survival.specs.Distance.{unlike, apart, differing}
use Rattle.survival.specs.Damage.{flips_at, unreadable_at, flips, unreadable}
use Rattle.survival.proofs.Cases.{each_bits, at_bits, at_dibit}
use Rattle.survival.proofs.Apart.{seven}

-- a bit unreadable or not, the bit read, and two that may have been sent
noticed : List ℕ → Bool
noticed l =
    leb (unlike (get_or l 2 0) (get_or l 3 0))
    (miss (get_or l 0 0) (get_or l 1 0) (get_or l 2 0) + miss (get_or l 0 0) (get_or l 1 0) (get_or l 3 0) + get_or l 0 0)

always_noticed : T (each_bits 4 noticed)
unfolding noticed each_bits
always_noticed = tt

bit_noticed : (lost read a b : ℕ) → lost < 2 → read < 2 → a < 2 → b < 2 → unlike a b ≤ miss lost read a + miss lost read b + lost
unfolding noticed
bit_noticed lost read a b hl hr ha hb =
    leb→le _ _ (at_bits 4 noticed (lost ∷ read ∷ a ∷ b ∷ []) refl (hl, (hr, (ha, (hb, tt)))) always_noticed)

first_below : (d : Dibit) → first d < 2
first_below d = leb→le _ _ (at_dibit (λ e. ltb (first e) 2) d tt)

second_below : (d : Dibit) → second d < 2
second_below d = leb→le _ _ (at_dibit (λ e. ltb (second e) 2) d tt)

dibit_noticed : (r : ℕ) (d e : Dibit) → apart d e ≤ misses r d + misses r e + (first_lost r + second_lost r)
dibit_noticed r d e =
    let one = bit_noticed (first_lost r) (first_read r) (first d) (first e) (omega arith) (omega arith) (first_below d) (first_below e) in
    let two = bit_noticed (second_lost r) (second_read r) (second d) (second e) (omega arith) (omega arith) (second_below d) (second_below e) in
    omega arith

-- a dibit as its own reading
own_reading : (d : Dibit) → misses (value_of d) d + (first_lost (value_of d) + second_lost (value_of d)) ≡ 0
own_reading d =
    eqb→eq _ _ (at_dibit (λ e. eqb (misses (value_of e) e + (first_lost (value_of e) + second_lost (value_of e))) 0) d tt)

-- the reading of which neither bit can be read
abbrev lost : ℕ
lost = 12

module _ (muted : ℕ → Bool) where
  here_noticed : (y : Heard ℕ) (d e : Dibit) → apart d e ≤ flips_at muted y d + flips_at muted y e + unreadable_at muted y
  here_noticed y d e =
      let r = y.reading in
      elim (muted y.place) as (λ b. apart d e ≤ cond b 0 (misses r d) + cond b 0 (misses r e) + cond b 2 (first_lost r + second_lost r)) [
        | true ↦ dibit_noticed lost d e
        | false ↦ dibit_noticed r d e
      ]

  -- where two lists of dibits differ, a bit is flipped against one of them, or cannot be read
  differing_noticed : (ys : List (Heard ℕ)) (ds es : List Dibit) → length ds ≤ length ys
      → differing ds es ≤ flips muted ys ds + flips muted ys es + unreadable muted ys
  unfolding differing flips unreadable
  differing_noticed ys [] es h = omega arith
  differing_noticed [] (d ∷ ds) es h = absurd (omega arith)
  differing_noticed (y ∷ ys) (d ∷ ds) [] h = omega arith
  differing_noticed (y ∷ ys) (d ∷ ds) (e ∷ es) h = omega (arith, here_noticed y d e, differing_noticed ys ds es (omega arith))

  here_unharmed : (y : Heard ℕ) (d : Dibit) → muted y.place ≡ false → y.reading ≡ value_of d → flips_at muted y d + unreadable_at muted y ≡ 0
  here_unharmed y d quiet e =
      ap (λ b. cond b 0 (misses y.reading d) + cond b 2 (first_lost y.reading + second_lost y.reading)) quiet
      ∙ ap (λ r. misses r d + (first_lost r + second_lost r)) e
      ∙ own_reading d

  -- each reading the dibit itself: no flip, and nothing unreadable
  pub unharmed : (ys : List (Heard ℕ)) (ds : List Dibit) → ((place : ℕ) → muted place ≡ false) → map (λ y. y.reading) ys ≡ map value_of ds
      → 2 * flips muted ys ds + unreadable muted ys ≡ 0
  unfolding flips unreadable
  unharmed [] ds quiet e = refl
  unharmed (y ∷ ys) [] quiet e = absurd (let z = ap length e in omega arith)
  unharmed (y ∷ ys) (d ∷ ds) quiet e =
      omega (arith, here_unharmed y d (quiet y.place) (ap (λ l. get_or l 0 0) e), unharmed ys ds quiet (ap (drop 1) e))

module _ {S : Type 0} (μ : Meaning S ℕ ℕ) (muted : S → ℕ → Bool) (tied : IsMutedMarks μ muted) (m : S) where
  -- a total is the number of flips, at most 65535
  total-flips : (ys : List (Heard ℕ)) (ds : List Dibit) (total : ℕ) → total ≤ 65535
      → weighed μ m total ys ds ≡ min 65535 (total + flips (muted m) ys ds)
  unfolding weighed flips
  total-flips [] ds total h = omega arith
  total-flips (y ∷ ys) [] total h = omega arith
  total-flips (y ∷ ys) (d ∷ ds) total h =
      let rest = flips (muted m) ys ds in
      let n = misses y.reading d in
      ap (λ t. weighed μ m t ys ds) (tied.extend m total y.place y.reading d)
      ∙ elim (muted m y.place) as (λ b. weighed μ m (cond b total (marks_extended total y.reading d)) ys ds ≡ min 65535 (total + (cond b 0 n + rest))) [
        | true ↦ total-flips ys ds total h ∙ omega arith
        | false ↦ total-flips ys ds (min 65535 (total + n)) (omega arith) ∙ omega arith
      ]

  word-flips : (ys : List (Heard ℕ)) (w : List ℕ) → word_total μ m ys w ≡ min 65535 (flips (muted m) ys (coded w))
  word-flips ys w = ap (λ t. weighed μ m t ys (coded w)) (tied.start m) ∙ total-flips ys (coded w) 0 (omega arith) ∙ omega arith

  pub marks_decisive : (n : ℕ) (ys : List (Heard ℕ)) (sent : List ℕ) → length ys ≡ n + 4 → Word n sent
      → 2 * flips (muted m) ys (coded sent) + unreadable (muted m) ys ≤ 6 → Decisive μ m n ys sent
  marks_decisive n ys sent long word few other h ne =
      let a = word_total μ m ys sent in
      let b = word_total μ m ys other in
      let size : length (coded sent) ≡ n + 4 =
      length-coded_after [] (sent ++ 0 ∷ 0 ∷ 0 ∷ 0 ∷ []) ∙ length-append sent (0 ∷ 0 ∷ 0 ∷ 0 ∷ []) ∙ ap (λ k. k + 4) word.long in
      let far = seven sent other word.bits h.bits (omega (arith, word.long, h.long)) (λ e. ne (sym e)) in
      let near = differing_noticed (muted m) ys (coded sent) (coded other) (omega arith) in
      let less : a < b = omega (arith, word-flips ys sent, word-flips ys other) in
      tied.better m a b ∙ lt-ltb a b less
