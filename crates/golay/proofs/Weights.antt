-- The number of ones of a word, by its bits; and that every codeword but 0 has at least eight.
use Rattle.std.proofs.Common.{◌≡◌, ℕ, zero, suc, ◌+◌, ◌*◌, ◌/◌, ◌<◌, ◌≤◌, min, Bool, true, false, ◌&&◌, T, leb, List, [], ◌∷◌, length, sym, refl, ap, ◌∙◌, inl, inr, eq-zero-or-pos, zero-add, arith, leb→le}
use lib.Arith.{bin_ind}
use lib.Bits.{bit_xor, xor_zero_l, xor_shr}
use lib.Count.{ones, ones_step, ones_cat}
use Rattle.bits.specs.Bits.{Bits, bits_of, number_from, number_of, plus}
use Rattle.bits.specs.Division.{divided}
use Rattle.bits.proofs.Numbers.{length-bits_of, bits-bits_of, number_bits}
use Rattle.bits.proofs.Sums.{bit_xor-mod}
use Rattle.golay.specs.Golay.{total, golay, code_of}
use Rattle.golay.proofs.Linear.{bits-golay}

one_bit : (b : ℕ) → b < 2 → ones b ≡ b
unfolding ones
one_bit zero h = refl
one_bit (suc zero) h = refl
one_bit (suc (suc b)) h = absurd (omega arith)

ones_from : (a : ℕ) (bs : List ℕ) → Bits bs → ones (number_from a bs) ≡ ones a + total bs
unfolding number_from total
ones_from a [] h = omega arith
ones_from a (b ∷ bs) h =
    omega (arith, ones_from (a * 2 + b) bs h.1, ones_cat 1 a b h.0, one_bit b h.0)

pub ones_number : (bs : List ℕ) → Bits bs → ones (number_of bs) ≡ total bs
unfolding ones
ones_number bs h = ones_from 0 bs h ∙ zero-add (total bs)

pub ones_xor : (a b : ℕ) → ones (bit_xor a b) ≤ ones a + ones b
ones_xor =
    bin_ind (λ a. (b : ℕ) → ones (bit_xor a b) ≤ ones a + ones b)
    (λ b. omega (arith, ap ones (xor_zero_l b)))
    (λ a rest b.
    let half : ones (bit_xor a b / 2) ≡ ones (bit_xor (a / 2) (b / 2)) = ap ones (xor_shr a b 1) in
    omega (arith, rest (b / 2), ones_step a, ones_step b, ones_step (bit_xor a b), bit_xor-mod a b))

pub some_ones : (n : ℕ) → 0 < n → 0 < ones n
some_ones =
    bin_ind (λ n. 0 < n → 0 < ones n) (λ h. absurd (omega arith))
    (λ n rest h. elim (eq-zero-or-pos (n / 2)) [ inl e ↦ omega (arith, ones_step n) | inr p ↦ omega (arith, ones_step n, rest p) ])

-- ---- the weight of a codeword

-- a test of every list of k bits
every : ℕ → (List ℕ → Bool) → Bool
every zero f = f []
every (suc k) f = every k (λ bs. f (0 ∷ bs)) && every k (λ bs. f (1 ∷ bs))

both : (a b : Bool) → T (a && b) → T a × T b
both true b t = (tt, t)
both false b t = absurd t

every_is : (k : ℕ) (f : List ℕ → Bool) → T (every k f) → (bs : List ℕ) → length bs ≡ k → Bits bs → T (f bs)
unfolding every
every_is zero f t [] e h = t
every_is zero f t (b ∷ bs) e h = absurd (omega arith)
every_is (suc k) f t [] e h = absurd (omega arith)
every_is (suc k) f t (zero ∷ bs) e h =
    every_is k (λ l. f (0 ∷ l)) (both (every k (λ l. f (0 ∷ l))) (every k (λ l. f (1 ∷ l))) t).0 bs (omega arith) h.1
every_is (suc k) f t (suc zero ∷ bs) e h =
    every_is k (λ l. f (1 ∷ l)) (both (every k (λ l. f (0 ∷ l))) (every k (λ l. f (1 ∷ l))) t).1 bs (omega arith) h.1
every_is (suc k) f t (suc (suc b) ∷ bs) e h = absurd (omega (arith, h.0))

heavy : List ℕ → Bool
heavy bs = leb (8 * min 1 (total bs)) (total (golay bs))

all_heavy : T (every 12 heavy)
unfolding every heavy total divided plus
all_heavy = tt

pub eight_ones : (d : ℕ) → 0 < d → d < 4096 → 8 ≤ ones (code_of d)
unfolding heavy code_of
eight_ones d some h =
    let bs = bits_of 12 d in
    let q = bits-bits_of 12 d in
    let t : 8 * min 1 (total bs) ≤ total (golay bs) =
    leb→le (8 * min 1 (total bs)) (total (golay bs)) (every_is 12 heavy all_heavy bs (length-bits_of 12 d) q) in
    let n : total bs ≡ ones d = sym (ones_number bs q) ∙ ap ones (number_bits 12 d h) in
    omega (arith, some_ones d some, ones_number (golay bs) (bits-golay bs q))
