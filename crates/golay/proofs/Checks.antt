-- The parts of a codeword as numbers: data, remainder and parity bit.
use Rattle.std.proofs.Common.{◌≡◌, ℕ, ◌+◌, ◌*◌, ◌/◌, ◌%◌, ◌^◌, ◌<◌, List, [], ◌∷◌, ◌++◌, length, take, replicate, sym, refl, ap, ◌∙◌, subst, ap₂, mod-lt, arith, take_at}
use lib.Bits.{bit_xor, xor_mod}
use lib.Count.{ones, ones_cat}
use lib.Pow.{split}
use Rattle.bits.specs.Bits.{Bits, bits_of, number_from, number_of, plus}
use Rattle.bits.specs.Division.{divided, remainder, fed}
use Rattle.bits.proofs.Numbers.{length-bits_of, bits-bits_of, bits-append, bits_of_cat, bits_number, number_below, number_bits, number_of-bits_of, number_from-append, number_from_is}
use Rattle.bits.proofs.Divides.{remainder-fed, remainder_low, length-remainder, bits-remainder}
use Rattle.golay.specs.Golay.{generator, aligned, total, with_parity, code_of, check_of}
use Rattle.golay.proofs.Linear.{code_xor}
use Rattle.golay.proofs.Weights.{ones_number}

-- ---- the register

-- the top eleven bits of a register that was fed the data are the remainder
pub register_top : (d n : ℕ) → bits_of 16 n ≡ fed (bits_of 16 aligned) (bits_of 16 0) (bits_of 12 d) → bits_of 11 (n / 32) ≡ remainder generator (bits_of 12 d)
unfolding bits_of
register_top d n e =
    let bs = bits_of 12 d in
    let h = bits-bits_of 12 d in
    let r = remainder generator bs in
    let low : List ℕ = replicate 5 0 in
    let whole : bits_of 16 n ≡ r ++ low = e ∙ sym (remainder-fed (generator ++ low) bs (omega arith) h) ∙ remainder_low generator bs 5 h in
    let parts : bits_of 16 n ≡ bits_of 11 (n / 32) ++ bits_of 5 (n % 32) = ap (bits_of 16) (sym (split n 5)) ∙ bits_of_cat 11 5 (n / 32) (n % 32) (mod-lt n (omega arith)) in
    sym (take_at (bits_of 11 (n / 32)) (bits_of 5 (n % 32)) 11 (length-bits_of 11 (n / 32)))
    ∙ ap (take 11) (sym parts ∙ whole)
    ∙ take_at r low 11 (length-remainder generator bs (omega arith) h)

-- ---- the codeword

number_append : (xs ys : List ℕ) → number_of (xs ++ ys) ≡ number_of xs * 2 ^ length ys + number_of ys
number_append xs ys = number_from-append xs ys 0 ∙ number_from_is ys (number_of xs)

number_parity : (bs : List ℕ) → Bits bs → number_of (with_parity bs) ≡ number_of bs * 2 + ones (number_of bs) % 2
unfolding number_from
number_parity bs h =
    number_from-append bs (total bs % 2 ∷ []) 0 ∙ ap (λ n. number_of bs * 2 + n % 2) (sym (ones_number bs h))

pub code_parts : (d m : ℕ) → m < 2048 → bits_of 11 m ≡ remainder generator (bits_of 12 d)
    → code_of d ≡ (d % 4096 * 2048 + m) * 2 + (ones (d % 4096) + ones m) % 2
unfolding code_of
code_parts d m h e =
    let bs = bits_of 12 d in
    let rs = bits_of 11 m in
    let n = d % 4096 * 2048 + m in
    let whole : number_of (bs ++ rs) ≡ n =
    number_append bs rs ∙ ap₂ (λ x k. x * 2 ^ k + number_of rs) (number_of-bits_of 12 d 0 ∙ omega arith) (length-bits_of 11 m) ∙ ap (λ x. d % 4096 * 2048 + x) (number_bits 11 m h) in
    ap (λ l. number_of (with_parity (bs ++ l))) (sym e)
    ∙ number_parity (bs ++ rs) (bits-append bs rs (bits-bits_of 12 d) (bits-bits_of 11 m))
    ∙ ap (λ x. x * 2 + ones x % 2) whole
    ∙ ap (λ x. n * 2 + x % 2) (ones_cat 11 (d % 4096) m h)

-- data, then check bits
pub code_halves : (d : ℕ) → d < 4096 → code_of d ≡ d * 4096 + check_of d
code_halves d h =
    let bs = bits_of 12 d in
    let q = bits-bits_of 12 d in
    let r = remainder generator bs in
    let size : length r ≡ 11 = length-remainder generator bs (omega arith) q in
    let fits = bits-remainder generator bs (omega arith) q in
    let m : number_of r < 2048 = subst (λ k. number_of r < 2 ^ k) size (number_below r fits) in
    omega (arith, code_parts d (number_of r) m (bits_number 11 r size fits))

pub code_zero : code_of 0 ≡ 0
unfolding code_of bits_of number_from total divided plus
code_zero = refl

pub check_xor : (a b : ℕ) → check_of (bit_xor a b) ≡ bit_xor (check_of a) (check_of b)
check_xor a b = ap (λ n. n % 4096) (code_xor a b) ∙ xor_mod (code_of a) (code_of b) 12
