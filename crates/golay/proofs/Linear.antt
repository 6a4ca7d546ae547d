-- Long division is linear, and so is the code: the codeword of a sum is the sum of the codewords.
use Rattle.std.proofs.Common.{◌≡◌, ℕ, zero, suc, ◌+◌, ◌%◌, ◌^◌, ◌<◌, ◌≤◌, List, [], ◌∷◌, ◌++◌, length, replicate, sym, refl, ap, ◌∙◌, subst, ap₂, mod-lt, arith, length-append}
use lib.Bits.{bit_xor, xor_lt}
use lib.ListN.{length-replicate}
use Rattle.bits.specs.Bits.{Bits, bits_of, number_of, plus}
use Rattle.bits.specs.Division.{divided, remainder}
use Rattle.bits.proofs.Numbers.{length-bits_of, bits-bits_of, bits-append, bits_number, same_number, number_below}
use Rattle.bits.proofs.Divides.{length-remainder, bits-remainder}
use Rattle.bits.proofs.Sums.{length-plus, bits-plus, bits-replicate, plus_swap, plus-plus, plus_twice, plus_zeros, plus-append, bits_of_xor}
use Rattle.golay.specs.Golay.{generator, total, with_parity, golay, code_of}

-- the divisor taken off both is taken off neither
both_off : (xs ys g : List ℕ) → length g ≤ length ys → Bits xs → plus xs ys ≡ plus (plus xs g) (plus ys g)
both_off xs ys g h p =
    let undone = plus_twice (plus xs ys) g (bits-plus xs ys p) in
    let swap = plus_swap xs g ys in
    let join = plus-plus (plus xs g) ys g h in
    cc

pub divided-plus : (g : List ℕ) (n : ℕ) (xs ys : List ℕ) → length xs ≡ length ys → n + length g ≤ length xs → Bits xs → Bits ys
    → divided g n (plus xs ys) ≡ plus (divided g n xs) (divided g n ys)
unfolding divided plus
divided-plus g zero xs ys e h p q = refl
divided-plus g (suc n) [] ys e h p q = absurd (omega arith)
divided-plus g (suc n) (x ∷ xs) [] e h p q = absurd (omega arith)
divided-plus g (suc n) (zero ∷ xs) (zero ∷ ys) e h p q = divided-plus g n xs ys (omega arith) (omega arith) p.1 q.1
divided-plus g (suc n) (zero ∷ xs) (suc zero ∷ ys) e h p q =
    ap (divided g n) (sym (plus-plus xs ys g (omega arith)))
    ∙ divided-plus g n xs (plus ys g) (omega (arith, length-plus ys g)) (omega arith) p.1 (bits-plus ys g q.1)
divided-plus g (suc n) (suc zero ∷ xs) (zero ∷ ys) e h p q =
    ap (divided g n) (plus_swap xs ys g)
    ∙ divided-plus g n (plus xs g) ys (omega (arith, length-plus xs g)) (omega (arith, length-plus xs g)) (bits-plus xs g p.1) q.1
divided-plus g (suc n) (suc zero ∷ xs) (suc zero ∷ ys) e h p q =
    ap (divided g n) (both_off xs ys g (omega arith) p.1)
    ∙ divided-plus g n (plus xs g) (plus ys g) (omega (arith, length-plus xs g, length-plus ys g)) (omega (arith, length-plus xs g)) (bits-plus xs g p.1) (bits-plus ys g q.1)
divided-plus g (suc n) (suc (suc x) ∷ xs) (y ∷ ys) e h p q = absurd (omega (arith, p.0))
divided-plus g (suc n) (zero ∷ xs) (suc (suc y) ∷ ys) e h p q = absurd (omega (arith, q.0))
divided-plus g (suc n) (suc zero ∷ xs) (suc (suc y) ∷ ys) e h p q = absurd (omega (arith, q.0))

pub remainder-plus : (g xs ys : List ℕ) → length xs ≡ length ys → Bits xs → Bits ys → remainder g (plus xs ys) ≡ plus (remainder g xs) (remainder g ys)
remainder-plus g xs ys e p q =
    let w = length g in
    let zs : List ℕ = replicate w 0 in
    let room : plus xs ys ++ zs ≡ plus (xs ++ zs) (ys ++ zs) =
    ap (λ l. plus xs ys ++ l) (sym (plus_zeros zs w (bits-replicate w))) ∙ sym (plus-append xs zs ys zs e) in
    let size : length zs ≡ w = length-replicate w 0 in
    ap₂ (divided g) (length-plus xs ys) room
    ∙ divided-plus g (length xs) (xs ++ zs) (ys ++ zs)
    (omega (arith, length-append xs zs, length-append ys zs))
    (omega (arith, length-append xs zs))
    (bits-append xs zs p (bits-replicate w))
    (bits-append ys zs q (bits-replicate w))
    ∙ ap (λ n. plus (remainder g xs) (divided g n (ys ++ zs))) e

-- ---- numbers

pub number_plus : (xs ys : List ℕ) → length xs ≡ length ys → Bits xs → Bits ys → number_of (plus xs ys) ≡ bit_xor (number_of xs) (number_of ys)
number_plus xs ys e p q =
    let k = length xs in
    let one : bits_of k (number_of xs) ≡ xs = bits_number k xs refl p in
    let two : bits_of k (number_of ys) ≡ ys = bits_number k ys (sym e) q in
    let low : number_of ys < 2 ^ k = subst (λ n. number_of ys < 2 ^ n) (sym e) (number_below ys q) in
    let sum : number_of (plus xs ys) < 2 ^ k = subst (λ n. number_of (plus xs ys) < 2 ^ n) (length-plus xs ys) (number_below (plus xs ys) (bits-plus xs ys p)) in
    let left : bits_of k (number_of (plus xs ys)) ≡ plus xs ys = bits_number k (plus xs ys) (length-plus xs ys) (bits-plus xs ys p) in
    let right = bits_of_xor k (number_of xs) (number_of ys) in
    same_number k (number_of (plus xs ys)) (bit_xor (number_of xs) (number_of ys)) sum (xor_lt k (number_of xs) (number_of ys) (number_below xs p) low) (cc)

-- ---- the code

total-plus : (xs ys : List ℕ) → length xs ≡ length ys → total (plus xs ys) % 2 ≡ (total xs + total ys) % 2
unfolding total plus
total-plus [] [] e = refl
total-plus [] (y ∷ ys) e = absurd (omega arith)
total-plus (x ∷ xs) [] e = absurd (omega arith)
total-plus (x ∷ xs) (y ∷ ys) e =
    let t : total (plus xs ys) % 2 ≡ (total xs + total ys) % 2 = total-plus xs ys (omega arith) in
    omega arith

parity_plus : (xs ys : List ℕ) → length xs ≡ length ys → with_parity (plus xs ys) ≡ plus (with_parity xs) (with_parity ys)
unfolding plus
parity_plus xs ys e =
    ap (λ b. plus xs ys ++ b ∷ []) (total-plus xs ys e ∙ omega arith) ∙ sym (plus-append xs (total xs % 2 ∷ []) ys (total ys % 2 ∷ []) e)

golay-plus : (xs ys : List ℕ) → length xs ≡ length ys → Bits xs → Bits ys → golay (plus xs ys) ≡ plus (golay xs) (golay ys)
golay-plus xs ys e p q =
    let r = remainder generator xs in
    let s = remainder generator ys in
    let whole : plus xs ys ++ remainder generator (plus xs ys) ≡ plus (xs ++ r) (ys ++ s) =
    ap (λ l. plus xs ys ++ l) (remainder-plus generator xs ys e p q) ∙ sym (plus-append xs r ys s e) in
    let size : length (xs ++ r) ≡ length (ys ++ s) =
    omega (arith, length-append xs r, length-append ys s, length-remainder generator xs (omega arith) p, length-remainder generator ys (omega arith) q) in
    ap with_parity whole ∙ parity_plus (xs ++ r) (ys ++ s) size

pub length-golay : (bs : List ℕ) → Bits bs → length (golay bs) ≡ length bs + 12
length-golay bs h =
    let r = remainder generator bs in
    omega (arith, length-append (bs ++ r) (total (bs ++ r) % 2 ∷ []), length-append bs r, length-remainder generator bs (omega arith) h)

pub bits-golay : (bs : List ℕ) → Bits bs → Bits (golay bs)
bits-golay bs h =
    let r = remainder generator bs in
    bits-append (bs ++ r) (total (bs ++ r) % 2 ∷ []) (bits-append bs r h (bits-remainder generator bs (omega arith) h)) (mod-lt (total (bs ++ r)) (omega arith), tt)

pub code_xor : (a b : ℕ) → code_of (bit_xor a b) ≡ bit_xor (code_of a) (code_of b)
unfolding code_of
code_xor a b =
    let xs = bits_of 12 a in
    let ys = bits_of 12 b in
    let p = bits-bits_of 12 a in
    let q = bits-bits_of 12 b in
    let e : length xs ≡ length ys = length-bits_of 12 a ∙ sym (length-bits_of 12 b) in
    ap (λ l. number_of (golay l)) (bits_of_xor 12 a b)
    ∙ ap number_of (golay-plus xs ys e p q)
    ∙ number_plus (golay xs) (golay ys) (length-golay xs p ∙ ap (λ n. n + 12) e ∙ sym (length-golay ys q)) (bits-golay xs p) (bits-golay ys q)
