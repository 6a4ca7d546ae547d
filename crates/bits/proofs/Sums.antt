-- Sums of bit lists, and how they meet exclusive or on numbers.
use Rattle.std.proofs.Common.{◌≡◌, ℕ, zero, suc, ◌+◌, ◌/◌, ◌%◌, ◌^◌, ◌≤◌, List, [], ◌∷◌, ◌++◌, length, replicate, sym, refl, ap, ◌∙◌, mod-lt, arith}
use lib.Bits.{bit_xor, xor_shr, xor_add_and}
use Rattle.bits.specs.Bits.{◌⊕◌, Bits, bits_of, plus}

pub length-plus : (xs ys : List ℕ) → length (plus xs ys) ≡ length xs
unfolding plus
length-plus [] ys = refl
length-plus (x ∷ xs) [] = refl
length-plus (x ∷ xs) (y ∷ ys) = ap suc (length-plus xs ys)

pub bits-plus : (xs ys : List ℕ) → Bits xs → Bits (plus xs ys)
unfolding plus
bits-plus [] ys h = tt
bits-plus (x ∷ xs) [] h = h
bits-plus (x ∷ xs) (y ∷ ys) h = (mod-lt (x + y) (omega arith), bits-plus xs ys h.1)

pub bits-replicate : (n : ℕ) → Bits (replicate n 0)
bits-replicate zero = tt
bits-replicate (suc n) = (omega arith, bits-replicate n)

pub plus_nil : (xs : List ℕ) → plus xs [] ≡ xs
unfolding plus
plus_nil [] = refl
plus_nil (x ∷ xs) = refl

-- the order of two sums does not matter
pub plus_swap : (xs ys zs : List ℕ) → plus (plus xs ys) zs ≡ plus (plus xs zs) ys
unfolding plus
plus_swap [] ys zs = refl
plus_swap (x ∷ xs) [] zs = sym (plus_nil (plus (x ∷ xs) zs))
plus_swap (x ∷ xs) (y ∷ ys) [] = refl
plus_swap (x ∷ xs) (y ∷ ys) (z ∷ zs) =
    let h : ((x + y) % 2 + z) % 2 ≡ ((x + z) % 2 + y) % 2 = omega arith in
    let t = plus_swap xs ys zs in
    cc

pub plus-plus : (xs ys zs : List ℕ) → length zs ≤ length ys → plus xs (plus ys zs) ≡ plus (plus xs ys) zs
unfolding plus
plus-plus [] ys zs h = refl
plus-plus (x ∷ xs) [] [] h = refl
plus-plus (x ∷ xs) [] (z ∷ zs) h = absurd (omega arith)
plus-plus (x ∷ xs) (y ∷ ys) [] h = refl
plus-plus (x ∷ xs) (y ∷ ys) (z ∷ zs) h =
    let e : (x + (y + z) % 2) % 2 ≡ ((x + y) % 2 + z) % 2 = omega arith in
    let t = plus-plus xs ys zs (omega arith) in
    cc

pub plus_twice : (xs ys : List ℕ) → Bits xs → plus (plus xs ys) ys ≡ xs
unfolding plus
plus_twice [] ys h = refl
plus_twice (x ∷ xs) [] h = refl
plus_twice (x ∷ xs) (y ∷ ys) h =
    let e : ((x + y) % 2 + y) % 2 ≡ x = omega (arith, h.0) in
    let t = plus_twice xs ys h.1 in
    cc

pub plus_comm : (xs ys : List ℕ) → length xs ≡ length ys → plus xs ys ≡ plus ys xs
unfolding plus
plus_comm [] [] h = refl
plus_comm [] (y ∷ ys) h = absurd (omega arith)
plus_comm (x ∷ xs) [] h = absurd (omega arith)
plus_comm (x ∷ xs) (y ∷ ys) h =
    let e : (x + y) % 2 ≡ (y + x) % 2 = omega arith in
    let t = plus_comm xs ys (omega arith) in
    cc

pub plus_zeros : (xs : List ℕ) (n : ℕ) → Bits xs → plus xs (replicate n 0) ≡ xs
unfolding plus
plus_zeros [] n h = refl
plus_zeros (x ∷ xs) zero h = refl
plus_zeros (x ∷ xs) (suc n) h =
    let e : (x + 0) % 2 ≡ x = omega (arith, h.0) in
    let t = plus_zeros xs n h.1 in
    cc

pub zeros_plus : (n : ℕ) (ys : List ℕ) → length ys ≡ n → Bits ys → plus (replicate n 0) ys ≡ ys
unfolding plus
zeros_plus zero [] e h = refl
zeros_plus zero (y ∷ ys) e h = absurd (omega arith)
zeros_plus (suc n) [] e h = absurd (omega arith)
zeros_plus (suc n) (y ∷ ys) e h =
    let top : (0 + y) % 2 ≡ y = omega (arith, h.0) in
    let t = zeros_plus n ys (omega arith) h.1 in
    cc

-- zeros after what is added
pub plus_then_zeros : (xs ys : List ℕ) (n : ℕ) → Bits xs → plus xs (ys ++ replicate n 0) ≡ plus xs ys
unfolding plus
plus_then_zeros [] ys n h = refl
plus_then_zeros (x ∷ xs) [] n h = plus_zeros (x ∷ xs) n h
plus_then_zeros (x ∷ xs) (y ∷ ys) n h = ap (λ l. (x ⊕ y) ∷ l) (plus_then_zeros xs ys n h.1)

-- bits after what is added to
pub plus-before : (xs zs ys : List ℕ) → length ys ≤ length xs → plus (xs ++ zs) ys ≡ plus xs ys ++ zs
unfolding plus
plus-before [] zs [] h = plus_nil zs
plus-before [] zs (y ∷ ys) h = absurd (omega arith)
plus-before (x ∷ xs) zs [] h = refl
plus-before (x ∷ xs) zs (y ∷ ys) h = ap (λ l. (x ⊕ y) ∷ l) (plus-before xs zs ys (omega arith))

pub plus-append : (ws xs bs ys : List ℕ) → length ws ≡ length bs → plus (ws ++ xs) (bs ++ ys) ≡ plus ws bs ++ plus xs ys
unfolding plus
plus-append [] xs [] ys h = refl
plus-append [] xs (b ∷ bs) ys h = absurd (omega arith)
plus-append (a ∷ ws) xs [] ys h = absurd (omega arith)
plus-append (a ∷ ws) xs (b ∷ bs) ys h = ap (λ l. (a ⊕ b) ∷ l) (plus-append ws xs bs ys (omega arith))

pub bit_xor-mod : (a b : ℕ) → bit_xor a b % 2 ≡ (a % 2) ⊕ (b % 2)
bit_xor-mod a b = omega (arith, xor_add_and a b)

pub bits_of_xor : (k a b : ℕ) → bits_of k (bit_xor a b) ≡ plus (bits_of k a) (bits_of k b)
unfolding bits_of plus
bits_of_xor zero a b = refl
bits_of_xor (suc k) a b =
    let top : bit_xor a b / 2 ^ k % 2 ≡ (a / 2 ^ k % 2) ⊕ (b / 2 ^ k % 2) =
    ap (λ x. x % 2) (xor_shr a b k) ∙ bit_xor-mod (a / 2 ^ k) (b / 2 ^ k) in
    let rest = bits_of_xor k a b in
    cc
