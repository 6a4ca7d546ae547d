-- Dibits in bytes: each way and back, and a list that is made by its places.
use Rattle.std.proofs.Common.{◌≡◌, ℕ, zero, suc, ◌+◌, ◌*◌, ◌/◌, ◌%◌, ◌<◌, List, [], ◌∷◌, ◌++◌, map, length, refl, ap, ◌∙◌, arith}
use Rattle.std.specs.List.{range_with_len}
use Rattle.bits.specs.declared.Dibit.{Dibit}
use Rattle.bits.specs.declared.Dibit.TheVariants.{D00, D01, D10, D11}
use Rattle.bits.specs.Dibits.{dibit, value_of, dibit_of, dibit_bytes, dibits_of, byte_by}

pub value_below : (d : Dibit) → value_of d < 4
value_below D00 = omega arith
value_below D01 = omega arith
value_below D10 = omega arith
value_below D11 = omega arith

by_bits : (n a b : ℕ) → n / 2 % 2 ≡ a → n % 2 ≡ b → dibit_of n ≡ dibit a b
by_bits n a b e f = cc

pub dibit_of_value : (n : ℕ) (d : Dibit) → n % 4 ≡ value_of d → dibit_of n ≡ d
dibit_of_value n D00 e = by_bits n 0 0 (omega arith) (omega arith)
dibit_of_value n D01 e = by_bits n 0 1 (omega arith) (omega arith)
dibit_of_value n D10 e = by_bits n 1 0 (omega arith) (omega arith)
dibit_of_value n D11 e = by_bits n 1 1 (omega arith) (omega arith)

pub length-dibits_of : (bs : List ℕ) → length (dibits_of bs) ≡ 4 * length bs
unfolding dibits_of
length-dibits_of [] = refl
length-dibits_of (b ∷ bs) = omega (arith, length-dibits_of bs)

pub dibits_of-append : (xs ys : List ℕ) → dibits_of (xs ++ ys) ≡ dibits_of xs ++ dibits_of ys
unfolding dibits_of
dibits_of-append [] ys = refl
dibits_of-append (x ∷ xs) ys = ap (λ l. dibit_of (x / 64) ∷ dibit_of (x / 16) ∷ dibit_of (x / 4) ∷ dibit_of x ∷ l) (dibits_of-append xs ys)

pub dibits_of_bytes : (n : ℕ) (ds : List Dibit) → length ds ≡ 4 * n → dibits_of (dibit_bytes ds) ≡ ds
unfolding dibits_of dibit_bytes
dibits_of_bytes n [] h = refl
dibits_of_bytes n (a ∷ []) h = absurd (omega arith)
dibits_of_bytes n (a ∷ b ∷ []) h = absurd (omega arith)
dibits_of_bytes n (a ∷ b ∷ c ∷ []) h = absurd (omega arith)
dibits_of_bytes zero (a ∷ b ∷ c ∷ d ∷ ds) h = absurd (omega arith)
dibits_of_bytes (suc n) (a ∷ b ∷ c ∷ d ∷ ds) h =
    let v = 64 * value_of a + 16 * value_of b + 4 * value_of c + value_of d in
    let pa = value_below a in
    let pb = value_below b in
    let pc = value_below c in
    let pd = value_below d in
    let ea = dibit_of_value (v / 64) a (omega arith) in
    let eb = dibit_of_value (v / 16) b (omega arith) in
    let ec = dibit_of_value (v / 4) c (omega arith) in
    let ed = dibit_of_value v d (omega arith) in
    let rest = dibits_of_bytes n ds (omega arith) in
    cc

pub bytes_by : (f : ℕ → Dibit) (a n : ℕ) → dibit_bytes (map f (range_with_len (4 * a) (4 * n))) ≡ map (byte_by f) (range_with_len a n)
unfolding dibit_bytes
bytes_by f a zero = refl
bytes_by f a (suc n) =
    let four : 4 * suc n ≡ suc (suc (suc (suc (4 * n)))) = omega arith in
    let two : 4 * a + 1 + 1 ≡ 4 * a + 2 = omega arith in
    let three : 4 * a + 1 + 1 + 1 ≡ 4 * a + 3 = omega arith in
    let next : 4 * a + 1 + 1 + 1 + 1 ≡ 4 * (a + 1) = omega arith in
    ap (λ k. dibit_bytes (map f (range_with_len (4 * a) k))) four
    ∙ ap (λ k. (64 * value_of (f (4 * a)) + 16 * value_of (f (4 * a + 1)) + 4 * value_of (f k) + value_of (f (4 * a + 1 + 1 + 1))) ∷ dibit_bytes (map f (range_with_len (4 * a + 1 + 1 + 1 + 1) (4 * n)))) two
    ∙ ap (λ k. (64 * value_of (f (4 * a)) + 16 * value_of (f (4 * a + 1)) + 4 * value_of (f (4 * a + 2)) + value_of (f k)) ∷ dibit_bytes (map f (range_with_len (4 * a + 1 + 1 + 1 + 1) (4 * n)))) three
    ∙ ap (λ k. byte_by f a ∷ dibit_bytes (map f (range_with_len k (4 * n)))) next
    ∙ ap (λ l. byte_by f a ∷ l) (bytes_by f (a + 1) n)
