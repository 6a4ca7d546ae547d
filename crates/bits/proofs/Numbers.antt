-- A number and its bits: each way and back, cut in two, and one bit of many.
use Rattle.std.proofs.Common.{◌≡◌, ℕ, zero, suc, ◌+◌, ◌*◌, ◌/◌, ◌%◌, ◌^◌, ◌<◌, ◌≤◌, cond, eqb, List, [], ◌∷◌, ◌++◌, length, get_or, take, drop, sym, refl, ap, ◌∙◌, ⊎_elim, append_assoc, add_assoc, mod-lt, mod-eq_of_lt, mul_assoc, mul_comm, add-mul, add_comm, suc-add, pow-suc, mul-zero, zero-add, mul-suc, add-one, one-add, arith, length-append, length-drop, length-take-le, drop-drop, take_at, take-add, drop_at, pow_pos, shr-shr}
use native.Mathlib.Nat.{mul-add-div_right}
use lib.Pow.{split, high, mod-pow-add}
use Rattle.std.proofs.lemmas.Nat.{mul-le}
use Rattle.std.proofs.lemmas.Bool.{cases_lt}
use Rattle.std.proofs.lemmas.List.{get_or_append_left, get_or-append_right, get_or_past}
use Rattle.bits.specs.Bits.{Bits, bits_of, number_from, number_of, byte_bits, bit_at, numbers_of}

pub length-bits_of : (k n : ℕ) → length (bits_of k n) ≡ k
unfolding bits_of
length-bits_of zero n = refl
length-bits_of (suc k) n = ap suc (length-bits_of k n)

pub bits-bits_of : (k n : ℕ) → Bits (bits_of k n)
unfolding bits_of
bits-bits_of zero n = tt
bits-bits_of (suc k) n = (mod-lt (n / 2 ^ k) (omega arith), bits-bits_of k n)

pub bits-append : (xs ys : List ℕ) → Bits xs → Bits ys → Bits (xs ++ ys)
bits-append [] ys p q = q
bits-append (x ∷ xs) ys p q = (p.0, bits-append xs ys p.1 q)

pub bits-take : (n : ℕ) (xs : List ℕ) → Bits xs → Bits (take n xs)
bits-take zero xs h = tt
bits-take (suc n) [] h = tt
bits-take (suc n) (x ∷ xs) h = (h.0, bits-take n xs h.1)

pub bits-drop : (n : ℕ) (xs : List ℕ) → Bits xs → Bits (drop n xs)
bits-drop zero xs h = h
bits-drop (suc n) [] h = tt
bits-drop (suc n) (x ∷ xs) h = bits-drop n xs h.1

twice_pow : (a k : ℕ) → a * 2 ^ suc k ≡ (a * 2) * 2 ^ k
twice_pow a k = ap (λ x. a * x) (pow-suc 2 k ∙ mul_comm (2 ^ k) 2) ∙ sym (mul_assoc a 2 (2 ^ k))

-- what stands at place k and above does not matter to the k lowest bits
pub bits_of_low : (k a r : ℕ) → bits_of k (a * 2 ^ k + r) ≡ bits_of k r
unfolding bits_of
bits_of_low zero a r = refl
bits_of_low (suc k) a r =
    let over : (a * 2 ^ suc k + r) / 2 ^ k ≡ a * 2 + r / 2 ^ k =
    ap (λ x. (x + r) / 2 ^ k) (twice_pow a k) ∙ mul-add-div_right (pow_pos k) (a * 2) r in
    let top : (a * 2 ^ suc k + r) / 2 ^ k % 2 ≡ r / 2 ^ k % 2 = omega arith in
    let rest : bits_of k (a * 2 ^ suc k + r) ≡ bits_of k r = ap (λ x. bits_of k (x + r)) (twice_pow a k) ∙ bits_of_low k (a * 2) r in
    cc

pub bits_of_mod : (k n : ℕ) → bits_of k (n % 2 ^ k) ≡ bits_of k n
bits_of_mod k n = sym (bits_of_low k (n / 2 ^ k) (n % 2 ^ k)) ∙ ap (bits_of k) (split n k)

-- a number of j high bits and k low ones
pub bits_of_cat : (j k a r : ℕ) → r < 2 ^ k → bits_of (j + k) (a * 2 ^ k + r) ≡ bits_of j a ++ bits_of k r
unfolding bits_of
bits_of_cat zero k a r h = ap (λ w. bits_of w (a * 2 ^ k + r)) (zero-add k) ∙ bits_of_low k a r
bits_of_cat (suc j) k a r h =
    let n = a * 2 ^ k + r in
    let top : n / 2 ^ (j + k) ≡ a / 2 ^ j =
    ap (λ w. n / 2 ^ w) (add_comm j k) ∙ sym (shr-shr n k j) ∙ ap (λ x. x / 2 ^ j) (high a k h) in
    ap (λ w. bits_of w n) (suc-add j k)
    ∙ ap (λ x. x % 2 ∷ bits_of (j + k) n) top
    ∙ ap (λ l. a / 2 ^ j % 2 ∷ l) (bits_of_cat j k a r h)

pub number_from-append : (xs ys : List ℕ) (a : ℕ) → number_from a (xs ++ ys) ≡ number_from (number_from a xs) ys
unfolding number_from
number_from-append [] ys a = refl
number_from-append (x ∷ xs) ys a = number_from-append xs ys (a * 2 + x)

pub number_from_is : (bs : List ℕ) (a : ℕ) → number_from a bs ≡ a * 2 ^ length bs + number_of bs
unfolding number_from
number_from_is [] a = omega arith
number_from_is (b ∷ bs) a =
    let p = 2 ^ length bs in
    let e : number_from (a * 2 + b) bs ≡ (a * 2 + b) * p + number_of bs = number_from_is bs (a * 2 + b) in
    let f : number_from b bs ≡ b * p + number_of bs = number_from_is bs b in
    let g : number_from (0 * 2 + b) bs ≡ number_from b bs = ap (λ x. number_from x bs) (zero-add b) in
    omega (arith, add-mul (a * 2) b p, twice_pow a (length bs), add_assoc (a * 2 * p) (b * p) (number_of bs))

pub number_below : (bs : List ℕ) → Bits bs → number_of bs < 2 ^ length bs
unfolding number_from
number_below [] h = omega arith
number_below (b ∷ bs) h =
    let p = 2 ^ length bs in
    let f : number_from (0 * 2 + b) bs ≡ (0 * 2 + b) * p + number_of bs = number_from_is bs (0 * 2 + b) in
    let q : number_of bs < p = number_below bs h.1 in
    let s : 2 ^ suc (length bs) ≡ p * 2 = pow-suc 2 (length bs) in
    let m : (0 * 2 + b) * p ≤ 1 * p = mul-le (0 * 2 + b) p 1 p (omega (arith, h.0)) (omega arith) in
    omega arith

pub number_of-bits_of : (k n a : ℕ) → number_from a (bits_of k n) ≡ a * 2 ^ k + n % 2 ^ k
unfolding bits_of number_from
number_of-bits_of zero n a = omega arith
number_of-bits_of (suc k) n a =
    let t = n / 2 ^ k % 2 in
    let e : number_from (a * 2 + t) (bits_of k n) ≡ (a * 2 + t) * 2 ^ k + n % 2 ^ k = number_of-bits_of k n (a * 2 + t) in
    let m : n % 2 ^ suc k ≡ t * 2 ^ k + n % 2 ^ k = ap (λ w. n % 2 ^ w) (sym (one-add k)) ∙ mod-pow-add n 1 k in
    omega (arith, add-mul (a * 2) t (2 ^ k), twice_pow a k)

pub number_bits : (k n : ℕ) → n < 2 ^ k → number_of (bits_of k n) ≡ n
number_bits k n h = number_of-bits_of k n 0 ∙ omega (arith, mod-eq_of_lt h)

bits-number_from : (bs : List ℕ) (a : ℕ) → Bits bs → bits_of (length bs) (number_from a bs) ≡ bs
unfolding bits_of number_from
bits-number_from [] a h = refl
bits-number_from (b ∷ bs) a h =
    let p = 2 ^ length bs in
    let n = number_from (a * 2 + b) bs in
    let e : n ≡ (a * 2 + b) * p + number_of bs = number_from_is bs (a * 2 + b) in
    let d : n / p ≡ a * 2 + b = ap (λ x. x / p) e ∙ high (a * 2 + b) (length bs) (number_below bs h.1) in
    let top : n / p % 2 ≡ b = omega (arith, h.0) in
    let rest : bits_of (length bs) n ≡ bs = bits-number_from bs (a * 2 + b) h.1 in
    cc

pub bits_number : (k : ℕ) (bs : List ℕ) → length bs ≡ k → Bits bs → bits_of k (number_of bs) ≡ bs
bits_number k bs e h = ap (λ w. bits_of w (number_of bs)) (sym e) ∙ bits-number_from bs 0 h

-- two numbers of k bits with the same bits
pub same_number : (k a b : ℕ) → a < 2 ^ k → b < 2 ^ k → bits_of k a ≡ bits_of k b → a ≡ b
same_number k a b p q e = sym (number_bits k a p) ∙ ap number_of e ∙ number_bits k b q

pub get_or-bits_of : (k n i j : ℕ) → i + suc j ≡ k → get_or (bits_of k n) i 0 ≡ n / 2 ^ j % 2
unfolding bits_of
get_or-bits_of zero n i j h = absurd (omega arith)
get_or-bits_of (suc k) n zero j h = let e : k ≡ j = omega arith in ap (λ x. n / 2 ^ x % 2) e
get_or-bits_of (suc k) n (suc i) j h = get_or-bits_of k n i j (omega arith)

-- ---- strings of bytes

abbrev pub Bytes : List ℕ → Type 0
Bytes [] = Unit {0}
Bytes (b ∷ bs) = (b < 256) × Bytes bs

pub length-byte_bits : (bs : List ℕ) → length (byte_bits bs) ≡ 8 * length bs
unfolding byte_bits
length-byte_bits [] = refl
length-byte_bits (b ∷ bs) =
    length-append (bits_of 8 b) (byte_bits bs) ∙ omega (arith, length-bits_of 8 b, length-byte_bits bs)

pub bits-byte_bits : (bs : List ℕ) → Bits (byte_bits bs)
unfolding byte_bits
bits-byte_bits [] = tt
bits-byte_bits (b ∷ bs) = bits-append (bits_of 8 b) (byte_bits bs) (bits-bits_of 8 b) (bits-byte_bits bs)

pub byte_bits-append : (xs ys : List ℕ) → byte_bits (xs ++ ys) ≡ byte_bits xs ++ byte_bits ys
unfolding byte_bits
byte_bits-append [] ys = refl
byte_bits-append (x ∷ xs) ys = ap (λ l. bits_of 8 x ++ l) (byte_bits-append xs ys) ∙ sym (append_assoc (bits_of 8 x) (byte_bits xs) (byte_bits ys))

-- bit r of byte q
pub get_or-byte_bits : (bs : List ℕ) (q r : ℕ) → r < 8 → q < length bs → get_or (byte_bits bs) (8 * q + r) 0 ≡ get_or (bits_of 8 (get_or bs q 0)) r 0
unfolding byte_bits
get_or-byte_bits [] q r h l = absurd (omega arith)
get_or-byte_bits (b ∷ bs) zero r h l =
    ap (λ i. get_or (bits_of 8 b ++ byte_bits bs) i 0) (zero-add r)
    ∙ get_or_append_left (bits_of 8 b) (byte_bits bs) 0 r (omega (arith, length-bits_of 8 b))
get_or-byte_bits (b ∷ bs) (suc q) r h l =
    get_or-append_right (bits_of 8 b) (byte_bits bs) 8 (8 * suc q + r) 0 (length-bits_of 8 b) (omega arith)
    ∙ ap (λ i. get_or (byte_bits bs) i 0) (omega arith)
    ∙ get_or-byte_bits bs q r h (omega arith)

zero_bit : (k : ℕ) → get_or (bits_of 8 0) k 0 ≡ 0
unfolding bits_of
zero_bit zero = refl
zero_bit (suc zero) = refl
zero_bit (suc (suc zero)) = refl
zero_bit (suc (suc (suc zero))) = refl
zero_bit (suc (suc (suc (suc zero)))) = refl
zero_bit (suc (suc (suc (suc (suc zero))))) = refl
zero_bit (suc (suc (suc (suc (suc (suc zero)))))) = refl
zero_bit (suc (suc (suc (suc (suc (suc (suc zero))))))) = refl
zero_bit (suc (suc (suc (suc (suc (suc (suc (suc k)))))))) = refl

-- bit i is bit i of all the bits
pub bit_at_is : (bs : List ℕ) (i : ℕ) → bit_at bs i ≡ get_or (byte_bits bs) i 0
bit_at_is bs i =
    ⊎_elim
    (λ l. sym (get_or-byte_bits bs (i / 8) (i % 8) (omega arith) l) ∙ ap (λ k. get_or (byte_bits bs) k 0) (omega arith))
    (λ l. ap (λ b. get_or (bits_of 8 b) (i % 8) 0) (get_or_past bs (i / 8) 0 l)
    ∙ zero_bit (i % 8)
    ∙ sym (get_or_past (byte_bits bs) i 0 (omega (arith, length-byte_bits bs))))
    (cases_lt (i / 8) (length bs))

-- ---- groups of bits

pub length-numbers_of : (w n : ℕ) (bs : List ℕ) → length (numbers_of w n bs) ≡ n
unfolding numbers_of
length-numbers_of w zero bs = refl
length-numbers_of w (suc n) bs = ap suc (length-numbers_of w n (drop w bs))

-- the first group of w bits, and the others
pub numbers_of_cons : (w n : ℕ) (g bs : List ℕ) → length g ≡ w → numbers_of w (suc n) (g ++ bs) ≡ number_of g ∷ numbers_of w n bs
unfolding numbers_of
numbers_of_cons w n g bs e =
    let a = take_at g bs w e in
    let b = drop_at g bs w e in
    cc

-- one group more
pub numbers_of_more : (w n : ℕ) (bs : List ℕ) → numbers_of w (suc n) bs ≡ numbers_of w n bs ++ number_of (take w (drop (w * n) bs)) ∷ []
unfolding numbers_of
numbers_of_more w zero bs = ap (λ j. number_of (take w (drop j bs)) ∷ []) (sym (mul-zero w))
numbers_of_more w (suc n) bs =
    ap (λ l. number_of (take w bs) ∷ l)
    (numbers_of_more w n (drop w bs)
    ∙ ap (λ l. numbers_of w n (drop w bs) ++ number_of (take w l) ∷ []) (drop-drop (w * n) w bs ∙ ap (λ j. drop j bs) (omega (arith, mul-suc w n))))

-- the bits of whole groups of eight
pub byte_bits_numbers : (n : ℕ) (bs : List ℕ) → 8 * n ≤ length bs → Bits bs → byte_bits (numbers_of 8 n bs) ≡ take (8 * n) bs
unfolding byte_bits numbers_of
byte_bits_numbers zero bs h p = refl
byte_bits_numbers (suc n) bs h p =
    let group : length (take 8 bs) ≡ 8 = length-take-le 8 bs (omega arith) in
    let eight : 8 * suc n ≡ 8 + 8 * n = omega arith in
    ap (λ l. l ++ byte_bits (numbers_of 8 n (drop 8 bs))) (bits_number 8 (take 8 bs) group (bits-take 8 bs p))
    ∙ ap (λ l. take 8 bs ++ l) (byte_bits_numbers n (drop 8 bs) (omega (arith, length-drop 8 bs)) (bits-drop 8 bs p))
    ∙ sym (take-add 8 (8 * n) bs)
    ∙ ap (λ k. take k bs) (sym eight)

pub numbers_of_none : (w : ℕ) (bs : List ℕ) → numbers_of w 0 bs ≡ []
unfolding numbers_of
numbers_of_none w bs = refl

pub numbers_of-byte_bits : (bs : List ℕ) → Bytes bs → numbers_of 8 (length bs) (byte_bits bs) ≡ bs
unfolding byte_bits
numbers_of-byte_bits [] h = numbers_of_none 8 []
numbers_of-byte_bits (b ∷ bs) h =
    numbers_of_cons 8 (length bs) (bits_of 8 b) (byte_bits bs) (length-bits_of 8 b)
    ∙ ap (λ x. x ∷ numbers_of 8 (length bs) (byte_bits bs)) (number_bits 8 b h.0)
    ∙ ap (λ l. b ∷ l) (numbers_of-byte_bits bs h.1)

-- ---- one bit

pub bit_test : (x : ℕ) → x < 2 → cond (eqb x 1) 1 0 ≡ x
bit_test zero h = refl
bit_test (suc zero) h = refl
bit_test (suc (suc x)) h = absurd (omega arith)

-- one place up in k + 1 bits
pub bits_of_twice : (k n : ℕ) → bits_of (suc k) (n * 2 % 2 ^ suc k) ≡ bits_of k n ++ 0 ∷ []
unfolding bits_of
bits_of_twice k n =
    bits_of_mod (suc k) (n * 2)
    ∙ ap (λ w. bits_of w (n * 2)) (sym (add-one k))
    ∙ ap (bits_of (k + 1)) (omega arith)
    ∙ bits_of_cat k 1 n 0 (omega arith)
