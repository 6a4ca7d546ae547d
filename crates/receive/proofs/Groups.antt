-- Bytes cut into groups of three, each a number of 24 bits.
use Rattle.std.proofs.Common.{◌≡◌, ℕ, zero, suc, ◌+◌, ◌*◌, ◌<◌, ◌≤◌, List, [], ◌∷◌, ◌++◌, length, get_or, take, drop, sym, refl, ap, ◌∙◌, append-nil, add_comm, suc-add, mul-zero, mul-suc, arith}
use Rattle.std.proofs.lemmas.List.{take_all, take-take, drop_all, drop-take, drop-drop, drop_at, drop_more}
use Rattle.bits.specs.Bits.{bits_of, number_from, number_of, byte_bits, numbers_of}
use Rattle.bits.proofs.Numbers.{length-bits_of, number_from-append, number_of-bits_of}

-- a group by its place
pub get_or-numbers_of : (w n k : ℕ) (bs : List ℕ) → k < n → get_or (numbers_of w n bs) k 0 ≡ number_of (take w (drop (w * k) bs))
unfolding numbers_of
get_or-numbers_of w zero k bs h = absurd (omega arith)
get_or-numbers_of w (suc n) zero bs h = ap (λ j. number_of (take w (drop j bs))) (sym (mul-zero w))
get_or-numbers_of w (suc n) (suc k) bs h =
    get_or-numbers_of w n k (drop w bs) (omega arith)
    ∙ ap (λ l. number_of (take w l)) (drop-drop (w * k) w bs)
    ∙ ap (λ j. number_of (take w (drop j bs))) (sym (mul-suc w k ∙ add_comm (w * k) w))

-- the groups lie in the front of the list
pub numbers_of_front : (w n : ℕ) (bs : List ℕ) → numbers_of w n (take (w * n) bs) ≡ numbers_of w n bs
unfolding numbers_of
numbers_of_front w zero bs = refl
numbers_of_front w (suc n) bs =
    let e : w * suc n ≡ w + w * n = mul-suc w n ∙ add_comm (w * n) w in
    ap (λ m. number_of (take w (take m bs)) ∷ numbers_of w n (drop w (take m bs))) e
    ∙ ap (λ l. number_of l ∷ numbers_of w n (drop w (take (w + w * n) bs))) (take-take w (w + w * n) bs (omega arith))
    ∙ ap (λ l. number_of (take w bs) ∷ numbers_of w n l) (drop-take w (w * n) bs)
    ∙ ap (λ l. number_of (take w bs) ∷ l) (numbers_of_front w n (drop w bs))

take_beyond : (xs ys : List ℕ) (n m : ℕ) → length xs ≡ n → take (n + m) (xs ++ ys) ≡ xs ++ take m ys
take_beyond [] ys n m e = ap (λ k. take (k + m) ys) (sym e) ∙ ap (λ k. take k ys) (omega arith)
take_beyond (x ∷ xs) ys zero m e = absurd (omega arith)
take_beyond (x ∷ xs) ys (suc n) m e =
    ap (λ k. take k (x ∷ xs ++ ys)) (suc-add n m) ∙ ap (λ l. x ∷ l) (take_beyond xs ys n m (omega arith))

-- bytes in front, and the rest of them
pub take-byte_bits : (n : ℕ) (bytes : List ℕ) → take (8 * n) (byte_bits bytes) ≡ byte_bits (take n bytes)
unfolding byte_bits
take-byte_bits zero bytes = refl
take-byte_bits (suc n) [] = take_all (8 * suc n) [] (omega arith)
take-byte_bits (suc n) (b ∷ bytes) =
    ap (λ m. take m (bits_of 8 b ++ byte_bits bytes)) (omega arith)
    ∙ take_beyond (bits_of 8 b) (byte_bits bytes) 8 (8 * n) (length-bits_of 8 b)
    ∙ ap (λ l. bits_of 8 b ++ l) (take-byte_bits n bytes)

pub drop-byte_bits : (n : ℕ) (bytes : List ℕ) → drop (8 * n) (byte_bits bytes) ≡ byte_bits (drop n bytes)
unfolding byte_bits
drop-byte_bits zero bytes = refl
drop-byte_bits (suc n) [] = drop_all (8 * suc n) [] (omega arith)
drop-byte_bits (suc n) (b ∷ bytes) =
    ap (λ m. drop m (bits_of 8 b ++ byte_bits bytes)) (omega arith)
    ∙ sym (drop-drop (8 * n) 8 (bits_of 8 b ++ byte_bits bytes))
    ∙ ap (drop (8 * n)) (drop_at (bits_of 8 b) (byte_bits bytes) 8 (length-bits_of 8 b))
    ∙ drop-byte_bits n bytes

three_of : (bs : List ℕ) (j : ℕ) → j + 3 ≤ length bs → take 3 (drop j bs) ≡ get_or bs j 0 ∷ get_or bs (j + 1) 0 ∷ get_or bs (j + 2) 0 ∷ []
three_of bs j h =
    ap (take 3) (drop_more bs j 0 (omega arith))
    ∙ ap (λ l. take 3 (get_or bs j 0 ∷ l)) (drop_more bs (j + 1) 0 (omega arith))
    ∙ ap (λ m. take 3 (get_or bs j 0 ∷ get_or bs (j + 1) 0 ∷ drop m bs)) (omega arith)
    ∙ ap (λ l. take 3 (get_or bs j 0 ∷ get_or bs (j + 1) 0 ∷ l)) (drop_more bs (j + 2) 0 (omega arith))

number_of_three : (a b c : ℕ) → a < 256 → b < 256 → c < 256 → number_of (byte_bits (a ∷ b ∷ c ∷ [])) ≡ a * 65536 + b * 256 + c
unfolding byte_bits
number_of_three a b c ha hb hc =
    ap (λ l. number_of (bits_of 8 a ++ (bits_of 8 b ++ l))) (append-nil (bits_of 8 c))
    ∙ number_from-append (bits_of 8 a) (bits_of 8 b ++ bits_of 8 c) 0
    ∙ number_from-append (bits_of 8 b) (bits_of 8 c) (number_of (bits_of 8 a))
    ∙ number_of-bits_of 8 c (number_from (number_of (bits_of 8 a)) (bits_of 8 b))
    ∙ omega (arith, number_of-bits_of 8 b (number_of (bits_of 8 a)), number_of-bits_of 8 a 0)

-- group k of three bytes each
pub three_byte_word : (n k : ℕ) (bytes : List ℕ) → k < n → 3 * n ≤ length bytes → ((i : ℕ) → get_or bytes i 0 < 256)
    → get_or (numbers_of 24 n (take (24 * n) (byte_bits bytes))) k 0 ≡ get_or bytes (3 * k) 0 * 65536 + get_or bytes (3 * k + 1) 0 * 256 + get_or bytes (3 * k + 2) 0
three_byte_word n k bytes h fits small =
    ap (λ l. get_or l k 0) (numbers_of_front 24 n (byte_bits bytes))
    ∙ get_or-numbers_of 24 n k (byte_bits bytes) h
    ∙ ap (λ m. number_of (take 24 (drop m (byte_bits bytes)))) (omega arith)
    ∙ ap (λ l. number_of (take 24 l)) (drop-byte_bits (3 * k) bytes)
    ∙ ap number_of (take-byte_bits 3 (drop (3 * k) bytes))
    ∙ ap (λ l. number_of (byte_bits l)) (three_of bytes (3 * k) (omega arith))
    ∙ number_of_three (get_or bytes (3 * k) 0) (get_or bytes (3 * k + 1) 0) (get_or bytes (3 * k + 2) 0) (small (3 * k)) (small (3 * k + 1)) (small (3 * k + 2))
