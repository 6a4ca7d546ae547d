-- The Golay words of a FICH, as bytes.
use Rattle.std.proofs.Common.{◌≡◌, ℕ, zero, suc, ◌+◌, ◌*◌, ◌/◌, ◌%◌, ◌^◌, ◌<◌, List, [], ◌∷◌, ◌++◌, map, length, get_or, take, drop, sym, refl, ap, ◌∙◌, append_assoc, append-nil, suc-add, zero-add, arith, length-append, length-drop, take_all}
use lib.Seq.{take-append-le, drop-append-le}
use borrow.Rule.Slice.PartMut.{put_mid}
use Rattle.std.specs.List.{range_with_len}
use Rattle.std.proofs.lemmas.List.FromFn.{fill_by_all}
use Rattle.std.proofs.lemmas.List.{nil_from_length}
use Rattle.bits.specs.Bits.{Bits, bits_of, number_of, byte_bits}
use Rattle.bits.specs.Division.{remainder}
use Rattle.bits.proofs.Numbers.{length-bits_of, bits-bits_of, bits_of_cat, bits_of_mod, bits_number, number_below, byte_bits-append, bits-byte_bits}
use Rattle.bits.proofs.Divides.{length-remainder}
use Rattle.codes.specs.Crc.{crc, crc_generator, check_bits}
use Rattle.codes.proofs.Checks.{length-all_inverted, bits-all_inverted}
use Rattle.golay.specs.Golay.{golay, code_of}
use Rattle.golay.proofs.Linear.{length-golay, bits-golay}
use Rattle.frame.specs.Header.{golay_words}
use Rattle.frame.proofs.Laying.{joined}

golay_size : (d : ℕ) → length (golay (bits_of 12 d)) ≡ 24
golay_size d = length-golay (bits_of 12 d) (bits-bits_of 12 d) ∙ ap (λ n. n + 12) (length-bits_of 12 d)

pub code-bits : (d : ℕ) → bits_of 24 (code_of d) ≡ golay (bits_of 12 d)
unfolding code_of
code-bits d = bits_number 24 (golay (bits_of 12 d)) (golay_size d) (bits-golay (bits_of 12 d) (bits-bits_of 12 d))

-- a Golay word has 24 bits
pub code_below : (d : ℕ) → code_of d < 2 ^ 24
unfolding code_of
code_below d =
    let h = number_below (golay (bits_of 12 d)) (bits-golay (bits_of 12 d) (bits-bits_of 12 d)) in
    let e : 2 ^ length (golay (bits_of 12 d)) ≡ 2 ^ 24 = ap (λ n. 2 ^ n) (golay_size d) in
    omega arith

-- 24 bits as three bytes
pub three_bytes : (w : ℕ) → byte_bits (w / 65536 % 256 ∷ w / 256 % 256 ∷ w % 256 ∷ []) ≡ bits_of 24 w
unfolding byte_bits
three_bytes w =
    let low : w / 256 % 256 * 2 ^ 8 + w % 256 < 2 ^ 16 = omega arith in
    let whole : w / 65536 * 2 ^ 16 + (w / 256 % 256 * 2 ^ 8 + w % 256) ≡ w = omega arith in
    ap (λ l. l ++ (bits_of 8 (w / 256 % 256) ++ (bits_of 8 (w % 256) ++ []))) (bits_of_mod 8 (w / 65536))
    ∙ ap (λ l. bits_of 8 (w / 65536) ++ (bits_of 8 (w / 256 % 256) ++ l)) (append-nil (bits_of 8 (w % 256)))
    ∙ ap (λ l. bits_of 8 (w / 65536) ++ l) (sym (bits_of_cat 8 8 (w / 256 % 256) (w % 256) (omega arith)))
    ∙ sym (bits_of_cat 8 16 (w / 65536) (w / 256 % 256 * 2 ^ 8 + w % 256) low)
    ∙ ap (bits_of 24) whole

-- three bytes as two groups of twelve bits
pub twelves : (a b c : ℕ) → b < 256 → c < 256 → bits_of 8 a ++ (bits_of 8 b ++ bits_of 8 c) ≡ bits_of 12 (a * 16 + b / 16) ++ bits_of 12 (b % 16 * 256 + c)
twelves a b c hb hc =
    let high = bits_of 4 (b / 16) in
    let low = bits_of 4 (b % 16) in
    let halves : bits_of 8 b ≡ high ++ low = ap (bits_of 8) (omega arith) ∙ bits_of_cat 4 4 (b / 16) (b % 16) (omega arith) in
    ap (λ l. bits_of 8 a ++ (l ++ bits_of 8 c)) halves
    ∙ ap (λ l. bits_of 8 a ++ l) (append_assoc high low (bits_of 8 c))
    ∙ sym (append_assoc (bits_of 8 a) high (low ++ bits_of 8 c))
    ∙ ap (λ l. l ++ (low ++ bits_of 8 c)) (sym (bits_of_cat 8 4 a (b / 16) (omega arith)))
    ∙ ap (λ l. bits_of 12 (a * 16 + b / 16) ++ l) (sym (bits_of_cat 4 8 (b % 16) c hc))

-- words of two runs of bits, one after the other
golay_words-append : (n m : ℕ) (xs ys : List ℕ) → length xs ≡ 12 * n → golay_words (n + m) (xs ++ ys) ≡ golay_words n xs ++ golay_words m ys
unfolding golay_words
golay_words-append zero m xs ys e =
    ap (λ k. golay_words k (xs ++ ys)) (zero-add m) ∙ ap (λ l. golay_words m (l ++ ys)) (nil_from_length xs e)
golay_words-append (suc n) m xs ys e =
    let rest = golay_words-append n m (drop 12 xs) ys (length-drop 12 xs ∙ omega arith) in
    ap (λ k. golay_words k (xs ++ ys)) (suc-add n m)
    ∙ ap (λ l. golay l ++ golay_words (n + m) (drop 12 (xs ++ ys))) (take-append-le 12 xs ys (omega arith))
    ∙ ap (λ l. golay (take 12 xs) ++ golay_words (n + m) l) (drop-append-le 12 xs ys (omega arith))
    ∙ ap (λ l. golay (take 12 xs) ++ l) rest
    ∙ sym (append_assoc (golay (take 12 xs)) (golay_words n (drop 12 xs)) (golay_words m ys))

golay-word_one : (g : List ℕ) → length g ≡ 12 → golay_words 1 g ≡ golay g
unfolding golay_words
golay-word_one g e = ap (λ l. golay l ++ []) (take_all 12 g (omega arith)) ∙ append-nil (golay g)

pub words_of_three : (a b c : ℕ) → b < 256 → c < 256
    → golay (bits_of 12 (a * 16 + b / 16)) ++ golay (bits_of 12 (b % 16 * 256 + c)) ≡ golay_words 2 (bits_of 8 a ++ (bits_of 8 b ++ bits_of 8 c))
words_of_three a b c hb hc =
    let p = a * 16 + b / 16 in
    let q = b % 16 * 256 + c in
    let one = golay-word_one (bits_of 12 p) (length-bits_of 12 p) in
    let two = golay-word_one (bits_of 12 q) (length-bits_of 12 q) in
    sym (ap (golay_words 2) (twelves a b c hb hc)
    ∙ golay_words-append 1 1 (bits_of 12 p) (bits_of 12 q) (length-bits_of 12 p)
    ∙ ap (λ l. l ++ golay_words 1 (bits_of 12 q)) one
    ∙ ap (λ l. golay (bits_of 12 p) ++ l) two)

-- ---- lists that are written out item by item

abbrev pub listed : ℕ → List ℕ → List ℕ
listed n xs = map (λ k. get_or xs k 0) (range_with_len 0 n)

pub listed_is : (n : ℕ) (xs : List ℕ) → length xs ≡ n → listed n xs ≡ xs
listed_is n xs e = sym (fill_by_all (λ k. get_or xs k 0) xs n 0 e (λ k h. refl))

pub two_listed : (n m : ℕ) (xs ys bs cs : List ℕ) → length xs ≡ n → length ys ≡ m → byte_bits xs ≡ bs → byte_bits ys ≡ cs
    → byte_bits (listed n xs ++ listed m ys) ≡ bs ++ cs
two_listed n m xs ys bs cs ex ey eb ec =
    byte_bits-append (listed n xs) (listed m ys)
    ∙ ap (λ l. byte_bits l ++ byte_bits (listed m ys)) (listed_is n xs ex)
    ∙ ap (λ l. byte_bits xs ++ byte_bits l) (listed_is m ys ey)
    ∙ ap (λ l. l ++ byte_bits ys) eb
    ∙ ap (λ l. bs ++ l) ec

-- bits of n bytes that are copied to the front of a list, and of m that are copied to the rest of it
pub joined_bits : (n m : ℕ) (first rest second bs cs : List ℕ) → length first ≡ n → length rest ≡ m → byte_bits first ≡ bs → byte_bits second ≡ cs
    → byte_bits (put_mid n m (first ++ rest) second) ≡ bs ++ cs
joined_bits n m first rest second bs cs front back eb ec =
    ap byte_bits (joined n m first rest second front back)
    ∙ byte_bits-append first second
    ∙ ap (λ l. l ++ byte_bits second) eb
    ∙ ap (λ l. bs ++ l) ec

-- ---- the FICH and its checksum

pub check_bits_size : (bs : List ℕ) → Bits bs → (length (check_bits bs) ≡ 16) × Bits (check_bits bs)
check_bits_size bs h = (
  length-all_inverted (remainder crc_generator bs) ∙ length-remainder crc_generator bs (omega arith) h,
  bits-all_inverted (remainder crc_generator bs),
)

-- the checksum as two bytes
pub check_bytes : (bs : List ℕ) (n : ℕ) → Bits bs → n ≡ number_of (check_bits bs) → bits_of 8 (n / 256) ++ bits_of 8 (n % 256) ≡ check_bits bs
check_bytes bs n h e =
    sym (bits_of_cat 8 8 (n / 256) (n % 256) (omega arith))
    ∙ ap (bits_of 16) (omega arith)
    ∙ ap (bits_of 16) e
    ∙ bits_number 16 (check_bits bs) (check_bits_size bs h).0 (check_bits_size bs h).1

three_size : (a b c : ℕ) → length (bits_of 8 a ++ (bits_of 8 b ++ bits_of 8 c)) ≡ 24
three_size a b c =
    length-append (bits_of 8 a) (bits_of 8 b ++ bits_of 8 c)
    ∙ omega (arith, length-append (bits_of 8 b) (bits_of 8 c), length-bits_of 8 a, length-bits_of 8 b, length-bits_of 8 c)

regrouped : (a b c d e : List ℕ) → (a ++ (b ++ c)) ++ (d ++ e) ≡ (a ++ (b ++ (c ++ (d ++ [])))) ++ e
regrouped a b c d e = simp (append_assoc, append-nil)

-- the six bytes of FICH and checksum as four words
pub words_of_six : (bytes bits : List ℕ) (n : ℕ) → length bytes ≡ 4 → byte_bits bytes ≡ bits → n ≡ crc bytes
    → golay_words 2 (bits_of 8 (get_or bytes 0 0) ++ (bits_of 8 (get_or bytes 1 0) ++ bits_of 8 (get_or bytes 2 0)))
    ++ golay_words 2 (bits_of 8 (get_or bytes 3 0) ++ (bits_of 8 (n / 256) ++ bits_of 8 (n % 256)))
    ≡ golay_words 4 (bits ++ check_bits bits)
unfolding byte_bits
words_of_six bytes bits n four e crc-is =
    let a = bits_of 8 (get_or bytes 0 0) in
    let b = bits_of 8 (get_or bytes 1 0) in
    let c = bits_of 8 (get_or bytes 2 0) in
    let d = bits_of 8 (get_or bytes 3 0) in
    let check = bits_of 8 (n / 256) ++ bits_of 8 (n % 256) in
    let whole : bits ≡ a ++ (b ++ (c ++ (d ++ []))) = sym e ∙ ap byte_bits (sym (listed_is 4 bytes four)) in
    let checked : check ≡ check_bits bits =
    check_bytes (byte_bits bytes) n (bits-byte_bits bytes) crc-is ∙ ap check_bits e in
    let joined : (a ++ (b ++ c)) ++ (d ++ check) ≡ bits ++ check_bits bits =
    regrouped a b c d check ∙ ap (λ l. l ++ check) (sym whole) ∙ ap (λ l. bits ++ l) checked in
    sym (golay_words-append 2 2 (a ++ (b ++ c)) (d ++ check) (three_size (get_or bytes 0 0) (get_or bytes 1 0) (get_or bytes 2 0)))
    ∙ ap (golay_words 4) joined
