-- The whitening by its register of nine bits: the rule that it follows, and a byte at a time.
use Rattle.std.proofs.Common.{◌≡◌, ℕ, zero, suc, ◌+◌, ◌*◌, ◌/◌, ◌%◌, ◌^◌, ◌<◌, ◌≤◌, List, [], ◌∷◌, ◌++◌, length, get_or, take, drop, set, sym, refl, ap, ◌∙◌, suc-add, zero-add, arith, length-append, take_all, drop-set-lt}
use lib.Bits.{bit_xor, xor_lt}
use lib.Seq.{take-nil}
use Rattle.std.proofs.lemmas.List.{drop_more, at_drop_all, take_more_set, append_assoc, append-nil}
use Rattle.bits.specs.Bits.{◌⊕◌, bits_of, byte_bits, numbers_of, plus}
use Rattle.bits.proofs.Numbers.{length-bits_of, bits_of_mod, bits_of_cat, number_bits, numbers_of_cons, numbers_of_none}
use Rattle.bits.proofs.Sums.{plus-append, bits_of_xor}
use Rattle.codes.specs.Whitening.{first_nine, onward, leading_bit, further, whites, whitening, whitened, Recurs}

further_add : (j k : ℕ) (s : List ℕ) → further (j + k) s ≡ further k (further j s)
unfolding further
further_add zero k s = ap (λ n. further n s) (zero-add k)
further_add (suc j) k s = ap (λ n. further n s) (suc-add j k) ∙ further_add j k (onward s)

length-onward : (s : List ℕ) → length (onward s) ≡ length s
unfolding onward
length-onward [] = refl
length-onward (w ∷ ws) = length-append ws ((w ⊕ get_or ws 3 0) ∷ []) ∙ omega arith

length-further : (k : ℕ) (s : List ℕ) → length (further k s) ≡ length s
unfolding further
length-further zero s = refl
length-further (suc k) s = length-further k (onward s) ∙ length-onward s

pub length-whites : (n : ℕ) (s : List ℕ) → length (whites n s) ≡ n
unfolding whites
length-whites zero s = refl
length-whites (suc n) s = ap suc (length-whites n (onward s))

get_or-whites : (n k : ℕ) (s : List ℕ) → k < n → get_or (whites n s) k 0 ≡ leading_bit (further k s)
unfolding whites further
get_or-whites zero k s h = absurd (omega arith)
get_or-whites (suc n) zero s h = refl
get_or-whites (suc n) (suc k) s h = get_or-whites n k (onward s) (omega arith)

-- nine on from nine bits
ninth : (s : List ℕ) → length s ≡ 9 → leading_bit (further 9 s) ≡ leading_bit s ⊕ leading_bit (further 4 s)
unfolding further onward
ninth [] h = absurd (omega arith)
ninth (a ∷ []) h = absurd (omega arith)
ninth (a ∷ b ∷ []) h = absurd (omega arith)
ninth (a ∷ b ∷ c ∷ []) h = absurd (omega arith)
ninth (a ∷ b ∷ c ∷ d ∷ []) h = absurd (omega arith)
ninth (a ∷ b ∷ c ∷ d ∷ e ∷ []) h = absurd (omega arith)
ninth (a ∷ b ∷ c ∷ d ∷ e ∷ f ∷ []) h = absurd (omega arith)
ninth (a ∷ b ∷ c ∷ d ∷ e ∷ f ∷ g ∷ []) h = absurd (omega arith)
ninth (a ∷ b ∷ c ∷ d ∷ e ∷ f ∷ g ∷ i ∷ []) h = absurd (omega arith)
ninth (a ∷ b ∷ c ∷ d ∷ e ∷ f ∷ g ∷ i ∷ j ∷ []) h = refl
ninth (a ∷ b ∷ c ∷ d ∷ e ∷ f ∷ g ∷ i ∷ j ∷ k ∷ s) h = absurd (omega arith)

starts : (n : ℕ) → take 9 (whitening n) ≡ take (length (whitening n)) first_nine
unfolding whites onward
starts zero = refl
starts (suc zero) = refl
starts (suc (suc zero)) = refl
starts (suc (suc (suc zero))) = refl
starts (suc (suc (suc (suc zero)))) = refl
starts (suc (suc (suc (suc (suc zero))))) = refl
starts (suc (suc (suc (suc (suc (suc zero)))))) = refl
starts (suc (suc (suc (suc (suc (suc (suc zero))))))) = refl
starts (suc (suc (suc (suc (suc (suc (suc (suc zero)))))))) = refl
starts (suc (suc (suc (suc (suc (suc (suc (suc (suc n))))))))) = ap (λ l. 1 ∷ 0 ∷ 0 ∷ 1 ∷ 0 ∷ 0 ∷ 1 ∷ 1 ∷ 1 ∷ l) (sym (take-nil _))

pub recurs : (n : ℕ) → Recurs (whitening n)
recurs n = record {
  starts = starts n;
  goes_on = λ k h.
      let size = length-whites n first_nine in
      let t = further k first_nine in
      get_or-whites n (k + 9) first_nine (omega arith)
      ∙ ap leading_bit (further_add k 9 first_nine)
      ∙ ninth t (length-further k first_nine)
      ∙ ap (λ x. leading_bit t ⊕ leading_bit x) (sym (further_add k 4 first_nine))
      ∙ ap (λ x. leading_bit t ⊕ x) (sym (get_or-whites n (k + 4) first_nine (omega arith)))
      ∙ ap (λ x. x ⊕ get_or (whitening n) (k + 4) 0) (sym (get_or-whites n k first_nine (omega arith)));
}

-- ---- the register as a number

pub one_on_bits : (r : ℕ) → bits_of 9 (r % 256 * 2 + (r / 256 + r / 16) % 2) ≡ onward (bits_of 9 r)
unfolding bits_of onward
one_on_bits r =
    let x = (r / 256 + r / 16) % 2 in
    let e : x ≡ (r / 256 % 2) ⊕ (r / 2 ^ 4 % 2) = omega arith in
    let last : x / 2 ^ 0 % 2 ≡ x = omega arith in
    bits_of_cat 8 1 (r % 256) x (omega arith)
    ∙ ap (λ l. l ++ bits_of 1 x) (bits_of_mod 8 r)
    ∙ ap (λ y. bits_of 8 r ++ y ∷ []) (last ∙ e)

-- the eight bits that the register gives to a byte
front : (n x : ℕ) → whites 8 (bits_of 8 n ++ bits_of 1 x) ≡ bits_of 8 n
unfolding whites onward bits_of
front n x = refl

eight_bits : (r : ℕ) → whites 8 (bits_of 9 r) ≡ bits_of 8 (r / 2)
eight_bits r =
    let e : r ≡ r / 2 * 2 ^ 1 + r % 2 = omega arith in
    ap (λ n. whites 8 (bits_of 9 n)) e ∙ ap (whites 8) (bits_of_cat 8 1 (r / 2) (r % 2) (omega arith)) ∙ front (r / 2) (r % 2)

-- bytes with the whitening added from nine bits on
abbrev pub white_from : List ℕ → List ℕ → List ℕ
white_from s bytes = numbers_of 8 (length bytes) (plus (byte_bits bytes) (whites (8 * length bytes) s))

whites_eight : (n : ℕ) (s : List ℕ) → whites (8 * suc n) s ≡ whites 8 s ++ whites (8 * n) (further 8 s)
unfolding whites further
whites_eight n s = let e : 8 * suc n ≡ suc (suc (suc (suc (suc (suc (suc (suc (8 * n)))))))) = omega arith in ap (λ k. whites k s) e

pub white_from_cons : (r b : ℕ) (bs : List ℕ) → b < 256 → r < 512
    → white_from (bits_of 9 r) (b ∷ bs) ≡ bit_xor b (r / 2) ∷ white_from (further 8 (bits_of 9 r)) bs
unfolding byte_bits
white_from_cons r b bs hb hr =
    let s = bits_of 9 r in
    let n = length bs in
    let sum : plus (bits_of 8 b ++ byte_bits bs) (whites (8 * suc n) s) ≡ bits_of 8 (bit_xor b (r / 2)) ++ plus (byte_bits bs) (whites (8 * n) (further 8 s)) =
    ap (plus (bits_of 8 b ++ byte_bits bs)) (whites_eight n s)
    ∙ plus-append (bits_of 8 b) (byte_bits bs) (whites 8 s) (whites (8 * n) (further 8 s)) (length-bits_of 8 b ∙ sym (length-whites 8 s))
    ∙ ap (λ l. plus (bits_of 8 b) l ++ plus (byte_bits bs) (whites (8 * n) (further 8 s))) (eight_bits r)
    ∙ ap (λ l. l ++ plus (byte_bits bs) (whites (8 * n) (further 8 s))) (sym (bits_of_xor 8 b (r / 2))) in
    ap (numbers_of 8 (suc n)) sum
    ∙ numbers_of_cons 8 n (bits_of 8 (bit_xor b (r / 2))) _ (length-bits_of 8 (bit_xor b (r / 2)))
    ∙ ap (λ x. x ∷ white_from (further 8 s) bs) (number_bits 8 (bit_xor b (r / 2)) (xor_lt 8 b (r / 2) hb (omega arith)))

-- ---- one turn of the loop over the bytes

pub white_start : (bytes : List ℕ) → white_from (bits_of 9 295) bytes ≡ whitened bytes
unfolding bits_of
white_start bytes = refl

pub white_more : (bytes all : List ℕ) (i r r' : ℕ) → i < length bytes → get_or bytes i 0 < 256 → r < 512 → bits_of 9 r' ≡ further 8 (bits_of 9 r)
    → take i bytes ++ white_from (bits_of 9 r) (drop i bytes) ≡ all
    → take (i + 1) (set bytes i (bit_xor (get_or bytes i 0) (r / 2))) ++ white_from (bits_of 9 r') (drop (i + 1) (set bytes i (bit_xor (get_or bytes i 0) (r / 2)))) ≡ all
white_more bytes all i r r' h small hr e inv =
    let b = get_or bytes i 0 in
    let v = bit_xor b (r / 2) in
    let rest = drop (i + 1) bytes in
    let left : white_from (bits_of 9 r) (drop i bytes) ≡ v ∷ white_from (bits_of 9 r') rest =
    ap (white_from (bits_of 9 r)) (drop_more bytes i 0 h) ∙ white_from_cons r b rest small hr ∙ ap (λ s. v ∷ white_from s rest) (sym e) in
    ap (λ l. l ++ white_from (bits_of 9 r') (drop (i + 1) (set bytes i v))) (take_more_set bytes i v h)
    ∙ ap (λ l. (take i bytes ++ v ∷ []) ++ white_from (bits_of 9 r') l) (drop-set-lt (i + 1) bytes i v (omega arith))
    ∙ append_assoc (take i bytes) (v ∷ []) (white_from (bits_of 9 r') rest)
    ∙ ap (λ l. take i bytes ++ l) (sym left)
    ∙ inv

pub white_all : (bytes all s : List ℕ) (i : ℕ) → length bytes ≤ i → take i bytes ++ white_from s (drop i bytes) ≡ all → bytes ≡ all
white_all bytes all s i h inv =
    sym (append-nil bytes)
    ∙ ap (λ l. bytes ++ l) (sym (at_drop_all (white_from s) bytes i h ∙ numbers_of_none 8 _))
    ∙ ap (λ l. l ++ white_from s (drop i bytes)) (sym (take_all i bytes h))
    ∙ inv
