-- The checksum by its register.
use Rattle.std.proofs.Common.{◌≡◌, ℕ, suc, ◌+◌, ◌<◌, List, [], ◌∷◌, ◌++◌, length, get_or, drop, replicate, sym, refl, ap, ◌∙◌, mod-lt, arith}
use lib.Bits.{bit_xor, xor_lt}
use Rattle.std.proofs.lemmas.List.{at_drop_more}
use Rattle.bits.specs.Bits.{◌⊕◌, Bits, bits_of, number_of, byte_bits, plus}
use Rattle.bits.specs.Division.{remainder, shifted, fed}
use Rattle.bits.proofs.Numbers.{length-bits_of, bits-byte_bits, number_bits}
use Rattle.bits.proofs.Sums.{bits_of_xor}
use Rattle.bits.proofs.Divides.{remainder-fed}
use Rattle.codes.specs.Crc.{crc_generator, all_inverted}

pub fed-append : (g register xs ys : List ℕ) → fed g register (xs ++ ys) ≡ fed g (fed g register xs) ys
unfolding fed
fed-append g register [] ys = refl
fed-append g register (x ∷ xs) ys = fed-append g (shifted g register x) xs ys

pub generator-bits : bits_of 16 4129 ≡ crc_generator
unfolding bits_of
generator-bits = refl

-- one byte more
pub fed_byte : (g s s' all bytes : List ℕ) (i : ℕ) → i < length bytes → s' ≡ fed g s (bits_of 8 (get_or bytes i 0))
    → fed g s (byte_bits (drop i bytes)) ≡ all → fed g s' (byte_bits (drop (i + 1) bytes)) ≡ all
unfolding byte_bits
fed_byte g s s' all bytes i h e inv =
    let rest = byte_bits (drop (i + 1) bytes) in
    let b = bits_of 8 (get_or bytes i 0) in
    ap (λ t. fed g t rest) e ∙ sym (fed-append g s b rest) ∙ sym (at_drop_more (λ l. fed g s (byte_bits l)) bytes i 0 h) ∙ inv

pub length-all_inverted : (bs : List ℕ) → length (all_inverted bs) ≡ length bs
unfolding all_inverted
length-all_inverted [] = refl
length-all_inverted (b ∷ bs) = ap suc (length-all_inverted bs)

pub bits-all_inverted : (bs : List ℕ) → Bits (all_inverted bs)
unfolding all_inverted
bits-all_inverted [] = tt
bits-all_inverted (b ∷ bs) = (mod-lt (b + 1) (omega arith), bits-all_inverted bs)

plus_ones : (bs : List ℕ) → plus bs (replicate (length bs) 1) ≡ all_inverted bs
unfolding plus all_inverted
plus_ones [] = refl
plus_ones (b ∷ bs) = ap (λ l. (b ⊕ 1) ∷ l) (plus_ones bs)

ones_bits : bits_of 16 65535 ≡ replicate 16 1
unfolding bits_of
ones_bits = refl

zero_bits : bits_of 16 0 ≡ replicate 16 0
unfolding bits_of
zero_bits = refl

pub inverted_number : (n : ℕ) → n < 65536 → bit_xor n 65535 ≡ number_of (all_inverted (bits_of 16 n))
inverted_number n h =
    let bs = bits_of 16 n in
    sym (number_bits 16 (bit_xor n 65535) (xor_lt 16 n 65535 h (omega arith)))
    ∙ ap number_of (bits_of_xor 16 n 65535 ∙ ap (plus bs) (ones_bits ∙ ap (λ k. replicate k 1) (sym (length-bits_of 16 n))) ∙ plus_ones bs)

pub crc-start : (bytes : List ℕ) → fed crc_generator (bits_of 16 0) (byte_bits bytes) ≡ remainder crc_generator (byte_bits bytes)
crc-start bytes =
    ap (λ s. fed crc_generator s (byte_bits bytes)) zero_bits
    ∙ sym (remainder-fed crc_generator (byte_bits bytes) (omega arith) (bits-byte_bits bytes))
