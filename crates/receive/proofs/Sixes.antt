-- Six bytes and four groups of twelve bits.
use Rattle.std.proofs.Common.{◌≡◌, ℕ, ◌+◌, ◌*◌, ◌/◌, ◌%◌, ◌^◌, eqb, List, [], ◌∷◌, ◌++◌, length, get_or, take, sym, ap, ◌∙◌, append_assoc, append-nil, arith}
use Rattle.bits.specs.Bits.{bits_of, byte_bits, numbers_of}
use Rattle.bits.proofs.Numbers.{Bytes, bits_of_mod, byte_bits-append, numbers_of-byte_bits}
use Rattle.codes.specs.Crc.{crc}
use Rattle.frame.proofs.Words.{twelves, listed_is}
use Rattle.receive.specs.Words.{six_bytes}

-- three bytes from two groups of twelve bits
pub three_are : (a b n high middle low : ℕ) → n ≡ a % 4096 * 4096 + b % 4096 → high ≡ n / 65536 % 256 → middle ≡ n / 256 % 256 → low ≡ n % 256
    → byte_bits (high ∷ middle ∷ low ∷ []) ≡ bits_of 12 a ++ bits_of 12 b
unfolding byte_bits
three_are a b n high middle low e h m l =
    let first : high * 16 + middle / 16 ≡ a % 2 ^ 12 = omega arith in
    let second : middle % 16 * 256 + low ≡ b % 2 ^ 12 = omega arith in
    ap (λ bs. bits_of 8 high ++ (bits_of 8 middle ++ bs)) (append-nil (bits_of 8 low))
    ∙ twelves high middle low (omega arith) (omega arith)
    ∙ ap (λ k. bits_of 12 k ++ bits_of 12 (middle % 16 * 256 + low)) first
    ∙ ap (λ k. bits_of 12 (a % 2 ^ 12) ++ bits_of 12 k) second
    ∙ ap (λ bs. bs ++ bits_of 12 (b % 2 ^ 12)) (bits_of_mod 12 a)
    ∙ ap (λ bs. bits_of 12 a ++ bs) (bits_of_mod 12 b)

-- six bytes from four groups
pub six_are : (a b c d p q r s t u : ℕ) → Bytes (p ∷ q ∷ r ∷ s ∷ t ∷ u ∷ []) → byte_bits (p ∷ q ∷ r ∷ []) ≡ bits_of 12 a ++ bits_of 12 b
    → byte_bits (s ∷ t ∷ u ∷ []) ≡ bits_of 12 c ++ bits_of 12 d → p ∷ q ∷ r ∷ s ∷ t ∷ u ∷ [] ≡ six_bytes (a ∷ b ∷ c ∷ d ∷ [])
six_are a b c d p q r s t u h x y =
    let all : byte_bits (p ∷ q ∷ r ∷ s ∷ t ∷ u ∷ []) ≡ (bits_of 12 a ++ bits_of 12 b) ++ (bits_of 12 c ++ bits_of 12 d) =
    byte_bits-append (p ∷ q ∷ r ∷ []) (s ∷ t ∷ u ∷ [])
    ∙ ap (λ l. l ++ byte_bits (s ∷ t ∷ u ∷ [])) x
    ∙ ap (λ l. (bits_of 12 a ++ bits_of 12 b) ++ l) y in
    let flat : (bits_of 12 a ++ bits_of 12 b) ++ (bits_of 12 c ++ bits_of 12 d) ≡ bits_of 12 a ++ (bits_of 12 b ++ (bits_of 12 c ++ (bits_of 12 d ++ []))) =
    simp (append_assoc, append-nil) in
    sym (numbers_of-byte_bits (p ∷ q ∷ r ∷ s ∷ t ∷ u ∷ []) h) ∙ ap (numbers_of 8 6) (all ∙ flat)
