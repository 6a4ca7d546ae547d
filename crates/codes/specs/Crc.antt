-- The checksum of a string of bytes: the remainder by x^16 + x^12 + x^5 + 1 of its bits, highest first, all sixteen inverted.
use Rattle.std.specs.Prelude.{ℕ, List, [], ◌∷◌}
use Rattle.bits.specs.Bits.{◌⊕◌, number_of, byte_bits}
use Rattle.bits.specs.Division.{remainder}

-- the coefficients below x^16
abbrev pub crc_generator : List ℕ
crc_generator = 0 ∷ 0 ∷ 0 ∷ 1 ∷ 0 ∷ 0 ∷ 0 ∷ 0 ∷ 0 ∷ 0 ∷ 1 ∷ 0 ∷ 0 ∷ 0 ∷ 0 ∷ 1 ∷ []

unfoldable pub all_inverted : List ℕ → List ℕ
all_inverted [] = []
all_inverted (b ∷ bs) = (b ⊕ 1) ∷ all_inverted bs

-- the sixteen check bits of a list of bits
abbrev pub check_bits : List ℕ → List ℕ
check_bits bs = all_inverted (remainder crc_generator bs)

abbrev pub crc : List ℕ → ℕ
crc bytes = number_of (check_bits (byte_bits bytes))
