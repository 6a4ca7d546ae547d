-- Whitening: a fixed run of bits that is added to data, so that long runs of equal symbols do not go on the air.
use Rattle.std.specs.Prelude.{◌≡◌, ℕ, zero, suc, ◌+◌, ◌*◌, ◌<◌, List, [], ◌∷◌, ◌++◌, length, take, slice_index, slice_index_or}
use Rattle.bits.specs.Bits.{◌⊕◌, byte_bits, numbers_of, plus}

-- w0 to w8
abbrev pub first_nine : List ℕ
first_nine = 1 ∷ 0 ∷ 0 ∷ 1 ∷ 0 ∷ 0 ∷ 1 ∷ 1 ∷ 1 ∷ []

-- nine bits in a row, one further on
unfoldable pub onward : List ℕ → List ℕ
onward [] = []
onward (w ∷ ws) = ws ++ (w ⊕ slice_index_or ws 3 0) ∷ []

-- k further on
unfoldable pub further : ℕ → List ℕ → List ℕ
further zero nine = nine
further (suc k) nine = further k (onward nine)

-- the first of nine in a row
abbrev pub leading_bit : List ℕ → ℕ
leading_bit ws = slice_index ws 0

-- n bits from nine in a row on
unfoldable pub whites : ℕ → List ℕ → List ℕ
whites zero nine = []
whites (suc n) nine = leading_bit nine ∷ whites n (onward nine)

abbrev pub whitening : ℕ → List ℕ
whitening n = whites n first_nine

-- the rule that makes the run: its first bits, and each later bit the sum of those nine and five before it
pub record Recurs (ws : List ℕ) : Type 0 where
  pub starts : take 9 ws ≡ take (length ws) first_nine
  pub goes_on : (n : ℕ) → n + 9 < length ws → slice_index ws (n + 9) ≡ slice_index_or ws n 0 ⊕ slice_index_or ws (n + 4) 0

-- bytes with the whitening added from its start
abbrev pub whitened : List ℕ → List ℕ
whitened bytes = numbers_of 8 (length bytes) (plus (byte_bits bytes) (whitening (8 * length bytes)))
