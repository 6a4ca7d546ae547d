-- The extended Golay code (24,12,8). A codeword is twelve data bits, the remainder that they leave eleven places up when
-- they are divided by the polynomial with the powers 11, 10, 6, 5, 4, 2 and 0, and one bit that makes the number of ones even.
use Rattle.std.specs.Prelude.{ℕ, ◌+◌, ◌*◌, ◌%◌, ◌<◌, ◌≤◌, cond, List, [], ◌∷◌, ◌++◌, Ok, Err, Result, ◌≢◌, bit_xor, count_ones, nat_le}
use Rattle.bits.specs.Bits.{bits_of, number_of}
use Rattle.bits.specs.Division.{remainder}
use Rattle.fault.specs.declared.Fault.{Fault}
use Rattle.fault.specs.declared.Fault.TheVariants.{TooWide}

-- the coefficients below x^11
abbrev pub generator : List ℕ
generator = 1 ∷ 0 ∷ 0 ∷ 0 ∷ 1 ∷ 1 ∷ 1 ∷ 0 ∷ 1 ∷ 0 ∷ 1 ∷ []

-- the same as a number, at the top of sixteen bits
abbrev pub aligned : ℕ
aligned = 0x475 * 32

unfoldable pub total : List ℕ → ℕ
total [] = 0
total (b ∷ bs) = b + total bs

-- bits, and one more that makes their sum even
abbrev pub with_parity : List ℕ → List ℕ
with_parity bs = bs ++ total bs % 2 ∷ []

abbrev pub golay : List ℕ → List ℕ
golay bs = with_parity (bs ++ remainder generator bs)

-- the codeword of twelve data bits
unfoldable pub code_of : ℕ → ℕ
code_of d = number_of (golay (bits_of 12 d))

-- its twelve check bits: the remainder and the parity bit
abbrev pub check_of : ℕ → ℕ
check_of d = code_of d % 4096

-- in how many bits two words differ
abbrev pub distance : ℕ → ℕ → ℕ
distance a b = count_ones (bit_xor a b)

-- two codewords of different data differ in at least eight bits
abbrev pub Apart : Type 0
Apart = (a b : ℕ) → a < 4096 → b < 4096 → (a ≢ b) → 8 ≤ distance (code_of a) (code_of b)

abbrev pub golay_write : ℕ → Result ℕ Fault
golay_write d = cond (nat_le 4096 d) (Err TooWide) (Ok (code_of d))
