-- Numbers as bits. A bit is the number 0 or 1, a list of bits stands highest first, and bits add modulo 2.
use Rattle.std.specs.Prelude.{ℕ, zero, suc, ◌+◌, ◌*◌, ◌/◌, ◌%◌, ◌^◌, ◌<◌, List, [], ◌∷◌, ◌++◌, take, drop, slice_index}

infixl 20 ◌⊕◌
-- the sum of two bits
abbrev pub ◌⊕◌ : ℕ → ℕ → ℕ
a ⊕ b = (a + b) % 2

-- every entry is a bit
abbrev pub Bits : List ℕ → Type 0
Bits [] = Unit {0}
Bits (b ∷ bs) = (b < 2) × Bits bs

-- the k lowest bits of n
unfoldable pub bits_of : ℕ → ℕ → List ℕ
bits_of zero n = []
bits_of (suc k) n = n / 2 ^ k % 2 ∷ bits_of k n

unfoldable pub number_from : ℕ → List ℕ → ℕ
number_from a [] = a
number_from a (b ∷ bs) = number_from (a * 2 + b) bs

-- the number that bits say
abbrev pub number_of : List ℕ → ℕ
number_of bs = number_from 0 bs

-- the bits of a string of bytes
unfoldable pub byte_bits : List ℕ → List ℕ
byte_bits [] = []
byte_bits (b ∷ bs) = bits_of 8 b ++ byte_bits bs

-- bit i of a string of bytes: bit i mod 8 of byte i / 8, and 0 past the end
abbrev pub bit_at : List ℕ → ℕ → ℕ
bit_at bytes i = slice_index (bits_of 8 (slice_index bytes (i / 8))) (i % 8)

-- bits in groups of width w, as n numbers
unfoldable pub numbers_of : ℕ → ℕ → List ℕ → List ℕ
numbers_of w zero bs = []
numbers_of w (suc n) bs = number_of (take w bs) ∷ numbers_of w n (drop w bs)

-- the first list with the second added to its front, bit by bit
unfoldable pub plus : List ℕ → List ℕ → List ℕ
plus [] ys = []
plus (x ∷ xs) [] = x ∷ xs
plus (x ∷ xs) (y ∷ ys) = (x ⊕ y) ∷ plus xs ys
