-- Dibits: two bits each, the first the higher.
use Rattle.std.specs.Prelude.{ℕ, ◌+◌, ◌*◌, ◌/◌, ◌%◌, cond, List, [], ◌∷◌, ◌==◌}
use Rattle.bits.specs.declared.Dibit.{Dibit}
use Rattle.bits.specs.declared.Dibit.TheVariants.{D00, D01, D10, D11}

abbrev pub first : Dibit → ℕ
first D00 = 0
first D01 = 0
first D10 = 1
first D11 = 1

abbrev pub second : Dibit → ℕ
second D00 = 0
second D01 = 1
second D10 = 0
second D11 = 1

abbrev pub value_of : Dibit → ℕ
value_of d = 2 * first d + second d

-- the dibit of two bits
abbrev pub dibit : ℕ → ℕ → Dibit
dibit a b = cond (a == 0) (cond (b == 0) D00 D01) (cond (b == 0) D10 D11)

-- the dibit of a number's two lowest bits
abbrev pub dibit_of : ℕ → Dibit
dibit_of n = dibit (n / 2 % 2) (n % 2)

-- dibits as bytes, four in each
unfoldable pub dibit_bytes : List Dibit → List ℕ
dibit_bytes [] = []
dibit_bytes (a ∷ []) = []
dibit_bytes (a ∷ b ∷ []) = []
dibit_bytes (a ∷ b ∷ c ∷ []) = []
dibit_bytes (a ∷ b ∷ c ∷ d ∷ ds) = (64 * value_of a + 16 * value_of b + 4 * value_of c + value_of d) ∷ dibit_bytes ds

-- the dibits of a string of bytes
unfoldable pub dibits_of : List ℕ → List Dibit
dibits_of [] = []
dibits_of (b ∷ bs) = dibit_of (b / 64) ∷ dibit_of (b / 16) ∷ dibit_of (b / 4) ∷ dibit_of b ∷ dibits_of bs

-- byte k of dibits that are given by their places
abbrev pub byte_by : (ℕ → Dibit) → ℕ → ℕ
byte_by f k = 64 * value_of (f (4 * k)) + 16 * value_of (f (4 * k + 1)) + 4 * value_of (f (4 * k + 2)) + value_of (f (4 * k + 3))
