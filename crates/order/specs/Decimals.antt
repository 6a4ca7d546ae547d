-- The number that a text writes in decimal digits.
use Rattle.std.specs.Prelude.{ℕ, ◌+◌, ◌-◌, ◌*◌, min, cond, List, [], ◌∷◌, length, Some, None, Option, ◌==◌}
use Rattle.std.specs.Option.{option_map}
use Rattle.std.specs.Char.{is_ascii_digit}

-- the number that the digits so far and those to come write, or none where another byte is among them
abbrev pub digits_after : ℕ → List ℕ → Option ℕ
digits_after so_far [] = Some so_far
digits_after so_far (b ∷ bs) = cond (is_ascii_digit b) (digits_after (so_far * 10 + (b - 48)) bs) None

-- a number has a digit at least
abbrev pub decimal : List ℕ → Option ℕ
decimal text = cond (length text == 0) None (digits_after 0 text)

abbrev pub capped : ℕ → ℕ
capped n = min n 255

-- the number as one byte holds it
abbrev pub byte_of : List ℕ → Option ℕ
byte_of text = option_map capped (decimal text)
