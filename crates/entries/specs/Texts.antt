-- The text of a line.
use Rattle.std.specs.Prelude.{ℕ, ◌+◌, ◌/◌, ◌%◌, Bool, cond, List, [], ◌∷◌, ◌++◌, codes, decimal, nat_lt}
use Rattle.fault.specs.Faults.{number_of, detail_of}
use Rattle.fields.specs.Fields.{fich_bytes}
use Rattle.entries.specs.Entries.{Line, by_line}

abbrev pub flag_number : Bool → ℕ
flag_number set = cond set 1 0

-- 0 to 9, A to F
abbrev pub hex_digit : ℕ → ℕ
hex_digit number = cond (nat_lt number 10) (48 + number) (55 + number)

abbrev pub hex_byte : ℕ → List ℕ
hex_byte byte = hex_digit (byte / 16) ∷ hex_digit (byte % 16) ∷ []

abbrev pub hex_bytes : List ℕ → List ℕ
hex_bytes [] = []
hex_bytes (byte ∷ bytes) = hex_byte byte ++ hex_bytes bytes

abbrev pub row : ℕ → Bool → ℕ → List ℕ → List ℕ
row place missed number detail =
    decimal place ++ (codes " " ++ (decimal (flag_number missed) ++ (codes " " ++ (decimal number ++ (codes " " ++ detail)))))

abbrev pub line_text : Line → List ℕ
line_text = by_line
    (λ frame. row frame.place frame.missed 0 (hex_bytes (fich_bytes frame.outcome)))
    (λ refusal. row refusal.place refusal.missed (number_of refusal.outcome) (decimal (detail_of refusal.outcome)))
