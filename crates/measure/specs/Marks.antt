-- Marks: a reading is a byte whose lowest two bits are the dibit received, and whose next two say which of them cannot be read.
use Rattle.std.specs.Prelude.{ℕ, ◌+◌, ◌/◌, ◌%◌, min, Bool, cond, List, [], ◌∷◌, ◌==◌, nat_le, nat_lt}
use Rattle.bits.specs.declared.Dibit.{Dibit}
use Rattle.bits.specs.Dibits.{first, second, dibit}
use Rattle.measure.specs.Meaning.{Meaning}
use Rattle.measure.specs.declared.marks.Marks.{Marks}

abbrev pub first_read : ℕ → ℕ
first_read reading = reading / 2 % 2

abbrev pub second_read : ℕ → ℕ
second_read reading = reading % 2

-- mark 4
abbrev pub first_lost : ℕ → ℕ
first_lost reading = reading / 4 % 2

-- mark 8
abbrev pub second_lost : ℕ → ℕ
second_lost reading = reading / 8 % 2

-- 1 for a readable bit that is not the one supposed
abbrev pub miss : ℕ → ℕ → ℕ → ℕ
miss lost read supposed = cond (lost == 1) 0 (cond (read == supposed) 0 1)

abbrev pub misses : ℕ → Dibit → ℕ
misses reading d =
    miss (first_lost reading) (first_read reading) (first d)
    + miss (second_lost reading) (second_read reading) (second d)

-- the misses of each reading below 16: those at the dibits 00, 01, 10 and 11 count 4, 16, 64 and 256 each
abbrev pub counts : List ℕ
counts = 592 ∷ 388 ∷ 292 ∷ 88 ∷ 272 ∷ 68 ∷ 272 ∷ 68 ∷ 320 ∷ 320 ∷ 20 ∷ 20 ∷ 0 ∷ 0 ∷ 0 ∷ 0 ∷ []

-- a total and the misses of one more reading, at most 65535
abbrev pub marks_extended : ℕ → ℕ → Dibit → ℕ
marks_extended total reading d = min 65535 (total + misses reading d)

abbrev pub marks_plain : ℕ → Dibit
marks_plain reading = dibit (first_read reading) (second_read reading)

abbrev pub marks_proper : ℕ → Bool
marks_proper reading = nat_le reading 15

abbrev pub marks_means : Meaning Marks ℕ ℕ
marks_means = record {
  start = λ _. 0;
  extend = λ _ total _ reading d. marks_extended total reading d;
  better = λ _ a b. nat_lt a b;
  plain = λ _ reading. marks_plain reading;
  proper = λ _ reading. marks_proper reading;
}
