-- Levels: a reading is the level received, and each dibit has a nominal level.
use Rattle.std.specs.Prelude.{ℕ, ◌+◌, ◌-◌, ◌*◌, ◌^◌, min, true, cond, ℤ, pos, ◌-ℤ◌, neg_ℤ, int_le, nat_lt, unsigned_abs}
use Rattle.bits.specs.declared.Dibit.{Dibit}
use Rattle.bits.specs.declared.Dibit.TheVariants.{D00, D01, D10, D11}
use Rattle.measure.specs.Meaning.{Meaning}
use Rattle.measure.specs.declared.levels.Levels.{Levels}

abbrev pub nominal_level : Dibit → ℤ
nominal_level D00 = pos 1000
nominal_level D01 = pos 3000
nominal_level D10 = neg_ℤ (pos 1000)
nominal_level D11 = neg_ℤ (pos 3000)

abbrev pub level_difference : ℤ → Dibit → ℕ
level_difference reading d = unsigned_abs (reading -ℤ nominal_level d)

-- a total and the squared difference of one more reading, at most 2^64 - 1
abbrev pub levels_extended : ℕ → ℤ → Dibit → ℕ
levels_extended total reading d = min (2 ^ 64 - 1) (total + level_difference reading d * level_difference reading d)

-- the dibit whose nominal level is nearest; 2000 goes to the outer one, -2000 too, and 0 to the positive
abbrev pub levels_plain : ℤ → Dibit
levels_plain reading =
    cond (int_le (pos 2000) reading) D01
    (cond (int_le (pos 0) reading) D00
    (cond (int_le (neg_ℤ (pos 1999)) reading) D10 D11))

abbrev pub levels_means : Meaning Levels ℤ ℕ
levels_means = record {
  start = λ _. 0;
  extend = λ _ total _ reading d. levels_extended total reading d;
  better = λ _ a b. nat_lt a b;
  plain = λ _ reading. levels_plain reading;
  proper = λ _ _. true;
}
