-- The table of misses holds what it should, at every reading below 16 and every dibit: a test that is computed.
use Rattle.std.proofs.Common.{◌≡◌, ℕ, zero, suc, ◌+◌, ◌*◌, ◌/◌, ◌%◌, ◌^◌, ◌<◌, Bool, true, false, cond, T, eqb, get_or, ◌∙◌, arith, eqb→eq, below_more}
use Rattle.bits.specs.declared.Dibit.{Dibit}
use Rattle.bits.specs.declared.Dibit.TheVariants.{D00, D01, D10, D11}
use Rattle.bits.specs.Dibits.{value_of}
use Rattle.measure.specs.Marks.{misses, counts}

-- ---- a test at every number below n

abbrev every : (ℕ → Bool) → ℕ → Bool
every f zero = true
every f (suc n) = cond (f n) (every f n) false

parts : (a b : Bool) → T (cond a b false) → T a × T b
parts true b t = (tt, t)
parts false b t = absurd t

every_is : (f : ℕ → Bool) (n : ℕ) → T (every f n) → (k : ℕ) → k < n → T (f k)
every_is f zero t k h = absurd (omega arith)
every_is f (suc n) t k h =
    let here = parts (f n) (every f n) t in
    below_more (λ i. T (f i)) n (every_is f n here.1) here.0 k (omega arith)

-- ---- the table

-- the pair of bits that is for a dibit
abbrev pub pair_of : ℕ → ℕ → ℕ
pair_of counted value = counted / 2 ^ (2 + 2 * value) % 4

abbrev right : Dibit → ℕ → Bool
right d k = eqb (pair_of (get_or counts k 0) (value_of d)) (misses k d)

all_right : (d : Dibit) → T (every (right d) 16)
all_right D00 = tt
all_right D01 = tt
all_right D10 = tt
all_right D11 = tt

-- bits above the marks say nothing
misses_low : (reading : ℕ) (d : Dibit) → misses (reading % 16) d ≡ misses reading d
misses_low reading d =
    let first_lost : reading % 16 / 4 % 2 ≡ reading / 4 % 2 = omega arith in
    let first_read : reading % 16 / 2 % 2 ≡ reading / 2 % 2 = omega arith in
    let second_lost : reading % 16 / 8 % 2 ≡ reading / 8 % 2 = omega arith in
    let second_read : reading % 16 % 2 ≡ reading % 2 = omega arith in
    cc

pub counts_right : (reading : ℕ) (d : Dibit) → pair_of (get_or counts (reading % 16) 0) (value_of d) ≡ misses reading d
counts_right reading d =
    eqb→eq _ _ (every_is (right d) 16 (all_right d) (reading % 16) (omega arith)) ∙ misses_low reading d
