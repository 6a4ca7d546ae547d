-- Reading a received word: the one codeword within three bits of it, where there is one.
use Rattle.std.specs.Prelude.{◌≡◌, ℕ, zero, suc, ◌+◌, ◌^◌, ◌<◌, ◌≤◌, cond, Some, None, Ok, Err, Option, Result, bit_xor, count_ones, nat_le}
use Rattle.fault.specs.declared.Fault.{Fault}
use Rattle.fault.specs.declared.Fault.TheVariants.{NoCodeword, TooWide}
use Rattle.golay.specs.Golay.{code_of, check_of, distance}

-- the first of `count` data from d on whose codeword lies within `limit` bits of the word, and how many bits differ
unfoldable pub first_near : ℕ → ℕ → ℕ → ℕ → Option (ℕ × ℕ)
first_near limit word d zero = None
first_near limit word d (suc count) =
    cond (nat_le (distance (code_of d) word) limit) (Some (d, distance (code_of d) word)) (first_near limit word (suc d) count)

-- three turned bits are mended
abbrev pub nearest : ℕ → Option (ℕ × ℕ)
nearest word = first_near 3 word 0 4096

-- the codeword of the answer lies within `limit` bits of the word, and no other does; without an answer none does
abbrev pub Near : ℕ → ℕ → Option (ℕ × ℕ) → Type 0
Near limit word (Some (d, turned)) =
    (d < 4096) × (distance (code_of d) word ≡ turned) × (turned ≤ limit) × ((d' : ℕ) → d' < 4096 → distance (code_of d') word ≤ limit → d' ≡ d)
Near limit word None = (d' : ℕ) → d' < 4096 → limit < distance (code_of d') word

abbrev pub Nearest : ℕ → Option (ℕ × ℕ) → Type 0
Nearest word r = Near 3 word r

abbrev pub read_as : Option (ℕ × ℕ) → Result (ℕ × ℕ) Fault
read_as (Some found) = Ok found
read_as None = Err (NoCodeword 0)

abbrev pub golay_read : ℕ → Result (ℕ × ℕ) Fault
golay_read word = cond (nat_le (2 ^ 24) word) (Err TooWide) (read_as (nearest word))

-- the same of an answer that may refuse
abbrev pub Read : ℕ → Result (ℕ × ℕ) Fault → Type 0
Read word (Ok found) = Nearest word (Some found)
Read word (Err fault) = (fault ≡ NoCodeword 0) × Nearest word None

-- data with the number of bits in which their codeword differs from the word
abbrev pub counted : ℕ → Option ℕ → Option (ℕ × ℕ)
counted word (Some d) = Some (d, distance (code_of d) word)
counted word None = None

-- how many bits are turned in all where the data bits d are: these, and the check bits that the syndrome then has left
abbrev pub turned_by : ℕ → ℕ → ℕ
turned_by syndrome d = count_ones d + count_ones (bit_xor syndrome (check_of d))

-- the answer is such data bits, below `places`, with at most `left` turned in all; without an answer there are none
abbrev pub Explains : ℕ → ℕ → ℕ → Option ℕ → Type 0
Explains syndrome places left (Some d) = (d < 2 ^ places) × (turned_by syndrome d ≤ left)
Explains syndrome places left None = (d : ℕ) → d < 2 ^ places → left < turned_by syndrome d
