-- When the word that a search finds is the word that was sent.
use Rattle.std.specs.Prelude.{◌≡◌, ℕ, ◌+◌, ◌*◌, ◌≤◌, Bool, false, List, map, ℤ, None, Ok, Option, Result}
use Rattle.bits.specs.Dibits.{value_of}
use Rattle.codes.specs.Convolution.{coded}
use Rattle.fault.specs.declared.Fault.{Fault}
use Rattle.layout.specs.declared.Block.{Block}
use Rattle.measure.specs.Levels.{nominal_level}
use Rattle.trellis.specs.declared.search.Found.{Found}
use Rattle.trellis.specs.Words.{heard, free_inputs, Word}
use Rattle.trellis.specs.Answers.{word_inputs}
use Rattle.survival.specs.Damage.{flips, unreadable}

-- the readings of a block alone, in the order of its coded dibits
abbrev pub block_readings : {R : Type 0} → Block → List R → List R
block_readings block readings = map (λ y. y.reading) (heard block readings)

-- what is found is the word sent
abbrev pub Recovered : Block → List ℕ → Result (Found ℕ) Fault → Type 0
Recovered block sent r = (found : Found ℕ) × (r ≡ Ok found) × (word_inputs block found.word ≡ sent)

-- marks: where no size is refused, and the flipped bits twice and the unreadable ones are at most six
abbrev pub Survives : (ℕ → Bool) → Block → List ℕ → Option Fault → Result (Found ℕ) Fault → Type 0
Survives muted block readings fault r =
    (sent : List ℕ) → fault ≡ None → Word (free_inputs block) sent
    → 2 * flips muted (heard block readings) (coded sent) + unreadable muted (heard block readings) ≤ 6
    → Recovered block sent r

-- marks: where nothing is muted, and each reading is the dibit sent with nothing unreadable
abbrev pub UndamagedMarks : (ℕ → Bool) → Block → List ℕ → Option Fault → Result (Found ℕ) Fault → Type 0
UndamagedMarks muted block readings fault r =
    (sent : List ℕ) → fault ≡ None → Word (free_inputs block) sent
    → ((place : ℕ) → muted place ≡ false) → block_readings block readings ≡ map value_of (coded sent)
    → Recovered block sent r

-- levels: where each reading is the nominal level of the dibit sent
abbrev pub UndamagedLevels : Block → List ℤ → Option Fault → Result (Found ℕ) Fault → Type 0
UndamagedLevels block readings fault r =
    (sent : List ℕ) → fault ≡ None → Word (free_inputs block) sent
    → block_readings block readings ≡ map nominal_level (coded sent)
    → Recovered block sent r
