-- What the search answers for a block, and when it refuses.
use Rattle.std.specs.Prelude.{◌≡◌, ℕ, ◌-◌, ◌/◌, cond, List, [], ◌∷◌, ◌++◌, reverse, length, take, drop, replicate, Some, None, Ok, Err, Option, Result, ◌==◌}
use Rattle.bits.specs.Bits.{byte_bits}
use Rattle.fault.specs.declared.Fault.{Fault}
use Rattle.fault.specs.declared.Fault.TheVariants.{WrongSize}
use Rattle.fault.specs.declared.Memory.TheVariants.{Readings, Totals, Numbers}
use Rattle.layout.specs.declared.Block.{Block}
use Rattle.measure.specs.Meaning.{Meaning}
use Rattle.trellis.specs.declared.search.Found.{Found}
use Rattle.trellis.specs.Sizes.{Sizes}
use Rattle.trellis.specs.Words.{heard, free_inputs, word_total, Word, Unbeaten, Decisive}
use Rattle.trellis.specs.Search.{answer}

-- the free inputs that the bytes of a word hold
abbrev pub word_inputs : Block → List ℕ → List ℕ
word_inputs block word = take (free_inputs block) (byte_bits word)

-- the first memory of the wrong size
abbrev pub size_fault : ℕ → ℕ → ℕ → Option Fault
size_fault readings totals numbers =
    cond (readings == 480)
    (cond (totals == 32) (cond (numbers == 180) None (Some (WrongSize Numbers))) (Some (WrongSize Totals)))
    (Some (WrongSize Readings))

-- the same of the readings and the work memory of a call
abbrev pub work_fault : {R : Type 0} → List R → Sizes → Option Fault
work_fault readings work = size_fault (length readings) work.totals work.numbers

module _ {S R T : Type 0} (μ : Meaning S R T) (m : S) (block : Block) (readings : List R) where
  -- what is found is the best word into the all-0 state: its total is its own, no word beats it, and a decisive word is it
  pub record Answers (found : Found T) : Type 0 where
    pub exact : answer μ m block readings ≡ Some record { inputs = reverse (word_inputs block found.word ++ 0 ∷ 0 ∷ 0 ∷ 0 ∷ []); total = found.total }
    pub blank : drop (free_inputs block / 8) found.word ≡ replicate (22 - free_inputs block / 8) 0
    pub word : Word (free_inputs block) (word_inputs block found.word)
    pub total : found.total ≡ word_total μ m (heard block readings) (word_inputs block found.word)
    pub unbeaten : Unbeaten μ m (free_inputs block) (heard block readings) (word_inputs block found.word)
    pub decisive : (sent : List ℕ) → Word (free_inputs block) sent → Decisive μ m (free_inputs block) (heard block readings) sent
        → word_inputs block found.word ≡ sent

  -- the answer of a call: its refusal, or what is found
  abbrev pub Searched : Option Fault → Result (Found T) Fault → Type 0
  Searched (Some fault) r = r ≡ Err fault
  Searched None r = (found : Found T) × (r ≡ Ok found) × Answers found
