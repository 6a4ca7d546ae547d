-- What a caller from C is given of a search.
use Rattle.std.specs.Prelude.{◌≡◌, ℕ, zero, suc, ◌+◌, ◌*◌, Bool, cond, List, length, Some, None, Ok, Err, Option, Result, ◌==◌, slice_index}
use Rattle.fault.specs.declared.Fault.{Fault}
use Rattle.fault.specs.Faults.{refused_or}
use Rattle.layout.specs.declared.Block.{Block}
use Rattle.layout.specs.declared.Block.TheVariants.{Fich, First}
use Rattle.measure.specs.declared.marks.Marks.{Marks}
use Rattle.measure.specs.Meaning.{Meaning}
use Rattle.measure.specs.Marks.{marks_means}
use Rattle.mute.specs.declared.Mute.{Mute}
use Rattle.mute.specs.Mutes.{mute_means, unmuted, added, add_fault}
use Rattle.trellis.specs.declared.search.Found.{Found}
use Rattle.trellis.specs.Answers.{size_fault, Searched}

abbrev pub searched_block : Bool → Block
searched_block long = cond long First Fich

-- the bytes of a word, where there is room for just those
abbrev pub laid : List ℕ → List ℕ → List ℕ
laid found word = cond (length word == 22) found word

-- the word and the total that come of an answer; a refusal leaves the word and has the highest total
abbrev pub Given : Result (Found ℕ) Fault → List ℕ → List ℕ → ℕ → Type 0
Given (Ok found) before after total = (after ≡ laid found.word before) × (total ≡ found.total)
Given (Err fault) before after total = (after ≡ before) × (total ≡ 18446744073709551615)

-- the same, with no total for a refusal
abbrev pub Told : {T : Type 0} → Result (Found T) Fault → List ℕ → List ℕ → Option T → Type 0
Told (Ok found) before after total = (after ≡ laid found.word before) × (total ≡ Some found.total)
Told (Err fault) before after total = (after ≡ before) × (total ≡ None)

-- what the search answers is told
abbrev pub Searches : {S R T : Type 0} → Meaning S R T → S → Bool → List R → List ℕ → List ℕ → Option T → Type 0
Searches {T = T} μ m long readings before after total =
    (answer : Result (Found T) Fault) × Searched μ m (searched_block long) readings (size_fault (length readings) 32 180) answer × Told answer before after total

-- a call gives what the search answers
abbrev pub Called : {S R : Type 0} → Meaning S R ℕ → S → Bool → List R → List ℕ → List ℕ → ℕ → Type 0
Called μ m long readings before after total =
    (answer : Result (Found ℕ) Fault) × Searched μ m (searched_block long) readings (size_fault (length readings) 32 180) answer × Given answer before after total

-- a mute with one more stretch, or the first refusal
abbrev pub one_more : Result (Mute Marks) Fault → ℕ → ℕ → Result (Mute Marks) Fault
one_more (Err fault) first length = Err fault
one_more (Ok mute) first length = refused_or (add_fault mute first length) (added mute first length)

-- the mute over marks with so many stretches, each the first place and the length
unfoldable pub mute_of : ℕ → List ℕ → Result (Mute Marks) Fault
mute_of zero numbers = Ok (unmuted (record {}))
mute_of (suc n) numbers = one_more (mute_of n numbers) (slice_index numbers (2 * n)) (slice_index numbers (2 * n + 1))

-- the same under a mute; where the mute is refused nothing is searched
abbrev pub MutedCall : Result (Mute Marks) Fault → Bool → List ℕ → List ℕ → List ℕ → ℕ → Type 0
MutedCall (Ok mute) long readings before after total = Called (mute_means marks_means) mute long readings before after total
MutedCall (Err fault) long readings before after total = Given (Err fault) before after total
