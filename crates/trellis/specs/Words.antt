-- Words and their totals. A word is the free inputs of the coder; four 0s follow them.
use Rattle.std.specs.Prelude.{◌≡◌, ℕ, ◌-◌, true, false, List, [], ◌∷◌, map, length, take, drop, ◌≢◌}
use Rattle.std.specs.List.{range_with_len, flat_map}
use Rattle.bits.specs.Bits.{Bits}
use Rattle.bits.specs.declared.Dibit.{Dibit}
use Rattle.codes.specs.Convolution.{coded}
use Rattle.layout.specs.declared.Block.{Block}
use Rattle.layout.specs.Places.{length_of, stands}
use Rattle.measure.specs.Meaning.{Meaning}

-- a reading, and the place in the frame where it stands
pub record Heard (R : Type 0) : Type 0 where
  pub place : ℕ
  pub reading : R

-- the reading at a place of the frame
abbrev pub heard_at : {R : Type 0} → List R → ℕ → List (Heard R)
heard_at readings place = map (λ y. record { place = place; reading = y }) (take 1 (drop place readings))

-- the readings of the first n coded dibits of a block, in their order
abbrev pub heard_first : {R : Type 0} → Block → List R → ℕ → List (Heard R)
heard_first block readings n = flat_map (λ i. heard_at readings (stands block i)) (range_with_len 0 n)

-- the readings of a block, in the order of its coded dibits
abbrev pub heard : {R : Type 0} → Block → List R → List (Heard R)
heard block readings = heard_first block readings (length_of block)

-- how many free inputs a block has
abbrev pub free_inputs : Block → ℕ
free_inputs block = length_of block - 4

-- a word of n free inputs
pub record Word (n : ℕ) (inputs : List ℕ) : Type 0 where
  pub bits : Bits inputs
  pub long : length inputs ≡ n

module _ {S R T : Type 0} (μ : Meaning S R T) (m : S) where
  -- a total extended by supposed dibits in order, each with its own reading
  unfoldable pub weighed : T → List (Heard R) → List Dibit → T
  weighed total [] ds = total
  weighed total (y ∷ ys) [] = total
  weighed total (y ∷ ys) (d ∷ ds) = weighed (μ.extend m total y.place y.reading d) ys ds

  -- the total of a word against readings
  abbrev pub word_total : List (Heard R) → List ℕ → T
  word_total ys inputs = weighed (μ.start m) ys (coded inputs)

  -- no word of its length has a better total than this one
  abbrev pub Unbeaten : ℕ → List (Heard R) → List ℕ → Type 0
  Unbeaten n ys word = (other : List ℕ) → Word n other → μ.better m (word_total ys other) (word_total ys word) ≡ false

  -- its total is better than that of every other word of its length
  abbrev pub Decisive : ℕ → List (Heard R) → List ℕ → Type 0
  Decisive n ys word = (other : List ℕ) → Word n other → (other ≢ word) → μ.better m (word_total ys word) (word_total ys other) ≡ true
