-- Where a sync word starts in a recording. Readings are compared by their plain dibits, the twenty from a place on
-- with the twenty dibits of the sync word's five bytes.
use Rattle.std.specs.Prelude.{◌≡◌, ℕ, zero, suc, ◌+◌, ◌-◌, ◌*◌, Bool, true, false, cond, ◌&&◌, List, [], ◌∷◌, map, length, take, drop, Some, None, Option, ◌==◌}
use Rattle.bits.specs.declared.Dibit.{Dibit}
use Rattle.bits.specs.Bits.{bit_at}
use Rattle.bits.specs.Dibits.{value_of, dibit, dibits_of}
use Rattle.layout.specs.Places.{sync_word}
use Rattle.measure.specs.Meaning.{Meaning}

unfoldable pub same_dibits : List Dibit → List Dibit → Bool
same_dibits [] [] = true
same_dibits [] (e ∷ es) = false
same_dibits (d ∷ ds) [] = false
same_dibits (d ∷ ds) (e ∷ es) = value_of d == value_of e && same_dibits ds es

-- dibit k of the sync word
abbrev pub sync_dibit : ℕ → Dibit
sync_dibit k = dibit (bit_at sync_word (2 * k)) (bit_at sync_word (2 * k + 1))

-- in a recording of n readings, how many places have 480 readings from there on
abbrev pub frame_places : ℕ → ℕ
frame_places n = n - 479

module _ {S R T : Type 0} (μ : Meaning S R T) (m : S) (readings : List R) where
  -- the plain dibits of the twenty readings from a place on
  abbrev pub plain_from : ℕ → List Dibit
  plain_from place = map (μ.plain m) (take 20 (drop place readings))

  -- a sync word starts at the place
  abbrev pub Starts : ℕ → Type 0
  Starts place = plain_from place ≡ dibits_of sync_word

  -- whether one does
  unfoldable pub synced : ℕ → Bool
  synced place = same_dibits (plain_from place) (dibits_of sync_word)

  -- the first of n places from a place on where a sync word starts
  unfoldable pub first_of : ℕ → ℕ → Option ℕ
  first_of zero place = None
  first_of (suc n) place = cond (synced place) (Some place) (first_of n (suc place))

  -- the first place from a place on where a sync word starts and 480 readings remain
  abbrev pub first_sync : ℕ → Option ℕ
  first_sync place = first_of (frame_places (length readings) - place) place
