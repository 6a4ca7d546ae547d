-- Where the dibits of a coded block stand among the 480 of a frame.
-- The sync word has places 0 to 19 and the FICH 20 to 119; from 120 on the frame is five stretches of 72.
use Rattle.std.specs.Prelude.{◌≡◌, List, [], ◌∷◌, ℕ, ◌+◌, ◌*◌, ◌/◌, ◌%◌, ◌<◌}
use Rattle.codes.specs.declared.interleave.Interleave.{Interleave}
use Rattle.codes.specs.declared.interleave.Interleave.TheVariants.{Five, Nine}
use Rattle.codes.specs.Interleaving.{rows_of, place_of}
use Rattle.layout.specs.declared.Block.{Block}
use Rattle.layout.specs.declared.Block.TheVariants.{Fich, First, Second, Short, Solid}

abbrev pub sync_word : List ℕ
sync_word = 0xD4 ∷ 0x71 ∷ 0xC9 ∷ 0x63 ∷ 0x4D ∷ []

abbrev pub interleave_of : Block → Interleave
interleave_of Fich = Five
interleave_of First = Nine
interleave_of Second = Nine
interleave_of Short = Five
interleave_of Solid = Nine

-- how many dibits a block has
abbrev pub length_of : Block → ℕ
length_of b = 20 * rows_of (interleave_of b)

-- place j of a run that is cut into pieces of w, one piece to a stretch
abbrev pub spread : ℕ → ℕ → ℕ
spread w j = 72 * (j / w) + j % w

-- the place in the frame of place j of the interleaved block
abbrev pub laid_at : Block → ℕ → ℕ
laid_at Fich j = 20 + j
laid_at First j = 120 + spread 36 j
laid_at Second j = 156 + spread 36 j
laid_at Short j = 120 + spread 20 j
laid_at Solid j = 120 + j

-- where coded dibit i of the block stands in the frame
abbrev pub stands : Block → ℕ → ℕ
stands b i = laid_at b (place_of (rows_of (interleave_of b)) i)

-- every dibit of the block has a place of its own in the frame
pub record OwnPlaces (b : Block) : Type 0 where
  pub within : (i : ℕ) → i < length_of b → stands b i < 480
  pub apart : (i k : ℕ) → i < length_of b → k < length_of b → stands b i ≡ stands b k → i ≡ k
