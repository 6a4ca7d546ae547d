-- A block from its inputs to the bytes of a frame, and a unit from its data to its inputs.
use Rattle.std.specs.Prelude.{ℕ, zero, suc, ◌*◌, ◌/◌, ◌%◌, List, [], ◌∷◌, ◌++◌, map, take, drop, slice_index_or}
use Rattle.std.specs.List.{range_with_len}
use Rattle.bits.specs.declared.Dibit.{Dibit}
use Rattle.bits.specs.declared.Dibit.TheVariants.{D00}
use Rattle.bits.specs.Dibits.{dibit_bytes}
use Rattle.codes.specs.Convolution.{coded}
use Rattle.codes.specs.Crc.{crc}
use Rattle.codes.specs.Interleaving.{item_at}
use Rattle.codes.specs.Whitening.{whitened}

-- the dibit at place j of the interleaved block
abbrev pub dibit_at : ℕ → List Dibit → ℕ → Dibit
dibit_at m ds j = slice_index_or ds (item_at m j) D00

-- 20 × m dibits in the order of their places
abbrev pub interleaved : ℕ → List Dibit → List Dibit
interleaved m ds = map (dibit_at m ds) (range_with_len 0 (20 * m))

-- the bytes of the block whose word has these free inputs
abbrev pub block_bytes : ℕ → List ℕ → List ℕ
block_bytes m inputs = dibit_bytes (interleaved m (coded inputs))

-- data whitened, and the checksum of the whitened bytes, which is not whitened
abbrev pub unit_bytes : List ℕ → List ℕ
unit_bytes bytes = whitened bytes ++ crc (whitened bytes) / 256 ∷ crc (whitened bytes) % 256 ∷ []

-- n pieces of w items from each of two lists by turns
unfoldable pub by_turns : {A : Type 0} → ℕ → ℕ → List A → List A → List A
by_turns w zero xs ys = []
by_turns w (suc n) xs ys = take w xs ++ (take w ys ++ by_turns w n (drop w xs) (drop w ys))
