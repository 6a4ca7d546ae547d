-- The header frame: sync word, FICH, and the callsigns of a message in two units by turns.
use Rattle.std.specs.Prelude.{◌≡◌, ℕ, zero, suc, ◌<◌, cond, List, [], ◌++◌, length, take, drop, Some, None, Ok, Err, Option, Result, ◌==◌, slice_index_or}
use Rattle.bits.specs.declared.Dibit.TheVariants.{D00}
use Rattle.bits.specs.Bits.{byte_bits}
use Rattle.bits.specs.Dibits.{dibits_of}
use Rattle.codes.specs.Convolution.{coded}
use Rattle.codes.specs.Crc.{check_bits}
use Rattle.fault.specs.declared.Buffer.TheVariants.{Frame, Message}
use Rattle.fault.specs.declared.Fault.{Fault}
use Rattle.fault.specs.declared.Fault.TheVariants.{WrongLength}
use Rattle.fault.specs.Faults.{unless}
use Rattle.fields.specs.declared.fich.Fich.{Fich as FichFields}
use Rattle.fields.specs.Fields.{fich_bits}
use Rattle.golay.specs.Golay.{golay}
use Rattle.layout.specs.declared.Block.{Block}
use Rattle.layout.specs.declared.Block.TheVariants.{Fich, First, Second}
use Rattle.layout.specs.Places.{sync_word, length_of, stands}
use Rattle.frame.specs.Coding.{block_bytes, unit_bytes, by_turns}

-- n groups of twelve bits, each as its Golay word
unfoldable pub golay_words : ℕ → List ℕ → List ℕ
golay_words zero bs = []
golay_words (suc n) bs = golay (take 12 bs) ++ golay_words n (drop 12 bs)

-- the FICH and its checksum as four Golay words
abbrev pub fich_inputs : FichFields → List ℕ
fich_inputs f = golay_words 4 (fich_bits f ++ check_bits (fich_bits f))

abbrev pub unit_inputs : List ℕ → List ℕ
unit_inputs bytes = byte_bits (unit_bytes bytes)

-- the data of the two units
abbrev pub first_data : List ℕ → List ℕ
first_data message = take 20 message

abbrev pub second_data : List ℕ → List ℕ
second_data message = take 20 (drop 20 message)

abbrev pub fich_block : FichFields → List ℕ
fich_block f = block_bytes 5 (fich_inputs f)

abbrev pub unit_block : List ℕ → List ℕ
unit_block bytes = block_bytes 9 (unit_inputs bytes)

-- the two units, each in five pieces of 72 bits
abbrev pub paired_units : List ℕ → List ℕ
paired_units message = by_turns 9 5 (unit_block (first_data message)) (unit_block (second_data message))

abbrev pub header_frame : FichFields → List ℕ → List ℕ
header_frame f message = sync_word ++ (fich_block f ++ paired_units message)

-- the first refusal of a frame and a message of these lengths
abbrev pub length_fault : ℕ → ℕ → Option Fault
length_fault frame message =
    cond (frame == 120) (cond (message == 320) None (Some (WrongLength Message))) (Some (WrongLength Frame))

-- the first refusal of a call: that of the FICH that its settings make, then that of the lengths
abbrev pub header_fault : Result FichFields Fault → ℕ → ℕ → Option Fault
header_fault (Ok f) frame message = length_fault frame message
header_fault (Err e) frame message = Some e

-- what the call leaves in the frame, the old bytes where it refuses
abbrev pub frame_after : Result FichFields Fault → List ℕ → List ℕ → List ℕ
frame_after (Ok f) message old = unless (length_fault (length old) (length message)) (header_frame f message) old
frame_after (Err e) message old = old

-- each coded dibit of the block with these inputs stands at its place in the frame
abbrev pub Carries : List ℕ → Block → List ℕ → Type 0
Carries frame b inputs = (i : ℕ) → i < length_of b → slice_index_or (dibits_of frame) (stands b i) D00 ≡ slice_index_or (coded inputs) i D00

-- a header frame has the sync word first, and carries the FICH and the two units
pub record HeaderOf (f : FichFields) (message : List ℕ) (frame : List ℕ) : Type 0 where
  pub sized : length frame ≡ 120
  pub synced : take 5 frame ≡ sync_word
  pub fich : Carries frame Fich (fich_inputs f)
  pub first : Carries frame First (unit_inputs (first_data message))
  pub second : Carries frame Second (unit_inputs (second_data message))

-- every message makes such a frame
abbrev pub LaidOut : Type 0
LaidOut = (f : FichFields) (message : List ℕ) → HeaderOf f message (header_frame f message)
