-- The 32 bits of a FICH, field by field, highest bit first.
use Rattle.std.specs.Prelude.{ℕ, Bool, cond, List, ◌++◌}
use Rattle.bits.specs.Bits.{bits_of, numbers_of}
use Rattle.fields.specs.declared.fich.FrameKind.{FrameKind}
use Rattle.fields.specs.declared.fich.FrameKind.TheVariants.{Header, Communication, Terminator}
use Rattle.fields.specs.declared.fich.CallMode.{CallMode}
use Rattle.fields.specs.declared.fich.CallMode.TheVariants.{Group, RadioId, Individual}
use Rattle.fields.specs.declared.fich.Routing.{Routing}
use Rattle.fields.specs.declared.fich.Routing.TheVariants.{Direct, DownlinkFree, DownlinkBusy}
use Rattle.fields.specs.declared.fich.DataType.{DataType}
use Rattle.fields.specs.declared.fich.DataType.TheVariants.{VdType1, DataFr, VdType2, VoiceFr}
use Rattle.fields.specs.declared.fich.Fich.{Fich}

abbrev pub kind_value : FrameKind → ℕ
kind_value Header = 0
kind_value Communication = 1
kind_value Terminator = 2

abbrev pub call_value : CallMode → ℕ
call_value Group = 0
call_value RadioId = 1
call_value Individual = 3

abbrev pub routing_value : Routing → ℕ
routing_value Direct = 0
routing_value DownlinkFree = 1
routing_value DownlinkBusy = 2

abbrev pub type_value : DataType → ℕ
type_value VdType1 = 0
type_value DataFr = 1
type_value VdType2 = 2
type_value VoiceFr = 3

abbrev pub flag_value : Bool → ℕ
flag_value b = cond b 1 0

-- FI, CS, CM, BN. CS is always 2: all callsigns are carried.
abbrev pub addressing_bits : Fich → List ℕ
addressing_bits f = bits_of 2 (kind_value f.kind) ++ (bits_of 2 2 ++ (bits_of 2 (call_value f.call_mode) ++ bits_of 2 f.block_number))

-- BT, FN, FT
abbrev pub counting_bits : Fich → List ℕ
counting_bits f = bits_of 2 f.block_total ++ (bits_of 3 f.frame_number ++ bits_of 3 f.frame_total)

-- rsv, Dev, MR, VoIP, DT
abbrev pub signalling_bits : Fich → List ℕ
signalling_bits f =
    bits_of 1 (flag_value f.reserved) ++ (bits_of 1 (flag_value f.narrow) ++ (bits_of 3 (routing_value f.routing) ++ (bits_of 1 (flag_value f.voip) ++ bits_of 2 (type_value f.data_type))))

-- SQL, SC
abbrev pub squelch_bits : Fich → List ℕ
squelch_bits f = bits_of 1 (flag_value f.squelch_off) ++ bits_of 7 f.squelch_code

abbrev pub fich_bits : Fich → List ℕ
fich_bits f = addressing_bits f ++ (counting_bits f ++ (signalling_bits f ++ squelch_bits f))

-- the FICH as four bytes
abbrev pub fich_bytes : Fich → List ℕ
fich_bytes f = numbers_of 8 4 (fich_bits f)
