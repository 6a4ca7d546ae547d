-- The number and the detail of each refusal, and what a call that may refuse answers and leaves.
use Rattle.std.specs.Prelude.{ℕ, Some, None, Ok, Err, Option, Result, List, ◌++◌, codes, decimal}
use Rattle.fault.specs.declared.Memory.{Memory}
use Rattle.fault.specs.declared.Memory.TheVariants.{Readings, Record, Totals, Numbers}
use Rattle.fault.specs.declared.Field.{Field}
use Rattle.fault.specs.declared.Field.TheVariants.{FrameKind, Callsigns, CallMode, BlockNumber, FrameNumber, Routing}
use Rattle.fault.specs.declared.Buffer.{Buffer}
use Rattle.fault.specs.declared.Buffer.TheVariants.{Frame, Message}
use Rattle.fault.specs.declared.Fault.{Fault}
use Rattle.fault.specs.declared.Fault.TheVariants.{WrongSize, Improper, NoCodeword, WrongChecksum, FieldNotAllowed, SettingNotAllowed, WrongLength, StretchNotAllowed, TooWide, ListFull}

abbrev pub number_of : Fault → ℕ
number_of (WrongSize memory) = 1
number_of (Improper place) = 2
number_of (NoCodeword word) = 3
number_of WrongChecksum = 4
number_of (FieldNotAllowed field) = 5
number_of SettingNotAllowed = 9
number_of (WrongLength buffer) = 10
number_of StretchNotAllowed = 13
number_of TooWide = 14
number_of ListFull = 15

-- which of the memories of a reading call it is
abbrev pub memory_number : Memory → ℕ
memory_number Readings = 1
memory_number Record = 2
memory_number Totals = 3
memory_number Numbers = 4

-- which of the rules for the fields of a FICH it is
abbrev pub field_number : Field → ℕ
field_number FrameKind = 1
field_number Callsigns = 2
field_number CallMode = 3
field_number BlockNumber = 4
field_number FrameNumber = 5
field_number Routing = 6

-- which of a call's buffers it is
abbrev pub buffer_number : Buffer → ℕ
buffer_number Frame = 1
buffer_number Message = 2

abbrev pub detail_of : Fault → ℕ
detail_of (WrongSize memory) = memory_number memory
detail_of (Improper place) = place
detail_of (NoCodeword word) = word
detail_of WrongChecksum = 0
detail_of (FieldNotAllowed field) = field_number field
detail_of SettingNotAllowed = 0
detail_of (WrongLength buffer) = buffer_number buffer
detail_of StretchNotAllowed = 0
detail_of TooWide = 0
detail_of ListFull = 0

-- the answer of a call: its first refusal, or else the value
abbrev pub refused_or : {A : Type 0} → Option Fault → A → Result A Fault
refused_or None value = Ok value
refused_or (Some fault) value = Err fault

-- what a call leaves: the new, or where it refuses the old
abbrev pub unless : {A : Type 0} → Option Fault → A → A → A
unless None new old = new
unless (Some fault) new old = old

-- how a refusal is reported
abbrev pub fault_text : Fault → List ℕ
fault_text fault = codes "number " ++ (decimal (number_of fault) ++ (codes ", detail " ++ decimal (detail_of fault)))
