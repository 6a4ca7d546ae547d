-- The entries of the two lists, and the lines of a listing.
use Rattle.std.specs.Prelude.{ℕ, Bool, Ok, Err, Result}
use Rattle.fault.specs.declared.Fault.{Fault}
use Rattle.fields.specs.declared.fich.Fich.{Fich}
use Rattle.entries.specs.declared.entry.Entry.{Entry}

abbrev pub FrameEntry : Type 0
FrameEntry = Entry Fich

abbrev pub FaultEntry : Type 0
FaultEntry = Entry Fault

abbrev pub Line : Type 0
Line = Entry (Result Fich Fault)

-- the line of an accepted frame, and of a refused one
abbrev pub accepted_line : FrameEntry → Line
accepted_line frame = record { place = frame.place; missed = frame.missed; outcome = Ok frame.outcome }

abbrev pub refused_line : FaultEntry → Line
refused_line fault = record { place = fault.place; missed = fault.missed; outcome = Err fault.outcome }

module _ {X : Type 0} (accepts : FrameEntry → X) (refuses : FaultEntry → X) where
  abbrev pub by_outcome : ℕ → Bool → Result Fich Fault → X
  by_outcome place missed (Ok fich) = accepts record { place = place; missed = missed; outcome = fich }
  by_outcome place missed (Err fault) = refuses record { place = place; missed = missed; outcome = fault }

  -- what is said of a line, if its frame was accepted, and if it was refused
  abbrev pub by_line : Line → X
  by_line line = by_outcome line.place line.missed line.outcome
