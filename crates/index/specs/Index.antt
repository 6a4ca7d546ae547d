-- The lines of a recording: what was read of each of its frames, or why the frame was refused; and those that find room in two lists.
use Rattle.std.specs.Prelude.{◌≡◌, ℕ, ◌-◌, ◌≤◌, Bool, cond, List, [], ◌∷◌, ◌++◌, map, length, Some, None, Option, Result, ◌==◌}
use Rattle.fault.specs.declared.Fault.{Fault}
use Rattle.fault.specs.declared.Fault.TheVariants.{ListFull}
use Rattle.fault.specs.Faults.{unless}
use Rattle.fields.specs.declared.fich.Fich.{Fich}
use Rattle.measure.specs.Meaning.{Meaning}
use Rattle.trellis.specs.Sizes.{Sizes}
use Rattle.trellis.specs.Answers.{size_fault}
use Rattle.walk.specs.Walks.{Seen}
use Rattle.walk.specs.Frames.{all_frames}
use Rattle.receive.specs.Reading.{or_else, fich_answer}
use Rattle.entries.specs.declared.bounded.BoundedList.{BoundedList}
use Rattle.entries.specs.Entries.{Line, by_line}
use Rattle.entries.specs.Lists.{capacity, listed}
use Rattle.entries.specs.Lines.{accepted, refused, merged, places, Spaced}

-- how many entries a list can still take
abbrev pub room : {X : Type 0} → BoundedList X → ℕ
room list = capacity list - length (listed list)

-- the line of a frame
abbrev pub line_of : ℕ → Bool → Result Fich Fault → Line
line_of place missed outcome = record { place = place; missed = missed; outcome = outcome }

-- what the readings of a frame say, with work memory of the right sizes
abbrev pub frame_line : {S R T : Type 0} (μ : Meaning S R T) (m : S) → Seen R → Line
frame_line μ m f = line_of f.place f.missed (fich_answer μ m f.readings record { totals = 32; numbers = 180 })

-- the lines of a recording, one for each frame that the walk hands out
abbrev pub recorded : {S R T : Type 0} (μ : Meaning S R T) (m : S) → List R → List Line
recorded μ m readings = map (frame_line μ m) (all_frames μ m readings)

-- where there is room for so many accepted and so many refused frames: the list that a line goes to is full
abbrev pub no_room : ℕ → ℕ → Line → Bool
no_room a r = by_line (λ _. a == 0) (λ _. r == 0)

-- the room that a line leaves for accepted frames, and for refused ones
abbrev pub accepted_room : ℕ → Line → ℕ
accepted_room a = by_line (λ _. a - 1) (λ _. a)

abbrev pub refused_room : ℕ → Line → ℕ
refused_room r = by_line (λ _. r) (λ _. r - 1)

-- the lines up to the first that finds its list full
unfoldable pub fitting : ℕ → ℕ → List Line → List Line
fitting a r [] = []
fitting a r (line ∷ lines) = cond (no_room a r line) [] (line ∷ fitting (accepted_room a line) (refused_room r line) lines)

-- whether there is such a line
unfoldable pub full_fault : ℕ → ℕ → List Line → Option Fault
full_fault a r [] = None
full_fault a r (line ∷ lines) = cond (no_room a r line) (Some ListFull) (full_fault (accepted_room a line) (refused_room r line) lines)

-- the lines for which an index makes entries: none where the work memory has a wrong size
abbrev pub kept_lines : Sizes → ℕ → ℕ → List Line → List Line
kept_lines work a r lines = unless (size_fault 480 work.totals work.numbers) (fitting a r lines) []

-- a wrong size of the work memory, or else a full list
abbrev pub index_fault : Sizes → ℕ → ℕ → List Line → Option Fault
index_fault work a r lines = or_else (size_fault 480 work.totals work.numbers) (full_fault a r lines)

-- the list that a line goes to is full with the entries of other lines
abbrev pub NoRoomFor : ℕ → ℕ → List Line → Line → Type 0
NoRoomFor a r kept line = by_line (λ _. length (accepted kept)) (λ _. length (refused kept)) line ≡ by_line (λ _. a) (λ _. r) line

-- a line that finds no room, right after those that are kept
pub record LeftOut (a r : ℕ) (lines kept : List Line) : Type 0 where
  pub line : Line
  pub after : List Line
  pub whole : lines ≡ kept ++ line ∷ after
  pub full : NoRoomFor a r kept line

-- of the lines of a recording, those kept are all of them, or all up to the first that finds its list full;
-- their entries, taken from the two lists by place, are those lines again, so that nothing is lost and nothing comes twice
pub record Indexed (a r : ℕ) (lines : List Line) : Type 0 where
  pub spaced : Spaced 480 0 (places lines)
  pub accepted_fit : length (accepted (fitting a r lines)) ≤ a
  pub refused_fit : length (refused (fitting a r lines)) ≤ r
  pub all_kept : full_fault a r lines ≡ None → fitting a r lines ≡ lines
  pub stopped : (fault : Fault) → full_fault a r lines ≡ Some fault → (fault ≡ ListFull) × LeftOut a r lines (fitting a r lines)
  pub merges : merged (accepted (fitting a r lines)) (refused (fitting a r lines)) ≡ fitting a r lines
