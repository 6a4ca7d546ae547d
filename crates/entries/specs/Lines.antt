-- The lines of two lists of entries.
use Rattle.std.specs.Prelude.{◌≡◌, ℕ, ◌+◌, ◌≤◌, Bool, true, false, cond, List, [], ◌∷◌, map, Some, None, Option, filter_map, nat_le}
use Rattle.entries.specs.declared.entry.Entry.{Entry}
use Rattle.entries.specs.declared.merge.Merge.{Merge}
use Rattle.entries.specs.Entries.{FrameEntry, FaultEntry, Line, accepted_line, refused_line, by_line}

-- the line with the smaller place first, of equal places the accepted frame
abbrev pub merged : List FrameEntry → List FaultEntry → List Line
merged [] [] = []
merged [] (fault ∷ faults) = refused_line fault ∷ merged [] faults
merged (frame ∷ frames) [] = accepted_line frame ∷ merged frames []
merged (frame ∷ frames) (fault ∷ faults) =
    cond (nat_le frame.place fault.place)
    (accepted_line frame ∷ merged frames (fault ∷ faults))
    (refused_line fault ∷ merged (frame ∷ frames) faults)

abbrev pub to_come : Merge → List Line
to_come merge = merged merge.frames.now merge.faults.now

abbrev pub frame_first : List FrameEntry → List FaultEntry → Bool
frame_first frames [] = true
frame_first [] (fault ∷ faults) = false
frame_first (frame ∷ frames) (fault ∷ faults) = nat_le frame.place fault.place

-- the accepted frame of a line, and the refused one
abbrev pub accepted_part : Line → Option FrameEntry
accepted_part = by_line (λ frame. Some frame) (λ fault. None)

abbrev pub refused_part : Line → Option FaultEntry
refused_part = by_line (λ frame. None) (λ fault. Some fault)

-- the accepted frames of a listing, and the refused ones
abbrev pub accepted : List Line → List FrameEntry
accepted = filter_map accepted_part

abbrev pub refused : List Line → List FaultEntry
refused = filter_map refused_part

abbrev pub places : {T : Type 0} → List (Entry T) → List ℕ
places = map (λ entry. entry.place)

-- places from `low` on, each at least `gap` past the one before it
abbrev pub Spaced : ℕ → ℕ → List ℕ → Type 0
Spaced gap low [] = Unit {0}
Spaced gap low (place ∷ places) = (low ≤ place) × Spaced gap (place + gap) places

abbrev pub Ascends : List ℕ → Type 0
Ascends = Spaced 0 0

abbrev pub AscendsStrictly : List ℕ → Type 0
AscendsStrictly = Spaced 1 0

-- nothing is lost or comes twice, and lists that ascend give lines that do
pub record HoldsBoth (frames : List FrameEntry) (faults : List FaultEntry) (lines : List Line) : Type 0 where
  pub frames_kept : accepted lines ≡ frames
  pub faults_kept : refused lines ≡ faults
  pub in_order : Ascends (places frames) → Ascends (places faults) → Ascends (places lines)

-- lines that were split into accepted and refused frames come back as they were
abbrev pub SplitsBack : Type 0
SplitsBack = (lines : List Line) → AscendsStrictly (places lines) → merged (accepted lines) (refused lines) ≡ lines
