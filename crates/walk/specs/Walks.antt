-- One step of a walk over a recording: which frame comes next, and where the walk stands then.
-- A locked walk goes from frame to frame and bears three missed sync words in succession; else it looks for the next sync word.
use Rattle.std.specs.Prelude.{ℕ, ◌+◌, Bool, true, false, cond, List, length, take, drop, Some, None, Option, is_some, unwrap_or, nat_le, nat_lt}
use Rattle.measure.specs.Meaning.{Meaning}
use Rattle.walk.specs.declared.Walk.{Walk}
use Rattle.walk.specs.declared.Frame.{Frame}
use Rattle.walk.specs.Sync.{synced, first_sync}

-- a walk without its readings
pub record Position : Type 0 where
  pub place : ℕ
  pub locked : Bool
  pub misses : ℕ

-- a frame with the readings that it lends
pub record Seen (R : Type 0) : Type 0 where
  pub place : ℕ
  pub missed : Bool
  pub readings : List R

-- a walk is locked once it counts misses
abbrev pub here : {R : Type 0} → Walk R → Position
here w = record { place = w.place; locked = is_some w.misses; misses = unwrap_or w.misses 0 }

abbrev pub as_seen : {R : Type 0} → Frame R → Seen R
as_seen f = record { place = f.place; missed = f.missed; readings = f.readings.now }

abbrev pub seen : {R : Type 0} → Option (Frame R) → Option (Seen R)
seen None = None
seen (Some f) = Some (as_seen f)

-- every walk starts here
abbrev pub start : Position
start = record { place = 0; locked = false; misses = 0 }

-- a frame that was found by its sync word
abbrev pub found : Option ℕ → Option (ℕ × Bool)
found None = None
found (Some place) = Some (place, false)

-- past a frame
abbrev pub past : Position → Option (ℕ × Bool) → Position
past position None = position
past position (Some t) = record { place = t.0 + 480; locked = true; misses = cond t.1 (position.misses + 1) 0 }

-- the part of a recording that a frame is
abbrev pub shown : {R : Type 0} → List R → Option (ℕ × Bool) → Option (Seen R)
shown readings None = None
shown readings (Some t) = Some record { place = t.0; missed = t.1; readings = take 480 (drop t.0 readings) }

module _ {S R T : Type 0} (μ : Meaning S R T) (m : S) (readings : List R) where
  -- the place of the frame that comes next, and whether its sync word is missed
  abbrev pub taken : Position → Option (ℕ × Bool)
  taken position =
      cond position.locked
      (cond (nat_le (position.place + 480) (length readings))
      (cond (synced μ m readings position.place) (Some (position.place, false))
      (cond (nat_lt position.misses 3) (Some (position.place, true)) (found (first_sync μ m readings position.place))))
      None)
      (found (first_sync μ m readings position.place))

  abbrev pub frame_taken : Position → Option (Seen R)
  frame_taken position = shown readings (taken position)

  abbrev pub position_after : Position → Position
  position_after position = past position (taken position)
