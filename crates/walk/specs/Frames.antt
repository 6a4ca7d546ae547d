-- The frames of a whole recording, and what holds of each step of a walk and of all its frames together.
-- Frames are whole parts of the recording that do not overlap, and no sync word with a whole frame behind it lies outside them.
use Rattle.std.specs.Prelude.{◌≡◌, ℕ, zero, suc, ◌+◌, ◌-◌, ◌/◌, ◌<◌, ◌≤◌, true, false, ◌⊎◌, List, [], ◌∷◌, ◌++◌, length, take, drop, Some, None, Option, ◌≢◌}
use Rattle.measure.specs.Meaning.{Meaning}
use Rattle.walk.specs.Sync.{Starts}
use Rattle.std.specs.Iterator.{YieldsFirstBy}
use Rattle.walk.specs.declared.Frames.{Frames}
use Rattle.walk.specs.declared.Frame.{Frame}
use Rattle.walk.specs.Walks.{Position, Seen, here, as_seen, seen, start, frame_taken, position_after}

-- how many whole frames the readings from a place on have room for
abbrev pub frames_left : ℕ → ℕ → ℕ
frames_left readings place = (readings - place) / 480

-- a frame and those after it, if there is one
abbrev pub then_more : {R : Type 0} → Option (Seen R) → List (Seen R) → List (Seen R)
then_more None fs = []
then_more (Some f) fs = f ∷ fs

-- more than the frames that can still come
abbrev pub enough : {R : Type 0} → List R → Position → ℕ
enough readings position = length readings + 1 - position.place

-- a place lies in one of the frames
abbrev pub Inside : {R : Type 0} → ℕ → List (Seen R) → Type 0
Inside place [] = ⊥
Inside place (f ∷ fs) = ((f.place ≤ place) × (place < f.place + 480)) ⊎ Inside place fs

-- no four frames in succession have all missed their sync words
abbrev pub NoFourMissed : {R : Type 0} → List (Seen R) → Type 0
NoFourMissed {R} frames =
    (before after : List (Seen R)) (a b c d : Seen R) → frames ≡ before ++ a ∷ b ∷ c ∷ d ∷ after
    → a.missed ≡ true → b.missed ≡ true → c.missed ≡ true → d.missed ≢ true

module _ {S R T : Type 0} (μ : Meaning S R T) (m : S) (readings : List R) where
  -- the frames of at most n steps
  unfoldable pub frames_from : ℕ → Position → List (Seen R)
  frames_from zero position = []
  frames_from (suc n) position = then_more (frame_taken μ m readings position) (frames_from n (position_after μ m readings position))

  -- all frames that come from a position on
  abbrev pub frames_after : Position → List (Seen R)
  frames_after position = frames_from (enough readings position) position

  abbrev pub all_frames : List (Seen R)
  all_frames = frames_after start

  -- a frame is a whole part of the recording, and says truly whether a sync word starts it
  pub record Sound (f : Seen R) : Type 0 where
    pub whole : f.place + 480 ≤ length readings
    pub part : f.readings ≡ take 480 (drop f.place readings)
    pub hit : f.missed ≡ false → Starts μ m readings f.place
    pub missed : f.missed ≡ true → Starts μ m readings f.place → ⊥

  -- a step from one position to another that hands out a frame
  pub record Hands (before after : Position) (f : Seen R) : Type 0 where
    pub sound : Sound f
    pub onward : before.place ≤ f.place
    pub past : after.place ≡ f.place + 480
    pub locks : after.locked ≡ true
    -- the misses in succession are counted
    pub counts : f.missed ≡ true → after.misses ≡ before.misses + 1
    pub resets : f.missed ≡ false → after.misses ≡ 0
    -- a sync word is missed only where a locked walk stands that has missed fewer than three before
    pub missed : f.missed ≡ true → (f.place ≡ before.place) × (before.locked ≡ true) × (before.misses < 3)
    -- and such a walk takes the frame where it stands
    pub stays : before.locked ≡ true → before.misses < 3 → f.place ≡ before.place
    pub none_passed : (place : ℕ) → before.place ≤ place → place < f.place → Starts μ m readings place → ⊥

  -- a step that says end
  pub record Ends (before after : Position) : Type 0 where
    pub unchanged : after ≡ before
    pub none_left : (place : ℕ) → before.place ≤ place → place + 480 ≤ length readings → Starts μ m readings place → ⊥
    pub too_short : before.locked ≡ true → before.misses < 3 → length readings < before.place + 480

  -- what a step answers from one position to another
  abbrev pub Takes : Position → Position → Option (Seen R) → Type 0
  Takes before after None = Ends before after
  Takes before after (Some f) = Hands before after f

  -- sound frames in order from a place on, none overlapping the one before
  abbrev pub InOrder : ℕ → List (Seen R) → Type 0
  InOrder place [] = Unit {0}
  InOrder place (f ∷ fs) = (place ≤ f.place) × Sound f × InOrder (f.place + 480) fs

  -- what holds of all frames of a recording
  pub record Runs (frames : List (Seen R)) : Type 0 where
    pub order : InOrder 0 frames
    pub few_missed : NoFourMissed frames
    pub none_lost : (place : ℕ) → place + 480 ≤ length readings → Starts μ m readings place → Inside place frames

-- the frames that are still to be handed out
abbrev pub to_come : {S R T : Type 0} → Meaning S R T → Frames S R T → List (Seen R)
to_come μ frames = frames_after μ frames.measure.now frames.walk.readings.now (here frames.walk)

-- a call of `next` takes the walk of these frames to another
pub record Advances {S R T : Type 0} (μ : Meaning S R T) (frames : Frames S R T) (answer : Option (Frame R)) (left : Frames S R T) : Type 0 where
  -- it hands out the first of the frames to come and leaves the others, or says end where none is left
  pub yields : YieldsFirstBy as_seen (to_come μ) frames answer left
  pub value : seen answer ≡ frame_taken μ frames.measure.now frames.walk.readings.now (here frames.walk)
  pub after : here left.walk ≡ position_after μ frames.measure.now frames.walk.readings.now (here frames.walk)
  pub same : left.walk.readings ≡ frames.walk.readings
  pub measure : left.measure ≡ frames.measure
  pub law : Takes μ frames.measure.now frames.walk.readings.now (here frames.walk) (here left.walk) (seen answer)
  pub run : Runs μ frames.measure.now frames.walk.readings.now (all_frames μ frames.measure.now frames.walk.readings.now)
