-- Two lists on their way through the lines of a recording: what they hold, and what the lines still to come will add.
use Rattle.std.proofs.Common.{◌≡◌, ℕ, ◌-◌, Bool, true, false, cond, List, [], ◌∷◌, ◌++◌, length, Some, None, Option, sym, refl, ap, ◌∙◌, append_assoc, append-nil, arith}
use Rattle.std.proofs.lemmas.List.{length_push}
use Rattle.std.proofs.lemmas.List.Elements.{filter_map-append}
use Rattle.std.proofs.lemmas.Bool.{cond-true, cond-false}
use Rattle.fault.specs.declared.Fault.{Fault}
use Rattle.fault.specs.declared.Fault.TheVariants.{ListFull}
use Rattle.entries.specs.Entries.{FrameEntry, FaultEntry, Line}
use Rattle.entries.specs.Lines.{accepted_part, refused_part, accepted, refused}
use Rattle.entries.proofs.Merging.{each_line}
use Rattle.index.specs.Index.{no_room, accepted_room, refused_room, fitting, full_fault}

-- a line that finds room
pub fits : (a r : ℕ) (line : Line) (lines : List Line) → no_room a r line ≡ false
    → fitting a r (line ∷ lines) ≡ line ∷ fitting (accepted_room a line) (refused_room r line) lines
unfolding fitting
fits a r line lines room = cond-false _ _ _ room

pub goes : (a r : ℕ) (line : Line) (lines : List Line) → no_room a r line ≡ false
    → full_fault a r (line ∷ lines) ≡ full_fault (accepted_room a line) (refused_room r line) lines
unfolding full_fault
goes a r line lines room = cond-false _ _ _ room

-- a test by which nothing was refused, and one by which something was
room-left : (full : Bool) → cond full (Some ListFull) None ≡ None → full ≡ false
room-left true e = let z : ◌≡◌ {A = ℕ} 0 1 = cc in absurd (omega arith)
room-left false e = refl

is_full : (full : Bool) (fault : Fault) → cond full (Some ListFull) None ≡ Some fault → full ≡ true
is_full true fault e = refl
is_full false fault e = let z : ◌≡◌ {A = ℕ} 0 1 = cc in absurd (omega arith)

nothing_fits : (a r : ℕ) (line : Line) (lines : List Line) (fault : Fault) → full_fault a r (line ∷ []) ≡ Some fault
    → (fitting a r (line ∷ lines) ≡ []) × (fitting a r (line ∷ []) ≡ []) × (full_fault a r (line ∷ lines) ≡ Some fault)
unfolding fitting full_fault
nothing_fits a r line lines fault h =
    let full = is_full (no_room a r line) fault h in
    (cond-true _ _ _ full, cond-true _ _ _ full, cond-true _ _ _ full ∙ sym (cond-true _ _ _ full) ∙ h)

-- two lists with these entries and these numbers of slots, and the lines still to come, end with these entries and this refusal
pub record Leads (frame-slots fault-slots : ℕ) (frames : List FrameEntry) (faults : List FaultEntry) (lines : List Line)
    (all_frames : List FrameEntry) (all-faults : List FaultEntry) (fault : Option Fault) : Type 0 where
  pub frames_end : frames ++ accepted (fitting (frame-slots - length frames) (fault-slots - length faults) lines) ≡ all_frames
  pub faults_end : faults ++ refused (fitting (frame-slots - length frames) (fault-slots - length faults) lines) ≡ all-faults
  pub answer : full_fault (frame-slots - length frames) (fault-slots - length faults) lines ≡ fault

-- before the first line
pub begins : (p q : ℕ) (frames : List FrameEntry) (faults : List FaultEntry) (lines all : List Line) → lines ≡ all
    → Leads p q frames faults lines (frames ++ accepted (fitting (p - length frames) (q - length faults) all))
    (faults ++ refused (fitting (p - length frames) (q - length faults) all)) (full_fault (p - length frames) (q - length faults) all)
begins p q frames faults lines all e =
    let a = p - length frames in
    let r = q - length faults in
    record {
      frames_end = ap (λ l. frames ++ accepted (fitting a r l)) e;
      faults_end = ap (λ l. faults ++ refused (fitting a r l)) e;
      answer = ap (full_fault a r) e;
    }

-- with all lines done, the lists hold their last entries
pub done : (p q : ℕ) (frames : List FrameEntry) (faults : List FaultEntry) (lines : List Line) (all_frames : List FrameEntry) (all-faults : List FaultEntry) (fault : Option Fault)
    → lines ≡ [] → Leads p q frames faults lines all_frames all-faults fault → (frames ≡ all_frames) × (faults ≡ all-faults) × (None ≡ fault)
unfolding fitting full_fault
done p q frames faults lines all_frames all-faults fault none leads =
    let a = p - length frames in
    let r = q - length faults in (
      sym (append-nil frames) ∙ ap (λ l. frames ++ accepted (fitting a r l)) (sym none) ∙ leads.frames_end,
      sym (append-nil faults) ∙ ap (λ l. faults ++ refused (fitting a r l)) (sym none) ∙ leads.faults_end,
      ap (full_fault a r) (sym none) ∙ leads.answer,
    )

-- the room that a line's entry leaves
frames_left : (p : ℕ) (frames : List FrameEntry) (line : Line) → p - length (frames ++ accepted (line ∷ [])) ≡ accepted_room (p - length frames) line
frames_left p frames =
    each_line (λ line. p - length (frames ++ accepted (line ∷ [])) ≡ accepted_room (p - length frames) line)
    (λ e. omega (arith, length_push frames e))
    (λ e. ap (λ l. p - length l) (append-nil frames))

faults_left : (q : ℕ) (faults : List FaultEntry) (line : Line) → q - length (faults ++ refused (line ∷ [])) ≡ refused_room (q - length faults) line
faults_left q faults =
    each_line (λ line. q - length (faults ++ refused (line ∷ [])) ≡ refused_room (q - length faults) line)
    (λ e. ap (λ l. q - length l) (append-nil faults))
    (λ e. omega (arith, length_push faults e))

module _ (p q : ℕ) (frames frames' : List FrameEntry) (faults faults' : List FaultEntry) (line : Line) (lines : List Line)
    (all_frames : List FrameEntry) (all-faults : List FaultEntry) (fault : Option Fault)
    (leads : Leads p q frames faults (line ∷ lines) all_frames all-faults fault)
    (new-frames : frames' ≡ frames ++ accepted (fitting (p - length frames) (q - length faults) (line ∷ [])))
    (new-faults : faults' ≡ faults ++ refused (fitting (p - length frames) (q - length faults) (line ∷ []))) where
  -- a line that found no room is the last
  pub stops : (e : Fault) → full_fault (p - length frames) (q - length faults) (line ∷ []) ≡ Some e
      → (frames' ≡ all_frames) × (faults' ≡ all-faults) × (Some e ≡ fault)
  stops e full =
      let n = nothing_fits (p - length frames) (q - length faults) line lines e full in (
        new-frames ∙ ap (λ l. frames ++ accepted l) (n.1 ∙ sym n.0) ∙ leads.frames_end,
        new-faults ∙ ap (λ l. faults ++ refused l) (n.1 ∙ sym n.0) ∙ leads.faults_end,
        sym n.2 ∙ leads.answer,
      )

  -- a line that found room is done
  pub goes_on : full_fault (p - length frames) (q - length faults) (line ∷ []) ≡ None → Leads p q frames' faults' lines all_frames all-faults fault
  unfolding fitting full_fault
  goes_on none =
      let a = p - length frames in
      let r = q - length faults in
      let a' = accepted_room a line in
      let r' = refused_room r line in
      let room = room-left (no_room a r line) none in
      let one = fits a r line [] room in
      let rest = fits a r line lines room in
      let f : frames' ≡ frames ++ accepted (line ∷ []) = new-frames ∙ ap (λ l. frames ++ accepted l) one in
      let s : faults' ≡ faults ++ refused (line ∷ []) = new-faults ∙ ap (λ l. faults ++ refused l) one in
      let fa : p - length frames' ≡ a' = ap (λ l. p - length l) f ∙ frames_left p frames line in
      let fr : q - length faults' ≡ r' = ap (λ l. q - length l) s ∙ faults_left q faults line in
      let same : fitting (p - length frames') (q - length faults') lines ≡ fitting a' r' lines =
      ap (λ n. fitting n (q - length faults') lines) fa ∙ ap (λ n. fitting a' n lines) fr in
      record {
        frames_end =
            ap (λ l. l ++ accepted (fitting (p - length frames') (q - length faults') lines)) f
            ∙ append_assoc frames (accepted (line ∷ [])) (accepted (fitting (p - length frames') (q - length faults') lines))
            ∙ ap (λ l. frames ++ (accepted (line ∷ []) ++ accepted l)) same
            ∙ ap (λ l. frames ++ l) (sym (filter_map-append accepted_part (line ∷ []) (fitting a' r' lines)))
            ∙ ap (λ l. frames ++ accepted l) (sym rest)
            ∙ leads.frames_end;
        faults_end =
            ap (λ l. l ++ refused (fitting (p - length frames') (q - length faults') lines)) s
            ∙ append_assoc faults (refused (line ∷ [])) (refused (fitting (p - length frames') (q - length faults') lines))
            ∙ ap (λ l. faults ++ (refused (line ∷ []) ++ refused l)) same
            ∙ ap (λ l. faults ++ l) (sym (filter_map-append refused_part (line ∷ []) (fitting a' r' lines)))
            ∙ ap (λ l. faults ++ refused l) (sym rest)
            ∙ leads.faults_end;
        answer =
            ap (λ n. full_fault n (q - length faults') lines) fa
            ∙ ap (λ n. full_fault a' n lines) fr
            ∙ sym (goes a r line lines room)
            ∙ leads.answer;
      }
