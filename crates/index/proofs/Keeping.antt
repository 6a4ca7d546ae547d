-- Which lines an index keeps.
use Rattle.std.proofs.Common.{◌≡◌, ℕ, ◌+◌, ◌-◌, ◌≤◌, Bool, true, false, cond, eqb, List, [], ◌∷◌, map, length, Some, None, Option, sym, refl, ap, ◌∙◌, subst, ⊎_elim, arith}
use Rattle.std.proofs.lemmas.Bool.{eqb-true, eqb-false, cond_both, cond-true, cases_Bool}
use Rattle.fault.specs.declared.Fault.{Fault}
use Rattle.fault.specs.declared.Fault.TheVariants.{ListFull}
use Rattle.measure.specs.Meaning.{Meaning}
use Rattle.walk.specs.Walks.{Seen}
use Rattle.walk.specs.Frames.{InOrder, Runs, all_frames}
use Rattle.entries.specs.Entries.{Line, accepted_line, refused_line}
use Rattle.entries.specs.Lines.{accepted, refused, places, Spaced, SplitsBack}
use Rattle.entries.proofs.Merging.{each_line}
use Rattle.index.specs.Index.{frame_line, recorded, no_room, accepted_room, refused_room, fitting, full_fault, NoRoomFor, LeftOut, Indexed}
use Rattle.index.proofs.Going.{fits, goes}

-- one line more that finds room, before those that are kept
module _ (a r : ℕ) (kept : List Line) where
  more_accepted : (line : Line) → no_room a r line ≡ false → length (accepted kept) ≤ accepted_room a line → length (accepted (line ∷ kept)) ≤ a
  more_accepted =
      each_line (λ line. no_room a r line ≡ false → length (accepted kept) ≤ accepted_room a line → length (accepted (line ∷ kept)) ≤ a)
      (λ e some h. omega (arith, eqb-false a 0 some))
      (λ e some h. h)

  more_refused : (line : Line) → no_room a r line ≡ false → length (refused kept) ≤ refused_room r line → length (refused (line ∷ kept)) ≤ r
  more_refused =
      each_line (λ line. no_room a r line ≡ false → length (refused kept) ≤ refused_room r line → length (refused (line ∷ kept)) ≤ r)
      (λ e some h. h)
      (λ e some h. omega (arith, eqb-false r 0 some))

  more_kept : (line other : Line) → no_room a r line ≡ false → NoRoomFor (accepted_room a line) (refused_room r line) kept other → NoRoomFor a r (line ∷ kept) other
  more_kept =
      each_line (λ line. (other : Line) → no_room a r line ≡ false → NoRoomFor (accepted_room a line) (refused_room r line) kept other → NoRoomFor a r (line ∷ kept) other)
      (λ e. each_line (λ other. eqb a 0 ≡ false → NoRoomFor (a - 1) r kept other → NoRoomFor a r (accepted_line e ∷ kept) other)
      (λ x some full. omega (arith, eqb-false a 0 some))
      (λ x some full. full))
      (λ e. each_line (λ other. eqb r 0 ≡ false → NoRoomFor a (r - 1) kept other → NoRoomFor a r (refused_line e ∷ kept) other)
      (λ x some full. full)
      (λ x some full. omega (arith, eqb-false r 0 some)))

-- a list with no slot left is full with no entries
none_kept : (a r : ℕ) (line : Line) → no_room a r line ≡ true → NoRoomFor a r [] line
none_kept a r =
    each_line (λ line. no_room a r line ≡ true → NoRoomFor a r [] line)
    (λ e full. sym (eqb-true a 0 full))
    (λ e full. sym (eqb-true r 0 full))

-- no more entries than there is room for
accepted_fit : (a r : ℕ) (lines : List Line) → length (accepted (fitting a r lines)) ≤ a
unfolding fitting
accepted_fit a r [] = omega arith
accepted_fit a r (line ∷ lines) =
    let rest = fitting (accepted_room a line) (refused_room r line) lines in
    cond_both (no_room a r line) [] (line ∷ rest) (λ l. length (accepted l) ≤ a) (λ _. omega arith)
    (λ some. more_accepted a r rest line some (accepted_fit (accepted_room a line) (refused_room r line) lines))

refused_fit : (a r : ℕ) (lines : List Line) → length (refused (fitting a r lines)) ≤ r
unfolding fitting
refused_fit a r [] = omega arith
refused_fit a r (line ∷ lines) =
    let rest = fitting (accepted_room a line) (refused_room r line) lines in
    cond_both (no_room a r line) [] (line ∷ rest) (λ l. length (refused l) ≤ r) (λ _. omega arith)
    (λ some. more_refused a r rest line some (refused_fit (accepted_room a line) (refused_room r line) lines))

-- what a line with no room gives, and one with room
absurd_none : {A : Type 0} (b : Bool) (o : Option Fault) → cond b (Some ListFull) o ≡ None → b ≡ true → A
absurd_none b o e t = let f = cond-true b (Some ListFull) o t in let z : ◌≡◌ {A = ℕ} 0 1 = cc in absurd (omega arith)

all_kept : (a r : ℕ) (lines : List Line) → full_fault a r lines ≡ None → fitting a r lines ≡ lines
unfolding fitting full_fault
all_kept a r [] e = refl
all_kept a r (line ∷ lines) e =
    let a' = accepted_room a line in
    let r' = refused_room r line in
    ⊎_elim (λ full. absurd_none (no_room a r line) (full_fault a' r' lines) e full)
    (λ room. fits a r line lines room ∙ ap (λ l. line ∷ l) (all_kept a' r' lines (sym (goes a r line lines room) ∙ e)))
    (cases_Bool (no_room a r line))

abbrev Stopped : ℕ → ℕ → List Line → List Line → Fault → Type 0
Stopped a r lines kept fault = (fault ≡ ListFull) × LeftOut a r lines kept

same_fault : (fault : Fault) (o : Option Fault) → o ≡ Some fault → o ≡ Some ListFull → fault ≡ ListFull
same_fault fault o e f = cc

stopped : (a r : ℕ) (lines : List Line) (fault : Fault) → full_fault a r lines ≡ Some fault → Stopped a r lines (fitting a r lines) fault
unfolding fitting full_fault
stopped a r [] fault e = let z : ◌≡◌ {A = ℕ} 0 1 = cc in absurd (omega arith)
stopped a r (line ∷ lines) fault e =
    let a' = accepted_room a line in
    let r' = refused_room r line in
    ⊎_elim
    (λ full. (
      same_fault fault _ e (cond-true _ _ _ full),
      subst (LeftOut a r (line ∷ lines)) (sym (cond-true (no_room a r line) [] (line ∷ fitting a' r' lines) full))
          record { line = line; after = lines; whole = refl; full = none_kept a r line full },
    ))
    (λ room.
    let rest = stopped a' r' lines fault (sym (goes a r line lines room) ∙ e) in
    let out = rest.1 in (
      rest.0,
      subst (LeftOut a r (line ∷ lines)) (sym (fits a r line lines room))
          record {
            line = out.line;
            after = out.after;
            whole = ap (λ l. line ∷ l) out.whole;
            full = more_kept a r (fitting a' r' lines) line out.line room out.full;
          },
    ))
    (cases_Bool (no_room a r line))

-- ---- places

-- lines that are kept ascend as all do
spaced-kept : (a r low low' : ℕ) (lines : List Line) → low' ≤ low → Spaced 480 low (places lines) → Spaced 1 low' (places (fitting a r lines))
unfolding fitting
spaced-kept a r low low' [] h s = tt
spaced-kept a r low low' (line ∷ lines) h s =
    cond_both (no_room a r line) [] (line ∷ fitting (accepted_room a line) (refused_room r line) lines) (λ l. Spaced 1 low' (places l)) (λ _. tt)
    (λ _. (omega (arith, s.0), spaced-kept (accepted_room a line) (refused_room r line) (line.place + 480) (line.place + 1) lines (omega arith) s.1))

module _ {S R T : Type 0} (μ : Meaning S R T) (m : S) (readings : List R) where
  spaced-frames : (low : ℕ) (frames : List (Seen R)) → InOrder μ m readings low frames → Spaced 480 low (places (map (frame_line μ m) frames))
  spaced-frames low [] h = tt
  spaced-frames low (f ∷ frames) h = (h.0, spaced-frames (f.place + 480) frames h.2)

  pub indexed : SplitsBack → Runs μ m readings (all_frames μ m readings) → (a r : ℕ) → Indexed a r (recorded μ m readings)
  indexed back runs a r =
      let lines = recorded μ m readings in
      let spaced = spaced-frames 0 (all_frames μ m readings) runs.order in
      record {
        spaced = spaced;
        accepted_fit = accepted_fit a r lines;
        refused_fit = refused_fit a r lines;
        all_kept = all_kept a r lines;
        stopped = stopped a r lines;
        merges = back (fitting a r lines) (spaced-kept a r 0 0 lines (omega arith) spaced);
      }
