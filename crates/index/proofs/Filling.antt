-- What noting one line leaves in the two lists.
use Rattle.std.proofs.Common.{◌≡◌, ℕ, ◌-◌, Bool, true, false, cond, eqb, leb, List, [], ◌∷◌, ◌++◌, length, Some, None, Ok, Err, Option, Result, sym, refl, ap, ◌∙◌, subst, append-nil, arith}
use Rattle.std.proofs.lemmas.Bool.Decides.{nat_tests}
use Rattle.fault.specs.declared.Fault.{Fault}
use Rattle.fault.specs.declared.Fault.TheVariants.{ListFull}
use Rattle.fault.specs.Faults.{unless}
use Rattle.fields.specs.declared.fich.Fich.{Fich}
use Rattle.entries.specs.Entries.{FrameEntry, FaultEntry, Line, accepted_line, refused_line}
use Rattle.entries.specs.Lines.{accepted, refused}
use Rattle.entries.specs.declared.bounded.BoundedList.{BoundedList}
use Rattle.entries.specs.Lists.{capacity, listed, push_fault}
use Rattle.index.specs.Index.{room, line_of, fitting, full_fault}

-- a list with no room left is full
none_left : (capacity length : ℕ) → leb capacity length ≡ eqb (capacity - length) 0
none_left capacity length = grind (arith, nat_tests)

abbrev fault_when : Bool → Option Fault
fault_when full = cond full (Some ListFull) None

-- a push, by whether the list is full
push_as : {X : Type 0} (full : Bool) (xs : List X) (x : X) → unless (fault_when full) (xs ++ x ∷ []) xs ≡ xs ++ cond full [] (x ∷ [])
push_as true xs x = sym (append-nil xs)
push_as false xs x = refl

accepted_when : (full : Bool) (e : FrameEntry) → (accepted (cond full [] (accepted_line e ∷ [])) ≡ cond full [] (e ∷ [])) × (refused (cond full [] (accepted_line e ∷ [])) ≡ [])
accepted_when true e = (refl, refl)
accepted_when false e = (refl, refl)

refused_when : (full : Bool) (e : FaultEntry) → (refused (cond full [] (refused_line e ∷ [])) ≡ cond full [] (e ∷ [])) × (accepted (cond full [] (refused_line e ∷ [])) ≡ [])
refused_when true e = (refl, refl)
refused_when false e = (refl, refl)

module _ (frames : BoundedList FrameEntry) (faults : BoundedList FaultEntry) where
  -- the answer and what the lists then hold are those of a line put where it fits
  pub record Noted (line : Line) (answer : Option Fault) (some-frames : List FrameEntry) (some-faults : List FaultEntry) : Type 0 where
    pub fault : answer ≡ full_fault (room frames) (room faults) (line ∷ [])
    pub frames_now : some-frames ≡ listed frames ++ accepted (fitting (room frames) (room faults) (line ∷ []))
    pub faults_now : some-faults ≡ listed faults ++ refused (fitting (room frames) (room faults) (line ∷ []))

  frame_noted : (e : FrameEntry) → Noted (accepted_line e) (push_fault frames) (unless (push_fault frames) (listed frames ++ e ∷ []) (listed frames)) (listed faults)
  unfolding fitting full_fault
  frame_noted e =
      let full = eqb (room frames) 0 in
      let is = none_left (capacity frames) (length (listed frames)) in
      record {
        fault = ap fault_when is;
        frames_now =
            ap (λ b. unless (fault_when b) (listed frames ++ e ∷ []) (listed frames)) is
            ∙ push_as full (listed frames) e
            ∙ ap (λ l. listed frames ++ l) (sym (accepted_when full e).0);
        faults_now = sym (append-nil (listed faults)) ∙ ap (λ l. listed faults ++ l) (sym (accepted_when full e).1);
      }

  fault_noted : (e : FaultEntry) → Noted (refused_line e) (push_fault faults) (listed frames) (unless (push_fault faults) (listed faults ++ e ∷ []) (listed faults))
  unfolding fitting full_fault
  fault_noted e =
      let full = eqb (room faults) 0 in
      let is = none_left (capacity faults) (length (listed faults)) in
      record {
        fault = ap fault_when is;
        frames_now = sym (append-nil (listed frames)) ∙ ap (λ l. listed frames ++ l) (sym (refused_when full e).1);
        faults_now =
            ap (λ b. unless (fault_when b) (listed faults ++ e ∷ []) (listed faults)) is
            ∙ push_as full (listed faults) e
            ∙ ap (λ l. listed faults ++ l) (sym (refused_when full e).0);
      }

  pub frame_line_noted : (place : ℕ) (missed : Bool) (outcome : Result Fich Fault) (fich : Fich) → outcome ≡ Ok fich
      → Noted (line_of place missed outcome) (push_fault frames)
      (unless (push_fault frames) (listed frames ++ record { place = place; missed = missed; outcome = fich } ∷ []) (listed frames)) (listed faults)
  frame_line_noted place missed outcome fich o =
      let e : FrameEntry = record { place = place; missed = missed; outcome = fich } in
      subst (λ out. Noted (line_of place missed out) (push_fault frames) (unless (push_fault frames) (listed frames ++ e ∷ []) (listed frames)) (listed faults))
      (sym o) (frame_noted e)

  pub fault_line_noted : (place : ℕ) (missed : Bool) (outcome : Result Fich Fault) (fault : Fault) → outcome ≡ Err fault
      → Noted (line_of place missed outcome) (push_fault faults) (listed frames)
      (unless (push_fault faults) (listed faults ++ record { place = place; missed = missed; outcome = fault } ∷ []) (listed faults))
  fault_line_noted place missed outcome fault o =
      let e : FaultEntry = record { place = place; missed = missed; outcome = fault } in
      subst (λ out. Noted (line_of place missed out) (push_fault faults) (listed frames) (unless (push_fault faults) (listed faults ++ e ∷ []) (listed faults)))
      (sym o) (fault_noted e)
