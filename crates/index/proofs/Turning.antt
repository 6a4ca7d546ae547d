-- One turn of the index: a frame is read and noted.
use Rattle.std.proofs.Common.{◌≡◌, List, [], ◌∷◌, ◌++◌, map, Some, None, Option, Result, sym, ap, ◌∙◌, subst, arith}
use Rattle.std.proofs.lemmas.Bool.Decides.{nat_tests}
use Rattle.fault.specs.declared.Fault.{Fault}
use Rattle.fields.specs.declared.fich.Fich.{Fich}
use Rattle.measure.specs.Meaning.{Meaning}
use Rattle.trellis.specs.Sizes.{Sizes}
use Rattle.trellis.specs.Answers.{size_fault}
use Rattle.walk.specs.Walks.{Seen}
use Rattle.receive.specs.Reading.{fich_answer}
use Rattle.entries.specs.declared.bounded.BoundedList.{BoundedList}
use Rattle.entries.specs.Entries.{FrameEntry, FaultEntry, Line}
use Rattle.entries.specs.Lines.{accepted, refused}
use Rattle.entries.specs.Lists.{capacity, listed, SameSlots}
use Rattle.index.specs.Index.{room, line_of, frame_line, fitting, full_fault}
use Rattle.index.proofs.Going.{Leads, goes_on, stops}

right_sizes : (work : Sizes) → size_fault 480 work.totals work.numbers ≡ None → work ≡ record { totals = 32; numbers = 180 }
right_sizes work e =
    let totals : work.totals ≡ 32 = grind (arith, nat_tests) in
    let numbers : work.numbers ≡ 180 = grind (arith, nat_tests) in
    ap (λ k. record { totals = k; numbers = work.numbers }) totals ∙ ap (λ k. record { totals = 32; numbers = k }) numbers

-- the lines still to come begin with that of the frame that was handed out and read
pub next_line : {S R T : Type 0} (μ : Meaning S R T) (m : S) (frames rest : List (Seen R)) (f : Seen R) (outcome : Result Fich Fault) (now work : Sizes)
    → frames ≡ f ∷ rest → now ≡ work → size_fault 480 work.totals work.numbers ≡ None → outcome ≡ fich_answer μ m f.readings now
    → map (frame_line μ m) frames ≡ line_of f.place f.missed outcome ∷ map (frame_line μ m) rest
next_line μ m frames rest f outcome now work e kept fine is =
    ap (map (frame_line μ m)) e
    ∙ ap (λ o. line_of f.place f.missed o ∷ map (frame_line μ m) rest) (sym (is ∙ ap (fich_answer μ m f.readings) (kept ∙ right_sizes work fine)))

module _ (frames frames' : BoundedList FrameEntry) (faults faults' : BoundedList FaultEntry) (line : Line)
    (lines rest : List Line) (all_frames : List FrameEntry) (all-faults : List FaultEntry) (fault : Option Fault)
    (begin : lines ≡ line ∷ rest)
    (leads : Leads (capacity frames) (capacity faults) (listed frames) (listed faults) lines all_frames all-faults fault)
    (new-frames : listed frames' ≡ listed frames ++ accepted (fitting (room frames) (room faults) (line ∷ [])))
    (new-faults : listed faults' ≡ listed faults ++ refused (fitting (room frames) (room faults) (line ∷ []))) where
  here_leads : Leads (capacity frames) (capacity faults) (listed frames) (listed faults) (line ∷ rest) all_frames all-faults fault
  here_leads = subst (λ l. Leads (capacity frames) (capacity faults) (listed frames) (listed faults) l all_frames all-faults fault) begin leads

  pub turned_on : SameSlots frames frames' → SameSlots faults faults' → full_fault (room frames) (room faults) (line ∷ []) ≡ None
      → Leads (capacity frames') (capacity faults') (listed frames') (listed faults') rest all_frames all-faults fault
  turned_on kf kr none =
      let on = goes_on (capacity frames) (capacity faults) (listed frames) (listed frames') (listed faults) (listed faults') line rest all_frames all-faults fault
      here_leads new-frames new-faults none in
      subst (λ p. Leads p (capacity faults') (listed frames') (listed faults') rest all_frames all-faults fault) (sym kf.room)
      (subst (λ q. Leads (capacity frames) q (listed frames') (listed faults') rest all_frames all-faults fault) (sym kr.room) on)

  pub turned_last : (e : Fault) → full_fault (room frames) (room faults) (line ∷ []) ≡ Some e → (listed frames' ≡ all_frames) × (listed faults' ≡ all-faults) × (Some e ≡ fault)
  turned_last =
      stops (capacity frames) (capacity faults) (listed frames) (listed frames') (listed faults) (listed faults') line rest all_frames all-faults fault
      here_leads new-frames new-faults

-- slots that were kept twice are kept
pub kept_on : {X : Type 0} (before between after : BoundedList X) → SameSlots before between → SameSlots between after → SameSlots before after
kept_on before between after h k = record { room = k.room ∙ h.room; named = k.named ∙ h.named }
