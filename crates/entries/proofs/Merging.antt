-- What a merge keeps, and how lines that were split come back.
use Rattle.std.proofs.Common.{◌≡◌, ℕ, ◌+◌, ◌<◌, ◌≤◌, Bool, leb, List, [], ◌∷◌, Ok, Err, Result, refl, ap, ◌∙◌, arith, le-leb, leb-false, leb-true}
use borrow.Author.Tests.{lt-leb}
use Rattle.std.proofs.lemmas.Bool.{cond-true, cond-false, cond_both}
use Rattle.fault.specs.declared.Fault.{Fault}
use Rattle.fields.specs.declared.fich.Fich.{Fich}
use Rattle.entries.specs.Entries.{FrameEntry, FaultEntry, Line, accepted_line, refused_line}
use Rattle.entries.specs.Lines.{merged, accepted, refused, places, Spaced, HoldsBoth, SplitsBack}

-- a line is that of an accepted frame or of a refused one
module _ (P : Line → Type 0) (read : (frame : FrameEntry) → P (accepted_line frame)) (refuse : (fault : FaultEntry) → P (refused_line fault)) where
  at_outcome : (place : ℕ) (missed : Bool) (outcome : Result Fich Fault) → P record { place = place; missed = missed; outcome = outcome }
  at_outcome place missed (Ok fich) = read record { place = place; missed = missed; outcome = fich }
  at_outcome place missed (Err fault) = refuse record { place = place; missed = missed; outcome = fault }

  pub each_line : (line : Line) → P line
  each_line line = at_outcome line.place line.missed line.outcome

-- a larger gap and a higher start say more
pub spaced_less : (gap less low lower : ℕ) (ps : List ℕ) → less ≤ gap → lower ≤ low → Spaced gap low ps → Spaced less lower ps
spaced_less gap less low lower [] g l s = tt
spaced_less gap less low lower (p ∷ ps) g l s =
    (omega arith, spaced_less gap less (p + gap) (p + less) ps g (omega arith) s.1)

-- nothing lost, nothing twice
frames_kept : (frames : List FrameEntry) (faults : List FaultEntry) → accepted (merged frames faults) ≡ frames
frames_kept [] [] = refl
frames_kept [] (fault ∷ faults) = frames_kept [] faults
frames_kept (frame ∷ frames) [] = ap (λ (l : List FrameEntry). frame ∷ l) (frames_kept frames [])
frames_kept (frame ∷ frames) (fault ∷ faults) =
    cond_both (leb frame.place fault.place) _ _ (λ lines. accepted lines ≡ frame ∷ frames)
    (λ _. ap (λ (l : List FrameEntry). frame ∷ l) (frames_kept frames (fault ∷ faults)))
    (λ _. frames_kept (frame ∷ frames) faults)

faults_kept : (frames : List FrameEntry) (faults : List FaultEntry) → refused (merged frames faults) ≡ faults
faults_kept [] [] = refl
faults_kept [] (fault ∷ faults) = ap (λ (l : List FaultEntry). fault ∷ l) (faults_kept [] faults)
faults_kept (frame ∷ frames) [] = faults_kept frames []
faults_kept (frame ∷ frames) (fault ∷ faults) =
    cond_both (leb frame.place fault.place) _ _ (λ lines. refused lines ≡ fault ∷ faults)
    (λ _. faults_kept frames (fault ∷ faults))
    (λ _. ap (λ (l : List FaultEntry). fault ∷ l) (faults_kept (frame ∷ frames) faults))

in_order : (low : ℕ) (frames : List FrameEntry) (faults : List FaultEntry) → Spaced 0 low (places frames) → Spaced 0 low (places faults) → Spaced 0 low (places (merged frames faults))
in_order low [] [] p q = tt
in_order low [] (fault ∷ faults) p q = (q.0, in_order (fault.place + 0) [] faults tt q.1)
in_order low (frame ∷ frames) [] p q = (p.0, in_order (frame.place + 0) frames [] p.1 tt)
in_order low (frame ∷ frames) (fault ∷ faults) p q =
    cond_both (leb frame.place fault.place) _ _ (λ lines. Spaced 0 low (places lines))
    (λ e. let h = leb-true frame.place fault.place e in
    (p.0, in_order (frame.place + 0) frames (fault ∷ faults) p.1 (omega arith, q.1)))
    (λ e. let h = leb-false frame.place fault.place e in
    (q.0, in_order (fault.place + 0) (frame ∷ frames) faults (omega arith, p.1) q.1))

pub holds_both : (frames : List FrameEntry) (faults : List FaultEntry) → HoldsBoth frames faults (merged frames faults)
holds_both frames faults = record {
  frames_kept = frames_kept frames faults;
  faults_kept = faults_kept frames faults;
  in_order = in_order 0 frames faults;
}

-- the parts of lines that ascend do too
pub accepted-spaced : (gap low : ℕ) (lines : List Line) → Spaced gap low (places lines) → Spaced gap low (places (accepted lines))
accepted-spaced gap low [] s = tt
accepted-spaced gap low (line ∷ lines) s =
    each_line (λ line. Spaced gap low (places (line ∷ lines)) → Spaced gap low (places (accepted (line ∷ lines))))
    (λ frame s. (s.0, accepted-spaced gap (frame.place + gap) lines s.1))
    (λ fault s. accepted-spaced gap low lines (spaced_less gap gap (fault.place + gap) low (places lines) (omega arith) (omega arith) s.1))
    line s

pub refused-spaced : (gap low : ℕ) (lines : List Line) → Spaced gap low (places lines) → Spaced gap low (places (refused lines))
refused-spaced gap low [] s = tt
refused-spaced gap low (line ∷ lines) s =
    each_line (λ line. Spaced gap low (places (line ∷ lines)) → Spaced gap low (places (refused (line ∷ lines))))
    (λ frame s. refused-spaced gap low lines (spaced_less gap gap (frame.place + gap) low (places lines) (omega arith) (omega arith) s.1))
    (λ fault s. (s.0, refused-spaced gap (fault.place + gap) lines s.1))
    line s

-- a frame comes first where no refused one has a smaller place, and a refused one where each frame has a larger place
frame_front : (low : ℕ) (frame : FrameEntry) (frames : List FrameEntry) (faults : List FaultEntry) → frame.place ≤ low → Spaced 1 low (places faults) → merged (frame ∷ frames) faults ≡ accepted_line frame ∷ merged frames faults
frame_front low frame frames [] h s = refl
frame_front low frame frames (fault ∷ faults) h s = cond-true _ _ _ (le-leb frame.place fault.place (omega arith))

fault_front : (low : ℕ) (frames : List FrameEntry) (fault : FaultEntry) (faults : List FaultEntry) → fault.place < low → Spaced 1 low (places frames) → merged frames (fault ∷ faults) ≡ refused_line fault ∷ merged frames faults
fault_front low [] fault faults h s = refl
fault_front low (frame ∷ frames) fault faults h s = cond-false _ _ _ (lt-leb frame.place fault.place (omega arith))

back_from : (low : ℕ) (lines : List Line) → Spaced 1 low (places lines) → merged (accepted lines) (refused lines) ≡ lines
back_from low [] s = refl
back_from low (line ∷ lines) s =
    each_line (λ line. Spaced 1 low (places (line ∷ lines)) → merged (accepted (line ∷ lines)) (refused (line ∷ lines)) ≡ line ∷ lines)
    (λ frame s.
    frame_front (frame.place + 1) frame (accepted lines) (refused lines) (omega arith) (refused-spaced 1 (frame.place + 1) lines s.1)
    ∙ ap (λ (l : List Line). accepted_line frame ∷ l) (back_from (frame.place + 1) lines s.1))
    (λ fault s.
    fault_front (fault.place + 1) (accepted lines) fault (refused lines) (omega arith) (accepted-spaced 1 (fault.place + 1) lines s.1)
    ∙ ap (λ (l : List Line). refused_line fault ∷ l) (back_from (fault.place + 1) lines s.1))
    line s

pub splits_back : SplitsBack
splits_back lines s = back_from 0 lines s
