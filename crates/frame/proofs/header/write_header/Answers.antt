use Rattle.std.proofs.Common.{◌≡◌, ℕ, List, length, Ok, Result, sym, ap, ◌∙◌}
use Rattle.std.proofs.lemmas.Bool.{ne_eqb}
use Rattle.fault.specs.declared.Fault.{Fault}
use Rattle.fields.specs.declared.fich.Fich.{Fich as FichFields}
use Rattle.frame.specs.Header.{header_frame, frame_after}
use Rattle.frame.proofs.Standing.{laid_out}
use Rattle.frame.proofs.header.write_header.Goals as goal

written : (r : Result FichFields Fault) (f : FichFields) (message old : List ℕ) → r ≡ Ok f → length old ≡ 120 → length message ≡ 320
    → header_frame f message ≡ frame_after r message old
written r f message old e a b = rw (e, a, b)

kept : (r : Result FichFields Fault) (f : FichFields) (message old new : List ℕ) → r ≡ Ok f → length old ≡ 120 → (length message ≡ 320 → ⊥) → new ≡ old
    → new ≡ frame_after r message old
kept r f message old new e a b same = rw (e, a, ne_eqb (length message) 320 b) same

pub returns-in_err-fich-clause-layout : goal.returns-in_err-fich-clause-layout
returns-in_err-fich-clause-layout c = laid_out

pub returns-in_default-clause-layout : goal.returns-in_default-clause-layout
returns-in_default-clause-layout c = laid_out

pub returns-in_default-as_array-clause-after : goal.returns-in_default-as_array-clause-after
returns-in_default-as_array-clause-after c =
    kept _ c.in_ok-fich.fich c.args.message.now c.args.frame.now c.in-Some.frame.now (sym c.header.ensures ∙ c.in_ok-fich.was)
    c.in-Some.ensures.cases.long c.in_default-as_array.ensures.cases c.in-Some.ensures.cases.same

pub returns-in_default-as_array-clause-layout : goal.returns-in_default-as_array-clause-layout
returns-in_default-as_array-clause-layout c = laid_out

pub returns-clause-after : goal.returns-clause-after
returns-clause-after c =
    let f = c.in_ok-fich.fich in
    let message = c.in-Some-as_array.ensures.cases in
    c.write_frame.ensures
    ∙ ap (header_frame f) message.same
    ∙ written _ f c.args.message.now c.args.frame.now (sym c.header.ensures ∙ c.in_ok-fich.was) c.in-Some.ensures.cases.long message.long

pub returns-clause-layout : goal.returns-clause-layout
returns-clause-layout c = laid_out
