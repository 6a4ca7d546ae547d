use Rattle.std.proofs.Common.{[], ◌∷◌, ◌++◌, map, Err, sym, refl, ap, ◌∙◌, append-nil}
use Rattle.std.proofs.lemmas.Result.{err_from_is_err_and}
use Rattle.fault.specs.Faults.{refused_or, unless}
use Rattle.fault.proofs.Refusals.{none_refused, fault_refused}
use Rattle.trellis.specs.Answers.{size_fault}
use Rattle.receive.specs.Reading.{or_else}
use Rattle.walk.specs.Walks.{as_seen}
use Rattle.walk.specs.Frames.{to_come}
use Rattle.walk.proofs.Running.{runs}
use Rattle.entries.specs.Lines.{accepted, refused}
use Rattle.entries.specs.Lists.{capacity, listed}
use Rattle.entries.proofs.Merging.{splits_back}
use Rattle.index.specs.Index.{room, line_of, frame_line, recorded, fitting, full_fault}
use Rattle.index.proofs.Going.{begins, done}
use Rattle.index.proofs.Keeping.{indexed}
use Rattle.index.proofs.Turning.{next_line, turned_on, turned_last, kept_on}
use Rattle.index.proofs.index.Goals as goal

pub loop-frame-preserved : goal.loop-frame-preserved
loop-frame-preserved g c =
    let μ = g.M.Measure.means in
    let kept = c.loop-frame.invariant in
    let frames = c.loop-frame.frames in
    let faults = c.loop-frame.faults in
    let frame = c.in-Some.frame in
    let outcome = c.read_fich_marks.result in
    let line = line_of frame.place frame.missed outcome in
    let sizes = none_refused (size_fault 480 c.args.work.now.totals c.args.work.now.numbers) tt tt (sym c.check_sizes.ensures ∙ c.in_ok-check_sizes.was) in
    let begin =
    next_line μ c.args.m.now _ (to_come μ c.next.new.self) (as_seen frame) outcome _ _ c.in-Some.ensures.steps.yields
    kept.3 sizes c.read_fich_marks.ensures.value in
    let none = none_refused (full_fault (room frames) (room faults) (line ∷ [])) tt tt (sym c.note.ensures.value ∙ c.in_ok-note.was) in (
      kept_on c.args.frames.now frames c.note.new.frames kept.0 c.note.ensures.frame_slots,
      kept_on c.args.faults.now faults c.note.new.faults kept.1 c.note.ensures.fault_slots,
      turned_on frames c.note.new.frames faults c.note.new.faults line _ _ _ _ _ begin kept.2
          c.note.ensures.frames c.note.ensures.faults c.note.ensures.frame_slots c.note.ensures.fault_slots none,
      c.read_fich_marks.ensures.kept ∙ kept.3,
    )

pub returns-in_err-check_sizes : goal.returns-in_err-check_sizes
returns-in_err-check_sizes g c =
    let μ = g.M.Measure.means in
    let m = c.args.m.now in
    let readings = c.args.readings.now in
    let frames = c.args.frames.now in
    let faults = c.args.faults.now in
    let lines = recorded μ m readings in
    let kept = fitting (room frames) (room faults) lines in
    let full = full_fault (room frames) (room faults) lines in
    let sizes = size_fault 480 c.args.work.now.totals c.args.work.now.numbers in
    let why = c.in_err-check_sizes.field-0.0 in
    let is = fault_refused sizes tt why (sym c.check_sizes.ensures ∙ c.in_err-check_sizes.was) in
    let p = err_from_is_err_and c.from_residual.result c.from_residual.ensures.1 in
    record {
      value = p.1 ∙ ap Err p.2 ∙ sym (ap (λ o. refused_or (or_else o full) tt) is);
      frames = sym (append-nil (listed frames)) ∙ sym (ap (λ o. listed frames ++ accepted (unless o kept [])) is);
      faults = sym (append-nil (listed faults)) ∙ sym (ap (λ o. listed faults ++ refused (unless o kept [])) is);
      law = indexed μ m readings splits_back (runs μ m readings) (room frames) (room faults);
      frame_slots = record { room = refl; named = refl };
      fault_slots = record { room = refl; named = refl };
      kept = refl;
    }

pub returns-in_err-note : goal.returns-in_err-note
returns-in_err-note g c =
    let μ = g.M.Measure.means in
    let m = c.args.m.now in
    let readings = c.args.readings.now in
    let before = c.args.frames.now in
    let before-faults = c.args.faults.now in
    let lines = recorded μ m readings in
    let all = fitting (room before) (room before-faults) lines in
    let full = full_fault (room before) (room before-faults) lines in
    let sizes = none_refused (size_fault 480 c.args.work.now.totals c.args.work.now.numbers) tt tt (sym c.check_sizes.ensures ∙ c.in_ok-check_sizes.was) in
    let kept = c.loop-frame.invariant in
    let frames = c.loop-frame.frames in
    let faults = c.loop-frame.faults in
    let frame = c.in-Some.frame in
    let outcome = c.read_fich_marks.result in
    let line = line_of frame.place frame.missed outcome in
    let begin =
    next_line μ m _ (to_come μ c.next.new.self) (as_seen frame) outcome _ _ c.in-Some.ensures.steps.yields
    kept.3 sizes c.read_fich_marks.ensures.value in
    let why = c.in_err-note.field-0.0 in
    let stop = fault_refused (full_fault (room frames) (room faults) (line ∷ [])) tt why (sym c.note.ensures.value ∙ c.in_err-note.was) in
    let last =
    turned_last frames c.note.new.frames faults c.note.new.faults line _ _ _ _ _ begin kept.2 c.note.ensures.frames c.note.ensures.faults why stop in
    let p = err_from_is_err_and c.from_residual-in_err-note.result c.from_residual-in_err-note.ensures.1 in
    record {
      value = p.1 ∙ ap Err p.2 ∙ ap (λ o. refused_or o tt) last.2 ∙ sym (ap (λ o. refused_or (or_else o full) tt) sizes);
      frames = last.0 ∙ sym (ap (λ o. listed before ++ accepted (unless o all [])) sizes);
      faults = last.1 ∙ sym (ap (λ o. listed before-faults ++ refused (unless o all [])) sizes);
      law = indexed μ m readings splits_back (runs μ m readings) (room before) (room before-faults);
      frame_slots = kept_on before frames c.note.new.frames kept.0 c.note.ensures.frame_slots;
      fault_slots = kept_on before-faults faults c.note.new.faults kept.1 c.note.ensures.fault_slots;
      kept = c.read_fich_marks.ensures.kept ∙ kept.3;
    }

pub returns : goal.returns
returns g c =
    let μ = g.M.Measure.means in
    let m = c.args.m.now in
    let readings = c.args.readings.now in
    let before = c.args.frames.now in
    let before-faults = c.args.faults.now in
    let lines = recorded μ m readings in
    let all = fitting (room before) (room before-faults) lines in
    let full = full_fault (room before) (room before-faults) lines in
    let sizes = none_refused (size_fault 480 c.args.work.now.totals c.args.work.now.numbers) tt tt (sym c.check_sizes.ensures ∙ c.in_ok-check_sizes.was) in
    let kept = c.loop-frame.invariant in
    let frames = c.loop-frame.frames in
    let faults = c.loop-frame.faults in
    let last =
    done (capacity frames) (capacity faults) (listed frames) (listed faults) _ _ _ _ (ap (map (frame_line μ m)) c.in-None.ensures.steps.yields.0) kept.2 in
    record {
      value = ap (λ o. refused_or o tt) last.2 ∙ sym (ap (λ o. refused_or (or_else o full) tt) sizes);
      frames = last.0 ∙ sym (ap (λ o. listed before ++ accepted (unless o all [])) sizes);
      faults = last.1 ∙ sym (ap (λ o. listed before-faults ++ refused (unless o all [])) sizes);
      law = indexed μ m readings splits_back (runs μ m readings) (room before) (room before-faults);
      frame_slots = kept.0;
      fault_slots = kept.1;
      kept = kept.3;
    }
