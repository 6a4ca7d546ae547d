use Rattle.std.proofs.Common.{refl, ap, ◌∙◌}
use Rattle.fault.specs.Faults.{refused_or}
use Rattle.index.proofs.Filling.{frame_line_noted, fault_line_noted}
use Rattle.index.proofs.note.Goals as goal

pub returns-in-Ok : goal.returns-in-Ok
returns-in-Ok c =
    let line = c.args.line in
    let noted = frame_line_noted c.args.frames.now c.args.faults.now line.place line.missed line.outcome c.in-Ok.fich c.in-Ok.is in
    record {
      value = c.push.ensures.value ∙ ap (λ o. refused_or o tt) noted.fault;
      frames = c.push.ensures.items ∙ noted.frames_now;
      faults = noted.faults_now;
      frame_slots = c.push.ensures.kept;
      fault_slots = record { room = refl; named = refl };
    }

pub returns-in-Err : goal.returns-in-Err
returns-in-Err c =
    let line = c.args.line in
    let noted = fault_line_noted c.args.frames.now c.args.faults.now line.place line.missed line.outcome c.in-Err.fault c.in-Err.is in
    record {
      value = c.push-in-Err.ensures.value ∙ ap (λ o. refused_or o tt) noted.fault;
      frames = noted.frames_now;
      faults = c.push-in-Err.ensures.items ∙ noted.faults_now;
      frame_slots = record { room = refl; named = refl };
      fault_slots = c.push-in-Err.ensures.kept;
    }
