use Rattle.std.proofs.Common.{◌≡◌, ◌++◌, map}
use Rattle.walk.specs.Frames.{to_come}
use Rattle.entries.specs.Lines.{accepted, refused}
use Rattle.entries.specs.Lists.{listed, capacity, SameSlots}
use Rattle.index.specs.Index.{room, frame_line, recorded, fitting, full_fault}
use Rattle.index.proofs.Going.{Leads}
use Rattle.index.proofs.index.Given as goal

abbrev pub invariant-loop-frame : goal.invariant-loop-frame
invariant-loop-frame g l =
    let μ = g.M.Measure.means in
    let lines = recorded μ l.m l.readings in
    let a = room l.initial.frames in
    let r = room l.initial.faults in
    SameSlots l.initial.frames l.frames
    × SameSlots l.initial.faults l.faults
    × Leads (capacity l.frames) (capacity l.faults) (listed l.frames) (listed l.faults) (map (frame_line μ l.m) (to_come μ l.frame-iterator))
    (listed l.initial.frames ++ accepted (fitting a r lines)) (listed l.initial.faults ++ refused (fitting a r lines)) (full_fault a r lines)
    × (l.work ≡ l.initial.work)
