use Rattle.std.proofs.Common.{◌≡◌, take}
use Rattle.mute.specs.Mutes.{covered}
use Rattle.mute.proofs.covers.Given as goal

abbrev pub invariant-loop-i : goal.invariant-loop-i
invariant-loop-i l = l.inside ≡ covered (take l.i (take l.used l.slots)) l.place
