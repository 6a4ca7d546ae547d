use Rattle.std.proofs.Common.{◌≡◌, drop}
use Rattle.receive.specs.Reading.{first_improper}
use Rattle.receive.proofs.fich.check_proper.Given as goal

abbrev pub invariant-loop-place : goal.invariant-loop-place
invariant-loop-place g l =
    let proper = g.M.Measure.means.proper l.m in
    first_improper proper l.place (drop l.place l.readings) ≡ first_improper proper 0 l.readings
