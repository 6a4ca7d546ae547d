use Rattle.receive.proofs.Hearing.{fich_survives}
use Rattle.receive.proofs.fich.read_fich_marks.Goals as goal

pub returns-clause-survives : goal.returns-clause-survives
returns-clause-survives g c =
    fich_survives g.M.Measure.means g.M.MutedMarks.muted g.met.M.MutedMarks.tied c.args.m.now c.args.readings.now
    c.args.work.now c.read_fich.result c.read_fich.ensures.law
