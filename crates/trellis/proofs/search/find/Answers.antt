use Rattle.std.proofs.Common.{arith}
use Rattle.std.proofs.lemmas.List.{get_or_default}
use Rattle.trellis.proofs.Finding.{sizes, path_bits, path_long, found}
use Rattle.trellis.proofs.search.find.Goals as goal

pub word_of-requires : goal.word_of-requires
word_of-requires g c =
    let ds = c.weigh.new.decisions in
    let path = c.trace.new.decisions in
    (omega (arith, path_long ds path c.trace.ensures, (sizes c.args.block).3, c.requires.1), path_bits ds path c.trace.ensures)

pub returns : goal.returns
returns g c =
    let μ = g.M.Measure.means in
    let m = c.args.m.now in
    found μ m g.met.M.Measure.lawful c.args.block c.args.readings.now c.weigh.new.bank c.weigh.new.decisions
    c.trace.new.decisions c.word_of.result _
    (omega arith) (omega (arith, c.requires.1)) c.weigh.ensures c.trace.ensures c.word_of.ensures
    (get_or_default c.weigh.new.bank 0 c.index-bank-0.result (μ.start m) (omega arith))
