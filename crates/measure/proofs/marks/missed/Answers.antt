use Rattle.std.proofs.Common.{ap, ◌∙◌}
use Rattle.bits.specs.Dibits.{value_of}
use Rattle.measure.proofs.Counts.{pair_of, counts_right}
use Rattle.measure.proofs.marks.missed.Goals as goal

pub returns : goal.returns
returns c =
    ap (pair_of c.counts_of.result) c.value.ensures
    ∙ ap (λ n. pair_of n (value_of c.args.supposed)) c.counts_of.ensures
    ∙ counts_right c.args.reading c.args.supposed
