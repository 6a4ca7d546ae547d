use Rattle.std.proofs.Common.{◌-◌, leb, sym, ◌∙◌, arith}
use Rattle.std.proofs.lemmas.Bool.{cond-true, le-leb}
use Rattle.bits.proofs.Numbers.{bit_at_is}
use Rattle.codes.proofs.convolution.earlier.Goals as goal

pub returns : goal.returns
returns c =
    let i = c.args.i in
    let k = c.args.k in
    c.bit.ensures ∙ bit_at_is c.args.inputs.now (i - k) ∙ sym (cond-true (leb k i) _ 0 (le-leb k i (omega arith)))
