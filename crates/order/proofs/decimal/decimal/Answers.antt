use Rattle.std.proofs.Common.{sym, ◌∙◌, arith}
use Rattle.order.proofs.Numbers.{digits_more}
use Rattle.order.proofs.decimal.decimal.Goals as goal

pub loop-b-preserved : goal.loop-b-preserved
loop-b-preserved c =
    let more = digits_more c.args.text.now c.loop-b.b-index c.saturating_add-number.result c.loop-b.number c.loop-b-test.true (sym c.if-not-is_ascii_digit.ensures.value) (omega arith) in
    (omega arith, more ∙ c.loop-b.invariant.1)
