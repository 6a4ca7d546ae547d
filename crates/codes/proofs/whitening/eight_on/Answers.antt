use Rattle.std.proofs.Common.{◌≡◌, suc, ◌+◌, ◌-◌, ap, ◌∙◌, arith}
use Rattle.bits.specs.Bits.{bits_of}
use Rattle.codes.specs.Whitening.{further}
use Rattle.codes.proofs.whitening.eight_on.Goals as goal

pub loop-k-preserved : goal.loop-k-preserved
unfolding further
loop-k-preserved c =
    let left = 8 - (c.loop-k._k + 1) in
    let e : suc left ≡ 8 - c.loop-k._k = omega arith in (
      c.one_on-further_on.ensures.small,
      ap (further left) c.one_on-further_on.ensures.bits ∙ ap (λ n. further n (bits_of 9 c.loop-k.further_on)) e ∙ c.loop-k.invariant.1,
    )

pub returns : goal.returns
unfolding further
returns c =
    let e : 0 ≡ 8 - c.loop-k._k = omega arith in
    record { small = c.loop-k.invariant.0; bits = ap (λ n. further n (bits_of 9 c.loop-k.further_on)) e ∙ c.loop-k.invariant.1 }
