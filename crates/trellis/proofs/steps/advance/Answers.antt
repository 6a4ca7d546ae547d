use Rattle.std.proofs.Common.{◌*◌, length, refl, ap, ◌∙◌, arith, rules, length-set}
use Rattle.trellis.specs.Steps.{packed, one_wins, kept, hears}
use Rattle.trellis.proofs.Butterflies.{decisions_more, two_more}
use Rattle.trellis.proofs.steps.advance.Goals as goal

pub loop-j-init : goal.loop-j-init
unfolding packed
loop-j-init g c = (c.told-new, refl, λ s h. absurd (omega arith))

pub overflow_add-decisions : goal.overflow_add-decisions
overflow_add-decisions g c =
    let f = one_wins g.M.Measure.means c.args.m.now (hears c.args.place c.args.reading.now) c.args.old.now in
    let more = decisions_more f c.loop-j.j c.loop-j.decisions c.butterfly-pair.result.ones (omega arith) c.loop-j.invariant.1 c.butterfly-pair.ensures.ones in
    let fits = more.1 in
    search rules

pub loop-j-preserved : goal.loop-j-preserved
loop-j-preserved g c =
    let μ = g.M.Measure.means in
    let m = c.args.m.now in
    let old = c.args.old.now in
    let y = hears c.args.place c.args.reading.now in
    let j = c.loop-j.j in
    let more = decisions_more (one_wins μ m y old) j c.loop-j.decisions c.butterfly-pair.result.ones (omega arith) c.loop-j.invariant.1 c.butterfly-pair.ensures.ones in (
      ap length c.store-in-loop-j.ensures ∙ length-set _ _ _ ∙ ap length c.store.ensures ∙ length-set _ _ _ ∙ c.loop-j.invariant.0,
      more.0,
      λ s h.
          two_more c.loop-j.new c.store.new.bank c.store-in-loop-j.new.bank (2 * j) c.butterfly-pair.result.even c.butterfly-pair.result.odd (μ.start m) (kept μ m c.args.both y old)
          (omega (arith, c.loop-j.invariant.0)) c.store.ensures c.store-in-loop-j.ensures
          c.butterfly-pair.ensures.even c.butterfly-pair.ensures.odd c.loop-j.invariant.2 s (omega arith),
    )
