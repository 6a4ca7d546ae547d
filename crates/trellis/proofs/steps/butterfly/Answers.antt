use Rattle.std.proofs.Common.{◌+◌, ◌*◌, cond, get_or, refl, ap, ◌∙◌, arith}
use Rattle.std.proofs.lemmas.List.{get_or_default}
use Rattle.trellis.specs.Steps.{hears, winner}
use Rattle.trellis.proofs.Butterflies.{four_ways, winner_is, ones_are}
use Rattle.trellis.proofs.steps.butterfly.Goals as goal

pub returns : goal.returns
returns g c =
    let μ = g.M.Measure.means in
    let m = c.args.m.now in
    let old = c.args.old.now in
    let j = c.args.j in
    let both = c.args.both in
    let y = hears c.args.place c.args.reading.now in
    let low = get_or_default old j c.index-old-j.result (μ.start m) (omega arith) in
    let high = get_or_default old (j + 8) c.index-old-j-2.result (μ.start m) (omega arith) in
    let ways = four_ways μ m y old j _ _ _ _ c.requires low high c.output_of.ensures refl in
    let even_zero = ap (λ l. get_or l 0 c.index-ways-0.result) c.four_ways-ways.ensures ∙ ways.even_zero in
    let even_one = ap (λ l. get_or l 1 c.index-ways-1.result) c.four_ways-ways.ensures ∙ ways.even_one in
    let odd_zero = ap (λ l. get_or l 2 c.index-ways-2.result) c.four_ways-ways.ensures ∙ ways.odd_zero in
    let odd_one = ap (λ l. get_or l 3 c.index-ways-3.result) c.four_ways-ways.ensures ∙ ways.odd_one in
    let even-only = ap (λ l. get_or l 0 c.index-ways-0-2.result) c.four_ways-ways.ensures ∙ ways.even_zero in
    let odd-only = ap (λ l. get_or l 2 c.index-ways-2-2.result) c.four_ways-ways.ensures ∙ ways.odd_zero in
    let even = winner_is μ m y old (2 * j) _ _ even_zero even_one in
    let odd = winner_is μ m y old (2 * j + 1) _ _ odd_zero odd_one in
    record {
      even =
          c.if_both.ensures
          ∙ ap (λ t. cond both t (get_or c.four_ways-ways.result 0 c.index-ways-0-2.result)) (ap (λ p. p.0) c.pick-even.ensures ∙ even.0)
          ∙ ap (λ t. cond both (winner μ m y old (2 * j)) t) even-only;
      odd =
          c.if_both-2.ensures
          ∙ ap (λ t. cond both t (get_or c.four_ways-ways.result 2 c.index-ways-2-2.result)) (ap (λ p. p.0) c.pick-odd.ensures ∙ odd.0)
          ∙ ap (λ t. cond both (winner μ m y old (2 * j + 1)) t) odd-only;
      ones =
          ones_are c.from.result c.from-2.result _ _ _ _ c.from.ensures c.from-2.ensures
          (ap (λ p. p.1) c.pick-even.ensures ∙ even.1) (ap (λ p. p.1) c.pick-odd.ensures ∙ odd.1);
    }
