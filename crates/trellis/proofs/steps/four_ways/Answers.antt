use Rattle.std.proofs.Common.{◌≡◌, [], ◌∷◌, get_or, set, sym, refl, ap, ◌∙◌, add-one, arith}
use Rattle.bits.specs.declared.Dibit.{Dibit}
use Rattle.bits.specs.declared.Dibit.TheVariants.{D00}
use Rattle.trellis.proofs.Ways.{each, each_more}
use Rattle.trellis.proofs.steps.four_ways.Goals as goal

pub loop-w-init : goal.loop-w-init
unfolding each
loop-w-init g c = refl

pub loop-w-preserved : goal.loop-w-preserved
loop-w-preserved g c =
    let f : g.row.M-Total.Denot → Dibit → g.row.M-Total.Denot = λ t d. g.M.Measure.means.extend c.args.m.now t c.args.place c.args.reading.now d in
    let w = c.loop-w.w in
    let ds = c.args.plain ∷ c.turned_over-turned.result ∷ c.turned_over-turned.result ∷ c.args.plain ∷ [] in
    let ts = c.args.low ∷ c.args.high ∷ c.args.low ∷ c.args.high ∷ [] in
    ap (λ l. set l w c.extend.result) c.loop-w.invariant
    ∙ ap (set (each f ts ds w) w) (c.extend.ensures ∙ ap (λ l. f (get_or l w c.index-ways-w.result) (get_or ds w D00)) c.loop-w.invariant)
    ∙ each_more f ts ds w c.index-ways-w.result D00 (omega arith) (omega arith)
    ∙ ap (each f ts ds) (sym (add-one w))

pub returns : goal.returns
unfolding each
returns g c =
    let f : g.row.M-Total.Denot → Dibit → g.row.M-Total.Denot = λ t d. g.M.Measure.means.extend c.args.m.now t c.args.place c.args.reading.now d in
    let low = c.args.low in
    let high = c.args.high in
    let plain = c.args.plain in
    let e : c.loop-w.w ≡ 4 = omega arith in
    c.loop-w.invariant
    ∙ ap (each f (low ∷ high ∷ low ∷ high ∷ []) (plain ∷ c.turned_over-turned.result ∷ c.turned_over-turned.result ∷ plain ∷ [])) e
    ∙ ap (λ d. f low plain ∷ f high d ∷ f low d ∷ f high plain ∷ []) c.turned_over-turned.ensures
