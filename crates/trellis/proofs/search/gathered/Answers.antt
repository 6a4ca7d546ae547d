use Rattle.std.proofs.Common.{◌≡◌, ◌+◌, ◌*◌, ◌^◌, [], ◌∷◌, get_or, take, refl, ap, ◌∙◌, pow-suc, add-one, arith}
use Rattle.std.proofs.lemmas.List.{take_more}
use Rattle.bits.specs.Bits.{number_of, number_from}
use Rattle.bits.proofs.Numbers.{number_from-append}
use Rattle.trellis.proofs.search.gathered.Goals as goal

pub loop-bit-init : goal.loop-bit-init
unfolding number_from
loop-bit-init c = (omega arith, refl)

pub loop-bit-preserved : goal.loop-bit-preserved
unfolding number_from
loop-bit-preserved c =
    let k = c.loop-bit.bit-index in
    let eight = c.args.eight.now in
    let b = get_or eight k 0 in
    let more : number_of (take (k + 1) eight) ≡ number_of (take k eight) * 2 + b =
    ap number_of (take_more eight k 0 (omega arith)) ∙ number_from-append (take k eight) (b ∷ []) 0 in
    let twice : 2 ^ (k + 1) ≡ 2 ^ k * 2 = ap (λ n. 2 ^ n) (add-one k) ∙ pow-suc 2 k in
    (omega (arith, twice, c.requires.1 k, c.loop-bit.invariant.0), omega (arith, more, c.loop-bit.invariant.1))
