use Rattle.std.proofs.Common.{◌≡◌, ◌+◌, ◌-◌, ◌^◌, ◌<◌, Some, None, sym, ap, ◌∙◌, subst, arith, pow_pos}
use lib.Bits.{bit_xor}
use Rattle.golay.specs.Golay.{check_of}
use Rattle.golay.specs.Nearest.{Explains}
use Rattle.golay.proofs.Turned.{turned_none, top_small, top_place, top_added, explains_end, explains_turned, explains_other}
use Rattle.golay.proofs.+seek.Goals as goal

pub returns-then-syndrome-left : goal.returns-then-syndrome-left
returns-then-syndrome-left t c = (pow_pos c.args.places, omega (arith, turned_none c.args.syndrome.bits))

pub returns-then-places-eq0 : goal.returns-then-places-eq0
returns-then-places-eq0 t c = explains_end c.args.syndrome.bits c.args.places c.args.left c.then-places-eq0.either c.if-syndrome-left.false

pub invariant_of-bit : goal.invariant_of-bit
invariant_of-bit t c =
    let places = c.args.places in
    let some : 0 < places = omega arith in
    record { fits = omega (arith, top_place places some c.requires, top_small places some c.requires) }

pub returns-in-Some : goal.returns-in-Some
returns-in-Some t c =
    let s = c.args.syndrome.bits in
    let places = c.args.places in
    let left = c.args.left in
    let d = c.in-Some.lower.bits in
    let some : 0 < places = omega arith in
    let bit = top_place places some c.requires in
    let rest : c.bitxor.result.bits ≡ bit_xor s (check_of (2 ^ (places - 1))) = c.bitxor.ensures ∙ ap (bit_xor s) (c.check_bits.ensures ∙ ap check_of bit) in
    let found : Explains c.bitxor.result.bits (places - 1) (left - 1) (Some d) = c.in-Some.ensures in
    let whole : c.bitxor-in-Some.result.bits ≡ d + 2 ^ (places - 1) = c.bitxor-in-Some.ensures ∙ ap (bit_xor d) bit ∙ top_added (places - 1) d found.0 in
    subst (λ x. Explains s places left (Some x)) (sym whole)
    (explains_turned s places left d some (omega arith) (subst (λ x. Explains x (places - 1) (left - 1) (Some d)) rest found))

pub returns-in-None : goal.returns-in-None
returns-in-None t c =
    let s = c.args.syndrome.bits in
    let places = c.args.places in
    let left = c.args.left in
    let some : 0 < places = omega arith in
    let bit = top_place places some c.requires in
    let rest : c.bitxor.result.bits ≡ bit_xor s (check_of (2 ^ (places - 1))) = c.bitxor.ensures ∙ ap (bit_xor s) (c.check_bits.ensures ∙ ap check_of bit) in
    let none : Explains c.bitxor.result.bits (places - 1) (left - 1) None = c.in-None.ensures in
    explains_other s places left _ some (omega arith) (subst (λ x. Explains x (places - 1) (left - 1) None) rest none) c.seek-in-None.ensures
