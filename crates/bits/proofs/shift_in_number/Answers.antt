use Rattle.std.proofs.Common.{◌≡◌, ℕ, suc, ◌<◌, cond, eqb, ltb, ◌-◌, ◌/◌, ◌%◌, ◌^◌, sym, ap, ◌∙◌, mod-lt, arith}
use Rattle.std.proofs.lemmas.Nat.Bits.{bit_at_above}
use Rattle.bits.specs.Bits.{bits_of}
use Rattle.bits.specs.Division.{shifted, fed}
use Rattle.bits.proofs.Numbers.{bit_test}
use Rattle.bits.proofs.Divides.{fed_next, fed_none}
use Rattle.bits.proofs.shift_in_number.Goals as goal

-- a bit above the sixteen is 0
shifted_out : (n j : ℕ) → n < 2 ^ 16 → cond (ltb j 16) (n / 2 ^ j) 0 % 2 ≡ n / 2 ^ j % 2
shifted_out n j h = grind (arith, bit_at_above n 16 j h)

pub loop-place-preserved : goal.loop-place-preserved
loop-place-preserved c =
    let n = c.args.number in
    let j = c.loop-place.place - 1 in
    let g = bits_of 16 c.args.taps in
    let register = bits_of 16 c.loop-place.rest in
    let bit = n / 2 ^ j % 2 in
    let next : suc j ≡ c.loop-place.place = omega arith in
    let out : c.unbounded_shr.result % 2 ≡ bit = ap (λ m. m % 2) c.unbounded_shr.ensures ∙ shifted_out n j (omega arith) in
    let fed-in = c.shift_in-rest.ensures ∙ ap (λ b. shifted g register (cond (eqb b 1) 1 0)) out ∙ ap (shifted g register) (bit_test bit (mod-lt (n / 2 ^ j) (omega arith))) in
    ap (λ l. fed g l (bits_of j n)) fed-in ∙ sym (fed_next g register j n) ∙ ap (λ k. fed g register (bits_of k n)) next ∙ c.loop-place.invariant

pub returns : goal.returns
returns c =
    let n = c.args.number in
    let rest = bits_of 16 c.loop-place.rest in
    let g = bits_of 16 c.args.taps in
    let none : 0 ≡ c.loop-place.place = omega arith in
    sym (fed_none g rest n) ∙ ap (λ k. fed g rest (bits_of k n)) none ∙ c.loop-place.invariant
