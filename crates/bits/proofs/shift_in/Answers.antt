use Rattle.std.proofs.Common.{◌*◌, ◌%◌, cond, refl, sym, ap, ◌∙◌, arith}
use Rattle.bits.specs.Bits.{bits_of, plus}
use Rattle.bits.proofs.Divides.{shifted_number}
use Rattle.bits.proofs.Sums.{bits_of_xor}
use Rattle.bits.proofs.shift_in.Goals as goal

pub returns-then-top-bit : goal.returns-then-top-bit
returns-then-top-bit c =
    let g = bits_of 16 c.args.taps in
    let twice = c.args.register * 2 % 65536 in
    bits_of_xor 16 twice c.args.taps
    ∙ sym (shifted_number g c.args.register _ c.args.bit (omega arith) refl
    ∙ ap (λ t. cond t (plus (bits_of 16 twice) g) (bits_of 16 twice)) c.if-top-bit.true)

pub returns-else-top-bit : goal.returns-else-top-bit
returns-else-top-bit c =
    let g = bits_of 16 c.args.taps in
    let twice = c.args.register * 2 % 65536 in
    sym (shifted_number g c.args.register _ c.args.bit (omega arith) refl
    ∙ ap (λ t. cond t (plus (bits_of 16 twice) g) (bits_of 16 twice)) c.if-top-bit.false)
