use Rattle.std.proofs.Common.{◌-◌, ◌/◌, ◌%◌, ◌^◌, sym, ◌∙◌, mod-lt, arith}
use Rattle.bits.proofs.Numbers.{get_or-bits_of, bit_test}
use Rattle.bits.proofs.bit_of.Goals as goal

pub returns : goal.returns
returns c =
    let byte = c.args.byte in
    let k = c.args.k in
    bit_test (byte / 2 ^ (7 - k) % 2) (mod-lt (byte / 2 ^ (7 - k)) (omega arith)) ∙ sym (get_or-bits_of 8 byte k (7 - k) (omega arith))
