use Rattle.std.proofs.Common.{◌≡◌, ◌+◌, ◌*◌, ◌/◌, ◌%◌, ap, ◌∙◌, arith, rules}
use Rattle.bits.specs.Bits.{bits_of, byte_bits}
use Rattle.golay.specs.Golay.{golay}
use Rattle.frame.proofs.Words.{two_listed, words_of_three}
use Rattle.frame.proofs.header.golay_pair.Goals as goal

pub returns : goal.returns
returns c =
    let one = c.golay_bytes.result in
    let two = c.golay_bytes-2.result in
    let first : byte_bits one ≡ golay (bits_of 12 (c.args.a * 16 + c.args.b / 16)) =
    c.golay_bytes.ensures ∙ ap (λ x. golay (bits_of 12 x)) (omega (arith, c.from.ensures, c.from-2.ensures)) in
    let second : byte_bits two ≡ golay (bits_of 12 (c.args.b % 16 * 256 + c.args.c)) =
    c.golay_bytes-2.ensures ∙ ap (λ x. golay (bits_of 12 x)) (omega (arith, c.from-3.ensures, c.from-4.ensures)) in
    two_listed 3 3 one two _ _ (search rules) (search rules) first second
    ∙ words_of_three c.args.a c.args.b c.args.c (search rules) (search rules)
