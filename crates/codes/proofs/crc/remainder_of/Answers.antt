use Rattle.std.proofs.Common.{◌≡◌, get_or, sym, ap, ◌∙◌, arith, rules}
use Rattle.std.proofs.lemmas.List.{at_drop_all}
use Rattle.bits.specs.Bits.{bits_of, byte_bits}
use Rattle.bits.specs.Division.{fed}
use Rattle.codes.specs.Crc.{crc_generator}
use Rattle.codes.proofs.Checks.{fed_byte, crc-start, generator-bits}
use Rattle.codes.proofs.crc.remainder_of.Goals as goal

pub loop-byte-init : goal.loop-byte-init
loop-byte-init c = crc-start c.args.bytes.now

pub loop-byte-preserved : goal.loop-byte-preserved
loop-byte-preserved c =
    let from-byte : c.from.result ≡ get_or c.args.bytes.now c.loop-byte.byte-index 0 = search rules in
    let s = bits_of 16 c.loop-byte.rest in
    let fed-in =
    c.shift_in_number-rest.ensures ∙ ap (λ g. fed g s (bits_of 8 c.from.result)) generator-bits ∙ ap (λ n. fed crc_generator s (bits_of 8 n)) from-byte in
    fed_byte crc_generator (bits_of 16 c.loop-byte.rest) (bits_of 16 c.shift_in_number-rest.result) _ c.args.bytes.now c.loop-byte.byte-index
    (omega arith) fed-in c.loop-byte.invariant

pub returns : goal.returns
unfolding fed byte_bits
returns c =
    let s = bits_of 16 c.loop-byte.rest in
    sym (at_drop_all (λ l. fed crc_generator s (byte_bits l)) c.args.bytes.now c.loop-byte.byte-index (omega arith)) ∙ c.loop-byte.invariant
