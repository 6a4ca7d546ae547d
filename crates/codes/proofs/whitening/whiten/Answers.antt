use Rattle.std.proofs.Common.{◌*◌, length, arith, rules}
use Rattle.bits.specs.Bits.{bits_of}
use Rattle.codes.proofs.Whites.{white_start, white_more, white_all, recurs}
use Rattle.codes.proofs.whitening.whiten.Goals as goal

pub loop-byte-init : goal.loop-byte-init
loop-byte-init c =
    let bytes = c.args.bytes.now in
    (omega arith, white_start bytes)

pub loop-byte-preserved : goal.loop-byte-preserved
loop-byte-preserved c = (
  c.eight_on-register.ensures.small,
  white_more c.loop-byte.bytes _ c.loop-byte.byte-index c.loop-byte.register c.eight_on-register.result (omega arith) (search rules) c.loop-byte.invariant.0 c.eight_on-register.ensures.bits c.loop-byte.invariant.1,
)

pub returns : goal.returns
returns c =
    record {
      value = white_all c.loop-byte.bytes _ (bits_of 9 c.loop-byte.register) c.loop-byte.byte-index (omega arith) c.loop-byte.invariant.1;
      rule = recurs (8 * length c.args.bytes.now);
    }
