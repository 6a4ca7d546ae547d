use Rattle.std.proofs.Common.{◌≡◌, drop}
use Rattle.bits.specs.Bits.{bits_of, byte_bits}
use Rattle.bits.specs.Division.{remainder, fed}
use Rattle.codes.specs.Crc.{crc_generator}
use Rattle.codes.proofs.crc.remainder_of.Given as goal

abbrev pub invariant-loop-byte : goal.invariant-loop-byte
invariant-loop-byte l =
    fed crc_generator (bits_of 16 l.rest) (byte_bits (drop l.byte-index l.bytes)) ≡ remainder crc_generator (byte_bits l.bytes)
