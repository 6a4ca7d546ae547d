use Rattle.std.proofs.Common.{◌≡◌, ◌^◌, ◌<◌, take}
use Rattle.bits.specs.Bits.{number_of}
use Rattle.trellis.proofs.search.gathered.Given as goal

abbrev pub invariant-loop-bit : goal.invariant-loop-bit
invariant-loop-bit l = (l.byte < 2 ^ l.bit-index) × (l.byte ≡ number_of (take l.bit-index l.eight))
