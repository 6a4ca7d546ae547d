use Rattle.std.proofs.Common.{◌≡◌, ◌<◌, ◌++◌, take, drop}
use Rattle.bits.specs.Bits.{bits_of}
use Rattle.codes.specs.Whitening.{whitened}
use Rattle.codes.proofs.Whites.{white_from}
use Rattle.codes.proofs.whitening.whiten.Given as goal

abbrev pub invariant-loop-byte : goal.invariant-loop-byte
invariant-loop-byte l =
    (l.register < 512)
    × (take l.byte-index l.bytes ++ white_from (bits_of 9 l.register) (drop l.byte-index l.bytes) ≡ whitened l.initial.bytes)
