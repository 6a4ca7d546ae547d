use Rattle.std.proofs.Common.{◌≡◌, ◌-◌, ◌<◌}
use Rattle.bits.specs.Bits.{bits_of}
use Rattle.codes.specs.Whitening.{further}
use Rattle.codes.proofs.whitening.eight_on.Given as goal

abbrev pub invariant-loop-k : goal.invariant-loop-k
invariant-loop-k l = (l.further_on < 512) × (further (8 - l._k) (bits_of 9 l.further_on) ≡ further 8 (bits_of 9 l.register))
