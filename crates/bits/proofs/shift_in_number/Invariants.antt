use Rattle.std.proofs.Common.{◌≡◌}
use Rattle.bits.specs.Bits.{bits_of}
use Rattle.bits.specs.Division.{fed}
use Rattle.bits.proofs.shift_in_number.Given as goal

-- the bits still to come make of the register what all of them make of the one at the start
abbrev pub invariant-loop-place : goal.invariant-loop-place
invariant-loop-place l =
    let g = bits_of 16 l.taps in
    fed g (bits_of 16 l.rest) (bits_of l.place l.number) ≡ fed g (bits_of 16 l.register) (bits_of l.width l.number)
