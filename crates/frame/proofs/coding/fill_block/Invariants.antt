use Rattle.std.proofs.Common.{◌≡◌, ℕ, ◌<◌, get_or}
use Rattle.bits.specs.Bits.{byte_bits}
use Rattle.bits.specs.Dibits.{byte_by}
use Rattle.codes.specs.Convolution.{coded}
use Rattle.codes.specs.Interleaving.{rows_of}
use Rattle.frame.specs.Coding.{dibit_at}
use Rattle.frame.proofs.coding.fill_block.Given as goal

abbrev pub invariant-loop-k : goal.invariant-loop-k
invariant-loop-k l =
    (n : ℕ) → n < l.k → get_or l.block n 0 ≡ byte_by (dibit_at (rows_of l.interleave) (coded (byte_bits l.inputs))) n
