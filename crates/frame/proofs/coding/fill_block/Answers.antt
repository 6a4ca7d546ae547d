use Rattle.std.proofs.Common.{get_or, set, ap, ◌∙◌, arith}
use Rattle.std.proofs.lemmas.List.Edits.{fill_by_more}
use Rattle.bits.specs.Bits.{byte_bits}
use Rattle.bits.specs.Dibits.{byte_by}
use Rattle.codes.specs.Convolution.{coded}
use Rattle.codes.specs.Interleaving.{rows_of}
use Rattle.frame.specs.Coding.{dibit_at}
use Rattle.frame.proofs.Laying.{block_filled}
use Rattle.frame.proofs.coding.fill_block.Goals as goal

pub returns : goal.returns
returns c =
    let f = dibit_at (rows_of c.args.interleave) (coded (byte_bits c.args.inputs.now)) in
    block_filled f (rows_of c.args.interleave) c.loop-k.block (omega (arith, c.requires)) (λ k h. c.loop-k.invariant k (omega arith))
