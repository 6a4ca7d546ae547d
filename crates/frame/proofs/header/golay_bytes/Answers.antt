use Rattle.std.proofs.Common.{◌%◌, ap, ◌∙◌}
use Rattle.bits.specs.Bits.{bits_of}
use Rattle.bits.proofs.Numbers.{bits_of_mod}
use Rattle.golay.specs.Golay.{golay}
use Rattle.frame.proofs.Words.{three_bytes, code-bits}
use Rattle.frame.proofs.header.golay_bytes.Goals as goal

pub returns : goal.returns
returns c =
    rw c.to_be_bytes.ensures
    (three_bytes c.codeword.result ∙ ap (bits_of 24) c.codeword.ensures.value ∙ code-bits (c.args.twelve % 4096) ∙ ap golay (bits_of_mod 12 c.args.twelve))
