use Rattle.std.proofs.Common.{arith}
use Rattle.receive.proofs.Groups.{three_byte_word}
use Rattle.receive.proofs.words.received.Goals as goal

pub returns-clause-value : goal.returns-clause-value
returns-clause-value c =
    let bytes = c.args.word.now in
    let is = three_byte_word 4 c.args.k bytes c.requires (omega (arith, c.told-word)) c.fits-word in
    omega (arith, is, c.from_be_bytes.ensures)
