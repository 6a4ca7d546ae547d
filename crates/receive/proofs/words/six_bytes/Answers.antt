use Rattle.std.proofs.Common.{ap, ◌∙◌, rules}
use Rattle.bits.specs.Bits.{byte_bits}
use Rattle.frame.proofs.Words.{listed_is}
use Rattle.receive.specs.Words.{six_bytes}
use Rattle.receive.proofs.Sixes.{six_are}
use Rattle.receive.proofs.words.six_bytes.Goals as goal

pub returns : goal.returns
returns c =
    let three = c.three_bytes.result in
    let more = c.three_bytes-2.result in
    six_are _ _ _ _ _ _ _ _ _ _ (search rules, (search rules, (search rules, (search rules, (search rules, (search rules, tt))))))
    (ap byte_bits (listed_is 3 three (search rules)) ∙ c.three_bytes.ensures)
    (ap byte_bits (listed_is 3 more (search rules)) ∙ c.three_bytes-2.ensures)
    ∙ ap six_bytes (listed_is 4 c.args.«data» (search rules))
