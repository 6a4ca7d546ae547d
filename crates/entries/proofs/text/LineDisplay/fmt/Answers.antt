use Rattle.std.proofs.Common.{◌≡◌, ℕ, ◌<◌, length, get_or, rules}
use Rattle.std.proofs.Output.{has_written_of_eq}
use Rattle.entries.specs.Texts.{flag_number}
use Rattle.entries.proofs.Spelling.{accepted_spelled}
use Rattle.entries.proofs.text.LineDisplay.fmt.Goals as goal

pub returns-in-Ok-clause-writes : goal.returns-in-Ok-clause-writes
returns-in-Ok-clause-writes g c plain ok =
    let wrote =
    rw (c.in_radix.ensures, c.laid_out.ensures, c.in_radix-in-Ok.ensures, c.laid_out-in-Ok.ensures, c.in_radix-in-Ok-2.ensures, c.laid_out-in-Ok-2.ensures, c.in_radix-in-Ok-3.ensures, c.laid_out-in-Ok-3.ensures)
    at c.write.ensures.writes in
    let line = c.args.self.now in
    let bytes = c.bytes.result in
    let four : length bytes ≡ 4 = search rules in
    let fits : (k : ℕ) → k < 4 → get_or bytes k 0 < 256 = λ k h. search rules in
    let flag : c.from-missed.result ≡ flag_number line.missed = search rules in
    let e = accepted_spelled line c.in-Ok.fich c.from-missed.result bytes c.in-Ok.is flag c.bytes.ensures.value four fits in
    has_written_of_eq g.W.Write.write_str_gives _ _ _ _ e (wrote plain ok)
