use Rattle.std.proofs.Common.{◌+◌, ◌*◌, get_or, ap, arith}
use Rattle.receive.proofs.Sixes.{three_are}
use Rattle.receive.proofs.words.three_bytes.Goals as goal

pub returns : goal.returns
returns c =
    let n = c.from.result * 4096 + c.from-2.result in
    let bytes = c.to_be_bytes.ensures in
    three_are c.args.a c.args.b n _ _ _ (omega (arith, c.from.ensures, c.from-2.ensures))
    (ap (λ l. get_or l 1 0) bytes) (ap (λ l. get_or l 2 0) bytes) (ap (λ l. get_or l 3 0) bytes)
