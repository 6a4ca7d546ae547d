use Rattle.std.proofs.Common.{◌≡◌, ◌-◌, ◌/◌, ◌%◌, length, get_or, sym, ap, ◌∙◌, rules, arith}
use Rattle.frame.specs.Coding.{by_turns}
use Rattle.frame.proofs.Turns.{get_or-first, get_or-second}
use Rattle.frame.proofs.header.piece_byte.Goals as goal

pub returns-then-k-lt9 : goal.returns-then-k-lt9
returns-then-k-lt9 c =
    let xs = c.args.first.now in
    let ys = c.args.second.now in
    let q = c.args.k / 18 in
    let r = c.args.k % 18 in
    let one : length xs ≡ 45 = search rules in
    let two : length ys ≡ 45 = search rules in
    ap (λ n. get_or xs n 0) (omega arith)
    ∙ sym (get_or-first 9 5 q r xs ys 0 (omega arith) (omega arith) (omega arith) (omega arith))
    ∙ ap (λ n. get_or (by_turns 9 5 xs ys) n 0) (omega arith)

pub returns-else-k-lt9 : goal.returns-else-k-lt9
returns-else-k-lt9 c =
    let xs = c.args.first.now in
    let ys = c.args.second.now in
    let q = c.args.k / 18 in
    let r = c.args.k % 18 - 9 in
    let one : length xs ≡ 45 = search rules in
    let two : length ys ≡ 45 = search rules in
    ap (λ n. get_or ys n 0) (omega arith)
    ∙ sym (get_or-second 9 5 q r xs ys 0 (omega arith) (omega arith) (omega arith) (omega arith))
    ∙ ap (λ n. get_or (by_turns 9 5 xs ys) n 0) (omega arith)
