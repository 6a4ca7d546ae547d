use Rattle.std.proofs.Common.{◌≡◌, length, ap, ap₂, ◌∙◌, arith, ext_get_or, rules}
use Rattle.frame.specs.Coding.{by_turns}
use Rattle.frame.specs.Header.{unit_block, first_data, second_data}
use Rattle.frame.proofs.Turns.{length-by_turns}
use Rattle.frame.proofs.header.write_units.Goals as goal

pub returns : goal.returns
returns c =
    let message = c.args.message.now in
    let first = c.coded_unit-first.result in
    let second = c.coded_unit-second.result in
    let one : length first ≡ 45 = search rules in
    let two : length second ≡ 45 = search rules in
    let long = length-by_turns 9 5 first second (omega arith) (omega arith) in
    let front : c.unwrap.result.now ≡ first_data message = search rules in
    let next : c.unwrap-2.result.now ≡ second_data message = search rules in
    ext_get_or 0 c.loop-k.part (by_turns 9 5 first second) (omega (arith, c.requires)) (λ n h. c.loop-k.invariant n (omega arith))
    ∙ ap₂ (by_turns 9 5) (c.coded_unit-first.ensures ∙ ap unit_block front) (c.coded_unit-second.ensures ∙ ap unit_block next)
