use Rattle.std.proofs.Common.{◌≡◌, ◌≤◌, drop}
use Rattle.std.specs.Option.{option_map}
use Rattle.order.specs.Decimals.{digits_after, capped}
use Rattle.order.proofs.decimal.decimal.Given as goal

-- what is left to read gives what the whole text gives
abbrev pub invariant-loop-b : goal.invariant-loop-b
invariant-loop-b l =
    (l.number ≤ 255)
    × (option_map capped (digits_after l.number (drop l.b-index l.text)) ≡ option_map capped (digits_after 0 l.text))
