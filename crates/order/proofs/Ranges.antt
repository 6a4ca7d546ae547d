-- A number that is capped at one byte is allowed just where the number itself is.
use Rattle.std.proofs.Common.{◌≡◌, ℕ, ◌≤◌, false, Some, None, Option, refl, ⊎_elim, arith}
use Rattle.std.specs.Option.{option_map}
use Rattle.std.proofs.lemmas.Bool.{cases_lt}
use Rattle.std.proofs.lemmas.Bool.Decides.{nat_tests}
use Rattle.order.specs.declared.Order.{Order}
use Rattle.order.specs.declared.keys.Setting.{Setting}
use Rattle.order.specs.declared.keys.Setting.TheVariants.{Cm, Dev, Mr, Voip, Sql, Sc}
use Rattle.order.specs.Decimals.{capped}
use Rattle.order.specs.Keys.{allows}
use Rattle.order.specs.Orders.{written_number}

large : (setting : Setting) (n : ℕ) → 128 ≤ n → allows setting n ≡ false
large Cm n h = grind (arith, nat_tests)
large Dev n h = grind (arith, nat_tests)
large Mr n h = grind (arith, nat_tests)
large Voip n h = grind (arith, nat_tests)
large Sql n h = grind (arith, nat_tests)
large Sc n h = grind (arith, nat_tests)

pub written-capped : (o : Order) (setting : Setting) (d : Option ℕ) → written_number o setting (option_map capped d) ≡ written_number o setting d
written-capped o setting None = refl
written-capped o setting (Some n) =
    ⊎_elim
    (λ small. let same : capped n ≡ n = omega arith in rw same)
    (λ big. let wide : 128 ≤ capped n = omega arith in rw (large setting (capped n) wide, large setting n big))
    (cases_lt n 128)
