use Rattle.std.proofs.Common.{◌≡◌, sym, ap, ◌∙◌}
use Rattle.order.specs.Decimals.{decimal, byte_of}
use Rattle.order.specs.Orders.{written, written_number}
use Rattle.order.proofs.Ranges.{written-capped}
use Rattle.order.proofs.Order.write.Goals as goal

pub returns-in-Number : goal.returns-in-Number
returns-in-Number c =
    let order = c.args.self.now in
    let value = c.args.value.now in
    let setting = c.in-Number.setting in
    let same : written order c.args.field value ≡ written_number order setting (byte_of value) =
    ap (λ f. written order f value) c.in-Number.is ∙ sym (written-capped order setting (decimal value)) in
    record { value = (cc); after = (cc) }
