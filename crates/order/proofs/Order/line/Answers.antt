use Rattle.std.proofs.Common.{◌≡◌, length, sym, subst, rules}
use Rattle.order.specs.Orders.{written_at, left}
use Rattle.order.specs.Changes.{Changed}
use Rattle.order.specs.Keys.{field_of}
use Rattle.order.specs.Lines.{bare_of, key_of, value_of}
use Rattle.order.proofs.Changes.{changed_at}
use Rattle.order.proofs.Order.line.Goals as goal

pub returns-clause-law : goal.returns-clause-law
returns-clause-law c =
    let order = c.args.self.now in
    let bare = bare_of c.args.line.now in
    let field = field_of (key_of bare) in
    let new : c.write.new.self ≡ left (written_at order field (value_of bare)) order = search rules in
    let whole : length order.message ≡ 320 = search rules in
    subst (Changed order field (value_of bare)) (sym new) (changed_at order field (value_of bare) whole)
