use Rattle.std.proofs.Common.{IsUtf8, refl, ◌∙◌, rules}
use Rattle.order.specs.Keys.{keys}
use Rattle.order.proofs.Listing.{unlisted, apart_from_words}
use Rattle.order.proofs.keys.field_of.Goals as goal

pub returns-in_err-ok : goal.returns-in_err-ok
returns-in_err-ok c =
    let key = c.args.key.now in
    let none : IsUtf8 key → ⊥ = search rules in
    c.from_residual.ensures ∙ unlisted key keys (apart_from_words key keys none refl)
