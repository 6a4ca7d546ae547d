use Rattle.std.proofs.Common.{IsUtf8, refl, ◌∙◌, rules}
use Rattle.order.specs.Keys.{modes}
use Rattle.order.proofs.Listing.{unlisted, apart_from_words}
use Rattle.order.proofs.keys.mode_of.Goals as goal

pub returns-in_err-ok : goal.returns-in_err-ok
returns-in_err-ok c =
    let word = c.args.word.now in
    let none : IsUtf8 word → ⊥ = search rules in
    c.from_residual.ensures ∙ unlisted word modes (apart_from_words word modes none refl)
