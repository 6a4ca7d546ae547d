use Rattle.std.proofs.Common.{◌≡◌, true, false, rules}
use borrow.Author.Tests.{tests}
use Rattle.std.proofs.lemmas.Iterator.{first_from_Range}
use Rattle.walk.specs.Sync.{synced}
use Rattle.walk.proofs.Starting.{hunted}
use Rattle.walk.proofs.Walk.hunt.Goals as goal

pub returns-clause-value : goal.returns-clause-value
returns-clause-value g c =
    let walk = c.args.self.now in
    let synced_at = synced g.M.Measure.means c.args.m.now walk.readings.now in
    hunted g.M.Measure.means c.args.m.now walk.readings.now walk.place _ c.find.result c.frame_places.ensures
    (first_from_Range _ _ _ _ (λ k. synced_at k ≡ true) (λ k. synced_at k ≡ false) c.find.ensures.ran
    (λ x q k. search (rules, tests)) (λ x q k. search (rules, tests)))
