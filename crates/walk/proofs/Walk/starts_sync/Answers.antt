use Rattle.std.proofs.Common.{◌≡◌, ◌+◌, ◌-◌, length, take, drop, refl, ap, ◌∙◌, arith, rules, length-take, length-drop}
use Rattle.std.specs.Slice.Iter.{iter_rest}
use borrow.Author.Tests.{tests}
use Rattle.std.proofs.lemmas.Iterator.{YieldsList-from_slice, cases_from_all}
use Rattle.std.proofs.lemmas.Iterator.Consumers.{YieldsList-from_enumerate}
use Rattle.walk.proofs.Starting.{Alike, Unlike, compared}
use Rattle.walk.proofs.Walk.starts_sync.Goals as goal

pub returns : goal.returns
returns g c =
    let μ = g.M.Measure.means in
    let m = c.args.m.now in
    let readings = c.args.self.now.readings.now in
    let word = take 20 (drop c.args.place readings) in
    let n : c.args.place + 20 - c.args.place ≡ 20 = omega arith in
    let long : length word ≡ 20 = omega (arith, length-take 20 (drop c.args.place readings), length-drop c.args.place readings) in
    compared μ m readings c.args.place c.all.result word refl long
    (cases_from_all _ _ _ (Alike μ m readings) (Unlike μ m readings) c.all.ensures.ran
    (YieldsList-from_enumerate (YieldsList-from_slice word (ap iter_rest c.enumerate.ensures.source ∙ c.iter.ensures.rest ∙ ap (λ k. take k (drop c.args.place readings)) n)) c.enumerate.ensures.count)
    (λ x q k. search (rules, tests)) (λ x q k. search (rules, tests)))
