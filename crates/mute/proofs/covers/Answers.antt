use Rattle.std.proofs.Common.{◌<◌, ◌≤◌, length, take, ap, ◌∙◌, arith, length-take, rules}
use Rattle.std.proofs.lemmas.List.{take_all}
use Rattle.mute.specs.Mutes.{covered}
use Rattle.mute.proofs.Stretches.{covered_more}
use Rattle.mute.proofs.covers.Goals as goal

pub loop-i-preserved : goal.loop-i-preserved
loop-i-preserved c =
    let slots = c.args.slots.now in
    let h : c.loop-i.i < length slots = search rules in
    let more = covered_more slots c.args.used c.loop-i.i c.args.place (record { first = 0; past = 0 }) h in
    cc
