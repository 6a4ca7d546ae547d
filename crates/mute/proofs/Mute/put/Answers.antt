use Rattle.std.proofs.Common.{◌<◌, length, refl, rules}
use Rattle.mute.proofs.Stretches.{grown}
use Rattle.mute.proofs.Mute.put.Goals as goal

pub returns : goal.returns
returns g c =
    let room : c.args.self.now.used < length c.args.self.now.slots = search rules in
    record { after = refl; grown = grown c.args.self.now c.args.first c.args.length room }
