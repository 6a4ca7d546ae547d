use Rattle.std.proofs.Common.{refl, rules}
use Rattle.layout.specs.Places.{sync_word}
use Rattle.frame.proofs.Laying.{three_parts}
use Rattle.frame.proofs.Standing.{fich_size, units_size}
use Rattle.frame.proofs.header.write_frame.Goals as goal

pub returns : goal.returns
returns c =
    let fich = c.args.fich.now in
    let message = c.args.message.now in
    three_parts c.copy_from_slice.new.self sync_word c.write_fich.new.part _ c.write_units.new.part _ c.args.frame.now
    c.copy_from_slice.ensures.after c.write_fich.ensures c.write_units.ensures (search rules) refl (fich_size fich message) (units_size fich message)
