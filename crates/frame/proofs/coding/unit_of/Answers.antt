use Rattle.std.proofs.Common.{rules}
use Rattle.frame.proofs.Laying.{unit_is}
use Rattle.frame.proofs.coding.unit_of.Goals as goal

pub returns : goal.returns
returns c =
    unit_is c.args.bytes.now c.whiten.new.bytes c.copy_from_slice.new.self c.copy_from_slice-2.new.self c.crc16.result
    c.told-bytes c.whiten.ensures.value (search rules) c.crc16.ensures c.crc16.type_inv (search rules)
