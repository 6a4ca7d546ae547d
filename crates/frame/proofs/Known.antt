-- The known values, by computation.
use Rattle.std.proofs.Common.{refl}
use Rattle.bits.specs.Bits.{bits_of, number_from, byte_bits, plus}
use Rattle.bits.specs.Division.{divided}
use Rattle.codes.specs.Convolution.{coded_after}
use Rattle.codes.specs.Crc.{all_inverted}
use Rattle.golay.proofs.Values.{values}
use Rattle.frame.specs.Known.{KnownValues}

pub known_values : KnownValues
unfolding bits_of number_from byte_bits plus divided all_inverted coded_after
known_values =
    record {
      crc_of_zeros = refl;
      golay = values;
      one_input = refl;
      fich_dibit_1 = refl;
      fich_dibit_5 = refl;
      unit_dibit_9 = refl;
    }
