-- Values that the codes must give, as they are published: what the definitions mean, on examples.
use Rattle.std.specs.Prelude.{◌≡◌, [], ◌∷◌}
use Rattle.bits.specs.declared.Dibit.TheVariants.{D01, D10, D11}
use Rattle.codes.specs.Convolution.{coded}
use Rattle.codes.specs.Crc.{crc}
use Rattle.codes.specs.Interleaving.{place_of}
use Rattle.golay.specs.Values.{GolayValues}

pub record KnownValues : Type 0 where
  -- the checksum of 32 zero bits
  pub crc_of_zeros : crc (0 ∷ 0 ∷ 0 ∷ 0 ∷ []) ≡ 0xFFFF
  -- codewords, three turned bits mended and four refused
  pub golay : GolayValues
  -- the input 1, and the four 0s that follow every word
  pub one_input : coded (1 ∷ []) ≡ D11 ∷ D01 ∷ D01 ∷ D10 ∷ D11 ∷ []
  -- where dibits of the FICH and of a unit go
  pub fich_dibit_1 : place_of 5 1 ≡ 20
  pub fich_dibit_5 : place_of 5 5 ≡ 1
  pub unit_dibit_9 : place_of 9 9 ≡ 1
