-- Codewords and readings that are known.
use Rattle.std.specs.Prelude.{◌≡◌, Some, None}
use Rattle.golay.specs.Golay.{code_of}
use Rattle.golay.specs.Nearest.{nearest}

pub record GolayValues : Type 0 where
  pub lowest : code_of 0x001 ≡ 0x0018EB
  pub highest : code_of 0x800 ≡ 0x800C75
  pub whole : code_of 0xFFF ≡ 0xFFFFFF
  pub three_turned : nearest 0x000007 ≡ Some (0, 3)
  pub four_turned : nearest 0x00000F ≡ None
