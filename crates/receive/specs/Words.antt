-- The FICH that a word says. Its 96 inputs are four Golay words; their data are the FICH and its checksum.
use Rattle.std.specs.Prelude.{ℕ, suc, ◌+◌, ◌*◌, cond, List, [], ◌∷◌, take, Some, None, Ok, Err, Option, Result, ◌==◌, slice_index}
use Rattle.std.specs.List.{flat_map}
use Rattle.bits.specs.Bits.{bits_of, numbers_of}
use Rattle.codes.specs.Crc.{crc}
use Rattle.fault.specs.declared.Fault.{Fault}
use Rattle.fault.specs.declared.Fault.TheVariants.{NoCodeword, WrongChecksum}
use Rattle.fields.specs.declared.fich.Fich.{Fich}
use Rattle.fields.specs.Received.{fich_read}
use Rattle.golay.specs.Nearest.{nearest}

-- the data of Golay word k, from the codeword near it
abbrev pub data_read : ℕ → Option (ℕ × ℕ) → Result ℕ Fault
data_read k (Some (d, turned)) = Ok d
data_read k None = Err (NoCodeword k)

abbrev pub before : Result ℕ Fault → Result (List ℕ) Fault → Result (List ℕ) Fault
before (Ok d) (Ok more) = Ok (d ∷ more)
before (Ok d) (Err fault) = Err fault
before (Err fault) rest = Err fault

-- the data of Golay words from word k on, or the first that has no codeword near
unfoldable pub golay_data : ℕ → List ℕ → Result (List ℕ) Fault
golay_data k [] = Ok []
golay_data k (w ∷ ws) = before (data_read k (nearest w)) (golay_data (suc k) ws)

-- twelve bits each, as bytes
abbrev pub six_bytes : List ℕ → List ℕ
six_bytes ds = numbers_of 8 6 (flat_map (bits_of 12) ds)

-- four bytes of the FICH, whose checksum is in the two after them
abbrev pub checked_fich : List ℕ → Result Fich Fault
checked_fich six = cond (crc (take 4 six) == slice_index six 4 * 256 + slice_index six 5) (fich_read (take 4 six)) (Err WrongChecksum)

abbrev pub fich_of_data : Result (List ℕ) Fault → Result Fich Fault
fich_of_data (Ok ds) = checked_fich (six_bytes ds)
fich_of_data (Err fault) = Err fault

-- the FICH of a word's free inputs
abbrev pub fich_of_word : List ℕ → Result Fich Fault
fich_of_word inputs = fich_of_data (golay_data 0 (numbers_of 24 4 inputs))
