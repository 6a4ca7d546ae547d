-- The four bytes of a FICH as numbers, each field times the weight of its lowest bit.
use Rattle.std.specs.Prelude.{ℕ, ◌+◌, ◌*◌, ◌%◌, List, [], ◌∷◌}
use Rattle.fields.specs.declared.fich.Fich.{Fich}
use Rattle.fields.specs.Fields.{kind_value, call_value, routing_value, type_value, flag_value}

abbrev pub addressing_number : Fich → ℕ
addressing_number f = kind_value f.kind * 64 + 32 + call_value f.call_mode * 4 + f.block_number % 4

abbrev pub counting_number : Fich → ℕ
counting_number f = f.block_total % 4 * 64 + f.frame_number % 8 * 8 + f.frame_total % 8

abbrev pub signalling_number : Fich → ℕ
signalling_number f =
    flag_value f.reserved * 128 + flag_value f.narrow * 64 + flag_value f.voip * 4 + routing_value f.routing * 8 + type_value f.data_type

abbrev pub squelch_number : Fich → ℕ
squelch_number f = flag_value f.squelch_off * 128 + f.squelch_code % 128

abbrev pub fich_numbers : Fich → List ℕ
fich_numbers f = addressing_number f ∷ counting_number f ∷ signalling_number f ∷ squelch_number f ∷ []
