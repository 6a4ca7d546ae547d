use Rattle.std.proofs.Common.{◌≡◌, ◌/◌, ◌%◌, [], ◌∷◌, ◌++◌, get_or, refl, ap, ap₂, ◌∙◌, rules, arith}
use Rattle.bits.specs.Bits.{bits_of, byte_bits}
use Rattle.frame.specs.Header.{golay_words}
use Rattle.frame.proofs.Words.{joined_bits, words_of_six}
use Rattle.frame.proofs.header.fich_words.Goals as goal

pub returns : goal.returns
returns c =
    let bytes = c.bytes-bytes.result in
    let n = c.crc16.result in
    let small = c.crc16.type_inv in
    let high : get_or c.to_be_bytes.result 0 0 ≡ n / 256 = ap (λ l. get_or l 0 0) c.to_be_bytes.ensures ∙ omega arith in
    let low : get_or c.to_be_bytes.result 1 0 ≡ n % 256 = ap (λ l. get_or l 1 0) c.to_be_bytes.ensures in
    let first : byte_bits c.copy_from_slice.new.self ≡ golay_words 2 (bits_of 8 (get_or bytes 0 0) ++ (bits_of 8 (get_or bytes 1 0) ++ bits_of 8 (get_or bytes 2 0))) =
    ap byte_bits c.copy_from_slice.ensures.after ∙ c.golay_pair.ensures in
    let second : byte_bits c.copy_from_slice-2.new.self ≡ golay_words 2 (bits_of 8 (get_or bytes 3 0) ++ (bits_of 8 (n / 256) ++ bits_of 8 (n % 256))) =
    ap byte_bits c.copy_from_slice-2.ensures.after ∙ c.golay_pair-2.ensures
    ∙ ap₂ (λ x y. golay_words 2 (bits_of 8 (get_or bytes 3 0) ++ (bits_of 8 x ++ bits_of 8 y))) high low in
    joined_bits 6 6 c.copy_from_slice.new.self (0 ∷ 0 ∷ 0 ∷ 0 ∷ 0 ∷ 0 ∷ []) c.copy_from_slice-2.new.self _ _ (search rules) refl first second
    ∙ words_of_six bytes _ n (search rules) c.bytes-bytes.ensures.bits c.crc16.ensures
