-- A header frame carries its blocks: each coded dibit stands at its place.
use Rattle.std.proofs.Common.{◌≡◌, ℕ, ◌+◌, ◌*◌, ◌/◌, ◌%◌, ◌<◌, ◌≤◌, List, ◌++◌, map, length, get_or, refl, ap, ◌∙◌, arith, length-append}
use Rattle.std.specs.List.{range_with_len}
use Rattle.std.proofs.lemmas.List.FromFn.{length-map-range_with_len, get_or-map-range_with_len}
use Rattle.std.proofs.lemmas.List.{get_or_append_left, get_or-append_right}
use Rattle.bits.specs.declared.Dibit.TheVariants.{D00}
use Rattle.bits.specs.Dibits.{dibit_bytes, dibits_of, byte_by}
use Rattle.bits.proofs.Packing.{dibits_of-append, dibits_of_bytes, length-dibits_of, bytes_by}
use Rattle.codes.specs.Convolution.{coded}
use Rattle.codes.specs.Interleaving.{place_of, item_at}
use Rattle.fields.specs.declared.fich.Fich.{Fich as FichFields}
use Rattle.layout.specs.declared.Block.TheVariants.{Fich, First, Second}
use Rattle.layout.specs.Places.{sync_word}
use Rattle.frame.specs.Coding.{dibit_at, interleaved, block_bytes, by_turns}
use Rattle.frame.specs.Header.{fich_inputs, unit_inputs, first_data, second_data, fich_block, unit_block, paired_units, header_frame, Carries, LaidOut}
use Rattle.frame.proofs.Turns.{length-by_turns, get_or-first, get_or-second, dibits_by_turns}

pub length-block_bytes : (m : ℕ) (inputs : List ℕ) → length (block_bytes m inputs) ≡ 5 * m
length-block_bytes m inputs =
    ap (λ n. length (dibit_bytes (map (dibit_at m (coded inputs)) (range_with_len 0 n)))) (omega arith)
    ∙ ap length (bytes_by (dibit_at m (coded inputs)) 0 (5 * m))
    ∙ length-map-range_with_len (byte_by (dibit_at m (coded inputs))) 0 (5 * m)

-- the dibits of a block's bytes
block_dibits : (m : ℕ) (inputs : List ℕ) → dibits_of (block_bytes m inputs) ≡ interleaved m (coded inputs)
block_dibits m inputs =
    dibits_of_bytes (5 * m) (interleaved m (coded inputs)) (length-map-range_with_len (dibit_at m (coded inputs)) 0 (20 * m) ∙ omega arith)

-- place j of a block
block_at : (m : ℕ) (inputs : List ℕ) (j i : ℕ) → j < 20 * m → item_at m j ≡ i → get_or (dibits_of (block_bytes m inputs)) j D00 ≡ get_or (coded inputs) i D00
block_at m inputs j i h e =
    ap (λ l. get_or l j D00) (block_dibits m inputs)
    ∙ get_or-map-range_with_len (dibit_at m (coded inputs)) 0 (20 * m) j j D00 h (omega arith)
    ∙ ap (λ k. get_or (coded inputs) k D00) e

module _ (f : FichFields) (message : List ℕ) where
  one : List ℕ
  one = unit_block (first_data message)

  two : List ℕ
  two = unit_block (second_data message)

  one_size : length one ≡ 45
  unfolding one
  one_size = length-block_bytes 9 (unit_inputs (first_data message))

  two_size : length two ≡ 45
  unfolding two
  two_size = length-block_bytes 9 (unit_inputs (second_data message))

  pub fich_size : length (fich_block f) ≡ 25
  fich_size = length-block_bytes 5 (fich_inputs f)

  pub units_size : length (paired_units message) ≡ 90
  unfolding one two
  units_size = length-by_turns 9 5 one two (omega (arith, one_size)) (omega (arith, two_size))

  frame_size : length (header_frame f message) ≡ 120
  frame_size =
      length-append sync_word (fich_block f ++ paired_units message)
      ∙ omega (arith, length-append (fich_block f) (paired_units message), fich_size, units_size)

  all_dibits : dibits_of (header_frame f message) ≡ dibits_of sync_word ++ (dibits_of (fich_block f) ++ dibits_of (paired_units message))
  all_dibits =
      dibits_of-append sync_word (fich_block f ++ paired_units message)
      ∙ ap (λ l. dibits_of sync_word ++ l) (dibits_of-append (fich_block f) (paired_units message))

  -- past the sync word
  after_sync : (k : ℕ) → get_or (dibits_of (header_frame f message)) (20 + k) D00 ≡ get_or (dibits_of (fich_block f) ++ dibits_of (paired_units message)) k D00
  after_sync k =
      ap (λ l. get_or l (20 + k) D00) all_dibits
      ∙ get_or-append_right (dibits_of sync_word) _ 20 (20 + k) D00 (length-dibits_of sync_word) (omega arith)
      ∙ ap (λ n. get_or (dibits_of (fich_block f) ++ dibits_of (paired_units message)) n D00) (omega arith)

  -- past the FICH
  after-fich : (k : ℕ) → get_or (dibits_of (header_frame f message)) (120 + k) D00 ≡ get_or (by_turns 36 5 (dibits_of one) (dibits_of two)) k D00
  unfolding one two
  after-fich k =
      ap (λ n. get_or (dibits_of (header_frame f message)) n D00) (omega arith)
      ∙ after_sync (100 + k)
      ∙ get_or-append_right (dibits_of (fich_block f)) _ 100 (100 + k) D00 (length-dibits_of (fich_block f) ∙ omega (arith, fich_size)) (omega arith)
      ∙ ap (λ n. get_or (dibits_of (paired_units message)) n D00) (omega arith)
      ∙ ap (λ l. get_or l k D00) (dibits_by_turns 9 5 one two)

  carries_fich : Carries (header_frame f message) Fich (fich_inputs f)
  carries_fich i h =
      let j = place_of 5 i in
      let below : j < 100 = omega arith in
      after_sync j
      ∙ get_or_append_left (dibits_of (fich_block f)) _ D00 j (omega (arith, length-dibits_of (fich_block f), fich_size))
      ∙ block_at 5 (fich_inputs f) j i below (omega arith)

  units_long : (180 ≤ length (dibits_of one)) × (180 ≤ length (dibits_of two))
  units_long = (omega (arith, length-dibits_of one, one_size), omega (arith, length-dibits_of two, two_size))

  carries_first : Carries (header_frame f message) First (unit_inputs (first_data message))
  unfolding one
  carries_first i h =
      let j = place_of 9 i in
      let below : j < 180 = omega arith in
      after-fich (72 * (j / 36) + j % 36)
      ∙ get_or-first 36 5 (j / 36) (j % 36) (dibits_of one) (dibits_of two) D00 (omega arith) (omega arith) units_long.0 units_long.1
      ∙ ap (λ n. get_or (dibits_of one) n D00) (omega arith)
      ∙ block_at 9 (unit_inputs (first_data message)) j i below (omega arith)

  carries_second : Carries (header_frame f message) Second (unit_inputs (second_data message))
  unfolding two
  carries_second i h =
      let j = place_of 9 i in
      let below : j < 180 = omega arith in
      ap (λ n. get_or (dibits_of (header_frame f message)) n D00) (omega arith)
      ∙ after-fich (72 * (j / 36) + (36 + j % 36))
      ∙ get_or-second 36 5 (j / 36) (j % 36) (dibits_of one) (dibits_of two) D00 (omega arith) (omega arith) units_long.0 units_long.1
      ∙ ap (λ n. get_or (dibits_of two) n D00) (omega arith)
      ∙ block_at 9 (unit_inputs (second_data message)) j i below (omega arith)

pub laid_out : LaidOut
laid_out f message =
    record {
      sized = frame_size f message;
      synced = refl;
      fich = carries_fich f message;
      first = carries_first f message;
      second = carries_second f message;
    }
