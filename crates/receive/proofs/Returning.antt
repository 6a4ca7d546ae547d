-- A FICH that was sent comes back from its own word.
use Rattle.std.proofs.Common.{◌≡◌, ℕ, zero, suc, ◌+◌, ◌*◌, ◌/◌, ◌%◌, ◌^◌, ◌<◌, ◌≤◌, eqb, List, [], ◌∷◌, ◌++◌, length, take, drop, Some, Ok, Err, sym, refl, ap, ◌∙◌, subst, append-nil, arith}
use lib.Bits.{xor_self}
use lib.Count.{ones}
use Rattle.std.specs.List.{flat_map}
use Rattle.std.proofs.lemmas.List.{length-append, length-take-le, length-drop, take-append-drop, nil_from_length}
use Rattle.std.proofs.lemmas.Bool.{cond-true, eq-eqb}
use Rattle.bits.specs.Bits.{Bits, bits_of, number_of, byte_bits, numbers_of}
use Rattle.bits.proofs.Numbers.{bits-append, bits-take, bits-drop, bits_number, number_below, numbers_of_cons, numbers_of-byte_bits, length-byte_bits, bits-byte_bits, byte_bits-append}
use Rattle.codes.specs.Crc.{check_bits, crc}
use Rattle.fault.specs.declared.Fault.TheVariants.{WrongChecksum}
use Rattle.fields.specs.declared.fich.Fich.{Fich}
use Rattle.fields.specs.Fields.{fich_bits}
use Rattle.fields.specs.Numbers.{fich_numbers}
use Rattle.fields.specs.Received.{fich_read, Sendable}
use Rattle.fields.proofs.Parts.{numbers_bits, numbers_small}
use Rattle.fields.proofs.Inverses.{read_again}
use Rattle.frame.specs.Header.{golay_words, fich_inputs}
use Rattle.frame.proofs.Words.{check_bits_size, check_bytes}
use Rattle.golay.specs.Golay.{golay, code_of, distance}
use Rattle.golay.specs.Nearest.{nearest}
use Rattle.golay.proofs.Linear.{length-golay, bits-golay}
use Rattle.golay.proofs.Unique.{only_one, near_is}
use Rattle.trellis.specs.Words.{Word}
use Rattle.receive.specs.Words.{data_read, before, golay_data, checked_fich, fich_of_data, fich_of_word}

-- ---- Golay words that nothing happened to

own_word : (d : ℕ) → d < 4096 → nearest (code_of d) ≡ Some (d, 0)
unfolding ones
own_word d h =
    let same : distance (code_of d) (code_of d) ≡ 0 = ap ones (xor_self (code_of d)) in
    near_is 3 (code_of d) (Some (d, 0))
    (h, same, omega arith, λ d' h' close. only_one 3 (code_of d) d' d (omega arith) h' h close (omega (arith, same)))

module _ (bs : List ℕ) (bits : Bits bs) (long : 12 ≤ length bs) where
  twelve : length (take 12 bs) ≡ 12
  twelve = length-take-le 12 bs long

  golay-long : length (golay (take 12 bs)) ≡ 24
  golay-long = length-golay (take 12 bs) (bits-take 12 bs bits) ∙ ap (λ n. n + 12) twelve

  read_back : bits_of 12 (number_of (take 12 bs)) ≡ take 12 bs
  read_back = bits_number 12 (take 12 bs) twelve (bits-take 12 bs bits)

  near_own : nearest (number_of (golay (take 12 bs))) ≡ Some (number_of (take 12 bs), 0)
  unfolding code_of
  near_own =
      let small : number_of (take 12 bs) < 4096 =
      let e : 2 ^ length (take 12 bs) ≡ 2 ^ 12 = ap (λ n. 2 ^ n) twelve in omega (arith, number_below (take 12 bs) (bits-take 12 bs bits)) in
      ap (λ l. nearest (number_of (golay l))) (sym read_back) ∙ own_word (number_of (take 12 bs)) small

pub golay_again : (n k : ℕ) (bs : List ℕ) → Bits bs → length bs ≡ 12 * n → golay_data k (numbers_of 24 n (golay_words n bs)) ≡ Ok (numbers_of 12 n bs)
unfolding golay_data golay_words numbers_of
golay_again zero k bs bits long = refl
golay_again (suc n) k bs bits long =
    let rest = golay_again n (suc k) (drop 12 bs) (bits-drop 12 bs bits) (length-drop 12 bs ∙ omega arith) in
    ap (golay_data k) (numbers_of_cons 24 n (golay (take 12 bs)) (golay_words n (drop 12 bs)) (golay-long bs bits (omega arith)))
    ∙ ap (λ r. before (data_read k r) (golay_data (suc k) (numbers_of 24 n (golay_words n (drop 12 bs))))) (near_own bs bits (omega arith))
    ∙ ap (λ r. before (Ok (number_of (take 12 bs))) r) rest

golay_words_size : (n : ℕ) (bs : List ℕ) → Bits bs → length bs ≡ 12 * n → Word (24 * n) (golay_words n bs)
unfolding golay_words
golay_words_size zero bs bits long = record { bits = tt; long = refl }
golay_words_size (suc n) bs bits long =
    let rest = golay_words_size n (drop 12 bs) (bits-drop 12 bs bits) (length-drop 12 bs ∙ omega arith) in
    record {
      bits = bits-append (golay (take 12 bs)) (golay_words n (drop 12 bs)) (bits-golay (take 12 bs) (bits-take 12 bs bits)) rest.bits;
      long = length-append (golay (take 12 bs)) (golay_words n (drop 12 bs)) ∙ omega (arith, golay-long bs bits (omega arith), rest.long);
    }

rejoined : (n : ℕ) (bs : List ℕ) → Bits bs → length bs ≡ 12 * n → flat_map (bits_of 12) (numbers_of 12 n bs) ≡ bs
unfolding numbers_of
rejoined zero bs bits long = sym (nil_from_length bs (omega arith))
rejoined (suc n) bs bits long =
    ap (λ l. l ++ flat_map (bits_of 12) (numbers_of 12 n (drop 12 bs))) (read_back bs bits (omega arith))
    ∙ ap (λ l. take 12 bs ++ l) (rejoined n (drop 12 bs) (bits-drop 12 bs bits) (length-drop 12 bs ∙ omega arith))
    ∙ take-append-drop 12 bs

-- ---- a FICH with its checksum

module _ (f : Fich) where
  abbrev checked : List ℕ
  checked = fich_bits f ++ check_bits (fich_bits f)

  fich_size : Bits (fich_bits f) × (length (fich_bits f) ≡ 32)
  fich_size =
      let bits = numbers_bits f in
      let P : List ℕ → Type 0 = λ l. Bits l × (length l ≡ 32) in
      subst P bits (bits-byte_bits (fich_numbers f), length-byte_bits (fich_numbers f))

  checked_size : Bits checked × (length checked ≡ 48)
  checked_size =
      let check = check_bits_size (fich_bits f) fich_size.0 in (
        bits-append (fich_bits f) (check_bits (fich_bits f)) fich_size.0 check.1,
        length-append (fich_bits f) (check_bits (fich_bits f)) ∙ omega (arith, fich_size.1, check.0),
      )

  pub fich-word : Word 96 (fich_inputs f)
  fich-word = golay_words_size 4 checked checked_size.0 checked_size.1

  -- the checksum is two bytes
  abbrev check_number : ℕ
  check_number = number_of (check_bits (fich_bits f))

  check_small : check_number < 65536
  check_small =
      let check = check_bits_size (fich_bits f) fich_size.0 in
      let e : 2 ^ length (check_bits (fich_bits f)) ≡ 2 ^ 16 = ap (λ n. 2 ^ n) check.0 in
      omega (arith, number_below (check_bits (fich_bits f)) check.1)

  abbrev six : List ℕ
  six = fich_numbers f ++ (check_number / 256) ∷ (check_number % 256) ∷ []

  six_again : numbers_of 8 6 checked ≡ six
  unfolding byte_bits
  six_again =
      let n = check_number in
      let small = numbers_small f in
      let h = check_small in
      let bits : checked ≡ byte_bits six =
      ap (λ l. l ++ check_bits (fich_bits f)) (sym (numbers_bits f))
      ∙ ap (λ l. byte_bits (fich_numbers f) ++ l) (sym (check_bytes (fich_bits f) n fich_size.0 refl))
      ∙ ap (λ l. byte_bits (fich_numbers f) ++ (bits_of 8 (n / 256) ++ l)) (sym (append-nil (bits_of 8 (n % 256))))
      ∙ sym (byte_bits-append (fich_numbers f) ((n / 256) ∷ (n % 256) ∷ [])) in
      ap (numbers_of 8 6) bits
      ∙ numbers_of-byte_bits six (small.0, (small.1, (small.2, (small.3, (omega arith, (omega arith, tt))))))

  pub fich_again : Sendable f → fich_of_word (fich_inputs f) ≡ Ok f
  fich_again lawful =
      let n = check_number in
      let check : crc (fich_numbers f) ≡ n = ap (λ l. number_of (check_bits l)) (numbers_bits f) in
      ap fich_of_data (golay_again 4 0 checked checked_size.0 checked_size.1)
      ∙ ap (λ l. checked_fich (numbers_of 8 6 l)) (rejoined 4 checked checked_size.0 checked_size.1)
      ∙ ap checked_fich six_again
      ∙ cond-true (eqb (crc (fich_numbers f)) (n / 256 * 256 + n % 256)) (fich_read (fich_numbers f)) (Err WrongChecksum) (eq-eqb _ _ (check ∙ omega arith))
      ∙ read_again f lawful
