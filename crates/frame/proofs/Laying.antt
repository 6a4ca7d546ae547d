-- What a block and a unit hold once they are written.
use Rattle.std.proofs.Common.{◌≡◌, ℕ, ◌*◌, ◌/◌, ◌%◌, ◌<◌, List, [], ◌∷◌, ◌++◌, map, length, get_or, drop, sym, refl, ap, ◌∙◌, append_assoc, append-nil, arith, length-append, length-drop, take_at, drop_at}
use borrow.Rule.Slice.PartMut.{post_of, put_mid}
use Rattle.std.specs.List.{range_with_len}
use Rattle.std.proofs.lemmas.List.FromFn.{fill_by_all}
use Rattle.std.proofs.lemmas.List.{drop_all}
use Rattle.bits.specs.declared.Dibit.{Dibit}
use Rattle.bits.specs.Dibits.{dibit_bytes, byte_by}
use Rattle.bits.proofs.Numbers.{length-numbers_of}
use Rattle.bits.proofs.Packing.{bytes_by}
use Rattle.codes.specs.Crc.{crc}
use Rattle.codes.specs.Whitening.{whitened}
use Rattle.frame.specs.Coding.{unit_bytes}

pub block_filled : (f : ℕ → Dibit) (m : ℕ) (xs : List ℕ) → length xs ≡ 5 * m → ((k : ℕ) → k < length xs → get_or xs k 0 ≡ byte_by f k)
    → xs ≡ dibit_bytes (map f (range_with_len 0 (20 * m)))
block_filled f m xs long h =
    fill_by_all (byte_by f) xs (length xs) 0 refl h
    ∙ ap (λ n. map (byte_by f) (range_with_len 0 n)) long
    ∙ sym (bytes_by f 0 (5 * m))
    ∙ ap (λ n. dibit_bytes (map f (range_with_len 0 n))) (omega arith)

-- n items copied to the front of a list, and m to the rest of it
pub joined : (n m : ℕ) (first rest second : List ℕ) → length first ≡ n → length rest ≡ m → put_mid n m (first ++ rest) second ≡ first ++ second
joined n m first rest second front back =
    rw (take_at first rest n front, drop_at first rest n front, drop_all m rest (omega arith), append-nil)

pub length-whitened : (bytes : List ℕ) → length (whitened bytes) ≡ length bytes
length-whitened bytes = length-numbers_of 8 (length bytes) _

-- a unit: whitened data, and then their checksum as two bytes
pub unit_is : (bytes white copied check : List ℕ) (n : ℕ) → length bytes ≡ 20 → white ≡ whitened bytes → copied ≡ white → n ≡ crc white → n < 65536
    → check ≡ n / 256 % 256 ∷ n % 256 ∷ [] → put_mid 20 2 (copied ++ 0 ∷ 0 ∷ []) check ≡ unit_bytes bytes
unit_is bytes white copied check n long ew ec en small eb =
    let size : length copied ≡ 20 = ap length (ec ∙ ew) ∙ length-whitened bytes ∙ long in
    let high : n / 256 % 256 ≡ n / 256 = omega arith in
    let sum : n ≡ crc (whitened bytes) = en ∙ ap crc ew in
    joined 20 2 copied (0 ∷ 0 ∷ []) check size refl ∙ (cc)

-- a frame of 120 bytes, written in three parts of 5, 25 and 90
pub three_parts : (copied sync part fich written units old : List ℕ) → copied ≡ sync → part ≡ fich → written ≡ units → length old ≡ 120
    → length sync ≡ 5 → length fich ≡ 25 → length units ≡ 90
    → put_mid 30 90 (put_mid 5 25 (copied ++ post_of 0 5 old) part) written ≡ sync ++ (fich ++ units)
three_parts copied sync part fich written units old e1 e2 e3 long s1 s2 s3 =
    let rest = drop 5 old in
    let tail = drop 25 rest in
    let inner : put_mid 5 25 (sync ++ rest) fich ≡ (sync ++ fich) ++ tail =
    ap (λ l. l ++ (fich ++ drop 25 (drop 5 (sync ++ rest)))) (take_at sync rest 5 s1)
    ∙ ap (λ l. sync ++ (fich ++ drop 25 l)) (drop_at sync rest 5 s1)
    ∙ sym (append_assoc sync fich tail) in
    let front : length (sync ++ fich) ≡ 30 = length-append sync fich ∙ omega arith in
    let back : length tail ≡ 90 = length-drop 25 rest ∙ omega (arith, length-drop 5 old) in
    ap (λ l. put_mid 30 90 (put_mid 5 25 (l ++ rest) part) written) e1
    ∙ ap (λ l. put_mid 30 90 (put_mid 5 25 (sync ++ rest) l) written) e2
    ∙ ap (λ l. put_mid 30 90 (put_mid 5 25 (sync ++ rest) fich) l) e3
    ∙ ap (λ l. put_mid 30 90 l units) inner
    ∙ ap (λ l. l ++ (units ++ drop 90 (drop 30 ((sync ++ fich) ++ tail)))) (take_at (sync ++ fich) tail 30 front)
    ∙ ap (λ l. (sync ++ fich) ++ (units ++ drop 90 l)) (drop_at (sync ++ fich) tail 30 front)
    ∙ ap (λ l. (sync ++ fich) ++ (units ++ l)) (drop_all 90 tail (omega arith))
    ∙ ap (λ l. (sync ++ fich) ++ l) (append-nil units)
    ∙ append_assoc sync fich units
