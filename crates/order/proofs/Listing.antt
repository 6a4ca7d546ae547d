-- A word that differs from every word of a table is not listed there.
use Rattle.std.proofs.Common.{◌≡◌, ℕ, Bool, true, false, ◌&&◌, ltb, List, [], ◌∷◌, None, IsUtf8, IsAscii, sym, refl, subst, ⊎_elim}
use Rattle.std.specs.Str.{bytes_eq}
use Rattle.std.proofs.lemmas.Str.Ascii.{IsAscii-nil, IsAscii-cons}
use Rattle.std.proofs.lemmas.Slice.Eq.{bytes_eq-Decides}
use Rattle.std.proofs.lemmas.Bool.{cases_Bool, and_parts, ltb-true}
use Rattle.std.proofs.lemmas.Str.{IsUtf8-from_ascii}
use Rattle.order.specs.Keys.{listed}

-- the word differs from each of the table
abbrev pub Apart : {A : Type 0} → List ℕ → List (List ℕ × A) → Type 0
Apart word [] = Unit {0}
Apart word (entry ∷ rest) = (word ≡ entry.0 → ⊥) × Apart word rest

differs : (word name : List ℕ) → (word ≡ name → ⊥) → bytes_eq word name ≡ false
differs word name apart =
    ⊎_elim
    (λ same. absurd (apart ((bytes_eq-Decides word name).0 same)))
    (λ other. other)
    (cases_Bool (bytes_eq word name))

pub unlisted : {A : Type 0} (word : List ℕ) (table : List (List ℕ × A)) → Apart word table → None ≡ listed word table
unlisted word [] apart = refl
unlisted word (entry ∷ rest) apart = rw (differs word entry.0 apart.0) (unlisted word rest apart.1)

abbrev plain : List ℕ → Bool
plain [] = true
plain (b ∷ bs) = ltb b 128 && plain bs

ascii_from_plain : (bs : List ℕ) → plain bs ≡ true → IsAscii bs
ascii_from_plain [] h = IsAscii-nil
ascii_from_plain (b ∷ bs) h =
    let parts = and_parts (ltb b 128) (plain bs) h in
    IsAscii-cons b bs (ltb-true b 128 parts.0) (ascii_from_plain bs parts.1)

abbrev pub plain_words : {A : Type 0} → List (List ℕ × A) → Bool
plain_words [] = true
plain_words (entry ∷ rest) = plain entry.0 && plain_words rest

-- bytes that are no text differ from every word in plain letters
pub apart_from_words : {A : Type 0} (word : List ℕ) (table : List (List ℕ × A)) → (IsUtf8 word → ⊥) → plain_words table ≡ true → Apart word table
apart_from_words word [] none h = tt
apart_from_words word (entry ∷ rest) none h =
    let parts = and_parts (plain entry.0) (plain_words rest) h in
    let text = IsUtf8-from_ascii entry.0 (ascii_from_plain entry.0 parts.0) in
    (λ same. none (subst IsUtf8 (sym same) text), apart_from_words word rest none parts.1)
