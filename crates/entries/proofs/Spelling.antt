-- The bytes that the line of an accepted frame is written as.
use Rattle.std.proofs.Common.{◌≡◌, ℕ, ◌^◌, ◌-◌, ◌<◌, true, false, List, [], ◌∷◌, ◌++◌, length, get_or, decimal, Ok, sym, refl, ap, ◌∙◌, arith}
use Rattle.std.specs.Fmt.{digits, padded_integral, format_spec}
use Rattle.std.proofs.lemmas.Fmt.{hex_byte as spelled_byte}
use Rattle.fields.specs.declared.fich.Fich.{Fich}
use Rattle.fields.specs.Fields.{fich_bytes}
use Rattle.entries.specs.Entries.{Line}
use Rattle.entries.specs.Texts.{flag_number, hex_bytes, line_text}

pub zero_spelled : decimal 0 ≡ 48 ∷ []
unfolding digits
zero_spelled = refl

-- what `{:02X}` writes
abbrev pub two : ℕ → List ℕ
two n = padded_integral (format_spec 32 0 4 2 (2 ^ 64 - 1)) false [] (digits 16 true n)

four_bytes : (bytes : List ℕ) → length bytes ≡ 4 → ((k : ℕ) → k < 4 → get_or bytes k 0 < 256)
    → two (get_or bytes 0 0) ++ (two (get_or bytes 1 0) ++ (two (get_or bytes 2 0) ++ two (get_or bytes 3 0))) ≡ hex_bytes bytes
four_bytes [] e fits = absurd (omega arith)
four_bytes (a ∷ []) e fits = absurd (omega arith)
four_bytes (a ∷ b ∷ []) e fits = absurd (omega arith)
four_bytes (a ∷ b ∷ c ∷ []) e fits = absurd (omega arith)
four_bytes (a ∷ b ∷ c ∷ d ∷ []) e fits =
    rw (spelled_byte true a (fits 0 (omega arith)), spelled_byte true b (fits 1 (omega arith)), spelled_byte true c (fits 2 (omega arith)), spelled_byte true d (fits 3 (omega arith)))
four_bytes (a ∷ b ∷ c ∷ d ∷ x ∷ xs) e fits = absurd (omega arith)

pub accepted_spelled : (line : Line) (fich : Fich) (missed : ℕ) (bytes : List ℕ) → line.outcome ≡ Ok fich → missed ≡ flag_number line.missed → bytes ≡ fich_bytes fich
    → length bytes ≡ 4 → ((k : ℕ) → k < 4 → get_or bytes k 0 < 256)
    → decimal line.place ++ (32 ∷ (decimal missed ++ (32 ∷ 48 ∷ 32 ∷ (two (get_or bytes 0 0) ++ (two (get_or bytes 1 0) ++ (two (get_or bytes 2 0) ++ two (get_or bytes 3 0)))))))
    ≡ line_text line
accepted_spelled line fich missed bytes o m b n fits =
    ap (λ (k : ℕ). decimal line.place ++ (32 ∷ (decimal k ++ (32 ∷ 48 ∷ 32 ∷ (two (get_or bytes 0 0) ++ (two (get_or bytes 1 0) ++ (two (get_or bytes 2 0) ++ two (get_or bytes 3 0)))))))) m
    ∙ ap (λ (bs : List ℕ). decimal line.place ++ (32 ∷ (decimal (flag_number line.missed) ++ (32 ∷ 48 ∷ 32 ∷ bs)))) (four_bytes bytes n fits ∙ ap hex_bytes b)
    ∙ ap (λ (zeros : List ℕ). decimal line.place ++ (32 ∷ (decimal (flag_number line.missed) ++ (32 ∷ (zeros ++ (32 ∷ hex_bytes (fich_bytes fich))))))) (sym zero_spelled)
    ∙ sym (ap (λ outcome. line_text record { place = line.place; missed = line.missed; outcome = outcome }) o)
