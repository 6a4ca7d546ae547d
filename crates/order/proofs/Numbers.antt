-- Digits go on from a capped number as from the number itself, as far as one byte can tell.
use Rattle.std.proofs.Common.{◌≡◌, ℕ, ◌+◌, ◌-◌, ◌*◌, ◌<◌, true, false, cond, List, [], ◌∷◌, length, get_or, drop, Some, None, refl, ap, arith}
use Rattle.std.specs.Option.{option_map}
use Rattle.std.specs.Char.{is_ascii_digit}
use Rattle.std.proofs.lemmas.List.{drop_more}
use Rattle.order.specs.Decimals.{digits_after, capped}

pub after-capped : (bs : List ℕ) (m n : ℕ) → capped m ≡ capped n → option_map capped (digits_after m bs) ≡ option_map capped (digits_after n bs)
after-capped [] m n h = ap Some h
after-capped (b ∷ bs) m n h =
    elim (is_ascii_digit b) as (λ t. option_map capped (cond t (digits_after (m * 10 + (b - 48)) bs) None) ≡ option_map capped (cond t (digits_after (n * 10 + (b - 48)) bs) None)) [
      | true ↦ after-capped bs (m * 10 + (b - 48)) (n * 10 + (b - 48)) (omega arith)
      | false ↦ refl
    ]

-- one digit more
pub digits_more : (text : List ℕ) (i m n : ℕ) → i < length text → is_ascii_digit (get_or text i 0) ≡ true → capped m ≡ capped (n * 10 + (get_or text i 0 - 48)) → option_map capped (digits_after m (drop (i + 1) text)) ≡ option_map capped (digits_after n (drop i text))
digits_more text i m n lt digit h =
    rw (drop_more text i 0 lt, digit) (after-capped (drop (i + 1) text) m (n * 10 + (get_or text i 0 - 48)) h)
