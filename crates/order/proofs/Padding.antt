-- What a message holds after one field of it is written anew.
use Rattle.std.proofs.Common.{◌≡◌, ℕ, ◌+◌, ◌-◌, ◌≤◌, false, ◌&&◌, ltb, leb, List, ◌++◌, length, get_or, take, drop, ap, ◌∙◌, ⊎_elim, arith, length-append}
use lib.ListN.{length-replicate}
use Rattle.std.specs.List.{between}
use Rattle.std.proofs.lemmas.List.{take_at, drop_at, length-take-le, get_or_append_left, get_or-append_right, get_or-take, get_or-drop}
use Rattle.std.proofs.lemmas.Bool.{cases_lt}
use Rattle.std.proofs.lemmas.Bool.Decides.{nat_tests}
use Rattle.order.specs.Orders.{padded, with_text}

length-padded : (width : ℕ) (text : List ℕ) → length text ≤ width → length (padded width text) ≡ width
length-padded width text fits = simp (length-append, length-replicate) (omega arith)

-- a byte outside the field
pub text_elsewhere : (message text : List ℕ) (at width k : ℕ) → at + width ≤ length message → length text ≤ width → (leb at k && ltb k (at + width)) ≡ false → get_or (with_text message at width text) k 0 ≡ get_or message k 0
text_elsewhere message text at width k within fits out =
    let start : length (take at message) ≡ at = length-take-le at message (omega arith) in
    let rest = drop (at + width) message in
    ⊎_elim
    (λ before. get_or_append_left (take at message) (padded width text ++ rest) 0 k (omega arith) ∙ get_or-take at message k 0 before)
    (λ from.
    let past : at + width ≤ k = grind (arith, nat_tests) in
    let place : at + width + (k - at - width) ≡ k = omega arith in
    get_or-append_right (take at message) (padded width text ++ rest) at k 0 start from
    ∙ (get_or-append_right (padded width text) rest width (k - at) 0 (length-padded width text fits) (omega arith)
    ∙ (get_or-drop (at + width) message (k - at - width) 0 ∙ ap (λ i. get_or message i 0) place)))
    (cases_lt k at)

-- the bytes of the field
pub text_held : (message text : List ℕ) (at width : ℕ) → at + width ≤ length message → length text ≤ width → between at (at + width) (with_text message at width text) ≡ padded width text
text_held message text at width within fits =
    let span : at + width - at ≡ width = omega arith in
    let start : length (take at message) ≡ at = length-take-le at message (omega arith) in
    let rest = drop (at + width) message in
    rw (span, drop_at (take at message) (padded width text ++ rest) at start, take_at (padded width text) rest width (length-padded width text fits))
