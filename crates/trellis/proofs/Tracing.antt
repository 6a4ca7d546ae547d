-- Back through the decisions, input by input.
use Rattle.std.proofs.Common.{◌≡◌, ℕ, suc, ◌+◌, ◌-◌, ◌*◌, ◌/◌, ◌%◌, ◌^◌, ◌<◌, ◌≤◌, List, [], ◌∷◌, ◌++◌, reverse, length, get_or, take, drop, set, sym, refl, ap, ◌∙◌, append_assoc, append-nil, arith, take_all}
use mathlib.Core.List.{reverse-cons}
use lib.Seq.{take-set-le}
use Rattle.std.proofs.lemmas.List.{take_more, drop-set, drop_all, reverse-append}
use Rattle.bits.specs.Bits.{Bits}
use Rattle.trellis.specs.Search.{earlier_state}
use Rattle.trellis.specs.Steps.{traced}

-- the newest of one more comes first
pub reverse_push : {A : Type 0} (xs : List A) (x : A) → reverse (xs ++ x ∷ []) ≡ x ∷ reverse xs
reverse_push xs x = reverse-append xs (x ∷ [])

pub trace_more : (ds all : List ℕ) (t s : ℕ) → 0 < t → t ≤ length ds
    → reverse (traced (reverse (take t ds)) s) ++ drop t ds ≡ all
    → reverse (traced (reverse (take (t - 1) (set ds (t - 1) (s % 2)))) (s / 2 + 8 * (get_or ds (t - 1) 0 / 2 ^ s % 2))) ++ drop (t - 1) (set ds (t - 1) (s % 2)) ≡ all
unfolding traced
trace_more ds all t s some room inv =
    let k = t - 1 in
    let d = get_or ds k 0 in
    let e : t ≡ k + 1 = omega arith in
    let before = traced (reverse (take k ds)) (earlier_state (d / 2 ^ s % 2) s) in
    let newest : reverse (take t ds) ≡ d ∷ reverse (take k ds) =
    ap (λ n. reverse (take n ds)) e ∙ ap reverse (take_more ds k 0 (omega arith)) ∙ reverse_push (take k ds) d in
    ap (λ l. reverse (traced (reverse l) (s / 2 + 8 * (d / 2 ^ s % 2))) ++ drop k (set ds k (s % 2))) (take-set-le k ds k (s % 2) (omega arith))
    ∙ ap (λ l. reverse before ++ l) (drop-set ds k (s % 2) (omega arith))
    ∙ sym (append_assoc (reverse before) (s % 2 ∷ []) (drop (k + 1) ds))
    ∙ ap (λ l. l ++ drop (k + 1) ds) (sym (reverse-cons (s % 2) before))
    ∙ ap (λ l. reverse (traced l s) ++ drop (k + 1) ds) (sym newest)
    ∙ ap (λ n. reverse (traced (reverse (take t ds)) s) ++ drop n ds) (sym e)
    ∙ inv

pub trace_all : (ds all : List ℕ) (t s : ℕ) → t ≡ 0 → reverse (traced (reverse (take t ds)) s) ++ drop t ds ≡ all → ds ≡ all
unfolding traced
trace_all ds all t s e inv = sym (ap (λ n. reverse (traced (reverse (take n ds)) s) ++ drop n ds) e) ∙ inv

pub length-traced : (ds : List ℕ) (s : ℕ) → length (traced ds s) ≡ length ds
unfolding traced
length-traced [] s = refl
length-traced (d ∷ ds) s = ap (λ n. suc n) (length-traced ds (earlier_state (d / 2 ^ s % 2) s))

pub bits-traced : (ds : List ℕ) (s : ℕ) → Bits (traced ds s)
unfolding traced
bits-traced [] s = tt
bits-traced (d ∷ ds) s = (omega arith, bits-traced ds (earlier_state (d / 2 ^ s % 2) s))
