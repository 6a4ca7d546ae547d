-- Codewords lie eight bits apart, so that at most one lies within three bits of a word: the one that counting finds.
use Rattle.std.proofs.Common.{◌≡◌, ℕ, zero, suc, ◌+◌, ◌<◌, ◌≤◌, leb, Some, None, Option, sym, refl, ap, ◌∙◌, inl, inr, eq-zero-or-pos, arith}
use lib.Arith.{lt_of_le-ne}
use lib.Bits.{bit_xor, xor_comm, xor_assoc, xor_self, xor_zero_l, xor_zero_r, xor_lt}
use lib.Count.{ones}
use Rattle.std.proofs.lemmas.Bool.{cases_eq, cond_both, leb-true, leb-false}
use Rattle.golay.specs.Golay.{code_of, distance, Apart}
use Rattle.golay.specs.Nearest.{first_near, Near}
use Rattle.golay.proofs.Linear.{code_xor}
use Rattle.golay.proofs.Weights.{ones_xor, eight_ones}

-- what is added twice is gone
pub xor_undone : (a b : ℕ) → bit_xor (bit_xor a b) b ≡ a
xor_undone a b = xor_assoc a b b ∙ ap (bit_xor a) (xor_self b) ∙ xor_zero_r a

xor_none : (a b : ℕ) → bit_xor a b ≡ 0 → a ≡ b
xor_none a b e = sym (xor_undone a b) ∙ ap (λ x. bit_xor x b) e ∙ xor_zero_l b

-- by way of a third word
triangle : (a b word : ℕ) → distance a b ≤ distance a word + distance b word
triangle a b word =
    let way : bit_xor (bit_xor a word) (bit_xor b word) ≡ bit_xor a b =
    ap (bit_xor (bit_xor a word)) (xor_comm b word) ∙ sym (xor_assoc (bit_xor a word) word b) ∙ ap (λ x. bit_xor x b) (xor_undone a word) in
    omega (arith, ones_xor (bit_xor a word) (bit_xor b word), ap ones way)

pub apart : Apart
apart a b p q other =
    let e : code_of (bit_xor a b) ≡ bit_xor (code_of a) (code_of b) = code_xor a b in
    elim (eq-zero-or-pos (bit_xor a b)) [
      | inl none ↦ absurd (other (xor_none a b none))
      | inr some ↦ omega (arith, ap ones e, eight_ones (bit_xor a b) some (xor_lt 12 a b p q))
    ]

pub only_one : (limit word a b : ℕ) → limit ≤ 3 → a < 4096 → b < 4096 → distance (code_of a) word ≤ limit → distance (code_of b) word ≤ limit → a ≡ b
only_one limit word a b few p q near close =
    elim (cases_eq a b) [
      | inl same ↦ same
      | inr other ↦ absurd (omega (arith, triangle (code_of a) (code_of b) word, apart a b p q other))
    ]

finds_none : (limit word d count : ℕ) → Near limit word None → d + count ≤ 4096 → first_near limit word d count ≡ None
unfolding first_near
finds_none limit word d zero none h = refl
finds_none limit word d (suc count) none h =
    let n = distance (code_of d) word in
    cond_both (leb n limit) (Some (d, n)) (first_near limit word (suc d) count) (λ x. x ≡ None)
    (λ t. absurd (omega (arith, leb-true n limit t, none d (omega arith))))
    (λ t. finds_none limit word (suc d) count none (omega arith))

finds : (limit word d count found turned : ℕ) → Near limit word (Some (found, turned)) → d ≤ found → found < d + count → d + count ≤ 4096
    → first_near limit word d count ≡ Some (found, turned)
unfolding first_near
finds limit word d zero found turned only p q h = absurd (omega arith)
finds limit word d (suc count) found turned only p q h =
    let n = distance (code_of d) word in
    cond_both (leb n limit) (Some (d, n)) (first_near limit word (suc d) count) (λ x. x ≡ Some (found, turned))
    (λ t. let e : d ≡ found = only.3 d (omega arith) (leb-true n limit t) in
    let f : n ≡ turned = ap (λ x. distance (code_of x) word) e ∙ only.1 in
    cc)
    (λ t. finds limit word (suc d) count found turned only
    (lt_of_le-ne p (λ e. omega (arith, leb-false n limit t, ap (λ x. distance (code_of x) word) e, only.1, only.2)))
    (omega arith)
    (omega arith))

-- what lies near a word is what counting finds
pub near_is : (limit word : ℕ) (r : Option (ℕ × ℕ)) → Near limit word r → first_near limit word 0 4096 ≡ r
near_is limit word None only = finds_none limit word 0 4096 only (omega arith)
near_is limit word (Some (d, turned)) only = finds limit word 0 4096 d turned only (omega arith) (omega (arith, only.0)) (omega arith)
