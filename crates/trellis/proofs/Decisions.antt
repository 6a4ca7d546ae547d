-- Sixteen decisions as one number, made bit by bit and read back.
use Rattle.std.proofs.Common.{◌≡◌, ℕ, zero, suc, ◌+◌, ◌-◌, ◌*◌, ◌/◌, ◌%◌, ◌^◌, ◌<◌, ◌≤◌, Bool, true, false, cond, sym, ap, ◌∙◌, ⊎_elim, mul_assoc, pow-suc, arith, pow_pos, pow-add}
use native.Mathlib.Nat.{mul-add-div_right}
use lib.Pow.{high}
use Rattle.std.proofs.lemmas.Bool.{cases_lt}
use Rattle.trellis.specs.Steps.{packed}

scaled : (b : Bool) (n : ℕ) → (cond b n 0 ≡ cond b 1 0 * n) × (cond b 1 0 ≤ 1)
scaled true n = (omega arith, omega arith)
scaled false n = (omega arith, omega arith)

pub packed_below : (f : ℕ → Bool) (n : ℕ) → packed f n < 2 ^ n
unfolding packed
packed_below f zero = omega arith
packed_below f (suc n) =
    let h = packed_below f n in
    let e = pow-suc 2 n in
    elim (f n) as (λ b. packed f n + cond b (2 ^ n) 0 < 2 ^ suc n) [ true ↦ omega arith | false ↦ omega arith ]

pub unpacked : (f : ℕ → Bool) (n s : ℕ) → s < n → packed f n / 2 ^ s % 2 ≡ cond (f s) 1 0
unfolding packed
unpacked f zero s h = absurd (omega arith)
unpacked f (suc n) s h =
    let c : ℕ = cond (f n) 1 0 in
    let p = packed f n in
    let whole : p + cond (f n) (2 ^ n) 0 ≡ c * 2 ^ n + p = omega (arith, (scaled (f n) (2 ^ n)).0) in
    ⊎_elim
    (λ below.
    let j = n - suc s in
    let place : 2 ^ n ≡ 2 ^ j * 2 * 2 ^ s =
    ap (λ k. 2 ^ k) (omega arith) ∙ pow-add 2 (suc j) s ∙ ap (λ x. x * 2 ^ s) (pow-suc 2 j) in
    let split : c * 2 ^ n + p ≡ c * 2 ^ j * 2 * 2 ^ s + p =
    ap (λ x. c * x + p) place ∙ ap (λ x. x + p) (sym (mul_assoc c (2 ^ j * 2) (2 ^ s)) ∙ ap (λ x. x * 2 ^ s) (sym (mul_assoc c (2 ^ j) 2))) in
    let down : (p + cond (f n) (2 ^ n) 0) / 2 ^ s ≡ c * 2 ^ j * 2 + p / 2 ^ s =
    ap (λ x. x / 2 ^ s) (whole ∙ split) ∙ mul-add-div_right (pow_pos s) (c * 2 ^ j * 2) p in
    omega (arith, down, unpacked f n s below))
    (λ last.
    let same : s ≡ n = omega arith in
    ap (λ k. (p + cond (f n) (2 ^ n) 0) / 2 ^ k % 2) same
    ∙ ap (λ x. x / 2 ^ n % 2) whole
    ∙ ap (λ x. x % 2) (high c n (packed_below f n))
    ∙ omega (arith, (scaled (f n) (2 ^ n)).1)
    ∙ ap (λ k. cond (f k) 1 0) (sym same))
    (cases_lt s n)
