-- States as numbers, and the dibit that a state and an input give.
use Rattle.std.proofs.Common.{◌≡◌, ℕ, zero, suc, ◌+◌, ◌*◌, ◌/◌, ◌%◌, ◌<◌, ◌≤◌, ◌⊎◌, List, [], ◌∷◌, length, get_or, drop, refl, ap, ◌∙◌, inl, inr, arith}
use native.Mathlib.Decide.{dec_lt}
use Rattle.bits.specs.Bits.{Bits}
use Rattle.codes.specs.Convolution.{symbol}
use Rattle.trellis.specs.Search.{earlier_state, output}

-- the state after inputs, newest first
unfoldable pub state_of : List ℕ → ℕ
state_of [] = 0
state_of (u ∷ us) = (2 * state_of us + u) % 16

pub state_below : (us : List ℕ) → state_of us < 16
unfolding state_of
state_below [] = omega arith
state_below (u ∷ us) = omega arith

-- a state is one of the two before the next
pub before_next : (s u : ℕ) → s < 16 → u < 2 → (earlier_state 0 ((2 * s + u) % 16) ≡ s) ⊎ (earlier_state 1 ((2 * s + u) % 16) ≡ s)
before_next s u hs hu = elim (dec_lt s 8) [ yes h ↦ inl (omega arith) | no h ↦ inr (omega arith) ]

pub last_input : (s u : ℕ) → u < 2 → (2 * s + u) % 16 % 2 ≡ u
last_input s u h = omega arith

-- and the next of a state before s is s
pub next_of_before : (s o : ℕ) → s < 16 → o < 2 → (2 * earlier_state o s + s % 2) % 16 ≡ s
next_of_before s o hs ho = omega arith

pub earlier_below : (o s : ℕ) → o < 2 → s < 16 → earlier_state o s < 16
earlier_below o s ho hs = omega arith

pub bit_below : (us : List ℕ) (k : ℕ) → Bits us → get_or us k 0 < 2
bit_below [] k h = omega arith
bit_below (u ∷ us) zero h = h.0
bit_below (u ∷ us) (suc k) h = bit_below us k h.1

state_digits : (us : List ℕ) → Bits us → state_of us ≡ get_or us 0 0 + 2 * get_or us 1 0 + 4 * get_or us 2 0 + 8 * get_or us 3 0
unfolding state_of
state_digits [] h = refl
state_digits (u ∷ us) h =
    let b0 = bit_below us 0 h.1 in
    let b1 = bit_below us 1 h.1 in
    let b2 = bit_below us 2 h.1 in
    let b3 = bit_below us 3 h.1 in
    let low = h.0 in
    omega (arith, state_digits us h.1)

-- a number of two parts, halved
halved : (n q r : ℕ) → n ≡ q * 2 + r → r < 2 → (n % 2 ≡ r) × (n / 2 ≡ q)
halved n q r e h = (omega arith, omega arith)

-- the dibit by state is the dibit by the inputs before
pub output_is : (us : List ℕ) (u : ℕ) → Bits us → output (state_of us) u ≡ symbol u (get_or us 0 0) (get_or us 1 0) (get_or us 2 0) (get_or us 3 0)
output_is us u h =
    let s = state_of us in
    let b0 = get_or us 0 0 in
    let b1 = get_or us 1 0 in
    let b2 = get_or us 2 0 in
    let b3 = get_or us 3 0 in
    let zero-step = halved s (b1 + 2 * b2 + 4 * b3) b0 (omega (arith, state_digits us h)) (bit_below us 0 h) in
    let one-step = halved (s / 2) (b2 + 2 * b3) b1 (omega (arith, zero-step.1)) (bit_below us 1 h) in
    let two-step = halved (s / 4) b3 b2 (omega (arith, one-step.1)) (bit_below us 2 h) in
    let e0 : s % 2 ≡ b0 = zero-step.0 in
    let e1 : s / 2 % 2 ≡ b1 = one-step.0 in
    let e2 : s / 4 % 2 ≡ b2 = two-step.0 in
    let e3 : s / 8 % 2 ≡ b3 = omega (arith, two-step.1, bit_below us 3 h) in
    ap (λ x. symbol u x (s / 2 % 2) (s / 4 % 2) (s / 8 % 2)) e0
    ∙ ap (λ x. symbol u b0 x (s / 4 % 2) (s / 8 % 2)) e1
    ∙ ap (λ x. symbol u b0 b1 x (s / 8 % 2)) e2
    ∙ ap (λ x. symbol u b0 b1 b2 x) e3

-- into the all-0 state lead four 0s
pub zero_state : (us : List ℕ) → Bits us → 4 ≤ length us → state_of us ≡ 0 → us ≡ 0 ∷ 0 ∷ 0 ∷ 0 ∷ drop 4 us
zero_state [] h l e = absurd (omega arith)
zero_state (a ∷ []) h l e = absurd (omega arith)
zero_state (a ∷ b ∷ []) h l e = absurd (omega arith)
zero_state (a ∷ b ∷ c ∷ []) h l e = absurd (omega arith)
zero_state (a ∷ b ∷ c ∷ d ∷ us) h l e =
    let digits = state_digits (a ∷ b ∷ c ∷ d ∷ us) h in
    let ea : a ≡ 0 = omega arith in
    let eb : b ≡ 0 = omega arith in
    let ec : c ≡ 0 = omega arith in
    let ed : d ≡ 0 = omega arith in
    cc
