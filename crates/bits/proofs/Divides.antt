-- A shift register divides: fed a list of bits it holds the remainder that long division leaves.
use Rattle.std.proofs.Common.{◌≡◌, ℕ, zero, suc, ◌+◌, ◌*◌, ◌/◌, ◌%◌, ◌^◌, ◌<◌, ◌≤◌, Bool, true, false, cond, not, eqb, leb, List, [], ◌∷◌, ◌++◌, length, replicate, sym, refl, ap, ◌∙◌, subst, append_assoc, arith, length-append}
use mathlib.Core.Bool.{beq}
use lib.ListN.{length-replicate, replicate-append-replicate}
use Rattle.std.proofs.lemmas.Bool.{cond_both, leb-true, leb-false}
use Rattle.bits.specs.Bits.{◌⊕◌, Bits, bits_of, plus}
use Rattle.bits.specs.Division.{divided, remainder, shifted, fed}
use Rattle.bits.proofs.Numbers.{bits-append, bits_of_twice}
use Rattle.bits.proofs.Sums.{length-plus, bits-plus, bits-replicate, plus-plus, plus_zeros, zeros_plus, plus_then_zeros, plus-before}

pub length-shifted : (g register : List ℕ) (b : ℕ) → length (shifted g register b) ≡ length register
unfolding shifted
length-shifted g [] b = refl
length-shifted g (x ∷ xs) b =
    let long : length (xs ++ 0 ∷ []) ≡ suc (length xs) = length-append xs (0 ∷ []) ∙ omega arith in
    elim (eqb (x ⊕ b) 0) as (λ t. length (cond t (xs ++ 0 ∷ []) (plus (xs ++ 0 ∷ []) g)) ≡ suc (length xs))
    [ true ↦ long | false ↦ length-plus (xs ++ 0 ∷ []) g ∙ long ]

pub bits-shifted : (g register : List ℕ) (b : ℕ) → Bits register → Bits (shifted g register b)
unfolding shifted
bits-shifted g [] b h = tt
bits-shifted g (x ∷ xs) b h =
    let all : Bits (xs ++ 0 ∷ []) = bits-append xs (0 ∷ []) h.1 (omega arith, tt) in
    elim (eqb (x ⊕ b) 0) as (λ t. Bits (cond t (xs ++ 0 ∷ []) (plus (xs ++ 0 ∷ []) g)))
    [ true ↦ all | false ↦ bits-plus (xs ++ 0 ∷ []) g all ]

-- one step of the division, one bit into the register
step : (g xs bs : List ℕ) (x b n : ℕ) → length g ≡ suc (length xs) → Bits bs
    → divided g (suc n) (plus (b ∷ bs) (x ∷ xs)) ≡ divided g n (plus bs (shifted g (x ∷ xs) b))
unfolding divided shifted plus
step g xs bs x b n long h =
    let zs = xs ++ 0 ∷ [] in
    let low : plus bs zs ≡ plus bs xs = plus_then_zeros bs xs 1 h in
    let size : length zs ≡ suc (length xs) = length-append xs (0 ∷ []) ∙ omega arith in
    let high : plus bs (plus zs g) ≡ plus (plus bs xs) g = plus-plus bs zs g (omega arith) ∙ ap (λ l. plus l g) low in
    let same : (b + x) % 2 ≡ (x + b) % 2 = omega arith in
    ap (λ t. divided g n (cond (eqb t 0) (plus bs xs) (plus (plus bs xs) g))) same
    ∙ elim (eqb ((x + b) % 2) 0) as (λ t. divided g n (cond t (plus bs xs) (plus (plus bs xs) g)) ≡ divided g n (plus bs (cond t zs (plus zs g))))
    [ true ↦ ap (divided g n) (sym low) | false ↦ ap (divided g n) (sym high) ]

pub divided-fed : (g register ms : List ℕ) → length register ≡ length g → 0 < length g → Bits register → Bits ms
    → divided g (length ms) (plus (ms ++ replicate (length g) 0) register) ≡ fed g register ms
unfolding divided fed
divided-fed g register [] long some r h = zeros_plus (length g) register long r
divided-fed g [] (b ∷ ms) long some r h = absurd (omega arith)
divided-fed g (x ∷ xs) (b ∷ ms) long some r h =
    step g xs (ms ++ replicate (length g) 0) x b (length ms) (sym long) (bits-append ms (replicate (length g) 0) h.1 (bits-replicate (length g)))
    ∙ divided-fed g (shifted g (x ∷ xs) b) ms (length-shifted g (x ∷ xs) b ∙ long) some (bits-shifted g (x ∷ xs) b r) h.1

pub remainder-fed : (g ms : List ℕ) → 0 < length g → Bits ms → remainder g ms ≡ fed g (replicate (length g) 0) ms
remainder-fed g ms some h =
    let w = length g in
    let all : Bits (ms ++ replicate w 0) = bits-append ms (replicate w 0) h (bits-replicate w) in
    ap (divided g (length ms)) (sym (plus_zeros (ms ++ replicate w 0) w all))
    ∙ divided-fed g (replicate w 0) ms (length-replicate w 0) some (bits-replicate w) h

length-fed : (g register ms : List ℕ) → length (fed g register ms) ≡ length register
unfolding fed
length-fed g register [] = refl
length-fed g register (b ∷ ms) = length-fed g (shifted g register b) ms ∙ length-shifted g register b

bits-fed : (g register ms : List ℕ) → Bits register → Bits (fed g register ms)
unfolding fed
bits-fed g register [] h = h
bits-fed g register (b ∷ ms) h = bits-fed g (shifted g register b) ms (bits-shifted g register b h)

pub length-remainder : (g ms : List ℕ) → 0 < length g → Bits ms → length (remainder g ms) ≡ length g
length-remainder g ms some h =
    ap length (remainder-fed g ms some h) ∙ length-fed g (replicate (length g) 0) ms ∙ length-replicate (length g) 0

pub bits-remainder : (g ms : List ℕ) → 0 < length g → Bits ms → Bits (remainder g ms)
bits-remainder g ms some h =
    subst Bits (sym (remainder-fed g ms some h)) (bits-fed g (replicate (length g) 0) ms (bits-replicate (length g)))

-- zeros below the divisor pass through
divided_low : (g bs : List ℕ) (n j : ℕ) → n + length g ≤ length bs → Bits bs
    → divided (g ++ replicate j 0) n (bs ++ replicate j 0) ≡ divided g n bs ++ replicate j 0
unfolding divided
divided_low g bs zero j h p = refl
divided_low g [] (suc n) j h p = absurd (omega arith)
divided_low g (b ∷ bs) (suc n) j h p =
    let zs : List ℕ = replicate j 0 in
    let sum : plus (bs ++ zs) (g ++ zs) ≡ plus bs g ++ zs =
    plus_then_zeros (bs ++ zs) g j (bits-append bs zs p.1 (bits-replicate j)) ∙ plus-before bs zs g (omega arith) in
    elim (eqb b 0) as (λ t. divided (g ++ zs) n (cond t (bs ++ zs) (plus (bs ++ zs) (g ++ zs))) ≡ divided g n (cond t bs (plus bs g)) ++ zs) [
      | true ↦ divided_low g bs n j (omega arith) p.1
      | false ↦ ap (divided (g ++ zs) n) sum ∙ divided_low g (plus bs g) n j (omega (arith, length-plus bs g)) (bits-plus bs g p.1)
    ]

pub remainder_low : (g ms : List ℕ) (j : ℕ) → Bits ms → remainder (g ++ replicate j 0) ms ≡ remainder g ms ++ replicate j 0
remainder_low g ms j h =
    let w = length g in
    let n = length ms in
    let zs : List ℕ = replicate j 0 in
    let size : length (g ++ zs) ≡ w + j = length-append g zs ∙ ap (λ x. w + x) (length-replicate j 0) in
    let room : ms ++ replicate (length (g ++ zs)) 0 ≡ (ms ++ replicate w 0) ++ zs =
    ap (λ x. ms ++ replicate x 0) size ∙ ap (λ l. ms ++ l) (sym (replicate-append-replicate w j 0)) ∙ sym (append_assoc ms (replicate w 0) zs) in
    ap (divided (g ++ zs) n) room
    ∙ divided_low g (ms ++ replicate w 0) n j (omega (arith, length-append ms (replicate w 0), length-replicate {A = ℕ} w 0)) (bits-append ms (replicate w 0) h (bits-replicate w))

-- ---- the register as a number of sixteen bits

top_bit : (n : ℕ) → n < 65536 → n / 2 ^ 15 % 2 ≡ cond (leb 32768 n) 1 0
top_bit n h =
    cond_both (leb 32768 n) 1 0 (λ x. n / 2 ^ 15 % 2 ≡ x)
    (λ e. omega (arith, leb-true 32768 n e))
    (λ e. omega (arith, leb-false 32768 n e))

shifted_top : (g : List ℕ) (n b : ℕ) → shifted g (bits_of 16 n) b ≡ cond (eqb ((n / 2 ^ 15 % 2) ⊕ b) 0) (bits_of 15 n ++ 0 ∷ []) (plus (bits_of 15 n ++ 0 ∷ []) g)
unfolding shifted bits_of
shifted_top g n b = refl

feeds : (t b : Bool) (l r : List ℕ) → cond (eqb (cond t 1 0 ⊕ cond b 1 0) 0) l r ≡ cond (not (beq t b)) r l
feeds true true l r = refl
feeds true false l r = refl
feeds false true l r = refl
feeds false false l r = refl

pub shifted_number : (g : List ℕ) (n : ℕ) (top b : Bool) → n < 65536 → top ≡ leb 32768 n
    → shifted g (bits_of 16 n) (cond b 1 0) ≡ cond (not (beq top b)) (plus (bits_of 16 (n * 2 % 65536)) g) (bits_of 16 (n * 2 % 65536))
shifted_number g n top b h e =
    let zs = bits_of 15 n ++ 0 ∷ [] in
    let twice : bits_of 16 (n * 2 % 65536) ≡ zs = bits_of_twice 15 n in
    let bit : n / 2 ^ 15 % 2 ≡ cond top 1 0 = top_bit n h ∙ ap (λ t. cond t 1 0) (sym e) in
    shifted_top g n (cond b 1 0)
    ∙ ap (λ x. cond (eqb (x ⊕ cond b 1 0) 0) zs (plus zs g)) bit
    ∙ feeds top b zs (plus zs g)
    ∙ ap (λ l. cond (not (beq top b)) (plus l g) l) (sym twice)

-- the bits of a number, fed one by one
pub fed_next : (g register : List ℕ) (j n : ℕ) → fed g register (bits_of (suc j) n) ≡ fed g (shifted g register (n / 2 ^ j % 2)) (bits_of j n)
unfolding fed bits_of
fed_next g register j n = refl

pub fed_none : (g register : List ℕ) (n : ℕ) → fed g register (bits_of 0 n) ≡ register
unfolding fed bits_of
fed_none g register n = refl
