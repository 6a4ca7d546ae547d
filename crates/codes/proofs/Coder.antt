-- A coded dibit by its place: the input there and the four before it.
use Rattle.std.proofs.Common.{◌≡◌, ℕ, zero, suc, ◌+◌, ◌-◌, ◌<◌, ◌≤◌, Bool, true, false, cond, not, leb, List, [], ◌∷◌, ◌++◌, length, get_or, sym, refl, ap, ◌∙◌, ⊎_elim, arith, length-append}
use mathlib.Core.Bool.{beq}
use Rattle.std.proofs.lemmas.List.{get_or_append_left, get_or-append_right, get_or_past}
use Rattle.std.proofs.lemmas.Bool.{cases_lt, cases_order, cond-true, cond-false, le-leb, lt-leb}
use Rattle.bits.specs.Bits.{◌⊕◌}
use Rattle.bits.specs.Dibits.{dibit}
use Rattle.bits.specs.declared.Dibit.TheVariants.{D00}
use Rattle.codes.specs.Convolution.{symbol, coded_after, coded, input_before, symbol_at}

pub length-coded_after : (past us : List ℕ) → length (coded_after past us) ≡ length us
unfolding coded_after
length-coded_after past [] = refl
length-coded_after past (u ∷ us) = ap suc (length-coded_after (u ∷ past) us)

-- the input k steps before input i, among us and then past
abbrev before : List ℕ → List ℕ → ℕ → ℕ → ℕ
before past us i k = cond (leb k i) (get_or us (i - k) 0) (get_or past (k - i - 1) 0)

before_in : (past us : List ℕ) (i k j : ℕ) → j + k ≡ i → before past us i k ≡ get_or us j 0
before_in past us i k j e =
    cond-true (leb k i) _ _ (le-leb k i (omega arith)) ∙ ap (λ n. get_or us n 0) (omega arith)

before-past : (past us : List ℕ) (i k j : ℕ) → i + suc j ≡ k → before past us i k ≡ get_or past j 0
before-past past us i k j e =
    cond-false (leb k i) _ _ (lt-leb k i (omega arith)) ∙ ap (λ n. get_or past n 0) (omega arith)

-- the same input, one further on
before_step : (past us : List ℕ) (u i k : ℕ) → 0 < k → before (u ∷ past) us i k ≡ before past (u ∷ us) (suc i) k
before_step past us u i k h =
    ⊎_elim
    (λ e. before-past (u ∷ past) us i k 0 (omega arith) ∙ sym (before_in past (u ∷ us) (suc i) k 0 (omega arith)))
    (⊎_elim
    (λ l. before_in (u ∷ past) us i k (i - k) (omega arith) ∙ sym (before_in past (u ∷ us) (suc i) k (suc (i - k)) (omega arith)))
    (λ l. before-past (u ∷ past) us i k (suc (k - i - 2)) (omega arith) ∙ sym (before-past past (u ∷ us) (suc i) k (k - i - 2) (omega arith))))
    (cases_order k (suc i))

get_or-coded_after : (past us : List ℕ) (i : ℕ) → i < length us
    → get_or (coded_after past us) i D00 ≡ symbol (get_or us i 0) (before past us i 1) (before past us i 2) (before past us i 3) (before past us i 4)
unfolding coded_after
get_or-coded_after past [] i h = absurd (omega arith)
get_or-coded_after past (u ∷ us) zero h = refl
get_or-coded_after past (u ∷ us) (suc i) h =
    let one = before_step past us u i 1 (omega arith) in
    let two = before_step past us u i 2 (omega arith) in
    let three = before_step past us u i 3 (omega arith) in
    let four = before_step past us u i 4 (omega arith) in
    get_or-coded_after (u ∷ past) us i (omega arith)
    ∙ ap (λ x. symbol (get_or us i 0) x (before (u ∷ past) us i 2) (before (u ∷ past) us i 3) (before (u ∷ past) us i 4)) one
    ∙ ap (λ x. symbol (get_or us i 0) (before past (u ∷ us) (suc i) 1) x (before (u ∷ past) us i 3) (before (u ∷ past) us i 4)) two
    ∙ ap (λ x. symbol (get_or us i 0) (before past (u ∷ us) (suc i) 1) (before past (u ∷ us) (suc i) 2) x (before (u ∷ past) us i 4)) three
    ∙ ap (λ x. symbol (get_or us i 0) (before past (u ∷ us) (suc i) 1) (before past (u ∷ us) (suc i) 2) (before past (u ∷ us) (suc i) 3) x) four

abbrev rest : List ℕ
rest = 0 ∷ 0 ∷ 0 ∷ 0 ∷ []

get_or_rest : (j : ℕ) → get_or rest j 0 ≡ 0
get_or_rest zero = refl
get_or_rest (suc zero) = refl
get_or_rest (suc (suc zero)) = refl
get_or_rest (suc (suc (suc zero))) = refl
get_or_rest (suc (suc (suc (suc j)))) = refl

get_or_with_rest : (us : List ℕ) (j : ℕ) → get_or (us ++ rest) j 0 ≡ get_or us j 0
get_or_with_rest us j =
    ⊎_elim
    (λ l. get_or_append_left us rest 0 j l)
    (λ l. get_or-append_right us rest (length us) j 0 refl l ∙ get_or_rest (j - length us) ∙ sym (get_or_past us j 0 l))
    (cases_lt j (length us))

nothing_before : (us : List ℕ) (i k : ℕ) → before [] (us ++ rest) i k ≡ input_before us i k
nothing_before us i k = ap (λ x. cond (leb k i) x 0) (get_or_with_rest us (i - k))

symbol_same : (u v u1 v1 u2 v2 u3 v3 u4 v4 : ℕ) → u ≡ v → u1 ≡ v1 → u2 ≡ v2 → u3 ≡ v3 → u4 ≡ v4 → symbol u u1 u2 u3 u4 ≡ symbol v v1 v2 v3 v4
symbol_same u v u1 v1 u2 v2 u3 v3 u4 v4 e e1 e2 e3 e4 = cc

past_end : (us : List ℕ) (i k : ℕ) → length us + k ≤ i → input_before us i k ≡ 0
past_end us i k h = cond-true (leb k i) _ _ (le-leb k i (omega arith)) ∙ get_or_past us (i - k) 0 (omega arith)

-- the input itself
input_here : (us : List ℕ) (i : ℕ) → input_before us i 0 ≡ get_or us i 0
input_here us i = cond-true (leb 0 i) _ _ (le-leb 0 i (omega arith)) ∙ ap (λ k. get_or us k 0) (omega arith)

pub coded_at : (us : List ℕ) (i : ℕ) → get_or (coded us) i D00 ≡ symbol_at us i
coded_at us i =
    let long = length-append us rest in
    let size = length-coded_after [] (us ++ rest) in
    ⊎_elim
    (λ l. get_or-coded_after [] (us ++ rest) i l
    ∙ symbol_same _ _ _ _ _ _ _ _ _ _ (get_or_with_rest us i ∙ sym (input_here us i)) (nothing_before us i 1) (nothing_before us i 2) (nothing_before us i 3) (nothing_before us i 4))
    (λ l. get_or_past (coded us) i D00 (omega arith)
    ∙ sym (symbol_same _ 0 _ 0 _ 0 _ 0 _ 0 (past_end us i 0 (omega arith)) (past_end us i 1 (omega arith)) (past_end us i 2 (omega arith)) (past_end us i 3 (omega arith)) (past_end us i 4 (omega arith))))
    (cases_lt i (length (us ++ rest)))
