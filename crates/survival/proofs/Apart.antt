-- Two words differ in at least seven coded bits. From the first input in which they differ, the bits that must still
-- differ until both coders rest are at least a number that depends on how their last four inputs differ.
use Rattle.std.proofs.Common.{◌≡◌, ℕ, ◌+◌, ◌-◌, ◌*◌, ◌<◌, ◌≤◌, Bool, T, leb, List, [], ◌∷◌, ◌++◌, length, get_or, drop, refl, ap, ◌∙◌, subst, ⊎_elim, arith, leb→le}
use Rattle.std.proofs.lemmas.Bool.{cases_eq}
use Rattle.bits.specs.Bits.{◌⊕◌, Bits}
use Rattle.bits.specs.declared.Dibit.{Dibit}
use Rattle.codes.specs.Convolution.{symbol, coded_after}
use Rattle.trellis.proofs.States.{bit_below}
use Rattle.survival.specs.Distance.{apart, differing, Seven}
use Rattle.survival.proofs.Cases.{each_bits, at_bits}

-- the dibit for the newest input; inputs stand newest first here
abbrev newest_dibit : List ℕ → Dibit
newest_dibit us = symbol (get_or us 0 0) (get_or us 1 0) (get_or us 2 0) (get_or us 3 0) (get_or us 4 0)

-- how many bits must still differ, by the sums of the last four inputs
abbrev ahead : List ℕ → List ℕ → ℕ
ahead us vs =
    get_or (0 ∷ 2 ∷ 3 ∷ 3 ∷ 4 ∷ 4 ∷ 4 ∷ 3 ∷ 5 ∷ 5 ∷ 4 ∷ 4 ∷ 4 ∷ 4 ∷ 4 ∷ 4 ∷ [])
    (8 * (get_or us 0 0 ⊕ get_or vs 0 0) + 4 * (get_or us 1 0 ⊕ get_or vs 1 0) + 2 * (get_or us 2 0 ⊕ get_or vs 2 0) + (get_or us 3 0 ⊕ get_or vs 3 0)) 0

-- the bits that differ by the newest inputs and those ahead, together
abbrev reckoned : List ℕ → List ℕ → ℕ
reckoned us vs = apart (newest_dibit us) (newest_dibit vs) + ahead us vs

steady : List ℕ → List ℕ → Bool
steady us vs = leb (ahead (drop 1 us) (drop 1 vs)) (reckoned us vs)

always_steady : T (each_bits 5 (λ us. each_bits 5 (steady us)))
unfolding steady each_bits
always_steady = tt

parting : List ℕ → Bool
parting us = leb 7 (reckoned us ((1 - get_or us 0 0) ∷ drop 1 us))

always_parting : T (each_bits 5 parting)
unfolding parting each_bits
always_parting = tt

abbrev five : ℕ → List ℕ → List ℕ
five u past = u ∷ get_or past 0 0 ∷ get_or past 1 0 ∷ get_or past 2 0 ∷ get_or past 3 0 ∷ []

five_bits : (u : ℕ) (past : List ℕ) → u < 2 → Bits past → Bits (five u past)
five_bits u past h p = (h, (bit_below past 0 p, (bit_below past 1 p, (bit_below past 2 p, (bit_below past 3 p, tt)))))

-- one input each does not lessen the bits that must differ
step : (p q : List ℕ) (u v : ℕ) → Bits p → Bits q → u < 2 → v < 2 → ahead p q ≤ reckoned (u ∷ p) (v ∷ q)
unfolding steady
step p q u v hp hq hu hv =
    let us = five u p in
    leb→le _ _ (at_bits 5 (steady us) (five v q) refl (five_bits v q hv hq)
    (at_bits 5 (λ l. each_bits 5 (steady l)) us refl (five_bits u p hu hp) always_steady))

-- two coders that had the same inputs part
first_step : (p : List ℕ) (u v : ℕ) → Bits p → u < 2 → v < 2 → (u ≡ v → ⊥) → 7 ≤ reckoned (u ∷ p) (v ∷ p)
unfolding parting
first_step p u v hp hu hv ne =
    let other : 1 - u ≡ v = omega (arith, ne) in
    subst (λ x. 7 ≤ reckoned (u ∷ p) (x ∷ p)) other (leb→le _ _ (at_bits 5 parting (five u p) refl (five_bits u p hu hp) always_parting))

abbrev rest : List ℕ
rest = 0 ∷ 0 ∷ 0 ∷ 0 ∷ []

at_rest : (p q : List ℕ) → Bits p → Bits q → ahead p q ≤ differing (coded_after p rest) (coded_after q rest)
unfolding coded_after differing
at_rest p q hp hq =
    let bit : 0 < 2 = omega arith in
    let one = step p q 0 0 hp hq bit bit in
    let two = step (0 ∷ p) (0 ∷ q) 0 0 (bit, hp) (bit, hq) bit bit in
    let three = step (0 ∷ 0 ∷ p) (0 ∷ 0 ∷ q) 0 0 (bit, (bit, hp)) (bit, (bit, hq)) bit bit in
    let four = step (0 ∷ 0 ∷ 0 ∷ p) (0 ∷ 0 ∷ 0 ∷ q) 0 0 (bit, (bit, (bit, hp))) (bit, (bit, (bit, hq))) bit bit in
    omega arith

to_rest : (us vs p q : List ℕ) → Bits us → Bits vs → length us ≡ length vs → Bits p → Bits q
    → ahead p q ≤ differing (coded_after p (us ++ rest)) (coded_after q (vs ++ rest))
unfolding coded_after differing
to_rest [] [] p q hu hv e hp hq = at_rest p q hp hq
to_rest [] (v ∷ vs) p q hu hv e hp hq = absurd (omega arith)
to_rest (u ∷ us) [] p q hu hv e hp hq = absurd (omega arith)
to_rest (u ∷ us) (v ∷ vs) p q hu hv e hp hq =
    let here = step p q u v hp hq hu.0 hv.0 in
    let later = to_rest us vs (u ∷ p) (v ∷ q) hu.1 hv.1 (omega arith) (hu.0, hp) (hv.0, hq) in
    omega arith

-- two words after the same inputs
apart-after : (us vs p : List ℕ) → Bits us → Bits vs → length us ≡ length vs → (us ≡ vs → ⊥) → Bits p
    → 7 ≤ differing (coded_after p (us ++ rest)) (coded_after p (vs ++ rest))
unfolding coded_after differing
apart-after [] [] p hu hv e ne hp = absurd (ne refl)
apart-after [] (v ∷ vs) p hu hv e ne hp = absurd (omega arith)
apart-after (u ∷ us) [] p hu hv e ne hp = absurd (omega arith)
apart-after (u ∷ us) (v ∷ vs) p hu hv e ne hp =
    ⊎_elim
    (λ same.
    let other : us ≡ vs → ⊥ = λ es. ne (ap (λ x. x ∷ us) same ∙ ap (λ l. v ∷ l) es) in
    let later = apart-after us vs (u ∷ p) hu.1 hv.1 (omega arith) other (hu.0, hp) in
    subst (λ x. 7 ≤ apart (newest_dibit (u ∷ p)) (newest_dibit (x ∷ p)) + differing (coded_after (u ∷ p) (us ++ rest)) (coded_after (x ∷ p) (vs ++ rest))) same
    (omega arith))
    (λ differ.
    let here = first_step p u v hp hu.0 hv.0 differ in
    let later = to_rest us vs (u ∷ p) (v ∷ p) hu.1 hv.1 (omega arith) (hu.0, hp) (hv.0, hp) in
    omega arith)
    (cases_eq u v)

pub seven : Seven
seven us vs hu hv e ne = apart-after us vs [] hu hv e ne tt
