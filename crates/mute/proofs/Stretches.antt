-- What lists of stretches cover, one stretch more.
use Rattle.std.proofs.Common.{◌≡◌, ℕ, ◌+◌, ◌<◌, ◌≤◌, ◌&&◌, ◌||◌, ltb, List, [], ◌∷◌, ◌++◌, length, get_or, take, sym, ap, ◌∙◌, ⊎_elim, arith, length-take}
use mathlib.Core.Bool.{or-false, or_assoc}
use Rattle.std.proofs.lemmas.List.{take_more, take_more_set, take_all, take-take}
use Rattle.std.proofs.lemmas.Bool.{cases_lt, lt-ltb, le-ltb}
use Rattle.mute.specs.declared.Mute.{Mute}
use Rattle.mute.specs.declared.Stretch.{Stretch}
use Rattle.mute.specs.Mutes.{inside, covered, stretches, stretch, added, Grown}

covered_push : (ss : List Stretch) (s : Stretch) (place : ℕ) → covered (ss ++ s ∷ []) place ≡ covered ss place || inside s place
covered_push [] s place = or-false (inside s place)
covered_push (x ∷ ss) s place =
    ap (λ b. inside x place || b) (covered_push ss s place) ∙ sym (or_assoc (inside x place) (covered ss place) (inside s place))

pub grown : {M : Type 0} (m : Mute M) (first size : ℕ) → m.used < length m.slots → Grown m (added m first size) first size
grown m first size room =
    let more = take_more_set m.slots m.used (stretch first size) room in
    record { listed = more; muted = λ place. ap (λ ss. covered ss place) more ∙ covered_push (stretches m) (stretch first size) place }

-- slot i counts where it is among the n that are used
pub covered_more : (slots : List Stretch) (n i place : ℕ) (d : Stretch) → i < length slots
    → covered (take i (take n slots)) place || (ltb i n && inside (get_or slots i d) place) ≡ covered (take (i + 1) (take n slots)) place
covered_more slots n i place d h =
    let seen : List Stretch = take i (take n slots) in
    let slot = get_or slots i d in
    ⊎_elim
    (λ within.
    let more : take (i + 1) (take n slots) ≡ seen ++ slot ∷ [] =
    take-take (i + 1) n slots (omega arith)
    ∙ take_more slots i d h
    ∙ ap (λ ss. ss ++ slot ∷ []) (sym (take-take i n slots (omega arith))) in
    ap (λ b. covered seen place || (b && inside slot place)) (lt-ltb i n within)
    ∙ sym (ap (λ ss. covered ss place) more ∙ covered_push seen slot place))
    (λ past.
    let few : length (take n slots) ≤ i = omega (arith, length-take n slots) in
    ap (λ b. covered seen place || (b && inside slot place)) (le-ltb i n past)
    ∙ or-false (covered seen place)
    ∙ ap (λ ss. covered ss place) (take_all i (take n slots) few ∙ sym (take_all (i + 1) (take n slots) (omega arith))))
    (cases_lt i n)
