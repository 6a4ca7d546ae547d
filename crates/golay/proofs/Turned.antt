-- How many bits are turned, counted from the syndrome: with one data bit more, and as the distance from a codeword.
use Rattle.std.proofs.Common.{◌≡◌, ℕ, suc, ◌+◌, ◌-◌, ◌*◌, ◌/◌, ◌%◌, ◌^◌, ◌<◌, ◌≤◌, ◌⊎◌, Some, None, Option, sym, refl, ap, ◌∙◌, inl, inr, eq-zero-or-pos, one-mul, pow-suc, subst, arith}
use lib.Bits.{bit_xor, xor_comm, xor_assoc, xor_zero_r, xor_block, xor_shifted, xor_lt}
use lib.Count.{ones, ones_cat}
use lib.Pow.{pow-lt}
use Rattle.std.specs.Option.{option_map}
use Rattle.std.proofs.lemmas.Bool.{cases_lt}
use Rattle.golay.specs.Golay.{code_of, check_of, distance}
use Rattle.golay.specs.Nearest.{Near, counted, turned_by, Explains}
use Rattle.golay.proofs.Checks.{code_zero, code_halves, check_xor}
use Rattle.golay.proofs.Weights.{some_ones}
use Rattle.golay.proofs.Unique.{xor_undone, only_one}

pub turned_none : (syndrome : ℕ) → turned_by syndrome 0 ≡ ones syndrome
unfolding ones
turned_none syndrome = omega (arith, ap ones (ap (λ x. bit_xor syndrome (x % 4096)) code_zero ∙ xor_zero_r syndrome))

one_one : ones 1 ≡ 1
unfolding ones
one_one = refl

-- turning the data bit at place j besides some below it
turned_more : (syndrome j d : ℕ) → d < 2 ^ j → turned_by syndrome (d + 2 ^ j) ≡ suc (turned_by (bit_xor syndrome (check_of (2 ^ j))) d)
turned_more syndrome j d h =
    let top = 2 ^ j in
    let sum : d + top ≡ 1 * top + d = omega arith in
    let check : check_of (d + top) ≡ bit_xor (check_of top) (check_of d) =
    ap check_of (sum ∙ sym (xor_shifted 1 j d h)) ∙ check_xor (1 * top) d ∙ ap (λ x. bit_xor (check_of x) (check_of d)) (one-mul top) in
    let rest : bit_xor syndrome (check_of (d + top)) ≡ bit_xor (bit_xor syndrome (check_of top)) (check_of d) =
    ap (bit_xor syndrome) check ∙ sym (xor_assoc syndrome (check_of top) (check_of d)) in
    omega (arith, ap ones sum, ones_cat j 1 d h, one_one, ap ones rest)

-- ---- the search, a place at a time

-- a bit above others is added to them
pub top_added : (j d : ℕ) → d < 2 ^ j → bit_xor d (2 ^ j) ≡ d + 2 ^ j
top_added j d h =
    let sum : 1 * 2 ^ j + d ≡ d + 2 ^ j = omega arith in
    xor_comm d (2 ^ j) ∙ ap (λ x. bit_xor x d) (sym (one-mul (2 ^ j))) ∙ xor_shifted 1 j d h ∙ sum

-- the highest of some places of the data
pub top_small : (places : ℕ) → 0 < places → places ≤ 12 → 2 ^ (places - 1) < 4096
top_small places p q = pow-lt {i = places - 1} {j = 12} (omega arith)

pub top_place : (places : ℕ) → 0 < places → places ≤ 12 → 1 * 2 ^ (places - 1) % 65536 ≡ 2 ^ (places - 1)
top_place places p q = omega (arith, top_small places p q)

twice : (places : ℕ) → 0 < places → 2 ^ places ≡ 2 ^ (places - 1) * 2
twice places h = let e : places ≡ suc (places - 1) = omega arith in ap (λ k. 2 ^ k) e ∙ pow-suc 2 (places - 1)

pub explains_end : (syndrome places left : ℕ) → (places ≡ 0) ⊎ ((places ≡ 0 → ⊥) × (left ≡ 0)) → left < ones syndrome → Explains syndrome places left None
explains_end syndrome places left end over d h =
    elim (eq-zero-or-pos d) [
      | inl e ↦ omega (arith, ap (turned_by syndrome) e, turned_none syndrome)
      | inr some ↦ elim end [
        | inl e ↦ absurd (omega (arith, ap (λ k. 2 ^ k) e))
        | inr e ↦ omega (arith, some_ones d some, e.1)
      ]
    ]

pub explains_turned : (syndrome places left d : ℕ) → 0 < places → 0 < left
    → Explains (bit_xor syndrome (check_of (2 ^ (places - 1)))) (places - 1) (left - 1) (Some d)
    → Explains syndrome places left (Some (d + 2 ^ (places - 1)))
explains_turned syndrome places left d p q found =
    (omega (arith, twice places p, found.0), omega (arith, turned_more syndrome (places - 1) d found.0, found.1))

pub explains_other : (syndrome places left : ℕ) (r : Option ℕ) → 0 < places → 0 < left
    → Explains (bit_xor syndrome (check_of (2 ^ (places - 1)))) (places - 1) (left - 1) None
    → Explains syndrome (places - 1) left r
    → Explains syndrome places left r
explains_other syndrome places left (Some d) p q none found = (omega (arith, twice places p, found.0), found.1)
explains_other syndrome places left None p q none other = λ d h.
    let top = 2 ^ (places - 1) in
    elim (cases_lt d top) [
      | inl low ↦ other d low
      | inr high ↦
          let e : (d - top) + top ≡ d = omega arith in
          let low : d - top < top = omega (arith, twice places p) in
          omega (arith, ap (turned_by syndrome) e, turned_more syndrome (places - 1) (d - top) low, none (d - top) low)
    ]

-- ---- the whole word

-- the bits in which a codeword differs from a word of data and check bits, by the word's syndrome
distance-turned : (sent check d : ℕ) → check < 4096 → d < 4096
    → distance (code_of d) (sent * 4096 + check) ≡ turned_by (bit_xor (check_of sent) check) (bit_xor d sent)
distance-turned sent check d low p =
    let own = check_of d in
    let small : own < 4096 = omega arith in
    let halves : bit_xor (code_of d) (sent * 4096 + check) ≡ bit_xor d sent * 4096 + bit_xor own check =
    ap (λ x. bit_xor x (sent * 4096 + check)) (code_halves d p) ∙ xor_block 12 d sent own check small low in
    let left : bit_xor (bit_xor (check_of sent) check) (check_of (bit_xor d sent)) ≡ bit_xor own check =
    ap (bit_xor (bit_xor (check_of sent) check)) (check_xor d sent)
    ∙ xor_comm (bit_xor (check_of sent) check) (bit_xor own (check_of sent))
    ∙ sym (xor_assoc (bit_xor own (check_of sent)) (check_of sent) check)
    ∙ ap (λ x. bit_xor x check) (xor_undone own (check_of sent)) in
    ap ones halves
    ∙ ones_cat 12 (bit_xor d sent) (bit_xor own check) (xor_lt 12 own check small low)
    ∙ ap (λ x. ones (bit_xor d sent) + ones x) (sym left)

pub near_some : (limit sent check d : ℕ) → limit ≤ 3 → sent < 4096 → check < 4096
    → Explains (bit_xor (check_of sent) check) 12 limit (Some d)
    → Near limit (sent * 4096 + check) (counted (sent * 4096 + check) (Some (bit_xor sent d)))
near_some limit sent check d few p q found =
    let word = sent * 4096 + check in
    let mended = bit_xor sent d in
    let small : mended < 4096 = xor_lt 12 sent d p found.0 in
    let back : bit_xor mended sent ≡ d = ap (λ x. bit_xor x sent) (xor_comm sent d) ∙ xor_undone d sent in
    let near : distance (code_of mended) word ≤ limit =
    omega (arith, distance-turned sent check mended q small, ap (turned_by (bit_xor (check_of sent) check)) back, found.1) in
    (small, refl, near, λ other r close. only_one limit word other mended few r small close near)

pub near_none : (limit sent check : ℕ) → sent < 4096 → check < 4096 → Explains (bit_xor (check_of sent) check) 12 limit None → Near limit (sent * 4096 + check) None
near_none limit sent check p q none d r =
    omega (arith, distance-turned sent check d q r, none (bit_xor d sent) (xor_lt 12 d sent r p))

-- the same of a word and its syndrome
pub near_mended : (word syndrome : ℕ) (r : Option ℕ) → word < 2 ^ 24 → syndrome ≡ bit_xor (check_of (word / 4096)) (word % 4096)
    → Explains syndrome 12 3 r → Near 3 word (counted word (option_map (bit_xor (word / 4096)) r))
near_mended word syndrome r h e found =
    let whole : word / 4096 * 4096 + word % 4096 ≡ word = omega arith in
    let told = subst (λ s. Explains s 12 3 r) e found in
    subst (λ w. Near 3 w (counted w (option_map (bit_xor (word / 4096)) r))) whole
    (elim r as (λ x. Explains (bit_xor (check_of (word / 4096)) (word % 4096)) 12 3 x
    → Near 3 (word / 4096 * 4096 + word % 4096) (counted (word / 4096 * 4096 + word % 4096) (option_map (bit_xor (word / 4096)) x))) [
      | Some d ↦ near_some 3 (word / 4096) (word % 4096) d (omega arith) (omega arith) (omega arith)
      | None ↦ near_none 3 (word / 4096) (word % 4096) (omega arith) (omega arith)
    ] told)
