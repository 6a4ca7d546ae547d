-- The two states that two others lead to: what the code computes is what the definition says.
use Rattle.std.proofs.Common.{◌≡◌, ℕ, zero, suc, ◌+◌, ◌*◌, ◌%◌, ◌^◌, ◌<◌, ◌≤◌, Bool, true, false, cond, List, length, get_or, set, sym, refl, ap, ◌∙◌, add-mul, pow-suc, add-one, arith, length-set, pow_mono}
use mir.Val.{bool_byte}
use Rattle.std.proofs.lemmas.Nat.{shl_whole}
use Rattle.std.proofs.lemmas.List.Edits.{fill_by_more}
use Rattle.bits.specs.declared.Dibit.{Dibit}
use Rattle.measure.specs.Meaning.{Meaning}
use Rattle.trellis.specs.Words.{Heard}
use Rattle.trellis.specs.Search.{earlier_state, output}
use Rattle.trellis.specs.Steps.{packed, at_bank, via, one_wins, winner, turned}
use Rattle.trellis.proofs.Decisions.{packed_below}

pub outputs : (j : ℕ) → j < 8 → (output j 1 ≡ turned (output j 0)) × (output (j + 8) 0 ≡ turned (output j 0)) × (output (j + 8) 1 ≡ output j 0)
outputs zero h = (refl, refl, refl)
outputs (suc zero) h = (refl, refl, refl)
outputs (suc (suc zero)) h = (refl, refl, refl)
outputs (suc (suc (suc zero))) h = (refl, refl, refl)
outputs (suc (suc (suc (suc zero)))) h = (refl, refl, refl)
outputs (suc (suc (suc (suc (suc zero))))) h = (refl, refl, refl)
outputs (suc (suc (suc (suc (suc (suc zero)))))) h = (refl, refl, refl)
outputs (suc (suc (suc (suc (suc (suc (suc zero))))))) h = (refl, refl, refl)
outputs (suc (suc (suc (suc (suc (suc (suc (suc j)))))))) h = absurd (omega arith)

module _ {S R T : Type 0} (μ : Meaning S R T) (m : S) (y : Heard R) (old : List T) where
  -- a way into s, by the state before it and the last input
  via_is : (o s e u : ℕ) (t : T) (d : Dibit) → earlier_state o s ≡ e → s % 2 ≡ u → t ≡ at_bank μ m old e → d ≡ output e u
      → μ.extend m t y.place y.reading d ≡ via μ m y old o s
  via_is o s e u t d es eu et ed =
      ap (λ x. μ.extend m x y.place y.reading d) et
      ∙ ap (λ x. μ.extend m (at_bank μ m old e) y.place y.reading x) ed
      ∙ ap (λ x. μ.extend m (at_bank μ m old e) y.place y.reading (output e x)) (sym eu)
      ∙ ap (λ x. μ.extend m (at_bank μ m old x) y.place y.reading (output x (s % 2))) (sym es)

  -- the four ways that the states j and j + 8 offer
  pub record FourWays (j : ℕ) (a0 a1 b0 b1 : T) : Type 0 where
    pub even_zero : a0 ≡ via μ m y old 0 (2 * j)
    pub even_one : a1 ≡ via μ m y old 1 (2 * j)
    pub odd_zero : b0 ≡ via μ m y old 0 (2 * j + 1)
    pub odd_one : b1 ≡ via μ m y old 1 (2 * j + 1)

  pub four_ways : (j : ℕ) (low high : T) (d e : Dibit) → j < 8 → low ≡ at_bank μ m old j → high ≡ at_bank μ m old (j + 8) → d ≡ output j 0 → e ≡ turned d
      → FourWays j (μ.extend m low y.place y.reading d) (μ.extend m high y.place y.reading e)
      (μ.extend m low y.place y.reading e) (μ.extend m high y.place y.reading d)
  four_ways j low high d e h el eh ed ee =
      let o = outputs j h in
      let turn : e ≡ turned (output j 0) = ee ∙ ap turned ed in
      record {
        even_zero = via_is 0 (2 * j) j 0 low d (omega arith) (omega arith) el ed;
        even_one = via_is 1 (2 * j) (j + 8) 0 high e (omega arith) (omega arith) eh (turn ∙ sym o.1);
        odd_zero = via_is 0 (2 * j + 1) j 1 low e (omega arith) (omega arith) el (turn ∙ sym o.0);
        odd_one = via_is 1 (2 * j + 1) (j + 8) 1 high d (omega arith) (omega arith) eh (ed ∙ sym o.2);
      }

  pub winner_is : (s : ℕ) (zero-way one_way : T) → zero-way ≡ via μ m y old 0 s → one_way ≡ via μ m y old 1 s
      → (cond (μ.better m one_way zero-way) one_way zero-way ≡ winner μ m y old s) × (μ.better m one_way zero-way ≡ one_wins μ m y old s)
  winner_is s zero-way one_way e0 e1 =
      let wins : μ.better m one_way zero-way ≡ one_wins μ m y old s =
      ap (λ x. μ.better m x zero-way) e1 ∙ ap (λ x. μ.better m (via μ m y old 1 s) x) e0 in (
        ap (λ b. cond b one_way zero-way) wins
            ∙ ap (λ x. cond (one_wins μ m y old s) x zero-way) e1
            ∙ ap (λ x. cond (one_wins μ m y old s) (via μ m y old 1 s) x) e0,
        wins,
      )

flags : (p q : Bool) → bool_byte p + 2 * bool_byte q ≡ cond p 1 0 + cond q 2 0
flags true true = refl
flags true false = refl
flags false true = refl
flags false false = refl

-- two truth values as the decisions of an even and an odd state
pub ones_are : (x y : ℕ) (a b p q : Bool) → x ≡ bool_byte a → y ≡ bool_byte b → a ≡ p → b ≡ q → x + 2 * y ≡ cond p 1 0 + cond q 2 0
ones_are x y a b p q ex ey ea eb =
    ap (λ z. z + 2 * y) (ex ∙ ap bool_byte ea) ∙ ap (λ z. bool_byte p + 2 * z) (ey ∙ ap bool_byte eb) ∙ flags p q

doubled : (b : Bool) (k : ℕ) → cond b (2 ^ suc k) 0 ≡ cond b 2 0 * 2 ^ k
doubled true k = pow-suc 2 k ∙ omega arith
doubled false k = omega arith

single : (b : Bool) (k : ℕ) → cond b (2 ^ k) 0 ≡ cond b 1 0 * 2 ^ k
single true k = omega arith
single false k = omega arith

-- two more decisions
pub packed_two : (f : ℕ → Bool) (n : ℕ) → packed f (n + 2) ≡ packed f n + (cond (f n) 1 0 + cond (f (n + 1)) 2 0) * 2 ^ n
unfolding packed
packed_two f n =
    let a : ℕ = cond (f n) 1 0 in
    let b : ℕ = cond (f (n + 1)) 2 0 in
    let two : n + 2 ≡ suc (suc n) = omega arith in
    ap (packed f) two
    ∙ ap (λ k. packed f n + cond (f n) (2 ^ n) 0 + cond (f k) (2 ^ suc n) 0) (sym (add-one n))
    ∙ omega (arith, single (f n) n, doubled (f (n + 1)) n, add-mul a b (2 ^ n))

flags_below : (p q : Bool) → cond p 1 0 + cond q 2 0 < 2 ^ 2
flags_below true true = omega arith
flags_below true false = omega arith
flags_below false true = omega arith
flags_below false false = omega arith

-- the decisions with those of the next two states
pub decisions_more : (f : ℕ → Bool) (j word ones : ℕ) → j < 8 → word ≡ packed f (2 * j) → ones ≡ cond (f (2 * j)) 1 0 + cond (f (2 * j + 1)) 2 0
    → (word + ones * 2 ^ (2 * j) % 65536 ≡ packed f (2 * (j + 1))) × (word + ones * 2 ^ (2 * j) % 65536 < 65536)
decisions_more f j word ones h ew eo =
    let small : ones < 2 ^ 2 = omega (arith, eo, flags_below (f (2 * j)) (f (2 * j + 1))) in
    let whole : ones * 2 ^ (2 * j) % 65536 ≡ ones * 2 ^ (2 * j) = shl_whole ones 2 (2 * j) 16 small (omega arith) in
    let next : 2 * (j + 1) ≡ 2 * j + 2 = omega arith in
    let made : word + ones * 2 ^ (2 * j) % 65536 ≡ packed f (2 * (j + 1)) =
    ap (λ x. word + x) whole
    ∙ ap (λ x. x + ones * 2 ^ (2 * j)) ew
    ∙ ap (λ x. packed f (2 * j) + x * 2 ^ (2 * j)) eo
    ∙ sym (ap (packed f) next ∙ packed_two f (2 * j)) in
    let room : 2 ^ (2 * (j + 1)) ≤ 2 ^ 16 = pow_mono {i = 2 * (j + 1)} {j = 16} (omega arith) in
    (made, omega (arith, made, packed_below f (2 * (j + 1)), room))

-- ---- two states more of a bank

pub two_more : {T : Type 0} (bank one two : List T) (n : ℕ) (a b d : T) (f : ℕ → T) → n + 1 < length bank
    → one ≡ set bank n a → two ≡ set one (n + 1) b → a ≡ f n → b ≡ f (n + 1)
    → ((s : ℕ) → s < n → get_or bank s d ≡ f s) → (s : ℕ) → s < n + 2 → get_or two s d ≡ f s
two_more bank one two n a b d f room eo et ea eb so_far s h =
    let long : length one ≡ length bank = ap length eo ∙ length-set bank n a in
    let first : (k : ℕ) → k < n + 1 → get_or one k d ≡ f k =
    λ k l. ap (λ t. get_or t k d) (eo ∙ ap (set bank n) ea) ∙ fill_by_more f bank n d (omega arith) so_far k l in
    ap (λ t. get_or t s d) (et ∙ ap (set one (n + 1)) eb) ∙ fill_by_more f one (n + 1) d (omega arith) first s (omega arith)
