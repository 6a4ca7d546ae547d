-- The readings of a block in the order of its coded dibits, one more at a time.
use Rattle.std.proofs.Common.{◌≡◌, ℕ, zero, suc, ◌+◌, ◌<◌, ◌≤◌, List, [], ◌∷◌, ◌++◌, map, reverse, length, get_or, take, drop, set, sym, refl, ap, ◌∙◌, subst, zero-add, add-one, arith, length-append, length-drop, length-take-le, drop-cons}
use lib.ListN.{length-map}
use Rattle.std.specs.List.{range_with_len, flat_map}
use Rattle.std.proofs.lemmas.List.FromFn.{map-range_with_len_more}
use Rattle.std.proofs.lemmas.List.{flat_map_more, map-id, take_more_set, length-reverse}
use Rattle.layout.specs.declared.Block.{Block}
use Rattle.layout.specs.Places.{length_of, stands, OwnPlaces}
use Rattle.layout.proofs.Own.{own_places}
use Rattle.measure.specs.Meaning.{Meaning}
use Rattle.trellis.specs.Words.{Heard, heard_at, heard_first}
use Rattle.trellis.specs.Steps.{hears, Holds, Stepped}
use Rattle.trellis.proofs.Tracing.{reverse_push}

counting_more : (n : ℕ) → range_with_len 0 (n + 1) ≡ range_with_len 0 n ++ n ∷ []
counting_more n = sym (map-id (range_with_len 0 (n + 1))) ∙ map-range_with_len_more (λ k. k) 0 n n (zero-add n) ∙ ap (λ l. l ++ n ∷ []) (map-id (range_with_len 0 n))

module _ {R : Type 0} (readings : List R) where
  here : (p : ℕ) (y : R) → p < length readings → y ≡ get_or readings p y → heard_at readings p ≡ hears p y ∷ []
  here p y h e = ap (λ l. map (hears p) (take 1 l)) (drop-cons readings p y h) ∙ ap (λ z. hears p z ∷ []) (sym e)

  pub heard_more : (b : Block) (n : ℕ) (y : R) → stands b n < length readings → y ≡ get_or readings (stands b n) y
      → heard_first b readings (n + 1) ≡ heard_first b readings n ++ hears (stands b n) y ∷ []
  heard_more b n y h e =
      ap (flat_map (λ i. heard_at readings (stands b i))) (counting_more n)
      ∙ sym (flat_map_more (λ i. heard_at readings (stands b i)) [] (range_with_len 0 n) n)
      ∙ ap (λ l. heard_first b readings n ++ l) (here (stands b n) y h e)

  pub heard_newest : (b : Block) (n : ℕ) (y : R) → stands b n < length readings → y ≡ get_or readings (stands b n) y
      → reverse (heard_first b readings (n + 1)) ≡ hears (stands b n) y ∷ reverse (heard_first b readings n)
  heard_newest b n y h e = ap reverse (heard_more b n y h e) ∙ reverse_push (heard_first b readings n) (hears (stands b n) y)

-- the decisions so far, newest first, with one more
pub decisions_newest : (ds : List ℕ) (n d : ℕ) → n < length ds → reverse (take (n + 1) (set ds n d)) ≡ d ∷ reverse (take n ds)
decisions_newest ds n d h = ap reverse (take_more_set ds n d h) ∙ reverse_push (take n ds) d

-- as many are heard as dibits are coded
length_one : {R : Type 0} (readings : List R) (p : ℕ) → p < length readings → length (heard_at readings p) ≡ 1
length_one readings p h =
    length-map (take 1 (drop p readings)) (hears p) ∙ length-take-le 1 (drop p readings) (omega (arith, length-drop p readings))

pub length-heard : {R : Type 0} (b : Block) (readings : List R) (n : ℕ) → OwnPlaces b → length readings ≡ 480 → n ≤ length_of b → length (heard_first b readings n) ≡ n
length-heard b readings zero own long h = refl
length-heard {R} b readings (suc n) own long h =
    let f : ℕ → List (Heard R) = λ i. heard_at readings (stands b i) in
    let one = length_one readings (stands b n) (omega (arith, own.within n (omega arith))) in
    let rest = length-heard b readings n own long (omega arith) in
    ap (λ k. length (flat_map f (range_with_len 0 k))) (sym (add-one n))
    ∙ ap (λ l. length (flat_map f l)) (counting_more n)
    ∙ ap length (sym (flat_map_more f [] (range_with_len 0 n) n))
    ∙ length-append (flat_map f (range_with_len 0 n)) (f n)
    ∙ omega arith

-- an element, without one to fall back on
at_place : {R : Type 0} (xs : List R) (i : ℕ) → i < length xs → (x : R) × (x ≡ get_or xs i x)
at_place [] i h = absurd (omega arith)
at_place (x ∷ xs) zero h = (x, refl)
at_place (x ∷ xs) (suc i) h = at_place xs i (omega arith)

-- one reading more of a block
pub weighed_more : {S R T : Type 0} (μ : Meaning S R T) (m : S) (b : Block) (readings : List R) (old new : List T) (ds : List ℕ) (n d : ℕ)
    → Stepped μ m n (stands b n) readings old new d → length readings ≡ 480 → n < length_of b → n < length ds
    → Holds μ m (reverse (heard_first b readings n)) old (reverse (take n ds))
    → Holds μ m (reverse (heard_first b readings (n + 1))) new (reverse (take (n + 1) (set ds n d)))
unfolding Stepped
weighed_more μ m b readings old new ds n d step long inside room held =
    let size : length (reverse (heard_first b readings n)) ≡ n =
    length-reverse (heard_first b readings n) ∙ length-heard b readings n (own_places b) long (omega arith) in
    let place : stands b n < length readings = omega (arith, (own_places b).within n inside) in
    let y = at_place readings (stands b n) place in
    let next = step y.0 (reverse (heard_first b readings n)) (reverse (take n ds)) y.1 size held in
    subst (λ ys. Holds μ m ys new (reverse (take (n + 1) (set ds n d)))) (sym (heard_newest readings b n y.0 place y.1))
    (subst (λ es. Holds μ m (hears (stands b n) y.0 ∷ reverse (heard_first b readings n)) new es) (sym (decisions_newest ds n d room)) next)
