-- Two lists by turns: how long they are, what stands where, and the same of their dibits.
use Rattle.std.proofs.Common.{◌≡◌, ℕ, zero, suc, ◌+◌, ◌*◌, ◌<◌, ◌≤◌, List, [], ◌∷◌, ◌++◌, length, get_or, take, drop, sym, refl, ap, ◌∙◌, mul-zero, mul-suc, arith, length-append, length-drop, length-take-le, get_or-drop, get_or-take}
use Rattle.std.proofs.lemmas.List.{get_or_append_left, get_or-append_right}
use Rattle.bits.specs.declared.Dibit.{Dibit}
use Rattle.bits.specs.Dibits.{dibits_of}
use Rattle.bits.proofs.Packing.{dibits_of-append}
use Rattle.frame.specs.Coding.{by_turns}

module _ {A : Type 0} (w : ℕ) where
  length_two : (xs ys zs : List A) → w ≤ length xs → w ≤ length ys → length (take w xs ++ (take w ys ++ zs)) ≡ w + (w + length zs)
  length_two xs ys zs p q =
      length-append (take w xs) (take w ys ++ zs)
      ∙ omega (arith, length-take-le w xs p, length-take-le w ys q, length-append (take w ys) zs)

  -- past the two pieces
  skip_two : (xs ys zs : List A) (d : A) (k : ℕ) → w ≤ length xs → w ≤ length ys → get_or (take w xs ++ (take w ys ++ zs)) (w + (w + k)) d ≡ get_or zs k d
  skip_two xs ys zs d k p q =
      get_or-append_right (take w xs) (take w ys ++ zs) w (w + (w + k)) d (length-take-le w xs p) (omega arith)
      ∙ ap (λ n. get_or (take w ys ++ zs) n d) (omega arith)
      ∙ get_or-append_right (take w ys) zs w (w + k) d (length-take-le w ys q) (omega arith)
      ∙ ap (λ n. get_or zs n d) (omega arith)

  pub length-by_turns : (n : ℕ) (xs ys : List A) → w * n ≤ length xs → w * n ≤ length ys → length (by_turns w n xs ys) ≡ (w + w) * n
  unfolding by_turns
  length-by_turns zero xs ys p q = sym (mul-zero (w + w))
  length-by_turns (suc n) xs ys p q =
      let m = mul-suc w n in
      let mm = mul-suc (w + w) n in
      let rest = length-by_turns n (drop w xs) (drop w ys) (simp length-drop (omega arith)) (simp length-drop (omega arith)) in
      length_two xs ys (by_turns w n (drop w xs) (drop w ys)) (omega arith) (omega arith) ∙ omega arith

  -- a place in a piece of the first list
  pub get_or-first : (n q r : ℕ) (xs ys : List A) (d : A) → r < w → q < n → w * n ≤ length xs → w * n ≤ length ys
      → get_or (by_turns w n xs ys) ((w + w) * q + r) d ≡ get_or xs (w * q + r) d
  unfolding by_turns
  get_or-first zero q r xs ys d hr hq p s = absurd (omega arith)
  get_or-first (suc n) zero r xs ys d hr hq p s =
      let m = mul-suc w n in
      let rest = take w ys ++ by_turns w n (drop w xs) (drop w ys) in
      ap (λ k. get_or (take w xs ++ rest) k d) (omega (arith, mul-zero (w + w)))
      ∙ get_or_append_left (take w xs) rest d r (omega (arith, length-take-le w xs (omega arith)))
      ∙ get_or-take w xs r d hr
      ∙ ap (λ k. get_or xs k d) (omega (arith, mul-zero w))
  get_or-first (suc n) (suc q) r xs ys d hr hq p s =
      let m = mul-suc w n in
      let mq = mul-suc w q in
      let mm = mul-suc (w + w) q in
      let rest = by_turns w n (drop w xs) (drop w ys) in
      ap (λ k. get_or (take w xs ++ (take w ys ++ rest)) k d) (omega arith)
      ∙ skip_two xs ys rest d ((w + w) * q + r) (omega arith) (omega arith)
      ∙ get_or-first n q r (drop w xs) (drop w ys) d hr (omega arith) (simp length-drop (omega arith)) (simp length-drop (omega arith))
      ∙ get_or-drop w xs (w * q + r) d
      ∙ ap (λ k. get_or xs k d) (omega arith)

  -- and in one of the second
  pub get_or-second : (n q r : ℕ) (xs ys : List A) (d : A) → r < w → q < n → w * n ≤ length xs → w * n ≤ length ys
      → get_or (by_turns w n xs ys) ((w + w) * q + (w + r)) d ≡ get_or ys (w * q + r) d
  unfolding by_turns
  get_or-second zero q r xs ys d hr hq p s = absurd (omega arith)
  get_or-second (suc n) zero r xs ys d hr hq p s =
      let m = mul-suc w n in
      let rest = by_turns w n (drop w xs) (drop w ys) in
      ap (λ k. get_or (take w xs ++ (take w ys ++ rest)) k d) (omega (arith, mul-zero (w + w)))
      ∙ get_or-append_right (take w xs) (take w ys ++ rest) w (w + r) d (length-take-le w xs (omega arith)) (omega arith)
      ∙ ap (λ k. get_or (take w ys ++ rest) k d) (omega arith)
      ∙ get_or_append_left (take w ys) rest d r (omega (arith, length-take-le w ys (omega arith)))
      ∙ get_or-take w ys r d hr
      ∙ ap (λ k. get_or ys k d) (omega (arith, mul-zero w))
  get_or-second (suc n) (suc q) r xs ys d hr hq p s =
      let m = mul-suc w n in
      let mq = mul-suc w q in
      let mm = mul-suc (w + w) q in
      let rest = by_turns w n (drop w xs) (drop w ys) in
      ap (λ k. get_or (take w xs ++ (take w ys ++ rest)) k d) (omega arith)
      ∙ skip_two xs ys rest d ((w + w) * q + (w + r)) (omega arith) (omega arith)
      ∙ get_or-second n q r (drop w xs) (drop w ys) d hr (omega arith) (simp length-drop (omega arith)) (simp length-drop (omega arith))
      ∙ get_or-drop w ys (w * q + r) d
      ∙ ap (λ k. get_or ys k d) (omega arith)

-- ---- the dibits of bytes

pub dibits_of-take : (n : ℕ) (bs : List ℕ) → dibits_of (take n bs) ≡ take (4 * n) (dibits_of bs)
unfolding dibits_of
dibits_of-take zero bs = refl
dibits_of-take (suc n) [] = let e : 4 * suc n ≡ suc (3 + 4 * n) = omega arith in ap (λ k. take {A = Dibit} k []) (sym e)
dibits_of-take (suc n) (b ∷ bs) =
    let e : 4 * suc n ≡ suc (suc (suc (suc (4 * n)))) = omega arith in
    let rest = dibits_of-take n bs in
    ap (λ l. dibits_of (b ∷ []) ++ l) rest ∙ ap (λ k. take k (dibits_of (b ∷ bs))) (sym e)

pub dibits_of-drop : (n : ℕ) (bs : List ℕ) → dibits_of (drop n bs) ≡ drop (4 * n) (dibits_of bs)
unfolding dibits_of
dibits_of-drop zero bs = refl
dibits_of-drop (suc n) [] = let e : 4 * suc n ≡ suc (3 + 4 * n) = omega arith in ap (λ k. drop {A = Dibit} k []) (sym e)
dibits_of-drop (suc n) (b ∷ bs) =
    let e : 4 * suc n ≡ suc (suc (suc (suc (4 * n)))) = omega arith in
    dibits_of-drop n bs ∙ ap (λ k. drop k (dibits_of (b ∷ bs))) (sym e)

pub dibits_by_turns : (w n : ℕ) (xs ys : List ℕ) → dibits_of (by_turns w n xs ys) ≡ by_turns (4 * w) n (dibits_of xs) (dibits_of ys)
unfolding by_turns dibits_of
dibits_by_turns w zero xs ys = refl
dibits_by_turns w (suc n) xs ys =
    let rest = by_turns w n (drop w xs) (drop w ys) in
    let a = dibits_of-append (take w xs) (take w ys ++ rest) in
    let b = dibits_of-append (take w ys) rest in
    let c = dibits_of-take w xs in
    let d = dibits_of-take w ys in
    let e = dibits_by_turns w n (drop w xs) (drop w ys) in
    let f = dibits_of-drop w xs in
    let g = dibits_of-drop w ys in
    cc
