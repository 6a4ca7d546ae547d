-- Totals extended one after the other, each by a dibit of its own.
use Rattle.std.proofs.Common.{◌≡◌, ℕ, zero, suc, ◌<◌, List, [], ◌∷◌, length, get_or, set, refl, ap, arith}
use Rattle.bits.specs.declared.Dibit.{Dibit}

module _ {T : Type 0} (f : T → Dibit → T) where
  -- the first n extended
  unfoldable pub each : List T → List Dibit → ℕ → List T
  each ts ds zero = ts
  each [] ds (suc n) = []
  each (t ∷ ts) [] (suc n) = t ∷ ts
  each (t ∷ ts) (d ∷ ds) (suc n) = f t d ∷ each ts ds n

  pub each_more : (ts : List T) (ds : List Dibit) (n : ℕ) (t : T) (d : Dibit) → n < length ts → n < length ds
      → set (each ts ds n) n (f (get_or (each ts ds n) n t) (get_or ds n d)) ≡ each ts ds (suc n)
  unfolding each
  each_more [] ds n t d h k = absurd (omega arith)
  each_more (t0 ∷ ts) [] n t d h k = absurd (omega arith)
  each_more (t0 ∷ ts) (d0 ∷ ds) zero t d h k = refl
  each_more (t0 ∷ ts) (d0 ∷ ds) (suc n) t d h k = ap (λ l. f t0 d0 ∷ l) (each_more ts ds n t d (omega arith) (omega arith))
