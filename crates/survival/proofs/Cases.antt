-- A test at all bits or dibits, computed.
use Rattle.std.proofs.Common.{◌≡◌, ℕ, zero, suc, Bool, true, false, ◌&&◌, T, List, [], ◌∷◌, length, arith}
use Rattle.bits.specs.Bits.{Bits}
use Rattle.bits.specs.declared.Dibit.{Dibit}
use Rattle.bits.specs.declared.Dibit.TheVariants.{D00, D01, D10, D11}

-- a test at every list of n bits
unfoldable pub each_bits : ℕ → (List ℕ → Bool) → Bool
each_bits zero f = f []
each_bits (suc n) f = each_bits n (λ l. f (0 ∷ l)) && each_bits n (λ l. f (1 ∷ l))

left : (a b : Bool) → T (a && b) → T a
left true b t = tt
left false b t = t

right : (a b : Bool) → T (a && b) → T b
right true b t = t
right false b t = absurd t

pub at_bits : (n : ℕ) (f : List ℕ → Bool) (bs : List ℕ) → length bs ≡ n → Bits bs → T (each_bits n f) → T (f bs)
unfolding each_bits
at_bits zero f [] e h t = t
at_bits zero f (b ∷ bs) e h t = absurd (omega arith)
at_bits (suc n) f [] e h t = absurd (omega arith)
at_bits (suc n) f (zero ∷ bs) e h t = at_bits n (λ l. f (0 ∷ l)) bs (omega arith) h.1 (left _ _ t)
at_bits (suc n) f (suc zero ∷ bs) e h t = at_bits n (λ l. f (1 ∷ l)) bs (omega arith) h.1 (right _ _ t)
at_bits (suc n) f (suc (suc b) ∷ bs) e h t = absurd (omega (arith, h.0))

-- a test at every dibit
abbrev pub each_dibit : (Dibit → Bool) → Bool
each_dibit f = (f D00 && f D01) && (f D10 && f D11)

pub at_dibit : (f : Dibit → Bool) (d : Dibit) → T (each_dibit f) → T (f d)
at_dibit f D00 t = left (f D00) (f D01) (left (f D00 && f D01) (f D10 && f D11) t)
at_dibit f D01 t = right (f D00) (f D01) (left (f D00 && f D01) (f D10 && f D11) t)
at_dibit f D10 t = left (f D10) (f D11) (right (f D00 && f D01) (f D10 && f D11) t)
at_dibit f D11 t = right (f D10) (f D11) (right (f D00 && f D01) (f D10 && f D11) t)
