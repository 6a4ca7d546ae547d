-- Division of polynomials whose coefficients are bits, highest power first.
use Rattle.std.specs.Prelude.{ℕ, zero, suc, cond, List, [], ◌∷◌, ◌++◌, length, replicate, ◌==◌}
use Rattle.bits.specs.Bits.{◌⊕◌, plus}

-- n steps of long division by 1 followed by the bits g: a leading 1 takes the divisor off, and the leading place is done
unfoldable pub divided : List ℕ → ℕ → List ℕ → List ℕ
divided g zero bs = bs
divided g (suc n) [] = []
divided g (suc n) (b ∷ bs) = divided g n (cond (b == 0) bs (plus bs g))

-- the remainder of bs · x^w by the polynomial of degree w whose coefficients are 1 and then the w bits g
abbrev pub remainder : List ℕ → List ℕ → List ℕ
remainder g bs = divided g (length bs) (bs ++ replicate (length g) 0)

-- a shift register of as many places as g: the top bit goes out, and feeds g back where it and the new bit differ
unfoldable pub shifted : List ℕ → List ℕ → ℕ → List ℕ
shifted g [] b = []
shifted g (x ∷ xs) b = cond ((x ⊕ b) == 0) (xs ++ 0 ∷ []) (plus (xs ++ 0 ∷ []) g)

-- the register after more bits
unfoldable pub fed : List ℕ → List ℕ → List ℕ → List ℕ
fed g register [] = register
fed g register (b ∷ bs) = fed g (shifted g register b) bs
