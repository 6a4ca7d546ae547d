-- How far apart the dibits of two words are.
use Rattle.std.specs.Prelude.{◌≡◌, ℕ, ◌+◌, ◌≤◌, cond, List, [], ◌∷◌, length, ◌==◌, ◌≢◌}
use Rattle.bits.specs.Bits.{Bits}
use Rattle.bits.specs.Dibits.{first, second}
use Rattle.bits.specs.declared.Dibit.{Dibit}
use Rattle.codes.specs.Convolution.{coded}

-- 1 for two bits that differ
abbrev pub unlike : ℕ → ℕ → ℕ
unlike a b = cond (a == b) 0 1

-- in how many of their two bits dibits differ
abbrev pub apart : Dibit → Dibit → ℕ
apart d e = unlike (first d) (first e) + unlike (second d) (second e)

-- in how many bits two lists of dibits differ, place by place
unfoldable pub differing : List Dibit → List Dibit → ℕ
differing [] es = 0
differing (d ∷ ds) [] = 0
differing (d ∷ ds) (e ∷ es) = apart d e + differing ds es

-- two words of the same length, however long, differ in at least seven coded bits
abbrev pub Seven : Type 0
Seven = (us vs : List ℕ) → Bits us → Bits vs → length us ≡ length vs → (us ≢ vs) → 7 ≤ differing (coded us) (coded vs)
