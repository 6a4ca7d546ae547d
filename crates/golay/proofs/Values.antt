-- Codewords and readings that are known: the first by computation, the others by what lies near a word of few ones.
use Rattle.std.proofs.Common.{◌≡◌, ℕ, ◌+◌, ◌<◌, ◌≤◌, Some, None, refl, ap, ◌∙◌, inl, inr, eq-zero-or-pos, arith}
use lib.Bits.{bit_xor, xor_zero_l}
use lib.Count.{ones}
use Rattle.bits.specs.Bits.{bits_of, number_from, plus}
use Rattle.bits.specs.Division.{divided}
use Rattle.golay.specs.Golay.{total, code_of, distance}
use Rattle.golay.specs.Nearest.{Nearest}
use Rattle.golay.specs.Values.{GolayValues}
use Rattle.golay.proofs.Checks.{code_zero}
use Rattle.golay.proofs.Weights.{ones_xor, eight_ones}
use Rattle.golay.proofs.Unique.{xor_undone, only_one, near_is}

-- the codeword of 0 differs from a word in the word's ones
from_zero : (word : ℕ) → distance (code_of 0) word ≡ ones word
from_zero word = ap (λ x. distance x word) code_zero ∙ ap ones (xor_zero_l word)

-- any other codeword has eight ones, and the word few of them
from_others : (word d : ℕ) → 0 < d → d < 4096 → 8 ≤ distance (code_of d) word + ones word
from_others word d some h =
    omega (arith, eight_ones d some h, ones_xor (bit_xor (code_of d) word) word, ap ones (xor_undone (code_of d) word))

four : Nearest 0x00000F None
unfolding ones
four d h =
    elim (eq-zero-or-pos d) [
      | inl e ↦ omega (arith, ap (λ x. distance (code_of x) 0x00000F) e, from_zero 0x00000F)
      | inr some ↦ omega (arith, from_others 0x00000F d some h)
    ]

three : Nearest 0x000007 (Some (0, 3))
unfolding ones
three = (omega arith, from_zero 0x000007, omega arith, λ d h near. only_one 3 0x000007 d 0 (omega arith) h (omega arith) near (omega (arith, from_zero 0x000007)))

pub values : GolayValues
unfolding code_of bits_of number_from total divided plus
values =
    record {
      lowest = refl;
      highest = refl;
      whole = refl;
      three_turned = near_is 3 0x000007 (Some (0, 3)) three;
      four_turned = near_is 3 0x00000F None four;
    }
