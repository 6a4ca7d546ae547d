-- The convolutional coder of rate 1/2 and constraint length 5.
use Rattle.std.specs.Prelude.{ℕ, ◌-◌, cond, List, [], ◌∷◌, ◌++◌, nat_le, slice_index}
use Rattle.bits.specs.Bits.{◌⊕◌}
use Rattle.bits.specs.Dibits.{dibit}
use Rattle.bits.specs.declared.Dibit.{Dibit}

-- the dibit for the input u and the inputs 1, 2, 3 and 4 steps before it
abbrev pub symbol : ℕ → ℕ → ℕ → ℕ → ℕ → Dibit
symbol u u1 u2 u3 u4 = dibit (u ⊕ u3 ⊕ u4) (u ⊕ u1 ⊕ u2 ⊕ u4)

-- the dibits for more inputs after those in past, which stand newest first; before the start all inputs are 0
unfoldable pub coded_after : List ℕ → List ℕ → List Dibit
coded_after past [] = []
coded_after past (u ∷ us) =
    symbol u (slice_index past 0) (slice_index past 1) (slice_index past 2) (slice_index past 3) ∷ coded_after (u ∷ past) us

-- the dibits of a word: its free inputs, and four 0s that bring the coder back to rest
abbrev pub coded : List ℕ → List Dibit
coded inputs = coded_after [] (inputs ++ 0 ∷ 0 ∷ 0 ∷ 0 ∷ [])

-- the input k steps before input i, and 0 before the start
abbrev pub input_before : List ℕ → ℕ → ℕ → ℕ
input_before us i k = cond (nat_le k i) (slice_index us (i - k)) 0

-- the dibit of input i
abbrev pub symbol_at : List ℕ → ℕ → Dibit
symbol_at us i = symbol (input_before us i 0) (input_before us i 1) (input_before us i 2) (input_before us i 3) (input_before us i 4)
