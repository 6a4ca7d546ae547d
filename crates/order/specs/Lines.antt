-- A line is a key, a space and a value. The key runs to the first space, and the value is all that follows that space.
use Rattle.std.specs.Prelude.{ℕ, ◌+◌, ◌-◌, cond, not, List, length, take, drop, ◌==◌, slice_index}
use Rattle.std.specs.List.{prefix_len}

-- a carriage return at the end is not part of the line
abbrev pub bare_of : List ℕ → List ℕ
bare_of line = cond (slice_index line (length line - 1) == 13) (take (length line - 1) line) line

-- how many bytes stand before the first space
abbrev pub key_length : List ℕ → ℕ
key_length line = prefix_len (λ b. not (b == 32)) line

abbrev pub key_of : List ℕ → List ℕ
key_of line = take (key_length line) line

abbrev pub value_of : List ℕ → List ℕ
value_of line = drop (key_length line + 1) line
