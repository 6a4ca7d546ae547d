-- What a line can change: of the message the bytes of its own field, and the settings only to what is allowed.
use Rattle.std.specs.Prelude.{◌≡◌, ℕ, ◌+◌, ◌≤◌, Bool, true, false, ◌&&◌, List, length, Some, None, Option, nat_le, nat_lt, slice_index}
use Rattle.std.specs.List.{between}
use Rattle.fields.specs.Settings.{allowed}
use Rattle.order.specs.declared.Order.{Order}
use Rattle.order.specs.declared.keys.TextField.{TextField}
use Rattle.order.specs.declared.keys.Field.{Field}
use Rattle.order.specs.declared.keys.Field.TheVariants.{Text, Mode, Number}
use Rattle.order.specs.Keys.{text_at, text_width}
use Rattle.order.specs.Orders.{padded}

-- whether a byte of the message belongs to a field
abbrev pub owns : Field → ℕ → Bool
owns (Text text) k = nat_le (text_at text) k && nat_lt k (text_at text + text_width text)
owns Mode k = false
owns (Number setting) k = false

abbrev pub owned : Option Field → ℕ → Bool
owned None k = false
owned (Some field) k = owns field k

-- the order before and after a line that names a field and gives it a value
pub record Changed (before : Order) (field : Option Field) (value : List ℕ) (after : Order) : Type 0 where
  -- allowed settings stay allowed
  pub settings : allowed before.settings ≡ true → allowed after.settings ≡ true
  -- a byte of the message outside the field stays as it was
  pub elsewhere : (k : ℕ) → owned field k ≡ false → slice_index after.message k ≡ slice_index before.message k
  -- a text that is not too long stands in its field, followed by spaces
  pub held : (text : TextField) → field ≡ Some (Text text) → length value ≤ text_width text
      → between (text_at text) (text_at text + text_width text) after.message ≡ padded (text_width text) value
