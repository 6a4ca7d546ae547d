-- What a line makes of an order: the new order, or the cause for which it is refused.
use Rattle.std.specs.Prelude.{ℕ, ◌+◌, ◌-◌, cond, List, ◌++◌, length, take, drop, replicate, Some, None, Ok, Err, Option, Result, ◌==◌, nat_le}
use Rattle.fields.specs.declared.fich.DataType.{DataType}
use Rattle.fields.specs.declared.fich.DataType.TheVariants.{VdType2}
use Rattle.fields.specs.declared.settings.Settings.{Settings}
use Rattle.order.specs.declared.Order.{Order}
use Rattle.order.specs.declared.cause.Cause.{Cause}
use Rattle.order.specs.declared.cause.Cause.TheVariants.{UnknownKey, TooLong, NotANumber, OutOfRange, UnknownMode}
use Rattle.order.specs.declared.keys.Setting.{Setting}
use Rattle.order.specs.declared.keys.Setting.TheVariants.{Cm, Dev, Mr, Voip, Sql, Sc}
use Rattle.order.specs.declared.keys.Field.{Field}
use Rattle.order.specs.declared.keys.Field.TheVariants.{Text, Mode, Number}
use Rattle.order.specs.Decimals.{decimal}
use Rattle.order.specs.Keys.{field_of, mode_of, allows, text_at, text_width}
use Rattle.order.specs.Lines.{bare_of, key_of, value_of}

-- a message of 320 spaces
unfoldable pub blank_message : List ℕ
blank_message = replicate 320 32

-- before the first line: a blank message, V/D type 2, and every setting 0
abbrev pub blank_order : Order
blank_order = record {
  message = blank_message;
  mode = VdType2;
  settings = record { cm = 0; dev = 0; mr = 0; voip = 0; sql = 0; sc = 0 };
}

-- a text in a field of some width, the rest of it spaces
abbrev pub padded : ℕ → List ℕ → List ℕ
padded width text = text ++ replicate (width - length text) 32

-- a message with the bytes of one field written anew
abbrev pub with_text : List ℕ → ℕ → ℕ → List ℕ → List ℕ
with_text message at width text = take at message ++ (padded width text ++ drop (at + width) message)

abbrev pub with_setting : Settings → Setting → ℕ → Settings
with_setting s Cm n = record { cm = n; dev = s.dev; mr = s.mr; voip = s.voip; sql = s.sql; sc = s.sc }
with_setting s Dev n = record { cm = s.cm; dev = n; mr = s.mr; voip = s.voip; sql = s.sql; sc = s.sc }
with_setting s Mr n = record { cm = s.cm; dev = s.dev; mr = n; voip = s.voip; sql = s.sql; sc = s.sc }
with_setting s Voip n = record { cm = s.cm; dev = s.dev; mr = s.mr; voip = n; sql = s.sql; sc = s.sc }
with_setting s Sql n = record { cm = s.cm; dev = s.dev; mr = s.mr; voip = s.voip; sql = n; sc = s.sc }
with_setting s Sc n = record { cm = s.cm; dev = s.dev; mr = s.mr; voip = s.voip; sql = s.sql; sc = n }

abbrev pub written_mode : Order → Option DataType → Result Order Cause
written_mode o None = Err UnknownMode
written_mode o (Some mode) = Ok (record { message = o.message; mode = mode; settings = o.settings })

abbrev pub written_number : Order → Setting → Option ℕ → Result Order Cause
written_number o setting None = Err NotANumber
written_number o setting (Some n) =
    cond (allows setting n)
    (Ok (record { message = o.message; mode = o.mode; settings = with_setting o.settings setting n }))
    (Err OutOfRange)

-- the order with a value in one of its parts
abbrev pub written : Order → Field → List ℕ → Result Order Cause
written o (Text text) value =
    cond (nat_le (length value) (text_width text))
    (Ok (record { message = with_text o.message (text_at text) (text_width text) value; mode = o.mode; settings = o.settings }))
    (Err TooLong)
written o Mode value = written_mode o (mode_of value)
written o (Number setting) value = written_number o setting (decimal value)

abbrev pub written_at : Order → Option Field → List ℕ → Result Order Cause
written_at o None value = Err UnknownKey
written_at o (Some field) value = written o field value

-- an empty line changes nothing
abbrev pub read_bare : Order → List ℕ → Result Order Cause
read_bare o line = cond (length line == 0) (Ok o) (written_at o (field_of (key_of line)) (value_of line))

abbrev pub read_line : Order → List ℕ → Result Order Cause
read_line o line = read_bare o (bare_of line)

-- what a call answers, and the order that it leaves: the new one, or where it refuses the old
abbrev pub answer : Result Order Cause → Result Unit Cause
answer (Ok new) = Ok tt
answer (Err cause) = Err cause

abbrev pub left : Result Order Cause → Order → Order
left (Ok new) old = new
left (Err cause) old = old
