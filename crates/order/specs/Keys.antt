-- The keys of an order's lines with the part that each names, and the words and numbers that a part takes.
use Rattle.std.specs.Prelude.{ℕ, Bool, cond, ◌||◌, List, [], ◌∷◌, Some, None, codes, Option, ◌==◌, nat_le}
use Rattle.std.specs.Str.{bytes_eq}
use Rattle.fields.specs.declared.fich.DataType.{DataType}
use Rattle.fields.specs.declared.fich.DataType.TheVariants.{VdType1, VdType2, DataFr, VoiceFr}
use Rattle.order.specs.declared.keys.Setting.{Setting}
use Rattle.order.specs.declared.keys.Setting.TheVariants.{Cm, Dev, Mr, Voip, Sql, Sc}
use Rattle.order.specs.declared.keys.TextField.{TextField}
use Rattle.order.specs.declared.keys.TextField.TheVariants.{Dest, Src, Down, Up, Rem1, Rem2, Rem3, Rem4}
use Rattle.order.specs.declared.keys.Field.{Field}
use Rattle.order.specs.declared.keys.Field.TheVariants.{Text, Mode, Number}

-- what stands beside a word in a table, or none where the word is not there
abbrev pub listed : {A : Type 0} → List ℕ → List (List ℕ × A) → Option A
listed word [] = None
listed word (entry ∷ rest) = cond (bytes_eq word entry.0) (Some entry.1) (listed word rest)

abbrev pub keys : List (List ℕ × Field)
keys =
    (codes "dest", Text Dest)
    ∷ (codes "src", Text Src)
    ∷ (codes "down", Text Down)
    ∷ (codes "up", Text Up)
    ∷ (codes "rem1", Text Rem1)
    ∷ (codes "rem2", Text Rem2)
    ∷ (codes "rem3", Text Rem3)
    ∷ (codes "rem4", Text Rem4)
    ∷ (codes "mode", Mode)
    ∷ (codes "cm", Number Cm)
    ∷ (codes "dev", Number Dev)
    ∷ (codes "mr", Number Mr)
    ∷ (codes "voip", Number Voip)
    ∷ (codes "sql", Number Sql)
    ∷ (codes "sc", Number Sc)
    ∷ []

abbrev pub field_of : List ℕ → Option Field
field_of key = listed key keys

-- where a text begins in the message
abbrev pub text_at : TextField → ℕ
text_at Dest = 0
text_at Src = 10
text_at Down = 20
text_at Up = 30
text_at Rem1 = 40
text_at Rem2 = 45
text_at Rem3 = 50
text_at Rem4 = 55

-- how many bytes it takes
abbrev pub text_width : TextField → ℕ
text_width Dest = 10
text_width Src = 10
text_width Down = 10
text_width Up = 10
text_width Rem1 = 5
text_width Rem2 = 5
text_width Rem3 = 5
text_width Rem4 = 5

abbrev pub modes : List (List ℕ × DataType)
modes = (codes "vd1", VdType1) ∷ (codes "vd2", VdType2) ∷ (codes "data", DataFr) ∷ (codes "voice", VoiceFr) ∷ []

abbrev pub mode_of : List ℕ → Option DataType
mode_of word = listed word modes

-- the numbers that a setting may have
abbrev pub allows : Setting → ℕ → Bool
allows Cm n = n == 0 || n == 1 || n == 3
allows Dev n = nat_le n 1
allows Mr n = nat_le n 2
allows Voip n = nat_le n 1
allows Sql n = nat_le n 1
allows Sc n = nat_le n 127
