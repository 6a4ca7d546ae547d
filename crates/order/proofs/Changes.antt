-- A line changes an order only as its key allows.
use Rattle.std.proofs.Common.{◌≡◌, ℕ, ◌+◌, ◌≤◌, true, List, [], ◌∷◌, length, get_or, Some, None, Option, refl, ap, ⊎_elim, arith}
use Rattle.std.proofs.lemmas.Bool.{cases_lt, cases_Bool, le-leb, lt-leb}
use Rattle.std.proofs.lemmas.Bool.Decides.{nat_tests}
use Rattle.fields.specs.declared.fich.DataType.{DataType}
use Rattle.fields.specs.declared.settings.Settings.{Settings}
use Rattle.fields.specs.Settings.{allowed}
use Rattle.order.specs.declared.Order.{Order}
use Rattle.order.specs.declared.keys.Setting.{Setting}
use Rattle.order.specs.declared.keys.Setting.TheVariants.{Cm, Dev, Mr, Voip, Sql, Sc}
use Rattle.order.specs.declared.keys.TextField.{TextField}
use Rattle.order.specs.declared.keys.TextField.TheVariants.{Dest, Src, Down, Up, Rem1, Rem2, Rem3, Rem4}
use Rattle.order.specs.declared.keys.Field.{Field}
use Rattle.order.specs.declared.keys.Field.TheVariants.{Text, Mode, Number}
use Rattle.order.specs.Changes.{Changed}
use Rattle.order.specs.Decimals.{decimal}
use Rattle.order.specs.Keys.{field_of, mode_of, allows, text_at, text_width}
use Rattle.order.specs.Lines.{key_of, value_of}
use Rattle.order.specs.Orders.{written, written_mode, written_number, written_at, left, with_setting}
use Rattle.order.proofs.Padding.{text_elsewhere, text_held}

-- an allowed number keeps the settings allowed
kept-allowed : (s : Settings) (setting : Setting) (n : ℕ) → allows setting n ≡ true → allowed s ≡ true → allowed (with_setting s setting n) ≡ true
kept-allowed s Cm n ok before = grind (arith, nat_tests)
kept-allowed s Dev n ok before = grind (arith, nat_tests)
kept-allowed s Mr n ok before = grind (arith, nat_tests)
kept-allowed s Voip n ok before = grind (arith, nat_tests)
kept-allowed s Sql n ok before = grind (arith, nat_tests)
kept-allowed s Sc n ok before = grind (arith, nat_tests)

-- a field that is not a text leaves the message alone
aside : (o new : Order) (field : Option Field) (value : List ℕ)
    → ((text : TextField) → field ≡ Some (Text text) → ⊥)
    → new.message ≡ o.message
    → (allowed o.settings ≡ true → allowed new.settings ≡ true)
    → Changed o field value new
aside o new field value no_text same settings = record {
  settings = settings;
  elsewhere = λ k out. ap (λ m. get_or m k 0) same;
  held = λ text e fits. absurd (no_text text e);
}

text_within : (text : TextField) → text_at text + text_width text ≤ 320
text_within Dest = omega arith
text_within Src = omega arith
text_within Down = omega arith
text_within Up = omega arith
text_within Rem1 = omega arith
text_within Rem2 = omega arith
text_within Rem3 = omega arith
text_within Rem4 = omega arith

written_text : (o : Order) (text : TextField) (value : List ℕ) → length o.message ≡ 320 → Changed o (Some (Text text)) value (left (written o (Text text) value) o)
written_text o text value all =
    let at = text_at text in
    let width = text_width text in
    let within = text_within text in
    ⊎_elim
    (λ long.
    rw (lt-leb (length value) width long)
    (record {
      settings = λ h. h;
      elsewhere = λ k out. refl;
      held = λ t e fits. let same : text_width t ≡ width = ap text_width (cc) in absurd (omega arith);
    }))
    (λ short.
    rw (le-leb (length value) width short)
    (record {
      settings = λ h. h;
      elsewhere = λ k out. text_elsewhere o.message value at width k (omega arith) short out;
      held = λ t e fits. let same : t ≡ text = cc in rw same (text_held o.message value at width (omega arith) short);
    }))
    (cases_lt width (length value))

no_mode : (text : TextField) → Some Mode ≡ Some (Text text) → ⊥
no_mode text e = let z : ◌≡◌ {A = ℕ} 0 1 = cc in omega arith

no_number : (setting : Setting) (text : TextField) → Some (Number setting) ≡ Some (Text text) → ⊥
no_number setting text e = let z : ◌≡◌ {A = ℕ} 0 1 = cc in omega arith

no_field : (text : TextField) → ◌≡◌ {A = Option Field} None (Some (Text text)) → ⊥
no_field text e = let z : ◌≡◌ {A = ℕ} 0 1 = cc in omega arith

changed_mode : (o : Order) (value : List ℕ) (mode : Option DataType) → Changed o (Some Mode) value (left (written_mode o mode) o)
changed_mode o value None = aside o o (Some Mode) value no_mode refl (λ h. h)
changed_mode o value (Some mode) = aside o (left (written_mode o (Some mode)) o) (Some Mode) value no_mode refl (λ h. h)

changed_number : (o : Order) (value : List ℕ) (setting : Setting) (number : Option ℕ) → Changed o (Some (Number setting)) value (left (written_number o setting number) o)
changed_number o value setting None = aside o o (Some (Number setting)) value (no_number setting) refl (λ h. h)
changed_number o value setting (Some n) =
    ⊎_elim
    (λ ok. rw ok (aside o _ (Some (Number setting)) value (no_number setting) refl (kept-allowed o.settings setting n ok)))
    (λ out. rw out (aside o o (Some (Number setting)) value (no_number setting) refl (λ h. h)))
    (cases_Bool (allows setting n))

-- a line that names a field, or none
pub changed_at : (o : Order) (field : Option Field) (value : List ℕ) → length o.message ≡ 320 → Changed o field value (left (written_at o field value) o)
changed_at o None value all = aside o o None value no_field refl (λ h. h)
changed_at o (Some (Text text)) value all = written_text o text value all
changed_at o (Some Mode) value all = changed_mode o value (mode_of value)
changed_at o (Some (Number setting)) value all = changed_number o value setting (decimal value)
