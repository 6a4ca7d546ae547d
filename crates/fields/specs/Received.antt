-- The fields of a FICH that was received as four bytes: each by its place in them, and the rules that they keep.
use Rattle.std.specs.Prelude.{◌≡◌, ℕ, ◌/◌, ◌%◌, ◌<◌, ◌≤◌, cond, List, Some, None, Ok, Err, not, ◌&&◌, Option, Result, ◌==◌, nat_lt, slice_index}
use Rattle.fault.specs.declared.Fault.{Fault}
use Rattle.fault.specs.declared.Fault.TheVariants.{FieldNotAllowed}
use Rattle.fault.specs.declared.Field.{Field}
use Rattle.fault.specs.declared.Field.TheVariants.{FrameKind as KindRule, Callsigns as CallsignsRule, CallMode as CallRule, BlockNumber as BlockRule, FrameNumber as FrameRule, Routing as RoutingRule}
use Rattle.fault.specs.Faults.{refused_or}
use Rattle.fields.specs.declared.fich.FrameKind.{FrameKind}
use Rattle.fields.specs.declared.fich.FrameKind.TheVariants.{Header, Communication, Terminator}
use Rattle.fields.specs.declared.fich.CallMode.{CallMode}
use Rattle.fields.specs.declared.fich.Routing.{Routing}
use Rattle.fields.specs.declared.fich.DataType.{DataType}
use Rattle.fields.specs.declared.fich.DataType.TheVariants.{VdType1, DataFr, VdType2, VoiceFr}
use Rattle.fields.specs.declared.fich.Fich.{Fich}
use Rattle.fields.specs.Fields.{fich_bytes}
use Rattle.fields.specs.Settings.{call_of, routing_of}

abbrev pub fi : List ℕ → ℕ
fi bytes = slice_index bytes 0 / 64

abbrev pub cs : List ℕ → ℕ
cs bytes = slice_index bytes 0 / 16 % 4

abbrev pub cm : List ℕ → ℕ
cm bytes = slice_index bytes 0 / 4 % 4

abbrev pub bn : List ℕ → ℕ
bn bytes = slice_index bytes 0 % 4

abbrev pub bt : List ℕ → ℕ
bt bytes = slice_index bytes 1 / 64

abbrev pub fn : List ℕ → ℕ
fn bytes = slice_index bytes 1 / 8 % 8

abbrev pub ft : List ℕ → ℕ
ft bytes = slice_index bytes 1 % 8

abbrev pub mr : List ℕ → ℕ
mr bytes = slice_index bytes 2 / 8 % 8

abbrev pub kind_of : ℕ → FrameKind
kind_of n = cond (n == 0) Header (cond (n == 1) Communication Terminator)

-- a field that not every number says, or the rule that the number breaks
abbrev pub kind_read : ℕ → Result FrameKind Field
kind_read n = cond (nat_lt n 3) (Ok (kind_of n)) (Err KindRule)

abbrev pub call_read : ℕ → Result CallMode Field
call_read n = cond (nat_lt n 4 && not (n == 2)) (Ok (call_of n)) (Err CallRule)

abbrev pub routing_read : ℕ → Result Routing Field
routing_read n = cond (nat_lt n 3) (Ok (routing_of n)) (Err RoutingRule)

abbrev pub type_of : ℕ → DataType
type_of n = cond (n == 0) VdType1 (cond (n == 1) DataFr (cond (n == 2) VdType2 VoiceFr))

-- the first rule that the fields break
abbrev pub fields_fault : List ℕ → Option Fault
fields_fault bytes =
    cond (fi bytes == 3) (Some (FieldNotAllowed KindRule))
    (cond (cs bytes == 2)
    (cond (cm bytes == 2) (Some (FieldNotAllowed CallRule))
    (cond (nat_lt (bt bytes) (bn bytes)) (Some (FieldNotAllowed BlockRule))
    (cond (nat_lt (ft bytes) (fn bytes)) (Some (FieldNotAllowed FrameRule))
    (cond (nat_lt 2 (mr bytes)) (Some (FieldNotAllowed RoutingRule)) None))))
    (Some (FieldNotAllowed CallsignsRule)))

abbrev pub fields_of : List ℕ → Fich
fields_of bytes = record {
  kind = kind_of (fi bytes);
  call_mode = call_of (cm bytes);
  block_number = bn bytes;
  block_total = bt bytes;
  frame_number = fn bytes;
  frame_total = ft bytes;
  reserved = (slice_index bytes 2 / 128 == 1);
  narrow = (slice_index bytes 2 / 64 % 2 == 1);
  routing = routing_of (mr bytes);
  voip = (slice_index bytes 2 / 4 % 2 == 1);
  data_type = type_of (slice_index bytes 2 % 4);
  squelch_off = (slice_index bytes 3 / 128 == 1);
  squelch_code = slice_index bytes 3 % 128;
}

-- what four bytes say: the FICH, or the first rule that it breaks
abbrev pub fich_read : List ℕ → Result Fich Fault
fich_read bytes = refused_or (fields_fault bytes) (fields_of bytes)

-- a FICH whose numbers fit their fields and keep the rules
pub record Sendable (f : Fich) : Type 0 where
  pub blocks : f.block_number ≤ f.block_total
  pub block_total_fits : f.block_total < 4
  pub frames : f.frame_number ≤ f.frame_total
  pub frame_total_fits : f.frame_total < 8
  pub code : f.squelch_code < 128

-- reading and writing are inverse: what is accepted is written as the same bytes, and what is written is accepted as it was
pub record Inverse (bytes : List ℕ) : Type 0 where
  pub kept : fields_fault bytes ≡ None → fich_bytes (fields_of bytes) ≡ bytes
  pub lawful : fields_fault bytes ≡ None → Sendable (fields_of bytes)
  pub sent : (f : Fich) → Sendable f → bytes ≡ fich_bytes f → fich_read bytes ≡ Ok f
