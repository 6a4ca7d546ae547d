-- Which settings a sender may choose, and the FICH of the header that they make.
use Rattle.std.specs.Prelude.{ℕ, Bool, false, cond, not, ◌&&◌, Ok, Err, Result, ◌==◌, nat_lt}
use Rattle.fault.specs.declared.Fault.{Fault}
use Rattle.fault.specs.declared.Fault.TheVariants.{SettingNotAllowed}
use Rattle.fields.specs.declared.fich.FrameKind.TheVariants.{Header}
use Rattle.fields.specs.declared.fich.CallMode.{CallMode}
use Rattle.fields.specs.declared.fich.CallMode.TheVariants.{Group, RadioId, Individual}
use Rattle.fields.specs.declared.fich.Routing.{Routing}
use Rattle.fields.specs.declared.fich.Routing.TheVariants.{Direct, DownlinkFree, DownlinkBusy}
use Rattle.fields.specs.declared.fich.DataType.{DataType}
use Rattle.fields.specs.declared.fich.Fich.{Fich}
use Rattle.fields.specs.declared.settings.Settings.{Settings}

-- CM has two bits and is not 2, MR is at most 2, Dev, VoIP and SQL are flags, and SC has seven bits
abbrev pub allowed : Settings → Bool
allowed s =
    nat_lt s.cm 4 && not (s.cm == 2) && nat_lt s.mr 3 && nat_lt s.dev 2 && nat_lt s.voip 2 && nat_lt s.sql 2 && nat_lt s.sc 128

abbrev pub call_of : ℕ → CallMode
call_of n = cond (n == 0) Group (cond (n == 1) RadioId Individual)

abbrev pub routing_of : ℕ → Routing
routing_of n = cond (n == 0) Direct (cond (n == 1) DownlinkFree DownlinkBusy)

-- the flag that a setting says
abbrev pub flag_read : ℕ → Result Bool Fault
flag_read n = cond (nat_lt n 2) (Ok (n == 1)) (Err SettingNotAllowed)

abbrev pub header_fich : Settings → DataType → Fich
header_fich s mode = record {
  kind = Header;
  call_mode = call_of s.cm;
  block_number = 0;
  block_total = 0;
  frame_number = 0;
  frame_total = 0;
  reserved = false;
  narrow = (s.dev == 1);
  routing = routing_of s.mr;
  voip = (s.voip == 1);
  data_type = mode;
  squelch_off = (s.sql == 1);
  squelch_code = s.sc;
}

abbrev pub checked_header : Settings → DataType → Result Fich Fault
checked_header s mode = cond (allowed s) (Ok (header_fich s mode)) (Err SettingNotAllowed)
