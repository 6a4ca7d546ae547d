-- A byte of fields, as the bits of its fields.
use Rattle.std.proofs.Common.{◌≡◌, ℕ, ◌+◌, ◌*◌, ◌%◌, ◌^◌, ◌<◌, Bool, true, false, List, [], ◌∷◌, ◌++◌, sym, refl, ap, ◌∙◌, append-nil, arith}
use Rattle.bits.specs.Bits.{bits_of, byte_bits, numbers_of}
use Rattle.bits.proofs.Numbers.{bits_of_cat, bits_of_mod, numbers_of-byte_bits}
use Rattle.fields.specs.declared.fich.FrameKind.{FrameKind}
use Rattle.fields.specs.declared.fich.FrameKind.TheVariants.{Header, Communication, Terminator}
use Rattle.fields.specs.declared.fich.CallMode.{CallMode}
use Rattle.fields.specs.declared.fich.CallMode.TheVariants.{Group, RadioId, Individual}
use Rattle.fields.specs.declared.fich.Routing.{Routing}
use Rattle.fields.specs.declared.fich.Routing.TheVariants.{Direct, DownlinkFree, DownlinkBusy}
use Rattle.fields.specs.declared.fich.DataType.{DataType}
use Rattle.fields.specs.declared.fich.DataType.TheVariants.{VdType1, DataFr, VdType2, VoiceFr}
use Rattle.fields.specs.declared.fich.Fich.{Fich}
use Rattle.fields.specs.Fields.{kind_value, call_value, routing_value, type_value, flag_value, addressing_bits, counting_bits, signalling_bits, squelch_bits, fich_bits, fich_bytes}
use Rattle.fields.specs.Numbers.{addressing_number, counting_number, signalling_number, squelch_number, fich_numbers}

pub kind_below : (k : FrameKind) → kind_value k < 3
kind_below Header = omega arith
kind_below Communication = omega arith
kind_below Terminator = omega arith

pub call_below : (m : CallMode) → call_value m < 4
call_below Group = omega arith
call_below RadioId = omega arith
call_below Individual = omega arith

pub routing_below : (m : Routing) → routing_value m < 8
routing_below Direct = omega arith
routing_below DownlinkFree = omega arith
routing_below DownlinkBusy = omega arith

pub type_below : (m : DataType) → type_value m < 4
type_below VdType1 = omega arith
type_below DataFr = omega arith
type_below VdType2 = omega arith
type_below VoiceFr = omega arith

pub flag_below : (b : Bool) → flag_value b < 2
flag_below true = omega arith
flag_below false = omega arith

-- a field of j bits above k others
above : (j k a r : ℕ) (rest : List ℕ) → r < 2 ^ k → bits_of k r ≡ rest → bits_of (j + k) (a * 2 ^ k + r) ≡ bits_of j a ++ rest
above j k a r rest h e = bits_of_cat j k a r h ∙ ap (λ l. bits_of j a ++ l) e

-- the same of a number that is cut to its field
cut_above : (j k a r : ℕ) (rest : List ℕ) → r < 2 ^ k → bits_of k r ≡ rest → bits_of (j + k) (a % 2 ^ j * 2 ^ k + r) ≡ bits_of j a ++ rest
cut_above j k a r rest h e = above j k (a % 2 ^ j) r rest h e ∙ ap (λ l. l ++ rest) (bits_of_mod j a)

pub counting_byte : (f : Fich) → bits_of 8 (counting_number f) ≡ counting_bits f
counting_byte f =
    ap (bits_of 8) (omega arith)
    ∙ cut_above 2 6 f.block_total (f.frame_number % 8 * 8 + f.frame_total % 8) _ (omega arith)
    (cut_above 3 3 f.frame_number (f.frame_total % 8) _ (omega arith) (bits_of_mod 3 f.frame_total))

pub squelch_byte : (f : Fich) → bits_of 8 (squelch_number f) ≡ squelch_bits f
squelch_byte f = above 1 7 (flag_value f.squelch_off) (f.squelch_code % 128) _ (omega arith) (bits_of_mod 7 f.squelch_code)

pub addressing_byte : (f : Fich) → bits_of 8 (addressing_number f) ≡ addressing_bits f
addressing_byte f =
    let cm = call_value f.call_mode in
    let bn = f.block_number in
    let h = call_below f.call_mode in
    ap (bits_of 8) (omega arith)
    ∙ above 2 6 (kind_value f.kind) (2 * 2 ^ 4 + (cm * 2 ^ 2 + bn % 4)) _ (omega arith)
    (above 2 4 2 (cm * 2 ^ 2 + bn % 4) _ (omega arith) (above 2 2 cm (bn % 4) _ (omega arith) (bits_of_mod 2 bn)))

pub signalling_byte : (f : Fich) → bits_of 8 (signalling_number f) ≡ signalling_bits f
signalling_byte f =
    let dev = flag_value f.narrow in
    let mr = routing_value f.routing in
    let voip = flag_value f.voip in
    let dt = type_value f.data_type in
    let hd = flag_below f.narrow in
    let hm = routing_below f.routing in
    let hv = flag_below f.voip in
    let ht = type_below f.data_type in
    ap (bits_of 8) (omega arith)
    ∙ above 1 7 (flag_value f.reserved) (dev * 2 ^ 6 + (mr * 2 ^ 3 + (voip * 2 ^ 2 + dt))) _ (omega arith)
    (above 1 6 dev (mr * 2 ^ 3 + (voip * 2 ^ 2 + dt)) _ (omega arith)
    (above 3 3 mr (voip * 2 ^ 2 + dt) _ (omega arith) (above 1 2 voip dt _ (omega arith) refl)))

-- four bytes by their bits
pub four_bytes : (a b c d : ℕ) (ws bs cs ds : List ℕ) → bits_of 8 a ≡ ws → bits_of 8 b ≡ bs → bits_of 8 c ≡ cs → bits_of 8 d ≡ ds
    → byte_bits (a ∷ b ∷ c ∷ d ∷ []) ≡ ws ++ (bs ++ (cs ++ ds))
unfolding byte_bits
four_bytes a b c d ws bs cs ds ea eb ec ed = let e = append-nil (bits_of 8 d) in cc

pub four_numbers : (a b c d : ℕ) (bits : List ℕ) → a < 256 → b < 256 → c < 256 → d < 256
    → byte_bits (a ∷ b ∷ c ∷ d ∷ []) ≡ bits → a ∷ b ∷ c ∷ d ∷ [] ≡ numbers_of 8 4 bits
four_numbers a b c d bits ha hb hc hd e =
    sym (numbers_of-byte_bits (a ∷ b ∷ c ∷ d ∷ []) (ha, (hb, (hc, (hd, tt))))) ∙ ap (numbers_of 8 4) e

-- the four bytes have the bits of the fields
pub numbers_bits : (f : Fich) → byte_bits (fich_numbers f) ≡ fich_bits f
numbers_bits f =
    four_bytes (addressing_number f) (counting_number f) (signalling_number f) (squelch_number f) _ _ _ _
    (addressing_byte f) (counting_byte f) (signalling_byte f) (squelch_byte f)

pub numbers_small : (f : Fich) → (addressing_number f < 256) × (counting_number f < 256) × (signalling_number f < 256) × (squelch_number f < 256)
numbers_small f =
    let hk = kind_below f.kind in
    let hc = call_below f.call_mode in
    let hr = flag_below f.reserved in
    let hd = flag_below f.narrow in
    let hm = routing_below f.routing in
    let hv = flag_below f.voip in
    let ht = type_below f.data_type in
    let hs = flag_below f.squelch_off in
    (omega arith, omega arith, omega arith, omega arith)

-- and are those bits in bytes
pub numbers_bytes : (f : Fich) → fich_numbers f ≡ fich_bytes f
numbers_bytes f =
    let h = numbers_small f in
    four_numbers (addressing_number f) (counting_number f) (signalling_number f) (squelch_number f) (fich_bits f) h.0 h.1 h.2 h.3 (numbers_bits f)
