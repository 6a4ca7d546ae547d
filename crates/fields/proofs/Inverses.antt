-- What is read from four bytes is written as the same bytes, and what is written is read as it was.
use Rattle.std.proofs.Common.{◌≡◌, ℕ, ◌+◌, ◌*◌, ◌/◌, ◌%◌, ◌<◌, ◌≤◌, Bool, true, false, cond, eqb, ltb, List, [], ◌∷◌, length, get_or, Some, None, Ok, Option, sym, refl, ap, ◌∙◌, arith}
use Rattle.std.proofs.lemmas.Bool.{eqb-true, eqb-false, eq-eqb, ne_eqb, ltb-false, le-ltb, cond-true, cond-false, cond_both}
use Rattle.std.proofs.lemmas.Bool.Decides.{nat_tests}
use Rattle.fault.specs.declared.Fault.{Fault}
use Rattle.fault.specs.Faults.{refused_or}
use Rattle.fields.specs.declared.fich.FrameKind.{FrameKind}
use Rattle.fields.specs.declared.fich.FrameKind.TheVariants.{Header, Communication, Terminator}
use Rattle.fields.specs.declared.fich.CallMode.{CallMode}
use Rattle.fields.specs.declared.fich.CallMode.TheVariants.{Group, RadioId, Individual}
use Rattle.fields.specs.declared.fich.Routing.{Routing}
use Rattle.fields.specs.declared.fich.Routing.TheVariants.{Direct, DownlinkFree, DownlinkBusy}
use Rattle.fields.specs.declared.fich.DataType.{DataType}
use Rattle.fields.specs.declared.fich.DataType.TheVariants.{VdType1, DataFr, VdType2, VoiceFr}
use Rattle.fields.specs.declared.fich.Fich.{Fich}
use Rattle.fields.specs.Fields.{kind_value, call_value, routing_value, type_value, flag_value, fich_bytes}
use Rattle.fields.specs.Numbers.{counting_number, squelch_number, fich_numbers}
use Rattle.fields.specs.Settings.{call_of, routing_of}
use Rattle.fields.specs.Received.{fi, cs, cm, bn, bt, fn, ft, mr, kind_of, kind_read, call_read, routing_read, type_of, fields_fault, fields_of, fich_read, Sendable, Inverse}
use Rattle.fields.proofs.Parts.{kind_below, call_below, routing_below, type_below, flag_below, numbers_bytes}

-- a test that refuses nothing, by what it would refuse
passed_over : (b : Bool) (fault : Fault) (rest : Option Fault) → cond b (Some fault) rest ≡ None → (b ≡ false) × (rest ≡ None)
passed_over true fault rest e = let z : ◌≡◌ {A = ℕ} 0 1 = cc in absurd (omega arith)
passed_over false fault rest e = (refl, e)

held : (b : Bool) (fault : Fault) (rest : Option Fault) → cond b rest (Some fault) ≡ None → (b ≡ true) × (rest ≡ None)
held true fault rest e = (refl, e)
held false fault rest e = let z : ◌≡◌ {A = ℕ} 0 1 = cc in absurd (omega arith)

-- no rule is broken just where each of them holds
rules : (bytes : List ℕ) → fields_fault bytes ≡ None
    → (fi bytes ≡ 3 → ⊥) × (cs bytes ≡ 2) × (cm bytes ≡ 2 → ⊥) × (bn bytes ≤ bt bytes) × (fn bytes ≤ ft bytes) × (mr bytes ≤ 2)
rules bytes e =
    let kind = passed_over (eqb (fi bytes) 3) _ _ e in
    let signs = held (eqb (cs bytes) 2) _ _ kind.1 in
    let call = passed_over (eqb (cm bytes) 2) _ _ signs.1 in
    let block = passed_over (ltb (bt bytes) (bn bytes)) _ _ call.1 in
    let frame = passed_over (ltb (ft bytes) (fn bytes)) _ _ block.1 in
    let route = passed_over (ltb 2 (mr bytes)) _ _ frame.1 in (
      eqb-false (fi bytes) 3 kind.0,
      eqb-true (cs bytes) 2 signs.0,
      eqb-false (cm bytes) 2 call.0,
      ltb-false (bt bytes) (bn bytes) block.0,
      ltb-false (ft bytes) (fn bytes) frame.0,
      ltb-false 2 (mr bytes) route.0,
    )

no_fault : (bytes : List ℕ) → (fi bytes ≡ 3 → ⊥) → cs bytes ≡ 2 → (cm bytes ≡ 2 → ⊥) → bn bytes ≤ bt bytes → fn bytes ≤ ft bytes → mr bytes ≤ 2
    → fields_fault bytes ≡ None
no_fault bytes kind signs call block frame route =
    cond-false (eqb (fi bytes) 3) _ _ (ne_eqb (fi bytes) 3 kind)
    ∙ cond-true (eqb (cs bytes) 2) _ _ (eq-eqb (cs bytes) 2 signs)
    ∙ cond-false (eqb (cm bytes) 2) _ _ (ne_eqb (cm bytes) 2 call)
    ∙ cond-false (ltb (bt bytes) (bn bytes)) _ _ (le-ltb (bt bytes) (bn bytes) block)
    ∙ cond-false (ltb (ft bytes) (fn bytes)) _ _ (le-ltb (ft bytes) (fn bytes) frame)
    ∙ cond-false (ltb 2 (mr bytes)) _ _ (le-ltb 2 (mr bytes) route)

-- ---- a field from its number and back

kind_back : (n : ℕ) → n < 3 → kind_value (kind_of n) ≡ n
kind_back n h =
    cond_both (eqb n 0) Header (cond (eqb n 1) Communication Terminator) (λ k. kind_value k ≡ n) (λ e. sym (eqb-true n 0 e))
    (λ a. cond_both (eqb n 1) Communication Terminator (λ k. kind_value k ≡ n) (λ e. sym (eqb-true n 1 e))
    (λ b. omega (arith, eqb-false n 0 a, eqb-false n 1 b)))

call_back : (n : ℕ) → n < 4 → (n ≡ 2 → ⊥) → call_value (call_of n) ≡ n
call_back n h ne =
    cond_both (eqb n 0) Group (cond (eqb n 1) RadioId Individual) (λ k. call_value k ≡ n) (λ e. sym (eqb-true n 0 e))
    (λ a. cond_both (eqb n 1) RadioId Individual (λ k. call_value k ≡ n) (λ e. sym (eqb-true n 1 e))
    (λ b. omega (arith, eqb-false n 0 a, eqb-false n 1 b)))

routing_back : (n : ℕ) → n ≤ 2 → routing_value (routing_of n) ≡ n
routing_back n h =
    cond_both (eqb n 0) Direct (cond (eqb n 1) DownlinkFree DownlinkBusy) (λ k. routing_value k ≡ n) (λ e. sym (eqb-true n 0 e))
    (λ a. cond_both (eqb n 1) DownlinkFree DownlinkBusy (λ k. routing_value k ≡ n) (λ e. sym (eqb-true n 1 e))
    (λ b. omega (arith, eqb-false n 0 a, eqb-false n 1 b)))

type_back : (n : ℕ) → n < 4 → type_value (type_of n) ≡ n
type_back n h =
    cond_both (eqb n 0) VdType1 (cond (eqb n 1) DataFr (cond (eqb n 2) VdType2 VoiceFr)) (λ k. type_value k ≡ n) (λ e. sym (eqb-true n 0 e))
    (λ a. cond_both (eqb n 1) DataFr (cond (eqb n 2) VdType2 VoiceFr) (λ k. type_value k ≡ n) (λ e. sym (eqb-true n 1 e))
    (λ b. cond_both (eqb n 2) VdType2 VoiceFr (λ k. type_value k ≡ n) (λ e. sym (eqb-true n 2 e))
    (λ c. omega (arith, eqb-false n 0 a, eqb-false n 1 b, eqb-false n 2 c))))

flag_back : (n : ℕ) → n < 2 → flag_value (eqb n 1) ≡ n
flag_back n h = grind (arith, nat_tests)

kind_again : (k : FrameKind) → kind_of (kind_value k) ≡ k
kind_again Header = refl
kind_again Communication = refl
kind_again Terminator = refl

call_again : (m : CallMode) → (call_of (call_value m) ≡ m) × (call_value m ≡ 2 → ⊥)
call_again Group = (refl, λ e. omega arith)
call_again RadioId = (refl, λ e. omega arith)
call_again Individual = (refl, λ e. omega arith)

routing_again : (m : Routing) → (routing_of (routing_value m) ≡ m) × (routing_value m ≤ 2)
routing_again Direct = (refl, omega arith)
routing_again DownlinkFree = (refl, omega arith)
routing_again DownlinkBusy = (refl, omega arith)

type_again : (m : DataType) → type_of (type_value m) ≡ m
type_again VdType1 = refl
type_again DataFr = refl
type_again VdType2 = refl
type_again VoiceFr = refl

flag_again : (b : Bool) → eqb (flag_value b) 1 ≡ b
flag_again true = refl
flag_again false = refl

-- ---- a field that its number says

kind_said : (n : ℕ) (k : FrameKind) → kind_read n ≡ Ok k → (n ≡ 3 → ⊥) × (k ≡ kind_of n)
kind_said n k e = (λ h. grind (arith, nat_tests), grind (arith, nat_tests))

call_said : (n : ℕ) (m : CallMode) → call_read n ≡ Ok m → (n ≡ 2 → ⊥) × (m ≡ call_of n)
call_said n m e = (λ h. grind (arith, nat_tests), grind (arith, nat_tests))

routing_said : (n : ℕ) (r : Routing) → routing_read n ≡ Ok r → (n ≤ 2) × (r ≡ routing_of n)
routing_said n r e = (grind (arith, nat_tests), grind (arith, nat_tests))

-- bytes whose fields say a kind, a mode and a routing, and keep the rules
pub all_said : (bytes : List ℕ) (k : FrameKind) (m : CallMode) (r : Routing) → kind_read (fi bytes) ≡ Ok k → call_read (cm bytes) ≡ Ok m → routing_read (mr bytes) ≡ Ok r
    → cs bytes ≡ 2 → bn bytes ≤ bt bytes → fn bytes ≤ ft bytes
    → (fields_fault bytes ≡ None) × (k ≡ kind_of (fi bytes)) × (m ≡ call_of (cm bytes)) × (r ≡ routing_of (mr bytes))
all_said bytes k m r ek em er signs block frame =
    let kind = kind_said (fi bytes) k ek in
    let call = call_said (cm bytes) m em in
    let route = routing_said (mr bytes) r er in
    (no_fault bytes kind.0 signs call.0 block frame route.0, kind.1, call.1, route.1)

-- ---- what is read is written as the same bytes

quotients : (n : ℕ) → (n / 4 / 4 ≡ n / 16) × (n / 16 / 4 ≡ n / 64) × (n / 4 / 2 ≡ n / 8) × (n / 8 / 8 ≡ n / 64) × (n / 64 / 2 ≡ n / 128)
quotients n = (omega arith, omega arith, omega arith, omega arith, omega arith)

addressing_is : (n fi cm : ℕ) → fi ≡ n / 64 → n / 16 % 4 ≡ 2 → cm ≡ n / 4 % 4 → fi * 64 + 32 + cm * 4 + n % 4 % 4 ≡ n
addressing_is n fi cm a b c = let q = quotients n in omega arith

signalling_is : (n rsv dev voip mr dt : ℕ) → rsv ≡ n / 128 → dev ≡ n / 64 % 2 → voip ≡ n / 4 % 2 → mr ≡ n / 8 % 8 → dt ≡ n % 4
    → rsv * 128 + dev * 64 + voip * 4 + mr * 8 + dt ≡ n
signalling_is n rsv dev voip mr dt a b c d e = let q = quotients n in omega arith

kept : (a b c d : ℕ) → a < 256 → b < 256 → c < 256 → d < 256 → fields_fault (a ∷ b ∷ c ∷ d ∷ []) ≡ None
    → fich_bytes (fields_of (a ∷ b ∷ c ∷ d ∷ [])) ≡ a ∷ b ∷ c ∷ d ∷ []
kept a b c d ha hb hc hd e =
    let bytes = a ∷ b ∷ c ∷ d ∷ [] in
    let f = fields_of bytes in
    let r = rules bytes e in
    let k = kind_back (a / 64) (omega arith) in
    let m = call_back (a / 4 % 4) (omega arith) r.2 in
    let rs = flag_back (c / 128) (omega arith) in
    let dv = flag_back (c / 64 % 2) (omega arith) in
    let rt = routing_back (c / 8 % 8) r.5 in
    let vp = flag_back (c / 4 % 2) (omega arith) in
    let dt = type_back (c % 4) (omega arith) in
    let sq = flag_back (d / 128) (omega arith) in
    let ea = addressing_is a (kind_value f.kind) (call_value f.call_mode) k r.1 m in
    let eb : counting_number f ≡ b = omega arith in
    let ec = signalling_is c (flag_value f.reserved) (flag_value f.narrow) (flag_value f.voip) (routing_value f.routing) (type_value f.data_type) rs dv vp rt dt in
    let ed : squelch_number f ≡ d = omega arith in
    let whole = numbers_bytes f in
    cc

lawful : (a b c d : ℕ) → b < 256 → fields_fault (a ∷ b ∷ c ∷ d ∷ []) ≡ None → Sendable (fields_of (a ∷ b ∷ c ∷ d ∷ []))
lawful a b c d hb e =
    let r = rules (a ∷ b ∷ c ∷ d ∷ []) e in
    record { blocks = r.3; block_total_fits = omega arith; frames = r.4; frame_total_fits = omega arith; code = omega arith }

-- ---- what is written is read as it was

addressing_parts : (fi cm bn : ℕ) → cm < 4 → bn < 4
    → let n = fi * 64 + 32 + cm * 4 + bn % 4 in (n / 64 ≡ fi) × (n / 16 % 4 ≡ 2) × (n / 4 % 4 ≡ cm) × (n % 4 ≡ bn)
addressing_parts fi cm bn hc hb =
    let n = fi * 64 + 32 + cm * 4 + bn % 4 in
    let above : n / 4 ≡ fi * 16 + 8 + cm = omega arith in
    let top : n / 16 ≡ fi * 4 + 2 = omega arith in
    (omega arith, omega arith, omega arith, omega arith)

counting_parts : (bt fn ft : ℕ) → bt < 4 → fn < 8 → ft < 8
    → let n = bt % 4 * 64 + fn % 8 * 8 + ft % 8 in (n / 64 ≡ bt) × (n / 8 % 8 ≡ fn) × (n % 8 ≡ ft)
counting_parts bt fn ft hb hf ht =
    let n = bt % 4 * 64 + fn % 8 * 8 + ft % 8 in
    let above : n / 8 ≡ bt * 8 + fn = omega arith in
    (omega arith, omega arith, omega arith)

signalling_parts : (rsv dev voip mr dt : ℕ) → dev < 2 → voip < 2 → mr < 8 → dt < 4
    → let n = rsv * 128 + dev * 64 + voip * 4 + mr * 8 + dt in
    (n / 128 ≡ rsv) × (n / 64 % 2 ≡ dev) × (n / 4 % 2 ≡ voip) × (n / 8 % 8 ≡ mr) × (n % 4 ≡ dt)
signalling_parts rsv dev voip mr dt hd hv hm ht =
    let n = rsv * 128 + dev * 64 + voip * 4 + mr * 8 + dt in
    let low : n / 4 ≡ rsv * 32 + dev * 16 + mr * 2 + voip = omega arith in
    let mid : n / 8 ≡ rsv * 16 + dev * 8 + mr = omega arith in
    let high : n / 64 ≡ rsv * 2 + dev = omega arith in
    (omega arith, omega arith, omega arith, omega arith, omega arith)

-- a FICH is its fields
abbrev made : FrameKind → CallMode → ℕ → ℕ → ℕ → ℕ → Bool → Bool → Routing → Bool → DataType → Bool → ℕ → Fich
made k m b' b n t r d w v y q s = record {
  kind = k;
  call_mode = m;
  block_number = b';
  block_total = b;
  frame_number = n;
  frame_total = t;
  reserved = r;
  narrow = d;
  routing = w;
  voip = v;
  data_type = y;
  squelch_off = q;
  squelch_code = s;
}

same_fields : (k k' : FrameKind) (m m' : CallMode) (b b' c c' n n' t t' : ℕ) (r r' d d' : Bool) (w w' : Routing) (v v' : Bool) (y y' : DataType) (q q' : Bool) (s s' : ℕ)
    → k ≡ k' → m ≡ m' → b ≡ b' → c ≡ c' → n ≡ n' → t ≡ t' → r ≡ r' → d ≡ d' → w ≡ w' → v ≡ v' → y ≡ y' → q ≡ q' → s ≡ s'
    → made k m b c n t r d w v y q s ≡ made k' m' b' c' n' t' r' d' w' v' y' q' s'
same_fields k k' m m' b b' c c' n n' t t' r r' d d' w w' v v' y y' q q' s s' e1 e2 e3 e4 e5 e6 e7 e8 e9 e10 e11 e12 e13 = cc

pub read_again : (f : Fich) → Sendable f → fich_read (fich_numbers f) ≡ Ok f
read_again f h =
    let bytes = fich_numbers f in
    let a = addressing_parts (kind_value f.kind) (call_value f.call_mode) f.block_number
    (call_below f.call_mode) (omega (arith, h.blocks, h.block_total_fits)) in
    let b = counting_parts f.block_total f.frame_number f.frame_total
    h.block_total_fits (omega (arith, h.frames, h.frame_total_fits)) h.frame_total_fits in
    let c = signalling_parts (flag_value f.reserved) (flag_value f.narrow) (flag_value f.voip) (routing_value f.routing) (type_value f.data_type)
    (flag_below f.narrow) (flag_below f.voip) (routing_below f.routing) (type_below f.data_type) in
    let off : squelch_number f / 128 ≡ flag_value f.squelch_off = omega arith in
    let code : squelch_number f % 128 ≡ f.squelch_code = omega (arith, h.code) in
    let none =
    no_fault bytes (λ e. omega (arith, a.0, kind_below f.kind)) a.1 (λ e. (call_again f.call_mode).1 (omega (arith, a.2)))
    (omega (arith, a.3, b.0, h.blocks)) (omega (arith, b.1, b.2, h.frames)) (omega (arith, c.3, (routing_again f.routing).1)) in
    let again =
    same_fields _ _ _ _ _ _ _ _ _ _ _ _ _ _ _ _ _ _ _ _ _ _ _ _ _ _
    (ap kind_of a.0 ∙ kind_again f.kind) (ap call_of a.2 ∙ (call_again f.call_mode).0) a.3 b.0 b.1 b.2
    (ap (λ n. eqb n 1) c.0 ∙ flag_again f.reserved) (ap (λ n. eqb n 1) c.1 ∙ flag_again f.narrow)
    (ap routing_of c.3 ∙ (routing_again f.routing).0) (ap (λ n. eqb n 1) c.2 ∙ flag_again f.voip)
    (ap type_of c.4 ∙ type_again f.data_type) (ap (λ n. eqb n 1) off ∙ flag_again f.squelch_off) code in
    ap (λ o. refused_or o (fields_of bytes)) none ∙ ap Ok again

pub inverse : (bytes : List ℕ) → length bytes ≡ 4 → ((i : ℕ) → get_or bytes i 0 < 256) → Inverse bytes
inverse (a ∷ b ∷ c ∷ d ∷ []) e h = record {
  kept = kept a b c d (h 0) (h 1) (h 2) (h 3);
  lawful = lawful a b c d (h 1);
  sent = λ f s e. ap fich_read (e ∙ sym (numbers_bytes f)) ∙ read_again f s;
}
inverse [] e h = absurd (omega arith)
inverse (a ∷ []) e h = absurd (omega arith)
inverse (a ∷ b ∷ []) e h = absurd (omega arith)
inverse (a ∷ b ∷ c ∷ []) e h = absurd (omega arith)
inverse (a ∷ b ∷ c ∷ d ∷ x ∷ xs) e h = absurd (omega arith)
