-- A mute that grows by one stretch after the other.
use Rattle.std.proofs.Common.{◌≡◌, ℕ, zero, suc, ◌+◌, ◌-◌, ◌*◌, ◌<◌, List, get_or, Some, None, Ok, Err, Option, sym, ap, ◌∙◌, add-one, arith}
use Rattle.fault.specs.declared.Fault.{Fault}
use Rattle.fault.specs.Faults.{refused_or, unless}
use Rattle.measure.specs.declared.marks.Marks.{Marks}
use Rattle.mute.specs.declared.Mute.{Mute}
use Rattle.mute.specs.Mutes.{added, add_fault}
use Rattle.search_bench.specs.Calls.{one_more, mute_of}

taken : {A : Type 0} (o : Option Fault) (new old after : A) → refused_or {A = Unit {0}} o (tt {0}) ≡ Ok (tt {0})
    → after ≡ unless o new old → refused_or o new ≡ Ok after
taken None new old after e a = ap Ok (sym a)
taken (Some fault) new old after e a = let z : ◌≡◌ {A = ℕ} 0 1 = cc in absurd (omega arith)

left : {A : Type 0} (o : Option Fault) (new : A) (fault : Fault) → refused_or {A = Unit {0}} o (tt {0}) ≡ Err fault → refused_or o new ≡ Err fault
left None new fault e = let z : ◌≡◌ {A = ℕ} 0 1 = cc in absurd (omega arith)
left (Some f) new fault e = let same : f ≡ fault = cc in ap Err same

-- stretch n, where a mute of those before it is held
one_stretch : (n : ℕ) (numbers : List ℕ) (mute : Mute Marks) (first size : ℕ) → first ≡ get_or numbers (2 * n) 0 → size ≡ get_or numbers (2 * n + 1) 0
    → mute_of n numbers ≡ Ok mute → mute_of (suc n) numbers ≡ one_more (Ok mute) first size
unfolding mute_of
one_stretch n numbers mute first size f l held =
    ap (λ r. one_more r (get_or numbers (2 * n) 0) (get_or numbers (2 * n + 1) 0)) held
    ∙ ap (λ k. one_more (Ok mute) k (get_or numbers (2 * n + 1) 0)) (sym f)
    ∙ ap (one_more (Ok mute) first) (sym l)

-- one stretch more
pub grown : (n : ℕ) (numbers : List ℕ) (mute after : Mute Marks) (first size : ℕ) → first ≡ get_or numbers (2 * n) 0 → size ≡ get_or numbers (2 * n + 1) 0
    → mute_of n numbers ≡ Ok mute → refused_or {A = Unit {0}} (add_fault mute first size) (tt {0}) ≡ Ok (tt {0})
    → after ≡ unless (add_fault mute first size) (added mute first size) mute
    → mute_of (n + 1) numbers ≡ Ok after
grown n numbers mute after first size f l held e a =
    ap (λ i. mute_of i numbers) (add-one n)
    ∙ one_stretch n numbers mute first size f l held
    ∙ taken (add_fault mute first size) (added mute first size) mute after e a

-- a refusal stays, however many come after it
refused_on : (k n m : ℕ) (numbers : List ℕ) (fault : Fault) → m ≡ k + n → mute_of n numbers ≡ Err fault → mute_of m numbers ≡ Err fault
unfolding mute_of
refused_on zero n m numbers fault e r = let same : m ≡ n = omega arith in ap (λ i. mute_of i numbers) same ∙ r
refused_on (suc k) n zero numbers fault e r = absurd (omega arith)
refused_on (suc k) n (suc m) numbers fault e r =
    ap (λ x. one_more x (get_or numbers (2 * m) 0) (get_or numbers (2 * m + 1) 0)) (refused_on k n m numbers fault (omega arith) r)

-- one stretch refused, among so many
pub refused : (n m : ℕ) (numbers : List ℕ) (mute : Mute Marks) (fault : Fault) (first size : ℕ) → first ≡ get_or numbers (2 * n) 0 → size ≡ get_or numbers (2 * n + 1) 0
    → n < m → mute_of n numbers ≡ Ok mute → refused_or {A = Unit {0}} (add_fault mute first size) (tt {0}) ≡ Err fault
    → mute_of m numbers ≡ Err fault
refused n m numbers mute fault first size f l inside held e =
    refused_on (m - suc n) (suc n) m numbers fault (omega arith)
    (one_stretch n numbers mute first size f l held ∙ left (add_fault mute first size) (added mute first size) fault e)
