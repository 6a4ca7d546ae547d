-- What the code finds is what the definitions answer.
use Rattle.std.proofs.Common.{◌≡◌, ℕ, ◌+◌, ◌-◌, ◌*◌, ◌/◌, ◌≤◌, List, [], ◌∷◌, ◌++◌, reverse, length, take, drop, replicate, Some, None, Ok, Option, sym, refl, ap, ◌∙◌, subst, arith, length-take-le, take_at, drop_at}
use lib.ListN.{length-reverse}
use Rattle.bits.specs.Bits.{Bits, byte_bits, numbers_of}
use Rattle.bits.proofs.Numbers.{byte_bits-append, byte_bits_numbers, length-numbers_of}
use Rattle.fault.specs.declared.Fault.{Fault}
use Rattle.fault.specs.Faults.{refused_or}
use Rattle.layout.specs.declared.Block.{Block}
use Rattle.layout.specs.declared.Block.TheVariants.{Fich, First, Second, Short, Solid}
use Rattle.layout.specs.Places.{length_of}
use Rattle.layout.proofs.Own.{own_places}
use Rattle.measure.specs.Meaning.{Meaning, Lawful}
use Rattle.trellis.specs.Words.{heard, free_inputs, word_total, Word, Unbeaten}
use Rattle.trellis.specs.Search.{PathTo, best}
use Rattle.trellis.specs.Steps.{traced, at_bank, Holds}
use Rattle.trellis.specs.declared.search.Found.{Found}
use Rattle.trellis.specs.Answers.{word_inputs, Answers, Searched}
use Rattle.trellis.proofs.Holding.{some_reached}
use Rattle.trellis.proofs.Tracing.{length-traced, bits-traced}
use Rattle.trellis.proofs.Hearing.{length-heard}
use Rattle.trellis.proofs.Answering.{word, inputs_are, word_sound, own_total, unbeaten, decisive, bits-reverse}

-- a block's inputs fill whole bytes
pub sizes : (b : Block) → (8 * (length_of b / 8) ≡ free_inputs b) × (length_of b / 8 ≡ free_inputs b / 8) × (length_of b ≡ free_inputs b + 4) × (length_of b ≤ 180)
sizes Fich = (refl, refl, refl, omega arith)
sizes First = (refl, refl, refl, omega arith)
sizes Second = (refl, refl, refl, omega arith)
sizes Short = (refl, refl, refl, omega arith)
sizes Solid = (refl, refl, refl, omega arith)

pub path_bits : (ds path : List ℕ) → path ≡ reverse (traced (reverse ds) 0) → Bits path
path_bits ds path e = subst Bits (sym e) (bits-reverse (traced (reverse ds) 0) [] (bits-traced (reverse ds) 0) tt)

pub path_long : (ds path : List ℕ) → path ≡ reverse (traced (reverse ds) 0) → length path ≡ length ds
path_long ds path e = ap length e ∙ length-reverse (traced (reverse ds) 0) ∙ length-traced (reverse ds) 0 ∙ length-reverse ds

-- the inputs that the bytes of a path hold
held-inputs : (b : Block) (path bytes : List ℕ) → Bits path → length path ≡ length_of b
    → bytes ≡ numbers_of 8 (length path / 8) path ++ replicate (22 - length path / 8) 0
    → (word_inputs b bytes ≡ take (free_inputs b) path) × (drop (free_inputs b / 8) bytes ≡ replicate (22 - free_inputs b / 8) 0)
held-inputs b path bytes h long e =
    let s = sizes b in
    let k = length path / 8 in
    let n = free_inputs b in
    let zs : List ℕ = replicate (22 - k) 0 in
    let nk : 8 * k ≡ n = ap (λ x. 8 * (x / 8)) long ∙ s.0 in
    let kk : k ≡ n / 8 = ap (λ x. x / 8) long ∙ s.1 in
    let front : byte_bits (numbers_of 8 k path) ≡ take n path = byte_bits_numbers k path (omega (arith, s.2)) h ∙ ap (λ x. take x path) nk in
    let full : length (take n path) ≡ n = length-take-le n path (omega (arith, s.2)) in (
      ap (λ l. take n (byte_bits l)) e
          ∙ ap (take n) (byte_bits-append (numbers_of 8 k path) zs)
          ∙ ap (λ l. take n (l ++ byte_bits zs)) front
          ∙ take_at (take n path) (byte_bits zs) n full,
      ap (drop (n / 8)) e
          ∙ drop_at (numbers_of 8 k path) zs (n / 8) (length-numbers_of 8 k path ∙ kk)
          ∙ ap (λ x. replicate (22 - x) 0) kk,
    )

module _ {S R T : Type 0} (μ : Meaning S R T) (m : S) (law : Lawful μ) (b : Block) (readings : List R) (bank : List T) (ds path bytes : List ℕ) (total : T) where
  pub found : length readings ≡ 480 → length ds ≡ length_of b → Holds μ m (reverse (heard b readings)) bank (reverse ds)
      → path ≡ reverse (traced (reverse ds) 0)
      → bytes ≡ numbers_of 8 (length path / 8) path ++ replicate (22 - length path / 8) 0
      → total ≡ at_bank μ m bank 0
      → Answers μ m b readings record { word = bytes; total = total }
  unfolding Holds word
  found long size held ep eb et =
      let ys = heard b readings in
      let n = free_inputs b in
      let s = sizes b in
      let heard-size : length ys ≡ n + 4 = length-heard b readings (length_of b) (own_places b) long (omega arith) ∙ s.2 in
      let p : PathTo T = record { inputs = traced (reverse ds) 0; total = at_bank μ m bank 0 } in
      let e : best μ m (reverse ys) 0 ≡ Some p = held 0 (some_reached (length (reverse ys))) in
      let inputs = held-inputs b path bytes (path_bits ds path ep) (path_long ds path ep ∙ size) eb in
      let same : word_inputs b bytes ≡ word μ m law n ys heard-size p e = inputs.0 ∙ ap (take n) ep in
      record {
        exact =
            e
            ∙ ap (λ us. Some record { inputs = us; total = at_bank μ m bank 0 })
            (inputs_are μ m law n ys heard-size p e ∙ ap (λ w. reverse (w ++ 0 ∷ 0 ∷ 0 ∷ 0 ∷ [])) (sym same))
            ∙ ap (λ t. Some record { inputs = reverse (word_inputs b bytes ++ 0 ∷ 0 ∷ 0 ∷ 0 ∷ []); total = t }) (sym et);
        blank = inputs.1;
        word = subst (Word n) (sym same) (word_sound μ m law n ys heard-size p e);
        total = et ∙ own_total μ m law n ys heard-size p e ∙ ap (word_total μ m ys) (sym same);
        unbeaten = subst (Unbeaten μ m n ys) (sym same) (unbeaten μ m law n ys heard-size p e);
        decisive = λ sent h better. same ∙ decisive μ m law n ys heard-size p e sent h better;
      }

-- a call whose sizes were not refused
not_refused : (o : Option Fault) → refused_or {A = Unit {0}} o (tt {0}) ≡ Ok (tt {0}) → o ≡ None
not_refused None e = refl
not_refused (Some fault) e = let z : ◌≡◌ {A = ℕ} 0 1 = cc in absurd (omega arith)

pub searched : {S R T : Type 0} (μ : Meaning S R T) (m : S) (b : Block) (readings : List R) (o : Option Fault) (f : Found T)
    → refused_or {A = Unit {0}} o (tt {0}) ≡ Ok (tt {0}) → Answers μ m b readings f → Searched μ m b readings o (Ok f)
searched μ m b readings o f e a = subst (λ x. Searched μ m b readings x (Ok f)) (sym (not_refused o e)) (f, refl, a)
