use Rattle.std.proofs.Common.{◌≡◌, ℕ, suc, ◌+◌, ◌-◌, ◌*◌, ◌/◌, ◌<◌, List, [], ◌∷◌, ◌++◌, length, take, drop, set, replicate, sym, ap, ◌∙◌, subst, append_assoc, add-one, arith, rules, length-drop, take_at}
use lib.Seq.{set_at}
use Rattle.bits.specs.Bits.{Bits, number_of, numbers_of}
use Rattle.bits.proofs.Chunks.{chunk}
use Rattle.bits.proofs.Numbers.{bits-drop, length-numbers_of, numbers_of_more}
use Rattle.trellis.proofs.States.{bit_below}
use Rattle.trellis.proofs.search.word_of.Goals as goal

-- one byte more
byte_more : (word bits eight : List ℕ) (k byte : ℕ) → k < 22 → take 8 (drop (8 * k) bits) ≡ eight → byte ≡ number_of eight
    → word ≡ numbers_of 8 k bits ++ replicate (22 - k) 0 → set word k byte ≡ numbers_of 8 (k + 1) bits ++ replicate (22 - (k + 1)) 0
byte_more word bits eight k byte room cut it e =
    let v = number_of (take 8 (drop (8 * k) bits)) in
    let front = numbers_of 8 k bits in
    let left = 22 - (k + 1) in
    let more : 22 - k ≡ suc left = omega arith in
    ap (λ l. set l k byte) e
    ∙ ap (λ b. set (front ++ replicate (22 - k) 0) k b) (it ∙ ap number_of (sym cut))
    ∙ ap (λ n. set (front ++ replicate n 0) k v) more
    ∙ set_at front 0 (replicate left 0) v k (length-numbers_of 8 k bits)
    ∙ sym (append_assoc front (v ∷ []) (replicate left 0))
    ∙ ap (λ l. l ++ replicate left 0) (sym (ap (λ n. numbers_of 8 n bits) (add-one k) ∙ numbers_of_more 8 k bits))

bits-front : (xs ys : List ℕ) → Bits (xs ++ ys) → Bits xs
bits-front [] ys h = tt
bits-front (x ∷ xs) ys h = (h.0, bits-front xs ys h.1)

pub loop-k-init : goal.loop-k-init
unfolding numbers_of
loop-k-init c = search rules

pub gathered-requires : goal.gathered-requires
gathered-requires c =
    let s = c.in-Some.ensures.steps in
    let i = c.loop-k.invariant in
    let eight = c.in-Some.eight.now in
    let cut = sym i.2 ∙ s.0.1.0 in
    let size : length eight ≡ 8 = s.0.1.1 ∙ i.0 in
    (omega (arith, size), λ j. bit_below eight j (bits-front eight _ (subst Bits cut (bits-drop (8 * c.loop-k.k-iterator.count) c.args.bits.now c.requires.1))))

pub loop-k-preserved : goal.loop-k-preserved
loop-k-preserved c =
    let bits = c.args.bits.now in
    let k = c.loop-k.k-iterator.count in
    let s = c.in-Some.ensures.steps in
    let i = c.loop-k.invariant in
    let eight = c.in-Some.eight.now in
    let rest = c.next.new.self.iter.rest.now in
    let size : length eight ≡ 8 = s.0.1.1 ∙ i.0 in
    let cut : drop (8 * k) bits ≡ eight ++ rest = sym i.2 ∙ s.0.1.0 in
    let next : c.next.new.self.count ≡ k + 1 = s.2 in
    let more = chunk 8 k bits eight rest (omega arith) cut size in (
      s.0.0 ∙ i.0,
      omega (arith, next, more.fits),
      more.left ∙ ap (λ n. drop (8 * n) bits) (sym next),
      ap (λ j. set c.loop-k.word j c.gathered.result) s.1
          ∙ byte_more c.loop-k.word bits eight k c.gathered.result (omega (arith, more.fits, c.requires.0)) (ap (take 8) cut ∙ take_at eight rest 8 size) c.gathered.ensures i.3
          ∙ ap (λ n. numbers_of 8 n bits ++ replicate (22 - n) 0) (sym next),
    )
