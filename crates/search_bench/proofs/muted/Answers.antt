use Rattle.std.proofs.Common.{◌≡◌, ℕ, ◌+◌, ◌*◌, ◌/◌, List, [], ◌∷◌, ◌++◌, length, get_or, drop, Err, sym, ap, ◌∙◌, arith, rules, length-append, length-drop, get_or-drop}
use Rattle.std.proofs.lemmas.List.{get_or_append_left}
use Rattle.std.proofs.lemmas.Result.{err_from_is_err_and}
use Rattle.bits.proofs.Chunks.{chunk}
use Rattle.search_bench.specs.Calls.{mute_of}
use Rattle.search_bench.proofs.Stretches.{grown, refused}
use Rattle.search_bench.proofs.muted.Goals as goal

-- the numbers of pair n
of_pair : (numbers pair rest : List ℕ) (n : ℕ) → drop (2 * n) numbers ≡ pair ++ rest → length pair ≡ 2
    → (get_or pair 0 0 ≡ get_or numbers (2 * n) 0) × (get_or pair 1 0 ≡ get_or numbers (2 * n + 1) 0)
of_pair numbers pair rest n cut size =
    let zero : 2 * n + 0 ≡ 2 * n = omega arith in (
      sym (get_or_append_left pair rest 0 0 (omega arith)) ∙ ap (λ l. get_or l 0 0) (sym cut) ∙ get_or-drop (2 * n) numbers 0 0 ∙ ap (λ k. get_or numbers k 0) zero,
      sym (get_or_append_left pair rest 0 1 (omega arith)) ∙ ap (λ l. get_or l 1 0) (sym cut) ∙ get_or-drop (2 * n) numbers 1 0,
    )

pub loop-pair-init : goal.loop-pair-init
unfolding mute_of
loop-pair-init c = search rules

pub loop-pair-preserved : goal.loop-pair-preserved
loop-pair-preserved c =
    let numbers = c.args.stretches.now in
    let n = length c.loop-pair.yielded in
    let s = c.in-Some.ensures.steps in
    let i = c.loop-pair.invariant in
    let pair = c.in-Some.pair.now in
    let cut : drop (2 * n) numbers ≡ pair ++ c.next.new.self.rest.now = sym i.2 ∙ s.1.0 in
    let size : length pair ≡ 2 = s.1.1 ∙ i.0 in
    let more = chunk 2 n numbers pair c.next.new.self.rest.now (omega arith) cut size in
    let it = of_pair numbers pair c.next.new.self.rest.now n cut size in
    let next : n + 1 ≡ length (c.loop-pair.yielded ++ c.in-Some.pair ∷ []) = sym (length-append c.loop-pair.yielded (c.in-Some.pair ∷ [])) in (
      s.0 ∙ i.0,
      omega (arith, next, more.fits),
      more.left ∙ ap (λ k. drop (2 * k) numbers) next,
      ap (λ k. mute_of k numbers) (sym next)
          ∙ grown n numbers c.loop-pair.mute c.add.new.self _ _ (c.from.ensures ∙ it.0) (c.from-in-loop-pair.ensures ∙ it.1) i.3
          (sym c.add.ensures.answer ∙ c.in_ok-add.was) c.add.ensures.after,
    )

pub returns-in_err-add : goal.returns-in_err-add
returns-in_err-add c =
    let numbers = c.args.stretches.now in
    let n = length c.loop-pair.yielded in
    let s = c.in-Some.ensures.steps in
    let i = c.loop-pair.invariant in
    let pair = c.in-Some.pair.now in
    let rest = c.next.new.self.rest.now in
    let cut : drop (2 * n) numbers ≡ pair ++ rest = sym i.2 ∙ s.1.0 in
    let size : length pair ≡ 2 = s.1.1 ∙ i.0 in
    let it = of_pair numbers pair rest n cut size in
    let more = chunk 2 n numbers pair rest (omega arith) cut size in
    let told = err_from_is_err_and c.from_residual.result c.from_residual.ensures.1 in
    told.1
    ∙ ap Err told.2
    ∙ sym (refused n (length numbers / 2) numbers c.loop-pair.mute c.in_err-add.field-0.0 _ _ (c.from.ensures ∙ it.0) (c.from-in-loop-pair.ensures ∙ it.1)
    (omega (arith, more.fits)) i.3 (sym c.add.ensures.answer ∙ c.in_err-add.was))
