-- A list that is taken off in chunks of one width.
use Rattle.std.proofs.Common.{◌≡◌, ℕ, ◌+◌, ◌*◌, ◌<◌, ◌≤◌, List, ◌++◌, length, drop, sym, ap, ◌∙◌, arith, length-append, length-drop, drop_at, drop-drop}

pub record Chunk {A : Type 0} (w k : ℕ) (xs rest : List A) : Type 0 where
  pub fits : w * (k + 1) ≤ length xs
  pub left : rest ≡ drop (w * (k + 1)) xs

-- one chunk more
pub chunk : {A : Type 0} (w k : ℕ) (xs it rest : List A) → 0 < w → drop (w * k) xs ≡ it ++ rest → length it ≡ w → Chunk w k xs rest
chunk w k xs it rest some cut size =
    let on : w * (k + 1) ≡ w * k + w = grind arith in
    let long = sym (length-drop (w * k) xs) ∙ ap length cut ∙ length-append it rest in
    record {
      fits = omega (arith, on, long, size);
      left = sym (drop_at it rest w size) ∙ ap (drop w) (sym cut) ∙ drop-drop w (w * k) xs ∙ ap (λ n. drop n xs) (sym on);
    }
