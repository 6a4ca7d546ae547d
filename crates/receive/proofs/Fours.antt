-- Four Golay words, one after the other.
use Rattle.std.proofs.Common.{◌≡◌, ℕ, List, [], ◌∷◌, length, get_or, Ok, Result, sym, ap}
use Rattle.fault.specs.declared.Fault.{Fault}
use Rattle.golay.specs.Nearest.{nearest}
use Rattle.frame.proofs.Words.{listed_is}
use Rattle.receive.specs.Words.{data_read, before, golay_data}

pub four_data : (ws : List ℕ) → length ws ≡ 4 → (p q r s : Result ℕ Fault)
    → p ≡ data_read 0 (nearest (get_or ws 0 0)) → q ≡ data_read 1 (nearest (get_or ws 1 0)) → r ≡ data_read 2 (nearest (get_or ws 2 0)) → s ≡ data_read 3 (nearest (get_or ws 3 0))
    → golay_data 0 ws ≡ before p (before q (before r (before s (Ok []))))
unfolding golay_data
four_data ws e p q r s a b c d =
    let all = ap (golay_data 0) (sym (listed_is 4 ws e)) in
    cc

pub four_read : (ws : List ℕ) → length ws ≡ 4 → (d0 d1 d2 d3 : ℕ)
    → data_read 0 (nearest (get_or ws 0 0)) ≡ Ok d0 → data_read 1 (nearest (get_or ws 1 0)) ≡ Ok d1
    → data_read 2 (nearest (get_or ws 2 0)) ≡ Ok d2 → data_read 3 (nearest (get_or ws 3 0)) ≡ Ok d3
    → Ok (d0 ∷ d1 ∷ d2 ∷ d3 ∷ []) ≡ golay_data 0 ws
four_read ws e d0 d1 d2 d3 a b c d = sym (four_data ws e (Ok d0) (Ok d1) (Ok d2) (Ok d3) (sym a) (sym b) (sym c) (sym d))
