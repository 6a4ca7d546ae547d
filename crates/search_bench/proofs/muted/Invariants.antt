use Rattle.std.proofs.Common.{◌≡◌, ◌*◌, ◌≤◌, length, drop, Ok}
use Rattle.search_bench.specs.Calls.{mute_of}
use Rattle.search_bench.proofs.muted.Given as goal

abbrev pub invariant-loop-pair : goal.invariant-loop-pair
invariant-loop-pair l =
    let n = length l.yielded in
    (l.pair-iterator.size ≡ 2)
    × (2 * n ≤ length l.stretches)
    × (l.pair-iterator.rest.now ≡ drop (2 * n) l.stretches)
    × (mute_of n l.stretches ≡ Ok l.mute)
