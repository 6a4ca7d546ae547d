use Rattle.std.proofs.Common.{◌≡◌, ◌-◌, ◌*◌, ◌≤◌, ◌++◌, length, drop, replicate}
use Rattle.bits.specs.Bits.{numbers_of}
use Rattle.trellis.proofs.search.word_of.Given as goal

abbrev pub invariant-loop-k : goal.invariant-loop-k
invariant-loop-k l =
    let k = l.k-iterator.count in
    (l.k-iterator.iter.size ≡ 8)
    × (8 * k ≤ length l.bits)
    × (l.k-iterator.iter.rest.now ≡ drop (8 * k) l.bits)
    × (l.word ≡ numbers_of 8 k l.bits ++ replicate (22 - k) 0)
