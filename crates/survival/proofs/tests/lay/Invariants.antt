use Rattle.survival.proofs.tests.lay.Given as goal

abbrev pub invariant-loop-stretch : goal.invariant-loop-stretch
invariant-loop-stretch g l =
    (goal.iterator-loop-stretch g).can_next l.stretch-iterator
    × (goal.iterator-loop-stretch g).is_finite l.stretch-iterator
