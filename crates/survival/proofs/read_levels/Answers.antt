use Rattle.survival.proofs.Recovering.{undamaged_levels}
use Rattle.survival.proofs.read_levels.Goals as goal

pub returns : goal.returns
returns c = record {
  searched = c.search.ensures.answer;
  undamaged = undamaged_levels (record {}) c.args.block c.args.readings.now _ c.search.result c.search.ensures.answer;
  kept = c.search.ensures.kept;
}
