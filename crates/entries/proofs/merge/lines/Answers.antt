use Rattle.std.proofs.Common.{refl}
use Rattle.entries.proofs.Merging.{holds_both, splits_back}
use Rattle.entries.proofs.merge.lines.Goals as goal

pub returns : goal.returns
returns c = record {
  value = refl;
  whole = holds_both c.args.frames.now c.args.faults.now;
  back = splits_back;
}
