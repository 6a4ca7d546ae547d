use Rattle.std.proofs.Common.{refl, arith, length-set}
use Rattle.trellis.proofs.Tracing.{trace_more, trace_all}
use Rattle.trellis.proofs.search.trace.Goals as goal

pub loop-t-preserved : goal.loop-t-preserved
loop-t-preserved c = (
  simp length-set (omega arith),
  omega arith,
  trace_more c.loop-t.decisions _ c.loop-t.t c.loop-t.state (omega arith) c.loop-t.invariant.0 c.loop-t.invariant.2,
)

pub returns : goal.returns
returns c = trace_all c.loop-t.decisions _ c.loop-t.t c.loop-t.state (omega arith) c.loop-t.invariant.2
