use Rattle.phase_stream.proofs.Opening.{AreUnopenedBefore}
use Rattle.phase_stream.proofs.session.unopened.Given as goal

-- the sources among the tasks before this one
abbrev pub invariant-loop-t : goal.invariant-loop-t
invariant-loop-t g l = AreUnopenedBefore g.R.Read.remaining l.job l.t l.sources.items
