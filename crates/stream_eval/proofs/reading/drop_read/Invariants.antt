use Rattle.stream_eval.proofs.Dropped.{GoneThrough}
use Rattle.stream_eval.proofs.reading.drop_read.Given as goal

-- the lists before this one are gone through
abbrev pub invariant-loop-q : goal.invariant-loop-q
invariant-loop-q l = GoneThrough l.job l.p l.fn.lists l.lists l.q
