use Rattle.stream_filters.specs.Filter.{outputs}
use Rattle.stream_filters.specs.FilterFields.{PutSoFar}
use Rattle.stream_filters.proofs.whole_list.add_each_in_turn.Given as goal

-- the outputs at the samples before this one, which were put
abbrev pub invariant-loop-n : goal.invariant-loop-n
invariant-loop-n l = PutSoFar (outputs l.taps l.form l.samples) l.list.items l.n
