use Rattle.stream_filters.specs.Weighing.{weighed}
use Rattle.stream_filters.specs.FilterFields.{MadeSoFar}
use Rattle.stream_filters.proofs.whole_list.add_each.Given as goal

-- the weighed at the samples before this one
abbrev pub invariant-loop-n : goal.invariant-loop-n
invariant-loop-n l = MadeSoFar (weighed l.taps l.form l.samples) l.list.items l.n
