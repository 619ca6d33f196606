use Rattle.std.proofs.Common.{◌≡◌, length, map}
use Rattle.std.specs.List.{All, range_with_len}
use Rattle.phase_accum.specs.Sends.{AreSends}
use Rattle.graph_base.specs.GraphFields.{task_of}
use Rattle.stream_lists.specs.JobFields.{items_of}
use Rattle.stream_lists.specs.Lists.{taken_from}
use Rattle.stream_eval.proofs.taken_values.taken_lists.Given as goal

-- what is taken from the inputs before this one
abbrev pub invariant-loop-k : goal.invariant-loop-k
invariant-loop-k l =
    (map (λ x. x.now) l.lists.items
    ≡ map (taken_from (items_of l.above) (task_of l.task) l.span) (range_with_len 0 l.k))
    × All (λ x. AreSends x.now) l.lists.items
    × (length l.lists.items ≡ l.k)
