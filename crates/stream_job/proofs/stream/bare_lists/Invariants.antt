use Rattle.std.proofs.Common.{◌≡◌, [], map}
use Rattle.std.specs.List.{range_with_len}
use Rattle.stream_lists.specs.JobFields.{items_of}
use Rattle.stream_job.proofs.stream.bare_lists.Given as goal

-- so many lists
abbrev pub invariant-loop : goal.invariant-loop
invariant-loop l = items_of l.lists.items ≡ map (λ k. []) (range_with_len 0 l.counter)
