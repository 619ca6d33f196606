use Rattle.std.proofs.Common.{◌≡◌, ℕ, ◌<◌, None, length}
use Rattle.std.specs.Prelude.{slice_get}
use Rattle.graph_base.specs.Graphs.{task_at}
use Rattle.graph_runs.specs.Beginnings.{root_number}
use Rattle.graph_runs.specs.TaskPlaces.{registration_at}
use Rattle.stream_job.proofs.opened_tasks.root_numbers.Given as goal

-- the numbers of the registrations before this one
abbrev pub invariant-loop-k : goal.invariant-loop-k
invariant-loop-k l =
    (length l.numbers.items ≡ l.k)
    × ((i : ℕ) → i < l.k
    → root_number l.job (registration_at l.job l.t i).phaser l.t ≡ slice_get l.numbers.items i)
    × (l.numbers.capacity ≡ 9)
    × ((task_at l.job.graph l.t).parent ≡ None)
