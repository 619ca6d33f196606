-- Each of the children so far that comes now has all its numbers.
use Rattle.std.proofs.Common.{◌≡◌, ◌<◌, ◌≤◌, ℕ, length, Some}
use Rattle.std.specs.Prelude.{slice_get}
use Rattle.graph_runs.specs.Nexts.{registrations_at}
use Rattle.stream_tasks.specs.declared.child.Child.{Child}
use Rattle.stream_tasks.proofs.task_state.TaskState.first_missing.Given as goal

abbrev pub invariant-loop-i : goal.invariant-loop-i
invariant-loop-i l = (i : ℕ) (child : Child) → i < l.i
    → slice_get l.self.children.items i ≡ Some child → child.at ≡ l.self.begun
    → length (registrations_at l.job child.task) ≤ length child.numbers.items
