-- The children so far allow it.
use Rattle.std.proofs.Common.{◌≡◌, ℕ, ◌+◌, ◌<◌, ◌≤◌, Some}
use Rattle.std.specs.Prelude.{slice_get}
use Rattle.stream_tasks.specs.declared.child.Child.{Child}
use Rattle.stream_tasks.proofs.blocks.children_allow.Given as goal

abbrev pub invariant-loop-child : goal.invariant-loop-child
invariant-loop-child l =
    (1 ≤ l.fn.steps → 1 ≤ l.allowed) × (l.allowed ≤ l.fn.steps)
    × ((i : ℕ) (child : Child) → i < l.child-index → slice_get l.children i ≡ Some child
    → l.begun < child.at → l.begun + l.allowed ≤ child.at)
