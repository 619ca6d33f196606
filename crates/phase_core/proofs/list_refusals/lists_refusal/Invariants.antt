-- What is left decides.
use Rattle.phase_core.proofs.SignalRows.{ListsLoop}
use Rattle.phase_core.proofs.list_refusals.lists_refusal.Given as goal

abbrev pub invariant-loop-pending : goal.invariant-loop-pending
invariant-loop-pending g l =
    ListsLoop l.fn.board.limits l.fn.slowest l.fn.board.ring l.fn.lists l.fn.single l.fn.entry l.at l.pending-index
