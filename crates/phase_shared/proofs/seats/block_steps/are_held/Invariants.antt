use Rattle.std.specs.Prelude.{ℤ, List, drop}
use Rattle.phase_core.specs.Blocks.{StandForLists}
use Rattle.phase_shared.proofs.seats.block_steps.are_held.Given as goal

-- where some lists stand for the rest, some stand for all
abbrev pub invariant-loop-pending : goal.invariant-loop-pending
invariant-loop-pending g l = (rest : List (List ℤ)) → StandForLists g.A.Accumulate.operation (drop l.pending-index l.fn.lists) rest
    → (all : List (List ℤ)) × StandForLists g.A.Accumulate.operation l.fn.lists all
