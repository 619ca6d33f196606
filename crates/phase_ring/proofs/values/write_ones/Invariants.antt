-- The first places have the values of the first sends.
use Rattle.std.proofs.Common.{◌≡◌, ◌++◌, map, take, drop}
use Rattle.phase_ring.specs.Restarts.{plain_value}
use Rattle.phase_ring.proofs.values.write_ones.Given as goal

abbrev pub invariant-loop-k : goal.invariant-loop-k
invariant-loop-k g l =
    l.out ≡ map (plain_value g.A.Accumulate.operation) (take l.k l.values) ++ drop l.k l.fn.out
