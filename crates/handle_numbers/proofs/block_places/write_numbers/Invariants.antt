-- The first numbers stand in the first places, and behind them what stood there.
use Rattle.std.proofs.Common.{◌≡◌, ◌++◌, map, take, drop}
use Rattle.handle_numbers.specs.Numbers.{value_number}
use Rattle.handle_numbers.proofs.block_places.write_numbers.Given as goal

abbrev pub invariant-loop-k : goal.invariant-loop-k
invariant-loop-k l =
    l.values ≡ map value_number (take l.k l.outcomes) ++ drop l.k l.fn.values
