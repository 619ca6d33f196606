-- The values so far are kept, and the next is that of list k at place i.
use Rattle.std.proofs.Common.{◌≡◌, ◌+◌, ◌*◌, ◌<◌, map}
use Rattle.std.specs.List.{range_with_len}
use Rattle.stream_lists.specs.Lists.{turn_at}
use Rattle.stream_tasks.specs.Joiners.{shares_in}
use Rattle.stream_tasks.proofs.join_block.keep_in_turn.Given as goal

abbrev pub invariant-loop : goal.invariant-loop
invariant-loop l =
    (l.made.items
    ≡ map (turn_at (shares_in l.inputs l.each l.outcomes)) (range_with_len 0 l.counter))
    × (l.made.cap ≡ l.fn.made.cap) × (l.counter ≡ l.i * l.inputs + l.k) × (l.k < l.inputs)
