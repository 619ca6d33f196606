use Rattle.std.proofs.Common.{◌≡◌, map}
use Rattle.stream_lists.specs.Lists.{in_turn}
use Rattle.stream_eval.proofs.list.in_turn_list.Given as goal

-- the entries of the turns before this one
abbrev pub invariant-loop-i : goal.invariant-loop-i
invariant-loop-i l = l.list.items ≡ in_turn (map (λ x. x.now) l.lists) l.i
