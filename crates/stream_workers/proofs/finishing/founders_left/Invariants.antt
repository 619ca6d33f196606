use Rattle.std.proofs.Common.{◌≡◌, map, Some}
use Rattle.stream_workers.proofs.finishing.founders_left.Given as goal

-- those so far
abbrev pub invariant-loop-founder : goal.invariant-loop-founder
invariant-loop-founder l =
    (l.lefts.items ≡ map (λ founder. Some founder.left) l.yielded)
    × (l.gave.items ≡ map (λ founder. founder.gave) l.yielded)
