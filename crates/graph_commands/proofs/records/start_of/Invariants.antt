use Rattle.std.proofs.Common.{◌≡◌, length, ◌<◌, ℕ}
use Rattle.std.specs.List.{filter, range_with_len}
use Rattle.graph_commands.specs.Records.{begins_at, IsStart}
use Rattle.graph_commands.proofs.records.start_of.Given as goal

-- the records that begin before this byte were counted, and none is the one that is asked for
abbrev pub invariant-loop-at : goal.invariant-loop-at
invariant-loop-at l =
    (l.records ≡ length (filter (begins_at l.text) (range_with_len 0 l.at)))
    × ((d : ℕ) → d < l.at → IsStart l.text l.number d → ⊥)
