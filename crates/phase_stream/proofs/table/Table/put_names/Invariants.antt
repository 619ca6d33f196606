use Rattle.std.proofs.Common.{◌≡◌, ◌++◌, None, [], map}
use Rattle.std.specs.List.{flat_map, range_with_len}
use Rattle.graph_commands.specs.ColumnTexts.{cell_at}
use Rattle.stream_lists.specs.Lists.{sinks_of}
use Rattle.phase_stream.proofs.table.Table.put_names.Given as goal

-- the names before this one were put
abbrev pub invariant-loop-k : goal.invariant-loop-k
invariant-loop-k l = l.text.items ≡ l.fn.text.items
    ++ flat_map (cell_at l.job (map (λ t. (t, [])) (sinks_of l.job)) None) (range_with_len 0 l.k)
