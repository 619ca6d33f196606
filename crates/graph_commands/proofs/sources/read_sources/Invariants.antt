use Rattle.std.proofs.Common.{◌≡◌, ◌≤◌, ℕ, List, length}
use Rattle.std.specs.List.{All}
use Rattle.phase_accum.specs.Sends.{AreSends}
use Rattle.graph_base.specs.Graphs.{source_number}
use Rattle.graph_lang.specs.declared.sample.TheConstants.{TEXT_MAX}
use Rattle.stream_lists.specs.JobFields.{items_of}
use Rattle.graph_commands.specs.FileJobs.{AreFirstSamples}
use Rattle.graph_commands.proofs.sources.read_sources.Given as goal

-- the samples of the sources above this task were read
abbrev pub invariant-loop-t : goal.invariant-loop-t
invariant-loop-t g l =
    (length l.lists.items ≡ source_number l.graph.tasks l.t)
    × (l.t ≤ length l.graph.tasks)
    × AreFirstSamples (g.F.Files.file l.fn.files) l.graph (items_of l.lists.items)
    × All (λ list. AreSends list.items) l.lists.items
    × All (λ list. length list.items ≤ TEXT_MAX) l.lists.items
    × ((other : List ℕ) → g.F.Files.file l.files other ≡ g.F.Files.file l.fn.files other)
