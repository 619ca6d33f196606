use Rattle.std.proofs.Common.{◌≡◌, ℕ, List, false}
use Rattle.std.specs.List.{list_any, range_with_len}
use Rattle.std.specs.Str.{bytes_eq}
use Rattle.phase_words.specs.StreamLine.{stream_asked}
use Rattle.graph_base.specs.Graphs.{file_at}
use Rattle.phase_stream.specs.Outputs.{opened_as}
use Rattle.phase_stream.proofs.writers.is_read.Given as goal

-- it is the file of no source before this one, and what is known of all files is as before
abbrev pub invariant-loop-k : goal.invariant-loop-k
invariant-loop-k g l =
    (list_any (λ k. bytes_eq l.file (opened_as l.call.beside (stream_asked l.call).graph
    (file_at l.graph k))) (range_with_len 0 l.k) ≡ false)
    × ((other : List ℕ) → g.F.Files.file l.files other ≡ g.F.Files.file l.fn.files other)
