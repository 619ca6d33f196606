use Rattle.std.proofs.Common.{◌≤◌, length}
use Rattle.std.specs.List.{All}
use Rattle.phase_accum.specs.Sends.{AreSends}
use Rattle.graph_lang.specs.declared.sample.TheConstants.{TEXT_MAX}
use Rattle.stream_job.proofs.text_jobs.lists_of.Given as goal

-- the lists read so far are those of a job
abbrev pub invariant-loop-text : goal.invariant-loop-text
invariant-loop-text l =
    All (λ list. AreSends list.items) l.lists.items
    × All (λ list. length list.items ≤ TEXT_MAX) l.lists.items
