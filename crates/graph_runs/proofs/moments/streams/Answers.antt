-- Every phaser composes its list.
use Rattle.std.proofs.Common.{◌∙◌, sym}
use Rattle.stream_lists.proofs.ListsAbove.{lists_above}
use Rattle.graph_runs.specs.Moments.{started}
use Rattle.graph_runs.proofs.Started.{ready_as, run_started}
use Rattle.graph_runs.proofs.Results.{streams_begin, streams_whole}
use Rattle.graph_runs.proofs.moments.streams.Goals as goal

pub returns-clause-begin : goal.returns-clause-begin
returns-clause-begin c = λ job m p ready ran below.
    (let now = started job m in
    rw (lists_above now p ready.graph below)
    (streams_begin now m p (ready_as job m ready) (run_started job m ran) below))

pub returns-clause-whole : goal.returns-clause-whole
returns-clause-whole c = λ job m p ready ran below quiet.
    streams_whole (started job m) m p (ready_as job m ready) (run_started job m ran) below quiet
    ∙ sym (lists_above (started job m) p ready.graph below)
