-- The line of the sink keeps where it begins.
use Rattle.std.proofs.Common.{◌≡◌, ◌<◌, ℕ, ℤ, List, length, get_or, sym, subst}
use Rattle.stream_lists.specs.Lists.{sinks_of}
use Rattle.graph_runs.specs.Moments.{Moment}
use Rattle.stream_job.specs.SinkLines.{sink_begins_at}
use Rattle.stream_job.specs.Streams.{StreamState, IsStreamAt}
use Rattle.stream_job.proofs.GivenLines.{line_start}
use Rattle.stream_job.proofs.stream.Stream.start.Goals as goal

pub returns : goal.returns
returns c =
    let R : StreamState → Type 0 = λ w. c.args.sink < length (sinks_of w.job) in
    let lt = subst R (sym c.self.view_is) c.requires in
    let P : StreamState → Type 0 = λ w. (s : List (List ℤ)) (m : Moment) (given : ℕ → List ℤ)
    → IsStreamAt w s m given
    → sink_begins_at w.job m (get_or (sinks_of w.job) c.args.sink 0) ≡ c.index.result.now.start in
    subst P c.self.view_is (λ s m given at. line_start c.self.inside.job given m
    c.self.inside.machine.lines.items c.args.sink c.index.result.now at.lines lt c.index.ensures)
