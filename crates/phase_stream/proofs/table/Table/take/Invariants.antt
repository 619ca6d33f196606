use Rattle.std.proofs.Common.{◌≡◌, ℕ, ℤ, Bool, List, [], map}
use Rattle.stream_job.specs.Streams.{IsStreamAt, ended_at}
use Rattle.graph_runs.specs.Moments.{Moment}
use Rattle.phase_stream.specs.TableLines.{Shows, ShowsMore, View, by_number}
use Rattle.phase_stream.proofs.TakenLines.{taken_of}
use Rattle.phase_stream.proofs.table.Table.take.Given as goal

-- what the sinks before this one have was taken over
abbrev pub invariant-loop-number : goal.invariant-loop-number
invariant-loop-number l = (map (λ column. column.task) l.self.columns.items
    ≡ map (λ column. column.task) l.fn.self.columns.items)
    × ((going : Bool) (s : List (List ℤ)) (m : Moment) (given : ℕ → List ℤ) (view : View)
    → IsStreamAt l.stream s m given
    → Shows l.stream.job (ended_at l.stream) going s m (by_number l.stream.job given)
    l.fn.self.columns.items view
    → ShowsMore l.stream.job (ended_at l.stream) going s m (taken_of l.stream.job m given l.number)
    view l.self.columns.items [])
