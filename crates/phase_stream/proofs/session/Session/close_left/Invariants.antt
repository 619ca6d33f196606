use Rattle.std.proofs.Common.{◌≡◌, Option, List, ℕ, ℤ}
use Rattle.graph_commands.specs.FileJobs.{Known}
use Rattle.stream_job.specs.declared.stopped.Stopped.{Stopped}
use Rattle.phase_stream.specs.Sessions.{AreSources, IsSameSession, StandsStopped}
use Rattle.phase_stream.proofs.session.Session.close_left.Given as goal

-- the session stands as before
abbrev pub invariant-loop-k : goal.invariant-loop-k
invariant-loop-k g l = ((held : Known) (old now : ℕ → Option (List ℕ)) (stop : Stopped)
    → StandsStopped g.R.Read.remaining held old now l.fn.self stop
    → StandsStopped g.R.Read.remaining held old now l.self stop)
    × IsSameSession l.fn.self l.self
    × ((held : Known) (s : List (List ℤ)) → AreSources g.R.Read.remaining held l.fn.self s
    → AreSources g.R.Read.remaining held l.self s)
    × (l.self.stream ≡ l.fn.self.stream)
