-- A task that came and has left.
use Rattle.std.specs.Prelude.{ℕ, Bool, not, ◌&&◌, is_some}
use Rattle.stream_lists.specs.Jobs.{Job}
use Rattle.graph_runs.specs.Moments.{Moment}
use Rattle.graph_runs.specs.Nexts.{first_kept, first_missing}

-- whether task t was registered on all phasers of its line, and has left them all
abbrev pub has_gone : Job → Moment → ℕ → Bool
has_gone job m t = not (is_some (first_missing job m t)) && not (is_some (first_kept job m t))
