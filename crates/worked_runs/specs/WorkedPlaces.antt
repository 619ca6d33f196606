-- Where the source and the peer of the worked run stand at its opening, and its first moments.
use Rattle.std.specs.Prelude.{[], ◌∷◌, pos}
use Rattle.phase_accum.specs.declared.outcome.Outcome.TheVariants.{Value}
use Rattle.graph_runs.specs.Moments.{Moment}
use Rattle.graph_runs.specs.TaskEvents.{first_wait, after_turn}
use Rattle.graph_runs.specs.TaskPlaces.{TaskPlace, at_start}
use Rattle.worked_runs.specs.Worked.{worked, worked_sample}

-- the source is on X as 1
abbrev pub source_start : TaskPlace
source_start = at_start (1 ∷ [])

-- the peer is on X as 2, and on E and Y as 1
abbrev pub peer_start : TaskPlace
peer_start = at_start (2 ∷ 1 ∷ 1 ∷ [])

-- the peer has taken it
abbrev pub after_peer_wait : Moment
after_peer_wait = after_turn worked (first_wait 1 0 0 2 (Value (pos 5) ∷ [])) worked_sample
