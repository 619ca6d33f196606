use Rattle.std.proofs.Common.{◌≡◌, ℕ, ◌<◌, ◌&&◌, false}
use Rattle.std.specs.Str.{bytes_eq}
use Rattle.stream_lists.specs.Lists.{is_sink_at}
use Rattle.graph_base.specs.Graphs.{name_at}
use Rattle.graph_base.specs.declared.place.Place.TheVariants as place
use Rattle.graph_commands.proofs.sinks.find_sink.Given as goal

-- none of the tasks so far is the sink of this name
abbrev pub invariant-loop-t : goal.invariant-loop-t
invariant-loop-t l = (d : ℕ) → d < l.t
    → (is_sink_at l.job d && bytes_eq (name_at l.job.graph (place.Task d)) l.name) ≡ false
