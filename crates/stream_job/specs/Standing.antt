-- How a task stands on a phaser of its line.
use Rattle.std.specs.Prelude.{ℕ, Option, Some, None}
use Rattle.phase_base.specs.Members.{entry_of}
use Rattle.phase_base.specs.declared.entry.Entry.{Entry}
use Rattle.phase_history.specs.Histories.{History, members_of}
use Rattle.stream_lists.specs.Jobs.{Job}
use Rattle.graph_runs.specs.Moments.{Moment}
use Rattle.graph_runs.specs.TaskPlaces.{registration_at}

-- the entry of a number, where it is one of a task that is registered
abbrev pub entry_in : History → Option ℕ → Option Entry
entry_in h None = None
entry_in h (Some number) = entry_of (members_of h) number

-- the mode and the phases of task t on the phaser of its registration k, while it is registered
abbrev pub standing_on : Job → Moment → ℕ → ℕ → Option Entry
standing_on job m t k =
    let p = (registration_at job t k).phaser in entry_in (m.history p) (m.number p t)
