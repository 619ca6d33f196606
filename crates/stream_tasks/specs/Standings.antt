-- Where a task stands on its phasers, as it is told of a run that stalled.
use Rattle.std.specs.Prelude.{◌≡◌, ℕ, ℤ, ◌<◌, List, [], ◌∷◌, ◌++◌, Option, None, length, if◌then◌else◌}
use Rattle.std.specs.List.{All}
use Rattle.graph_base.specs.Graphs.{is_source, task_at}
use Rattle.graph_runs.specs.declared.owed.Owed.{Owed}
use Rattle.graph_runs.specs.declared.owed.Owed.TheVariants as owed
use Rattle.graph_runs.specs.Moments.{first_input}
use Rattle.graph_runs.specs.Nexts.{registrations_at}
use Rattle.graph_runs.specs.TaskPlaces.{registration_at}
use Rattle.phase_base.specs.declared.entry.Entry.{Entry}
use Rattle.phase_base.specs.Members.{entry_of}
use Rattle.phase_history.specs.Histories.{members_of}
use Rattle.stream_lists.specs.Jobs.{Job}
use Rattle.stream_lists.specs.Stands.{call_on}
use Rattle.stream_lists.specs.declared.stand.Stand.{Stand}
use Rattle.stream_lists.specs.declared.stand.End.{End}
use Rattle.stream_lists.specs.declared.stand.End.TheVariants as end
use Rattle.stream_members.specs.AnyMembers.{member_in}
use Rattle.stream_tasks.specs.Deals.{next_output_of}
use Rattle.stream_tasks.specs.declared.hold.Hold.{Hold}
use Rattle.stream_tasks.specs.declared.hold.Hold.TheVariants.{On, Gone}
use Rattle.stream_tasks.specs.declared.task_state.TaskState.{TaskState}

-- the mode and the phases of a registration by what it has seen; nothing once it has left
abbrev pub entry_held : Hold → Option Entry
entry_held (On member) = entry_of (members_of (member_in member).seen) (member_in member).number
entry_held Gone = None

-- the end at which a task between two steps makes its next call: a source signals, and any other
-- task waits on the first input of its next step
abbrev pub first_end : Job → ℕ → ℕ → End
first_end job t steps = if is_source (task_at job.graph t).kind then end.Output 0
    else end.Input (first_input (task_at job.graph t) steps)

-- the end of the call that a task owes, which a peer's exchange makes on its second input
abbrev pub owed_end : Job → ℕ → ℕ → Owed → End
owed_end job t steps (owed.Value output value) = end.Output output
owed_end job t steps (owed.Exchange x) = end.Input 1
owed_end job t steps owed.Nothing = first_end job t steps

-- the same, where what it has made comes first, on its first output, or what it deals, on that
-- output
abbrev pub made_end : List ℤ → End → End
made_end [] owed = owed
made_end (v ∷ vs) owed = end.Output 0

abbrev pub deal_end : List ℤ → ℕ → End → End
deal_end [] output owed = owed
deal_end (v ∷ vs) output owed = end.Output output

-- the end at which a task in this state makes its next call, where no child comes first
abbrev pub end_of_state : Job → TaskState → End
end_of_state job s = if s.over then end.Nowhere
    else made_end s.made.items
    (deal_end s.deal.values.items (next_output_of job s) (owed_end job s.number s.begun s.owed))

-- it tells of task t on the phaser of one of its registrations, and of a call on that one alone
pub record IsStandOf (job : Job) (t : ℕ) (stand : Stand) : Type 0 where
  pub task : stand.task ≡ t
  pub k : ℕ
  pub registered : k < length (registrations_at job t)
  pub phaser : stand.phaser ≡ (registration_at job t k).phaser
  pub at : End
  pub next : stand.next
      ≡ call_on at (registration_at job t k).input (registration_at job t k).output

-- behind a list stand some such of task t
pub record PutsStands (job : Job) (t : ℕ) (old new : List Stand) : Type 0 where
  pub more : List Stand
  pub is : new ≡ old ++ more
  pub each : All (IsStandOf job t) more
