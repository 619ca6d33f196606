-- What the code keeps while tasks take turns: what a wait tells, and when a call is blocked.
use Rattle.std.specs.Prelude.{◌≡◌, ℕ, ◌+◌, ◌≤◌, ℤ, List, [], ◌∷◌, ◌++◌, Option, Some, None, slice_get, set, get_or, Bool, true, false, ◌&&◌, ◌||◌, nat_le, Ok, Err, ◌≢◌, ◌==◌, length, map, nat_lt, ◌-◌, Result, if◌then◌else◌}
use Rattle.std.specs.List.{All, position_from}
use Rattle.std.specs.Vec.{vec_len, vec_capacity}
use Rattle.graph_runs.specs.Answers.{answer_up_to, was_blocked, after_answer, makes, output_at}
use Rattle.graph_runs.specs.TaskEvents.{first_wait}
use Rattle.graph_runs.specs.NextBlocks.{MaySize}
use Rattle.phase_accum.specs.declared.outcome.Outcome.{Outcome}
use Rattle.stream_eval.specs.declared.whole.Lines.{Lines}
use Rattle.phase_base.specs.Limits.{Limits}
use Rattle.phase_base.specs.declared.entry.Entry.{Entry}
use Rattle.phase_base.specs.Members.{entry_of, least, wait_phases}
use Rattle.phase_history.specs.Histories.{History, members_of, done_of}
use Rattle.phase_history.specs.Refusals.{is_ahead, register_refusal, register_now_refusal}
use Rattle.phase_accum.specs.Sends.{AreSends}
use Rattle.stream_lists.specs.Jobs.{Job, samples_at, with_samples}
use Rattle.graph_runs.specs.Moments.{Moment, limits_at, made_now}
use Rattle.graph_runs.specs.Nexts.{Next, has_signaller, is_live, next_of, number_on, waits}
use Rattle.graph_runs.specs.TaskPlaces.{Owed, nothing, values, exchange}
use Rattle.stream_filters.specs.declared.fault.TooBigValue.{TooBigValue}
use Rattle.graph_runs.specs.Reached.{IsReachable}
use Rattle.graph_runs.specs.Answers as answers
use Rattle.graph_runs.specs.Nexts as turns
use Rattle.phase_base.specs.declared.mode.Mode.{Mode}
use Rattle.phase_history.specs.declared.event.Event.{Event}
use Rattle.phase_history.specs.declared.event.Event.TheVariants.{Registered, RegisteredNow}
use Rattle.phase_history.specs.declared.refusal.RegisterRefusal.{RegisterRefusal}
use Rattle.graph_base.specs.Graphs.{task_at}
use Rattle.stream_lists.specs.Lists.{is_sink_at, sinks_of}
use Rattle.stream_job.specs.Machines.{IsMachine, IsMachineAt, UsesFew, HasRoom, kept_behind, most_in}
use Rattle.stream_job.specs.Buffers.{most_steps}
use Rattle.stream_job.specs.SinkLines.{sink_begins_at}
use Rattle.stream_job.specs.declared.task_state.TaskState.{TaskState}
use Rattle.stream_job.specs.declared.machine.Machine.{Machine}
use Rattle.stream_job.specs.declared.made.Made.{Made}
use Rattle.stream_job.specs.Turning.{HadTurn, turn_in}

-- a sink's values with these behind them
abbrev pub more : List ℤ → ℕ × List ℤ → ℕ × List ℤ
more xs line = (line.0, line.1 ++ xs)

-- the lines, where the sink of this place, if there is one, has these more
abbrev pub with_more : Option ℕ → List ℤ → List (ℕ × List ℤ) → List (ℕ × List ℤ)
with_more None xs lines = lines
with_more (Some i) xs lines = set lines i (more xs (get_or lines i (0, [])))

-- line i has room for so many more values
abbrev pub HasRoomIn : List Lines → ℕ → ℕ → Type 0
HasRoomIn lines many i = (line : Lines) → slice_get lines i ≡ Some line
    → vec_len line.values + many ≤ vec_capacity line.values

-- a signal of so many phases, the first the entry's: past the last phase, or too far ahead of the
-- slowest waiter
abbrev pub blocks_signal_at : Limits → History → ℕ → Option Entry → Bool
blocks_signal_at limits h many None = false
blocks_signal_at limits h many (Some entry) =
    nat_lt limits.phases_max (entry.signal_phase + many)
    || is_ahead (least (wait_phases (members_of h))) limits.bound (entry.signal_phase + many - 1)

-- a signal of this number
abbrev pub blocks_signal : Limits → History → ℕ → ℕ → Bool
blocks_signal limits h n many = blocks_signal_at limits h many (entry_of (members_of h) n)

-- a wait for the entry's phase: it is not complete, and somebody signals
abbrev pub blocks_wait_at : History → Option Entry → Bool
blocks_wait_at h None = false
blocks_wait_at h (Some entry) = nat_le (done_of h) entry.wait_phase && has_signaller h

-- a wait of this number
abbrev pub blocks_wait : History → ℕ → Bool
blocks_wait h n = blocks_wait_at h (entry_of (members_of h) n)

-- how many values there are of all that task t owes, at most, where this is what it does next
abbrev pub all_owed : Job → Moment → ℕ → Next → ℕ
all_owed job m t (turns.signals j) = length (made_now job m t j)
all_owed job m t next = 1

-- whether the turn of task t would be blocked, where this is what it does next: a block of its
-- line, or the signal of all that it owes
abbrev pub would_block : Job → Moment → ℕ → Next → Bool
would_block job m t next =
    was_blocked
    (answer_up_to (task_at job.graph t).block (all_owed job m t next) job m t next)

-- whether task t is not live, or its turn would be blocked
abbrev pub is_at_rest : Job → Moment → ℕ → Bool
is_at_rest job m t = if is_live job m t then would_block job m t (next_of job m t) else true

-- whether a value is out of range
abbrev pub is_value_out : Result ℤ TooBigValue → Bool
is_value_out (Ok v) = false
is_value_out (Err out) = true

-- whether all of these are in range
abbrev pub in_range : List (Result ℤ TooBigValue) → Bool
in_range [] = true
in_range (Ok v ∷ vs) = in_range vs
in_range (Err out ∷ vs) = false

-- whether what is owed is values that can be signalled
abbrev pub are_in_range : Owed → Bool
are_in_range nothing = false
are_in_range (values j vs) = in_range vs
are_in_range (exchange x) = false

-- how many values are owed before the first that is out of range, where one is
abbrev pub good_in : Owed → Option ℕ
good_in nothing = None
good_in (values j vs) = position_from is_value_out 0 vs
good_in (exchange x) = None

-- how many values are owed
abbrev pub owed_many : Owed → ℕ
owed_many nothing = 0
owed_many (values j vs) = length vs
owed_many (exchange x) = 0

-- task t may make so many steps in a turn, and a filter no more than one event of it signals
abbrev pub MayStep : Job → Machine → ℕ → ℕ → Type 0
MayStep job machine t steps = MaySize job.graph t steps (most_in machine t)

-- at each moment of the machine this is what task t does next, which may make so many steps, its
-- samples can be sent, and its phaser does not refuse it
pub record IsNextIn (steps : ℕ) (job : Job) (machine : Machine) (t : ℕ) (next : turns.Next)
    : Type 0 where
  pub some : IsMachine job machine
  pub sized : MayStep job machine t steps
  pub small : steps ≤ most_steps job t
  pub sends : AreSends (samples_at job t)
  pub is : (m : Moment) → IsMachineAt job m machine → turns.next_of job m t ≡ next
  pub stays : (m : Moment) → IsMachineAt job m machine
      → IsReachable job (after_answer job (turn_in steps job machine m t) m)
  pub few : (m : Moment) → IsMachineAt job m machine
      → UsesFew job (after_answer job (turn_in steps job machine m t) m)
  pub answered : (m : Moment) → IsMachineAt job m machine
      → turn_in steps job machine m t ≢ answers.is_refused

-- with some samples this is what task t does next
abbrev pub MayDo : Job → Machine → ℕ → Next → Type 0
MayDo job machine t next =
    (s : List (List ℤ)) × (steps : ℕ) × IsNextIn steps (with_samples s job) machine t next

-- with whatever samples this is what task t did next, it had a turn, of which the code tells so
abbrev pub HasDone : Job → Machine → Machine → ℕ → Next → Made → Type 0
HasDone job old new t next it = (s : List (List ℤ)) (steps : ℕ)
    → IsNextIn steps (with_samples s job) old t next
    → HadTurn steps (with_samples s job) old new t it

-- the line of task t, where it is a sink, has room for what its turn gets at a moment
abbrev pub HasRoomAt : ℕ → Job → Machine → ℕ → Moment → Type 0
HasRoomAt steps job machine t m = (k p n : ℕ) (outcomes : List Outcome) (state : TaskState)
    → next_of job m t ≡ waits k
    → turn_in steps job machine m t ≡ makes (first_wait t k p n outcomes)
    → slice_get machine.tasks.items t ≡ Some state → is_sink_at job t ≡ true
    → HasRoomIn machine.lines.items (length outcomes) state.sink

-- it does at some moment of the machine
abbrev pub HasRoomNext : ℕ → Job → Machine → ℕ → Type 0
HasRoomNext steps job machine t =
    (m : Moment) × IsMachineAt job m machine × HasRoomAt steps job machine t m

-- task t is a filter that has made values which it has not signalled
abbrev pub OwesMade : Machine → ℕ → Type 0
OwesMade machine t = (state : TaskState) → slice_get machine.tasks.items t ≡ Some state
    → state.made.items ≢ []

-- task t may signal so many phases on its first output now
abbrev pub HasPhases : Job → Moment → ℕ → ℕ → Type 0
HasPhases job m t phases =
    let p = output_at job t 0 in
    (many : ℕ) → 1 ≤ many → many ≤ phases
    → blocks_signal (limits_at job p) (m.history p) (number_on m t p) many ≡ false

-- ---- a child's registration, as a sink that joins now or in this mode

-- the refusal
abbrev pub child_refusal : Job → ℕ → History → ℕ → ℕ → Mode → Option RegisterRefusal
child_refusal job c h parent child mode =
    if (task_at job.graph c).joins_now then register_now_refusal h parent child
    else register_refusal h parent child mode

-- the event
abbrev pub add_event : Job → ℕ → ℕ → ℕ → Mode → Event
add_event job c parent child mode =
    if (task_at job.graph c).joins_now then RegisteredNow parent child
    else Registered parent child mode

-- where each sink begins after it, where the registration is at this phase
abbrev pub begins_with : Job → Moment → ℕ → ℕ → ℕ → Option ℕ
begins_with job m c phase t =
    if (task_at job.graph c).joins_now && t == c then Some phase else sink_begins_at job m t

-- the lines after it
pub record LineHasBegun (job : Job) (m : Moment) (c phase : ℕ) (old new : List Lines) : Type 0 where
  pub values : (given : ℕ → List ℤ) → map (kept_behind given) new ≡ map (kept_behind given) old
  pub starts : map (λ line. line.start) old ≡ map (sink_begins_at job m) (sinks_of job)
      → map (λ line. line.start) new ≡ map (begins_with job m c phase) (sinks_of job)
  pub own : (room : ℕ → ℕ) → All (HasRoom room) old → All (HasRoom room) new
