-- What a run that is fed stands for: all samples that came so far, which nobody keeps, a moment of
-- their run, and what each sink has handed over; and when it stops.
use Rattle.std.specs.Prelude.{◌≡◌, ℕ, ℤ, ◌+◌, ◌-◌, ◌<◌, ◌≤◌, ◌||◌, ◌&&◌, ◌==◌, ◌++◌, Bool, true, false, nat_lt, List, [], ◌∷◌, Option, Some, None, length, drop, get_or, set, slice_get, min, max, map, replicate, is_some, vec_capacity, if◌then◌else◌}
use Rattle.std.specs.List.{All, find, list_all, list_any, range_with_len}
use Rattle.phase_accum.specs.Sends.{AreSends}
use Rattle.graph_base.specs.Graphs.{Graph, source_number, sources_of, task_at}
use Rattle.graph_base.specs.declared.line.Kind.TheVariants.{Source}
use Rattle.stream_lists.specs.Jobs.{Job, samples_in, with_samples}
use Rattle.stream_lists.specs.Lists.{is_sink_at, sinks_of}
use Rattle.stream_lists.specs.Meetings.{meeting_line}
use Rattle.stream_lists.specs.Ranges.{Where}
use Rattle.graph_runs.specs.Answers.{Answer, after_answer, makes, turn_up_to}
use Rattle.graph_runs.specs.Feeds.{Call, Continues, IsOpenAt, call_of, hungers}
use Rattle.graph_runs.specs.Moments.{HasAnsweredNone, Moment, started}
use Rattle.graph_runs.specs.NextBlocks.{MaySize, block_up_to}
use Rattle.graph_runs.specs.Nexts as nexts
use Rattle.graph_runs.specs.Settled.{IsFaultAt, IsReady}
use Rattle.graph_runs.specs.Nexts.{Next, is_live, next_of}
use Rattle.stream_job.specs.InRange.{is_held_up, stands_before}
use Rattle.stream_job.specs.Machines.{IsMachineAt, KeepsLines}
use Rattle.stream_job.specs.SinkLines.{kept_by}
use Rattle.stream_job.specs.declared.input.Input.{Input}
use Rattle.stream_lists.specs.declared.sample_counts.TheConstants.{COUNT_MAX}
use Rattle.stream_job.specs.declared.input.TheConstants.{INPUT_ROOM}
use Rattle.stream_job.specs.declared.machine.Machine.{Machine}
use Rattle.stream_job.specs.declared.sink_lines.TheConstants.{LINE_ROOM}
use Rattle.stream_job.specs.declared.stopped.Stopped.{Stopped}
use Rattle.stream_job.specs.declared.stopped.Stopped.TheVariants as stopped

-- a job that lends its graph, the machine, what waits of each source's samples, and where a value
-- was out of range
pub record StreamState : Type 0 where
  pub job : Job
  pub machine : Machine
  pub inputs : List Input
  pub met : Option Where

-- ---- samples

-- all samples that came so far, where these came to those of a source
abbrev pub fed : List (List ℤ) → ℕ → List ℤ → List (List ℤ)
fed s source xs = set s source (get_or s source [] ++ xs)

-- whether no more samples come for source number k
abbrev pub has_ended : List Input → ℕ → Bool
has_ended inputs k = of (slice_get inputs k)
  where
    of : Option Input → Bool
    of None = true
    of (Some input) = input.ended

-- the same of task t
abbrev pub ended_at : StreamState → ℕ → Bool
ended_at stream t = has_ended stream.inputs (source_number stream.job.graph.tasks t)

-- an input keeps of these samples those that are still to be signalled after so many steps
pub record InputKeeps (input : Input) (begun : ℕ) (xs : List ℤ) : Type 0 where
  pub early : input.from ≤ begun
  pub kept : input.values.items ≡ drop input.from xs
  pub sends : AreSends xs
  pub few : length xs ≤ COUNT_MAX
  pub begun_few : begun ≤ length xs

-- the inputs do so at a moment
abbrev pub AreKept : Job → List (List ℤ) → Moment → List Input → Type 0
AreKept job s m inputs = (t : ℕ) (input : Input) → t < length job.graph.tasks
    → (task_at job.graph t).kind ≡ Source
    → slice_get inputs (source_number job.graph.tasks t) ≡ Some input
    → InputKeeps input (m.begun t) (samples_in job s t)

-- how many samples a feed takes, where so many came, of which so many were signalled, and so many
-- are fed
abbrev pub feed_takes : ℕ → ℕ → ℕ → ℕ
feed_takes came begun many =
    min many (min (INPUT_ROOM - (came - begun)) (COUNT_MAX - came))

-- task t is the source of this number
pub record IsSourceAt (job : Job) (t source : ℕ) : Type 0 where
  pub there : t < length job.graph.tasks
  pub kind : (task_at job.graph t).kind ≡ Source
  pub number : source_number job.graph.tasks t ≡ source

-- ---- feeds

-- a feed of so many samples to a source takes this many of them
abbrev pub FeedTakes : StreamState → List (List ℤ) → Moment → ℕ → ℕ → ℕ → Type 0
FeedTakes stream s m source many took = (t : ℕ) → t < length stream.job.graph.tasks
    → (task_at stream.job.graph t).kind ≡ Source
    → source_number stream.job.graph.tasks t ≡ source
    → took ≡ (if is_some stream.met || has_ended stream.inputs source then 0
    else feed_takes (length (samples_in stream.job s t)) (m.begun t) many)

-- but for what waits of its sources' samples, a stream is as it was
pub record IsSameBut (old new : StreamState) : Type 0 where
  pub job : new.job ≡ old.job
  pub machine : new.machine ≡ old.machine
  pub met : new.met ≡ old.met

-- but for where it met a value out of range
pub record IsSameRun (old new : StreamState) : Type 0 where
  pub job : new.job ≡ old.job
  pub machine : new.machine ≡ old.machine
  pub inputs : new.inputs ≡ old.inputs

-- a source has ended, and of the others those that had
abbrev pub ended_with : List Input → ℕ → ℕ → Bool
ended_with inputs source k = k == source || has_ended inputs k

-- no samples came
abbrev pub none_came : Job → List (List ℤ)
none_came job = map (λ k. []) (range_with_len 0 (sources_of job.graph))

-- ---- moments

-- the stream stands for these samples, this moment, and what each sink has handed over
pub record IsStreamAt (stream : StreamState) (s : List (List ℤ)) (m : Moment)
    (given : ℕ → List ℤ) : Type 0 where
  pub each : length s ≡ sources_of stream.job.graph
  pub machine : IsMachineAt (with_samples s stream.job) m stream.machine
  pub lines : KeepsLines stream.job given m stream.machine.lines.items
  pub kept : AreKept stream.job s m stream.inputs
  pub stays_open : IsOpenAt (with_samples s stream.job) (ended_at stream) m
  -- no task has taken a value out of range
  pub none : HasAnsweredNone (with_samples s stream.job) m
  -- one that was met is so in every job that goes on so
  pub faults : (at : Where) (more : List (List ℤ)) → stream.met ≡ Some at
      → Continues (with_samples s stream.job) m more → IsReady (with_samples more stream.job)
      → IsFaultAt (started (with_samples more stream.job) m) at

-- ---- stops

-- how many values the line of task t may have
abbrev pub line_room : Job → ℕ → ℕ
line_room job t = max LINE_ROOM (task_at job.graph t).block

-- whether a sink that waits next has no room for its next block of at most so many steps
abbrev pub is_full_by : ℕ → Job → Moment → (ℕ → List ℤ) → ℕ → Bool
is_full_by steps job m given t = of (next_of job m t)
  where
    of : Next → Bool
    of (nexts.waits k) =
        is_sink_at job t
        && nat_lt (line_room job t)
        (length (kept_by job m t) - length (given t) + block_up_to steps job m t)
    of next = false

-- for a block of its line
abbrev pub is_full : Job → Moment → (ℕ → List ℤ) → ℕ → Bool
is_full job m given t = is_full_by (task_at job.graph t).block job m given t

-- whether a source waits for a sample
abbrev pub is_hungry : Job → (ℕ → Bool) → Moment → ℕ → Bool
is_hungry job ended m t = of (call_of job ended m t)
  where
    of : Call → Bool
    of hungers = true
    of call = false

-- whether task t makes no event now: it is not live, its turn would be blocked, which signals all
-- that it owes, or all that it owes before a value out of range, it waits for a sample, or it has
-- no room
abbrev pub rests : Job → (ℕ → Bool) → Moment → (ℕ → List ℤ) → ℕ → Bool
rests job ended m given t = is_held_up job m t || is_hungry job ended m t || is_full job m given t

-- the numbers of all tasks
abbrev pub all_tasks : Job → List ℕ
all_tasks job = range_with_len 0 (length job.graph.tasks)

-- the first sink that has no room
abbrev pub first_full : Job → Moment → (ℕ → List ℤ) → Option ℕ
first_full job m given = find (is_full job m given) (all_tasks job)

-- the first source that waits for a sample
abbrev pub first_hungry : Job → (ℕ → Bool) → Moment → Option ℕ
first_hungry job ended m = find (is_hungry job ended m) (all_tasks job)

-- some task is live
abbrev pub is_some_live : Job → Moment → Bool
is_some_live job m = list_any (is_live job m) (all_tasks job)

-- why it stops, where the first sink without room is this task, and the first source that waits for
-- a sample this one
abbrev pub stop_by : Job → Option ℕ → Option ℕ → Bool → Stopped → Type 0
stop_by job (Some t) hungry live (stopped.Full sink) = slice_get (sinks_of job) sink ≡ Some t
stop_by job None (Some t) live (stopped.Hungry source) =
    source_number job.graph.tasks t ≡ source
stop_by job None None true stopped.Stalled = Unit {0}
stop_by job None None false stopped.Done = Unit {0}
stop_by job full hungry live stop = ⊥

-- each of n tasks rests, or stands before a value out of range
abbrev pub EachStands : (ℕ → Bool) → (ℕ → Option Where) → ℕ → Type 0
EachStands rest before n = (t : ℕ) → t < n → rest t ≡ false → is_some (before t) ≡ true

-- the first of n tasks that does not rest stands before this one
pub record FirstStands (rest : ℕ → Bool) (before : ℕ → Option Where) (n : ℕ) (at : Where) : Type 0
  where
    pub task : ℕ
    pub there : task < n
    pub first : (t : ℕ) → t < task → rest t ≡ true
    pub is : before task ≡ Some at

-- where a value out of range is told, no task makes an event but those that stand before one, it is
-- the one that the first of these stands before, and no sink is without room
pub record Meets (job : Job) (ended : ℕ → Bool) (m : Moment) (given : ℕ → List ℤ) (at : Where)
    : Type 0 where
  pub each : EachStands (rests job ended m given) (stands_before job m) (length job.graph.tasks)
  pub first : FirstStands (rests job ended m given) (stands_before job m)
      (length job.graph.tasks) at
  pub room : first_full job m given ≡ None

-- no value was out of range, and no task makes an event now
pub record Rests (stream : StreamState) (s : List (List ℤ)) (m : Moment) (given : ℕ → List ℤ)
    : Type 0 where
  pub none : stream.met ≡ None
  pub rest : let job = with_samples s stream.job in
      list_all (rests job (ended_at stream) m given) (all_tasks job) ≡ true

-- none was, and each task that makes one would stand before a value out of range
pub record AllStand (stream : StreamState) (s : List (List ℤ)) (m : Moment) (given : ℕ → List ℤ)
    : Type 0 where
  pub none : stream.met ≡ None
  pub each : let job = with_samples s stream.job in
      EachStands (rests job (ended_at stream) m given) (stands_before job m)
      (length job.graph.tasks)

-- none was, and some task makes one
pub record MayMove (stream : StreamState) (s : List (List ℤ)) (m : Moment) (given : ℕ → List ℤ)
    : Type 0 where
  pub none : stream.met ≡ None
  pub moves : let job = with_samples s stream.job in
      list_all (rests job (ended_at stream) m given) (all_tasks job) ≡ false

-- it stops so at a moment: a sink without room is told first, then a value out of range, and then a
-- source that waits for a sample
abbrev pub StreamStopsAt : StreamState → List (List ℤ) → Moment → (ℕ → List ℤ) → Stopped → Type 0
StreamStopsAt stream s m given (stopped.TooBig place phase) = stream.met ≡ Some (place, phase)
StreamStopsAt stream s m given stopped.Paused = MayMove stream s m given
StreamStopsAt stream s m given (stopped.Full sink) =
    let job = with_samples s stream.job in
    AllStand stream s m given
    × stop_by job (first_full job m given) (first_hungry job (ended_at stream) m)
    (is_some_live job m) (stopped.Full sink)
StreamStopsAt stream s m given stop =
    let job = with_samples s stream.job in
    Rests stream s m given
    × stop_by job (first_full job m given) (first_hungry job (ended_at stream) m)
    (is_some_live job m) stop

-- a turn of a task, of at most so many steps, or of at most so many of the values that it owes
pub record SizedTurn : Type 0 where
  pub task : ℕ
  pub steps : ℕ
  pub most : ℕ

-- its sizes are blocks that the line of its task may name
abbrev pub MayTurn : Job → SizedTurn → Type 0
MayTurn job turn = MaySize job.graph turn.task turn.steps turn.most

-- the moment after such turns, one after the other
abbrev pub after_sized : Job → Moment → List SizedTurn → Moment
after_sized job m [] = m
after_sized job m (turn ∷ turns) =
    after_sized job
    (after_answer job (turn_up_to turn.steps turn.most job m turn.task) m) turns

-- whether an answer is an event
abbrev pub is_event : Answer → Bool
is_event (makes event) = true
is_event answer = false

-- how many of such turns make an event
abbrev pub moves_in : Job → Moment → List SizedTurn → ℕ
moves_in job m [] = 0
moves_in job m (turn ∷ turns) =
    let answer = turn_up_to turn.steps turn.most job m turn.task in
    (if is_event answer then 1 else 0) + moves_in job (after_answer job answer m) turns

-- a stream went on by turns, in which a source, a filter or a sink may make more steps than its
-- line names: for whatever samples came, whatever moment it stood at, and whatever the sinks had
-- handed over, it stands for the same samples at a moment that turns lead to, and no sink has
-- handed over more
pub record StreamGoesOn (old new : StreamState) : Type 0 where
  pub later : (s : List (List ℤ)) (m : Moment) (given : ℕ → List ℤ) → IsStreamAt old s m given
      → (turns : List SizedTurn) × All (MayTurn old.job) turns
      × IsStreamAt new s (after_sized (with_samples s old.job) m turns) given
  pub job : new.job ≡ old.job
  pub inputs : new.inputs ≡ old.inputs

-- it went on so by turns of which so many at least made an event
pub record StreamMoves (least : ℕ) (old new : StreamState) : Type 0 where
  pub later : (s : List (List ℤ)) (m : Moment) (given : ℕ → List ℤ) → IsStreamAt old s m given
      → (turns : List SizedTurn) × All (MayTurn old.job) turns
      × (least ≤ moves_in (with_samples s old.job) m turns)
      × IsStreamAt new s (after_sized (with_samples s old.job) m turns) given
  pub job : new.job ≡ old.job
  pub inputs : new.inputs ≡ old.inputs

-- ---- what holds of every stream

-- no two tasks meet, however many samples come
abbrev pub IsApart : Job → Type 0
IsApart job = (s : List (List ℤ)) → ((t : ℕ) → t < length job.graph.tasks
    → (task_at job.graph t).kind ≡ Source → length (samples_in job s t) ≤ COUNT_MAX)
    → meeting_line (with_samples s job) ≡ None

-- as many samples of each source as there may be
abbrev pub most_of : Graph → List ℕ
most_of graph = replicate (sources_of graph) COUNT_MAX

-- an input has room for all samples that may wait, and for as many that were signalled
abbrev pub HasInputRoom : Input → Type 0
HasInputRoom input = INPUT_ROOM + INPUT_ROOM ≤ vec_capacity input.values

-- an input is that of the source of this number
pub record IsInputOf (job : Job) (k : ℕ) (input : Input) : Type 0 where
  pub there : input.task < length job.graph.tasks
  pub kind : (task_at job.graph input.task).kind ≡ Source
  pub number : source_number job.graph.tasks input.task ≡ k
  pub room : HasInputRoom input

-- there is one for each source
pub record AreInputs (job : Job) (inputs : List Input) : Type 0 where
  pub many : length inputs ≡ sources_of job.graph
  pub each : (k : ℕ) (input : Input) → slice_get inputs k ≡ Some input → IsInputOf job k input
