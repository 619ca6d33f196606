-- The moments that a machine stands for, and what the lines of its sinks keep.
use Rattle.std.specs.Prelude.{◌≡◌, ℕ, ℤ, zero, suc, ◌+◌, ◌<◌, ◌≤◌, List, [], ◌++◌, Bool, true, ◌||◌, Option, Some, None, is_some, if◌then◌else◌, length, map, slice_get, drop, vec_capacity}
use Rattle.phase_history.specs.Histories.{History, greatest_used}
use Rattle.graph_base.specs.Graphs.{phaser_at, task_at}
use Rattle.graph_base.specs.declared.line.Kind.TheVariants.{Source}
use Rattle.graph_base.specs.TaskLines.{IsGraph}
use Rattle.stream_lists.specs.Jobs.{Job, least, samples_in, with_samples}
use Rattle.stream_lists.specs.Lists.{sinks_of}
use Rattle.stream_lists.specs.Meetings.{meeting_line}
use Rattle.stream_lists.specs.Spans.{span_in}
use Rattle.stream_eval.specs.declared.whole.Lines.{Lines}
use Rattle.graph_runs.specs.Moments.{Moment, limits_at}
use Rattle.phase_accum.specs.Sends.{AreSends}
use Rattle.phase_any.specs.Phasers.{PhaserStandsFor}
use Rattle.phase_any.specs.declared.any_phaser.AnyPhaser.{AnyPhaser}
use Rattle.graph_runs.specs.Reached.{IsReachable}
use Rattle.graph_runs.specs.Nexts as turns
use Rattle.stream_job.specs.Places.{IsTaskAt}
use Rattle.stream_job.specs.SinkLines.{kept_by, sink_begins_at}
use Rattle.stream_job.specs.declared.machine.Machine.{Machine}
use Rattle.stream_job.specs.declared.step.Step.{Step}
use Rattle.stream_job.specs.declared.step.Step.TheVariants as step
use Rattle.stream_job.specs.declared.task_state.TaskState.{TaskState}

-- the cores of a graph's phasers have these histories
pub record HasCores (job : Job) (history : ℕ → History) (cores : List AnyPhaser) : Type 0 where
  pub many : length cores ≡ length job.graph.phasers
  pub each : (p : ℕ) (core : AnyPhaser) → slice_get cores p ≡ Some core
      → PhaserStandsFor core (phaser_at job.graph p).op (limits_at job p) (history p)

-- they have some histories
abbrev pub HasSomeCores : Job → List AnyPhaser → Type 0
HasSomeCores job cores = (history : ℕ → History) × HasCores job history cores

-- how many of the first n tasks have a number
abbrev pub numbered : (ℕ → Option ℕ) → ℕ → ℕ
numbered number zero = 0
numbered number (suc t) = numbered number t + (if is_some (number t) then 1 else 0)

-- on each phaser no more numbers were used than tasks have one there, but for the founder's
abbrev pub UsesFew : Job → Moment → Type 0
UsesFew job m = (p : ℕ) → p < length job.graph.phasers
    → greatest_used (m.history p) ≤ numbered (m.number p) (length job.graph.tasks)

-- how many of the values that task t owes one event of it signals, at most
abbrev pub most_in : Machine → ℕ → ℕ
most_in machine t = of (slice_get machine.tasks.items t)
  where
    of : Option TaskState → ℕ
    of None = 1
    of (Some state) = state.most

-- the machine stands at a moment that turns lead to: each core has the history of its phaser, each
-- task is in its state, and there is a line for each sink
pub record IsMachineAt (job : Job) (m : Moment) (machine : Machine) : Type 0 where
  pub graph : IsGraph job.graph
  pub apart : meeting_line job ≡ None
  pub reached : IsReachable job m
  pub few : UsesFew job m
  pub cores : HasCores job m.history machine.cores.items
  pub tasks_many : length machine.tasks.items ≡ length job.graph.tasks
  pub tasks : (t : ℕ) (state : TaskState) → slice_get machine.tasks.items t ≡ Some state
      → IsTaskAt job m t state
  pub lines_many : length machine.lines.items ≡ length (sinks_of job)

-- each task signals a block of its line in one event, at most
abbrev pub HasLineSizes : Job → Machine → Type 0
HasLineSizes job machine = (t : ℕ) → t < length job.graph.tasks
    → most_in machine t ≡ (task_at job.graph t).block

-- the machine stands at some moment
abbrev pub IsMachine : Job → Machine → Type 0
IsMachine job machine = (m : Moment) × IsMachineAt job m machine

-- at some moment of the machine the task is live
abbrev pub IsLiveIn : Job → Machine → ℕ → Type 0
IsLiveIn job machine t =
    (m : Moment) × IsMachineAt job m machine × (turns.is_live job m t ≡ true)

-- ---- samples of which the machine keeps none

-- the machine stands at some moment of a run of the graph with some samples
abbrev pub IsSome : Job → Machine → Type 0
IsSome job machine = (s : List (List ℤ)) × IsMachine (with_samples s job) machine

-- and there the task is live
abbrev pub IsLiveSome : Job → Machine → ℕ → Type 0
IsLiveSome job machine t = (s : List (List ℤ)) × IsLiveIn (with_samples s job) machine t

-- of these samples task t, where it is a source, has still to signal those that it awaits
abbrev pub AwaitsAt : Job → List (List ℤ) → Moment → ℕ → List ℤ → Type 0
AwaitsAt job s m t awaits = t < length job.graph.tasks → (task_at job.graph t).kind ≡ Source
    → drop (m.begun t) (samples_in job s t) ≡ awaits

-- these may be the samples that came so far, of which task t has still to signal some
pub record MayHaveCome (job : Job) (machine : Machine) (t : ℕ) (rest : List ℤ)
    (s : List (List ℤ)) : Type 0 where
  pub stands : IsMachine (with_samples s job) machine
  pub awaits : (m : Moment) → IsMachineAt (with_samples s job) m machine → AwaitsAt job s m t rest
  pub sends : t < length job.graph.tasks → AreSends (samples_in job s t)

-- ---- the lines of the sinks

-- a sink's line behind what the sink has handed over
abbrev pub kept_behind : (ℕ → List ℤ) → Lines → ℕ × List ℤ
kept_behind given line = (line.task, given line.task ++ line.values.items)

-- nothing was handed over
abbrev pub none_given : ℕ → List ℤ
none_given t = []

-- the sinks keep what they have received, but for what they have handed over, and where they begin
pub record KeepsLines (job : Job) (given : ℕ → List ℤ) (m : Moment) (lines : List Lines) : Type 0
  where
    pub values : map (kept_behind given) lines ≡ map (λ t. (t, kept_by job m t)) (sinks_of job)
    pub starts : map (λ line. line.start) lines ≡ map (sink_begins_at job m) (sinks_of job)

-- a sink's line has so much room
pub record HasRoom (needs : ℕ → ℕ) (line : Lines) : Type 0 where
  pub room : needs line.task ≤ vec_capacity line.values

-- it has room for all that the sink takes in its steps, wherever it begins
abbrev pub IsLineOf : Job → Lines → Type 0
IsLineOf job = HasRoom (λ t. (span_in (least job) t).steps)

-- ---- steps

-- whether a task makes no further step
abbrev pub is_over : Job → Moment → ℕ → Bool
is_over job m t =
    turns.is_cut (task_at job.graph t).until (m.begun t)
    || turns.has_input_ended job m t (task_at job.graph t).kind

-- what a task does next, by the definitions
abbrev pub next_by : Step → turns.Next
next_by step.NotLive = turns.is_not_live
next_by (step.Register child) = turns.registers child
next_by step.Leave = turns.leaves
next_by step.Sample = turns.samples
next_by (step.Signal output) = turns.signals output
next_by (step.Wait input) = turns.waits input
next_by step.Exchange = turns.exchanges
