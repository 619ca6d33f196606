-- A moment of a run of a graph: what has happened on each phaser, and how far each task has come.
-- It knows no time, no turns and no threads: `HasRun` is what holds of it after any events that the
-- tasks have made in the order of their own steps.
use Rattle.std.specs.Prelude.{◌≡◌, ℕ, suc, ◌+◌, ◌<◌, ◌≤◌, ◌%◌, ℤ, List, [], ◌∷◌, length, map, take, drop, get_or, Option, Some, None, Bool, true, false, ◌⊎◌}
use Rattle.std.specs.List.{range_with_len, filter_map, All}
use mathlib.Core.List.{IsPrefix}
use Rattle.phase_base.specs.Limits.{Limits, limits}
use Rattle.phase_base.specs.declared.limits.TheConstants.{PHASES_MAX}
use Rattle.phase_base.specs.Modes.{mode_signals, mode_waits}
use Rattle.phase_base.specs.declared.entry.Entry.{Entry}
use Rattle.phase_accum.specs.declared.outcome.Outcome.{Outcome}
use Rattle.phase_history.specs.declared.event.Event.TheVariants.{Waited}
use Rattle.phase_history.specs.Histories.{History, done_of, start_of, has_dropped, wait_phase, HasNoSignaller}
use Rattle.phase_history.specs.Phases.{received_by, stream_of}
use Rattle.phase_history.specs.Legal.{IsLegal}
use Rattle.phase_history.specs.Others.{IsUsed}
use Rattle.phase_base.specs.Lists.{is_in}
use Rattle.phase_history.specs.Sent.{sent_by, NamesAll, IsSilent}
use Rattle.graph_base.specs.declared.line.Kind.{Kind}
use Rattle.graph_base.specs.declared.line.Kind.TheVariants.{Source, Join, Peer}
use Rattle.graph_base.specs.declared.line.Parent.{Parent}
use Rattle.graph_base.specs.Graphs.{Task, task_at, phaser_at}
use Rattle.stream_lists.specs.Jobs.{Job, samples_at, index_in, with_starts}
use Rattle.stream_lists.specs.Spans.{signalled_by, takes_from}
use Rattle.stream_lists.specs.Lists.{value_by, number, output_list}
use Rattle.stream_lists.specs.Ranges.{is_too_big}

-- one send a signal
abbrev pub one : ℤ → List ℤ
one v = v ∷ []

-- the history of each phaser; the number of each task on each phaser where it is registered; and of
-- each task the phase at which it began, how many steps it has begun, what it has taken from each
-- input, and what it has put on each output
pub record Moment : Type 0 where
  pub history : ℕ → History
  pub number : ℕ → ℕ → Option ℕ
  pub offset : ℕ → ℕ
  pub begun : ℕ → ℕ
  pub taken : ℕ → ℕ → List ℤ
  pub put : ℕ → ℕ → List ℤ

-- the phaser that is input number k of a line
abbrev pub input_at : Task → ℕ → ℕ
input_at task k = get_or task.inputs k 0

-- what a task has taken from each input
abbrev pub taken_now : Moment → Task → ℕ → List (List ℤ)
taken_now m task t = map (m.taken t) (range_with_len 0 (length task.inputs))

-- all that its begun steps put on output number j, over what it has taken
abbrev pub made_now : Job → Moment → ℕ → ℕ → List ℤ
made_now job m t j =
    let task = task_at job.graph t in
    output_list (samples_at job t) (taken_now m task t) task (m.begun t) j

-- the limits of a graph's phaser
abbrev pub limits_at : Job → ℕ → Limits
limits_at job p = limits (phaser_at job.graph p).bound PHASES_MAX

-- the value of a list of sends on a phaser
abbrev pub value_at : Job → ℕ → List ℤ → Outcome
value_at job p = value_by (phaser_at job.graph p).op

-- the numbers on phaser p of the tasks that are registered there, in the order of the lines
abbrev pub numbers_on : Job → Moment → ℕ → List ℕ
numbers_on job m p = filter_map (m.number p) (range_with_len 0 (length job.graph.tasks))

-- task t is registered on some phaser
abbrev pub IsRegistered : Moment → ℕ → Type 0
IsRegistered m t = (p : ℕ) × (n : ℕ) × (m.number p t ≡ Some n)

-- the job whose sinks that join now begin where they do at a moment
abbrev pub started : Job → Moment → Job
started job m = with_starts (map m.offset (range_with_len 0 (length job.graph.tasks))) job

-- ---- one phaser

-- phaser p: its history is legal, each signal names its single, its tasks have numbers of their own
-- that were used there, and nobody else has signalled
pub record PhaserRan (job : Job) (m : Moment) (p : ℕ) : Type 0 where
  pub legal : IsLegal (limits_at job p) (m.history p)
  pub names : NamesAll (phaser_at job.graph p).single (m.history p)
  pub distinct : (t u n : ℕ) → t < length job.graph.tasks → u < length job.graph.tasks
      → m.number p t ≡ Some n → m.number p u ≡ Some n → t ≡ u
  pub used : (t n : ℕ) → m.number p t ≡ Some n → IsUsed (m.history p) n
  pub strangers : (n : ℕ) → is_in n (numbers_on job m p) ≡ false → IsSilent (m.history p) n

-- ---- one task

-- input number k has ended: its phaser has no signaller and no further phase
abbrev pub RanOut : Moment → Task → ℕ → ℕ → Type 0
RanOut m task t k =
    HasNoSignaller (m.history (input_at task k))
    × (done_of (m.history (input_at task k)) ≤ m.offset t + length (m.taken t k))

-- the input that step i waits for first
abbrev pub first_input : Task → ℕ → ℕ
first_input task i = of task.kind
  where
    of : Kind → ℕ
    of Join = i % length task.inputs
    of kind = 0

-- why a task makes no further step: `until`, no sample, or the input that its next step would wait
-- for first has ended
pub data MayStop (m : Moment) (task : Task) (t samples : ℕ) : Type 0 where
  at_until : task.until ≡ Some (m.begun t) → MayStop m task t samples
  no_sample : task.kind ≡ Source → samples ≤ m.begun t → MayStop m task t samples
  no_input : (task.kind ≡ Source → ⊥) → RanOut m task t (first_input task (m.begun t))
      → MayStop m task t samples

-- task t has come to the end of its last step: all that its steps put is put, and it makes no more
pub record HasEnded (job : Job) (m : Moment) (t : ℕ) : Type 0 where
  pub all_put : (j : ℕ) → j < length (signalled_by (task_at job.graph t))
      → m.put t j ≡ made_now job m t j
  pub may_end : MayStop m (task_at job.graph t) t (length (samples_at job t))

-- task t as number n on phaser p, which is its output number j
pub record OnOutput (job : Job) (m : Moment) (t j p n : ℕ) : Type 0 where
  pub start : Entry
  pub start_is : start_of (m.history p) n ≡ Some start
  pub signals : mode_signals start.mode ≡ true
  pub at : start.signal_phase ≡ m.offset t
  pub sent : sent_by (m.history p) n ≡ map one (m.put t j)
  pub left : has_dropped (m.history p) n ≡ true → HasEnded job m t

-- task t as number n on phaser p, which is its input number k
pub record OnInput (job : Job) (m : Moment) (t k p n : ℕ) : Type 0 where
  pub start : Entry
  pub start_is : start_of (m.history p) n ≡ Some start
  pub waits : mode_waits start.mode ≡ true
  pub at : start.wait_phase ≡ m.offset t
  pub taken : m.taken t k ≡ map number (received_by (value_at job p) (m.history p) n)
  pub left : has_dropped (m.history p) n ≡ true → HasEnded job m t

-- where a child begins: at its parent's boundary, or, where it joins now, there or later
abbrev pub BeginsBy : Bool → ℕ → ℕ → Type 0
BeginsBy false offset boundary = offset ≡ boundary
BeginsBy true offset boundary = boundary ≤ offset

-- where a task begins: at phase 0, or as a child where its parent had begun `at` steps
abbrev pub Joined : Moment → ℕ → Bool → Option Parent → Type 0
Joined m t now None = m.offset t ≡ 0
Joined m t now (Some parent) =
    BeginsBy now (m.offset t) (m.offset parent.task + parent.at)
    × (parent.at ≤ m.begun parent.task) × IsRegistered m parent.task

-- of a child that is not registered on phaser p, where its parent is as number n: the parent has
-- begun at most the steps after which the child comes, and fewer where it has left
pub record HasNotPassed (m : Moment) (p n : ℕ) (parent : Parent) : Type 0 where
  pub early : m.begun parent.task ≤ parent.at
  pub ended : has_dropped (m.history p) n ≡ true → m.begun parent.task < parent.at

-- phaser p stands on a task's line
abbrev pub OnLine : Task → ℕ → Type 0
OnLine task p =
    ((j : ℕ) × (index_in (signalled_by task) p ≡ Some j))
    ⊎ ((k : ℕ) × (k < length task.inputs) × (input_at task k ≡ p))

-- a task with a parent, which alone may be missing
abbrev pub IsChild : Option Parent → Type 0
IsChild None = ⊥
IsChild (Some parent) = Unit {0}

-- task t on phaser p, which is its output number j, where it is registered there and where not
abbrev pub PutOn : Job → Moment → ℕ → ℕ → ℕ → Option ℕ → Type 0
PutOn job m t j p None = IsChild (task_at job.graph t).parent
PutOn job m t j p (Some n) = OnOutput job m t j p n

-- the same of its input number k
abbrev pub TakenOn : Job → Moment → ℕ → ℕ → ℕ → Option ℕ → Type 0
TakenOn job m t k p None = (m.taken t k ≡ []) × IsChild (task_at job.graph t).parent
TakenOn job m t k p (Some n) = OnInput job m t k p n

-- a task on a phaser that it does not signal
abbrev pub SilentOn : Moment → ℕ → Option ℕ → Type 0
SilentOn m p None = Unit {0}
SilentOn m p (Some n) = IsSilent (m.history p) n

-- a task on a phaser, by its place among those that the task signals
abbrev pub OnPhaser : Job → Moment → ℕ → ℕ → Option ℕ → Type 0
OnPhaser job m t p None = SilentOn m p (m.number p t)
OnPhaser job m t p (Some j) = PutOn job m t j p (m.number p t)

-- a number is at most a limit, where there is one
abbrev pub AtMost : ℕ → Option ℕ → Type 0
AtMost n None = Unit {0}
AtMost n (Some limit) = n ≤ limit

-- how many values a task has taken from input number k: as many as its begun steps take, but that
-- a peer may be between its two waits
abbrev pub HasTaken : Task → ℕ → ℕ → ℕ → Type 0
HasTaken task begun k taken = of task.kind k
  where
    of : Kind → ℕ → Type 0
    of Source k = Unit {0}
    of Peer (suc k) = (taken ≤ begun) × (begun ≤ taken + 1)
    of kind k = taken ≡ takes_from task begun k

-- a source has begun no step without a sample
abbrev pub HasSamples : Kind → ℕ → ℕ → Type 0
HasSamples Source begun samples = begun ≤ samples
HasSamples kind begun samples = Unit {0}

-- a peer has put no more on Y, its output number 1, than it has taken from E, its input number 1
abbrev pub HasExchanged : Kind → ℕ → ℕ → ℕ → Type 0
HasExchanged Peer (suc j) put taken = put ≤ taken
HasExchanged kind j put taken = Unit {0}

-- what a task has done so far: each signal carries the output of its kind for what it has taken
-- before
pub record TaskRan (job : Job) (m : Moment) (t : ℕ) : Type 0 where
  pub puts : (j : ℕ) → j < length (signalled_by (task_at job.graph t))
      → IsPrefix (m.put t j) (made_now job m t j)
  pub exchanged : (j : ℕ)
      → HasExchanged (task_at job.graph t).kind j (length (m.put t j)) (length (m.taken t 1))
  pub takes : (k : ℕ) → k < length (task_at job.graph t).inputs
      → HasTaken (task_at job.graph t) (m.begun t) k (length (m.taken t k))
  pub samples : HasSamples (task_at job.graph t).kind (m.begun t) (length (samples_at job t))
  pub cut : AtMost (m.begun t) (task_at job.graph t).until
  -- it is registered on phasers of its line alone
  pub lines : (p n : ℕ) → m.number p t ≡ Some n → OnLine (task_at job.graph t) p
  pub outputs : (p : ℕ) → p < length job.graph.phasers
      → OnPhaser job m t p (index_in (signalled_by (task_at job.graph t)) p)
  pub inputs : (k : ℕ) → k < length (task_at job.graph t).inputs
      → TakenOn job m t k (input_at (task_at job.graph t) k)
      (m.number (input_at (task_at job.graph t) k) t)
  pub joined : (p n : ℕ) → m.number p t ≡ Some n
      → Joined m t (task_at job.graph t).joins_now (task_at job.graph t).parent
  -- its children, on a phaser where it is itself registered and they are not
  pub children : (c p n : ℕ) (u : Parent) → c < length job.graph.tasks
      → (task_at job.graph c).parent ≡ Some u → u.task ≡ t
      → m.number p t ≡ Some n → m.number p c ≡ None → OnLine (task_at job.graph c) p
      → HasNotPassed m p n u

-- ---- the whole

-- a moment of a run: each phaser and each task is as the events so far have left it
pub record HasRun (job : Job) (m : Moment) : Type 0 where
  pub phasers : (p : ℕ) → p < length job.graph.phasers → PhaserRan job m p
  pub tasks : (t : ℕ) → t < length job.graph.tasks → TaskRan job m t

-- the run is over: each task that was registered has left, and no phaser has a signaller
pub record IsOver (job : Job) (m : Moment) : Type 0 where
  pub quiet : (p : ℕ) → p < length job.graph.phasers → HasNoSignaller (m.history p)
  pub gone : (p t n : ℕ) → t < length job.graph.tasks → m.number p t ≡ Some n
      → has_dropped (m.history p) n ≡ true

-- no registered task has got a value that is too big
abbrev pub HasMetNone : Job → Moment → Type 0
HasMetNone job m = (p t n : ℕ) → p < length job.graph.phasers → t < length job.graph.tasks
    → m.number p t ≡ Some n
    → All (λ outcome. is_too_big outcome ≡ false) (received_by (value_at job p) (m.history p) n)

-- no wait of this history was answered a value that is too big
abbrev pub AnsweredNone : (List ℤ → Outcome) → History → Type 0
AnsweredNone value [] = Unit {0}
AnsweredNone value (Waited task phases ∷ before) =
    All (λ outcome. is_too_big outcome ≡ false)
    (take phases (drop (wait_phase before task) (stream_of value before)))
    × AnsweredNone value before
AnsweredNone value (event ∷ before) = AnsweredNone value before

-- no wait of this history but its last event was
abbrev pub AnsweredNoneBefore : (List ℤ → Outcome) → History → Type 0
AnsweredNoneBefore value [] = Unit {0}
AnsweredNoneBefore value (event ∷ before) = AnsweredNone value before

-- no wait of a run was answered a value that is too big
abbrev pub HasAnsweredNone : Job → Moment → Type 0
HasAnsweredNone job m = (p : ℕ) → p < length job.graph.phasers
    → AnsweredNone (value_at job p) (m.history p)

-- on each phaser no wait was, but for the last event there
abbrev pub HasAnsweredNoneBefore : Job → Moment → Type 0
HasAnsweredNoneBefore job m = (p : ℕ) → p < length job.graph.phasers
    → AnsweredNoneBefore (value_at job p) (m.history p)
