-- Where the code of a task stands: on which phasers it is registered and which of them it has left,
-- how many steps it has begun, and what its begun steps owe. It changes by events as a function.
use Rattle.std.specs.Prelude.{◌≡◌, ℕ, zero, suc, ◌+◌, ◌<◌, ◌≤◌, ◌%◌, ℤ, pos, ◌*ℤ◌, ◌-ℤ◌, List, [], ◌∷◌, ◌++◌, length, map, take, drop, get_or, slice_get, Option, Some, None, Result, Ok, nat_lt, ◌==◌, if◌then◌else◌}
use Rattle.stream_filters.specs.declared.fault.TooBigValue.{TooBigValue}
use Rattle.stream_filters.specs.Range.{ranged}
pub use Rattle.stream_filters.specs.Filter.{outputs_of_block}
use Rattle.graph_base.specs.declared.line.Kind.{Kind}
use Rattle.graph_base.specs.declared.line.Kind.TheVariants.{Source, Fir, Split, Decimate, Join, Peer, Sink}
use Rattle.graph_base.specs.declared.registration.Registration.{Registration}
use Rattle.graph_base.specs.Graphs.{Task, task_at}
use Rattle.graph_base.specs.Registrations.{no_registration, signalled_by}
use Rattle.stream_lists.specs.Jobs.{Job}
use Rattle.stream_lists.specs.Lists.{number}
use Rattle.graph_runs.specs.Moments.{Moment, made_now}
use Rattle.graph_runs.specs.Moves.{further}
use Rattle.graph_runs.specs.Nexts.{signals, exchanges, in_step, first_owed, has_left, registrations_at}
use Rattle.graph_runs.specs.TaskEvents.{TaskEvent, sample, signal, first_wait, exchange_wait, leave, child, child_now}

-- what the begun steps of a task owe next: nothing; these values on output j, each where it is in
-- range; or a peer's wait on E, with what it took from X
pub data Owed : Type 0 where
  nothing : Owed
  values : (j : ℕ) (vs : List (Result ℤ TooBigValue)) → Owed
  exchange : (x : ℤ) → Owed

-- a task's numbers on the first of its phasers, in the order of its registrations; how many of
-- these phasers it has left; how many steps it has begun; and what it owes
pub record TaskPlace : Type 0 where
  pub numbers : List ℕ
  pub left : ℕ
  pub begun : ℕ
  pub owed : Owed

-- ---- a place at a moment

-- registration i of task t
abbrev pub registration_at : Job → ℕ → ℕ → Registration
registration_at job t i = get_or (registrations_at job t) i no_registration

-- the number of the registration of output j of a task
abbrev pub registration_of_output : Task → ℕ → ℕ
registration_of_output task j = of task.kind
  where
    of : Kind → ℕ
    of Peer = suc j
    of kind = length task.inputs + j

-- what task t owes at a moment, where it makes at most so many steps in one event
abbrev pub OwesUpTo : ℕ → Job → Moment → ℕ → Owed → Type 0
OwesUpTo most job m t nothing = first_owed job m t ≡ None
OwesUpTo most job m t (values j vs) =
    (first_owed job m t ≡ Some j) × (in_step job m t j ≡ signals j)
    × (map ranged (take most (drop (length (m.put t j)) (made_now job m t j))) ≡ vs)
OwesUpTo most job m t (exchange x) =
    (first_owed job m t ≡ Some 1) × (in_step job m t 1 ≡ exchanges)
    × (get_or (m.taken t 0) (length (m.taken t 1)) (pos 0) ≡ x)

-- the same, where it makes at most a block of its line
abbrev pub Owes : Job → Moment → ℕ → Owed → Type 0
Owes job m t = OwesUpTo (task_at job.graph t).block job m t

-- how many values an output lacks of what the begun steps of a task made, where the task owes this:
-- those on the output that is next. While a peer owes its value on E, it lacks one on Y as well
abbrev pub lacking : Kind → Owed → ℕ → ℕ
lacking kind nothing j = 0
lacking kind (values i vs) j = if j == i then length vs else behind kind i j
  where
    behind : Kind → ℕ → ℕ → ℕ
    behind Peer zero (suc j) = 1
    behind kind i j = 0
lacking kind (exchange x) j = if j == 1 then 1 else 0

-- the code of task t, which makes at most so many steps in one event, stands at this place
pub record StandsUpTo (most : ℕ) (job : Job) (m : Moment) (t : ℕ) (at : TaskPlace) : Type 0 where
  pub few : length at.numbers ≤ length (registrations_at job t)
  pub few_left : at.left ≤ length at.numbers
  pub numbered : (i : ℕ) → i < length (registrations_at job t)
      → m.number (registration_at job t i).phaser t ≡ slice_get at.numbers i
  pub leaves : (i : ℕ) → i < length at.numbers
      → has_left m t (registration_at job t i) ≡ nat_lt i at.left
  pub begun : m.begun t ≡ at.begun
  pub owes : OwesUpTo most job m t at.owed
  pub lacks : (j : ℕ) → j < length (signalled_by (task_at job.graph t))
      → length (made_now job m t j)
      ≡ length (m.put t j) + lacking (task_at job.graph t).kind at.owed j

-- the same, where it makes at most a block of its line
abbrev pub StandsAt : Job → Moment → ℕ → TaskPlace → Type 0
StandsAt job m t at = StandsUpTo (task_at job.graph t).block job m t at

-- the place of a task that has done nothing
abbrev pub at_start : List ℕ → TaskPlace
at_start numbers = record { numbers = numbers; left = 0; begun = 0; owed = nothing }

-- ---- how events change it

-- what a task owes after the first wait of its next steps, which got these numbers: one number
-- where a block is a step. It began so many steps before it, and has taken these values from its
-- input. A decimator owes the number of the first of each so many steps
abbrev pub owed_after_wait : Task → ℕ → List ℤ → List ℤ → Owed
owed_after_wait task begun taken xs = of task.kind
  where
    of : Kind → Owed
    of Fir = values 0 (map ranged (outputs_of_block task.taps task.form taken xs))
    of Split = values (begun % length task.outputs) (map (λ x. Ok x) xs)
    of Decimate = if begun % task.every == 0 then values 0 (map (λ x. Ok x) xs) else nothing
    of Join = values 0 (map (λ x. Ok x) xs)
    of Peer = values 0 (map (λ x. Ok x) xs)
    of Source = nothing
    of Sink = nothing

-- what a task owes after it has signalled this on output j: a peer that has signalled E waits there
abbrev pub owed_after_signal : Task → ℕ → List ℤ → Owed
owed_after_signal task j xs = of task.kind j xs
  where
    of : Kind → ℕ → List ℤ → Owed
    of Peer zero (x ∷ []) = exchange x
    of kind j xs = nothing

-- what a peer owes that has got this number on E
abbrev pub owed_after_exchange : Task → Owed → ℤ → Owed
owed_after_exchange task (exchange x) e = values 1 (ranged ((task.mul *ℤ x) -ℤ e) ∷ [])
owed_after_exchange task nothing e = nothing
owed_after_exchange task (values j vs) e = nothing

-- the place of a task after its own event, at the moment before
abbrev pub own_place : Job → Moment → TaskEvent → TaskPlace → TaskPlace
own_place job m (sample t j p n vs) at = record at { begun = further at.begun vs }
own_place job m (signal t j p n vs) at =
    record at { owed = owed_after_signal (task_at job.graph t) j vs }
own_place job m (first_wait t k p n outcomes) at =
    record at {
      begun = further at.begun outcomes;
      owed = owed_after_wait (task_at job.graph t) at.begun (m.taken t 0) (map number outcomes);
    }
own_place job m (exchange_wait t p n outcome) at =
    record at { owed = owed_after_exchange (task_at job.graph t) at.owed (number outcome) }
own_place job m (leave t p n) at = record at { left = suc at.left }
own_place job m (child t p n c a mode) at = at
own_place job m (child_now t p n c a) at = at

-- the place of task c after it was registered as number a
abbrev pub child_place : ℕ → TaskPlace → TaskPlace
child_place a at = record at { numbers = at.numbers ++ a ∷ [] }

-- the task that an event registers, where it registers one
abbrev pub child_of : TaskEvent → Option ℕ
child_of (child t p n c a mode) = Some c
child_of (child_now t p n c a) = Some c
child_of event = None

-- the number that it gives to this task
abbrev pub number_given : TaskEvent → Option ℕ
number_given (child t p n c a mode) = Some a
number_given (child_now t p n c a) = Some a
number_given event = None
