-- Steps of a splitter, a decimator or a joiner, several in a row.
use Rattle.std.specs.Prelude.{◌≡◌, ◌≢◌, ℕ, ◌≤◌, ℤ, List, [], ◌∷◌, Bool, true, false, Some, None, length, slice_get}
use Rattle.graph_base.specs.declared.line.Kind.{Kind}
use Rattle.graph_base.specs.declared.line.Kind.TheVariants.{Split, Decimate, Join}
use Rattle.graph_base.specs.Graphs.{task_at}
use Rattle.stream_lists.specs.Jobs.{Job, with_samples}
use Rattle.stream_lists.specs.Lists.{is_sink_at}
use Rattle.stream_lists.specs.Ranges.{Where}
use Rattle.graph_runs.specs.Answers.{TooBig, makes, tells_up_to, turn_up_to}
use Rattle.graph_runs.specs.Moments.{Moment, first_input}
use Rattle.graph_runs.specs.NextBlocks.{MaySize}
use Rattle.graph_runs.specs.Nexts.{first_due, is_cut, is_live}
use Rattle.graph_runs.specs.TaskEvents.{TaskEvent, after_turn, first_wait, signal}
use Rattle.graph_runs.specs.TaskPlaces.{nothing}
use Rattle.stream_job.specs.Machines.{IsMachineAt}
use Rattle.stream_job.specs.Places.{owed_in}
use Rattle.stream_job.specs.declared.machine.Machine.{Machine}
use Rattle.stream_job.specs.declared.task_state.TaskState.{TaskState}

-- whether each step of a task of this kind is a wait and one signal at most, and no block: of a
-- splitter, a decimator and a joiner
abbrev pub goes_by_steps : Kind → Bool
goes_by_steps Split = true
goes_by_steps Decimate = true
goes_by_steps Join = true
goes_by_steps kind = false

-- whether an event is the wait of a step, or a signal of what it made
abbrev pub is_of_step : TaskEvent → Bool
is_of_step (first_wait t k p n outcomes) = true
is_of_step (signal t j p n vs) = true
is_of_step event = false

-- a turn of task t, which is no sink, makes this event of a step, and takes no value out of range
pub record IsPartOfStep (job : Job) (m : Moment) (t : ℕ) (event : TaskEvent) : Type 0 where
  pub steps : ℕ
  pub most : ℕ
  pub sized : MaySize job.graph t steps most
  pub answer : turn_up_to steps most job m t ≡ makes event
  pub good : (at : Where) → tells_up_to steps most job m t ≢ Some (TooBig at)
  pub of_step : is_of_step event ≡ true
  pub no_sink : is_sink_at job t ≡ false

-- such events of task t, one after the other, lead from a moment to this one
abbrev pub LeadTo : Job → ℕ → Moment → List TaskEvent → Moment → Type 0
LeadTo job t m [] after = m ≡ after
LeadTo job t m (event ∷ events) after =
    IsPartOfStep job m t event × LeadTo job t (after_turn job event m) events after

-- the machine stands at a moment to which such events of task t led, where so it is said by some
pub record HasMadeSteps (job : Job) (t : ℕ) (m : Moment) (new : Machine) (moved : Bool)
    : Type 0 where
  pub events : List TaskEvent
  pub after : Moment
  pub lead : LeadTo job t m events after
  pub some : moved ≡ true → 1 ≤ length events
  pub stands : IsMachineAt job after new

-- whatever samples came, and whatever moment it stood at
abbrev pub MakesSteps : Job → Machine → Machine → ℕ → Bool → Type 0
MakesSteps job old new t moved = (s : List (List ℤ)) (m : Moment)
    → IsMachineAt (with_samples s job) m old → HasMadeSteps (with_samples s job) t m new moved

-- task t, which goes by steps, is live, has left no phaser, owes nothing, has no child that is due,
-- and may make a step, which waits on input k
pub record MayStepFrom (job : Job) (machine : Machine) (m : Moment) (t k : ℕ) : Type 0 where
  pub by_steps : goes_by_steps (task_at job.graph t).kind ≡ true
  pub live : is_live job m t ≡ true
  pub staying : (state : TaskState) → slice_get machine.tasks.items t ≡ Some state
      → state.left ≡ 0
  pub nothing : (state : TaskState) → slice_get machine.tasks.items t ≡ Some state
      → owed_in state.owed state.made.items ≡ nothing
  pub none_due : first_due job m t ≡ None
  pub uncut : is_cut (task_at job.graph t).until (m.begun t) ≡ false
  pub first : k ≡ first_input (task_at job.graph t) (m.begun t)
