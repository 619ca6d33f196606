-- The place that the fields of a task's state have.
use Rattle.std.specs.Prelude.{◌≡◌, ◌≢◌, ℕ, ℤ, List, [], ◌∷◌, ◌++◌, ◌+◌, ◌≤◌, length, Some, Result, slice_get}
use Rattle.graph_base.specs.declared.line.Kind.TheVariants.{Fir, Sink}
use Rattle.stream_filters.specs.declared.fault.TooBigValue.{TooBigValue}
use Rattle.graph_base.specs.Graphs.{Task, task_at}
use Rattle.graph_base.specs.TaskLines.{HasBlock}
use Rattle.stream_lists.specs.Jobs.{Job}
use Rattle.stream_lists.specs.Lists.{sinks_of}
use Rattle.graph_runs.specs.Beginnings.{opening}
use Rattle.graph_runs.specs.Moments.{Moment}
use Rattle.graph_runs.specs.NextBlocks.{with_block}
use Rattle.graph_runs.specs.TaskPlaces as turns
use Rattle.graph_runs.specs.TaskPlaces.{TaskPlace, StandsUpTo, owed_after_wait}
use Rattle.graph_runs.specs.declared.owed.Owed.{Owed}
use Rattle.graph_runs.specs.declared.owed.Owed.TheVariants.{Nothing}
use Rattle.graph_runs.specs.Steps.{HasFilter, owed_of}
use Rattle.stream_job.specs.Buffers.{most_steps}
use Rattle.stream_job.specs.declared.task_state.TaskState.{TaskState}

-- what a task owes: the values that its filter has made, where there are some
abbrev pub owed_in : Owed → List (Result ℤ TooBigValue) → turns.Owed
owed_in owed [] = owed_of owed
owed_in owed (v ∷ vs) = turns.values 0 (v ∷ vs)

-- the place of a task in this state
abbrev pub place_in_state : TaskState → TaskPlace
place_in_state state = record {
  numbers = state.numbers.items;
  left = state.left;
  begun = state.begun;
  owed = owed_in state.owed state.made.items;
}

-- one event of task t may signal so many values: a block that its line may name, no less than it
-- names, and no more than a turn has places for
pub record MaySignal (job : Job) (t most : ℕ) : Type 0 where
  pub block : HasBlock job.graph (with_block most (task_at job.graph t))
  pub least : (task_at job.graph t).block ≤ most
  pub few : most ≤ most_steps job t

-- task t stands in this state at a moment
pub record IsTaskAt (job : Job) (m : Moment) (t : ℕ) (state : TaskState) : Type 0 where
  pub stands : StandsUpTo state.most job m t (place_in_state state)
  pub most : MaySignal job t state.most
  -- a number for each registration fits without an allocation
  pub room : 9 ≤ state.numbers.capacity
  pub filter : HasFilter (task_at job.graph t) state.filter (m.taken t 0)
  -- a filter keeps what it owes in its list, which has room for it, and others owe one value
  pub made_room : (task_at job.graph t).kind ≡ Fir → state.most ≤ state.made.cap
  pub made_by : (task_at job.graph t).kind ≡ Fir → state.owed ≡ Nothing
  pub made_none : (task_at job.graph t).kind ≢ Fir → state.made.items ≡ []
  pub sink : (task_at job.graph t).kind ≡ Sink → slice_get (sinks_of job) state.sink ≡ Some t

-- task t stands in this state at the opening, where one event of a filter whose line names no block
-- signals at most so many values: where that is one, each signals a block of its line
pub record IsOpened (own : ℕ) (job : Job) (t : ℕ) (state : TaskState) : Type 0 where
  pub at : IsTaskAt job (opening job) t state
  pub line : own ≡ 1 → state.most ≡ (task_at job.graph t).block

-- a state after its task took these numbers by the first wait of its next steps
pub record StateHasTaken (task : Task) (xs : List ℤ) (old new : TaskState) : Type 0 where
  pub numbers : new.numbers ≡ old.numbers
  pub left : new.left ≡ old.left
  pub sink : new.sink ≡ old.sink
  pub begun : new.begun ≡ old.begun + length xs
  pub most : new.most ≡ old.most
  pub room : new.made.cap ≡ old.made.cap
  pub owed : (taken : List ℤ) → HasFilter task old.filter taken
      → owed_in new.owed new.made.items ≡ owed_after_wait task old.begun taken xs
  pub made_by : task.kind ≡ Fir → new.owed ≡ Nothing
  pub made_none : task.kind ≢ Fir → new.made.items ≡ []
  pub filter : (taken : List ℤ) → HasFilter task old.filter taken
      → HasFilter task new.filter (taken ++ xs)
