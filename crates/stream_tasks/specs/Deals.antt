-- A splitter between a wait and its signals: what it has taken by the wait, and how far it has
-- dealt that to its outputs.
use Rattle.std.specs.Prelude.{◌≡◌, ◌≢◌, ℕ, ◌+◌, ◌-◌, ◌/◌, ◌%◌, ◌<◌, ◌≤◌, ◌⊎◌, ℤ, List, [], length, drop, slice_get, nat_lt, if◌then◌else◌}
use Rattle.graph_base.specs.declared.line.Kind.TheVariants.{Split}
use Rattle.graph_base.specs.Graphs.{task_at, phaser_at}
use Rattle.graph_runs.specs.Answers.{output_at}
use Rattle.graph_runs.specs.Moments.{Moment}
use Rattle.graph_runs.specs.Moves.{IsStaying}
use Rattle.graph_runs.specs.Nexts.{registrations_at}
use Rattle.graph_runs.specs.TaskPlaces.{registration_at}
use Rattle.stream_lists.specs.Jobs.{Job}
use Rattle.stream_lists.specs.Spans.{turns_below}
use Rattle.stream_members.specs.AnyMembers.{room_for}
use Rattle.stream_members.specs.declared.places.Places.{Places}
use Rattle.stream_tasks.specs.Holds.{HasSendPlaces}
use Rattle.stream_tasks.specs.declared.deal.Deal.{Deal}
use Rattle.stream_tasks.specs.declared.hold.Hold.{Hold}
use Rattle.stream_tasks.specs.declared.task_state.TaskState.{TaskState}

-- ---- places

-- there is room for so many values, and for a share of them
pub record HasDealRoom (most : ℕ) (deal : Deal) : Type 0 where
  pub values : most ≤ deal.values.cap
  pub share : most ≤ deal.share.cap

-- there are places for the sends of so many values, unless it is one
abbrev pub HasListPlaces : Hold → ℕ → Places → Type 0
HasListPlaces hold count places = count ≢ 1 → HasSendPlaces hold count places

-- these places serve each phaser that task t signals: for so many sends
abbrev pub ServesOutputs : Job → ℕ → ℕ → Places → Type 0
ServesOutputs job t most places = (j : ℕ) → j < length (task_at job.graph t).outputs
    → most ≤ room_for (phaser_at job.graph (output_at job t j)).op places

-- the phasers that task t signals have one operation
abbrev pub HasOneOp : Job → ℕ → Type 0
HasOneOp job t = (j : ℕ) → j < length (task_at job.graph t).outputs
    → (phaser_at job.graph (output_at job t j)).op ≡ (phaser_at job.graph (output_at job t 0)).op

-- what is left to deal of these values once the output whose turn it was has its share, of so many
-- outputs: nothing, or it is the next one's turn
pub data DealtThen (outputs turn : ℕ) (values : List ℤ) (new : Deal) : Type 0 where
  was_last : (outputs ≤ turn + 1) ⊎ (length values ≤ turn + 1) → new.values.items ≡ []
      → DealtThen outputs turn values new
  goes_on : turn + 1 < outputs → turn + 1 < length values → new.values.items ≡ values
      → new.turn ≡ turn + 1 → DealtThen outputs turn values new

-- ---- a deal at a moment

-- the output that gets its share next: the one whose turn the step is of the first value that is
-- left
abbrev pub next_output_of : Job → TaskState → ℕ
next_output_of job s =
    (s.begun - (length s.deal.values.items - s.deal.turn))
    % length (task_at job.graph s.number).outputs

-- how many of so many values output number i from the first on has got, where so many have theirs
abbrev pub dealt : ℕ → ℕ → ℕ → ℕ → ℕ
dealt outputs values turn i = if nat_lt i turn then turns_below outputs i values else 0

-- task t, a splitter with these numbers that has begun so many steps, has taken these values by its
-- last wait, and so many of its outputs have their share: those whose turn came first
pub record IsDealing (job : Job) (m : Moment) (t : ℕ) (numbers : List ℕ) (begun turn : ℕ)
    (values : List ℤ) : Type 0 where
  pub kind : (task_at job.graph t).kind ≡ Split
  pub numbered : (i : ℕ) → i < length (registrations_at job t)
      → m.number (registration_at job t i).phaser t ≡ slice_get numbers i
  pub staying : IsStaying m t
  pub begun_is : m.begun t ≡ begun
  -- after so many steps it took them
  pub first : ℕ
  pub steps : begun ≡ first + length values
  pub taken : drop first (m.taken t 0) ≡ values
  pub outputs_left : turn < length (task_at job.graph t).outputs
  pub values_left : turn < length values
  pub puts : (i : ℕ) → i < length (task_at job.graph t).outputs
      → let outputs = length (task_at job.graph t).outputs in
      length (m.put t ((first + i) % outputs))
      ≡ (first + i) / outputs + dealt outputs (length values) turn i
