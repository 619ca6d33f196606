-- What a call on a block of phases adds to its task's own part of the history.
use Rattle.std.specs.Prelude.{◌≡◌, ◌≤◌, ℕ, ℤ, List, ◌++◌, take, length}
use Rattle.phase_shared.specs.Phasers.{Operation, Parcel, Outcome, History, received_by, sent_by, StandForLists}

-- the task has sent one list more for each parcel, in their order
pub record SendsLists {A : Type 0} (op : Operation A) (task : ℕ) (parcels : List (Parcel A))
    (old new : History) : Type 0 where
  pub sends : List (List ℤ)
  pub stand : StandForLists op parcels sends
  pub sent : sent_by new task ≡ sent_by old task ++ sends

-- the task has received what stands in the first places, at least one, and sent no more
pub record GetsValues (value : List ℤ → Outcome) (task count : ℕ) (out : List Outcome)
    (old new : History) : Type 0 where
  pub some : 1 ≤ count
  pub within : count ≤ length out
  pub received : received_by value new task ≡ received_by value old task ++ take count out
  pub sent : sent_by new task ≡ sent_by old task
