-- Where each task of a pool is.
use Rattle.std.specs.Prelude.{◌≡◌, ℕ, ◌%◌, ◌<◌, List, get_or, true, false, ◌==◌, Option, Some, None, if◌then◌else◌}
use Rattle.worker_pool.specs.declared.number_set.NumberSet.{NumberSet}
use Rattle.worker_pool.specs.declared.places.Place.{Place}
use Rattle.worker_pool.specs.declared.places.Place.TheVariants.{Ready, Waiting, Working}
use Rattle.worker_pool.specs.NumberSets.{has, IsEmpty}

-- the tasks by what may be done with them, and the phaser on which each waits
pub record Tasks : Type 0 where
  pub ready : NumberSet
  pub waiting : NumberSet
  pub working : NumberSet
  pub waits_on : List ℕ

-- where a task is, and nothing where it is not live
abbrev pub place_of_task : Tasks → ℕ → Option Place
place_of_task tasks t =
    if has tasks.ready t then Some Ready
    else (if has tasks.waiting t then Some (Waiting (get_or tasks.waits_on t 0))
    else (if has tasks.working t then Some Working else None))

-- no number is in both sets
abbrev pub AreDisjoint : NumberSet → NumberSet → Type 0
AreDisjoint set other = (t : ℕ) → t < 64 → has set t ≡ true → has other t ≡ false

-- no number is in two of the sets
pub record AreApart (ready waiting working : NumberSet) : Type 0 where
  pub ready_waiting : AreDisjoint ready waiting
  pub ready_working : AreDisjoint ready working
  pub waiting_working : AreDisjoint waiting working

-- no task may go on, and none is with a worker
abbrev pub IsStill : Tasks → Type 0
IsStill tasks = IsEmpty tasks.ready × IsEmpty tasks.working

-- some task waits, and each live task does
abbrev pub StandsStill : Tasks → Type 0
StandsStill tasks = IsStill tasks × (IsEmpty tasks.waiting → ⊥)

-- the task is at this place now, and the others are where they were
abbrev pub IsPut : ℕ → Option Place → Tasks → Tasks → Type 0
IsPut task place old new = (t : ℕ) → t < 64
    → place_of_task new t ≡ (if t == task % 64 then place else place_of_task old t)

-- where a task is after events on these phasers: one that waited for such may go on
abbrev pub freed : NumberSet → Option Place → Option Place
freed events (Some (Waiting phaser)) =
    if has events (phaser % 64) then Some Ready else Some (Waiting phaser)
freed events (Some Ready) = Some Ready
freed events (Some Working) = Some Working
freed events None = None
