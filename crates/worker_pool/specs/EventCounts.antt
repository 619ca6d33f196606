-- Which phasers had events since a task was taken, by counts.
use Rattle.std.specs.Prelude.{◌≡◌, ℕ, ◌%◌, ◌≤◌, get_or, Bool, true, false, nat_lt}
use Rattle.worker_pool.specs.declared.number_set.NumberSet.{NumberSet}
use Rattle.worker_pool.specs.declared.event_counts.EventCounts.{EventCounts}
use Rattle.worker_pool.specs.NumberSets.{has}

-- the number of the time at which events are told next
abbrev pub next_number : EventCounts → ℕ
next_number counts = counts.next

-- the number of the last time at which the phaser had events, and 0 where it had none
abbrev pub last_of : EventCounts → ℕ → ℕ
last_of counts phaser = get_or counts.last (phaser % 64) 0

-- the phaser had no event since this number was the next
abbrev pub had_none_since : EventCounts → ℕ → ℕ → Bool
had_none_since counts since phaser = nat_lt (last_of counts phaser) since

-- events were told on these phasers
pub record HasTold (events : NumberSet) (old new : EventCounts) : Type 0 where
  pub had : (p : ℕ) → has events (p % 64) ≡ true → last_of new p ≡ next_number old
  pub others : (p : ℕ) → has events (p % 64) ≡ false → last_of new p ≡ last_of old p
  pub later : next_number old ≤ next_number new

-- no events were told
pub record IsFresh (counts : EventCounts) : Type 0 where
  pub next : next_number counts ≡ 1
  pub none : (p : ℕ) → last_of counts p ≡ 0
