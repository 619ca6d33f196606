-- What the phases of a history hold, and what a task has received of them.
use Rattle.std.specs.Prelude.{ℕ, ℤ, ◌+◌, List, [], ◌∷◌, ◌++◌, Option, Some, None, Bool, ◌&&◌, length, map, take, drop, if◌then◌else◌, ◌==◌, nat_le, nat_lt}
use Rattle.std.specs.List.{range_with_len}
use Rattle.std.specs.Option.{option_and_then}
use Rattle.phase_accum.specs.Values.{applied}
use Rattle.phase_accum.specs.declared.outcome.Outcome.{Outcome}
use Rattle.phase_accum.specs.declared.single.Single.{Single}
use Rattle.phase_history.specs.declared.event.Event.TheVariants.{Signalled, Waited}
use Rattle.phase_history.specs.Histories.{History, signal_phase, wait_phase, done_of}

-- of lists that stand in the phases from s on, the one that stands in phase p, or none
abbrev pub list_in_phase : List (List ℤ) → ℕ → ℕ → List ℤ
list_in_phase [] s p = []
list_in_phase (sends ∷ lists) s p = if s == p then sends else list_in_phase lists (s + 1) p

-- whether n phases from s on have phase p among them
abbrev pub is_among : ℕ → ℕ → ℕ → Bool
is_among s n p = nat_le s p && nat_lt p (s + n)

-- the sends of a phase: those of the signals that joined it, in the order of the history
abbrev pub sends_of_phase : History → ℕ → List ℤ
sends_of_phase [] p = []
sends_of_phase (Signalled task lists single ∷ before) p =
    sends_of_phase before p ++ list_in_phase lists (signal_phase before task) p
sends_of_phase (event ∷ before) p = sends_of_phase before p

-- what was named first in a phase, after one more signal, which joins the phase or not
abbrev pub first_named : Option (Option Single) → Bool → Option Single → Option (Option Single)
first_named (Some named) joins single = Some named
first_named None joins single = if joins then Some single else None

-- what the first signal of a phase named: a single or none; nothing yet where there is no signal
abbrev pub named_in_phase : History → ℕ → Option (Option Single)
named_in_phase [] p = None
named_in_phase (Signalled task lists single ∷ before) p =
    first_named (named_in_phase before p) (is_among (signal_phase before task) (length lists) p)
    single
named_in_phase (event ∷ before) p = named_in_phase before p

-- the single of a phase, where it has one
abbrev pub single_of_phase : History → ℕ → Option Single
single_of_phase h p = option_and_then (λ named. named) (named_in_phase h p)

-- the value of a phase, by the value of a list of sends
abbrev pub value_of_phase : (List ℤ → Outcome) → History → ℕ → Outcome
value_of_phase value h p = applied (single_of_phase h p) (value (sends_of_phase h p))

-- the stream: the values of the complete phases, in order
abbrev pub stream_of : (List ℤ → Outcome) → History → List Outcome
stream_of value h = map (value_of_phase value h) (range_with_len 0 (done_of h))

-- what the task has received: for each of its waits, the values that the wait was answered
abbrev pub received_by : (List ℤ → Outcome) → History → ℕ → List Outcome
received_by value [] task = []
received_by value (Waited waiter phases ∷ before) task =
    if waiter == task
    then received_by value before task
    ++ take phases (drop (wait_phase before task) (stream_of value before))
    else received_by value before task
received_by value (event ∷ before) task = received_by value before task
