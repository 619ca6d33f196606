-- Where a task and its registration stand after a call, by what was answered. The mode stays.
use Rattle.std.specs.Prelude.{ℕ, ◌+◌, Option, Some, None}
use Rattle.phase_shared.specs.Phasers.{Entry, Got}
use Rattle.phase_history.specs.declared.got.Got.TheVariants.{Value, Ended}
use Rattle.phase_shared.specs.declared.next.Next.{Next}

-- one phase further where a phase was signalled
abbrev pub phase_after_signal : Option ℕ → ℕ → ℕ
phase_after_signal (Some phase) s = s + 1
phase_after_signal None s = s

-- one phase further where a value was got
abbrev pub phase_after_wait : Option Got → ℕ → ℕ
phase_after_wait (Some (Value phase outcome)) w = w + 1
phase_after_wait (Some Ended) w = w
phase_after_wait None w = w

-- where it stood, whatever was answered
abbrev pub entry_stays : {X : Type 0} → Option X → Entry → Entry
entry_stays answer entry = entry

-- after a signal, where there was one
abbrev pub entry_after_signal : Option ℕ → Entry → Entry
entry_after_signal signalled entry =
    record entry { signal_phase = phase_after_signal signalled entry.signal_phase }

-- after a wait, where there was one
abbrev pub entry_after_wait : Option Got → Entry → Entry
entry_after_wait got entry =
    record entry { wait_phase = phase_after_wait got entry.wait_phase }

-- after a signal with this answer, and a wait under its turn
abbrev pub entry_after_both : Option (ℕ × Option Got) → Entry → Entry
entry_after_both (Some answer) entry =
    entry_after_wait answer.1 (entry_after_signal (Some answer.0) entry)
entry_after_both None entry = entry

-- after a next phase, where there was one
abbrev pub entry_after_next : Option Next → Entry → Entry
entry_after_next (Some next) entry =
    entry_after_wait next.got (entry_after_signal next.signalled entry)
entry_after_next None entry = entry
