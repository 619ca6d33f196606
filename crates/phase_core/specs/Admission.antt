-- Why a registration is refused, by why a number is not added; and when a block of signals is not.
use Rattle.std.specs.Prelude.{ℕ, ◌+◌, Option, Some, None, Bool, false, not, ◌&&◌, nat_le}
use Rattle.phase_base.specs.Limits.{Limits}
use Rattle.phase_base.specs.Modes.{mode_waits}
use Rattle.phase_base.specs.declared.entry.Entry.{Entry}
use Rattle.phase_registry.specs.declared.refusal.AddRefusal.{AddRefusal}
use Rattle.phase_history.specs.declared.refusal.RegisterRefusal.{RegisterRefusal}
use Rattle.phase_registry.specs.declared.refusal.AddRefusal.TheVariants as add
use Rattle.phase_history.specs.declared.refusal.RegisterRefusal.TheVariants as register

-- the refusal of a registration whose child was not added
abbrev pub refusal_of_add : AddRefusal → RegisterRefusal
refusal_of_add add.NotNew = register.NotNew
refusal_of_add add.TooManyTasks = register.TooManyTasks
refusal_of_add add.OutOfMemory = register.OutOfMemory

-- whether a task with the entry, which does not wait, may signal n phases from its own on, of which
-- none is below the top; `slowest` is the least wait phase of the waiters, where there is one
abbrev pub are_new : Limits → Option ℕ → ℕ → ℕ → Entry → Bool
are_new limits None top n entry = false
are_new limits (Some slowest) top n entry =
    not (mode_waits entry.mode)
    && nat_le top entry.signal_phase
    && nat_le (entry.signal_phase + n) limits.phases_max
    && nat_le (entry.signal_phase + n) (slowest + limits.bound)
