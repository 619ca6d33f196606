-- The phases at which a task stands: one as a signaller, and one as a waiter.
use Rattle.std.specs.Prelude.{ℕ, ◌+◌, List, [], ◌∷◌, Bool, if◌then◌else◌, ◌==◌}
use Rattle.phase_base.specs.Modes.{mode_signals, mode_waits}
use Rattle.phase_base.specs.declared.entry.Entry.{Entry}
use Rattle.phase_ring.specs.declared.role.Role.{Role}
use Rattle.phase_ring.specs.declared.role.Role.TheVariants.{Signaller, Waiter}

-- the other role
abbrev pub other : Role → Role
other Signaller = Waiter
other Waiter = Signaller

-- whether a task with this entry stands anywhere in the role
abbrev pub takes_part : Role → Entry → Bool
takes_part Signaller entry = mode_signals entry.mode
takes_part Waiter entry = mode_waits entry.mode

-- the phase at which it stands then
abbrev pub phase_for : Role → Entry → ℕ
phase_for Signaller entry = entry.signal_phase
phase_for Waiter entry = entry.wait_phase

-- 1 where two numbers are the same, else 0
abbrev pub one_if_same : ℕ → ℕ → ℕ
one_if_same m n = if m == n then 1 else 0

-- how often a number stands in a list
abbrev pub count_of : ℕ → List ℕ → ℕ
count_of n [] = 0
count_of n (m ∷ ms) = one_if_same m n + count_of n ms

-- 1 where a task with this entry stands at the phase in the role, else 0
abbrev pub counted : Role → Entry → ℕ → ℕ
counted role entry phase =
    if takes_part role entry then one_if_same (phase_for role entry) phase else 0
