-- The refusals of the calls, each a table in the order in which its rows are checked: the first
-- row that applies is the answer.
use Rattle.std.specs.Prelude.{ℕ, ℤ, ◌+◌, List, [], ◌∷◌, ◌++◌, Option, Some, None, Bool, false, not, ◌&&◌, ◌||◌, length, is_some, if◌then◌else◌, ◌==◌, nat_le, nat_lt}
use Rattle.phase_base.specs.Limits.{Limits}
use Rattle.phase_base.specs.Lists.{first_row}
use Rattle.phase_base.specs.declared.limits.TheConstants.{MEMBERS_MAX, SENDS_MAX}
use Rattle.phase_base.specs.Modes.{holds, mode_signals, mode_waits, is_single}
use Rattle.phase_base.specs.declared.mode.Mode.{Mode}
use Rattle.phase_base.specs.declared.mode.Mode.TheVariants.{Wait}
use Rattle.phase_base.specs.declared.entry.Entry.{Entry}
use Rattle.phase_accum.specs.declared.single.Single.{Single}
pub use Rattle.phase_accum.specs.Singles.{is_same, differs}
use Rattle.phase_history.specs.declared.refusal.NoTask.{NoTask}
use Rattle.phase_history.specs.declared.refusal.RegisterRefusal.{RegisterRefusal}
use Rattle.phase_history.specs.declared.refusal.RegisterRefusal.TheVariants as register
use Rattle.phase_history.specs.declared.refusal.SignalRefusal.{SignalRefusal}
use Rattle.phase_history.specs.declared.refusal.SignalRefusal.TheVariants as signal
use Rattle.phase_history.specs.declared.refusal.WaitRefusal.{WaitRefusal}
use Rattle.phase_history.specs.declared.refusal.WaitRefusal.TheVariants as wait
use Rattle.phase_base.specs.Members.{Members, entry_of, signal_phases, wait_phases, least, signalled}
use Rattle.phase_history.specs.Histories.{History, Positions, positions_of, members_of, done_at, greatest_used}
use Rattle.phase_history.specs.Phases.{sends_of_phase, named_in_phase}

-- the refusal of a call by a task: that it is no member, or what its entry's rows answer
abbrev pub refusal_at : {R : Type 0} → Option Entry → R → (Entry → List (Bool × R)) → Option R
refusal_at None no_task rows = Some no_task
refusal_at (Some entry) no_task rows = first_row (rows entry)

-- a registration, by the parent's entry
abbrev pub register_rows : Members → ℕ → ℕ → Mode → Entry → List (Bool × RegisterRefusal)
register_rows members greatest child mode parent =
    (not (holds parent.mode mode), register.NotAllowed)
    ∷ (nat_le child greatest, register.NotNew)
    ∷ (nat_le MEMBERS_MAX (length members), register.TooManyTasks)
    ∷ []

-- whether a signal of phase s is the bound or more ahead of the slowest waiter
abbrev pub is_ahead : Option ℕ → ℕ → ℕ → Bool
is_ahead None bound s = false
is_ahead (Some slowest) bound s = nat_le (slowest + bound) s

-- the rows that one phase of a signal can meet. The phase is the entry's; `slowest` is the least
-- wait phase of the waiters, where there is one; the phase has `count` sends, and its first signal
-- named `named`; n more sends would join it
abbrev pub phase_rows : Limits → Option ℕ → ℕ → Option (Option Single) → ℕ → Option Single → Entry
    → List (Bool × SignalRefusal)
phase_rows limits slowest count named n single entry =
    (mode_waits entry.mode && (entry.signal_phase == entry.wait_phase + 1), signal.SignalTwice)
    ∷ (nat_le limits.phases_max entry.signal_phase, signal.Spent)
    ∷ (is_ahead slowest limits.bound entry.signal_phase, signal.Ahead)
    ∷ (is_some slowest && differs named single, signal.SingleDiffers)
    ∷ (is_some slowest && nat_lt SENDS_MAX (count + n), signal.PhaseFull)
    ∷ []

-- a signal, phase by phase: what its later lists of sends meet where the earlier ones have joined
abbrev pub list_rows : Limits → History → List (List ℤ) → Option Single → Entry
    → List (Bool × SignalRefusal)
list_rows limits h [] single entry = []
list_rows limits h (sends ∷ lists) single entry =
    phase_rows limits (least (wait_phases (members_of h)))
    (length (sends_of_phase h entry.signal_phase)) (named_in_phase h entry.signal_phase)
    (length sends) single entry
    ++ list_rows limits h lists single (signalled 1 entry)

-- whether a block of n phases is too short or too long
abbrev pub is_bad_block : Limits → ℕ → Bool
is_bad_block limits n = n == 0 || nat_lt limits.bound n

-- the rows of a signal for n phases, by the task's entry, before those of its phases
abbrev pub signal_rows_before : Limits → ℕ → Option Single → Entry → List (Bool × SignalRefusal)
    → List (Bool × SignalRefusal)
signal_rows_before limits n single entry rows =
    (not (mode_signals entry.mode), signal.NoSignal)
    ∷ (is_some single && not (is_single entry.mode), signal.NotSingle)
    ∷ (is_bad_block limits n, signal.BadBlock)
    ∷ rows

-- a signal of as many phases as there are lists of sends, by the task's entry
abbrev pub signal_rows : Limits → History → List (List ℤ) → Option Single → Entry
    → List (Bool × SignalRefusal)
signal_rows limits h lists single entry =
    signal_rows_before limits (length lists) single entry (list_rows limits h lists single entry)

-- a wait for at most n phases, by the task's entry
abbrev pub wait_rows_at : Limits → ℕ → Bool → ℕ → Entry → List (Bool × WaitRefusal)
wait_rows_at limits done has_signaller n entry =
    (not (mode_waits entry.mode), wait.NoWait)
    ∷ (is_bad_block limits n, wait.BadBlock)
    ∷ (mode_signals entry.mode && (entry.signal_phase == entry.wait_phase), wait.SignalFirst)
    ∷ (nat_le done entry.wait_phase && has_signaller, wait.NotYet)
    ∷ []

-- the same, by where the members stand
abbrev pub wait_rows : Limits → Positions → ℕ → Entry → List (Bool × WaitRefusal)
wait_rows limits now n entry =
    wait_rows_at limits (done_at now) (is_some (least (signal_phases now.members))) n entry

-- for the code: a plain wait, for one phase
abbrev pub plain_wait_rows : Limits → ℕ → Bool → Entry → List (Bool × WaitRefusal)
plain_wait_rows limits done has_signaller entry = wait_rows_at limits done has_signaller 1 entry

-- the refusal of a registration of the child by the parent
abbrev pub register_refusal : History → ℕ → ℕ → Mode → Option RegisterRefusal
register_refusal h parent child mode =
    refusal_at (entry_of (members_of h) parent) register.NoTask
    (register_rows (members_of h) (greatest_used h) child mode)

-- the refusal of a registration of the child as a waiter that joins now
abbrev pub register_now_refusal : History → ℕ → ℕ → Option RegisterRefusal
register_now_refusal h parent child = register_refusal h parent child Wait

-- the refusal of a signal
abbrev pub signal_refusal : Limits → History → ℕ → List (List ℤ) → Option Single
    → Option SignalRefusal
signal_refusal limits h task lists single =
    refusal_at (entry_of (members_of h) task) signal.NoTask (signal_rows limits h lists single)

-- the refusal of a wait for at most n phases
abbrev pub wait_refusal : Limits → History → ℕ → ℕ → Option WaitRefusal
wait_refusal limits h task n =
    refusal_at (entry_of (members_of h) task) wait.NoTask (wait_rows limits (positions_of h) n)

-- the refusal of a drop
abbrev pub drop_refusal : History → ℕ → Option NoTask
drop_refusal h task = refusal_at (entry_of (members_of h) task) (record {}) (λ entry. [])
