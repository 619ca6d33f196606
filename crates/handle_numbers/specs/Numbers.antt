-- The numbers by which C names operations, modes and singles, and those that calls answer.
use Rattle.std.specs.Prelude.{◌≡◌, ◌==◌, ℕ, ℤ, if◌then◌else◌, Option, Some, None, Result, Ok, Err}
use Rattle.phase_base.specs.declared.operation.Op.{Op}
use Rattle.phase_base.specs.declared.operation.Op.TheVariants as op
use Rattle.phase_base.specs.declared.mode.Mode.{Mode}
use Rattle.phase_base.specs.declared.mode.Mode.TheVariants as mode
use Rattle.phase_accum.specs.declared.single.Single.{Single}
use Rattle.phase_accum.specs.declared.single.Single.TheVariants as single
use Rattle.phase_accum.specs.declared.outcome.Outcome.{Outcome}
use Rattle.phase_accum.specs.declared.outcome.Outcome.TheVariants as outcome
use Rattle.phase_accum.specs.declared.outcome.TheConstants.{NO_VALUE}
use Rattle.phase_accum.specs.Ranges.{IsRange}
use Rattle.phase_history.specs.declared.got.Got.{Got}
use Rattle.phase_history.specs.declared.got.Got.TheVariants as got
use Rattle.phase_history.specs.declared.got.GotBlock.{GotBlock}
use Rattle.phase_history.specs.declared.got.GotBlock.TheVariants as block
use Rattle.phase_history.specs.declared.refusal.RegisterRefusal.{RegisterRefusal}
use Rattle.phase_history.specs.declared.refusal.RegisterRefusal.TheVariants as register
use Rattle.phase_history.specs.declared.refusal.SignalRefusal.{SignalRefusal}
use Rattle.phase_history.specs.declared.refusal.SignalRefusal.TheVariants as signal
use Rattle.phase_history.specs.declared.refusal.WaitRefusal.{WaitRefusal}
use Rattle.phase_history.specs.declared.refusal.WaitRefusal.TheVariants as wait
use Rattle.handle_numbers.specs.declared.numbers.TheConstants.{GOOD, ENDED, OUT_OF_MEMORY, NO_TASK, NOT_ALLOWED, NOT_NEW, TOO_MANY_TASKS, NO_SIGNAL, NOT_SINGLE, BAD_BLOCK, SIGNAL_TWICE, SPENT, AHEAD, SINGLE_DIFFERS, PHASE_FULL, NO_WAIT, SIGNAL_FIRST, NOT_YET, SUM, PRODUCT, LEAST, GREATEST, ANY, SIG, WAIT, SIG_WAIT, SINGLE, NONE, NEG, ABS, HALVE, CLAMP}

-- the operation of a number
abbrev pub op_numbered : ℕ → Option Op
op_numbered n =
    if n == SUM then Some op.Sum
    else if n == PRODUCT then Some op.Product
    else if n == LEAST then Some op.Least
    else if n == GREATEST then Some op.Greatest
    else if n == ANY then Some op.Any
    else None

-- the number of an operation
abbrev pub op_number : Op → ℕ
op_number op.Sum = SUM
op_number op.Product = PRODUCT
op_number op.Least = LEAST
op_number op.Greatest = GREATEST
op_number op.Any = ANY

-- the mode of a number
abbrev pub mode_numbered : ℕ → Option Mode
mode_numbered n =
    if n == SIG then Some mode.Sig
    else if n == WAIT then Some mode.Wait
    else if n == SIG_WAIT then Some mode.SigWait
    else if n == SINGLE then Some mode.Single
    else None

-- the number of a mode
abbrev pub mode_number : Mode → ℕ
mode_number mode.Sig = SIG
mode_number mode.Wait = WAIT
mode_number mode.SigWait = SIG_WAIT
mode_number mode.Single = SINGLE

-- the number, with the ends of a range, names the single or none
abbrev pub Names : ℕ → ℤ → ℤ → Option Single → Type 0
Names kind low high None = kind ≡ NONE
Names kind low high (Some single.Neg) = kind ≡ NEG
Names kind low high (Some single.Abs) = kind ≡ ABS
Names kind low high (Some single.Halve) = kind ≡ HALVE
Names kind low high (Some (single.Clamp range)) =
    (kind ≡ CLAMP) × (range ≡ (low, high)) × IsRange (low, high)

-- ---- what is answered

-- the number of why a registration was refused
abbrev pub register_number : RegisterRefusal → ℤ
register_number register.NoTask = NO_TASK
register_number register.NotAllowed = NOT_ALLOWED
register_number register.NotNew = NOT_NEW
register_number register.TooManyTasks = TOO_MANY_TASKS
register_number register.OutOfMemory = OUT_OF_MEMORY

-- the number of why a signal was refused
abbrev pub signal_number : SignalRefusal → ℤ
signal_number signal.NoTask = NO_TASK
signal_number signal.NoSignal = NO_SIGNAL
signal_number signal.NotSingle = NOT_SINGLE
signal_number signal.BadBlock = BAD_BLOCK
signal_number signal.SignalTwice = SIGNAL_TWICE
signal_number signal.Spent = SPENT
signal_number signal.Ahead = AHEAD
signal_number signal.SingleDiffers = SINGLE_DIFFERS
signal_number signal.PhaseFull = PHASE_FULL

-- the number of why a wait was refused
abbrev pub wait_number : WaitRefusal → ℤ
wait_number wait.NoTask = NO_TASK
wait_number wait.NoWait = NO_WAIT
wait_number wait.BadBlock = BAD_BLOCK
wait_number wait.SignalFirst = SIGNAL_FIRST
wait_number wait.NotYet = NOT_YET

-- the number of what a signal is answered
abbrev pub signal_status : {A : Type 0} → Result A SignalRefusal → ℤ
signal_status (Ok answer) = GOOD
signal_status (Err refusal) = signal_number refusal

-- the number of what a wait is answered
abbrev pub wait_status : Result Got WaitRefusal → ℤ
wait_status (Ok (got.Value phase outcome)) = GOOD
wait_status (Ok got.Ended) = ENDED
wait_status (Err refusal) = wait_number refusal

-- the number of what a wait for a block is answered
abbrev pub wait_block_status : Result GotBlock WaitRefusal → ℤ
wait_block_status (Ok (block.Values phase count)) = GOOD
wait_block_status (Ok block.Ended) = ENDED
wait_block_status (Err refusal) = wait_number refusal

-- the number of a phase's value. `NO_VALUE` is no value: under `least`, `greatest` and `any` the
-- phase has no send, under `sum` and `product` its exact value is out of range
abbrev pub value_number : Outcome → ℤ
value_number (outcome.Value v) = v
value_number outcome.Empty = NO_VALUE
value_number outcome.TooBig = NO_VALUE

-- what stands at a place that is written where a signal is accepted
abbrev pub phase_or : {R : Type 0} → Result ℕ R → ℕ → ℕ
phase_or (Ok phase) old = phase
phase_or (Err refusal) old = old
