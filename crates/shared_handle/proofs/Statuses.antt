-- Statuses: each is a number of 32 bits, and where one tells that nothing was got, nothing is
-- written.
use Rattle.std.proofs.Common.{◌≡◌, ◌≢◌, ℕ, ℤ, List, Option, Some, None, inl, inr, refl, sym, ap, ◌∙◌, w32, to_z, of_z}
use Rattle.std.specs.Prelude.{◌⊎◌, Result, Ok, Err, OnErr, IfOk, unwrap_or}
use Rattle.phase_history.specs.declared.got.Got.{Got}
use Rattle.phase_history.specs.declared.got.Got.TheVariants as got
use Rattle.phase_history.specs.declared.got.GotBlock.{GotBlock}
use Rattle.phase_history.specs.declared.got.GotBlock.TheVariants as block
use Rattle.phase_history.specs.declared.refusal.RegisterRefusal.{RegisterRefusal}
use Rattle.phase_history.specs.declared.refusal.RegisterRefusal.TheVariants as register
use Rattle.phase_history.specs.declared.refusal.SignalRefusal.{SignalRefusal}
use Rattle.phase_history.specs.declared.refusal.SignalRefusal.TheVariants as signal
use Rattle.phase_history.specs.declared.refusal.WaitRefusal.{WaitRefusal}
use Rattle.phase_history.specs.declared.refusal.WaitRefusal.TheVariants as wait
use Rattle.phase_history.specs.declared.refusal.NoTask.{NoTask}
use Rattle.phase_core.specs.declared.standing.Standing.{Standing}
use Rattle.phase_shared.specs.declared.tried.Tried.{Tried}
use Rattle.phase_shared.specs.declared.tried.Tried.TheVariants.{Busy, Refused}
use Rattle.handle_numbers.specs.Numbers.{signal_number, wait_number, signal_status, wait_status, wait_block_status, phase_or}
use Rattle.handle_numbers.specs.declared.numbers.TheConstants.{GOOD, ENDED, SIGNALLED}
use Rattle.shared_handle.specs.declared.any_member.AnyMember.{AnyMember}
use Rattle.shared_handle.specs.declared.standing_exports.Counts.{Counts}
use Rattle.phase_shared.specs.Asked.{IsValue}
use Rattle.phase_shared.specs.Calls.{tried}
use Rattle.phase_shared.specs.declared.next.Next.{Next}
use Rattle.shared_handle.specs.Calls.{both_of}
use Rattle.shared_handle.specs.Told.{tried_status, next_status, register_status, missing_status, start_got, phase_signalled, value_after, phase_got, value_got, first_got, count_got, counts_told}

-- the number fits
abbrev pub IsStatus : ℤ → Type 0
IsStatus status = to_z w32 (of_z w32 status) ≡ status

signal_number_fits : (refusal : SignalRefusal) → IsStatus (signal_number refusal)
signal_number_fits signal.NoTask = refl
signal_number_fits signal.NoSignal = refl
signal_number_fits signal.NotSingle = refl
signal_number_fits signal.BadBlock = refl
signal_number_fits signal.SignalTwice = refl
signal_number_fits signal.Spent = refl
signal_number_fits signal.Ahead = refl
signal_number_fits signal.SingleDiffers = refl
signal_number_fits signal.PhaseFull = refl

wait_number_fits : (refusal : WaitRefusal) → IsStatus (wait_number refusal)
wait_number_fits wait.NoTask = refl
wait_number_fits wait.NoWait = refl
wait_number_fits wait.BadBlock = refl
wait_number_fits wait.SignalFirst = refl
wait_number_fits wait.NotYet = refl

register_fits : {X : Type 0} (answer : Result X (Tried RegisterRefusal))
    → IsStatus (tried_status register_status answer)
register_fits (Ok child) = refl
register_fits (Err Busy) = refl
register_fits (Err (Refused register.NoTask)) = refl
register_fits (Err (Refused register.NotAllowed)) = refl
register_fits (Err (Refused register.NotNew)) = refl
register_fits (Err (Refused register.TooManyTasks)) = refl
register_fits (Err (Refused register.OutOfMemory)) = refl

-- a refused registration is not told as good
pub register_refused : (X : Type 0) (tried : Tried RegisterRefusal)
    → tried_status {X = X} register_status (Err tried) ≡ GOOD → ⊥
register_refused X Busy good = cc
register_refused X (Refused register.NoTask) good = cc
register_refused X (Refused register.NotAllowed) good = cc
register_refused X (Refused register.NotNew) good = cc
register_refused X (Refused register.TooManyTasks) good = cc
register_refused X (Refused register.OutOfMemory) good = cc

pub signal_fits : (answer : Result ℕ (Tried SignalRefusal))
    → IsStatus (tried_status signal_status answer)
signal_fits (Ok phase) = refl
signal_fits (Err Busy) = refl
signal_fits (Err (Refused refusal)) = signal_number_fits refusal

pub next_fits : (answer : Result (ℕ × Option Got) (Tried SignalRefusal))
    → IsStatus (tried_status next_status answer)
next_fits (Ok (phase, Some (got.Value first outcome))) = refl
next_fits (Ok (phase, Some got.Ended)) = refl
next_fits (Ok (phase, None)) = refl
next_fits (Err Busy) = refl
next_fits (Err (Refused refusal)) = signal_number_fits refusal

pub wait_fits : (answer : Result Got (Tried WaitRefusal))
    → IsStatus (tried_status wait_status answer)
wait_fits (Ok (got.Value phase outcome)) = refl
wait_fits (Ok got.Ended) = refl
wait_fits (Err Busy) = refl
wait_fits (Err (Refused refusal)) = wait_number_fits refusal

pub wait_block_fits : (answer : Result GotBlock (Tried WaitRefusal))
    → IsStatus (tried_status wait_block_status answer)
wait_block_fits (Ok (block.Values first many)) = refl
wait_block_fits (Ok block.Ended) = refl
wait_block_fits (Err Busy) = refl
wait_block_fits (Err (Refused refusal)) = wait_number_fits refusal

missing_fits : (answer : Result Standing (Tried NoTask))
    → IsStatus (tried_status missing_status answer)
missing_fits (Ok standing) = refl
missing_fits (Err Busy) = refl
missing_fits (Err (Refused refusal)) = refl

-- ---- what a call answers is the status of its answer

pub missing_told : (answer : Result Standing (Tried NoTask)) (code : ℤ)
    → code ≡ tried_status missing_status answer
    → to_z w32 (of_z w32 code) ≡ tried_status missing_status answer
missing_told answer code is = ap (λ r. to_z w32 (of_z w32 r)) is ∙ missing_fits answer

pub signal_told : (answer : Result ℕ (Tried SignalRefusal)) (code : ℤ)
    → code ≡ tried_status signal_status answer
    → to_z w32 (of_z w32 code) ≡ tried_status signal_status answer
signal_told answer code is = ap (λ r. to_z w32 (of_z w32 r)) is ∙ signal_fits answer

pub next_told : (answer : Result (ℕ × Option Got) (Tried SignalRefusal)) (code : ℤ)
    → code ≡ tried_status next_status answer
    → to_z w32 (of_z w32 code) ≡ tried_status next_status answer
next_told answer code is = ap (λ r. to_z w32 (of_z w32 r)) is ∙ next_fits answer

pub wait_told : (answer : Result Got (Tried WaitRefusal)) (code : ℤ)
    → code ≡ tried_status wait_status answer
    → to_z w32 (of_z w32 code) ≡ tried_status wait_status answer
wait_told answer code is = ap (λ r. to_z w32 (of_z w32 r)) is ∙ wait_fits answer

pub wait_block_told : (answer : Result GotBlock (Tried WaitRefusal)) (code : ℤ)
    → code ≡ tried_status wait_block_status answer
    → to_z w32 (of_z w32 code) ≡ tried_status wait_block_status answer
wait_block_told answer code is = ap (λ r. to_z w32 (of_z w32 r)) is ∙ wait_block_fits answer

pub register_told : {X : Type 0} (answer : Result X (Tried RegisterRefusal)) (code : ℤ)
    → code ≡ tried_status register_status answer
    → to_z w32 (of_z w32 code) ≡ tried_status register_status answer
register_told answer code is = ap (λ r. to_z w32 (of_z w32 r)) is ∙ register_fits answer

-- ---- where nothing was got

pub missing_unwritten : (answer : Result Standing (Tried NoTask)) (old new : Counts)
    (old_places new_places : List ℕ) → tried_status missing_status answer ≢ GOOD
    → new ≡ counts_told answer old → OnErr answer (new_places ≡ old_places)
    → (new ≡ old) × (new_places ≡ old_places)
missing_unwritten (Ok standing) old new old_places new_places none is same = absurd (none refl)
missing_unwritten (Err tried) old new old_places new_places none is same = (is, same)

pub signal_unwritten : (answer : Result ℕ (Tried SignalRefusal)) (old : ℕ)
    → tried_status signal_status answer ≢ GOOD → phase_or answer old ≡ old
signal_unwritten (Ok phase) old none = absurd (none refl)
signal_unwritten (Err tried) old none = refl

pub next_unwritten : (answer : Result (ℕ × Option Got) (Tried SignalRefusal)) (old : ℤ)
    → tried_status next_status answer ≢ GOOD → value_after answer old ≡ old
next_unwritten (Ok (phase, Some (got.Value first outcome))) old none = absurd (none refl)
next_unwritten (Ok (phase, Some got.Ended)) old none = refl
next_unwritten (Ok (phase, None)) old none = refl
next_unwritten (Err tried) old none = refl

pub next_no_phase : (answer : Result (ℕ × Option Got) (Tried SignalRefusal)) (old : ℕ)
    → tried_status next_status answer ≢ GOOD → tried_status next_status answer ≢ SIGNALLED
    → tried_status next_status answer ≢ ENDED → phase_signalled answer old ≡ old
next_no_phase (Ok (phase, Some (got.Value first outcome))) old none wait ended = absurd (none refl)
next_no_phase (Ok (phase, Some got.Ended)) old none wait ended = absurd (ended refl)
next_no_phase (Ok (phase, None)) old none wait ended = absurd (wait refl)
next_no_phase (Err tried) old none wait ended = refl

pub wait_unwritten : (answer : Result Got (Tried WaitRefusal)) (phase : ℕ) (value : ℤ)
    → tried_status wait_status answer ≢ GOOD
    → (phase_got answer phase ≡ phase) × (value_got answer value ≡ value)
wait_unwritten (Ok (got.Value first outcome)) phase value none = absurd (none refl)
wait_unwritten (Ok got.Ended) phase value none = (refl, refl)
wait_unwritten (Err tried) phase value none = (refl, refl)

pub wait_block_unwritten : (answer : Result GotBlock (Tried WaitRefusal)) (phase count : ℕ)
    → tried_status wait_block_status answer ≢ GOOD
    → (first_got answer phase ≡ phase) × (count_got answer count ≡ count)
wait_block_unwritten (Ok (block.Values first many)) phase count none = absurd (none refl)
wait_block_unwritten (Ok block.Ended) phase count none = (refl, refl)
wait_block_unwritten (Err tried) phase count none = (refl, refl)

pub numbers_unwritten : (answer : Result GotBlock (Tried WaitRefusal)) (old new : List ℤ)
    → tried_status wait_block_status answer ≢ GOOD → (answer ≡ Ok block.Ended → new ≡ old)
    → OnErr answer (new ≡ old) → new ≡ old
numbers_unwritten (Ok (block.Values first many)) old new none ended err = absurd (none refl)
numbers_unwritten (Ok block.Ended) old new none ended err = ended refl
numbers_unwritten (Err tried) old new none ended err = err

pub register_unwritten : {X Y : Type 0} (answer : Result X (Tried RegisterRefusal)) (old new : Y)
    → tried_status register_status answer ≢ GOOD → OnErr answer (new ≡ old) → new ≡ old
register_unwritten (Ok child) old new none same = absurd (none refl)
register_unwritten (Err tried) old new none same = same

pub start_unwritten : (answer : Result AnyMember (Tried RegisterRefusal)) (old : ℕ)
    → tried_status register_status answer ≢ GOOD → start_got answer old ≡ old
start_unwritten (Ok child) old none = absurd (none refl)
start_unwritten (Err tried) old none = refl

-- a signal that is refused is told as nothing else
refused_apart : (refusal : SignalRefusal)
    → (signal_number refusal ≢ SIGNALLED) × (signal_number refusal ≢ ENDED)
refused_apart signal.NoTask = (λ e. cc, λ e. cc)
refused_apart signal.NoSignal = (λ e. cc, λ e. cc)
refused_apart signal.NotSingle = (λ e. cc, λ e. cc)
refused_apart signal.BadBlock = (λ e. cc, λ e. cc)
refused_apart signal.SignalTwice = (λ e. cc, λ e. cc)
refused_apart signal.Spent = (λ e. cc, λ e. cc)
refused_apart signal.Ahead = (λ e. cc, λ e. cc)
refused_apart signal.SingleDiffers = (λ e. cc, λ e. cc)
refused_apart signal.PhaseFull = (λ e. cc, λ e. cc)

-- a value is told as one
pub told_value : (phase : ℕ) (got : Option Got) → IsValue got
    → next_status (Ok (phase, got)) ≡ GOOD
told_value phase got value = ap (λ it. next_status (Ok (phase, it))) value.is

good_is_no_signal : GOOD ≡ SIGNALLED → ⊥
good_is_no_signal e = cc

good_is_no_end : GOOD ≡ ENDED → ⊥
good_is_no_end e = cc

signal_is_no_end : SIGNALLED ≡ ENDED → ⊥
signal_is_no_end e = cc

-- a next phase that was asked for is told as a value, or as a signal that is refused
pub told_gone : (gone : Result Next SignalRefusal) → IfOk gone (λ next. IsValue next.got)
    → (tried_status next_status (tried (both_of gone)) ≢ SIGNALLED)
    × (tried_status next_status (tried (both_of gone)) ≢ ENDED)
told_gone (Ok next) value =
    let good = told_value (unwrap_or next.signalled 0) next.got value in
    (λ e. good_is_no_signal (sym good ∙ e), λ e. good_is_no_end (sym good ∙ e))
told_gone (Err refusal) value = refused_apart refusal

-- and one that is taken back, as no end
pub told_back : (back : Result (ℕ × Option Got) SignalRefusal)
    → IfOk back (λ made. (made.1 ≡ None) ⊎ IsValue made.1)
    → tried_status next_status (tried back) ≢ ENDED
told_back (Ok (phase, got)) (inl none) e =
    signal_is_no_end (sym (ap (λ it. next_status (Ok (phase, it))) none) ∙ e)
told_back (Ok (phase, got)) (inr value) e =
    good_is_no_end (sym (told_value phase got value) ∙ e)
told_back (Err refusal) value e = (refused_apart refusal).1 e
