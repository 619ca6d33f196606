-- What C is told of the registration behind a handle: the status and what is written are functions
-- of the answer of its call.
use Rattle.std.specs.Prelude.{◌≡◌, ◌⊎◌, ◌<◌, ◌≤◌, ℕ, ℤ, List, length, Option, Some, None, Result, Ok, Err}
use Rattle.phase_base.specs.declared.operation.Op.{Op}
use Rattle.phase_base.specs.declared.limits.TheConstants.{SENDS_MAX}
use Rattle.phase_accum.specs.Sends.{AreSends}
use Rattle.phase_accum.specs.Values.{value_by}
use Rattle.phase_accum.specs.declared.single.Single.{Single}
use Rattle.phase_history.specs.declared.got.Got.{Got}
use Rattle.phase_history.specs.declared.got.Got.TheVariants as got
use Rattle.phase_history.specs.declared.got.GotBlock.{GotBlock}
use Rattle.phase_history.specs.declared.got.GotBlock.TheVariants as block
use Rattle.phase_history.specs.declared.refusal.RegisterRefusal.{RegisterRefusal}
use Rattle.phase_history.specs.declared.refusal.SignalRefusal.{SignalRefusal}
use Rattle.phase_history.specs.declared.refusal.WaitRefusal.{WaitRefusal}
use Rattle.phase_history.specs.declared.refusal.NoTask.{NoTask}
use Rattle.phase_core.specs.declared.standing.Standing.{Standing as PhaserStanding}
use Rattle.phase_shared.specs.declared.tried.Tried.{Tried}
use Rattle.phase_shared.specs.declared.tried.Tried.TheVariants.{Busy, Refused}
use Rattle.handle_numbers.specs.Numbers.{Names, signal_status, wait_status, wait_block_status, signal_number, register_number, value_number, mode_number, op_number, phase_or}
use Rattle.handle_numbers.specs.declared.numbers.TheConstants.{GOOD, ENDED, SIGNALLED, BUSY, NO_TASK, BAD_SINGLE, BAD_VALUE, TOO_MANY_SENDS}
use Rattle.shared_handle.specs.Members.{Registration}
use Rattle.shared_handle.specs.Calls.{SignalCall, NextCall, WaitCall, BlockSignalCall, MissingCall}
use Rattle.shared_handle.specs.NumberBlocks.{NumbersCall}
use Rattle.shared_handle.specs.AnyMembers.{op_in, op_asked, asked_state, state_in, state_of, held_in, StillHas}
use Rattle.shared_handle.specs.declared.any_asked.AnyAsked.{AnyAsked}
use Rattle.shared_handle.specs.declared.any_member.AnyMember.{AnyMember}
use Rattle.shared_handle.specs.declared.kept.Kept.{Kept}
use Rattle.shared_handle.specs.declared.member_exports.Standing.{Standing}
use Rattle.shared_handle.specs.declared.standing_exports.Counts.{Counts}

-- ---- statuses

-- the status of a try, by that of the call's answer
abbrev pub tried_status : {X R : Type 0} → (Result X R → ℤ) → Result X (Tried R) → ℤ
tried_status status (Ok answer) = status (Ok answer)
tried_status status (Err Busy) = BUSY
tried_status status (Err (Refused refusal)) = status (Err refusal)

-- the status of a next phase: its value is there, or it is signalled and its wait still to be made
abbrev pub next_status : Result (ℕ × Option Got) SignalRefusal → ℤ
next_status (Ok (phase, Some (got.Value first outcome))) = GOOD
next_status (Ok (phase, Some got.Ended)) = ENDED
next_status (Ok (phase, None)) = SIGNALLED
next_status (Err refusal) = signal_number refusal

-- the status of a registration
abbrev pub register_status : {X : Type 0} → Result X RegisterRefusal → ℤ
register_status (Ok child) = GOOD
register_status (Err refusal) = register_number refusal

-- the status of how a phaser stands, which is never refused
abbrev pub missing_status : Result PhaserStanding NoTask → ℤ
missing_status (Ok standing) = GOOD
missing_status (Err refusal) = NO_TASK

-- the handle is refused with this status, and what is behind it stays as it was
abbrev pub RefusedAs : ℤ → ℤ → Option Kept → Option Kept → Type 0
RefusedAs refusal status old new = (status ≡ refusal) × (new ≡ old)

-- the numbers name no single and not none
abbrev pub NamesNone : ℕ → ℤ → ℤ → Type 0
NamesNone kind low high = (named : Option Single) → Names kind low high named → ⊥

-- the numbers name a single or none
abbrev pub NamesOne : ℕ → ℤ → ℤ → Type 0
NamesOne kind low high = (named : Option Single) × Names kind low high named

-- why a block of values is refused before the phaser is asked: the first that holds
abbrev pub IsBadBlock : List ℤ → ℕ → ℤ → ℤ → ℤ → Type 0
IsBadBlock values kind low high status =
    ((status ≡ BAD_SINGLE) × NamesNone kind low high)
    ⊎ ((status ≡ BAD_VALUE) × NamesOne kind low high × (AreSends values → ⊥))

-- why the values of one phase are
abbrev pub IsBadSignal : List ℤ → ℕ → ℤ → ℤ → ℤ → Type 0
IsBadSignal values kind low high status =
    ((status ≡ BAD_SINGLE) × NamesNone kind low high)
    ⊎ ((status ≡ TOO_MANY_SENDS) × NamesOne kind low high × (SENDS_MAX < length values))
    ⊎ ((status ≡ BAD_VALUE) × NamesOne kind low high × (length values ≤ SENDS_MAX)
    × (AreSends values → ⊥))

-- ---- what is written

-- the phase that a next phase signalled, or what stood there
abbrev pub phase_signalled : {R : Type 0} → Result (ℕ × Option Got) R → ℕ → ℕ
phase_signalled (Ok answer) old = answer.0
phase_signalled (Err refusal) old = old

-- the number of the value that was got, or what stood there
abbrev pub number_got : Option Got → ℤ → ℤ
number_got (Some (got.Value first outcome)) old = value_number outcome
number_got (Some got.Ended) old = old
number_got None old = old

-- the same of a next phase
abbrev pub value_after : {R : Type 0} → Result (ℕ × Option Got) R → ℤ → ℤ
value_after (Ok answer) old = number_got answer.1 old
value_after (Err refusal) old = old

-- the phase that a wait got, or what stood there
abbrev pub phase_got : {R : Type 0} → Result Got R → ℕ → ℕ
phase_got (Ok (got.Value phase outcome)) old = phase
phase_got (Ok got.Ended) old = old
phase_got (Err refusal) old = old

-- the number of the value that a wait got, or what stood there
abbrev pub value_got : {R : Type 0} → Result Got R → ℤ → ℤ
value_got (Ok (got.Value phase outcome)) old = value_number outcome
value_got (Ok got.Ended) old = old
value_got (Err refusal) old = old

-- the first phase that a wait for a block got, or what stood there
abbrev pub first_got : {R : Type 0} → Result GotBlock R → ℕ → ℕ
first_got (Ok (block.Values first many)) old = first
first_got (Ok block.Ended) old = old
first_got (Err refusal) old = old

-- how many phases a wait for a block got, or what stood there
abbrev pub count_got : {R : Type 0} → Result GotBlock R → ℕ → ℕ
count_got (Ok (block.Values first many)) old = many
count_got (Ok block.Ended) old = old
count_got (Err refusal) old = old

-- the phase that a child waits for first, or what stood there
abbrev pub start_got : {R : Type 0} → Result AnyMember R → ℕ → ℕ
start_got (Ok child) old = (state_in child).entry.wait_phase
start_got (Err refusal) old = old

-- how a phaser stands, in the numbers of C, or what stood there
abbrev pub counts_told : {R : Type 0} → Result PhaserStanding R → Counts → Counts
counts_told (Ok standing) old = record {
  tasks = standing.tasks;
  signallers = standing.signallers;
  waiters = standing.waiters;
  phase = standing.phase;
  signalled = standing.signalled;
}
counts_told (Err refusal) old = old

-- the child is behind the handle that was given for it, under its parent's operation; or what was
-- there still is
abbrev pub GivesChild : {R : Type 0} → Op → Result AnyMember R → Option Kept → Option Kept → Type 0
GivesChild op (Ok child) old new = (held_in new ≡ Some child) × (op_in child ≡ op)
GivesChild op (Err refusal) old new = new ≡ old

-- ---- calls

-- a signal: its answer, its status, and what it writes
pub record TellsSignal (values : List ℤ) (single : Option Single) (old new : AnyMember)
    (status : ℤ) (old_phase new_phase : ℕ) : Type 0 where
  pub answer : Result ℕ (Tried SignalRefusal)
  pub call : SignalCall (value_by (op_in old)) values single (state_in old) (state_in new) answer
  pub op : op_in new ≡ op_in old
  pub status_is : status ≡ tried_status signal_status answer
  pub phase_is : new_phase ≡ phase_or answer old_phase

-- a next phase
pub record TellsNext (values : List ℤ) (single : Option Single) (old new : AnyMember)
    (status : ℤ) (old_phase new_phase : ℕ) (old_value new_value : ℤ) : Type 0 where
  pub answer : Result (ℕ × Option Got) (Tried SignalRefusal)
  pub call : NextCall (value_by (op_in old)) values single (state_in old) (state_in new) answer
  pub op : op_in new ≡ op_in old
  pub status_is : status ≡ tried_status next_status answer
  pub phase_is : new_phase ≡ phase_signalled answer old_phase
  pub value_is : new_value ≡ value_after answer old_value

-- the end of an ask: the registration rests, and its call has this answer, from where it asked
abbrev pub EndsAsk : AnyAsked → Option AnyMember → Result (ℕ × Option Got) (Tried SignalRefusal)
    → Type 0
EndsAsk old new answer = StillHas new (λ n. (op_in n ≡ op_asked old)
    × NextCall (value_by (op_asked old)) (asked_state old).values None (asked_state old).reg
    (state_in n) answer)

-- the same, as C is told it: what a next phase is
pub record TellsAskEnd (old : AnyAsked) (new : AnyMember) (status : ℤ) (old_phase new_phase : ℕ)
    (old_value new_value : ℤ) : Type 0 where
  pub answer : Result (ℕ × Option Got) (Tried SignalRefusal)
  pub call : NextCall (value_by (op_asked old)) (asked_state old).values None
      (asked_state old).reg (state_in new) answer
  pub op : op_in new ≡ op_asked old
  pub status_is : status ≡ tried_status next_status answer
  pub phase_is : new_phase ≡ phase_signalled answer old_phase
  pub value_is : new_value ≡ value_after answer old_value

-- an ask with these values: from where the registration stood
pub record AsksFrom (values : List ℤ) (old : AnyMember) (new : AnyAsked) : Type 0 where
  pub reg : (asked_state new).reg ≡ state_in old
  pub values_are : (asked_state new).values ≡ values
  pub op : op_asked new ≡ op_in old

-- a wait
pub record TellsWait (old new : AnyMember) (status : ℤ) (old_phase new_phase : ℕ)
    (old_value new_value : ℤ) : Type 0 where
  pub answer : Result Got (Tried WaitRefusal)
  pub call : WaitCall (value_by (op_in old)) (state_in old) (state_in new) answer
  pub op : op_in new ≡ op_in old
  pub status_is : status ≡ tried_status wait_status answer
  pub phase_is : new_phase ≡ phase_got answer old_phase
  pub value_is : new_value ≡ value_got answer old_value

-- a signal of a block
pub record TellsBlockSignal (values : List ℤ) (single : Option Single) (old new : AnyMember)
    (status : ℤ) (old_phase new_phase : ℕ) : Type 0 where
  pub answer : Result ℕ (Tried SignalRefusal)
  pub call : BlockSignalCall values single (state_in old) (state_in new) answer
  pub op : op_in new ≡ op_in old
  pub status_is : status ≡ tried_status signal_status answer
  pub phase_is : new_phase ≡ phase_or answer old_phase

-- a wait for a block
pub record TellsBlockWait (old_values new_values : List ℤ) (old new : AnyMember) (status : ℤ)
    (old_phase new_phase old_count new_count : ℕ) : Type 0 where
  pub answer : Result GotBlock (Tried WaitRefusal)
  pub call : NumbersCall (value_by (op_in old)) old_values new_values (state_in old)
      (state_in new) answer
  pub op : op_in new ≡ op_in old
  pub status_is : status ≡ tried_status wait_block_status answer
  pub phase_is : new_phase ≡ first_got answer old_phase
  pub count_is : new_count ≡ count_got answer old_count

-- how the phaser stands, and who is missing
pub record TellsMissing (old_places new_places : List ℕ) (old new : AnyMember) (status : ℤ)
    (old_counts new_counts : Counts) : Type 0 where
  pub answer : Result PhaserStanding (Tried NoTask)
  pub call : MissingCall old_places new_places (state_in old) (state_in new) answer
  pub op : op_in new ≡ op_in old
  pub status_is : status ≡ tried_status missing_status answer
  pub counts_are : new_counts ≡ counts_told answer old_counts

-- a registration, by one of the two calls: what it says of the parent before and after it
pub record TellsRegister
    (call : Registration → Registration → Result Registration (Tried RegisterRefusal) → Type 0)
    (old new : AnyMember) (status : ℤ) (old_child new_child : Option Kept) : Type 0 where
  pub answer : Result AnyMember (Tried RegisterRefusal)
  pub call_is : call (state_in old) (state_in new) (state_of answer)
  pub op : op_in new ≡ op_in old
  pub status_is : status ≡ tried_status register_status answer
  pub child : GivesChild (op_in old) answer old_child new_child

-- where a registration stood when it asked, in the numbers of C
pub record IsAskedAt (a : AnyAsked) (standing : Standing) : Type 0 where
  pub number : standing.number ≡ (asked_state a).reg.number
  pub signal_phase : standing.signal_phase ≡ (asked_state a).reg.entry.signal_phase
  pub wait_phase : standing.wait_phase ≡ (asked_state a).reg.entry.wait_phase
  pub mode : standing.mode ≡ mode_number (asked_state a).reg.entry.mode
  pub operation : standing.operation ≡ op_number (op_asked a)

-- where a registration stands, in the numbers of C
pub record IsStanding (m : AnyMember) (standing : Standing) : Type 0 where
  pub number : standing.number ≡ (state_in m).number
  pub signal_phase : standing.signal_phase ≡ (state_in m).entry.signal_phase
  pub wait_phase : standing.wait_phase ≡ (state_in m).entry.wait_phase
  pub mode : standing.mode ≡ mode_number (state_in m).entry.mode
  pub operation : standing.operation ≡ op_number (op_in m)
