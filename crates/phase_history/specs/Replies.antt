-- What a phaser answers to a call after a history, and the event that a call with its reply makes.
use Rattle.std.specs.Prelude.{ℕ, ◌-◌, ℤ, min, List, ◌∷◌, Option, Some, None, Result, Ok, Err, if◌then◌else◌, nat_lt}
use Rattle.phase_base.specs.Limits.{Limits}
use Rattle.phase_base.specs.declared.mode.Mode.{Mode}
use Rattle.phase_accum.specs.declared.outcome.Outcome.{Outcome}
use Rattle.phase_accum.specs.declared.single.Single.{Single}
use Rattle.phase_history.specs.declared.event.Event.{Event}
use Rattle.phase_history.specs.declared.event.Event.TheVariants.{Registered, RegisteredNow, Signalled, Waited, Dropped}
use Rattle.phase_history.specs.declared.got.Got.{Got}
use Rattle.phase_history.specs.declared.got.Got.TheVariants as got
use Rattle.phase_history.specs.declared.got.GotBlock.{GotBlock}
use Rattle.phase_history.specs.declared.got.GotBlock.TheVariants as block
use Rattle.phase_history.specs.declared.call.Call.{Call}
use Rattle.phase_history.specs.declared.call.Call.TheVariants.{Register, RegisterNow, Signal, Wait, WaitBlock, Drop}
use Rattle.phase_history.specs.declared.reply.Reply.{Reply}
use Rattle.phase_history.specs.declared.reply.Reply.TheVariants.{Accepted, JoinedAt, SignalledIn, Received, ReceivedBlock, NotRegistered, NotSignalled, NotReceived, NotDropped}
use Rattle.phase_history.specs.declared.refusal.SignalRefusal.{SignalRefusal}
use Rattle.phase_history.specs.declared.refusal.WaitRefusal.{WaitRefusal}
use Rattle.phase_history.specs.Histories.{History, signal_phase, wait_phase, done_of}
use Rattle.phase_history.specs.Phases.{value_of_phase}
use Rattle.phase_history.specs.Refusals.{register_refusal, register_now_refusal, signal_refusal, wait_refusal, drop_refusal}

-- the refusal, or else the answer
abbrev pub refused_or : {A R : Type 0} → Option R → A → Result A R
refused_or (Some refusal) answer = Err refusal
refused_or None answer = Ok answer

-- what a waiter at this wait phase gets
abbrev pub got_at : (List ℤ → Outcome) → History → ℕ → Got
got_at value h w =
    if nat_lt w (done_of h) then got.Value w (value_of_phase value h w) else got.Ended

-- a signal answers its first phase
abbrev pub signal_reply : Limits → History → ℕ → List (List ℤ) → Option Single
    → Result ℕ SignalRefusal
signal_reply limits h task lists single =
    refused_or (signal_refusal limits h task lists single) (signal_phase h task)

-- a plain wait answers its phase with the phase's value, or that the stream has ended
abbrev pub wait_reply : (List ℤ → Outcome) → Limits → History → ℕ → Result Got WaitRefusal
wait_reply value limits h task =
    refused_or (wait_refusal limits h task 1) (got_at value h (wait_phase h task))

-- what a waiter at this wait phase gets of at most n phases: as many as are complete
abbrev pub got_block_at : History → ℕ → ℕ → GotBlock
got_block_at h w n =
    if nat_lt w (done_of h) then block.Values w (min n (done_of h - w)) else block.Ended

-- a wait for at most n phases answers its first phase and how many it got, or that the stream has
-- ended
abbrev pub wait_block_reply : Limits → History → ℕ → ℕ → Result GotBlock WaitRefusal
wait_block_reply limits h task n =
    refused_or (wait_refusal limits h task n) (got_block_at h (wait_phase h task) n)

-- the history after a plain wait: one that got a value is an event
abbrev pub after_wait : Result Got WaitRefusal → ℕ → History → History
after_wait (Ok (got.Value phase outcome)) task h = Waited task 1 ∷ h
after_wait (Ok got.Ended) task h = h
after_wait (Err refusal) task h = h

-- the history after a signal of as many phases as there are lists of sends
abbrev pub after_signal : {R : Type 0} → Result ℕ R → ℕ → List (List ℤ) → Option Single → History
    → History
after_signal (Ok phase) task lists single h = Signalled task lists single ∷ h
after_signal (Err refusal) task lists single h = h

-- the history after a registration
abbrev pub after_register : {A R : Type 0} → Result A R → ℕ → ℕ → Mode → History → History
after_register (Ok answer) parent child mode h = Registered parent child mode ∷ h
after_register (Err refusal) parent child mode h = h

-- the history after a registration of a waiter that joins now
abbrev pub after_register_now : {A R : Type 0} → Result A R → ℕ → ℕ → History → History
after_register_now (Ok answer) parent child h = RegisteredNow parent child ∷ h
after_register_now (Err refusal) parent child h = h

-- the history after a drop
abbrev pub after_drop : {A R : Type 0} → Result A R → ℕ → History → History
after_drop (Ok answer) task h = Dropped task ∷ h
after_drop (Err refusal) task h = h

-- the history after a wait for a block: one that got values is an event
abbrev pub after_wait_block : Result GotBlock WaitRefusal → ℕ → History → History
after_wait_block (Ok (block.Values phase count)) task h = Waited task count ∷ h
after_wait_block (Ok block.Ended) task h = h
after_wait_block (Err refusal) task h = h

-- one reply for each way that a result can come out
abbrev pub reply_by : {A R : Type 0} → (A → Reply) → (R → Reply) → Result A R → Reply
reply_by ok err (Ok answer) = ok answer
reply_by ok err (Err refusal) = err refusal

-- the reply to a call
abbrev pub reply_to : (List ℤ → Outcome) → Limits → History → Call → Reply
reply_to value limits h (Register parent child mode) =
    reply_by (λ answer. Accepted) NotRegistered
    (refused_or (register_refusal h parent child mode) child)
reply_to value limits h (RegisterNow parent child) =
    reply_by JoinedAt NotRegistered (refused_or (register_now_refusal h parent child) (done_of h))
reply_to value limits h (Signal task lists single) =
    reply_by SignalledIn NotSignalled (signal_reply limits h task lists single)
reply_to value limits h (Wait task) = reply_by Received NotReceived (wait_reply value limits h task)
reply_to value limits h (WaitBlock task n) =
    reply_by ReceivedBlock NotReceived (wait_block_reply limits h task n)
reply_to value limits h (Drop task) =
    reply_by (λ answer. Accepted) NotDropped (refused_or (drop_refusal h task) task)

-- the event of a call with this reply. A refusal and `Ended` make none, and a wait for a block
-- waited for the phases that it got
abbrev pub event_of : Call → Reply → Option Event
event_of (Register parent child mode) Accepted = Some (Registered parent child mode)
event_of (RegisterNow parent child) (JoinedAt phase) = Some (RegisteredNow parent child)
event_of (Signal task lists single) (SignalledIn phase) = Some (Signalled task lists single)
event_of (Wait task) (Received (got.Value phase outcome)) = Some (Waited task 1)
event_of (WaitBlock task n) (ReceivedBlock (block.Values phase count)) = Some (Waited task count)
event_of (Drop task) Accepted = Some (Dropped task)
event_of call reply = None

-- the history, with one more event where there is one
abbrev pub with_event : Option Event → History → History
with_event None h = h
with_event (Some event) h = event ∷ h

-- the history after a call and its reply
abbrev pub after_reply : Call → Reply → History → History
after_reply call reply h = with_event (event_of call reply) h
