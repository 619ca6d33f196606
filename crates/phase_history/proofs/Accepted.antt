-- The event of a call and its reply is accepted.
use Rattle.std.proofs.Common.{ℕ, ◌≡◌, ◌+◌, ◌-◌, ◌<◌, ◌≤◌, true, false, cond, ltb, min, ℤ, List, Some, None, refl, arith, Option, Ok, Err}
use Rattle.std.specs.Prelude.{Result}
use Rattle.std.proofs.lemmas.Bool.{ltb-true}
use Rattle.phase_base.specs.Limits.{Limits}
use Rattle.phase_accum.specs.declared.outcome.Outcome.{Outcome}
use Rattle.phase_history.specs.declared.call.Call.{Call}
use Rattle.phase_history.specs.declared.call.Call.TheVariants.{Register, RegisterNow, Signal, Wait, WaitBlock, Drop}
use Rattle.phase_history.specs.declared.reply.Reply.TheVariants.{Accepted, JoinedAt, SignalledIn, Received, ReceivedBlock, NotRegistered, NotSignalled, NotReceived, NotDropped}
use Rattle.phase_base.specs.declared.mode.Mode.{Mode}
use Rattle.phase_accum.specs.declared.single.Single.{Single}
use Rattle.phase_history.specs.declared.refusal.NoTask.{NoTask}
use Rattle.phase_history.specs.declared.refusal.RegisterRefusal.{RegisterRefusal}
use Rattle.phase_history.specs.declared.refusal.SignalRefusal.{SignalRefusal}
use Rattle.phase_history.specs.declared.refusal.WaitRefusal.{WaitRefusal}
use Rattle.phase_history.specs.declared.got.Got.{Got}
use Rattle.phase_history.specs.declared.got.GotBlock.{GotBlock}
use Rattle.phase_history.specs.declared.got.Got.TheVariants as got
use Rattle.phase_history.specs.declared.got.GotBlock.TheVariants as block
use Rattle.phase_history.specs.Histories.{History, signal_phase, wait_phase, done_of}
use Rattle.phase_history.specs.Phases.{value_of_phase}
use Rattle.phase_history.specs.Refusals.{register_refusal, register_now_refusal, signal_refusal, wait_refusal, drop_refusal}
use Rattle.phase_history.specs.Replies.{refused_or, got_at, got_block_at, reply_by, reply_to, after_reply, after_register, after_register_now, after_signal, after_wait, after_wait_block, after_drop}
use Rattle.phase_history.specs.Legal.{IsLegal}
use Rattle.phase_history.specs.Blocks.{CanBeMade}
use Rattle.phase_history.proofs.BlockAnswers.{wait_refusal-fewer, asked_some}

pub accepted_law : (value : List ℤ → Outcome) (limits : Limits) (h : History) (call : Call) → IsLegal limits h → CanBeMade call
    → IsLegal limits (after_reply call (reply_to value limits h call) h)
accepted_law value limits h (Register parent child mode) legal can =
    elim (register_refusal h parent child mode) as (λ o. (register_refusal h parent child mode ≡ o)
    → IsLegal limits (after_reply (Register parent child mode) (reply_by (λ answer. Accepted) NotRegistered (refused_or o child)) h)) [
      | None ↦ λ none. (legal, none)
      | Some refusal ↦ λ some. legal
    ] refl
accepted_law value limits h (RegisterNow parent child) legal can =
    elim (register_now_refusal h parent child) as (λ o. (register_now_refusal h parent child ≡ o)
    → IsLegal limits (after_reply (RegisterNow parent child) (reply_by JoinedAt NotRegistered (refused_or o (done_of h))) h)) [
      | None ↦ λ none. (legal, none)
      | Some refusal ↦ λ some. legal
    ] refl
accepted_law value limits h (Signal task lists single) legal can =
    elim (signal_refusal limits h task lists single) as (λ o. (signal_refusal limits h task lists single ≡ o)
    → IsLegal limits (after_reply (Signal task lists single) (reply_by SignalledIn NotSignalled (refused_or o (signal_phase h task))) h)) [
      | None ↦ λ none. (legal, (none, can.0, can.1))
      | Some refusal ↦ λ some. legal
    ] refl
accepted_law value limits h (Wait task) legal can =
    let w = wait_phase h task in
    elim (wait_refusal limits h task 1) as (λ o. (wait_refusal limits h task 1 ≡ o)
    → IsLegal limits (after_reply (Wait task) (reply_by Received NotReceived (refused_or o (got_at value h w))) h)) [
      | None ↦ λ none.
          elim (ltb w (done_of h)) as (λ b. (ltb w (done_of h) ≡ b)
          → IsLegal limits (after_reply (Wait task) (Received (cond b (got.Value w (value_of_phase value h w)) got.Ended)) h)) [
            | true ↦ λ t.
                let below : w < done_of h = ltb-true w (done_of h) t in (legal, (none, (let fits : w + 1 ≤ done_of h = omega arith in fits)))
            | false ↦ λ t. legal
          ] refl
      | Some refusal ↦ λ some. legal
    ] refl
accepted_law value limits h (WaitBlock task n) legal can =
    let w = wait_phase h task in
    let k = min n (done_of h - w) in
    elim (wait_refusal limits h task n) as (λ o. (wait_refusal limits h task n ≡ o)
    → IsLegal limits (after_reply (WaitBlock task n) (reply_by ReceivedBlock NotReceived (refused_or o (got_block_at h w n))) h)) [
      | None ↦ λ none.
          elim (ltb w (done_of h)) as (λ b. (ltb w (done_of h) ≡ b)
          → IsLegal limits (after_reply (WaitBlock task n) (ReceivedBlock (cond b (block.Values w k) block.Ended)) h)) [
            | true ↦ λ t.
                let below : w < done_of h = ltb-true w (done_of h) t in
                let asked : 1 ≤ n = asked_some limits h task n none in
                let fits : w + k ≤ done_of h = omega arith in
                (legal, (wait_refusal-fewer limits h task n k none (omega arith) (omega arith), fits))
            | false ↦ λ t. legal
          ] refl
      | Some refusal ↦ λ some. legal
    ] refl
accepted_law value limits h (Drop task) legal can =
    elim (drop_refusal h task) as (λ o. (drop_refusal h task ≡ o)
    → IsLegal limits (after_reply (Drop task) (reply_by (λ answer. Accepted) NotDropped (refused_or o task)) h)) [
      | None ↦ λ none. (legal, none)
      | Some refusal ↦ λ some. legal
    ] refl

-- ---- the words for single calls

pub after_register-is : (parent child : ℕ) (mode : Mode) (h : History) (r : Result ℕ RegisterRefusal)
    → after_register r parent child mode h
    ≡ after_reply (Register parent child mode) (reply_by (λ answer. Accepted) NotRegistered r) h
after_register-is parent child mode h (Ok answer) = refl
after_register-is parent child mode h (Err refusal) = refl

pub after_register_now-is : (parent child : ℕ) (h : History) (r : Result ℕ RegisterRefusal)
    → after_register_now r parent child h ≡ after_reply (RegisterNow parent child) (reply_by JoinedAt NotRegistered r) h
after_register_now-is parent child h (Ok answer) = refl
after_register_now-is parent child h (Err refusal) = refl

pub after_signal-is : (task : ℕ) (lists : List (List ℤ)) (single : Option Single) (h : History) (r : Result ℕ SignalRefusal)
    → after_signal r task lists single h
    ≡ after_reply (Signal task lists single) (reply_by SignalledIn NotSignalled r) h
after_signal-is task lists single h (Ok answer) = refl
after_signal-is task lists single h (Err refusal) = refl

pub after_wait-is : (task : ℕ) (h : History) (r : Result Got WaitRefusal)
    → after_wait r task h ≡ after_reply (Wait task) (reply_by Received NotReceived r) h
after_wait-is task h (Ok (got.Value phase outcome)) = refl
after_wait-is task h (Ok got.Ended) = refl
after_wait-is task h (Err refusal) = refl

pub after_wait_block-is : (task n : ℕ) (h : History) (r : Result GotBlock WaitRefusal)
    → after_wait_block r task h ≡ after_reply (WaitBlock task n) (reply_by ReceivedBlock NotReceived r) h
after_wait_block-is task n h (Ok (block.Values phase count)) = refl
after_wait_block-is task n h (Ok block.Ended) = refl
after_wait_block-is task n h (Err refusal) = refl

pub after_drop-is : (task : ℕ) (h : History) (r : Result ℕ NoTask)
    → after_drop r task h ≡ after_reply (Drop task) (reply_by (λ answer. Accepted) NotDropped r) h
after_drop-is task h (Ok answer) = refl
after_drop-is task h (Err refusal) = refl
