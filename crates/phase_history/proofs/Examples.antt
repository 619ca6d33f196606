-- The definitions at work: short scripts of calls, whose replies are computed here and compared
-- with replies that were found by hand.
use Rattle.std.proofs.Common.{◌≡◌, ℕ, ◌≤◌, List, [], ◌∷◌, ◌++◌, Some, None, ℤ, pos, negsuc, cond, eqb, refl, arith}
use Rattle.phase_base.specs.Limits.{Limits, limits, AreLimits}
use Rattle.phase_base.specs.declared.mode.Mode.{Mode}
use Rattle.phase_base.specs.declared.mode.Mode.TheVariants.{Sig, Wait, SigWait, Single}
use Rattle.phase_accum.specs.declared.outcome.Outcome.{Outcome}
use Rattle.phase_accum.specs.declared.outcome.Outcome.TheVariants.{Value, Empty, TooBig}
use Rattle.phase_accum.specs.declared.single.Single.{Single as SingleFn}
use Rattle.phase_accum.specs.declared.single.Single.TheVariants.{Neg, Abs, Halve, Clamp}
use Rattle.phase_accum.specs.Values.{sum_value, product_value, least_value, any_value}
use Rattle.phase_history.specs.declared.event.Event.TheVariants.{Made, Registered, Signalled, Waited, Dropped}
use Rattle.phase_history.specs.declared.got.Got.TheVariants as gets
use Rattle.phase_history.specs.declared.refusal.RegisterRefusal.TheVariants as joins
use Rattle.phase_history.specs.declared.refusal.SignalRefusal.TheVariants as signals
use Rattle.phase_history.specs.declared.refusal.WaitRefusal.TheVariants as waits
use Rattle.phase_history.specs.Histories.{History, entry_at, start_of, done_of, top_of, greatest_used, phases_signalled, phases_waited}
use Rattle.phase_history.specs.Legal.{IsLegal}
use Rattle.phase_history.specs.Refusals.{signal_refusal, wait_refusal}
use Rattle.phase_history.specs.declared.refusal.NoTask.{NoTask}
use Rattle.phase_history.specs.Phases.{stream_of, received_by}
use Rattle.phase_history.specs.declared.got.GotBlock.TheVariants as got_block
use Rattle.phase_history.specs.declared.call.Call.{Call}
use Rattle.phase_history.specs.declared.call.Call.TheVariants.{Register, RegisterNow, Signal, Drop, WaitBlock, Wait as WaitCall}
use Rattle.phase_history.specs.declared.reply.Reply.{Reply}
use Rattle.phase_history.specs.declared.reply.Reply.TheVariants.{Accepted, JoinedAt, SignalledIn, Received, ReceivedBlock, NotRegistered, NotSignalled, NotReceived, NotDropped}
use Rattle.phase_history.specs.Replies.{reply_to, after_reply}
use Rattle.phase_history.specs.Blocks.{one_by_one_refusal}

-- a line of a script: a send that the task holds until its next signal, or another call
data Line : Type 0 where
  send : (task : ℕ) (value : ℤ) → Line
  add : (parent child : ℕ) (mode : Mode) → Line
  now : (parent child : ℕ) → Line
  signal : (task : ℕ) → Line
  signal_by : (task : ℕ) (single : SingleFn) → Line
  wait : (task : ℕ) → Line
  leave : (task : ℕ) → Line
  block : (task : ℕ) (lists : List (List ℤ)) → Line
  take : (task n : ℕ) → Line

-- the sends that a task holds, of sends with their tasks in order
abbrev held_by : List (ℕ × ℤ) → ℕ → List ℤ
held_by [] task = []
held_by (held ∷ others) task = cond (eqb held.0 task) (held.1 ∷ held_by others task) (held_by others task)

abbrev not_held_by : List (ℕ × ℤ) → ℕ → List (ℕ × ℤ)
not_held_by [] task = []
not_held_by (held ∷ others) task =
    cond (eqb held.0 task) (not_held_by others task) (held ∷ not_held_by others task)

-- the call of a line. A send is no call: `replies` has it first
abbrev call_of : List (ℕ × ℤ) → Line → Call
call_of held (send task value) = Drop task
call_of held (add parent child mode) = Register parent child mode
call_of held (now parent child) = RegisterNow parent child
call_of held (signal task) = Signal task (held_by held task ∷ []) None
call_of held (signal_by task single) = Signal task (held_by held task ∷ []) (Some single)
call_of held (wait task) = WaitCall task
call_of held (leave task) = Drop task
call_of held (block task lists) = Signal task lists None
call_of held (take task n) = WaitBlock task n

-- what stays held after a line and its reply
abbrev held_after : List (ℕ × ℤ) → Line → Reply → List (ℕ × ℤ)
held_after held (signal task) (SignalledIn phase) = not_held_by held task
held_after held (signal_by task single) (SignalledIn phase) = not_held_by held task
held_after held (leave task) reply = not_held_by held task
held_after held line reply = held

-- the replies to the lines
abbrev replies : (List ℤ → Outcome) → Limits → History → List (ℕ × ℤ) → List Line → List Reply
replies value lims h held [] = []
replies value lims h held (send task v ∷ lines) =
    Accepted ∷ replies value lims h (held ++ (task, v) ∷ []) lines
replies value lims h held (line ∷ lines) =
    let call = call_of held line in
    let reply = reply_to value lims h call in
    reply ∷ replies value lims (after_reply call reply h) (held_after held line reply) lines

-- the history that the lines leave
abbrev leaves : (List ℤ → Outcome) → Limits → History → List (ℕ × ℤ) → List Line → History
leaves value lims h held [] = h
leaves value lims h held (send task v ∷ lines) =
    leaves value lims h (held ++ (task, v) ∷ []) lines
leaves value lims h held (line ∷ lines) =
    let call = call_of held line in
    let reply = reply_to value lims h call in
    leaves value lims (after_reply call reply h) (held_after held line reply) lines

-- the replies of a script on a phaser with this bound and this many phases, made by task 0
abbrev run : (List ℤ → Outcome) → ℕ → ℕ → List Line → List Reply
run value bound phases lines = replies value (limits bound phases) (Made 0 ∷ []) [] lines

-- a value of a phase
abbrev got : ℕ → ℤ → Reply
got phase v = Received (gets.Value phase (Value v))

-- values of so many phases from this one on
abbrev values : ℕ → ℕ → Reply
values phase count = ReceivedBlock (got_block.Values phase count)

abbrev no_task : NoTask
no_task = record {}

-- a list of one send
abbrev one : ℕ → List ℤ
one n = pos n ∷ []

-- the events of `late_waiter`, the newest first
abbrev late_history : History
late_history =
    Waited 3 1 ∷ Waited 2 1 ∷ Waited 3 1 ∷ Registered 2 3 Wait ∷ Waited 2 1 ∷ Waited 2 1
    ∷ Signalled 1 (one 40 ∷ []) None ∷ Signalled 1 (one 30 ∷ []) None ∷ Signalled 1 (one 20 ∷ []) None
    ∷ Signalled 1 (one 10 ∷ []) None ∷ Dropped 0 ∷ Registered 0 2 Wait ∷ Registered 0 1 Sig ∷ Made 0 ∷ []

first_run : run sum_value 2 100 (send 0 (pos 5) ∷ signal 0 ∷ wait 0 ∷ [])
    ≡ Accepted ∷ SignalledIn 0 ∷ got 0 (pos 5) ∷ []
first_run = refl

no_send_sum : run sum_value 2 100 (signal 0 ∷ wait 0 ∷ []) ≡ SignalledIn 0 ∷ got 0 (pos 0) ∷ []
no_send_sum = refl

no_send_product : run product_value 2 100 (signal 0 ∷ wait 0 ∷ [])
    ≡ SignalledIn 0 ∷ got 0 (pos 1) ∷ []
no_send_product = refl

no_send_least : run least_value 2 100 (signal 0 ∷ wait 0 ∷ [])
    ≡ SignalledIn 0 ∷ Received (gets.Value 0 Empty) ∷ []
no_send_least = refl

turns : run sum_value 2 100 (wait 0 ∷ signal 0 ∷ signal 0 ∷ wait 0 ∷ [])
    ≡ NotReceived waits.SignalFirst ∷ SignalledIn 0 ∷ NotSignalled signals.SignalTwice ∷ got 0 (pos 0)
    ∷ []
turns = refl

modes : run sum_value 2 100 (add 0 1 Wait ∷ add 1 2 Sig ∷ add 0 1 Sig ∷ add 1 2 Wait ∷ [])
    ≡ Accepted ∷ NotRegistered joins.NotAllowed ∷ NotRegistered joins.NotNew ∷ Accepted ∷ []
modes = refl

members_come_and_go : run sum_value 2 100
    (add 0 1 Sig ∷ add 0 2 Wait ∷ leave 0 ∷ send 1 (pos 7) ∷ signal 1 ∷ signal 1 ∷ signal 1
    ∷ wait 2 ∷ signal 1 ∷ [])
    ≡ Accepted ∷ Accepted ∷ Accepted ∷ Accepted ∷ SignalledIn 0 ∷ SignalledIn 1
    ∷ NotSignalled signals.Ahead ∷ got 0 (pos 7) ∷ SignalledIn 2 ∷ []
members_come_and_go = refl

-- a signaller that joins late holds the phases back, and the slower waiter holds the signallers
members_hold_back : run sum_value 2 100
    (add 0 1 Sig ∷ add 0 2 Wait ∷ add 0 3 Wait ∷ leave 0 ∷ signal 1 ∷ signal 1 ∷ add 1 4 Sig
    ∷ wait 2 ∷ wait 2 ∷ wait 2 ∷ signal 1 ∷ wait 3 ∷ send 1 (pos 5) ∷ signal 1 ∷ wait 2
    ∷ send 4 (pos 6) ∷ signal 4 ∷ wait 2 ∷ wait 3 ∷ wait 3 ∷ [])
    ≡ Accepted ∷ Accepted ∷ Accepted ∷ Accepted ∷ SignalledIn 0 ∷ SignalledIn 1 ∷ Accepted
    ∷ got 0 (pos 0) ∷ got 1 (pos 0) ∷ NotReceived waits.NotYet ∷ NotSignalled signals.Ahead
    ∷ got 0 (pos 0) ∷ Accepted ∷ SignalledIn 2 ∷ NotReceived waits.NotYet
    ∷ Accepted ∷ SignalledIn 2 ∷ got 2 (pos 11) ∷ got 1 (pos 0) ∷ got 2 (pos 11) ∷ []
members_hold_back = refl

late_waiter : run sum_value 4 100
    (add 0 1 Sig ∷ add 0 2 Wait ∷ leave 0 ∷ send 1 (pos 10) ∷ signal 1 ∷ send 1 (pos 20)
    ∷ signal 1 ∷ send 1 (pos 30) ∷ signal 1 ∷ send 1 (pos 40) ∷ signal 1 ∷ wait 2 ∷ wait 2
    ∷ add 2 3 Wait ∷ wait 3 ∷ wait 2 ∷ wait 3 ∷ wait 3 ∷ [])
    ≡ Accepted ∷ Accepted ∷ Accepted ∷ Accepted ∷ SignalledIn 0 ∷ Accepted ∷ SignalledIn 1 ∷ Accepted
    ∷ SignalledIn 2 ∷ Accepted ∷ SignalledIn 3 ∷ got 0 (pos 10) ∷ got 1 (pos 20) ∷ Accepted
    ∷ got 2 (pos 30) ∷ got 2 (pos 30) ∷ got 3 (pos 40) ∷ NotReceived waits.NotYet ∷ []
late_waiter = refl

last_signaller_drops : run sum_value 4 100
    (add 0 1 Sig ∷ add 0 2 Sig ∷ add 0 3 Wait ∷ leave 0 ∷ send 1 (pos 1) ∷ signal 1
    ∷ send 2 (pos 10) ∷ signal 2 ∷ send 2 (pos 20) ∷ signal 2 ∷ send 2 (pos 30) ∷ signal 2
    ∷ leave 2 ∷ wait 3 ∷ wait 3 ∷ leave 1 ∷ wait 3 ∷ wait 3 ∷ wait 3 ∷ wait 3 ∷ [])
    ≡ Accepted ∷ Accepted ∷ Accepted ∷ Accepted ∷ Accepted ∷ SignalledIn 0 ∷ Accepted ∷ SignalledIn 0
    ∷ Accepted ∷ SignalledIn 1 ∷ Accepted ∷ SignalledIn 2 ∷ Accepted ∷ got 0 (pos 11)
    ∷ NotReceived waits.NotYet ∷ Accepted ∷ got 1 (pos 20) ∷ got 2 (pos 30)
    ∷ Received gets.Ended ∷ Received gets.Ended ∷ []
last_signaller_drops = refl

drop_gives_up_sends : run sum_value 4 100
    (add 0 1 Sig ∷ send 1 (pos 9) ∷ leave 1 ∷ send 0 (pos 4) ∷ signal 0 ∷ wait 0 ∷ [])
    ≡ Accepted ∷ Accepted ∷ Accepted ∷ Accepted ∷ SignalledIn 0 ∷ got 0 (pos 4) ∷ []
drop_gives_up_sends = refl

singles : run sum_value 2 100
    (add 0 1 Wait ∷ add 0 2 SigWait ∷ send 0 (pos 5) ∷ signal_by 0 Halve ∷ signal 2
    ∷ signal_by 2 Halve ∷ leave 2 ∷ wait 0 ∷ wait 1 ∷ [])
    ≡ Accepted ∷ Accepted ∷ Accepted ∷ SignalledIn 0 ∷ NotSignalled signals.SingleDiffers
    ∷ NotSignalled signals.NotSingle ∷ Accepted ∷ got 0 (pos 2) ∷ got 0 (pos 2) ∷ []
singles = refl

any_takes_first : run any_value 2 100
    (add 0 1 Sig ∷ send 0 (pos 4) ∷ send 1 (pos 9) ∷ signal 1 ∷ signal 0 ∷ wait 0 ∷ [])
    ≡ Accepted ∷ Accepted ∷ Accepted ∷ SignalledIn 0 ∷ SignalledIn 0 ∷ got 0 (pos 9) ∷ []
any_takes_first = refl

any_takes_first_of_one : run any_value 2 100
    (add 0 1 Sig ∷ send 0 (pos 3) ∷ send 0 (pos 8) ∷ send 1 (pos 9) ∷ signal 0 ∷ signal 1 ∷ wait 0 ∷ [])
    ≡ Accepted ∷ Accepted ∷ Accepted ∷ Accepted ∷ SignalledIn 0 ∷ SignalledIn 0 ∷ got 0 (pos 3) ∷ []
any_takes_first_of_one = refl

least_takes_least : run least_value 2 100
    (add 0 1 Sig ∷ send 0 (pos 4) ∷ send 1 (pos 9) ∷ signal 1 ∷ signal 0 ∷ wait 0 ∷ [])
    ≡ Accepted ∷ Accepted ∷ Accepted ∷ SignalledIn 0 ∷ SignalledIn 0 ∷ got 0 (pos 4) ∷ []
least_takes_least = refl

child_between_signal_and_wait : run sum_value 2 100
    (signal 0 ∷ add 0 1 SigWait ∷ signal 1 ∷ wait 1 ∷ wait 0 ∷ [])
    ≡ SignalledIn 0 ∷ Accepted ∷ NotSignalled signals.SignalTwice ∷ got 0 (pos 0) ∷ got 0 (pos 0) ∷ []
child_between_signal_and_wait = refl

without_waiters : run sum_value 1 100
    (add 0 1 Sig ∷ signal_by 0 Neg ∷ signal 1 ∷ leave 0 ∷ signal 1 ∷ signal 1 ∷ signal 1 ∷ [])
    ≡ Accepted ∷ SignalledIn 0 ∷ NotSignalled signals.SingleDiffers ∷ Accepted ∷ SignalledIn 0
    ∷ SignalledIn 1 ∷ SignalledIn 2 ∷ []
without_waiters = refl

-- the limit of phases
limits_of_phases : run sum_value 4 2 (signal 0 ∷ wait 0 ∷ signal 0 ∷ wait 0 ∷ signal 0 ∷ [])
    ≡ SignalledIn 0 ∷ got 0 (pos 0) ∷ SignalledIn 1 ∷ got 1 (pos 0) ∷ NotSignalled signals.Spent ∷ []
limits_of_phases = refl

-- a waiter that joins now begins at the first phase that is not complete
joins_now : run sum_value 4 100
    (add 0 1 Sig ∷ add 0 2 Wait ∷ leave 0 ∷ send 1 (pos 10) ∷ signal 1 ∷ send 1 (pos 20)
    ∷ signal 1 ∷ now 2 3 ∷ wait 3 ∷ signal 1 ∷ wait 3 ∷ wait 2 ∷ now 1 4 ∷ now 9 4 ∷ now 2 3
    ∷ [])
    ≡ Accepted ∷ Accepted ∷ Accepted ∷ Accepted ∷ SignalledIn 0 ∷ Accepted ∷ SignalledIn 1
    ∷ JoinedAt 2 ∷ NotReceived waits.NotYet ∷ SignalledIn 2 ∷ got 2 (pos 0) ∷ got 0 (pos 10)
    ∷ NotRegistered joins.NotAllowed ∷ NotRegistered joins.NoTask ∷ NotRegistered joins.NotNew ∷ []
joins_now = refl

-- a block signals as many phases as it has lists of sends, or none of them
blocks : run sum_value 4 100
    (add 0 1 Sig ∷ add 0 2 Wait ∷ leave 0 ∷ block 1 (one 5 ∷ one 6 ∷ one 7 ∷ []) ∷ wait 2 ∷ wait 2
    ∷ block 1 (one 8 ∷ one 9 ∷ one 10 ∷ one 11 ∷ []) ∷ block 1 (one 8 ∷ one 9 ∷ []) ∷ wait 2 ∷ wait 2
    ∷ wait 2 ∷ wait 2 ∷ block 1 [] ∷ block 1 (one 1 ∷ one 2 ∷ one 3 ∷ one 4 ∷ one 5 ∷ []) ∷ [])
    ≡ Accepted ∷ Accepted ∷ Accepted ∷ SignalledIn 0 ∷ got 0 (pos 5) ∷ got 1 (pos 6)
    ∷ NotSignalled signals.Ahead ∷ SignalledIn 3 ∷ got 2 (pos 7) ∷ got 3 (pos 8)
    ∷ got 4 (pos 9) ∷ NotReceived waits.NotYet ∷ NotSignalled signals.BadBlock
    ∷ NotSignalled signals.BadBlock ∷ []
blocks = refl

-- a wait for a block takes what is complete, at most what was asked
blocks_taken : run sum_value 4 100
    (add 0 1 Sig ∷ add 0 2 Wait ∷ leave 0 ∷ block 1 (one 5 ∷ one 6 ∷ one 7 ∷ []) ∷ take 2 2
    ∷ block 1 (one 8 ∷ one 9 ∷ one 10 ∷ one 11 ∷ []) ∷ block 1 (one 8 ∷ one 9 ∷ []) ∷ take 2 5
    ∷ take 2 4 ∷ take 2 1 ∷ leave 1 ∷ take 2 1 ∷ take 2 0 ∷ [])
    ≡ Accepted ∷ Accepted ∷ Accepted ∷ SignalledIn 0 ∷ values 0 2
    ∷ NotSignalled signals.Ahead ∷ SignalledIn 3 ∷ NotReceived waits.BadBlock
    ∷ values 2 3 ∷ NotReceived waits.NotYet ∷ Accepted ∷ ReceivedBlock got_block.Ended
    ∷ NotReceived waits.BadBlock ∷ []
blocks_taken = refl

-- and what it took
values_taken : received_by sum_value
    (Waited 2 3 ∷ Signalled 1 (one 8 ∷ one 9 ∷ []) None ∷ Waited 2 2
    ∷ Signalled 1 (one 5 ∷ one 6 ∷ one 7 ∷ []) None
    ∷ Dropped 0 ∷ Registered 0 2 Wait ∷ Registered 0 1 Sig ∷ Made 0 ∷ []) 2
    ≡ Value (pos 5) ∷ Value (pos 6) ∷ Value (pos 7) ∷ Value (pos 8) ∷ Value (pos 9) ∷ []
values_taken = refl

-- a wait for more phases than are complete goes on only as far as these, and the next wait from there
abbrev short_blocks : List Line
short_blocks =
    add 0 1 Sig ∷ add 0 2 Wait ∷ leave 0 ∷ block 1 (one 5 ∷ one 6 ∷ []) ∷ take 2 4
    ∷ block 1 (one 7 ∷ one 8 ∷ one 9 ∷ []) ∷ take 2 2 ∷ take 2 4 ∷ take 2 1 ∷ []

abbrev short_history : History
short_history =
    Waited 2 1 ∷ Waited 2 2 ∷ Signalled 1 (one 7 ∷ one 8 ∷ one 9 ∷ []) None ∷ Waited 2 2
    ∷ Signalled 1 (one 5 ∷ one 6 ∷ []) None ∷ Dropped 0 ∷ Registered 0 2 Wait ∷ Registered 0 1 Sig ∷ Made 0 ∷ []

short_blocks_taken : run sum_value 4 100 short_blocks
    ≡ Accepted ∷ Accepted ∷ Accepted ∷ SignalledIn 0 ∷ values 0 2 ∷ SignalledIn 2 ∷ values 2 2
    ∷ values 4 1 ∷ NotReceived waits.NotYet ∷ []
short_blocks_taken = refl

short_blocks_leave : leaves sum_value (limits 4 100) (Made 0 ∷ []) [] short_blocks ≡ short_history
short_blocks_leave = refl

short_blocks_received : received_by sum_value short_history 2
    ≡ Value (pos 5) ∷ Value (pos 6) ∷ Value (pos 7) ∷ Value (pos 8) ∷ Value (pos 9) ∷ []
short_blocks_received = refl

-- the second block is refused for the last of its signals
ahead_one_by_one : one_by_one_refusal (limits 4 100)
    (Waited 2 2 ∷ Signalled 1 (one 5 ∷ one 6 ∷ one 7 ∷ []) None ∷ Dropped 0 ∷ Registered 0 2 Wait
    ∷ Registered 0 1 Sig ∷ Made 0 ∷ []) 1 (one 8 ∷ one 9 ∷ one 10 ∷ one 11 ∷ []) None ≡ Some signals.Ahead
ahead_one_by_one = refl

-- a task that waits too signals one phase at a time, and a block past the last phase is refused
blocks_in_turn : run sum_value 4 100 (block 0 (one 1 ∷ one 2 ∷ []) ∷ block 0 (one 1 ∷ []) ∷ take 0 3 ∷ [])
    ≡ NotSignalled signals.SignalTwice ∷ SignalledIn 0 ∷ values 0 1 ∷ []
blocks_in_turn = refl

blocks_past_the_limit : run sum_value 4 2 (add 0 1 Sig ∷ block 1 (one 1 ∷ one 2 ∷ one 3 ∷ []) ∷ [])
    ≡ Accepted ∷ NotSignalled signals.Spent ∷ []
blocks_past_the_limit = refl

-- two signallers' blocks meet phase by phase
blocks_meet : run sum_value 2 100
    (add 0 1 Sig ∷ add 0 2 Sig ∷ add 0 3 Wait ∷ leave 0 ∷ block 1 (one 9223372036854775807 ∷ one 1 ∷ [])
    ∷ block 2 (one 1 ∷ one 2 ∷ []) ∷ wait 3 ∷ wait 3 ∷ [])
    ≡ Accepted ∷ Accepted ∷ Accepted ∷ Accepted ∷ SignalledIn 0 ∷ SignalledIn 0
    ∷ Received (gets.Value 0 TooBig) ∷ got 1 (pos 3) ∷ []
blocks_meet = refl

-- singles are applied once, after the range check, and leave a phase without a value
singles_in_turn : run least_value 2 100
    (signal_by 0 Abs ∷ wait 0 ∷ send 0 (negsuc 4) ∷ signal_by 0 Halve ∷ wait 0 ∷ send 0 (pos 15)
    ∷ signal_by 0 (Clamp (pos 0, pos 10)) ∷ wait 0 ∷ [])
    ≡ SignalledIn 0 ∷ Received (gets.Value 0 Empty) ∷ Accepted ∷ SignalledIn 1 ∷ got 1 (negsuc 2)
    ∷ Accepted ∷ SignalledIn 2 ∷ got 2 (pos 10) ∷ []
singles_in_turn = refl

-- what the waiter of `late_waiter` has received, by its events: the stream from its start
late_waiter_received : received_by sum_value late_history 3 ≡ Value (pos 30) ∷ Value (pos 40) ∷ []
late_waiter_received = refl

late_waiter_stream : stream_of sum_value late_history ≡ Value (pos 10) ∷ Value (pos 20) ∷ Value (pos 30) ∷ Value (pos 40) ∷ []
late_waiter_stream = refl

-- a waiter that joins now begins where the phases are not complete, also behind the top
joins_at_done : run sum_value 2 100
    (add 0 1 Sig ∷ signal 0 ∷ signal 1 ∷ signal 1 ∷ now 0 2 ∷ add 0 3 Wait ∷ wait 2 ∷ wait 3 ∷ [])
    ≡ Accepted ∷ SignalledIn 0 ∷ SignalledIn 0 ∷ SignalledIn 1 ∷ JoinedAt 1 ∷ Accepted
    ∷ NotReceived waits.NotYet ∷ got 0 (pos 0) ∷ []
joins_at_done = refl

-- where two rows of a table apply, the first is the answer
first_row_first : run sum_value 1 1
    (add 0 1 SigWait ∷ add 1 0 Single ∷ add 0 2 Wait ∷ signal 0 ∷ signal_by 1 Neg ∷ signal 1
    ∷ signal_by 0 Neg ∷ wait 0 ∷ signal_by 0 Neg ∷ wait 5 ∷ signal 5 ∷ leave 5 ∷ add 5 0 Sig ∷ [])
    ≡ Accepted ∷ NotRegistered joins.NotAllowed ∷ Accepted ∷ SignalledIn 0
    ∷ NotSignalled signals.NotSingle ∷ SignalledIn 0 ∷ NotSignalled signals.SignalTwice ∷ got 0 (pos 0)
    ∷ NotSignalled signals.Spent ∷ NotReceived waits.NoTask ∷ NotSignalled signals.NoTask
    ∷ NotDropped no_task ∷ NotRegistered joins.NoTask ∷ []
first_row_first = refl

-- a child of a child whose parent has dropped, and a number that a refused call leaves new
children : run sum_value 4 100
    (add 0 1 SigWait ∷ add 1 2 Single ∷ add 1 2 Sig ∷ leave 1 ∷ leave 0 ∷ add 2 3 Wait ∷ add 2 3 Sig
    ∷ signal 3 ∷ send 2 (pos 4) ∷ signal 2 ∷ wait 2 ∷ wait 1 ∷ [])
    ≡ Accepted ∷ NotRegistered joins.NotAllowed ∷ Accepted ∷ Accepted ∷ Accepted
    ∷ NotRegistered joins.NotAllowed ∷ Accepted ∷ SignalledIn 0 ∷ Accepted ∷ SignalledIn 0
    ∷ NotReceived waits.NoWait ∷ NotReceived waits.NoTask ∷ []
children = refl

-- ---- the eight events of `members_come_and_go`, and what they leave

abbrev eight_events : History
eight_events =
    Signalled 1 ([] ∷ []) None ∷ Waited 2 1 ∷ Signalled 1 ([] ∷ []) None ∷ Signalled 1 (one 7 ∷ []) None
    ∷ Dropped 0 ∷ Registered 0 2 Wait ∷ Registered 0 1 Sig ∷ Made 0 ∷ []

eight_stream : stream_of sum_value eight_events ≡ Value (pos 7) ∷ Value (pos 0) ∷ Value (pos 0) ∷ []
eight_stream = refl

eight_received : received_by sum_value eight_events 2 ≡ Value (pos 7) ∷ []
eight_received = refl

eight_numbers : done_of eight_events ∷ top_of eight_events ∷ greatest_used eight_events
    ∷ phases_signalled eight_events 1 ∷ phases_waited eight_events 2 ∷ []
    ≡ 3 ∷ 3 ∷ 2 ∷ 3 ∷ 1 ∷ []
eight_numbers = refl

eight_starts : start_of eight_events 1 ∷ start_of eight_events 0 ∷ start_of eight_events 3 ∷ []
    ≡ Some (entry_at Sig 0 0) ∷ Some (entry_at Single 0 0) ∷ None ∷ []
eight_starts = refl

limits_are : AreLimits (limits 2 100)
limits_are = record { bound_least = omega arith; bound_most = omega arith; phases_least = omega arith; phases_most = omega arith }

eight_is_legal : IsLegal (limits 2 100) eight_events
eight_is_legal =
    ((((((((limits_are, refl), refl), refl), refl), (refl, ((record { small = omega arith }, tt), omega arith, tt), tt)), (refl, (tt, omega arith, tt), tt)), (refl, omega arith)), (refl, (tt, omega arith, tt), tt))

-- no call can name a clamp whose ends are no values
names_no_clamp_past_the_values : IsLegal (limits 2 100)
    (Signalled 0 ([] ∷ []) (Some (Clamp (pos 9223372036854775808, pos 9223372036854775808))) ∷ Made 0 ∷ []) → ⊥
names_no_clamp_past_the_values legal =
    let low : 9223372036854775808 ≤ 9223372036854775807 = legal.1.2.low_small in omega arith

-- one signal more would be ahead
nine_are_too_many : signal_refusal (limits 2 100) eight_events 1 ([] ∷ []) None ≡ Some signals.Ahead
nine_are_too_many = refl

-- a wait for two phases at once
two_at_once : received_by sum_value (Waited 2 2 ∷ eight_events) 2
    ≡ Value (pos 7) ∷ Value (pos 0) ∷ Value (pos 0) ∷ []
two_at_once = refl

two_are_accepted : wait_refusal (limits 2 100) eight_events 2 2 ∷ wait_refusal (limits 2 100) eight_events 2 3 ∷ []
    ≡ None ∷ Some waits.BadBlock ∷ []
two_are_accepted = refl
