-- What the lines of a script are answered, and what they leave.
use Rattle.std.specs.Prelude.{ℕ, ℤ, List, [], ◌∷◌, ◌++◌, Option, Some, None, Result, Ok, Err, Bool, not, ◌||◌, ◌==◌, nat_le, nat_lt, ◌+◌, length, slice_range, if◌then◌else◌}
use Rattle.phase_base.specs.Limits.{Limits, limits}
use Rattle.phase_base.specs.declared.limits.TheConstants.{BOUND_MAX, PHASES_MAX, SENDS_MAX}
use Rattle.phase_base.specs.Modes.{mode_signals}
use Rattle.phase_base.specs.declared.entry.Entry.{Entry}
use Rattle.phase_base.specs.Members.{entry_of}
use Rattle.phase_accum.specs.Values.{value_by}
use Rattle.phase_accum.specs.declared.outcome.Outcome.{Outcome}
use Rattle.phase_accum.specs.declared.outcome.Outcome.TheVariants as outcome
use Rattle.phase_history.specs.declared.event.Event.TheVariants.{Made}
use Rattle.phase_accum.specs.declared.single.Single.{Single}
use Rattle.phase_history.specs.declared.call.Call.{Call}
use Rattle.phase_history.specs.declared.call.Call.TheVariants as call
use Rattle.phase_history.specs.declared.got.Got.TheVariants as got
use Rattle.phase_history.specs.declared.got.GotBlock.TheVariants as block
use Rattle.phase_history.specs.declared.refusal.NoTask.{NoTask}
use Rattle.phase_history.specs.declared.refusal.RegisterRefusal.{RegisterRefusal}
use Rattle.phase_history.specs.declared.refusal.RegisterRefusal.TheVariants as register
use Rattle.phase_history.specs.declared.refusal.SignalRefusal.{SignalRefusal}
use Rattle.phase_history.specs.declared.refusal.SignalRefusal.TheVariants as signal
use Rattle.phase_history.specs.declared.refusal.WaitRefusal.{WaitRefusal}
use Rattle.phase_history.specs.declared.refusal.WaitRefusal.TheVariants as wait
use Rattle.phase_history.specs.Histories.{History, members_of}
use Rattle.phase_history.specs.declared.reply.Reply.{Reply as CallReply}
use Rattle.phase_history.specs.declared.reply.Reply.TheVariants as call_reply
use Rattle.phase_history.specs.Refusals.{refusal_at, drop_refusal}
use Rattle.phase_base.specs.Lists.{first_row}
use Rattle.phase_core.specs.Blocks.{one_each}
use Rattle.phase_history.specs.Phases.{stream_of}
use Rattle.phase_history.specs.Replies.{reply_to as reply_to_call, after_reply, signal_reply}
use Rattle.phase_base.specs.declared.operation.Op.{Op}
use Rattle.phase_script.specs.Commands.{WholeCommand, Make, Add, Now, Send, Signal, Block, Wait, Take, Drop, command_of}
use Rattle.phase_script.specs.declared.refusal.Refusal.{Refusal}
use Rattle.phase_script.specs.declared.refusal.Refusal.TheVariants as no
use Rattle.phase_script.specs.ReplyLines.{WholeReply, Accepted, Signalled, Joined, Value, Empty, TooBig, Values, Ended, Refused, BadLine, reply_text}

-- the sends that tasks hold, each with its task, in the order in which they came
abbrev pub Held : Type 0
Held = List (ℕ × ℤ)

-- what the lines so far have made: no phaser, or one with its operation, its limits, its history
-- and the sends that its tasks hold
pub data ScriptState : Type 0 where
  NoPhaser : ScriptState
  OnePhaser : (operation : Op) (limits : Limits) (history : History) (held : Held) → ScriptState

-- before the first line
unfoldable pub start : ScriptState
start = NoPhaser

-- the sends that a task holds
abbrev pub held_by : Held → ℕ → List ℤ
held_by [] task = []
held_by (send ∷ sends) task =
    if send.0 == task then send.1 ∷ held_by sends task else held_by sends task

-- the sends that the other tasks hold
abbrev pub held_by_others : Held → ℕ → Held
held_by_others [] task = []
held_by_others (send ∷ sends) task =
    if send.0 == task then held_by_others sends task else send ∷ held_by_others sends task

-- the refusals of a line that makes a phaser, where there is none yet
abbrev pub make_rows : ℕ → ℕ → List (Bool × Refusal)
make_rows bound phases =
    (nat_lt bound 1 || nat_lt BOUND_MAX bound, no.BadBound)
    ∷ (nat_lt phases 1 || nat_lt PHASES_MAX phases, no.BadPhases)
    ∷ []

-- the refusals of a send by a member that holds so many sends
abbrev pub send_rows : ℕ → Entry → List (Bool × Refusal)
send_rows count entry =
    (not (mode_signals entry.mode), no.NoSignal)
    ∷ (nat_le SENDS_MAX count, no.TooManySends)
    ∷ []

-- the refusal, or else that it is done
abbrev pub done_unless : Option Refusal → WholeReply
done_unless (Some refusal) = Refused refusal
done_unless None = Accepted

-- the reply to a line that makes a phaser, where there is none yet
abbrev pub make_reply : ℕ → ℕ → WholeReply
make_reply bound phases = done_unless (first_row (make_rows bound phases))

-- the reply to a send
abbrev pub send_reply : History → Held → ℕ → WholeReply
send_reply h held task =
    done_unless (refusal_at (entry_of (members_of h) task) no.NoTask
    (send_rows (length (held_by held task))))

-- the reason of a refused registration. Want of memory is no row of a table: what stands for it is
-- never seen
abbrev pub register_reason : RegisterRefusal → WholeReply
register_reason register.NoTask = Refused no.NoTask
register_reason register.NotAllowed = Refused no.NotAllowed
register_reason register.NotNew = Refused no.NotNew
register_reason register.TooManyTasks = Refused no.TooManyTasks
register_reason register.OutOfMemory = BadLine

-- the reason of a refused signal
abbrev pub signal_reason : SignalRefusal → WholeReply
signal_reason signal.NoTask = Refused no.NoTask
signal_reason signal.NoSignal = Refused no.NoSignal
signal_reason signal.NotSingle = Refused no.NotSingle
signal_reason signal.SignalTwice = Refused no.SignalTwice
signal_reason signal.Spent = Refused no.Spent
signal_reason signal.Ahead = Refused no.Ahead
signal_reason signal.SingleDiffers = Refused no.SingleDiffers
signal_reason signal.PhaseFull = Refused no.PhaseFull
signal_reason signal.BadBlock = Refused no.BadBlock

-- the reason of a refused wait
abbrev pub wait_reason : WaitRefusal → WholeReply
wait_reason wait.NoTask = Refused no.NoTask
wait_reason wait.NoWait = Refused no.NoWait
wait_reason wait.SignalFirst = Refused no.SignalFirst
wait_reason wait.NotYet = Refused no.NotYet
wait_reason wait.BadBlock = Refused no.BadBlock

-- the value of a phase, as a reply
abbrev pub value_reply : ℕ → Outcome → WholeReply
value_reply phase (outcome.Value value) = Value phase value
value_reply phase outcome.Empty = Empty phase
value_reply phase outcome.TooBig = TooBig phase

-- what a phaser answers to a call, as a reply. What a wait for a block got stands in the phaser's
-- stream: what stands for it here is never seen
abbrev pub script_reply : CallReply → WholeReply
script_reply call_reply.Accepted = Accepted
script_reply (call_reply.JoinedAt phase) = Joined phase
script_reply (call_reply.SignalledIn phase) = Signalled phase
script_reply (call_reply.Received (got.Value phase outcome)) = value_reply phase outcome
script_reply (call_reply.Received got.Ended) = Ended
script_reply (call_reply.NotRegistered refusal) = register_reason refusal
script_reply (call_reply.NotSignalled refusal) = signal_reason refusal
script_reply (call_reply.NotReceived refusal) = wait_reason refusal
script_reply (call_reply.NotDropped refusal) = Refused no.NoTask
script_reply reply = BadLine

-- what a phaser with this stream answers to a wait for a block, as a reply
abbrev pub taken_reply : List Outcome → CallReply → WholeReply
taken_reply stream (call_reply.ReceivedBlock (block.Values phase count)) =
    Values phase (slice_range stream phase (phase + count))
taken_reply stream (call_reply.ReceivedBlock block.Ended) = Ended
taken_reply stream reply = script_reply reply

-- the reply to a wait for at most so many phases
abbrev pub take_reply : (List ℤ → Outcome) → Limits → History → ℕ → ℕ → WholeReply
take_reply value limits h task phases =
    taken_reply (stream_of value h) (reply_to_call value limits h (call.WaitBlock task phases))

-- the signal of a phase for each value, with the value as its one send
abbrev pub block_call : ℕ → List ℤ → Call
block_call task values = call.Signal task (one_each values) None

-- the refusals of a block by a member that holds these sends, before those of its signal
abbrev pub script_block_rows : List ℤ → Entry → List (Bool × Refusal)
script_block_rows sends entry =
    (not (mode_signals entry.mode), no.NoSignal)
    ∷ (nat_lt 0 (length sends), no.Held)
    ∷ []

-- the refusal of a block before its signal, where there is one
abbrev pub block_refusal : History → Held → ℕ → Option Refusal
block_refusal h held task =
    refusal_at (entry_of (members_of h) task) no.NoTask (script_block_rows (held_by held task))

-- the refusal, or else the reply
abbrev pub refused_or_reply : Option Refusal → WholeReply → WholeReply
refused_or_reply (Some refusal) reply = Refused refusal
refused_or_reply None reply = reply

-- the reply to a block
abbrev pub block_reply : (List ℤ → Outcome) → Limits → History → Held → ℕ → List ℤ → WholeReply
block_reply value limits h held task values =
    refused_or_reply (block_refusal h held task)
    (script_reply (reply_to_call value limits h (block_call task values)))

-- the signal of a task, with the sends that it holds
abbrev pub held_signal : Held → ℕ → Option Single → Call
held_signal held task single = call.Signal task (held_by held task ∷ []) single

-- the reply to a command where there is a phaser
abbrev pub phaser_reply : (List ℤ → Outcome) → Limits → History → Held → WholeCommand → WholeReply
phaser_reply value limits h held (Make operation bound phases) = Refused no.Made
phaser_reply value limits h held (Add parent child mode) =
    script_reply (reply_to_call value limits h (call.Register parent child mode))
phaser_reply value limits h held (Now parent child) =
    script_reply (reply_to_call value limits h (call.RegisterNow parent child))
phaser_reply value limits h held (Send task number) = send_reply h held task
phaser_reply value limits h held (Signal task single) =
    script_reply (reply_to_call value limits h (held_signal held task single))
phaser_reply value limits h held (Block task values) =
    block_reply value limits h held task values
phaser_reply value limits h held (Take task phases) = take_reply value limits h task phases
phaser_reply value limits h held (Wait task) =
    script_reply (reply_to_call value limits h (call.Wait task))
phaser_reply value limits h held (Drop task) =
    script_reply (reply_to_call value limits h (call.Drop task))

-- the reply to a command
unfoldable pub command_reply : ScriptState → WholeCommand → WholeReply
command_reply NoPhaser (Make operation bound phases) = make_reply bound phases
command_reply NoPhaser command = Refused no.NoPhaser
command_reply (OnePhaser operation limits h held) command =
    phaser_reply (value_by operation) limits h held command

-- a phaser is made where its limits are within theirs
abbrev pub made_by : WholeReply → Op → ℕ → ℕ → ScriptState
made_by Accepted operation bound phases = OnePhaser operation (limits bound phases) (Made 0 ∷ []) []
made_by reply operation bound phases = NoPhaser

-- an accepted send is held, behind the others
abbrev pub held_after_send : WholeReply → Held → ℕ → ℤ → Held
held_after_send Accepted held task value = held ++ (task, value) ∷ []
held_after_send reply held task value = held

-- an accepted signal takes the task's sends with it
abbrev pub held_after_signal : Result ℕ SignalRefusal → Held → ℕ → Held
held_after_signal (Ok phase) held task = held_by_others held task
held_after_signal (Err refusal) held task = held

-- a task that drops gives up its sends
abbrev pub held_after_drop : Option NoTask → Held → ℕ → Held
held_after_drop (Some refusal) held task = held
held_after_drop None held task = held_by_others held task

-- the history that a call leaves
abbrev pub after_call : (List ℤ → Outcome) → Limits → History → Call → History
after_call value limits h call = after_reply call (reply_to_call value limits h call) h

-- the one history where there is a refusal, and else the other
abbrev pub after_unless : Option Refusal → History → History → History
after_unless (Some refusal) h after = h
after_unless None h after = after

-- the history that a block leaves
abbrev pub after_block : (List ℤ → Outcome) → Limits → History → Held → ℕ → List ℤ → History
after_block value limits h held task values =
    after_unless (block_refusal h held task) h
    (after_call value limits h (block_call task values))

-- the history that a command leaves where there is a phaser
abbrev pub history_after : (List ℤ → Outcome) → Limits → History → Held → WholeCommand → History
history_after value limits h held (Make operation bound phases) = h
history_after value limits h held (Add parent child mode) =
    after_call value limits h (call.Register parent child mode)
history_after value limits h held (Now parent child) =
    after_call value limits h (call.RegisterNow parent child)
history_after value limits h held (Send task number) = h
history_after value limits h held (Signal task single) =
    after_call value limits h (held_signal held task single)
history_after value limits h held (Block task values) =
    after_block value limits h held task values
history_after value limits h held (Take task phases) =
    after_call value limits h (call.WaitBlock task phases)
history_after value limits h held (Wait task) = after_call value limits h (call.Wait task)
history_after value limits h held (Drop task) = after_call value limits h (call.Drop task)

-- the sends that tasks hold after a command where there is a phaser
abbrev pub held_after : Limits → History → Held → WholeCommand → Held
held_after limits h held (Make operation bound phases) = held
held_after limits h held (Add parent child mode) = held
held_after limits h held (Now parent child) = held
held_after limits h held (Send task number) =
    held_after_send (send_reply h held task) held task number
held_after limits h held (Signal task single) =
    held_after_signal (signal_reply limits h task (held_by held task ∷ []) single) held task
held_after limits h held (Block task values) = held
held_after limits h held (Wait task) = held
held_after limits h held (Take task phases) = held
held_after limits h held (Drop task) = held_after_drop (drop_refusal h task) held task

-- what a command leaves
unfoldable pub after_command : ScriptState → WholeCommand → ScriptState
after_command NoPhaser (Make operation bound phases) =
    made_by (make_reply bound phases) operation bound phases
after_command NoPhaser command = NoPhaser
after_command (OnePhaser operation limits h held) command =
    OnePhaser operation limits (history_after (value_by operation) limits h held command)
    (held_after limits h held command)

-- the reply to a line that gives this command, or none
abbrev pub reply_of_line : ScriptState → Option WholeCommand → WholeReply
reply_of_line state (Some command) = command_reply state command
reply_of_line state None = BadLine

-- the reply is `ok` alone, or with the phase of a waiter that joins now: the line was done
abbrev pub IsOkReply : WholeReply → Type 0
IsOkReply Accepted = Unit {0}
IsOkReply (Joined phase) = Unit {0}
IsOkReply reply = ⊥

-- a line may want memory where it gives a `make`, an `add`, a `now` or a `send`
abbrev pub MayWantMemory : Option WholeCommand → Type 0
MayWantMemory (Some (Make operation bound phases)) = Unit {0}
MayWantMemory (Some (Add parent child mode)) = Unit {0}
MayWantMemory (Some (Now parent child)) = Unit {0}
MayWantMemory (Some (Send task value)) = Unit {0}
MayWantMemory command = ⊥

-- what a line leaves that gives this command, or none
abbrev pub after_by : ScriptState → Option WholeCommand → ScriptState
after_by state (Some command) = after_command state command
after_by state None = state

-- the reply line to a script line
unfoldable pub reply_line_of : ScriptState → List ℕ → List ℕ
reply_line_of state line = reply_text (reply_of_line state (command_of line))

-- what a script line leaves
unfoldable pub after_line : ScriptState → List ℕ → ScriptState
after_line state line = after_by state (command_of line)

-- what the lines leave, from the state before them
abbrev pub state_from : ScriptState → List (List ℕ) → ScriptState
state_from state [] = state
state_from state (line ∷ lines) = state_from (after_line state line) lines

-- what the lines of a script leave
abbrev pub state_after : List (List ℕ) → ScriptState
state_after lines = state_from start lines
