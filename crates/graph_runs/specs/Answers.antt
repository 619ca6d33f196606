-- What a turn of a task makes and answers at a moment.
use Rattle.std.specs.Prelude.{ℕ, ◌+◌, Bool, true, false, ◌&&◌, ℤ, List, [], ◌∷◌, length, map, take, drop, slice_range, Option, Some, None, Result, Ok, Err, get_or, if◌then◌else◌}
use Rattle.std.specs.List.{range_with_len, list_any, list_all, position_from}
use Rattle.phase_accum.specs.declared.outcome.Outcome.{Outcome}
use Rattle.phase_history.specs.declared.got.Got.{Got}
use Rattle.phase_history.specs.declared.got.Got.TheVariants as got
use Rattle.phase_history.specs.declared.got.GotBlock.{GotBlock}
use Rattle.phase_history.specs.declared.got.GotBlock.TheVariants as block
use Rattle.phase_history.specs.declared.refusal.SignalRefusal.{SignalRefusal}
use Rattle.phase_history.specs.declared.refusal.SignalRefusal.TheVariants.{Ahead, Spent}
use Rattle.phase_history.specs.declared.refusal.WaitRefusal.{WaitRefusal}
use Rattle.phase_history.specs.declared.refusal.WaitRefusal.TheVariants.{NotYet}
use Rattle.phase_history.specs.Histories.{greatest_used, wait_phase}
use Rattle.phase_history.specs.Phases.{stream_of}
use Rattle.phase_history.specs.Refusals.{register_refusal, register_now_refusal, signal_refusal, drop_refusal}
use Rattle.phase_history.specs.Replies.{wait_reply, wait_block_reply}
use Rattle.graph_base.specs.declared.place.Place.TheVariants as place
use Rattle.graph_base.specs.declared.registration.Registration.{Registration}
use Rattle.graph_base.specs.Graphs.{task_at, phaser_at}
use Rattle.graph_base.specs.Registrations.{signalled_by}
use Rattle.stream_lists.specs.Jobs.{Job, samples_at}
use Rattle.stream_lists.specs.Ranges.{Where, are_made, is_out_of_range, is_too_big}
use Rattle.graph_runs.specs.Moments.{one, Moment, limits_at, value_at, input_at, made_now}
use Rattle.graph_runs.specs.NextBlocks.{block_up_to, sample_block_up_to}
use Rattle.graph_runs.specs.TaskEvents.{TaskEvent, sample, signal, first_wait, exchange_wait, leave, child, child_now, after_turn}
use Rattle.graph_runs.specs.Nexts.{Next, is_not_live, registers, leaves, samples, signals, waits, exchanges, next_of, is_live, number_on, first_missing, first_kept}

-- a turn makes one event, of a step or of a block of them; or none, as its call is Ahead or NotYet
-- or the phaser has no phase left for it, as the task is not live, as the value that it would
-- signal is out of range at this place, or as the phaser refuses the call for another reason, which
-- no run comes to
pub data Answer : Type 0 where
  makes : TaskEvent → Answer
  is_blocked : Answer
  is_gone : Answer
  has_made : Where → Answer
  is_refused : Answer

-- ---- each call of a task, as the phaser replies to it

-- a signal, which makes this event
abbrev pub signal_answer : TaskEvent → Option SignalRefusal → Answer
signal_answer event None = makes event
signal_answer event (Some Ahead) = is_blocked
signal_answer event (Some Spent) = is_blocked
signal_answer event (Some refusal) = is_refused

-- a wait for a block, which makes the event of its outcomes
abbrev pub block_answer : (ℕ → ℕ → TaskEvent) → Result GotBlock WaitRefusal → Answer
block_answer event (Ok (block.Values phase count)) = makes (event phase count)
block_answer event (Ok block.Ended) = is_refused
block_answer event (Err NotYet) = is_blocked
block_answer event (Err refusal) = is_refused

-- a plain wait, which makes the event of its outcome
abbrev pub wait_answer : (Outcome → TaskEvent) → Result Got WaitRefusal → Answer
wait_answer event (Ok (got.Value phase outcome)) = makes (event outcome)
wait_answer event (Ok got.Ended) = is_refused
wait_answer event (Err NotYet) = is_blocked
wait_answer event (Err refusal) = is_refused

-- a registration, or a drop
abbrev pub accepted_answer : {R : Type 0} → TaskEvent → Option R → Answer
accepted_answer event None = makes event
accepted_answer event (Some refusal) = is_refused

-- ---- each call

-- task t signals these values on phaser p, one a phase, by this event
abbrev pub call_signal : Job → Moment → ℕ → ℕ → List ℤ → TaskEvent → Answer
call_signal job m t p vs event =
    signal_answer event (signal_refusal (limits_at job p) (m.history p) (number_on m t p)
    (map one vs) (phaser_at job.graph p).single)

-- task t waits on phaser p for at most so many phases, and takes those that are complete
abbrev pub call_block : Job → Moment → ℕ → ℕ → ℕ → (List Outcome → TaskEvent) → Answer
call_block job m t p steps event =
    let h = m.history p in
    block_answer
    (λ phase count. event (slice_range (stream_of (value_at job p) h) phase (phase + count)))
    (wait_block_reply (limits_at job p) h (number_on m t p) steps)

-- task t waits on phaser p for one phase
abbrev pub call_wait : Job → Moment → ℕ → ℕ → (Outcome → TaskEvent) → Answer
call_wait job m t p event =
    wait_answer event
    (wait_reply (value_at job p) (limits_at job p) (m.history p) (number_on m t p))

-- task t leaves the first phaser that it has not left
abbrev pub call_leave : Moment → ℕ → Option Registration → Answer
call_leave m t None = is_refused
call_leave m t (Some r) =
    accepted_answer (leave t r.phaser (number_on m t r.phaser))
    (drop_refusal (m.history r.phaser) (number_on m t r.phaser))

-- task t registers its child c, as the number above all that were used on the phaser, as a sink
-- that joins now or in the mode of its line
abbrev pub register_answer : Moment → ℕ → ℕ → Registration → Bool → Answer
register_answer m t c r true =
    let n = number_on m t r.phaser in
    let a = greatest_used (m.history r.phaser) + 1 in
    accepted_answer (child_now t r.phaser n c a) (register_now_refusal (m.history r.phaser) n a)
register_answer m t c r false =
    let n = number_on m t r.phaser in
    let a = greatest_used (m.history r.phaser) + 1 in
    accepted_answer (child t r.phaser n c a r.mode)
    (register_refusal (m.history r.phaser) n a r.mode)

-- the first registration that the child misses
abbrev pub call_register : Job → Moment → ℕ → ℕ → Option Registration → Answer
call_register job m t c None = is_refused
call_register job m t c (Some r) = register_answer m t c r (task_at job.graph c).joins_now

-- ---- the table

-- the phaser that is output j of task t
abbrev pub output_at : Job → ℕ → ℕ → ℕ
output_at job t j = get_or (signalled_by (task_at job.graph t)) j 0

-- the next samples of task t, at most so many
abbrev pub samples_up_to : ℕ → Job → Moment → ℕ → List ℤ
samples_up_to steps job m t =
    take (sample_block_up_to steps job m t) (drop (m.begun t) (samples_at job t))

-- at most a block of its line
abbrev pub next_samples : Job → Moment → ℕ → List ℤ
next_samples job m t = samples_up_to (task_at job.graph t).block job m t

-- the values that are next on output j of task t: those that it owes there, at most so many
abbrev pub values_up_to : ℕ → Job → Moment → ℕ → ℕ → List ℤ
values_up_to most job m t j = take most (drop (length (m.put t j)) (made_now job m t j))

-- at most a block of its line
abbrev pub next_values : Job → Moment → ℕ → ℕ → List ℤ
next_values job m t j = values_up_to (task_at job.graph t).block job m t j

-- values are signalled, where all of them are in range. What a filter or a peer has made is checked
-- here: the first that is out of range is told, and none of them is signalled
abbrev pub signal_turn : Job → Moment → ℕ → ℕ → List ℤ → TaskEvent → Answer
signal_turn job m t j vs event = of (position_from is_out_of_range (length (m.put t j)) vs)
  where
    of : Option ℕ → Answer
    of None = call_signal job m t (output_at job t j) vs event
    of (Some step) =
        if are_made (task_at job.graph t).kind j then has_made (place.Task t, step)
        else is_refused

-- the answer to what task t does next, where it makes at most so many steps, or signals at most so
-- many of the values that it owes
abbrev pub answer_up_to : ℕ → ℕ → Job → Moment → ℕ → Next → Answer
answer_up_to steps most job m t is_not_live = is_gone
answer_up_to steps most job m t (registers c) = call_register job m t c (first_missing job m c)
answer_up_to steps most job m t leaves = call_leave m t (first_kept job m t)
answer_up_to steps most job m t samples =
    let p = output_at job t 0 in
    let vs = samples_up_to steps job m t in
    signal_turn job m t 0 vs (sample t 0 p (number_on m t p) vs)
answer_up_to steps most job m t (signals j) =
    let p = output_at job t j in
    let vs = values_up_to most job m t j in
    signal_turn job m t j vs (signal t j p (number_on m t p) vs)
answer_up_to steps most job m t (waits k) =
    let p = input_at (task_at job.graph t) k in
    call_block job m t p (block_up_to steps job m t) (first_wait t k p (number_on m t p))
answer_up_to steps most job m t exchanges =
    let p = input_at (task_at job.graph t) 1 in
    call_wait job m t p (exchange_wait t p (number_on m t p))

-- what a turn of task t makes of these sizes
abbrev pub turn_up_to : ℕ → ℕ → Job → Moment → ℕ → Answer
turn_up_to steps most job m t = answer_up_to steps most job m t (next_of job m t)

-- the answer where it makes at most so many steps, or signals at most a block of its line of what
-- it owes
abbrev pub answer_by : ℕ → Job → Moment → ℕ → Next → Answer
answer_by steps job m t next = answer_up_to steps (task_at job.graph t).block job m t next

-- the answer where it makes at most a block of its line
abbrev pub answer_to : Job → Moment → ℕ → Next → Answer
answer_to job m t next = answer_by (task_at job.graph t).block job m t next

-- what a turn of task t makes
abbrev pub answer_of_turn : Job → Moment → ℕ → Answer
answer_of_turn job m t = answer_to job m t (next_of job m t)

-- the moment after it
abbrev pub after_answer : Job → Answer → Moment → Moment
after_answer job (makes event) m = after_turn job event m
after_answer job answer m = m

-- ---- the word of the answer

-- what a turn tells: that an event was made; that it was the task's last drop; that the phaser
-- would not take the call now; that the task is not live; that a value is out of range
pub data Told : Type 0 where
  Moved : Told
  Ended : Told
  Blocked : Told
  Gone : Told
  TooBig : Where → Told

-- of a wait on phaser p that got these outcomes, the first of this phase: the first of them that is
-- too big, where one is
abbrev pub told_got : ℕ → ℕ → List Outcome → Told
told_got p phase outcomes = of (position_from is_too_big phase outcomes)
  where
    of : Option ℕ → Told
    of None = Moved
    of (Some first) = TooBig (place.Phaser p, first)

-- of a wait on phaser p by number n
abbrev pub told_wait : Moment → ℕ → ℕ → List Outcome → Told
told_wait m p n outcomes = told_got p (wait_phase (m.history p) n) outcomes

-- of an event
abbrev pub told_event : Job → Moment → TaskEvent → Told
told_event job m (first_wait t k p n outcomes) = told_wait m p n outcomes
told_event job m (exchange_wait t p n outcome) = told_wait m p n (outcome ∷ [])
told_event job m (leave t p n) =
    if is_live job (after_turn job (leave t p n) m) t then Moved else Ended
told_event job m event = Moved

-- of an answer; nothing where the phaser refuses the call for another reason
abbrev pub word_of_answer : Job → Moment → Answer → Option Told
word_of_answer job m (makes event) = Some (told_event job m event)
word_of_answer job m is_blocked = Some Blocked
word_of_answer job m is_gone = Some Gone
word_of_answer job m (has_made at) = Some (TooBig at)
word_of_answer job m is_refused = None

-- a turn of task t. After a value out of range each turn tells it again
abbrev pub turn_tells : Job → Option Where → Moment → ℕ → Option Told
turn_tells job (Some at) m t = Some (TooBig at)
turn_tells job None m t = word_of_answer job m (answer_of_turn job m t)

-- what a turn of these sizes tells, where no value was out of range before
abbrev pub tells_up_to : ℕ → ℕ → Job → Moment → ℕ → Option Told
tells_up_to steps most job m t = word_of_answer job m (turn_up_to steps most job m t)

-- ---- turns in a row

-- the moment after the turns of these tasks, one after the other
abbrev pub after_turns : Job → Moment → List ℕ → Moment
after_turns job m [] = m
after_turns job m (t ∷ ts) = after_turns job (after_answer job (answer_of_turn job m t) m) ts

-- what the turns of these tasks make
abbrev pub answers_in_turn : Job → Moment → List ℕ → List Answer
answers_in_turn job m [] = []
answers_in_turn job m (t ∷ ts) =
    answer_of_turn job m t ∷ answers_in_turn job (after_answer job (answer_of_turn job m t) m) ts

-- ---- where nobody moves

-- whether an answer is that the phaser would not take the call now
abbrev pub was_blocked : Answer → Bool
was_blocked (makes event) = false
was_blocked is_blocked = true
was_blocked is_gone = false
was_blocked (has_made at) = false
was_blocked is_refused = false

-- whether task t is not live, or its turn would be blocked
abbrev pub is_still : Job → Moment → ℕ → Bool
is_still job m t = if is_live job m t then was_blocked (answer_of_turn job m t) else true

-- whether some task is live, and the turn of each live task would be blocked
abbrev pub is_stalled : Job → Moment → Bool
is_stalled job m =
    list_any (is_live job m) (range_with_len 0 (length job.graph.tasks))
    && list_all (is_still job m) (range_with_len 0 (length job.graph.tasks))
