-- A task whose call is blocked stays so until there is an event on the phaser of the call.
use Rattle.std.proofs.Common.{◌≡◌, ◌≢◌, ℕ, ◌+◌, ◌-◌, true, false, not, ◌&&◌, ◌||◌, cond, ℤ, List, Option, Some, None, length, map, take, drop, refl, sym, ap, subst, ◌∙◌, ◌⊎◌, inl, inr}
use Rattle.std.specs.Prelude.{unwrap_or, nat_le, nat_lt, min, slice_range}
use Rattle.std.specs.List.{fold, position_from, range_with_len}
use Rattle.phase_accum.specs.declared.outcome.Outcome.{Outcome}
use Rattle.phase_history.specs.Histories.{History, done_of}
use Rattle.phase_history.specs.Phases.{stream_of}
use Rattle.phase_history.specs.Refusals.{signal_refusal}
use Rattle.phase_history.specs.Replies.{wait_reply, wait_block_reply}
use Rattle.graph_base.specs.declared.line.Kind.{Kind}
use Rattle.graph_base.specs.declared.line.Kind.TheVariants.{Source, Fir, Split, Decimate, Join, Peer, Sink}
use Rattle.graph_base.specs.Graphs.{task_at, phaser_at}
use Rattle.graph_base.specs.Registrations.{signalled_by}
use Rattle.stream_lists.specs.Jobs.{Job, samples_at}
use Rattle.stream_lists.specs.Ranges.{is_out_of_range}
use Rattle.stream_lists.proofs.Basics.{find-same}
use Rattle.graph_runs.specs.Moments.{one, Moment, limits_at, value_at, input_at, made_now, first_input}
use Rattle.graph_runs.specs.Moves.{SameTask}
use Rattle.graph_runs.specs.NextBlocks.{block_of, child_allows, until_allows}
use Rattle.graph_runs.proofs.Framed.{made_same}
use Rattle.graph_runs.specs.TaskEvents.{TaskEvent, sample, signal, first_wait, exchange_wait, after_turn}
use Rattle.graph_runs.specs.Nexts as turns
use Rattle.graph_runs.specs.Nexts.{Next, first_due, first_owed, has_input_ended, has_run_out, has_signaller, in_step, is_cut, is_live, next_of, is_owed, next_step, number_on, of_live, waits_first, at_boundary}
use Rattle.graph_runs.specs.Answers.{Answer, makes, is_blocked, answer_of_turn, answer_to, block_answer, call_block, call_wait, signal_answer, signal_turn, wait_answer, output_at, next_samples, next_values, was_blocked}
use Rattle.graph_runs.proofs.Signalling.{live-is}
use Rattle.graph_runs.proofs.Turning.{turn_makes_next}
use Rattle.graph_runs.proofs.Whose.{made_by}
use Rattle.stream_job.specs.Blocking.{called_on, IsBlockedOn}
use Rattle.stream_job.specs.Machines.{IsMachineAt}
use Rattle.stream_job.specs.Turning.{phaser_of}
use Rattle.stream_job.specs.declared.machine.Machine.{Machine}
use Rattle.stream_job.proofs.LeftAlone.{LeavesAlone, alone, lives_on, no_child}
use Rattle.stream_job.proofs.SignalCalls.{goes_on, stops}
use Rattle.stream_job.proofs.Stalling.{leave_moves, register_moves}
use Rattle.stream_job.proofs.WhatNext.{AtStep, Doing, doing, owing, parent, leaving, stepping, begins_is}
use Rattle.graph_runs.proofs.Stepping.{line_sizes}

-- ---- a call that can be blocked

abbrev IsCall : Next → Type 0
IsCall turns.is_not_live = ⊥
IsCall (turns.registers c) = ⊥
IsCall turns.leaves = ⊥
IsCall next = Unit {0}

-- a task that is blocked makes one
is_call : (job : Job) (m : Moment) (t : ℕ) (next : Next) → answer_to job m t next ≡ is_blocked
    → IsCall next
is_call job m t turns.is_not_live e = absurd (cc)
is_call job m t (turns.registers c) e =
    absurd (let wrong : false ≡ true = sym (register_moves job m t c) ∙ ap was_blocked e in cc)
is_call job m t turns.leaves e =
    absurd (let wrong : false ≡ true = sym (leave_moves job m t) ∙ ap was_blocked e in cc)
is_call job m t turns.samples e = tt
is_call job m t (turns.signals j) e = tt
is_call job m t (turns.waits k) e = tt
is_call job m t turns.exchanges e = tt

-- ---- what it does next

first_owed_same : (job : Job) (before after : Moment) (u : ℕ) → SameTask before after u
    → first_owed job after u ≡ first_owed job before u
first_owed_same job before after u same =
    find-same (is_owed job after u) (is_owed job before u)
    (range_with_len 0 (length (signalled_by (task_at job.graph u))))
    (λ j. ap (λ l. nat_lt (length l) (length (made_now job after u j))) (same.put j)
    ∙ ap (λ l. nat_lt (length (before.put u j)) (length l)) (made_same job before after u j same))

step_same : (job : Job) (before after : Moment) (u j : ℕ) → SameTask before after u
    → in_step job after u j ≡ in_step job before u j
step_same job before after u j same =
    ap (λ l. cond (waits_first (task_at job.graph u).kind j (length l) (length (after.taken u 1)))
    turns.exchanges (turns.signals j)) (same.put j)
    ∙ ap (λ l. cond (waits_first (task_at job.graph u).kind j (length (before.put u j)) (length l))
    turns.exchanges (turns.signals j)) (same.taken 1)

-- its first input has not ended
more_same : (job : Job) (before after : Moment) (u q : ℕ) → LeavesAlone job before after u q
    → ((task_at job.graph u).kind ≢ Source
    → input_at (task_at job.graph u) (first_input (task_at job.graph u) (before.begun u)) ≢ q)
    → has_input_ended job after u (task_at job.graph u).kind
    ≡ has_input_ended job before u (task_at job.graph u).kind
more_same job before after u q left apart = by (task_at job.graph u).kind refl
  where
    first : (task_at job.graph u).kind ≢ Source
        → has_run_out after (task_at job.graph u) u
        (first_input (task_at job.graph u) (after.begun u))
        ≡ has_run_out before (task_at job.graph u) u
        (first_input (task_at job.graph u) (before.begun u))
    first never =
        let task = task_at job.graph u in
        let k = first_input task (before.begun u) in
        let x = input_at task k in
        ap (λ b. has_run_out after task u (first_input task b)) left.same.begun
        ∙ ap (λ h. not (has_signaller h)
        && nat_le (done_of h) (after.offset u + length (after.taken u k)))
        (left.elsewhere x (apart never))
        ∙ ap (λ o. not (has_signaller (before.history x))
        && nat_le (done_of (before.history x)) (o + length (after.taken u k))) left.same.offset
        ∙ ap (λ l. not (has_signaller (before.history x))
        && nat_le (done_of (before.history x)) (before.offset u + length l)) (left.same.taken k)

    no_source : (kind : Kind) → (task_at job.graph u).kind ≡ kind → kind ≢ Source
        → (task_at job.graph u).kind ≢ Source
    no_source kind e never is = never (sym e ∙ is)

    by : (kind : Kind) → (task_at job.graph u).kind ≡ kind
        → has_input_ended job after u kind ≡ has_input_ended job before u kind
    by Source e = ap (nat_le (length (samples_at job u))) left.same.begun
    by Fir e = first (no_source Fir e (λ s. absurd (cc)))
    by Split e = first (no_source Split e (λ s. absurd (cc)))
    by Decimate e = first (no_source Decimate e (λ s. absurd (cc)))
    by Join e = first (no_source Join e (λ s. absurd (cc)))
    by Peer e = first (no_source Peer e (λ s. absurd (cc)))
    by Sink e = first (no_source Sink e (λ s. absurd (cc)))

-- it begins the step that it would
begins_same : (job : Job) (before after : Moment) (u q : ℕ) (next : Next)
    → LeavesAlone job before after u q → AtStep job before u next → called_on job u next ≢ q
    → at_boundary job after u (first_due job after u) ≡ next
begins_same job before after u q next left at apart =
    let task = task_at job.graph u in
    let cut : is_cut task.until (after.begun u) ≡ false =
    ap (is_cut task.until) left.same.begun ∙ at.uncut in
    let more : has_input_ended job after u task.kind ≡ false =
    more_same job before after u q left (input (begins_is job before u next at.is)) ∙ at.more in
    ap (at_boundary job after u) (left.due ∙ at.due)
    ∙ ap (λ b. cond (b || has_input_ended job after u task.kind) turns.leaves
    (next_step task (after.begun u) task.kind)) cut
    ∙ ap (λ b. cond b turns.leaves (next_step task (after.begun u) task.kind)) more
    ∙ ap (λ b. next_step task b task.kind) left.same.begun ∙ at.is
  where
    input : ((task_at job.graph u).kind ≡ Source × (turns.samples ≡ next))
        ⊎ ((task_at job.graph u).kind ≢ Source
        × (turns.waits (first_input (task_at job.graph u) (before.begun u)) ≡ next))
        → (task_at job.graph u).kind ≢ Source
        → input_at (task_at job.graph u) (first_input (task_at job.graph u) (before.begun u)) ≢ q
    input (inl e) never = absurd (never e.0)
    input (inr e) never = λ same. apart (ap (called_on job u) (sym e.1) ∙ same)

next_same : (job : Job) (before after : Moment) (u q : ℕ) (next : Next)
    → LeavesAlone job before after u q → is_live job after u ≡ true → next_of job before u ≡ next
    → IsCall next → called_on job u next ≢ q → next_of job after u ≡ next
next_same job before after u q next left live is call apart =
    ap (λ b. cond b (of_live job after u (first_owed job after u)) turns.is_not_live) live
    ∙ ap (of_live job after u) (first_owed_same job before after u left.same)
    ∙ by (doing job before u next is (λ none. (subst IsCall none call)))
  where
    by : Doing job before u next → of_live job after u (first_owed job before u) ≡ next
    by (owing s) =
        ap (of_live job after u) s.owes ∙ step_same job before after u s.output left.same ∙ s.is
    by (parent c none due e) = absurd (subst IsCall (sym e) call)
    by (leaving e) = absurd (subst IsCall (sym e) call)
    by (stepping s) =
        ap (of_live job after u) s.none ∙ begins_same job before after u q next left s apart

-- ---- what the phaser answers

-- to a signal of values
signal_same : (job : Job) (before after : Moment) (u j q : ℕ) (vs : List ℤ) (event : ℕ → TaskEvent)
    → LeavesAlone job before after u q → output_at job u j ≢ q
    → signal_turn job after u j vs (event (number_on after u (output_at job u j)))
    ≡ signal_turn job before u j vs (event (number_on before u (output_at job u j)))
signal_same job before after u j q vs event left apart =
    by (position_from is_out_of_range (length (before.put u j)) vs) refl
  where
    after_is : position_from is_out_of_range (length (after.put u j)) vs
        ≡ position_from is_out_of_range (length (before.put u j)) vs
    after_is = ap (λ l. position_from is_out_of_range (length l) vs) (left.same.put j)

    answer : History → ℕ → Answer
    answer h n =
        signal_answer (event n) (signal_refusal (limits_at job (output_at job u j)) h n (map one vs)
        (phaser_at job.graph (output_at job u j)).single)

    by : (o : Option ℕ) → position_from is_out_of_range (length (before.put u j)) vs ≡ o
        → signal_turn job after u j vs (event (number_on after u (output_at job u j)))
        ≡ signal_turn job before u j vs (event (number_on before u (output_at job u j)))
    by None e =
        let p = output_at job u j in
        goes_on job after u j vs (event (number_on after u p)) (after_is ∙ e)
        ∙ ap (λ h. answer h (number_on after u p)) (left.elsewhere p apart)
        ∙ ap (λ o. answer (before.history p) (unwrap_or o 0)) (left.numbers p)
        ∙ sym (goes_on job before u j vs (event (number_on before u p)) e)
    by (Some step) e =
        let p = output_at job u j in
        stops job after u j step vs (event (number_on after u p)) (after_is ∙ e)
        ∙ sym (stops job before u j step vs (event (number_on before u p)) e)

-- to a wait
wait_same : (job : Job) (before after : Moment) (u p q : ℕ) (event : ℕ → Outcome → TaskEvent)
    → LeavesAlone job before after u q → p ≢ q
    → call_wait job after u p (event (number_on after u p))
    ≡ call_wait job before u p (event (number_on before u p))
wait_same job before after u p q event left apart =
    ap (λ h. wait_answer (event (number_on after u p))
    (wait_reply (value_at job p) (limits_at job p) h (number_on after u p))) (left.elsewhere p apart)
    ∙ ap (λ o. wait_answer (event (unwrap_or o 0))
    (wait_reply (value_at job p) (limits_at job p) (before.history p) (unwrap_or o 0)))
    (left.numbers p)

-- to a wait for a block
block_same : (job : Job) (before after : Moment) (u p q steps : ℕ)
    (event : ℕ → List Outcome → TaskEvent) → LeavesAlone job before after u q → p ≢ q
    → call_block job after u p steps (event (number_on after u p))
    ≡ call_block job before u p steps (event (number_on before u p))
block_same job before after u p q steps event left apart =
    ap (λ h. block_answer
    (λ phase count. event (number_on after u p)
    (slice_range (stream_of (value_at job p) h) phase (phase + count)))
    (wait_block_reply (limits_at job p) h (number_on after u p) steps)) (left.elsewhere p apart)
    ∙ ap (λ o. block_answer
    (λ phase count. event (unwrap_or o 0)
    (slice_range (stream_of (value_at job p) (before.history p)) phase (phase + count)))
    (wait_block_reply (limits_at job p) (before.history p) (unwrap_or o 0) steps)) (left.numbers p)

-- the steps that are next
steps_same : (job : Job) (before after : Moment) (u : ℕ) → after.begun u ≡ before.begun u
    → block_of job after u ≡ block_of job before u
steps_same job before after u same =
    ap (λ b. fold (λ steps c. child_allows u b (task_at job.graph c).parent steps)
    (until_allows (task_at job.graph u).until b (task_at job.graph u).block)
    (range_with_len 0 (length job.graph.tasks))) same

-- the samples that are
samples_same : (job : Job) (before after : Moment) (u : ℕ) → after.begun u ≡ before.begun u
    → next_samples job after u ≡ next_samples job before u
samples_same job before after u same =
    ap (λ n. take (min n (length (samples_at job u) - after.begun u))
    (drop (after.begun u) (samples_at job u))) (steps_same job before after u same)
    ∙ ap (λ b. take (min (block_of job before u) (length (samples_at job u) - b))
    (drop b (samples_at job u))) same

-- the values that are
values_same : (job : Job) (before after : Moment) (u j : ℕ) → SameTask before after u
    → next_values job after u j ≡ next_values job before u j
values_same job before after u j same =
    ap (λ l. take (task_at job.graph u).block (drop (length (after.put u j)) l))
    (made_same job before after u j same)
    ∙ ap (λ l. take (task_at job.graph u).block (drop (length l) (made_now job before u j)))
    (same.put j)

answer_same : (job : Job) (before after : Moment) (u q : ℕ) (next : Next)
    → LeavesAlone job before after u q → IsCall next → called_on job u next ≢ q
    → answer_to job after u next ≡ answer_to job before u next
answer_same job before after u q turns.is_not_live left call apart = absurd call
answer_same job before after u q (turns.registers c) left call apart = absurd call
answer_same job before after u q turns.leaves left call apart = absurd call
answer_same job before after u q turns.samples left call apart =
    let p = output_at job u 0 in
    let vs = next_samples job before u in
    ap (λ l. signal_turn job after u 0 l (sample u 0 p (number_on after u p) l))
    (samples_same job before after u left.same.begun)
    ∙ signal_same job before after u 0 q vs (λ n. sample u 0 p n vs) left apart
answer_same job before after u q (turns.signals j) left call apart =
    let p = output_at job u j in
    let vs = next_values job before u j in
    ap (λ l. signal_turn job after u j l (signal u j p (number_on after u p) l))
    (values_same job before after u j left.same)
    ∙ signal_same job before after u j q vs (λ n. signal u j p n vs) left apart
answer_same job before after u q (turns.waits k) left call apart =
    let p = input_at (task_at job.graph u) k in
    ap (λ steps. call_block job after u p steps (first_wait u k p (number_on after u p)))
    (steps_same job before after u left.same.begun)
    ∙ block_same job before after u p q (block_of job before u) (first_wait u k p) left apart
answer_same job before after u q turns.exchanges left call apart =
    let p = input_at (task_at job.graph u) 1 in
    wait_same job before after u p q (exchange_wait u p) left apart

-- ---- a task that is blocked

stays_blocked : (job : Job) (before after : Moment) (u p q : ℕ) → LeavesAlone job before after u q
    → is_live job after u ≡ true → IsBlockedOn job before u p → p ≢ q → IsBlockedOn job after u p
stays_blocked job before after u p q left live was apart =
    let next = next_of job before u in
    let call = is_call job before u next was.blocked in
    let other : called_on job u next ≢ q = λ e. apart (sym was.called ∙ e) in
    let still = next_same job before after u q next left live refl call other in
    record {
      live = live;
      blocked = ap (answer_to job after u) still
          ∙ answer_same job before after u q next left call other ∙ was.blocked;
      called = ap (called_on job u) still ∙ was.called;
    }

-- the event of another task, on another phaser
pub blocked_still : (job : Job) (m : Moment) (machine : Machine) (t u p : ℕ) (event : TaskEvent)
    → IsMachineAt job m machine → answer_of_turn job m t ≡ makes event → IsBlockedOn job m u p
    → p ≢ phaser_of event → IsBlockedOn job (after_turn job event m) u p
blocked_still job m machine t u p event at answer was apart =
    let block = (task_at job.graph t).block in
    let sized = line_sizes job t at.graph in
    let next = turn_makes_next block block job m t event sized at.graph at.reached.ran
    (λ c due. at.reached.to_come) answer in
    let made = (made_by block block job m t event answer).1 in
    let other : u ≢ t = λ same. (let wrong : is_blocked ≡ makes event =
    sym was.blocked ∙ ap (answer_of_turn job m) same ∙ answer in cc) in
    let no = no_child job m event u made.missing (live-is job m u was.live).all in
    let left = alone job m event u at.reached next (λ same. other (same ∙ made.own)) no in
    stays_blocked job m (after_turn job event m) u p (phaser_of event) left
    (lives_on job m machine t u event sized at answer other no was.live) was apart
