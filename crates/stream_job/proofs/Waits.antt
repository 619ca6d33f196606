-- What a turn answers that waits.
use Rattle.std.proofs.Common.{◌≡◌, ◌≢◌, ℕ, ℤ, List, ◌+◌, ◌<◌, ◌≤◌, Bool, true, false, cond, ◌++◌, Option, Some, None, length, get_or, slice_get, refl, sym, ap, subst, ◌∙◌, arith}
use Rattle.std.specs.Prelude.{Result, Ok, Err, nat_lt, min, slice_range, take, drop, ◌-◌}
use Rattle.std.specs.List.{range_with_len}
use Rattle.std.proofs.Math.Seq.{take-append_seam}
use Rattle.std.proofs.lemmas.List.FromFn.{length-range_with_len}
use Rattle.std.proofs.lemmas.List.{length-map, length-take-le, length-drop, take-take}
use Rattle.phase_accum.specs.declared.outcome.Outcome.{Outcome}
use Rattle.phase_base.specs.Limits.{Limits}
use Rattle.phase_history.specs.declared.got.Got.{Got}
use Rattle.phase_history.specs.declared.got.Got.TheVariants as got
use Rattle.phase_history.specs.declared.got.GotBlock.{GotBlock}
use Rattle.phase_history.specs.declared.got.GotBlock.TheVariants as block
use Rattle.phase_history.specs.declared.refusal.WaitRefusal.{WaitRefusal}
use Rattle.phase_history.specs.declared.refusal.WaitRefusal.TheVariants as refusals
use Rattle.phase_history.specs.Histories.{History, wait_phase, done_of, top_of}
use Rattle.phase_base.specs.declared.limits.TheConstants.{PHASES_MAX}
use Rattle.phase_history.proofs.LawProofs.{reply_tells}
use Rattle.phase_history.proofs.Steps.{done_below_top, sound_of}
use Rattle.phase_history.proofs.Tops.{top_within}
use Rattle.phase_history.specs.Phases.{value_of_phase, stream_of}
use Rattle.phase_history.specs.Refusals.{wait_refusal}
use Rattle.phase_history.specs.Replies.{wait_reply, wait_block_reply, refused_or}
use Rattle.phase_core.specs.Blocks.{written}
use Rattle.phase_history.proofs.BlockAnswers.{block_answers_law}
use Rattle.graph_base.specs.declared.line.Kind.TheVariants.{Peer}
use Rattle.graph_base.specs.Graphs.{task_at}
use Rattle.graph_base.specs.TaskLines.{IsGraph}
use Rattle.stream_lists.specs.Jobs.{Job}
use Rattle.graph_runs.specs.Moments.{Moment, HasRun, limits_at, value_at, input_at}
use Rattle.graph_runs.proofs.Blocks.{block_few}
use Rattle.graph_runs.specs.NextBlocks.{block_up_to}
use Rattle.graph_runs.proofs.Tasks.{first_looks}
use Rattle.graph_runs.specs.Nexts as turns
use Rattle.graph_runs.specs.Nexts.{Next, is_live, next_of, number_on}
use Rattle.graph_runs.specs.TaskEvents.{TaskEvent, first_wait, exchange_wait}
use Rattle.graph_runs.specs.Answers.{Answer, is_blocked, is_refused, wait_answer, block_answer, told_wait, told_got, answer_up_to}
use Rattle.graph_runs.proofs.Signalling.{live-is}
use Rattle.graph_runs.proofs.Boundaries.{peer_ends}
use Rattle.graph_runs.proofs.Calling.{waits_as_peer}
use Rattle.stream_job.specs.Buffers.{HasPlaces}
use Rattle.stream_job.specs.Stepping.{IsNextIn}
use Rattle.stream_job.specs.Places.{place_in_state}
use Rattle.stream_job.specs.Machines.{IsMachineAt, most_in}
use Rattle.stream_job.specs.Turning.{turn_in}
use Rattle.stream_job.specs.declared.machine.Machine.{Machine}
use Rattle.stream_job.specs.declared.task_state.TaskState.{TaskState}
use Rattle.stream_job.proofs.Ending.{number_of_input}
use Rattle.stream_job.proofs.Lively.{live_next}
use Rattle.stream_job.proofs.WhatNext.{waits_begins, exchanges_owes}

-- ---- the reply

-- a value is that of the phase that the task waits for
pub phase_is : (value : List ℤ → Outcome) (limits : Limits) (h : History) (n phase : ℕ)
    (outcome : Outcome) → wait_reply value limits h n ≡ Ok (got.Value phase outcome)
    → phase ≡ wait_phase h n
phase_is value limits h n phase outcome e =
    by (wait_refusal limits h n 1) (nat_lt (wait_phase h n) (done_of h)) e
  where
    phase_of : Result Got WaitRefusal → ℕ
    phase_of (Ok (got.Value w x)) = w
    phase_of (Ok got.Ended) = phase
    phase_of (Err r) = phase

    same : (a b : Result Got WaitRefusal) → a ≡ b → phase_of a ≡ phase_of b
    same a b e = ap phase_of e

    by : (o : Option WaitRefusal) (b : Bool)
        → refused_or o (cond b (got.Value (wait_phase h n)
        (value_of_phase value h (wait_phase h n))) got.Ended) ≡ Ok (got.Value phase outcome)
        → phase ≡ wait_phase h n
    by None true e =
        sym (same (Ok (got.Value (wait_phase h n) (value_of_phase value h (wait_phase h n))))
        (Ok (got.Value phase outcome)) e)
    by None false e = absurd (cc)
    by (Some r) b e = absurd (cc)

-- what it tells
pub told_is : (m : Moment) (p n phase : ℕ) (outcomes : List Outcome)
    → phase ≡ wait_phase (m.history p) n → told_wait m p n outcomes ≡ told_got p phase outcomes
told_is m p n phase outcomes same = ap (λ w. told_got p w outcomes) (sym same)

-- a refusal that a turn may get
pub blocks : (event : Outcome → TaskEvent) (r : WaitRefusal)
    → wait_answer event (Err r) ≢ is_refused → wait_answer event (Err r) ≡ is_blocked
blocks event refusals.NoTask never = absurd (never refl)
blocks event refusals.NoWait never = absurd (never refl)
blocks event refusals.BadBlock never = absurd (never refl)
blocks event refusals.SignalFirst never = absurd (never refl)
blocks event refusals.NotYet never = refl

-- the answer to a wait for a block
abbrev pub block_turn : Job → Moment → ℕ → ℕ → ℕ → ℕ → ℕ → Answer
block_turn job m t k p n steps =
    block_answer (λ phase count. first_wait t k p n
    (slice_range (stream_of (value_at job p) (m.history p)) phase (phase + count)))
    (wait_block_reply (limits_at job p) (m.history p) n steps)

pub blocks_all : (event : ℕ → ℕ → TaskEvent) (r : WaitRefusal)
    → block_answer event (Err r) ≢ is_refused → block_answer event (Err r) ≡ is_blocked
blocks_all event refusals.NoTask never = absurd (never refl)
blocks_all event refusals.NoWait never = absurd (never refl)
blocks_all event refusals.BadBlock never = absurd (never refl)
blocks_all event refusals.SignalFirst never = absurd (never refl)
blocks_all event refusals.NotYet never = refl

-- a wait for a block that was answered so many phases, and these outcomes
pub record GotAll (job : Job) (m : Moment) (p n steps phase count : ℕ) (outcomes : List Outcome)
    : Type 0 where
  pub reply : wait_block_reply (limits_at job p) (m.history p) n steps
      ≡ Ok (block.Values phase count)
  pub are : slice_range (stream_of (value_at job p) (m.history p)) phase (phase + count)
      ≡ outcomes
  pub many : length outcomes ≡ count
  pub some : 1 ≤ length outcomes
  pub first : phase ≡ wait_phase (m.history p) n
  pub few : count ≤ steps
  pub complete : phase + count ≤ done_of (m.history p)

-- it stands in the places of the wait
pub got_all : (job : Job) (m : Moment) (p n steps phase count : ℕ) (old now : List Outcome)
    → wait_block_reply (limits_at job p) (m.history p) n steps ≡ Ok (block.Values phase count)
    → now ≡ written (Ok (block.Values phase count)) (stream_of (value_at job p) (m.history p)) old
    → GotAll job m p n steps phase count (take count now)
got_all job m p n steps phase count old now reply is =
    let h = m.history p in
    let stream = stream_of (value_at job p) h in
    let outcomes = slice_range stream phase (phase + count) in
    let a = block_answers_law (value_at job p) (limits_at job p) h n steps phase count reply in
    let long : length stream ≡ done_of h =
    length-map (range_with_len 0 (done_of h)) (value_of_phase (value_at job p) h)
    ∙ length-range_with_len 0 (done_of h) in
    let off : phase + count - phase ≡ count = omega arith in
    let complete : phase + count ≤ done_of h = a.complete in
    let rest : length (drop phase stream) ≡ length stream - phase = length-drop phase stream in
    let many : length outcomes ≡ count =
    ap (λ i. length (take i (drop phase stream))) off
    ∙ length-take-le count (drop phase stream) (omega arith) in
    let least : count ≡ min steps (done_of h - phase) = a.count_is in
    let one : 1 ≤ count = a.some in
    let are : take count now ≡ outcomes =
    ap (λ l. take count l) is ∙ ap (λ i. take i (outcomes ++ drop count old)) (sym many)
    ∙ take-append_seam outcomes (drop count old) in
    let all : length (take count now) ≡ count = ap length are ∙ many in
    record {
      reply = reply;
      are = sym are;
      many = all;
      some = omega arith;
      first = a.phase_is;
      few = omega arith;
      complete = complete;
    }

-- and so in the first places of a list
pub got_answered : (job : Job) (m : Moment) (p n steps phase count : ℕ) (given : GotBlock)
    (old now : List Outcome) → given ≡ block.Values phase count
    → wait_block_reply (limits_at job p) (m.history p) n steps ≡ Ok given
    → take steps now
    ≡ written (Ok given) (stream_of (value_at job p) (m.history p)) (take steps old)
    → GotAll job m p n steps phase count (take count now)
got_answered job m p n steps phase count given old now is reply places =
    let all = got_all job m p n steps phase count (take steps old) (take steps now)
    (reply ∙ ap (λ g. Ok g) is)
    (places ∙ ap (λ g. written (Ok g) (stream_of (value_at job p) (m.history p)) (take steps old)) is) in
    subst (GotAll job m p n steps phase count) (take-take count steps now all.few) all

-- ---- the last phase

-- no phase past the last is complete
pub done_few : (job : Job) (m : Moment) (p : ℕ) → HasRun job m → p < length job.graph.phasers
    → done_of (m.history p) ≤ PHASES_MAX
done_few job m p ran there =
    let h = m.history p in
    let legal = (ran.phasers p there).legal in
    let below : done_of h ≤ top_of h = done_below_top h (sound_of (limits_at job p) h legal) in
    let most : top_of h ≤ PHASES_MAX = top_within (limits_at job p) h legal in
    omega arith

-- nor does a wait get one
pub phase_few : (job : Job) (m : Moment) (p n phase : ℕ) (outcome : Outcome) → HasRun job m
    → p < length job.graph.phasers
    → wait_reply (value_at job p) (limits_at job p) (m.history p) n ≡ Ok (got.Value phase outcome)
    → phase < PHASES_MAX
phase_few job m p n phase outcome ran there reply =
    let tells = reply_tells (value_at job p) (limits_at job p) (m.history p) n phase outcome reply in
    let below : wait_phase (m.history p) n < done_of (m.history p) = tells.0 in
    let is : phase ≡ wait_phase (m.history p) n = tells.1 in
    let few = done_few job m p ran there in
    omega arith

-- ---- what is asked of the phaser

pub record WaitsAt (job : Job) (m : Moment) (t k : ℕ) (state : TaskState) : Type 0 where
  pub there : t < length job.graph.tasks
  pub few : k < length (task_at job.graph t).inputs
  pub place : k < length state.numbers.items
  pub number : number_on m t (input_at (task_at job.graph t) k) ≡ get_or state.numbers.items k 0

waits_by : (job : Job) (machine : Machine) (m : Moment) (t k : ℕ) (state : TaskState)
    → IsMachineAt job m machine → slice_get machine.tasks.items t ≡ Some state
    → is_live job m t ≡ true → k < length (task_at job.graph t).inputs → WaitsAt job m t k state
waits_by job machine m t k state at found live few =
    let it = number_of_input job m t k (place_in_state state) at.graph (at.tasks t state found).stands live
    few in
    record {
      there = (live-is job m t live).there;
      few = few;
      place = it.0;
      number = it.1;
    }

pub waits_few : (job : Job) (m : Moment) (t k : ℕ) → IsGraph job.graph
    → next_of job m t ≡ turns.waits k → k < length (task_at job.graph t).inputs
waits_few job m t k graph is =
    let there = (live-is job m t (live_next job m t (turns.waits k) is (λ e. absurd (cc)))).there in
    let b = waits_begins job m t k is in
    subst (λ i. i < length (task_at job.graph t).inputs) (sym b.first)
    (first_looks (task_at job.graph t) (m.begun t) (graph.tasks t there).ends b.kind).0

pub first_few : {allowed : ℕ} (job : Job) (machine : Machine) (m : Moment) (t k : ℕ)
    → IsNextIn allowed job machine t (turns.waits k) → IsMachineAt job m machine
    → k < length (task_at job.graph t).inputs
first_few job machine m t k next at =
    waits_few job m t k at.graph (next.is m at)

pub first_waits_at : {allowed : ℕ} (job : Job) (machine : Machine) (m : Moment) (t k : ℕ) (state : TaskState)
    → IsNextIn allowed job machine t (turns.waits k) → IsMachineAt job m machine
    → slice_get machine.tasks.items t ≡ Some state → WaitsAt job m t k state
first_waits_at job machine m t k state next at found =
    waits_by job machine m t k state at found
    (live_next job m t (turns.waits k) (next.is m at) (λ e. absurd (cc)))
    (first_few job machine m t k next at)

pub is_peer : (job : Job) (m : Moment) (t : ℕ) → next_of job m t ≡ turns.exchanges
    → (task_at job.graph t).kind ≡ Peer
is_peer job m t is =
    let s = exchanges_owes job m t is in
    by s.output (turns.waits_first (task_at job.graph t).kind s.output (length (m.put t s.output))
    (length (m.taken t 1))) refl s.is
  where
    by : (j : ℕ) (b : Bool) → turns.waits_first (task_at job.graph t).kind j (length (m.put t j))
        (length (m.taken t 1)) ≡ b → cond b turns.exchanges (turns.signals j) ≡ turns.exchanges
        → (task_at job.graph t).kind ≡ Peer
    by j true first e =
        (waits_as_peer (task_at job.graph t).kind j (length (m.put t j)) (length (m.taken t 1))
        first).0
    by j false first e = absurd (cc)

pub exchange_few : {allowed : ℕ} (job : Job) (machine : Machine) (m : Moment) (t : ℕ)
    → IsNextIn allowed job machine t turns.exchanges → IsMachineAt job m machine
    → 1 < length (task_at job.graph t).inputs
exchange_few job machine m t next at =
    let is = next.is m at in
    let there = (live-is job m t (live_next job m t turns.exchanges is (λ e. absurd (cc)))).there in
    let ends = (peer_ends job t at.graph there (is_peer job m t is)).0 in
    omega arith

pub exchange_waits_at : {allowed : ℕ} (job : Job) (machine : Machine) (m : Moment) (t : ℕ) (state : TaskState)
    → IsNextIn allowed job machine t turns.exchanges → IsMachineAt job m machine
    → slice_get machine.tasks.items t ≡ Some state → WaitsAt job m t 1 state
exchange_waits_at job machine m t state next at found =
    waits_by job machine m t 1 state at found
    (live_next job m t turns.exchanges (next.is m at) (λ e. absurd (cc)))
    (exchange_few job machine m t next at)

-- ---- what the turn answers

pub exchange_so : {allowed : ℕ} (job : Job) (machine : Machine) (m : Moment) (t n p : ℕ) (state : TaskState)
    → IsNextIn allowed job machine t turns.exchanges → IsMachineAt job m machine
    → slice_get machine.tasks.items t ≡ Some state → p ≡ input_at (task_at job.graph t) 1
    → n ≡ get_or state.numbers.items 1 0
    → turn_in allowed job machine m t ≡ wait_answer (exchange_wait t p n)
    (wait_reply (value_at job p) (limits_at job p) (m.history p) n)
exchange_so {allowed} job machine m t n p state next at found phaser numbered =
    let w = exchange_waits_at job machine m t state next at found in
    let q = input_at (task_at job.graph t) 1 in
    ap (answer_up_to allowed (most_in machine t) job m t) (next.is m at)
    ∙ ap (λ k. wait_answer (exchange_wait t q k) (wait_reply (value_at job q) (limits_at job q)
    (m.history q) k)) (w.number ∙ sym numbered)
    ∙ ap (λ r. wait_answer (exchange_wait t r n) (wait_reply (value_at job r) (limits_at job r)
    (m.history r) n)) (sym phaser)

-- a task that waits first, and what it asks of its phaser
pub record AsksFirst (allowed : ℕ) (job : Job) (old : Machine) (t k n p steps : ℕ) (state : TaskState) : Type 0
  where
    pub next : IsNextIn allowed job old t (turns.waits k)
    pub found : slice_get old.tasks.items t ≡ Some state
    pub phaser : p ≡ input_at (task_at job.graph t) k
    pub numbered : n ≡ get_or state.numbers.items k 0
    pub many : (m : Moment) → IsMachineAt job m old → block_up_to allowed job m t ≡ steps

-- its block fits the places that are kept for outcomes
pub asks_places : {allowed : ℕ} {job : Job} {old : Machine} {t k n p steps : ℕ} {state : TaskState}
    → AsksFirst allowed job old t k n p steps state → (places : ℕ) (outcomes : List Outcome)
    → HasPlaces job places → places ≤ length outcomes → length (take steps outcomes) ≡ steps
asks_places {allowed} {job} {old} {t} {k} {steps = steps} {state = state} asks places outcomes has room =
    let m = asks.next.some.0 in
    let at = asks.next.some.1 in
    let few = block_few allowed job m t in
    let is = asks.many m at in
    let small = asks.next.small in
    let fits = has t (first_waits_at job old m t k state asks.next at asks.found).there in
    length-take-le steps outcomes (omega arith)

pub first_so : {allowed : ℕ} (job : Job) (old : Machine) (m : Moment) (t k n p steps : ℕ) (state : TaskState)
    → AsksFirst allowed job old t k n p steps state → IsMachineAt job m old
    → turn_in allowed job old m t ≡ block_turn job m t k p n steps
first_so {allowed} job old m t k n p steps state asks at =
    let w = first_waits_at job old m t k state asks.next at asks.found in
    let q = input_at (task_at job.graph t) k in
    ap (answer_up_to allowed (most_in old t) job m t) (asks.next.is m at)
    ∙ ap (λ i. block_turn job m t k q i (block_up_to allowed job m t)) (w.number ∙ sym asks.numbered)
    ∙ ap (λ r. block_turn job m t k r n (block_up_to allowed job m t)) (sym asks.phaser)
    ∙ ap (block_turn job m t k p n) (asks.many m at)
