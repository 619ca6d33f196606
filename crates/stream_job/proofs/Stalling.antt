-- Whether the call of a live task is blocked, where no turn is refused.
use Rattle.std.proofs.Common.{◌≡◌, ◌≢◌, ℕ, zero, suc, ◌+◌, ◌-◌, ◌<◌, ◌≤◌, Bool, true, false, not, eqb, ◌&&◌, ◌||◌, cond, ℤ, pos, List, [], ◌∷◌, Option, Some, None, is_some, map, take, drop, min, refl, sym, ap, subst, ◌∙◌, arith}
use Rattle.std.specs.Prelude.{nat_le, nat_lt, length}
use Rattle.std.specs.List.{position_from}
use Rattle.std.proofs.lemmas.Bool.{leb-true, leb-false, le-leb, lt-ltb, le-ltb, or_right}
use Rattle.std.proofs.lemmas.List.{length-map, length-drop, length-take-le}
use Rattle.phase_base.specs.Limits.{Limits}
use Rattle.phase_base.specs.declared.limits.TheConstants.{SENDS_MAX}
use Rattle.phase_base.specs.Modes.{mode_signals, mode_waits, is_single}
use Rattle.phase_base.specs.Members.{entry_of, least, wait_phases, signalled}
use Rattle.phase_base.specs.declared.entry.Entry.{Entry}
use Rattle.phase_accum.specs.declared.outcome.Outcome.{Outcome}
use Rattle.phase_accum.specs.declared.single.Single.{Single}
use Rattle.phase_history.specs.declared.got.Got.{Got}
use Rattle.phase_history.specs.declared.got.Got.TheVariants as got
use Rattle.phase_history.specs.declared.got.GotBlock.{GotBlock}
use Rattle.phase_history.specs.declared.got.GotBlock.TheVariants as block
use Rattle.phase_history.specs.declared.refusal.SignalRefusal.{SignalRefusal}
use Rattle.phase_history.specs.declared.refusal.SignalRefusal.TheVariants as signal
use Rattle.phase_history.specs.declared.refusal.WaitRefusal.TheVariants as wait
use Rattle.phase_history.specs.Histories.{History, positions_of, members_of, done_of, wait_phase}
use Rattle.phase_history.specs.Phases.{sends_of_phase, named_in_phase}
use Rattle.phase_history.specs.Refusals.{refusal_at, signal_rows, list_rows, wait_rows, signal_refusal, is_ahead, is_bad_block, differs, register_refusal, register_now_refusal, drop_refusal}
use Rattle.phase_base.specs.Lists.{first_row}
use Rattle.phase_history.specs.Replies.{wait_reply, wait_block_reply, refused_or, got_at, got_block_at}
use Rattle.phase_accum.specs.Sends.{AreSends}
use Rattle.stream_filters.specs.Range.{ranged}
use Rattle.graph_base.specs.declared.place.Place.TheVariants as place
use Rattle.graph_base.specs.declared.line.Kind.TheVariants.{Source}
use Rattle.graph_base.specs.declared.registration.Registration.{Registration}
use Rattle.graph_base.specs.Graphs.{task_at, phaser_at}
use Rattle.graph_base.specs.TaskLines.{IsGraph}
use Rattle.stream_lists.specs.Jobs.{Job, samples_at}
use Rattle.stream_lists.specs.Ranges.{are_made, is_out_of_range}
use Rattle.graph_runs.specs.Moments.{one, Moment, limits_at, made_now, value_at, input_at}
use Rattle.graph_runs.specs.NextBlocks.{MaySize, block_of, sample_block_of}
use Rattle.graph_runs.specs.TaskEvents.{TaskEvent, sample, signal, exchange_wait}
use Rattle.graph_runs.specs.Nexts.{Next, is_live, is_not_live, registers, leaves, samples, signals, waits, exchanges, has_input_ended, has_signaller, next_of, number_on, first_missing, first_kept}
use Rattle.graph_runs.specs.Answers.{has_made, is_refused, is_still, signal_answer, block_answer, wait_answer, accepted_answer, register_answer, was_blocked, answer_to, answer_up_to, signal_turn, call_leave, call_register, output_at, next_samples, values_up_to}
use Rattle.graph_runs.specs.TaskPlaces.{Owed, OwesUpTo, StandsAt, StandsUpTo, TaskPlace, lacking, values}
use Rattle.graph_runs.specs.Reached.{IsReachable}
use Rattle.graph_runs.proofs.Blocks.{block_some}
use Rattle.graph_runs.proofs.Found.{all_fail}
use Rattle.graph_runs.proofs.Lacking.{lacks_here, next_begins}
use Rattle.graph_runs.proofs.NotRefused.{IsTold}
use Rattle.graph_runs.proofs.Ranged.{sends_ranged, take_ranged, drop_ranged}
use Rattle.graph_runs.proofs.Signalling.{live-is, owed, values_few}
use Rattle.graph_runs.proofs.Telling.{turn_told}
use Rattle.stream_job.specs.Stepping.{blocks_signal, blocks_signal_at, blocks_wait, blocks_wait_at, is_at_rest, would_block, in_range, are_in_range, owed_many}
use Rattle.stream_job.specs.Machines.{HasLineSizes, IsMachineAt}
use Rattle.stream_job.specs.Places.{MaySignal, place_in_state}
use Rattle.stream_job.specs.declared.machine.Machine.{Machine}
use Rattle.stream_job.proofs.Mosts.{element, most_is}
use Rattle.stream_job.proofs.Lively.{live_next}
use Rattle.stream_job.proofs.SentValues.{all_out}
use Rattle.stream_job.proofs.SignalCalls.{goes_on, stops}
use Rattle.stream_job.proofs.Signals.{owes_values}
use Rattle.stream_job.proofs.WhatNext.{samples_begins, signals_owes}
use Rattle.graph_runs.proofs.Stepping.{line_sizes}

-- ---- a signal, phase by phase

pub ahead_later : (slowest : Option ℕ) (bound s more : ℕ) → s ≤ more
    → is_ahead slowest bound s ≡ true → is_ahead slowest bound more ≡ true
ahead_later None bound s more le e = absurd (cc)
ahead_later (Some slow) bound s more le e =
    let far = leb-true (slow + bound) s e in le-leb (slow + bound) more (omega arith)

-- one phase of it, where the later ones answer so
phase_blocked : (event : TaskEvent) (twice spent ahead differs full all : Bool)
    (rest : Option SignalRefusal) → (spent ≡ true → all ≡ true) → (ahead ≡ true → all ≡ true)
    → (spent ≡ false → ahead ≡ false → signal_answer event rest ≢ is_refused
    → was_blocked (signal_answer event rest) ≡ all)
    → signal_answer event (cond twice (Some signal.SignalTwice) (cond spent (Some signal.Spent)
    (cond ahead (Some signal.Ahead) (cond differs (Some signal.SingleDiffers)
    (cond full (Some signal.PhaseFull) rest))))) ≢ is_refused
    → was_blocked (signal_answer event (cond twice (Some signal.SignalTwice)
    (cond spent (Some signal.Spent) (cond ahead (Some signal.Ahead)
    (cond differs (Some signal.SingleDiffers) (cond full (Some signal.PhaseFull) rest)))))) ≡ all
phase_blocked event true spent ahead differs full all rest a b c never = absurd (never refl)
phase_blocked event false true ahead differs full all rest a b c never = sym (a refl)
phase_blocked event false false true differs full all rest a b c never = sym (b refl)
phase_blocked event false false false true full all rest a b c never = absurd (never refl)
phase_blocked event false false false false true all rest a b c never = absurd (never refl)
phase_blocked event false false false false false all rest a b c never = c refl refl never

-- the rows before those of the phases
front_blocked : (event : TaskEvent) (no_signal not_single bad all : Bool)
    (rest : Option SignalRefusal)
    → (signal_answer event rest ≢ is_refused → was_blocked (signal_answer event rest) ≡ all)
    → signal_answer event (cond no_signal (Some signal.NoSignal)
    (cond not_single (Some signal.NotSingle) (cond bad (Some signal.BadBlock) rest))) ≢ is_refused
    → was_blocked (signal_answer event (cond no_signal (Some signal.NoSignal)
    (cond not_single (Some signal.NotSingle) (cond bad (Some signal.BadBlock) rest)))) ≡ all
front_blocked event true not_single bad all rest c never = absurd (never refl)
front_blocked event false true bad all rest c never = absurd (never refl)
front_blocked event false false true all rest c never = absurd (never refl)
front_blocked event false false false all rest c never = c never

-- whether one of so many phases from this one on is past the last, or too far ahead
abbrev is_late : Limits → Option ℕ → ℕ → ℕ → Bool
is_late limits slowest s many =
    nat_lt limits.phases_max (s + many) || is_ahead slowest limits.bound (s + many - 1)

-- the first phase of it, by what the later ones answer
first_blocked : (event : TaskEvent) (limits : Limits) (h : History) (single : Option Single)
    (v : ℤ) (vs : List ℤ) (entry : Entry)
    → (nat_le limits.phases_max entry.signal_phase ≡ false
    → is_ahead (least (wait_phases (members_of h))) limits.bound entry.signal_phase ≡ false
    → signal_answer event (first_row (list_rows limits h (map one vs) single (signalled 1 entry)))
    ≢ is_refused
    → was_blocked (signal_answer event
    (first_row (list_rows limits h (map one vs) single (signalled 1 entry))))
    ≡ is_late limits (least (wait_phases (members_of h))) entry.signal_phase (suc (length vs)))
    → signal_answer event (first_row (list_rows limits h (map one (v ∷ vs)) single entry))
    ≢ is_refused
    → was_blocked (signal_answer event
    (first_row (list_rows limits h (map one (v ∷ vs)) single entry)))
    ≡ is_late limits (least (wait_phases (members_of h))) entry.signal_phase (suc (length vs))
first_blocked event limits h single v vs entry later =
    phase_blocked event (mode_waits entry.mode && eqb s (entry.wait_phase + 1))
    (nat_le limits.phases_max s) (is_ahead slowest limits.bound s)
    (is_some slowest && differs (named_in_phase h s) single)
    (is_some slowest && nat_lt SENDS_MAX (length (sends_of_phase h s) + 1))
    (is_late limits slowest s (suc (length vs)))
    (first_row (list_rows limits h (map one vs) single (signalled 1 entry)))
    (λ spent. (let far = leb-true limits.phases_max s spent in
    let late : nat_lt limits.phases_max (s + suc (length vs)) ≡ true =
    lt-ltb limits.phases_max (s + suc (length vs)) (omega arith) in
    ap (λ b. b || is_ahead slowest limits.bound (s + suc (length vs) - 1)) late))
    (λ ahead. or_right (nat_lt limits.phases_max (s + suc (length vs)))
    (is_ahead slowest limits.bound (s + suc (length vs) - 1))
    (ahead_later slowest limits.bound s (s + suc (length vs) - 1) (omega arith) ahead))
    later
  where
    s : ℕ
    s = entry.signal_phase

    slowest : Option ℕ
    slowest = least (wait_phases (members_of h))

lists_blocked : (event : TaskEvent) (limits : Limits) (h : History) (single : Option Single)
    (v : ℤ) (vs : List ℤ) (entry : Entry)
    → signal_answer event (first_row (list_rows limits h (map one (v ∷ vs)) single entry))
    ≢ is_refused
    → was_blocked (signal_answer event
    (first_row (list_rows limits h (map one (v ∷ vs)) single entry)))
    ≡ is_late limits (least (wait_phases (members_of h))) entry.signal_phase (suc (length vs))
lists_blocked event limits h single v [] entry =
    first_blocked event limits h single v [] entry (λ spent ahead never.
    (let few = leb-false limits.phases_max entry.signal_phase spent in
    let last : nat_lt limits.phases_max (entry.signal_phase + 1) ≡ false =
    le-ltb limits.phases_max (entry.signal_phase + 1) (omega arith) in
    let same : entry.signal_phase + 1 - 1 ≡ entry.signal_phase = omega arith in
    sym (ap (λ b. b || is_ahead (least (wait_phases (members_of h))) limits.bound
    (entry.signal_phase + 1 - 1)) last
    ∙ ap (is_ahead (least (wait_phases (members_of h))) limits.bound) same ∙ ahead)))
lists_blocked event limits h single v (w ∷ ws) entry =
    first_blocked event limits h single v (w ∷ ws) entry (λ spent ahead never.
    (let same : entry.signal_phase + 1 + suc (length ws)
    ≡ entry.signal_phase + suc (suc (length ws)) = omega arith in
    lists_blocked event limits h single w ws (signalled 1 entry) never
    ∙ ap (λ n. nat_lt limits.phases_max n
    || is_ahead (least (wait_phases (members_of h))) limits.bound (n - 1)) same))

-- a signal that is not refused is blocked where one of its phases is past the last, or too far
-- ahead
pub signal_blocked : (event : TaskEvent) (limits : Limits) (h : History) (n : ℕ) (vs : List ℤ)
    (single : Option Single) → 1 ≤ length vs
    → signal_answer event (signal_refusal limits h n (map one vs) single) ≢ is_refused
    → was_blocked (signal_answer event (signal_refusal limits h n (map one vs) single))
    ≡ blocks_signal limits h n (length vs)
signal_blocked event limits h n [] single some never = absurd (omega arith)
signal_blocked event limits h n (v ∷ vs) single some never = by (entry_of (members_of h) n) never
  where
    by : (o : Option Entry)
        → signal_answer event (refusal_at o signal.NoTask
        (signal_rows limits h (map one (v ∷ vs)) single)) ≢ is_refused
        → was_blocked (signal_answer event (refusal_at o signal.NoTask
        (signal_rows limits h (map one (v ∷ vs)) single)))
        ≡ blocks_signal_at limits h (length (v ∷ vs)) o
    by None never = absurd (never refl)
    by (Some e) never =
        front_blocked event (not (mode_signals e.mode)) (is_some single && not (is_single e.mode))
        (is_bad_block limits (length (map one (v ∷ vs))))
        (is_late limits (least (wait_phases (members_of h))) e.signal_phase (length (v ∷ vs)))
        (first_row (list_rows limits h (map one (v ∷ vs)) single e))
        (lists_blocked event limits h single v vs e) never

wait_rows_blocked : (event : Outcome → TaskEvent) (g : Got) (a b c yet : Bool)
    → wait_answer event (refused_or (first_row ((a, wait.NoWait) ∷ (b, wait.BadBlock)
    ∷ (c, wait.SignalFirst) ∷ (yet, wait.NotYet) ∷ [])) g) ≢ is_refused
    → was_blocked (wait_answer event (refused_or (first_row ((a, wait.NoWait) ∷ (b, wait.BadBlock)
    ∷ (c, wait.SignalFirst) ∷ (yet, wait.NotYet) ∷ [])) g)) ≡ yet
wait_rows_blocked event g true b c yet never = absurd (never refl)
wait_rows_blocked event g false true c yet never = absurd (never refl)
wait_rows_blocked event g false false true yet never = absurd (never refl)
wait_rows_blocked event g false false false true never = refl
wait_rows_blocked event (got.Value phase outcome) false false false false never = refl
wait_rows_blocked event got.Ended false false false false never = refl

-- a wait that is not refused is blocked where its phase is not complete and somebody signals
pub wait_blocked : (event : Outcome → TaskEvent) (of : List ℤ → Outcome) (limits : Limits)
    (h : History) (n : ℕ)
    → wait_answer event (wait_reply of limits h n) ≢ is_refused
    → was_blocked (wait_answer event (wait_reply of limits h n)) ≡ blocks_wait h n
wait_blocked event of limits h n = by (entry_of (members_of h) n)
  where
    by : (o : Option Entry)
        → wait_answer event (refused_or (refusal_at o wait.NoTask
        (wait_rows limits (positions_of h) 1))
        (got_at of h (wait_phase h n))) ≢ is_refused
        → was_blocked (wait_answer event (refused_or (refusal_at o wait.NoTask
        (wait_rows limits (positions_of h) 1))
        (got_at of h (wait_phase h n)))) ≡ blocks_wait_at h o
    by None never = absurd (never refl)
    by (Some e) never =
        wait_rows_blocked event (got_at of h (wait_phase h n)) (not (mode_waits e.mode))
        (is_bad_block limits 1) (mode_signals e.mode && eqb e.signal_phase e.wait_phase)
        (nat_le (done_of h) e.wait_phase && has_signaller h) never

block_rows_blocked : (event : ℕ → ℕ → TaskEvent) (g : GotBlock) (a b c yet : Bool)
    → block_answer event (refused_or (first_row ((a, wait.NoWait) ∷ (b, wait.BadBlock)
    ∷ (c, wait.SignalFirst) ∷ (yet, wait.NotYet) ∷ [])) g) ≢ is_refused
    → was_blocked (block_answer event (refused_or (first_row ((a, wait.NoWait) ∷ (b, wait.BadBlock)
    ∷ (c, wait.SignalFirst) ∷ (yet, wait.NotYet) ∷ [])) g)) ≡ yet
block_rows_blocked event g true b c yet never = absurd (never refl)
block_rows_blocked event g false true c yet never = absurd (never refl)
block_rows_blocked event g false false true yet never = absurd (never refl)
block_rows_blocked event g false false false true never = refl
block_rows_blocked event (block.Values phase count) false false false false never = refl
block_rows_blocked event block.Ended false false false false never = refl

-- and so is a wait for a block
pub block_blocked : (event : ℕ → ℕ → TaskEvent) (limits : Limits) (h : History) (n steps : ℕ)
    → block_answer event (wait_block_reply limits h n steps) ≢ is_refused
    → was_blocked (block_answer event (wait_block_reply limits h n steps)) ≡ blocks_wait h n
block_blocked event limits h n steps = by (entry_of (members_of h) n)
  where
    by : (o : Option Entry)
        → block_answer event (refused_or (refusal_at o wait.NoTask
        (wait_rows limits (positions_of h) steps))
        (got_block_at h (wait_phase h n) steps)) ≢ is_refused
        → was_blocked (block_answer event (refused_or (refusal_at o wait.NoTask
        (wait_rows limits (positions_of h) steps))
        (got_block_at h (wait_phase h n) steps))) ≡ blocks_wait_at h o
    by None never = absurd (never refl)
    by (Some e) never =
        block_rows_blocked event (got_block_at h (wait_phase h n) steps) (not (mode_waits e.mode))
        (is_bad_block limits steps) (mode_signals e.mode && eqb e.signal_phase e.wait_phase)
        (nat_le (done_of h) e.wait_phase && has_signaller h) never

-- ---- what a task does next

-- the answer to what is next is none of a refusal
pub never_refused : {steps most : ℕ} (job : Job) (m : Moment) (t : ℕ) (next : Next)
    → MaySize job.graph t steps most → IsGraph job.graph → AreSends (samples_at job t)
    → IsReachable job m → next_of job m t ≡ next → answer_up_to steps most job m t next ≢ is_refused
never_refused {steps} {most} job m t next sized is sends reached at refused =
    subst IsTold (ap (answer_up_to steps most job m t) at ∙ refused)
    (turn_told steps most job m t sized is sends reached)

-- a drop and a registration are never blocked
accepted_moves : {R : Type 0} (event : TaskEvent) (o : Option R)
    → was_blocked (accepted_answer event o) ≡ false
accepted_moves event None = refl
accepted_moves event (Some refusal) = refl

pub leave_moves : (job : Job) (m : Moment) (t : ℕ) → would_block job m t leaves ≡ false
leave_moves job m t = by (first_kept job m t)
  where
    by : (o : Option Registration) → was_blocked (call_leave m t o) ≡ false
    by None = refl
    by (Some r) = accepted_moves _ (drop_refusal (m.history r.phaser) (number_on m t r.phaser))

register_answer_moves : (m : Moment) (t c : ℕ) (r : Registration) (now : Bool)
    → was_blocked (register_answer m t c r now) ≡ false
register_answer_moves m t c r true =
    accepted_moves _ (register_now_refusal (m.history r.phaser) (number_on m t r.phaser) _)
register_answer_moves m t c r false =
    accepted_moves _ (register_refusal (m.history r.phaser) (number_on m t r.phaser) _ r.mode)

pub register_moves : (job : Job) (m : Moment) (t c : ℕ)
    → would_block job m t (registers c) ≡ false
register_moves job m t c = by (first_missing job m c)
  where
    by : (o : Option Registration) → was_blocked (call_register job m t c o) ≡ false
    by None = refl
    by (Some r) = register_answer_moves m t c r (task_at job.graph c).joins_now

-- values in range are signalled
pub signal_turn_blocked : (job : Job) (m : Moment) (t j : ℕ) (vs : List ℤ) (event : TaskEvent)
    → 1 ≤ length vs → position_from is_out_of_range (length (m.put t j)) vs ≡ None
    → signal_turn job m t j vs event ≢ is_refused
    → was_blocked (signal_turn job m t j vs event)
    ≡ blocks_signal (limits_at job (output_at job t j)) (m.history (output_at job t j))
    (number_on m t (output_at job t j)) (length vs)
signal_turn_blocked job m t j vs event some none never =
    let p = output_at job t j in
    let same = goes_on job m t j vs event none in
    ap was_blocked same
    ∙ signal_blocked event (limits_at job p) (m.history p) (number_on m t p) vs
    (phaser_at job.graph p).single some (λ refused. never (same ∙ refused))

-- the samples that are next: so many, one at least, and in range
record NextSamples (job : Job) (m : Moment) (t : ℕ) : Type 0 where
  long : length (next_samples job m t) ≡ sample_block_of job m t
  some : 1 ≤ sample_block_of job m t
  none : position_from is_out_of_range (length (m.put t 0)) (next_samples job m t) ≡ None

samples_next : (job : Job) (m : Moment) (t : ℕ) → IsGraph job.graph
    → AreSends (samples_at job t) → IsReachable job m → next_of job m t ≡ samples
    → NextSamples job m t
samples_next job m t is sends reached next =
    let there = (live-is job m t (live_next job m t samples next (λ e. absurd (cc)))).there in
    let s = samples_begins job m t next in
    let more : nat_le (length (samples_at job t)) (m.begun t) ≡ false =
    ap (has_input_ended job m t) (sym s.kind) ∙ s.step.more in
    let left = leb-false (length (samples_at job t)) (m.begun t) more in
    let steps : 1 ≤ block_of job m t =
    block_some (task_at job.graph t).block job m t (reached.ran.tasks t there)
    (is.tasks t there).block.some s.step.uncut in
    let rest : length (drop (m.begun t) (samples_at job t))
    ≡ length (samples_at job t) - m.begun t = length-drop (m.begun t) (samples_at job t) in
    let ranged = take_ranged (sample_block_of job m t) (drop (m.begun t) (samples_at job t))
    (drop_ranged (m.begun t) (samples_at job t) (sends_ranged (samples_at job t) sends)) in
    record {
      long = length-take-le (sample_block_of job m t) (drop (m.begun t) (samples_at job t))
          (omega arith);
      some = omega arith;
      none = all_fail is_out_of_range (length (m.put t 0)) (next_samples job m t) (pos 0)
          (λ k lt. ranged.at k);
    }

pub sample_blocks : (job : Job) (m : Moment) (t : ℕ) → IsGraph job.graph
    → AreSends (samples_at job t) → IsReachable job m → next_of job m t ≡ samples
    → would_block job m t samples
    ≡ blocks_signal (limits_at job (output_at job t 0)) (m.history (output_at job t 0))
    (number_on m t (output_at job t 0)) (sample_block_of job m t)
sample_blocks job m t is sends reached next =
    let p = output_at job t 0 in
    let vs = next_samples job m t in
    let s = samples_next job m t is sends reached next in
    let long : length vs ≡ sample_block_of job m t = s.long in
    let some : 1 ≤ sample_block_of job m t = s.some in
    signal_turn_blocked job m t 0 vs (sample t 0 p (number_on m t p) vs) (omega arith) s.none
    (never_refused job m t samples (line_sizes job t is) is sends reached next)
    ∙ ap (blocks_signal (limits_at job p) (m.history p) (number_on m t p)) long

-- how many they are, by the samples that the source awaits
pub sample_block_is : (job : Job) (m : Moment) (t block : ℕ) (rest : List ℤ)
    → block_of job m t ≡ block → next_of job m t ≡ samples
    → ((task_at job.graph t).kind ≡ Source → drop (m.begun t) (samples_at job t) ≡ rest)
    → sample_block_of job m t ≡ min block (length rest)
sample_block_is job m t block rest same next awaits =
    ap (λ n. min n (length (samples_at job t) - m.begun t)) same
    ∙ ap (min block) (sym (length-drop (m.begun t) (samples_at job t))
    ∙ ap length (awaits (samples_begins job m t next).kind))

-- there is a sample to signal
pub samples_some : (job : Job) (m : Moment) (t : ℕ) → IsGraph job.graph
    → AreSends (samples_at job t) → IsReachable job m → next_of job m t ≡ samples
    → 1 ≤ sample_block_of job m t
samples_some job m t is sends reached next = (samples_next job m t is sends reached next).some

-- ---- the values that are owed

-- a value is owed where a task signals
pub values_some : (most : ℕ) (job : Job) (m : Moment) (t j : ℕ) → 1 ≤ most
    → next_of job m t ≡ signals j → 1 ≤ length (values_up_to most job m t j)
values_some most job m t j some next =
    let more = (owed job m t j (signals_owes job m t j next)).1 in
    let begins = next_begins most job m t j some more in
    omega (arith, ap length begins)

-- so many, where they are in range
pub values_many : (most : ℕ) (job : Job) (m : Moment) (t j : ℕ) (owed : Owed)
    → OwesUpTo most job m t owed → next_of job m t ≡ signals j
    → length (values_up_to most job m t j) ≡ owed_many owed
values_many most job m t j owed owes next =
    let o = owes_values most job m t j owed owes next in
    sym (length-map (values_up_to most job m t j) ranged) ∙ ap length o.2 ∙ sym (ap owed_many o.1)

-- of a list no longer than this all is taken
pub take_all : {X : Type 0} (n : ℕ) (xs : List X) → length xs ≤ n → take n xs ≡ xs
take_all zero [] few = refl
take_all (suc n) [] few = refl
take_all zero (x ∷ xs) few = absurd (omega arith)
take_all (suc n) (x ∷ xs) few = ap (λ l. x ∷ l) (take_all n xs (omega arith))

-- no more is owed than one event signals
pub rest_few : (most : ℕ) (job : Job) (m : Moment) (t j : ℕ) (at : TaskPlace)
    → StandsUpTo most job m t at → next_of job m t ≡ signals j
    → length (drop (length (m.put t j)) (made_now job m t j)) ≤ most
rest_few most job m t j at stands next =
    let o = owes_values most job m t j at.owed stands.owes next in
    let there = (owed job m t j (signals_owes job m t j next)).0 in
    let lacks : length (made_now job m t j)
    ≡ length (m.put t j) + lacking (task_at job.graph t).kind (values j o.0) j =
    stands.lacks j there
    ∙ ap (λ x. length (m.put t j) + lacking (task_at job.graph t).kind x j) o.1 in
    let here : lacking (task_at job.graph t).kind (values j o.0) j ≡ length o.0 =
    lacks_here (task_at job.graph t).kind j o.0 in
    let many : length (map ranged (values_up_to most job m t j)) ≡ length o.0 = ap length o.2 in
    let long : length (map ranged (values_up_to most job m t j))
    ≡ length (values_up_to most job m t j) = length-map (values_up_to most job m t j) ranged in
    let within : length (values_up_to most job m t j) ≤ most = values_few most job m t j in
    let is : length (drop (length (m.put t j)) (made_now job m t j))
    ≡ length (made_now job m t j) - length (m.put t j) =
    length-drop (length (m.put t j)) (made_now job m t j) in
    omega arith

-- what one event signals is all that is owed
pub all_is : (most : ℕ) (job : Job) (m : Moment) (t j : ℕ) (at : TaskPlace)
    → StandsUpTo most job m t at → next_of job m t ≡ signals j
    → values_up_to (length (made_now job m t j)) job m t j ≡ values_up_to most job m t j
all_is most job m t j at stands next =
    let is : length (drop (length (m.put t j)) (made_now job m t j))
    ≡ length (made_now job m t j) - length (m.put t j) =
    length-drop (length (m.put t j)) (made_now job m t j) in
    take_all (length (made_now job m t j)) (drop (length (m.put t j)) (made_now job m t j))
    (omega arith)
    ∙ sym (take_all most (drop (length (m.put t j)) (made_now job m t j))
    (rest_few most job m t j at stands next))

-- so the turn would be blocked as its signal is
pub all_blocks : (most : ℕ) (job : Job) (m : Moment) (t j : ℕ) (at : TaskPlace)
    → StandsUpTo most job m t at → next_of job m t ≡ signals j → would_block job m t (signals j)
    ≡ was_blocked (answer_up_to (task_at job.graph t).block most job m t (signals j))
all_blocks most job m t j at stands next =
    let p = output_at job t j in
    ap (λ vs. was_blocked (signal_turn job m t j vs (signal t j p (number_on m t p) vs)))
    (all_is most job m t j at stands next)

-- a block of a line and what one event signals are sizes of a turn
pub signal_sizes : (job : Job) (t most : ℕ) → IsGraph job.graph → MaySignal job t most
    → MaySize job.graph t (task_at job.graph t).block most
signal_sizes job t most is may there = record {
  block = (line_sizes job t is there).block;
  owed = may.block;
  few = λ fir. may.least;
}

pub value_blocks : (most : ℕ) (job : Job) (m : Moment) (t j : ℕ) (at : TaskPlace)
    → MaySignal job t most → IsGraph job.graph → AreSends (samples_at job t) → IsReachable job m
    → next_of job m t ≡ signals j → StandsUpTo most job m t at → are_in_range at.owed ≡ true
    → would_block job m t (signals j)
    ≡ blocks_signal (limits_at job (output_at job t j)) (m.history (output_at job t j))
    (number_on m t (output_at job t j)) (owed_many at.owed)
value_blocks most job m t j at may is sends reached next stands all =
    let p = output_at job t j in
    let vs = values_up_to most job m t j in
    let o = owes_values most job m t j at.owed stands.owes next in
    let good : in_range o.0 ≡ true = sym (ap are_in_range o.1) ∙ all in
    all_blocks most job m t j at stands next
    ∙ signal_turn_blocked job m t j vs (signal t j p (number_on m t p) vs)
    (values_some most job m t j may.block.some next)
    ((all_out vs o.0 (length (m.put t j)) o.2).0 good)
    (never_refused job m t (signals j) (signal_sizes job t most is may) is sends reached next)
    ∙ ap (blocks_signal (limits_at job p) (m.history p) (number_on m t p))
    (values_many most job m t j at.owed stands.owes next)

-- where one is out of range none is signalled
pub value_moves : (most : ℕ) (job : Job) (m : Moment) (t j : ℕ) (at : TaskPlace)
    → next_of job m t ≡ signals j → StandsUpTo most job m t at → are_in_range at.owed ≡ false
    → would_block job m t (signals j) ≡ false
value_moves most job m t j at next stands some =
    let p = output_at job t j in
    let vs = values_up_to most job m t j in
    let o = owes_values most job m t j at.owed stands.owes next in
    let bad : in_range o.0 ≡ false = sym (ap are_in_range o.1) ∙ some in
    let over = (all_out vs o.0 (length (m.put t j)) o.2).1 bad in
    all_blocks most job m t j at stands next
    ∙ ap was_blocked (stops job m t j over.0 vs (signal t j p (number_on m t p) vs) over.1)
    ∙ by over.0 (are_made (task_at job.graph t).kind j)
  where
    by : (step : ℕ) (b : Bool)
        → was_blocked (cond b (has_made (place.Task t, step)) is_refused) ≡ false
    by step true = refl
    by step false = refl

-- where one event signals a block of the line, a task rests as the table has it
pub rest_is_still : (job : Job) (m : Moment) (t : ℕ) (at : TaskPlace) → StandsAt job m t at
    → is_at_rest job m t ≡ is_still job m t
rest_is_still job m t at stands =
    ap (λ b. cond (is_live job m t) b true) (by (next_of job m t) refl)
  where
    by : (next : Next) → next_of job m t ≡ next
        → would_block job m t next ≡ was_blocked (answer_to job m t next)
    by is_not_live e = refl
    by (registers c) e = refl
    by leaves e = refl
    by samples e = refl
    by (signals j) e = all_blocks (task_at job.graph t).block job m t j at stands e
    by (waits k) e = refl
    by exchanges e = refl

-- as the machine has it
pub rest_in_line : (job : Job) (machine : Machine) (m : Moment) (t : ℕ) → HasLineSizes job machine
    → IsMachineAt job m machine → t < length job.graph.tasks
    → is_at_rest job m t ≡ is_still job m t
rest_in_line job machine m t sizes at there =
    let many = at.tasks_many in
    let some = element machine.tasks.items t (omega arith) in
    let same : some.0.most ≡ (task_at job.graph t).block =
    sym (most_is machine t some.0 some.1) ∙ sizes t there in
    rest_is_still job m t (place_in_state some.0)
    (subst (λ n. StandsUpTo n job m t (place_in_state some.0)) same
    (at.tasks t some.0 some.1).stands)

-- ---- waits

pub first_wait_blocks : (job : Job) (m : Moment) (t k : ℕ) → IsGraph job.graph
    → AreSends (samples_at job t) → IsReachable job m → next_of job m t ≡ waits k
    → would_block job m t (waits k)
    ≡ blocks_wait (m.history (input_at (task_at job.graph t) k))
    (number_on m t (input_at (task_at job.graph t) k))
first_wait_blocks job m t k is sends reached next =
    let p = input_at (task_at job.graph t) k in
    let n = number_on m t p in
    block_blocked _ (limits_at job p) (m.history p) n (block_of job m t)
    (never_refused job m t (waits k) (line_sizes job t is) is sends reached next)

pub exchange_blocks : (job : Job) (m : Moment) (t : ℕ) → IsGraph job.graph
    → AreSends (samples_at job t) → IsReachable job m → next_of job m t ≡ exchanges
    → would_block job m t exchanges
    ≡ blocks_wait (m.history (input_at (task_at job.graph t) 1))
    (number_on m t (input_at (task_at job.graph t) 1))
exchange_blocks job m t is sends reached next =
    let p = input_at (task_at job.graph t) 1 in
    let n = number_on m t p in
    wait_blocked (exchange_wait t p n) (value_at job p) (limits_at job p) (m.history p) n
    (never_refused job m t exchanges (line_sizes job t is) is sends reached next)
