-- A turn's sample, its waits and its drop are the task's next events.
use Rattle.std.proofs.Common.{◌≡◌, ℕ, zero, suc, ◌+◌, ◌<◌, ◌-◌, ◌≤◌, true, false, not, ◌||◌, List, Option, Some, None, is_some, length, get_or, refl, sym, ap, subst, ◌∙◌, arith, ◌⊎◌, inl, inr}
use Rattle.std.specs.Prelude.{Result, Ok, Err, nat_le, unwrap_or, take, drop, min, slice_range}
use Rattle.std.proofs.lemmas.List.{length-take-le, length-drop}
use Rattle.std.proofs.lemmas.Bool.{and_parts, leb-true, eqb-true, or_cases}
use Rattle.phase_base.specs.Members.{signal_phases}
use Rattle.phase_accum.specs.declared.outcome.Outcome.{Outcome}
use Rattle.phase_history.specs.declared.got.Got.{Got}
use Rattle.phase_history.specs.declared.got.Got.TheVariants as got
use Rattle.phase_history.specs.declared.got.GotBlock.{GotBlock}
use Rattle.phase_history.specs.declared.got.GotBlock.TheVariants as block
use Rattle.phase_history.specs.declared.refusal.WaitRefusal.{WaitRefusal}
use Rattle.phase_history.specs.declared.refusal.WaitRefusal.TheVariants as refusal
use Rattle.phase_history.specs.Histories.{members_of, done_of, wait_phase}
use Rattle.phase_history.specs.Refusals.{wait_refusal, drop_refusal}
use Rattle.phase_history.specs.Phases.{stream_of}
use Rattle.phase_history.specs.Replies.{wait_reply, wait_block_reply, refused_or, got_at}
use Rattle.phase_history.proofs.BlockAnswers.{block_tells, wait_refusal-fewer}
use Rattle.phase_history.proofs.LawProofs.{answers_law, reply_tells}
use Rattle.graph_base.specs.declared.line.Kind.{Kind}
use Rattle.graph_base.specs.declared.line.Kind.TheVariants.{Source, Fir, Split, Decimate, Join, Peer, Sink}
use Rattle.graph_base.specs.declared.registration.Registration.{Registration}
use Rattle.graph_base.specs.Graphs.{task_at}
use Rattle.graph_base.specs.Registrations.{no_registration}
use Rattle.graph_base.specs.TaskLines.{IsGraph, has_blocks}
use Rattle.stream_lists.specs.Jobs.{Job, samples_at, index_in}
use Rattle.stream_lists.specs.Spans.{signalled_by, puts_on}
use Rattle.graph_runs.specs.Moments.{Moment, HasRun, HasEnded, HasSamples, MayStop, at_until, no_sample, no_input, OnLine, limits_at, value_at, input_at, first_input, made_now}
use Rattle.graph_runs.proofs.OnLines.{on_phaser}
use Rattle.graph_runs.proofs.Tasks.{first_looks}
use Rattle.graph_runs.specs.Moves.{further, IsBlock}
use Rattle.graph_runs.specs.Turned.{IsAnsweredWait, IsAnsweredWaits}
use Rattle.graph_runs.specs.NextBlocks.{AreSizes, block_up_to, sample_block_up_to}
use Rattle.graph_runs.specs.TaskEvents.{TaskEvent, IsNext, sample, first_wait, exchange_wait, leave}
use Rattle.graph_runs.specs.Nexts.{first_owed, first_due, first_kept, is_cut, has_input_ended, has_run_out, has_signaller, has_registered, has_left, registrations_at, number_on, waits_first}
use Rattle.graph_runs.specs.Answers.{makes, signal_turn, wait_answer, block_answer, accepted_answer, call_wait, call_block, call_leave, output_at, samples_up_to}
use Rattle.graph_runs.proofs.PlacesLemmas.{find-none, find-some, place_of_output}
use Rattle.graph_runs.proofs.Signalling.{Live, number_there, stays, event_or, signalled, lists_sendable, owed, not_ended}
use Rattle.graph_runs.proofs.Nexts.{further-length}
use Rattle.graph_runs.proofs.Blocks.{AnsweredBlock, answered_block, block_few, may_go_on}
use Rattle.graph_runs.proofs.Boundaries.{all_put, made_many, peer_ends, none_due, goes_on, no_signaller}

-- ---- the answer to a wait

-- a wait that makes an event was answered an outcome
pub record Answered (job : Job) (m : Moment) (t p : ℕ) (event : Outcome → TaskEvent)
    (made : TaskEvent) : Type 0 where
  pub outcome : Outcome
  pub phase : ℕ
  pub reply : wait_reply (value_at job p) (limits_at job p) (m.history p) (number_on m t p)
      ≡ Ok (got.Value phase outcome)
  pub is : event outcome ≡ made

pub answered : (job : Job) (m : Moment) (t p : ℕ) (event : Outcome → TaskEvent) (made : TaskEvent)
    → call_wait job m t p event ≡ makes made → Answered job m t p event made
answered job m t p event made e =
    by (wait_reply (value_at job p) (limits_at job p) (m.history p) (number_on m t p)) refl e
  where
    by : (r : Result Got WaitRefusal)
        → wait_reply (value_at job p) (limits_at job p) (m.history p) (number_on m t p) ≡ r
        → wait_answer event r ≡ makes made → Answered job m t p event made
    by (Ok (got.Value phase outcome)) reply e = record {
      outcome = outcome;
      phase = phase;
      reply = reply;
      is = ap (λ a. event_or made a) e;
    }
    by (Ok got.Ended) reply e = absurd (cc)
    by (Err refusal.NoTask) reply e = absurd (cc)
    by (Err refusal.NoWait) reply e = absurd (cc)
    by (Err refusal.BadBlock) reply e = absurd (cc)
    by (Err refusal.SignalFirst) reply e = absurd (cc)
    by (Err refusal.NotYet) reply e = absurd (cc)

not_refused : {A R : Type 0} (o : Option R) (a b : A) → refused_or o a ≡ Ok b → o ≡ None
not_refused None a b e = refl
not_refused (Some r) a b e = absurd (cc)

-- the wait on input k, which is answered so
pub answered_wait : (job : Job) (m : Moment) (t k : ℕ) (event : Outcome → TaskEvent)
    (made : TaskEvent) → IsGraph job.graph → HasRun job m → Live job m t
    → k < length (task_at job.graph t).inputs → (HasEnded job m t → ⊥)
    → (a : Answered job m t (input_at (task_at job.graph t) k) event made)
    → IsAnsweredWait job m t k (input_at (task_at job.graph t) k)
    (number_on m t (input_at (task_at job.graph t) k)) a.outcome
answered_wait job m t k event made is ran live lt more a =
    let p = input_at (task_at job.graph t) k in
    let n = number_on m t p in
    let h = m.history p in
    let tells = reply_tells (value_at job p) (limits_at job p) h n a.phase a.outcome a.reply in
    record {
      accepted = (
        not_refused (wait_refusal (limits_at job p) h n 1)
            (got_at (value_at job p) h (wait_phase h n)) (got.Value a.phase a.outcome) a.reply,
        omega (arith, tells.0),
      );
      numbered = number_there job m t p is live (inr (k, lt, refl));
      few = lt;
      place = refl;
      staying = stays job m t is (ran.tasks t live.there) live.there more;
      answered =
          (answers_law (value_at job p) (limits_at job p) h n a.phase a.outcome a.reply).received;
    }

-- a wait for a block that makes an event was answered these phases
pub record AnsweredAll (job : Job) (m : Moment) (t p steps : ℕ) (event : List Outcome → TaskEvent)
    (made : TaskEvent) : Type 0 where
  pub phase : ℕ
  pub count : ℕ
  pub reply : wait_block_reply (limits_at job p) (m.history p) (number_on m t p) steps
      ≡ Ok (block.Values phase count)
  pub is : event (slice_range (stream_of (value_at job p) (m.history p)) phase (phase + count))
      ≡ made

pub answered_all : (job : Job) (m : Moment) (t p steps : ℕ) (event : List Outcome → TaskEvent)
    (made : TaskEvent) → call_block job m t p steps event ≡ makes made
    → AnsweredAll job m t p steps event made
answered_all job m t p steps event made e =
    by (wait_block_reply (limits_at job p) (m.history p) (number_on m t p) steps) refl e
  where
    by : (r : Result GotBlock WaitRefusal)
        → wait_block_reply (limits_at job p) (m.history p) (number_on m t p) steps ≡ r
        → block_answer
        (λ phase count. event (slice_range (stream_of (value_at job p) (m.history p)) phase
        (phase + count))) r ≡ makes made → AnsweredAll job m t p steps event made
    by (Ok (block.Values phase count)) reply e = record {
      phase = phase;
      count = count;
      reply = reply;
      is = ap (λ a. event_or made a) e;
    }
    by (Ok block.Ended) reply e = absurd (cc)
    by (Err refusal.NoTask) reply e = absurd (cc)
    by (Err refusal.NoWait) reply e = absurd (cc)
    by (Err refusal.BadBlock) reply e = absurd (cc)
    by (Err refusal.SignalFirst) reply e = absurd (cc)
    by (Err refusal.NotYet) reply e = absurd (cc)

-- the wait on input k for a block, which is answered so
answered_waits : (job : Job) (m : Moment) (t k steps : ℕ) (event : List Outcome → TaskEvent)
    (made : TaskEvent) → IsGraph job.graph → HasRun job m → Live job m t
    → k < length (task_at job.graph t).inputs → (HasEnded job m t → ⊥)
    → (a : AnsweredAll job m t (input_at (task_at job.graph t) k) steps event made)
    → IsAnsweredWaits job m t k (input_at (task_at job.graph t) k)
    (number_on m t (input_at (task_at job.graph t) k))
    (slice_range (stream_of (value_at job (input_at (task_at job.graph t) k))
    (m.history (input_at (task_at job.graph t) k))) a.phase (a.phase + a.count))
answered_waits job m t k steps event made is ran live lt more a =
    let p = input_at (task_at job.graph t) k in
    let n = number_on m t p in
    let h = m.history p in
    let outcomes = slice_range (stream_of (value_at job p) h) a.phase (a.phase + a.count) in
    let b : AnsweredBlock job h p n steps outcomes =
    answered_block job h p n steps a.phase a.count a.reply in
    let tells = block_tells (limits_at job p) h n steps a.phase a.count a.reply in
    record {
      accepted = (
        wait_refusal-fewer (limits_at job p) h n steps (length outcomes) tells.accepted b.some b.few,
        b.within,
      );
      numbered = number_there job m t p is live (inr (k, lt, refl));
      few = lt;
      place = refl;
      staying = stays job m t is (ran.tasks t live.there) live.there more;
      answered = b.received;
    }

-- only a source has samples
no_samples : (kind : Kind) (steps many : ℕ) → (kind ≡ Source → ⊥) → HasSamples kind steps many
no_samples Source steps many never = absurd (never refl)
no_samples Fir steps many never = tt
no_samples Split steps many never = tt
no_samples Decimate steps many never = tt
no_samples Join steps many never = tt
no_samples Peer steps many never = tt
no_samples Sink steps many never = tt

-- so many steps as a task may make at once are a block of its kind
block_is : (kind : Kind) (block many : ℕ) → (has_blocks kind ≡ false → block ≡ 1) → 1 ≤ many
    → many ≤ block → IsBlock kind many
block_is Source block many one some few = tt
block_is Fir block many one some few = tt
block_is Sink block many one some few = tt
block_is Split block many one some few = let is : block ≡ 1 = one refl in omega arith
block_is Decimate block many one some few = let is : block ≡ 1 = one refl in omega arith
block_is Join block many one some few = let is : block ≡ 1 = one refl in omega arith
block_is Peer block many one some few = let is : block ≡ 1 = one refl in omega arith

pub first_wait_next : (steps most : ℕ) (job : Job) (m : Moment) (t : ℕ) (event : TaskEvent)
    → AreSizes job.graph t steps most → IsGraph job.graph
    → HasRun job m → Live job m t → ((task_at job.graph t).kind ≡ Source → ⊥)
    → first_owed job m t ≡ None → first_due job m t ≡ None
    → is_cut (task_at job.graph t).until (m.begun t) ≡ false
    → has_input_ended job m t (task_at job.graph t).kind ≡ false
    → call_block job m t
    (input_at (task_at job.graph t) (first_input (task_at job.graph t) (m.begun t)))
    (block_up_to steps job m t)
    (first_wait t (first_input (task_at job.graph t) (m.begun t))
    (input_at (task_at job.graph t) (first_input (task_at job.graph t) (m.begun t)))
    (number_on m t
    (input_at (task_at job.graph t) (first_input (task_at job.graph t) (m.begun t)))))
    ≡ makes event → IsNext job m event
first_wait_next steps most job m t event sizes is ran live no_source none due uncut more answer =
    let task = task_at job.graph t in
    let k = first_input task (m.begun t) in
    let p = input_at task k in
    let n = number_on m t p in
    let many = block_up_to steps job m t in
    let lt : k < length task.inputs =
    (first_looks task (m.begun t) (is.tasks t live.there).ends no_source).0 in
    let a = answered_all job m t p many (first_wait t k p n) event answer in
    let outcomes = slice_range (stream_of (value_at job p) (m.history p)) a.phase
    (a.phase + a.count) in
    let b : AnsweredBlock job (m.history p) p n many outcomes =
    answered_block job (m.history p) p n many a.phase a.count a.reply in
    let some : 1 ≤ length outcomes = b.some in
    let few : length outcomes ≤ many = b.few in
    let least : many ≤ steps = block_few steps job m t in
    let on : further (m.begun t) outcomes ≡ m.begun t + length outcomes =
    further-length (m.begun t) outcomes in
    let phaser : p < length job.graph.phasers =
    on_phaser job t p is live.there (inr (k, lt, refl)) in
    rw (← a.is) (
      record { task = live.there; phaser = phaser },
      record {
        wait = answered_waits job m t k many (first_wait t k p n) event is ran live lt
            (goes_on job m t uncut more) a;
        first = refl;
        block = block_is task.kind steps (length outcomes) sizes.block.kind some (omega arith);
        may_begin = may_go_on steps job m t (further (m.begun t) outcomes) is (ran.tasks t live.there)
            live.there none due (omega arith) (omega arith)
            (no_samples task.kind (further (m.begun t) outcomes) (length (samples_at job t))
            no_source);
      },
    )

-- ---- a peer's wait on E

pub waits_as_peer : (kind : Kind) (j put taken : ℕ) → waits_first kind j put taken ≡ true
    → (kind ≡ Peer) × (taken ≤ put)
waits_as_peer Peer (suc j) put taken e = (refl, leb-true taken put e)
waits_as_peer Peer zero put taken e = absurd (cc)
waits_as_peer Source j put taken e = absurd (cc)
waits_as_peer Fir j put taken e = absurd (cc)
waits_as_peer Split j put taken e = absurd (cc)
waits_as_peer Decimate j put taken e = absurd (cc)
waits_as_peer Join j put taken e = absurd (cc)
waits_as_peer Sink j put taken e = absurd (cc)

pub exchange_next : (job : Job) (m : Moment) (t j : ℕ) (event : TaskEvent) → IsGraph job.graph
    → HasRun job m → Live job m t → first_owed job m t ≡ Some j
    → waits_first (task_at job.graph t).kind j (length (m.put t j)) (length (m.taken t 1)) ≡ true
    → call_wait job m t (input_at (task_at job.graph t) 1)
    (exchange_wait t (input_at (task_at job.graph t) 1)
    (number_on m t (input_at (task_at job.graph t) 1))) ≡ makes event → IsNext job m event
exchange_next job m t j event is ran live owes first answer =
    let task = task_at job.graph t in
    let o = owed job m t j owes in
    let w = waits_as_peer task.kind j (length (m.put t j)) (length (m.taken t 1)) first in
    let peer : task.kind ≡ Peer = w.0 in
    let two : length task.inputs ≡ 2 = (peer_ends job t is live.there peer).0 in
    let lt : 1 < length task.inputs = omega arith in
    let p = input_at task 1 in
    let n = number_on m t p in
    let a = answered job m t p (exchange_wait t p n) event answer in
    let phaser : p < length job.graph.phasers =
    on_phaser job t p is live.there (inr (1, lt, refl)) in
    let plain : puts_on task (m.begun t) j ≡ m.begun t = rw peer refl in
    let many : length (made_now job m t j) ≡ puts_on task (m.begun t) j =
    made_many job m t j is (ran.tasks t live.there) live.there o.0 in
    let few : length (m.put t j) < length (made_now job m t j) = o.1 in
    let behind : length (m.taken t 1) ≤ length (m.put t j) = w.1 in
    let Next : TaskEvent → Type 0 = λ e. IsNext job m e in
    subst Next a.is (
      record { task = live.there; phaser = phaser },
      record {
        wait = answered_wait job m t 1 (exchange_wait t p n) event is ran live lt
            (not_ended job m t j o.0 o.1) a;
        peer = peer;
        behind = omega arith;
      },
    )

-- ---- a sample

pub source_ends : (job : Job) (t : ℕ) → IsGraph job.graph → t < length job.graph.tasks
    → (task_at job.graph t).kind ≡ Source → length (signalled_by (task_at job.graph t)) ≡ 1
source_ends job t is there e =
    let both : (length (task_at job.graph t).inputs ≡ 0)
    × (length (task_at job.graph t).outputs ≡ 1) = rw e at (is.tasks t there).ends in
    let same : signalled_by (task_at job.graph t) ≡ (task_at job.graph t).outputs = rw e refl in
    ap length same ∙ both.1

pub sample_next : (steps : ℕ) (job : Job) (m : Moment) (t : ℕ) (event : TaskEvent) → IsGraph job.graph
    → HasRun job m → Live job m t → (task_at job.graph t).kind ≡ Source
    → first_owed job m t ≡ None → first_due job m t ≡ None
    → is_cut (task_at job.graph t).until (m.begun t) ≡ false
    → has_input_ended job m t (task_at job.graph t).kind ≡ false
    → signal_turn job m t 0 (samples_up_to steps job m t)
    (sample t 0 (output_at job t 0) (number_on m t (output_at job t 0)) (samples_up_to steps job m t))
    ≡ makes event → IsNext job m event
sample_next steps job m t event is ran live source none due uncut more answer =
    let task = task_at job.graph t in
    let line = is.tasks t live.there in
    let ran_t = ran.tasks t live.there in
    let single : length (signalled_by task) ≡ 1 = source_ends job t is live.there source in
    let lt : 0 < length (signalled_by task) = omega arith in
    let p = output_at job t 0 in
    let vs = samples_up_to steps job m t in
    let n = number_on m t p in
    let a = signalled job m t 0 vs (sample t 0 p n vs) event answer in
    let place : index_in (signalled_by task) p ≡ Some 0 =
    place_of_output job.graph t task 0 line lt in
    let on : OnLine task p = inl (0, place) in
    let phaser : p < length job.graph.phasers = on_phaser job t p is live.there on in
    let plain : puts_on task (m.begun t) 0 ≡ m.begun t = rw source refl in
    let S : Kind → Type 0 = λ k. HasSamples k (m.begun t) (length (samples_at job t)) in
    let begun_few : m.begun t ≤ length (samples_at job t) = subst S source ran_t.samples in
    let left : length (drop (m.begun t) (samples_at job t))
    ≡ length (samples_at job t) - m.begun t = length-drop (m.begun t) (samples_at job t) in
    let block : ℕ = sample_block_up_to steps job m t in
    let block_is : block
    ≡ min (block_up_to steps job m t) (length (samples_at job t) - m.begun t) = refl in
    let many : length vs ≡ block =
    length-take-le block (drop (m.begun t) (samples_at job t)) (omega arith) in
    let on_to : further (m.begun t) vs ≡ m.begun t + length vs = further-length (m.begun t) vs in
    let T : Kind → Type 0 = λ k. HasSamples k (further (m.begun t) vs)
    (length (samples_at job t)) in
    let enough : T Source = omega arith in
    subst (λ (e : TaskEvent). IsNext job m e) a.2 (
      record { task = live.there; phaser = phaser },
      record {
        signal = record {
          accepted = (a.1, lists_sendable (length (m.put t 0)) vs a.0, (is.phasers p phaser).single);
          numbered = number_there job m t p is live on;
          place = place;
          staying = stays job m t is ran_t live.there (goes_on job m t uncut more);
        };
        source = source;
        may_begin = may_go_on steps job m t (further (m.begun t) vs) is ran_t live.there none due
            (omega arith) (omega arith) (subst T (sym source) enough);
        all_put = ap length (all_put job m t ran_t live.there none 0 lt)
            ∙ made_many job m t 0 is ran_t live.there lt ∙ plain;
        samples = ap (λ n. take n (drop (m.begun t) (samples_at job t))) (sym many);
      },
    )

-- ---- a drop

pub until_is : (until : Option ℕ) (b : ℕ) → is_cut until b ≡ true → until ≡ Some b
until_is None b e = absurd (cc)
until_is (Some until) b e = ap (λ u. Some u) (eqb-true until b e)

may_end : (job : Job) (m : Moment) (t : ℕ)
    → (is_cut (task_at job.graph t).until (m.begun t)
    || has_input_ended job m t (task_at job.graph t).kind) ≡ true
    → MayStop m (task_at job.graph t) t (length (samples_at job t))
may_end job m t e =
    by (or_cases (is_cut (task_at job.graph t).until (m.begun t))
    (has_input_ended job m t (task_at job.graph t).kind) e)
  where
    End : Type 0
    End = MayStop m (task_at job.graph t) t (length (samples_at job t))

    out : ((task_at job.graph t).kind ≡ Source → ⊥)
        → has_run_out m (task_at job.graph t) t
        (first_input (task_at job.graph t) (m.begun t)) ≡ true → End
    out never e =
        let k = first_input (task_at job.graph t) (m.begun t) in
        let h = m.history (input_at (task_at job.graph t) k) in
        let both = and_parts (not (has_signaller h))
        (nat_le (done_of h) (m.offset t + length (m.taken t k))) e in
        no_input never (
          no_signaller (signal_phases (members_of h)) both.0,
          leb-true (done_of h) (m.offset t + length (m.taken t k)) both.1,
        )

    other : (kind : Kind) → (task_at job.graph t).kind ≡ kind → (kind ≡ Source → ⊥)
        → (task_at job.graph t).kind ≡ Source → ⊥
    other kind e never source = never (sym e ∙ source)

    input : (kind : Kind) → (task_at job.graph t).kind ≡ kind
        → has_input_ended job m t kind ≡ true → End
    input Source e over =
        no_sample e (leb-true (length (samples_at job t)) (m.begun t) over)
    input Fir e over = out (other Fir e (λ s. (cc))) over
    input Split e over = out (other Split e (λ s. (cc))) over
    input Decimate e over = out (other Decimate e (λ s. (cc))) over
    input Join e over = out (other Join e (λ s. (cc))) over
    input Peer e over = out (other Peer e (λ s. (cc))) over
    input Sink e over = out (other Sink e (λ s. (cc))) over

    by : (is_cut (task_at job.graph t).until (m.begun t) ≡ true)
        ⊎ (has_input_ended job m t (task_at job.graph t).kind ≡ true) → End
    by (inl cut) = at_until (until_is (task_at job.graph t).until (m.begun t) cut)
    by (inr over) = input (task_at job.graph t).kind refl over

pub accepted : {R : Type 0} (made event : TaskEvent) (o : Option R)
    → accepted_answer made o ≡ makes event → (o ≡ None) × (made ≡ event)
accepted made event None e = (refl, ap (λ a. event_or event a) e)
accepted made event (Some r) e = absurd (cc)

pub leave_next : (job : Job) (m : Moment) (t : ℕ) (event : TaskEvent) → IsGraph job.graph
    → HasRun job m → Live job m t → first_owed job m t ≡ None → first_due job m t ≡ None
    → (is_cut (task_at job.graph t).until (m.begun t)
    || has_input_ended job m t (task_at job.graph t).kind) ≡ true
    → call_leave m t (first_kept job m t) ≡ makes event → IsNext job m event
leave_next job m t event is ran live none due end answer =
    by (first_kept job m t) refl answer
  where
    ended : HasEnded job m t
    ended = record {
      all_put = λ j lt. all_put job m t (ran.tasks t live.there) live.there none j lt;
      may_end = may_end job m t end;
    }

    at : (o : Option ℕ) → not (is_some o) ≡ false → o ≡ Some (unwrap_or o 0)
    at (Some n) e = refl
    at None e = absurd (cc)

    kept : (r : Registration) → first_kept job m t ≡ Some r
        → m.number r.phaser t ≡ Some (number_on m t r.phaser)
    kept r found =
        let f = find-some (λ x. not (has_left m t x)) (registrations_at job t) r no_registration
        found in
        let there : not (has_registered m t (get_or (registrations_at job t) f.1.0 no_registration))
        ≡ false =
        find-none (λ x. not (has_registered m t x)) (registrations_at job t) f.1.0 no_registration
        live.all f.1.1 in
        at (m.number r.phaser t) (rw (← f.1.2) there)

    by : (o : Option Registration) → first_kept job m t ≡ o → call_leave m t o ≡ makes event
        → IsNext job m event
    by None found e = absurd (cc)
    by (Some r) found e =
        let p = r.phaser in
        let n = number_on m t p in
        let a = accepted (leave t p n) event (drop_refusal (m.history p) n) e in
        let here : m.number p t ≡ Some n = kept r found in
        let phaser : p < length job.graph.phasers =
        on_phaser job t p is live.there ((ran.tasks t live.there).lines p n here) in
        rw (← a.1) (
          record { task = live.there; phaser = phaser },
          record {
            accepted = a.0;
            numbered = here;
            ended = ended;
            children = none_due job m t p is (ran.tasks t live.there) live.there due;
          },
        )
