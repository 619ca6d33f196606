-- A value out of range before which a task stands is a fault, whatever samples come behind.
use Rattle.std.proofs.Common.{◌≡◌, ◌≢◌, ℕ, ℤ, List, ◌<◌, ◌≤◌, ◌∷◌, [], Bool, true, false, cond, Option, Some, None, length, take, refl, sym, ap, subst, ◌∙◌, arith, ◌⊎◌, inl, inr}
use Rattle.std.proofs.lemmas.Option.{same_Some}
use Rattle.phase_accum.specs.declared.outcome.Outcome.{Outcome}
use Rattle.phase_history.specs.declared.event.Event.TheVariants.{Waited}
use Rattle.phase_history.specs.Histories.{has_dropped}
use Rattle.graph_base.specs.declared.line.Kind.TheVariants.{Source}
use Rattle.graph_base.specs.Graphs.{task_at}
use Rattle.graph_base.specs.TaskLines.{IsGraph}
use Rattle.stream_lists.specs.Jobs.{Job, samples_at, samples_in, with_samples}
use Rattle.stream_lists.specs.Ranges.{Where}
use Rattle.graph_runs.specs.Answers.{Answer, Blocked, Ended, Gone, Moved, Told, TooBig, after_answer, has_made, is_blocked, is_gone, is_refused, makes, tells_up_to, told_event, turn_up_to, word_of_answer}
use Rattle.graph_runs.specs.Feeds.{Continues}
use Rattle.graph_runs.specs.Moments.{Moment, MayStop, at_until, no_input, no_sample, started}
use Rattle.graph_runs.specs.Moves.{further}
use Rattle.graph_runs.specs.NextBlocks.{MaySize}
use Rattle.graph_runs.specs.Nexts.{is_live}
use Rattle.graph_runs.specs.Reached.{IsReachable}
use Rattle.graph_runs.specs.Settled.{IsFaultAt, IsReady}
use Rattle.graph_runs.specs.TaskEvents.{IsNext, TaskEvent, after_turn, child, child_now, exchange_wait, first_wait, leave, sample, signal}
use Rattle.graph_runs.specs.Turned.{after_waits}
use Rattle.graph_runs.proofs.FedFaults.{fault_fed}
use Rattle.graph_runs.proofs.OwnEvents.{eq_case}
use Rattle.graph_runs.proofs.SizedTurns.{turn_reached}
use Rattle.graph_runs.proofs.Turned.{at_other, at_same}
use Rattle.graph_runs.proofs.Turning.{turn_makes_next}
use Rattle.graph_runs.proofs.Stepping.{line_sizes}
use Rattle.stream_job.specs.InRange.{stands_before, told_too_big}
use Rattle.stream_job.specs.Rounds.{StandsSome}
use Rattle.stream_job.specs.Streams.{IsStreamAt, StreamState}
use Rattle.stream_job.proofs.GoodSizes.{smaller_block}

-- a task that waits is no source
no_source : (job : Job) (t k : ℕ) → IsGraph job.graph → t < length job.graph.tasks
    → k < length (task_at job.graph t).inputs → (task_at job.graph t).kind ≢ Source
no_source job t k is there few source =
    let both : (length (task_at job.graph t).inputs ≡ 0)
    × (length (task_at job.graph t).outputs ≡ 1) = rw source at (is.tasks t there).ends in
    let none = both.0 in
    omega arith

-- a wait of a task that is no source leaves what the sources have done
wait_forth : (job : Job) (m : Moment) (more : List (List ℤ)) (t k p n begun : ℕ)
    (outcomes : List Outcome) → (task_at job.graph t).kind ≢ Source
    → Continues job m more → Continues job (after_waits t k p n outcomes begun m) more
wait_forth job m more t k p n begun outcomes not goes u there source =
    let after = after_waits t k p n outcomes begun m in
    let went = goes u there source in
    let apart : u ≢ t = λ e. not (ap (λ v. (task_at job.graph v).kind) (sym e) ∙ source) in
    let same : m.begun u ≡ after.begun u = sym (at_other t begun m.begun u apart) in
    record {
      enough = subst (λ b. b ≤ length (samples_in job more u)) same went.enough;
      same = subst (λ b. take b (samples_in job more u) ≡ take b (samples_at job u)) same went.same;
      ended = λ q x within numbered gone. stops u source same
          (went.ended q x within numbered (dropped q x gone (eq_case q p)));
    }
  where
    dropped : (q x : ℕ) → has_dropped ((after_waits t k p n outcomes begun m).history q) x ≡ true
        → (q ≡ p) ⊎ (q ≢ p) → has_dropped (m.history q) x ≡ true
    dropped q x gone (inl e) =
        ap (λ v. has_dropped (m.history v) x) e
        ∙ sym (ap (λ h. has_dropped h x)
        (ap (λ v. (after_waits t k p n outcomes begun m).history v) e
        ∙ at_same p (Waited n (length outcomes) ∷ m.history p) m.history)) ∙ gone
    dropped q x gone (inr apart) =
        sym (ap (λ h. has_dropped h x)
        (at_other p (Waited n (length outcomes) ∷ m.history p) m.history q apart)) ∙ gone

    stops : (u : ℕ) → (task_at job.graph u).kind ≡ Source → m.begun u ≡ (after_waits t k p n outcomes begun m).begun u
        → MayStop m (task_at job.graph u) u (length (samples_in job more u))
        → MayStop (after_waits t k p n outcomes begun m) (task_at job.graph u) u
        (length (samples_in job more u))
    stops u source same (at_until e) = at_until (e ∙ ap (λ b. Some b) same)
    stops u source same (no_sample is few) =
        no_sample is (subst (λ b. length (samples_in job more u) ≤ b) same few)
    stops u source same (no_input never out) = absurd (never source)

told_is : (told : Option Told) (at : Where) → told_too_big told ≡ Some at
    → told ≡ Some (TooBig at)
told_is None at e = absurd (cc)
told_is (Some Moved) at e = absurd (cc)
told_is (Some Ended) at e = absurd (cc)
told_is (Some Blocked) at e = absurd (cc)
told_is (Some Gone) at e = absurd (cc)
told_is (Some (TooBig there)) at e = ap (λ w. Some (TooBig w)) (same_Some there at e)

-- what stands before a task is a fault
pub stands_fault : (job : Job) (m : Moment) (t : ℕ) (at : Where) (more : List (List ℤ))
    → MaySize job.graph t 1 1 → IsReady (with_samples more job) → IsReachable job m
    → stands_before job m t ≡ Some at → Continues job m more
    → IsFaultAt (started (with_samples more job) m) at
stands_fault job m t at more sized ready reached stands goes =
    by (turn_up_to 1 1 job m t) refl told
  where
    j : Job
    j = with_samples more job

    told : tells_up_to 1 1 job m t ≡ Some (TooBig at)
    told = told_is (tells_up_to 1 1 job m t) at stands

    -- at the moment after the turn
    fault : (answer : Answer) → turn_up_to 1 1 job m t ≡ answer
        → Continues job (after_answer job answer m) more
        → IsFaultAt (started (with_samples more job) (after_answer job answer m)) at
    fault answer e later =
        subst (λ a. IsFaultAt (started (with_samples more job) (after_answer job a m)) at) e
        (fault_fed 1 1 job m t at more sized ready reached
        (turn_reached 1 1 job m t sized ready.graph reached).ran told
        (subst (λ a. Continues job (after_answer job a m) more) (sym e) later))

    next : (event : TaskEvent) → turn_up_to 1 1 job m t ≡ makes event → IsNext job m event
    next event e =
        turn_makes_next 1 1 job m t event sized ready.graph reached.ran (λ c due. reached.to_come) e

    no_drop : (b : Bool) → Some (cond b Moved Ended) ≡ Some (TooBig at) → ⊥
    no_drop true e = (cc)
    no_drop false e = (cc)

    made : (event : TaskEvent) → turn_up_to 1 1 job m t ≡ makes event
        → Some (told_event job m event) ≡ Some (TooBig at)
        → IsFaultAt (started (with_samples more job) m) at
    made (first_wait u k p n outcomes) e told =
        let is = next (first_wait u k p n outcomes) e in
        fault (makes (first_wait u k p n outcomes)) e
        (wait_forth job m more u k p n (further (m.begun u) outcomes) outcomes
        (no_source job u k ready.graph is.0.task is.1.wait.few) goes)
    made (exchange_wait u p n outcome) e told =
        let is = next (exchange_wait u p n outcome) e in
        fault (makes (exchange_wait u p n outcome)) e
        (wait_forth job m more u 1 p n (m.begun u) (outcome ∷ [])
        (no_source job u 1 ready.graph is.0.task is.1.wait.few) goes)
    made (sample u i p n vs) e told = absurd (cc)
    made (signal u i p n vs) e told = absurd (cc)
    made (child u p n c a mode) e told = absurd (cc)
    made (child_now u p n c a) e told = absurd (cc)
    made (leave u p n) e told =
        absurd (no_drop (is_live job (after_turn job (leave u p n) m) u) told)

    by : (answer : Answer) → turn_up_to 1 1 job m t ≡ answer
        → word_of_answer job m answer ≡ Some (TooBig at)
        → IsFaultAt (started (with_samples more job) m) at
    by (makes event) e told = made event e told
    by (has_made there) e told = fault (has_made there) e goes
    by is_blocked e told = absurd (cc)
    by is_gone e told = absurd (cc)
    by is_refused e told = absurd (cc)

-- a turn of one step is one that any line may make
pub one_sized : (job : Job) (t : ℕ) → IsGraph job.graph → MaySize job.graph t 1 1
one_sized job t is there =
    let s = line_sizes job t is there in
    let one = smaller_block job.graph t (task_at job.graph t).block 1 (omega arith) s.block.some
    s.block in
    record { block = one; owed = one; few = λ fir. omega arith }

-- the stream that has met this value stands as it stood
pub meets_at : (stream : StreamState) (s : List (List ℤ)) (m : Moment) (given : ℕ → List ℤ)
    (at : Where) → StandsSome (with_samples s stream.job) m at → IsStreamAt stream s m given
    → IsStreamAt record {
      job = stream.job;
      machine = stream.machine;
      inputs = stream.inputs;
      met = Some at;
    } s m given
meets_at stream s m given at some stands = record {
  each = stands.each;
  machine = stands.machine;
  lines = stands.lines;
  kept = stands.kept;
  stays_open = stands.stays_open;
  none = stands.none;
  faults = λ there more is goes ready.
      (let job = with_samples s stream.job in
      let same : at ≡ there = same_Some at there is in
      stands_fault job m some.task there more (one_sized job some.task stands.machine.graph) ready
      stands.machine.reached (some.is ∙ ap (λ w. Some w) same) goes);
}

-- and the one that has met none
pub meets_none : (stream : StreamState) (s : List (List ℤ)) (m : Moment) (given : ℕ → List ℤ)
    → IsStreamAt stream s m given
    → IsStreamAt record {
      job = stream.job;
      machine = stream.machine;
      inputs = stream.inputs;
      met = None;
    } s m given
meets_none stream s m given stands = record {
  each = stands.each;
  machine = stands.machine;
  lines = stands.lines;
  kept = stands.kept;
  stays_open = stands.stays_open;
  none = stands.none;
  faults = λ there more is goes ready. absurd (cc);
}

-- the stream that had met none stood as the one that has
pub met_none : {at : Option Where} (stream : StreamState) (s : List (List ℤ)) (m : Moment)
    (given : ℕ → List ℤ) → stream.met ≡ None
    → IsStreamAt record {
      job = stream.job;
      machine = stream.machine;
      inputs = stream.inputs;
      met = at;
    } s m given → IsStreamAt stream s m given
met_none stream s m given none stands = record {
  each = stands.each;
  machine = stands.machine;
  lines = stands.lines;
  kept = stands.kept;
  stays_open = stands.stays_open;
  none = stands.none;
  faults = λ there more is goes ready.
      absurd (let wrong : None ≡ Some there = sym none ∙ is in cc);
}
