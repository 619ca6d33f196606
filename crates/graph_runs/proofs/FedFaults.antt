-- A value that a turn tells as out of range is so with all samples that continue the run.
use Rattle.std.proofs.Common.{◌≡◌, ◌≢◌, ℕ, ℤ, ◌<◌, ◌≤◌, ◌∷◌, [], ◌||◌, Bool, true, false, cond, List, Option, Some, None, length, take, drop, refl, sym, ap, subst, ◌∙◌, ◌⊎◌, inl, inr, arith}
use Rattle.phase_accum.specs.declared.outcome.Outcome.{Outcome}
use Rattle.phase_history.specs.declared.event.Event.TheVariants.{Waited}
use Rattle.phase_history.specs.Histories.{has_dropped}
use Rattle.graph_base.specs.Graphs.{task_at}
use Rattle.graph_base.specs.TaskLines.{IsGraph}
use Rattle.graph_base.specs.declared.line.Kind.{Kind}
use Rattle.graph_base.specs.declared.line.Kind.TheVariants.{Source, Fir, Split, Decimate, Join, Peer, Sink}
use Rattle.stream_lists.specs.Jobs.{Job, samples_at, samples_in, with_samples}
use Rattle.stream_lists.specs.Ranges.{Where, are_made}
use Rattle.graph_runs.specs.Answers.{Answer, Ended, Moved, TooBig, after_answer, has_made, is_blocked, is_gone, is_refused, makes, output_at, signal_turn, told_event, word_of_answer, answer_up_to, turn_up_to, values_up_to, samples_up_to, tells_up_to}
use Rattle.graph_runs.specs.Feeds.{Continues}
use Rattle.graph_runs.specs.Moments.{Moment, HasRun, MayStop, at_until, no_input, no_sample, started}
use Rattle.graph_runs.specs.Nexts as nexts
use Rattle.graph_runs.specs.NextBlocks.{MaySize}
use Rattle.graph_runs.specs.Nexts.{Next, at_boundary, first_due, first_kept, first_missing, first_owed, has_input_ended, is_cut, is_live, next_of, next_step, number_on, of_live, waits_first}
use Rattle.graph_runs.specs.Moves.{further}
use Rattle.graph_runs.specs.Reached.{IsReachable}
use Rattle.graph_runs.specs.Settled.{IsFaultAt, IsReady}
use Rattle.graph_runs.specs.TaskEvents.{IsNext, TaskEvent, after_turn, child, child_now, exchange_wait, first_wait, leave, sample, signal}
use Rattle.graph_runs.specs.Turned.{after_waits}
use Rattle.graph_runs.proofs.FedNexts.{MayBe, next_fed}
use Rattle.graph_runs.proofs.FedRuns.{made_fed, reachable_fed, run_fed}
use Rattle.graph_runs.proofs.OwnEvents.{eq_case}
use Rattle.graph_runs.proofs.ToldFaults.{is_out, not_block, not_leave, not_register, not_wait, told_fault}
use Rattle.graph_runs.proofs.Turned.{at_other, at_same}
use Rattle.graph_runs.proofs.Turning.{turn_makes_next}
use Rattle.graph_runs.proofs.Whose.{made_by, task_of}

-- ---- who tells it is no source

-- a source makes no value of its own
made_none : (steps most : ℕ) (job : Job) (m : Moment) (t : ℕ) (at : Where) (next : Next)
    → (task_at job.graph t).kind ≡ Source → answer_up_to steps most job m t next ≡ has_made at → ⊥
made_none steps most job m t at nexts.is_not_live source e = (cc)
made_none steps most job m t at (nexts.registers c) source e =
    not_register job m t c (first_missing job m c) at e
made_none steps most job m t at nexts.leaves source e = not_leave m t (first_kept job m t) at e
made_none steps most job m t at nexts.samples source e =
    let p = output_at job t 0 in
    let vs = samples_up_to steps job m t in
    let out = is_out job m t 0 vs (sample t 0 p (number_on m t p) vs) at e in
    let wrong : false ≡ true = sym (ap (λ kind. are_made kind 0) source) ∙ out.made in cc
made_none steps most job m t at (nexts.signals j) source e =
    let p = output_at job t j in
    let vs = values_up_to most job m t j in
    let out = is_out job m t j vs (signal t j p (number_on m t p) vs) at e in
    let wrong : false ≡ true = sym (ap (λ kind. are_made kind j) source) ∙ out.made in cc
made_none steps most job m t at (nexts.waits k) source e = not_block _ _ at e
made_none steps most job m t at nexts.exchanges source e = not_wait _ _ at e

-- and waits for none
told_none : (job : Job) (m : Moment) (t : ℕ) (at : Where) (event : TaskEvent) → IsGraph job.graph
    → t < length job.graph.tasks → (task_at job.graph t).kind ≡ Source → task_of event ≡ t
    → IsNext job m event → Some (told_event job m event) ≡ Some (TooBig at) → ⊥
told_none job m t at (sample u j p n vs) is there source own next e = (cc)
told_none job m t at (signal u j p n vs) is there source own next e = (cc)
told_none job m t at (child u p n c a mode) is there source own next e = (cc)
told_none job m t at (child_now u p n c a) is there source own next e = (cc)
told_none job m t at (leave u p n) is there source own next e =
    by (is_live job (after_turn job (leave u p n) m) u) e
  where
    by : (b : Bool) → Some (cond b Moved Ended) ≡ Some (TooBig at) → ⊥
    by true e = (cc)
    by false e = (cc)
told_none job m t at (first_wait u k p n outcomes) is there source own next e =
    let both : (length (task_at job.graph t).inputs ≡ 0)
    × (length (task_at job.graph t).outputs ≡ 1) = rw source at (is.tasks t there).ends in
    let none = both.0 in
    let few : k < length (task_at job.graph t).inputs =
    subst (λ v. k < length (task_at job.graph v).inputs) own next.1.wait.few in
    omega arith
told_none job m t at (exchange_wait u p n outcome) is there source own next e =
    let peer : (task_at job.graph t).kind ≡ Peer =
    ap (λ v. (task_at job.graph v).kind) (sym own) ∙ next.1.peer in
    let wrong : Source ≡ Peer = sym source ∙ peer in cc

-- so a source tells no value out of range
no_source : (steps most : ℕ) (job : Job) (m : Moment) (t : ℕ) (at : Where)
    → MaySize job.graph t steps most → IsGraph job.graph → IsReachable job m
    → tells_up_to steps most job m t ≡ Some (TooBig at) → (task_at job.graph t).kind ≢ Source
no_source steps most job m t at sized is reached told source = by (turn_up_to steps most job m t) refl told
  where
    by : (answer : Answer) → turn_up_to steps most job m t ≡ answer
        → word_of_answer job m answer ≡ Some (TooBig at) → ⊥
    by (makes event) e told =
        let made = made_by steps most job m t event e in
        told_none job m t at event is made.0.there source made.1.own
        (turn_makes_next steps most job m t event sized is reached.ran (λ c due. reached.to_come) e) told
    by is_blocked e told = (cc)
    by is_gone e told = (cc)
    by (has_made there) e told = made_none steps most job m t there (next_of job m t) source e
    by is_refused e told = (cc)

-- ---- what the turn answers with other samples

-- only a source signals samples
never_samples : (job : Job) (m : Moment) (t : ℕ) → (task_at job.graph t).kind ≢ Source
    → next_of job m t ≢ nexts.samples
never_samples job m t not = by (is_live job m t) (first_owed job m t)
  where
    step : (steps : ℕ) (kind : Kind) → kind ≢ Source
        → next_step (task_at job.graph t) steps kind ≢ nexts.samples
    step steps Source never = absurd (never refl)
    step steps Fir never = λ e. (cc)
    step steps Split never = λ e. (cc)
    step steps Decimate never = λ e. (cc)
    step steps Join never = λ e. (cc)
    step steps Peer never = λ e. (cc)
    step steps Sink never = λ e. (cc)

    rest : (b : Bool) → cond b nexts.leaves
        (next_step (task_at job.graph t) (m.begun t) (task_at job.graph t).kind) ≢ nexts.samples
    rest true = λ e. (cc)
    rest false = step (m.begun t) (task_at job.graph t).kind not

    put : (j : ℕ) (b : Bool) → cond b nexts.exchanges (nexts.signals j) ≢ nexts.samples
    put j true = λ e. (cc)
    put j false = λ e. (cc)

    boundary : (due : Option ℕ) → at_boundary job m t due ≢ nexts.samples
    boundary (Some c) = λ e. (cc)
    boundary None =
        rest (is_cut (task_at job.graph t).until (m.begun t)
        || has_input_ended job m t (task_at job.graph t).kind)

    by : (live : Bool) (owed : Option ℕ)
        → cond live (of_live job m t owed) nexts.is_not_live ≢ nexts.samples
    by false owed = λ e. (cc)
    by true (Some j) =
        put j (waits_first (task_at job.graph t).kind j (length (m.put t j)) (length (m.taken t 1)))
    by true None = boundary (first_due job m t)

-- of a task that is no source
answer_fed : (steps most : ℕ) (job : Job) (m : Moment) (more : List (List ℤ)) (t : ℕ) (next : Next)
    → (task_at job.graph t).kind ≢ Source → next ≢ nexts.samples
    → answer_up_to steps most (with_samples more job) m t next ≡ answer_up_to steps most job m t next
answer_fed steps most job m more t nexts.is_not_live not one = refl
answer_fed steps most job m more t (nexts.registers c) not one = refl
answer_fed steps most job m more t nexts.leaves not one = refl
answer_fed steps most job m more t nexts.samples not one = absurd (one refl)
answer_fed steps most job m more t (nexts.signals j) not one =
    ap (λ made. let vs = take most (drop (length (m.put t j)) made) in
    signal_turn job m t j vs
    (signal t j (output_at job t j) (number_on m t (output_at job t j)) vs))
    (made_fed job m more t j (λ source. absurd (not source)))
answer_fed steps most job m more t (nexts.waits k) not one = refl
answer_fed steps most job m more t nexts.exchanges not one = refl

-- ---- the moment before

-- a wait of a task that is no source leaves what the sources have done
wait_back : (job : Job) (m : Moment) (more : List (List ℤ)) (t k p n begun : ℕ)
    (outcomes : List Outcome) → (task_at job.graph t).kind ≢ Source
    → Continues job (after_waits t k p n outcomes begun m) more → Continues job m more
wait_back job m more t k p n begun outcomes not goes u there source =
    let after = after_waits t k p n outcomes begun m in
    let went = goes u there source in
    let apart : u ≢ t = λ e. not (ap (λ v. (task_at job.graph v).kind) (sym e) ∙ source) in
    let same : after.begun u ≡ m.begun u = at_other t begun m.begun u apart in
    record {
      enough = subst (λ b. b ≤ length (samples_of u)) same went.enough;
      same = subst (λ b. take b (samples_of u) ≡ take b (own_of u)) same went.same;
      ended = λ q x within numbered gone. stop_back u source same
          (went.ended q x within numbered (dropped q x gone (eq_case q p)));
    }
  where
    samples_of : ℕ → List ℤ
    samples_of u = samples_in job more u

    own_of : ℕ → List ℤ
    own_of u = samples_at job u

    dropped : (q x : ℕ) → has_dropped (m.history q) x ≡ true → (q ≡ p) ⊎ (q ≢ p)
        → has_dropped ((after_waits t k p n outcomes begun m).history q) x ≡ true
    dropped q x gone (inl e) =
        ap (λ h. has_dropped h x) (ap (λ v. (after_waits t k p n outcomes begun m).history v) e
        ∙ at_same p (Waited n (length outcomes) ∷ m.history p) m.history)
        ∙ ap (λ v. has_dropped (m.history v) x) (sym e) ∙ gone
    dropped q x gone (inr apart) =
        ap (λ h. has_dropped h x)
        (at_other p (Waited n (length outcomes) ∷ m.history p) m.history q apart) ∙ gone

    stop_back : (u : ℕ) → (task_at job.graph u).kind ≡ Source
        → (after_waits t k p n outcomes begun m).begun u ≡ m.begun u
        → MayStop (after_waits t k p n outcomes begun m) (task_at job.graph u) u
        (length (samples_of u)) → MayStop m (task_at job.graph u) u (length (samples_of u))
    stop_back u source same (at_until e) = at_until (e ∙ ap (λ b. Some b) same)
    stop_back u source same (no_sample is few) =
        no_sample is (subst (λ b. length (samples_of u) ≤ b) same few)
    stop_back u source same (no_input never out) = absurd (never source)

-- ---- the fault

pub fault_fed : (steps most : ℕ) (job : Job) (m : Moment) (t : ℕ) (at : Where) (more : List (List ℤ))
    → MaySize job.graph t steps most → IsReady (with_samples more job) → IsReachable job m
    → HasRun job (after_answer job (turn_up_to steps most job m t) m)
    → tells_up_to steps most job m t ≡ Some (TooBig at)
    → Continues job (after_answer job (turn_up_to steps most job m t) m) more
    → IsFaultAt (started (with_samples more job) (after_answer job (turn_up_to steps most job m t) m)) at
fault_fed steps most job m t at more sized ready reached ran told goes =
    by (turn_up_to steps most job m t) refl ran told goes
  where
    j : Job
    j = with_samples more job

    not : (task_at job.graph t).kind ≢ Source
    not = no_source steps most job m t at sized ready.graph reached told

    may : MayBe job m more t
    may = λ source. absurd (not source)

    is_next : next_of j m t ≡ next_of job m t
    is_next = next_fed job m more t may (λ source. absurd (not source))

    is_answer : turn_up_to steps most j m t ≡ turn_up_to steps most job m t
    is_answer =
        ap (answer_up_to steps most j m t) is_next
        ∙ answer_fed steps most job m more t (next_of job m t) not (never_samples job m t not)

    fault : Continues job m more → ((event : TaskEvent) → turn_up_to steps most j m t ≡ makes event
        → HasRun j (after_turn j event m)) → IsFaultAt (started j m) at
    fault back runs =
        told_fault steps most j m t at sized ready (reachable_fed job m more ready.graph reached back) runs
        (ap (word_of_answer j m) is_answer ∙ told)

    runs : (event : TaskEvent) → turn_up_to steps most job m t ≡ makes event
        → HasRun job (after_turn job event m) → Continues job (after_turn job event m) more
        → (other : TaskEvent) → turn_up_to steps most j m t ≡ makes other
        → HasRun j (after_turn j other m)
    runs event e ran goes other makes_it =
        subst (λ a. HasRun j (after_answer j a m)) (sym (is_answer ∙ e) ∙ makes_it)
        (run_fed job (after_turn job event m) more ready.graph ran goes)

    no_drop : (b : Bool) → Some (cond b Moved Ended) ≡ Some (TooBig at) → ⊥
    no_drop true e = (cc)
    no_drop false e = (cc)

    no_source_is : (u : ℕ) → u ≡ t → (task_at job.graph u).kind ≢ Source
    no_source_is u own source = not (ap (λ v. (task_at job.graph v).kind) (sym own) ∙ source)

    made : (event : TaskEvent) → task_of event ≡ t → turn_up_to steps most job m t ≡ makes event
        → HasRun job (after_turn job event m) → Some (told_event job m event) ≡ Some (TooBig at)
        → Continues job (after_turn job event m) more
        → IsFaultAt (started j (after_turn job event m)) at
    made (first_wait u k p n outcomes) own e ran told goes =
        fault (wait_back job m more u k p n (further (m.begun u) outcomes) outcomes
        (no_source_is u own) goes) (runs (first_wait u k p n outcomes) e ran goes)
    made (exchange_wait u p n outcome) own e ran told goes =
        fault (wait_back job m more u 1 p n (m.begun u) (outcome ∷ []) (no_source_is u own) goes)
        (runs (exchange_wait u p n outcome) e ran goes)
    made (sample u i p n vs) own e ran told goes = absurd (cc)
    made (signal u i p n vs) own e ran told goes = absurd (cc)
    made (child u p n c a mode) own e ran told goes = absurd (cc)
    made (child_now u p n c a) own e ran told goes = absurd (cc)
    made (leave u p n) own e ran told goes =
        absurd (no_drop (is_live job (after_turn job (leave u p n) m) u) told)

    by : (answer : Answer) → turn_up_to steps most job m t ≡ answer → HasRun job (after_answer job answer m)
        → word_of_answer job m answer ≡ Some (TooBig at)
        → Continues job (after_answer job answer m) more
        → IsFaultAt (started j (after_answer job answer m)) at
    by (has_made there) e ran told goes =
        fault goes (λ event makes_it.
        absurd (let wrong : makes event ≡ has_made there = sym makes_it ∙ is_answer ∙ e in cc))
    by is_blocked e ran told goes = absurd (cc)
    by is_gone e ran told goes = absurd (cc)
    by is_refused e ran told goes = absurd (cc)
    by (makes event) e ran told goes =
        made event (made_by steps most job m t event e).1.own e ran told goes
