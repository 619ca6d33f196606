-- What a turn tells as out of range is a fault of the job.
use Rattle.std.proofs.Common.{◌≡◌, ℕ, suc, ◌+◌, ◌-◌, ◌<◌, ◌≤◌, Bool, true, false, ◌||◌, cond, List, [], ◌∷◌, ◌++◌, ℤ, pos, Option, Some, None, length, map, take, drop, get_or, refl, sym, ap, subst, ◌∙◌, arith, inl}
use Rattle.std.specs.Prelude.{Result, Ok, Err, unwrap_or, min}
use Rattle.std.specs.List.{range_with_len, position_from}
use Rattle.std.proofs.lemmas.Bool.{eq-eqb}
use Rattle.std.proofs.lemmas.List.{length-append, length-map, length-take, length-drop}
use Rattle.std.proofs.lemmas.List.FromFn.{get_or-map-range_with_len}
use Rattle.phase_base.specs.Members.{entry_of}
use Rattle.phase_base.specs.declared.entry.Entry.{Entry}
use Rattle.phase_accum.specs.declared.outcome.Outcome.{Outcome}
use Rattle.phase_accum.specs.declared.outcome.Outcome.TheVariants as outcome
use Rattle.phase_history.specs.declared.event.Event.TheVariants.{Waited}
use Rattle.phase_history.specs.declared.got.Got.{Got}
use Rattle.phase_history.specs.declared.got.Got.TheVariants as got
use Rattle.phase_history.specs.declared.got.GotBlock.{GotBlock}
use Rattle.phase_history.specs.declared.got.GotBlock.TheVariants as block
use Rattle.phase_history.specs.declared.refusal.SignalRefusal.{SignalRefusal}
use Rattle.phase_history.specs.declared.refusal.SignalRefusal.TheVariants as signals_refused
use Rattle.phase_history.specs.declared.refusal.WaitRefusal.{WaitRefusal}
use Rattle.phase_history.specs.declared.refusal.WaitRefusal.TheVariants as waits_refused
use Rattle.phase_history.specs.Histories.{History, IsAlive, members_of, founder, done_of, wait_phase, has_dropped}
use Rattle.phase_history.specs.Phases.{value_of_phase}
use Rattle.phase_history.proofs.Alive.{alive_law}
use Rattle.phase_history.proofs.Received.{counted}
use Rattle.phase_history.proofs.Steps.{Steps, steps, sound_of}
use Rattle.phase_history.proofs.Used.{start_from}
use Rattle.graph_base.specs.declared.line.Kind.{Kind}
use Rattle.graph_base.specs.declared.line.Kind.TheVariants.{Source, Fir, Split, Decimate, Join, Peer, Sink}
use Rattle.graph_base.specs.declared.place.Place.TheVariants as place
use Rattle.graph_base.specs.declared.registration.Registration.{Registration}
use Rattle.graph_base.specs.Graphs.{task_at}
use Rattle.graph_base.specs.TaskLines.{has_blocks}
use Rattle.stream_lists.specs.Jobs.{Job, index_in}
use Rattle.stream_lists.specs.Lists.{number}
use Rattle.stream_lists.specs.Ranges.{Where, are_made, is_out_of_range, is_too_big}
use Rattle.stream_lists.specs.Spans.{signalled_by}
use Rattle.graph_runs.specs.Moments.{Moment, HasRun, HasExchanged, PhaserRan, OnLine, limits_at, value_at, made_now, started}
use Rattle.graph_runs.specs.Settled.{IsReady, IsFaultAt}
use Rattle.graph_runs.specs.Moves.{further}
use Rattle.graph_runs.specs.Turned.{IsAnsweredWaits, after_waits, with_at}
use Rattle.graph_runs.specs.TaskEvents.{TaskEvent, IsNext, sample, signal, first_wait, exchange_wait, leave, child, child_now, after_turn}
use Rattle.graph_runs.specs.Nexts.{is_not_live, leaves, signals, exchanges, is_live, of_live, at_boundary, next_step, first_due, first_kept, first_missing, first_owed, has_input_ended, is_cut, number_on, waits_first}
use Rattle.graph_runs.specs.NextBlocks.{AreSizes, MaySize}
use Rattle.graph_runs.specs.Answers.{Answer, Told, TooBig, Moved, Ended, Blocked, Gone, makes, is_blocked, is_gone, has_made, is_refused, call_leave, call_register, call_signal, register_answer, accepted_answer, signal_answer, wait_answer, block_answer, signal_turn, told_wait, told_event, word_of_answer, output_at, answer_up_to, turn_up_to, values_up_to, samples_up_to, tells_up_to}
use Rattle.graph_runs.specs.Reached.{IsReachable}
use Rattle.graph_runs.proofs.AnsweredInTurn.{answer_is}
use Rattle.graph_runs.proofs.Entries.{get_or-take, get_or-drop}
use Rattle.graph_runs.proofs.OnLines.{on_phaser}
use Rattle.graph_runs.proofs.PlacesLemmas.{place_of_output}
use Rattle.graph_runs.proofs.Found.{found_at}
use Rattle.graph_runs.proofs.Signalling.{Live, live-is, number_there, owed, may_put, one_value}
use Rattle.graph_runs.proofs.Started.{ready_as, run_started}
use Rattle.graph_runs.proofs.TooBigs.{met_is_fault, made_is_fault}
use Rattle.graph_runs.proofs.TurnEntries.{IsMember, on_input, wait_phase_is}
use Rattle.graph_runs.proofs.Turning.{turn_makes_next}

-- ---- a wait that got a value that is too big

-- the entry of a registered task
waiter : (job : Job) (m : Moment) (t p n : ℕ) → PhaserRan job m p → m.number p t ≡ Some n
    → has_dropped (m.history p) n ≡ false → (entry : Entry) × IsMember m p n entry.mode
waiter job m t p n ran number stays =
    let h = m.history p in
    let alive : IsAlive h n = (alive_law (limits_at job p) h n ran.legal).1
    (ran.used t n number, stays) in
    let e = start_from (entry_of (members_of h) n) alive in
    let c = counted (value_at job p) (limits_at job p) h n e.0 ran.legal e.1 in (
      e.0,
      record {
        start = c.start;
        entry = e.0;
        start_is = c.start_is;
        is = e.1;
        mode_is = refl;
        signals = c.signals;
        waits = c.waits;
      },
    )

-- it waits for the phase behind those that it has taken
waits_for : (job : Job) (m : Moment) (t k p n : ℕ) (outcomes : List Outcome) → HasRun job m
    → t < length job.graph.tasks → p < length job.graph.phasers
    → IsAnsweredWaits job m t k p n outcomes
    → wait_phase (m.history p) n ≡ m.offset t + length (m.taken t k)
waits_for job m t k p n outcomes ran there pp wait =
    let w = waiter job m t p n (ran.phasers p pp) wait.numbered (wait.staying p n wait.numbered) in
    let on = on_input job m t k p n (ran.tasks t there) there wait.few wait.place wait.numbered in
    ap (λ o. (unwrap_or o founder).wait_phase) w.1.is
    ∙ wait_phase_is job m t k p n w.0.mode (ran.phasers p pp).legal on w.1

-- the value of a phase that a wait for several phases is answered
phase_value : (f : ℕ → Outcome) (d w i : ℕ) (outcomes : List Outcome)
    → w + length outcomes ≤ d → i < length outcomes
    → take (length outcomes) (drop w (map f (range_with_len 0 d))) ≡ outcomes
    → f (w + i) ≡ get_or outcomes i outcome.Empty
phase_value f d w i outcomes fits lt answered =
    let values = map f (range_with_len 0 d) in
    let many = length outcomes in
    let at : get_or (take many (drop w values)) i outcome.Empty ≡ f (w + i) =
    get_or-take (drop w values) many i outcome.Empty lt
    ∙ get_or-drop values w i outcome.Empty
    ∙ get_or-map-range_with_len f 0 d (w + i) (w + i) outcome.Empty (omega arith) (omega arith) in
    sym at ∙ ap (λ l. get_or l i outcome.Empty) answered

too_big_is : (got : Outcome) → is_too_big got ≡ true → got ≡ outcome.TooBig
too_big_is outcome.TooBig e = refl
too_big_is outcome.Empty e = absurd (cc)
too_big_is (outcome.Value v) e = absurd (cc)

-- outcome i of a wait is too big
met_fault : (job : Job) (m : Moment) (t k p n begun i : ℕ) (outcomes : List Outcome)
    → IsReady job → HasRun job m → HasRun job (after_waits t k p n outcomes begun m)
    → t < length job.graph.tasks → p < length job.graph.phasers
    → IsAnsweredWaits job m t k p n outcomes → i < length outcomes
    → is_too_big (get_or outcomes i outcome.Empty) ≡ true
    → IsFaultAt (started job m) (place.Phaser p, wait_phase (m.history p) n + i)
met_fault job m t k p n begun i outcomes ready ran now there pp wait few big =
    (subst (λ (q : ℕ). w + i < done_of (after.history q) → value_of_phase (value_at job q)
    (after.history q) (w + i) ≡ outcome.TooBig → IsFaultAt (started job m) (place.Phaser q, w + i))
    wait.place (λ done value.
    met_is_fault (started job m) after t k (w + i) (ready_as job after ready)
    (run_started job after now) there wait.few (p, n, wait.numbered)
    (let phase : w ≡ m.offset t + length (m.taken t k) = at in omega arith)
    (let phase : w ≡ m.offset t + length (m.taken t k) = at in
    let long = taken_many in let less : i < length outcomes = few in omega arith) done value))
    done value
  where
    h : History
    h = m.history p

    after : Moment
    after = after_waits t k p n outcomes begun m

    w : ℕ
    w = wait_phase h n

    at : w ≡ m.offset t + length (m.taken t k)
    at = waits_for job m t k p n outcomes ran there pp wait

    taken_many : length (after.taken t k) ≡ length (m.taken t k) + length outcomes
    taken_many =
        let more = m.taken t k ++ map number outcomes in
        let all : length more ≡ length (m.taken t k) + length (map number outcomes) =
        length-append (m.taken t k) (map number outcomes) in
        ap (λ b. length ((cond b (with_at k more (m.taken t)) (m.taken t)) k)) (eq-eqb t t refl)
        ∙ ap (λ b. length (cond b more (m.taken t k))) (eq-eqb k k refl)
        ∙ omega (arith, length-map outcomes number)

    here : after.history p ≡ Waited n (length outcomes) ∷ h
    here = ap (λ b. cond b (Waited n (length outcomes) ∷ h) h) (eq-eqb p p refl)

    fits : w + length outcomes ≤ done_of h
    fits = wait.accepted.1

    grows : Steps h (Waited n (length outcomes))
    grows =
        let legal = (ran.phasers p pp).legal in
        steps (limits_at job p) h (Waited n (length outcomes)) legal
        (sound_of (limits_at job p) h legal) wait.accepted

    done : w + i < done_of (after.history p)
    done =
        omega (arith, grows.grows, ap done_of here, fits, few)

    value : value_of_phase (value_at job p) (after.history p) (w + i) ≡ outcome.TooBig
    value =
        ap (λ g. value_of_phase (value_at job p) g (w + i)) here
        ∙ phase_value (value_of_phase (value_at job p) h) (done_of h) w i outcomes fits few
        (answer_is (value_at job p) h n (length outcomes) outcomes wait.answered)
        ∙ too_big_is (get_or outcomes i outcome.Empty) big

-- ---- a value that the task has made

made_fault : (steps most : ℕ) (job : Job) (m : Moment) (t j i : ℕ)
    → AreSizes job.graph t steps most → IsReady job → HasRun job m → Live job m t
    → first_owed job m t ≡ Some j
    → waits_first (task_at job.graph t).kind j (length (m.put t j)) (length (m.taken t 1)) ≡ false
    → are_made (task_at job.graph t).kind j ≡ true → i < length (values_up_to most job m t j)
    → is_out_of_range (get_or (values_up_to most job m t j) i (pos 0)) ≡ true
    → IsFaultAt (started job m) (place.Task t, length (m.put t j) + i)
made_fault steps most job m t j i sizes ready ran live owes first made few out =
    let o = owed job m t j owes in
    let p = output_at job t j in
    let rest = drop (length (m.put t j)) (made_now job m t j) in
    let step = length (m.put t j) + i in
    let place_is : index_in (signalled_by (task_at job.graph t)) p ≡ Some j =
    place_of_output job.graph t (task_at job.graph t) j (ready.graph.tasks t live.there) o.0 in
    let on : OnLine (task_at job.graph t) p = inl (j, place_is) in
    let many : length (values_up_to most job m t j) ≡ min most (length rest) = length-take most rest in
    let left : length rest ≡ length (made_now job m t j) - length (m.put t j) =
    length-drop (length (m.put t j)) (made_now job m t j) in
    let within : step < length (made_now job m t j) = omega arith in
    let value : get_or (values_up_to most job m t j) i (pos 0) ≡ get_or (made_now job m t j) step (pos 0) =
    get_or-take rest most i (pos 0) (omega arith)
    ∙ get_or-drop (made_now job m t j) (length (m.put t j)) i (pos 0) in
    let X : ℕ → Type 0 = λ y. HasExchanged (task_at job.graph t).kind j y (length (m.taken t 1)) in
    let next : length (m.put t j) + (i + 1) ≡ suc step = omega arith in
    let exchanged : X (suc step) = subst X next
    (may_put (task_at job.graph t).kind j (length (m.put t j)) (length (m.taken t 1)) (i + 1)
    (λ peer.
    (let one = one_value most job m t j sizes (ap has_blocks peer) in omega arith))
    first) in
    made_is_fault (started job m) m t j p step (ready_as job m ready)
    (run_started job m ran) live.there (on_phaser job t p ready.graph live.there on)
    (p, number_on m t p, number_there job m t p ready.graph live on) place_is made within
    exchanged (ap is_out_of_range (sym value) ∙ out)

-- ---- only a signal is answered so

pub not_wait : (event : Outcome → TaskEvent) (r : Result Got WaitRefusal) (at : Where)
    → wait_answer event r ≡ has_made at → ⊥
not_wait event (Ok (got.Value phase outcome)) at e = (cc)
not_wait event (Ok got.Ended) at e = (cc)
not_wait event (Err waits_refused.NoTask) at e = (cc)
not_wait event (Err waits_refused.NoWait) at e = (cc)
not_wait event (Err waits_refused.BadBlock) at e = (cc)
not_wait event (Err waits_refused.SignalFirst) at e = (cc)
not_wait event (Err waits_refused.NotYet) at e = (cc)

pub not_block : (event : ℕ → ℕ → TaskEvent) (r : Result GotBlock WaitRefusal) (at : Where)
    → block_answer event r ≡ has_made at → ⊥
not_block event (Ok (block.Values phase count)) at e = (cc)
not_block event (Ok block.Ended) at e = (cc)
not_block event (Err waits_refused.NoTask) at e = (cc)
not_block event (Err waits_refused.NoWait) at e = (cc)
not_block event (Err waits_refused.BadBlock) at e = (cc)
not_block event (Err waits_refused.SignalFirst) at e = (cc)
not_block event (Err waits_refused.NotYet) at e = (cc)

not_signal : (event : TaskEvent) (o : Option SignalRefusal) (at : Where)
    → signal_answer event o ≡ has_made at → ⊥
not_signal event None at e = (cc)
not_signal event (Some signals_refused.NoTask) at e = (cc)
not_signal event (Some signals_refused.NoSignal) at e = (cc)
not_signal event (Some signals_refused.NotSingle) at e = (cc)
not_signal event (Some signals_refused.BadBlock) at e = (cc)
not_signal event (Some signals_refused.SignalTwice) at e = (cc)
not_signal event (Some signals_refused.Spent) at e = (cc)
not_signal event (Some signals_refused.Ahead) at e = (cc)
not_signal event (Some signals_refused.SingleDiffers) at e = (cc)
not_signal event (Some signals_refused.PhaseFull) at e = (cc)

not_accepted : {R : Type 0} (event : TaskEvent) (o : Option R) (at : Where)
    → accepted_answer event o ≡ has_made at → ⊥
not_accepted event None at e = (cc)
not_accepted event (Some r) at e = (cc)

pub not_register : (job : Job) (m : Moment) (t c : ℕ) (o : Option Registration) (at : Where)
    → call_register job m t c o ≡ has_made at → ⊥
not_register job m t c None at e = (cc)
not_register job m t c (Some r) at e = by (task_at job.graph c).joins_now e
  where
    by : (b : Bool) → register_answer m t c r b ≡ has_made at → ⊥
    by true e = not_accepted _ _ at e
    by false e = not_accepted _ _ at e

pub not_leave : (m : Moment) (t : ℕ) (o : Option Registration) (at : Where)
    → call_leave m t o ≡ has_made at → ⊥
not_leave m t None at e = (cc)
not_leave m t (Some r) at e = not_accepted _ _ at e

-- the place of an answer, where it has one
abbrev place_or : Where → Answer → Where
place_or other (has_made at) = at
place_or other answer = other

pub record IsOut (job : Job) (m : Moment) (t j : ℕ) (vs : List ℤ) (at : Where) : Type 0 where
  pub step : ℕ
  pub found : position_from is_out_of_range (length (m.put t j)) vs ≡ Some step
  pub made : are_made (task_at job.graph t).kind j ≡ true
  pub place_is : (place.Task t, step) ≡ at

pub is_out : (job : Job) (m : Moment) (t j : ℕ) (vs : List ℤ) (event : TaskEvent) (at : Where)
    → signal_turn job m t j vs event ≡ has_made at → IsOut job m t j vs at
is_out job m t j vs event at e =
    by (position_from is_out_of_range (length (m.put t j)) vs) refl
    (are_made (task_at job.graph t).kind j) refl e
  where
    by : (o : Option ℕ) → position_from is_out_of_range (length (m.put t j)) vs ≡ o → (b : Bool)
        → are_made (task_at job.graph t).kind j ≡ b
        → signal_turn job m t j vs event ≡ has_made at → IsOut job m t j vs at
    by (Some step) found true made e =
        let is : signal_turn job m t j vs event ≡ has_made (place.Task t, step) =
        rw found (rw made refl) in
        record { step = step; found = found; made = made; place_is = ap (place_or at) (sym is ∙ e) }
    by (Some step) found false made e =
        let is : signal_turn job m t j vs event ≡ is_refused = rw found (rw made refl) in
        absurd (let clash : is_refused ≡ has_made at = sym is ∙ e in cc)
    by None found b made e =
        let is : signal_turn job m t j vs event
        ≡ call_signal job m t (output_at job t j) vs event = rw found refl in
        absurd (not_signal event _ at (sym is ∙ e))

-- ---- the answer of a turn

-- a step that begins makes no value
not_step : (steps most : ℕ) (job : Job) (m : Moment) (t : ℕ) (at : Where) (kind : Kind)
    → (task_at job.graph t).kind ≡ kind
    → answer_up_to steps most job m t (next_step (task_at job.graph t) (m.begun t) kind) ≡ has_made at → ⊥
not_step steps most job m t at Source is e =
    let p = output_at job t 0 in
    let vs = samples_up_to steps job m t in
    let it = is_out job m t 0 vs (sample t 0 p (number_on m t p) vs) at e in
    let none : are_made (task_at job.graph t).kind 0 ≡ false = ap (λ k. are_made k 0) is in
    let wrong : true ≡ false = sym it.made ∙ none in
    cc
not_step steps most job m t at Fir is e = not_block _ _ at e
not_step steps most job m t at Split is e = not_block _ _ at e
not_step steps most job m t at Decimate is e = not_block _ _ at e
not_step steps most job m t at Join is e = not_block _ _ at e
not_step steps most job m t at Peer is e = not_block _ _ at e
not_step steps most job m t at Sink is e = not_block _ _ at e

not_boundary : (steps most : ℕ) (job : Job) (m : Moment) (t : ℕ) (at : Where) (o : Option ℕ)
    → answer_up_to steps most job m t (at_boundary job m t o) ≡ has_made at → ⊥
not_boundary steps most job m t at (Some c) e = not_register job m t c (first_missing job m c) at e
not_boundary steps most job m t at None e =
    by (is_cut (task_at job.graph t).until (m.begun t)
    || has_input_ended job m t (task_at job.graph t).kind) e
  where
    by : (b : Bool)
        → answer_up_to steps most job m t (cond b leaves
        (next_step (task_at job.graph t) (m.begun t) (task_at job.graph t).kind)) ≡ has_made at → ⊥
    by true e = not_leave m t (first_kept job m t) at e
    by false e = not_step steps most job m t at (task_at job.graph t).kind refl e

turn_made : (steps most : ℕ) (job : Job) (m : Moment) (t : ℕ) (at : Where)
    → MaySize job.graph t steps most → IsReady job → HasRun job m
    → turn_up_to steps most job m t ≡ has_made at → IsFaultAt (started job m) at
turn_made steps most job m t at may ready ran e = by (is_live job m t) refl e
  where
    owing : (j : ℕ) → first_owed job m t ≡ Some j → Live job m t → (b : Bool)
        → waits_first (task_at job.graph t).kind j (length (m.put t j)) (length (m.taken t 1)) ≡ b
        → answer_up_to steps most job m t (cond b exchanges (signals j)) ≡ has_made at
        → IsFaultAt (started job m) at
    owing j owes live true first e = absurd (not_wait _ _ at e)
    owing j owes live false first e =
        let it = is_out job m t j (values_up_to most job m t j) _ at e in
        let f = found_at is_out_of_range (length (m.put t j)) (values_up_to most job m t j) it.step
        it.found in
        subst (IsFaultAt (started job m)) (ap (λ step. (place.Task t, step)) (sym f.is) ∙ it.place_is)
        (made_fault steps most job m t j f.index (may live.there) ready ran live owes first it.made f.few (f.passes (pos 0)))

    of_owed : (o : Option ℕ) → first_owed job m t ≡ o → Live job m t
        → answer_up_to steps most job m t (of_live job m t o) ≡ has_made at → IsFaultAt (started job m) at
    of_owed (Some j) owes live e =
        owing j owes live
        (waits_first (task_at job.graph t).kind j (length (m.put t j)) (length (m.taken t 1))) refl e
    of_owed None none live e = absurd (not_boundary steps most job m t at (first_due job m t) e)

    by : (b : Bool) → is_live job m t ≡ b
        → answer_up_to steps most job m t (cond b (of_live job m t (first_owed job m t)) is_not_live)
        ≡ has_made at → IsFaultAt (started job m) at
    by true live e = of_owed (first_owed job m t) refl (live-is job m t live) e
    by false live e = absurd (cc)

-- ---- the word of an event

-- the place of a word, where it has one
abbrev told_or : Where → Option Told → Where
told_or other None = other
told_or other (Some Moved) = other
told_or other (Some Ended) = other
told_or other (Some Blocked) = other
told_or other (Some Gone) = other
told_or other (Some (TooBig at)) = at

wait_fault : (job : Job) (m : Moment) (t k p n begun : ℕ) (outcomes : List Outcome) (at : Where)
    → IsReady job → HasRun job m → HasRun job (after_waits t k p n outcomes begun m)
    → t < length job.graph.tasks → p < length job.graph.phasers
    → IsAnsweredWaits job m t k p n outcomes
    → Some (told_wait m p n outcomes) ≡ Some (TooBig at) → IsFaultAt (started job m) at
wait_fault job m t k p n begun outcomes at ready ran now there pp wait told =
    by (position_from is_too_big (wait_phase (m.history p) n) outcomes) refl
  where
    by : (o : Option ℕ) → position_from is_too_big (wait_phase (m.history p) n) outcomes ≡ o
        → IsFaultAt (started job m) at
    by None found =
        let is : told_wait m p n outcomes ≡ Moved = rw found refl in
        absurd (let clash : Some Moved ≡ Some (TooBig at) = ap (λ x. Some x) (sym is) ∙ told in cc)
    by (Some phase) found =
        let is : told_wait m p n outcomes ≡ TooBig (place.Phaser p, phase) = rw found refl in
        let f = found_at is_too_big (wait_phase (m.history p) n) outcomes phase found in
        let same : (place.Phaser p, wait_phase (m.history p) n + f.index) ≡ at =
        ap (λ y. (place.Phaser p, y)) (sym f.is)
        ∙ ap (told_or at) (ap (λ x. Some x) (sym is) ∙ told) in
        subst (IsFaultAt (started job m)) same
        (met_fault job m t k p n begun f.index outcomes ready ran now there pp wait f.few
        (f.passes outcome.Empty))

event_fault : (job : Job) (m : Moment) (event : TaskEvent) (at : Where) → IsReady job
    → HasRun job m → HasRun job (after_turn job event m) → IsNext job m event
    → Some (told_event job m event) ≡ Some (TooBig at) → IsFaultAt (started job m) at
event_fault job m (sample t j p n vs) at ready ran now next e = absurd (cc)
event_fault job m (signal t j p n vs) at ready ran now next e = absurd (cc)
event_fault job m (child t p n c a mode) at ready ran now next e = absurd (cc)
event_fault job m (child_now t p n c a) at ready ran now next e = absurd (cc)
event_fault job m (leave t p n) at ready ran now next e =
    absurd (by (is_live job (after_turn job (leave t p n) m) t) e)
  where
    by : (b : Bool) → Some (cond b Moved Ended) ≡ Some (TooBig at) → ⊥
    by true e = (cc)
    by false e = (cc)
event_fault job m (first_wait t k p n outcomes) at ready ran now next e =
    wait_fault job m t k p n (further (m.begun t) outcomes) outcomes at ready ran now next.0.task
    next.0.phaser next.1.wait e
event_fault job m (exchange_wait t p n outcome) at ready ran now next e =
    wait_fault job m t 1 p n (m.begun t) (outcome ∷ []) at ready ran now next.0.task next.0.phaser
    next.1.wait e

pub told_fault : (steps most : ℕ) (job : Job) (m : Moment) (t : ℕ) (at : Where)
    → MaySize job.graph t steps most → IsReady job → IsReachable job m
    → ((event : TaskEvent) → turn_up_to steps most job m t ≡ makes event
    → HasRun job (after_turn job event m))
    → tells_up_to steps most job m t ≡ Some (TooBig at) → IsFaultAt (started job m) at
told_fault steps most job m t at may ready reached runs told = by (turn_up_to steps most job m t) refl told
  where
    by : (answer : Answer) → turn_up_to steps most job m t ≡ answer
        → word_of_answer job m answer ≡ Some (TooBig at) → IsFaultAt (started job m) at
    by (makes event) e told =
        event_fault job m event at ready reached.ran (runs event e)
        (turn_makes_next steps most job m t event may ready.graph reached.ran (λ c due. reached.to_come) e) told
    by is_blocked e told = absurd (cc)
    by is_gone e told = absurd (cc)
    by (has_made there) e told =
        subst (IsFaultAt (started job m)) (ap (told_or at) told)
        (turn_made steps most job m t there may ready reached.ran e)
    by is_refused e told = absurd (cc)
