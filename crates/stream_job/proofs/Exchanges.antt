-- The turn of a peer that waits on E.
use Rattle.std.proofs.Common.{◌≡◌, ℕ, ℤ, ◌≤◌, Bool, true, false, cond, eqb, [], ◌∷◌, ◌++◌, Some, None, length, get_or, slice_get, set, refl, sym, ap, subst, ◌∙◌}
use Rattle.std.specs.Prelude.{Ok, Err}
use Rattle.std.proofs.lemmas.Bool.{eqb-true}
use Rattle.phase_accum.specs.declared.outcome.Outcome.{Outcome}
use Rattle.phase_history.specs.declared.event.Event.TheVariants.{Waited}
use Rattle.phase_history.specs.declared.got.Got.TheVariants as got
use Rattle.phase_history.specs.declared.refusal.WaitRefusal.{WaitRefusal}
use Rattle.phase_history.specs.Replies.{wait_reply}
use Rattle.graph_base.specs.declared.line.Kind.TheVariants.{Fir, Peer}
use Rattle.graph_base.specs.Graphs.{task_at}
use Rattle.graph_base.specs.TaskLines.{IsGraph}
use Rattle.stream_lists.specs.Jobs.{Job}
use Rattle.stream_lists.specs.Lists.{number}
use Rattle.graph_runs.specs.Moments.{Moment, HasRun, HasAnsweredNone, limits_at, value_at, input_at}
use Rattle.graph_runs.specs.Turned.{with_at}
use Rattle.graph_runs.specs.Nexts as turns
use Rattle.graph_runs.specs.Nexts.{Next, is_live, next_of, number_on}
use Rattle.graph_runs.specs.Reached.{IsReachable}
use Rattle.graph_runs.specs.TaskEvents.{exchange_wait, after_turn}
use Rattle.graph_runs.specs.Answers.{makes, is_blocked, after_answer, wait_answer, told_got, turn_up_to}
use Rattle.graph_runs.specs.TaskPlaces as places
use Rattle.graph_runs.specs.TaskPlaces.{TaskPlace, StandsUpTo, owed_after_exchange}
use Rattle.graph_runs.proofs.Turning.{turn_makes_next}
use Rattle.graph_runs.proofs.InOrder.{event_owes}
use Rattle.graph_runs.proofs.Exchanging.{exchange_follows}
use Rattle.graph_runs.specs.Steps.{owed_of, HasFilter}
use Rattle.graph_runs.specs.declared.owed.Owed.{Owed}
use Rattle.graph_runs.specs.declared.owed.Owed.TheVariants as code
use Rattle.graph_runs.specs.NextBlocks.{MaySize}
use Rattle.stream_job.specs.Stepping.{IsNextIn}
use Rattle.stream_job.specs.Places.{place_in_state, owed_in}
use Rattle.stream_job.specs.Machines.{IsMachineAt, HasCores}
use Rattle.stream_job.specs.Turning.{HadTurn, MadeShows, told_of, turn_in}
use Rattle.stream_job.specs.declared.machine.Machine.{Machine}
use Rattle.stream_job.specs.declared.task_state.TaskState.{TaskState}
use Rattle.stream_job.specs.declared.made.Made.TheVariants.{Event, Blocked}
use Rattle.stream_job.specs.declared.turned.Turned.{Turned}
use Rattle.stream_job.proofs.LinesAfter.{quiet_lines, same_rooms}
use Rattle.stream_job.proofs.Mosts.{most_is, mosts_set, stands_in}
use Rattle.stream_job.proofs.WhatNext.{InStep, exchanges_owes}
use Rattle.stream_job.proofs.SignalCalls.{blocked_turn}
use Rattle.stream_job.proofs.Events.{after_own, unchanged}
use Rattle.stream_job.proofs.Waits.{blocks, exchange_so, exchange_waits_at, is_peer, phase_is, told_is}

-- ---- a peer's exchange

-- a state that owes this
abbrev pub with_owed : TaskState → Owed → TaskState
with_owed state owed = record state { owed = owed }

-- a peer has made no values
pub none_made : {allowed : ℕ} (job : Job) (machine : Machine) (m : Moment) (t : ℕ) (state : TaskState)
    → IsNextIn allowed job machine t turns.exchanges → IsMachineAt job m machine
    → slice_get machine.tasks.items t ≡ Some state → state.made.items ≡ []
none_made job machine m t state next at found =
    (at.tasks t state found).made_none
    (λ filters. (let peer : (task_at job.graph t).kind ≡ Peer = is_peer job m t (next.is m at) in
    let wrong : Peer ≡ Fir = sym peer ∙ filters in cc))

-- what a peer that exchanges owes, by its state
pub owes_exchange : {allowed : ℕ} (job : Job) (machine : Machine) (m : Moment) (t : ℕ) (state : TaskState)
    → IsNextIn allowed job machine t turns.exchanges → IsMachineAt job m machine
    → slice_get machine.tasks.items t ≡ Some state
    → (x : ℤ) × (owed_of state.owed ≡ places.exchange x)
owes_exchange job machine m t state next at found =
    by (owed_of state.owed)
    (subst (λ l. places.OwesUpTo state.most job m t (owed_in state.owed l))
    (none_made job machine m t state next at found) (at.tasks t state found).stands.owes)
  where
    s : InStep job m t turns.exchanges
    s = exchanges_owes job m t (next.is m at)

    one : (i j : ℕ) → Some i ≡ Some j → i ≡ j
    one i j e = cc

    by : (o : places.Owed) → places.OwesUpTo state.most job m t o → (x : ℤ) × (o ≡ places.exchange x)
    by places.nothing owes = absurd (let wrong : None ≡ Some s.output = sym owes ∙ s.owes in cc)
    by (places.values i vs) owes =
        absurd (let same : i ≡ s.output = one i s.output (sym owes.0 ∙ s.owes) in
        let wrong : turns.signals i ≡ turns.exchanges =
        sym owes.1 ∙ ap (turns.in_step job m t) same ∙ s.is in cc)
    by (places.exchange x) owes = (x, refl)

pub exchange_some : {allowed : ℕ} (job : Job) (machine : Machine) (t : ℕ) (state : TaskState)
    → IsNextIn allowed job machine t turns.exchanges → slice_get machine.tasks.items t ≡ Some state
    → ((x : ℤ) → state.owed ≡ code.Exchange x → ⊥) → ⊥
exchange_some job machine t state next found never =
    let owes = owes_exchange job machine next.some.0 t state next next.some.1 found in
    by state.owed refl owes.0 owes.1
  where
    by : (o : Owed) → state.owed ≡ o → (x : ℤ) → owed_of state.owed ≡ places.exchange x → ⊥
    by code.Nothing e x is = absurd (let wrong : places.nothing ≡ places.exchange x =
        ap owed_of (sym e) ∙ is in cc)
    by (code.Value i w) e x is = absurd (let wrong : places.values i (w ∷ []) ≡ places.exchange x =
        ap owed_of (sym e) ∙ is in cc)
    by (code.Exchange y) e x is = never y e

-- the place of a peer after its exchange
exchange_stands : {allowed most : ℕ} (job : Job) (m : Moment) (t p n : ℕ) (outcome : Outcome)
    (at : TaskPlace) → MaySize job.graph t allowed most → 1 ≤ most → IsGraph job.graph → IsReachable job m
    → HasRun job (after_turn job (exchange_wait t p n outcome) m)
    → turn_up_to allowed most job m t ≡ makes (exchange_wait t p n outcome) → StandsUpTo most job m t at
    → StandsUpTo most job (after_turn job (exchange_wait t p n outcome) m) t
    (record at { owed = owed_after_exchange (task_at job.graph t) at.owed (number outcome) })
exchange_stands {allowed} {most} job m t p n outcome at sized some is reached now answer stands =
    let event = exchange_wait t p n outcome in
    exchange_follows allowed most job m t p n outcome at some is reached.ran
    (turn_makes_next allowed most job m t event sized is reached.ran (λ c due. reached.to_come) answer) now
    (event_owes allowed most job m t event answer) stands

pub exchanged_turn : {allowed : ℕ} (job : Job) (old new : Machine) (t n p phase : ℕ) (x : ℤ)
    (outcome : Outcome) (state : TaskState) (owed : Owed) (told : Turned)
    → IsNextIn allowed job old t turns.exchanges → slice_get old.tasks.items t ≡ Some state
    → p ≡ input_at (task_at job.graph t) 1 → n ≡ get_or state.numbers.items 1 0
    → state.owed ≡ code.Exchange x
    → ((m : Moment) → IsMachineAt job m old
    → wait_reply (value_at job p) (limits_at job p) (m.history p) n ≡ Ok (got.Value phase outcome))
    → ((m : Moment) → IsMachineAt job m old
    → HasCores job (with_at p (Waited n 1 ∷ m.history p) m.history) new.cores.items)
    → new.tasks.items ≡ set old.tasks.items t (with_owed state owed) → new.lines ≡ old.lines
    → owed_of owed ≡ owed_after_exchange (task_at job.graph t) (places.exchange x) (number outcome)
    → told_of told ≡ told_got p phase (outcome ∷ [])
    → HadTurn allowed job old new t (Event p told)
exchanged_turn {allowed} job old new t n p phase x outcome state owed told next found phaser numbered owes reply cores tasks lines after_owes tells =
    record {
      shows = shows;
      after = after;
      lines = λ given m at none.
          quiet_lines job given m old new t (exchange_wait t p n outcome) next.sized at (answer m at) refl tt
          lines;
      own = same_rooms old new lines;
      mosts = mosts_set old new t state (with_owed state owed) found tasks refl;
    }
  where
    answer : (m : Moment) → IsMachineAt job m old
        → turn_in allowed job old m t ≡ makes (exchange_wait t p n outcome)
    answer m at =
        exchange_so job old m t n p state next at found phaser numbered
        ∙ ap (wait_answer (exchange_wait t p n)) (reply m at)

    shows : (m : Moment) → IsMachineAt job m old
        → MadeShows job m t (turn_in allowed job old m t) (Event p told)
    shows m at =
        subst (λ a. MadeShows job m t a (Event p told)) (sym (answer m at)) (
          refl,
          told_is m p n phase (outcome ∷ []) (phase_is (value_at job p) (limits_at job p) (m.history p) n
              phase outcome (reply m at)) ∙ sym tells,
        )

    stays : (m : Moment) (u : ℕ)
        → (after_turn job (exchange_wait t p n outcome) m).taken u 0 ≡ m.taken u 0
    stays m u = by (eqb u t) refl
      where
        by : (b : Bool) → eqb u t ≡ b
            → (after_turn job (exchange_wait t p n outcome) m).taken u 0 ≡ m.taken u 0
        by true e =
            let same : u ≡ t = eqb-true u t e in
            ap (λ b. cond b (with_at 1 (m.taken t 1 ++ number outcome ∷ []) (m.taken t)) (m.taken u) 0) e
            ∙ ap (λ v. m.taken v 0) (sym same)
        by false e =
            ap (λ b. cond b (with_at 1 (m.taken t 1 ++ number outcome ∷ []) (m.taken t)) (m.taken u) 0) e

    ran : (m : Moment) → IsMachineAt job m old
        → HasRun job (after_turn job (exchange_wait t p n outcome) m)
    ran m at =
        (subst (λ a. IsReachable job (after_answer job a m)) (answer m at) (next.stays m at)).ran

    after : (m : Moment) → IsMachineAt job m old → HasAnsweredNone job m
        → IsMachineAt job (after_answer job (turn_in allowed job old m t) m) new
    after m at none =
        let it = at.tasks t state found in
        let event = exchange_wait t p n outcome in
        let made = none_made job old m t state next at found in
        let is : owed_in state.owed state.made.items ≡ places.exchange x =
        ap (owed_in state.owed) made ∙ ap owed_of owes in
        let after_is : owed_after_exchange (task_at job.graph t) (owed_in state.owed state.made.items)
        (number outcome) ≡ owed_in owed state.made.items =
        ap (λ o. owed_after_exchange (task_at job.graph t) o (number outcome)) is
        ∙ sym (ap (owed_in owed) made ∙ after_owes) in
        let sized = next.sized (exchange_waits_at job old m t state next at found).there in
        let stands : StandsUpTo state.most job (after_turn job event m) t
        (place_in_state (with_owed state owed)) =
        subst (λ o. StandsUpTo state.most job (after_turn job event m) t
        (record (place_in_state state) { owed = o })) after_is
        (subst (λ i. StandsUpTo i job (after_turn job event m) t (record (place_in_state state) {
          owed = owed_after_exchange (task_at job.graph t) (owed_in state.owed state.made.items)
              (number outcome);
        })) (most_is old t state found)
        (exchange_stands job m t p n outcome (place_in_state state) next.sized sized.owed.some at.graph
        at.reached (ran m at) (answer m at) (stands_in job old m t state at found))) in
        after_own job m old new t event (with_owed state owed) next.sized at (answer m at) refl
        (exchange_waits_at job old m t state next at found).there (next.stays m at) (next.few m at)
        (cores m at) tasks
        (record {
          stands = stands;
          room = it.room;
          filter = subst (HasFilter (task_at job.graph t) state.filter) (sym (stays m t)) it.filter;
          most = it.most;
          made_room = it.made_room;
          made_by = λ filters. absurd
              (let peer : (task_at job.graph t).kind ≡ Peer = is_peer job m t (next.is m at) in
              let wrong : Peer ≡ Fir = sym peer ∙ filters in cc);
          made_none = it.made_none;
          sink = it.sink;
        })
        (ap (λ l. length l.items) lines)

-- a wait that the phaser would not take now
pub blocked_exchange : {allowed : ℕ} (job : Job) (old new : Machine) (t n p : ℕ) (state : TaskState)
    (r : WaitRefusal) → IsNextIn allowed job old t turns.exchanges → slice_get old.tasks.items t ≡ Some state
    → p ≡ input_at (task_at job.graph t) 1 → n ≡ get_or state.numbers.items 1 0
    → ((m : Moment) → IsMachineAt job m old
    → wait_reply (value_at job p) (limits_at job p) (m.history p) n ≡ Err r)
    → ((m : Moment) → IsMachineAt job m old
    → HasCores job (with_at p (m.history p) m.history) new.cores.items)
    → new.tasks ≡ old.tasks → new.lines ≡ old.lines → HadTurn allowed job old new t (Blocked p)
blocked_exchange {allowed} job old new t n p state r next found phaser numbered reply cores tasks lines =
    blocked_turn job old new t p turns.exchanges next (sym phaser) answer
    (λ m at. unchanged job m old new p at (cores m at) tasks lines) tasks lines
  where
    refused : (m : Moment) → IsMachineAt job m old
        → turn_in allowed job old m t ≡ wait_answer (exchange_wait t p n) (Err r)
    refused m at =
        exchange_so job old m t n p state next at found phaser numbered
        ∙ ap (wait_answer (exchange_wait t p n)) (reply m at)

    answer : (m : Moment) → IsMachineAt job m old → turn_in allowed job old m t ≡ is_blocked
    answer m at =
        refused m at ∙ blocks (exchange_wait t p n) r (λ e. next.answered m at (refused m at ∙ e))

pub never_ended : {allowed : ℕ} (job : Job) (old : Machine) (t n p : ℕ) (state : TaskState)
    → IsNextIn allowed job old t turns.exchanges → slice_get old.tasks.items t ≡ Some state
    → p ≡ input_at (task_at job.graph t) 1 → n ≡ get_or state.numbers.items 1 0
    → ((m : Moment) → IsMachineAt job m old
    → wait_reply (value_at job p) (limits_at job p) (m.history p) n ≡ Ok got.Ended) → ⊥
never_ended job old t n p state next found phaser numbered reply =
    let m = next.some.0 in
    let at = next.some.1 in
    next.answered m at (exchange_so job old m t n p state next at found phaser numbered
    ∙ ap (wait_answer (exchange_wait t p n)) (reply m at))
