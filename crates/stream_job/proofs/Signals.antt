-- The turn of a task that signals what it owes.
use Rattle.std.proofs.Common.{◌≡◌, ◌≢◌, ℕ, ℤ, List, zero, suc, ◌+◌, ◌<◌, ◌≤◌, Bool, true, false, cond, eqb, [], ◌∷◌, Some, None, length, get_or, slice_get, set, map, refl, sym, ap, subst, ◌∙◌, arith}
use Rattle.std.specs.Prelude.{Result, Ok}
use Rattle.std.specs.List.{position_from}
use Rattle.std.specs.declared.vec.Vec.{Vec}
use Rattle.std.specs.Global.{Global}
use Rattle.std.proofs.lemmas.Bool.{eq-eqb, eqb-true}
use Rattle.std.proofs.lemmas.List.{length-map}
use Rattle.std.proofs.lemmas.Option.{same_Some}
use Rattle.phase_accum.specs.Sends.{AreSends}
use Rattle.stream_filters.specs.Range.{ranged}
use Rattle.stream_filters.specs.declared.fault.TooBigValue.{TooBigValue}
use Rattle.graph_base.specs.declared.line.Kind.{Kind}
use Rattle.graph_base.specs.declared.line.Kind.TheVariants.{Source, Fir, Split, Decimate, Join, Peer, Sink}
use Rattle.graph_base.specs.declared.place.Place.TheVariants as place
use Rattle.graph_base.specs.Graphs.{task_at, Task}
use Rattle.graph_base.specs.Registrations.{signalled_by}
use Rattle.stream_lists.specs.Jobs.{Job}
use Rattle.stream_lists.specs.Ranges.{are_made}
use Rattle.stream_lists.specs.Spans.{puts_on}
use Rattle.graph_runs.specs.Moments.{Moment, made_now}
use Rattle.graph_runs.specs.Nexts as turns
use Rattle.graph_runs.specs.Nexts.{Next, is_live, next_of, number_on}
use Rattle.graph_runs.specs.TaskEvents.{TaskEvent, signal, after_turn}
use Rattle.graph_runs.specs.Answers as answers
use Rattle.graph_runs.specs.Answers.{Answer, makes, is_blocked, is_refused, after_answer, signal_answer, signal_turn, call_signal, output_at, told_event, answer_up_to, values_up_to, samples_up_to}
use Rattle.graph_runs.specs.Steps.{owed_of}
use Rattle.graph_runs.specs.TaskPlaces as places
use Rattle.graph_runs.specs.TaskPlaces.{StandsUpTo, child_of, registration_of_output, owed_after_signal, lacking}
use Rattle.graph_runs.specs.declared.owed.Owed.{Owed}
use Rattle.graph_runs.specs.declared.owed.Owed.TheVariants as code
use Rattle.graph_runs.proofs.Boundaries.{made_many}
use Rattle.graph_runs.proofs.Lacking.{lacks_here}
use Rattle.graph_runs.proofs.Signalling.{owed, live-is, values_few}
use Rattle.graph_runs.proofs.Stepping.{signal_follows}
use Rattle.stream_job.specs.Buffers.{most_steps}
use Rattle.stream_job.specs.Stepping.{IsNextIn, is_value_out}
use Rattle.stream_job.specs.Machines.{IsMachineAt, KeepsLines, most_in}
use Rattle.stream_job.specs.Places.{IsTaskAt, owed_in, place_in_state}
use Rattle.stream_job.specs.Turning.{HadTurn, MadeShows, turn_in}
use Rattle.stream_job.specs.declared.machine.Machine.{Machine}
use Rattle.stream_job.specs.declared.made.Made.TheVariants.{Event, OutOfRange}
use Rattle.stream_job.specs.declared.task_state.TaskState.{TaskState}
use Rattle.stream_job.specs.declared.turned.Turned.TheVariants.{Moved}
use Rattle.stream_job.proofs.Ending.{number_of_output}
use Rattle.stream_job.proofs.Lively.{live_next}
use Rattle.stream_job.proofs.Makes.{makes_event}
use Rattle.stream_job.proofs.Mosts.{most_is, stands_in}
use Rattle.stream_job.proofs.WhatNext.{signals_owes, signals_step}
use Rattle.stream_job.proofs.SentValues.{OverAt, all_in_range, first_over, sends_all}
use Rattle.stream_job.proofs.SignalCalls.{SignalledCores, SignalsBy, accepted, goes_on, moved_turn, renumbered, reply_of, stops}

-- ---- the signal of what is owed

-- where it goes
pub record SignalsAt (job : Job) (m : Moment) (t j : ℕ) (state : TaskState) : Type 0 where
  pub there : t < length job.graph.tasks
  pub few : j < length (signalled_by (task_at job.graph t))
  pub place : registration_of_output (task_at job.graph t) j < length state.numbers.items
  pub number : number_on m t (output_at job t j)
      ≡ get_or state.numbers.items (registration_of_output (task_at job.graph t) j) 0

pub signals_at : {steps : ℕ} (job : Job) (machine : Machine) (m : Moment) (t j : ℕ) (state : TaskState)
    → IsNextIn steps job machine t (turns.signals j) → IsMachineAt job m machine
    → slice_get machine.tasks.items t ≡ Some state → SignalsAt job m t j state
signals_at job machine m t j state next at found =
    let is = next.is m at in
    let live = live_next job m t (turns.signals j) is (λ e. absurd (cc)) in
    let few = (owed job m t j (signals_owes job m t j is)).0 in
    let out = number_of_output job m t j (place_in_state state) at.graph (at.tasks t state found).stands
    live few in
    record {
      there = (live-is job m t live).there;
      few = few;
      place = out.0;
      number = out.1;
    }

-- the output is one of the task's
pub signal_few : {steps : ℕ} (job : Job) (machine : Machine) (m : Moment) (t j : ℕ)
    → IsNextIn steps job machine t (turns.signals j) → IsMachineAt job m machine
    → j < length (signalled_by (task_at job.graph t))
signal_few job machine m t j next at = (owed job m t j (signals_owes job m t j (next.is m at))).0

-- the values that are next, at each moment of the machine
abbrev pub NextAre : Job → Machine → ℕ → ℕ → List ℤ → Type 0
NextAre job machine t j vs = (m : Moment) → IsMachineAt job m machine
    → map ranged (values_up_to (most_in machine t) job m t j) ≡ map (λ x. Ok x) vs

-- what the turn answers
pub signals_so : {steps : ℕ} (job : Job) (machine : Machine) (t j number p : ℕ) (vs : List ℤ)
    (state : TaskState) → IsNextIn steps job machine t (turns.signals j)
    → slice_get machine.tasks.items t ≡ Some state → p ≡ output_at job t j
    → number ≡ get_or state.numbers.items (registration_of_output (task_at job.graph t) j) 0
    → NextAre job machine t j vs → SignalsBy steps job machine t number p vs (signal t j p number vs)
signals_so {steps} job machine t j number p vs state next found phaser numbered value m at =
    let s = signals_at job machine m t j state next at found in
    let ranges = all_in_range (values_up_to (most_in machine t) job m t j) vs (value m at) in
    let q = output_at job t j in
    ap (answer_up_to steps (most_in machine t) job m t) (next.is m at)
    ∙ ap (λ l. signal_turn job m t j l (signal t j q (number_on m t q) l)) ranges.same
    ∙ goes_on job m t j vs (signal t j q (number_on m t q) vs) (ranges.none (length (m.put t j)))
    ∙ renumbered job m t j number p vs (λ r n. signal t j r n vs) phaser (s.number ∙ sym numbered)

-- the values can be sent
pub values_sent : {steps : ℕ} (job : Job) (machine : Machine) (t j : ℕ) (vs : List ℤ)
    → IsNextIn steps job machine t (turns.signals j) → NextAre job machine t j vs → AreSends vs
values_sent job machine t j vs next value =
    let m = next.some.0 in
    let ranges = all_in_range (values_up_to (most_in machine t) job m t j) vs (value m next.some.1) in
    sends_all 0 vs (ranges.none 0)

-- the values that a task keeps, and what it owes besides
abbrev pub Values : Type 0
Values = Vec (Result ℤ TooBigValue) Global

abbrev pub with_owing : TaskState → Owed → Values → TaskState
with_owing state owed made = record state { owed = owed; made = made }

-- what a task keeps after it has signalled these
pub record HasSignalled (task : Task) (j : ℕ) (vs : List ℤ) (state : TaskState) (owed : Owed)
    (made : Values) : Type 0 where
  pub owes : owed_in owed made.items ≡ owed_after_signal task j vs
  pub room : made.cap ≡ state.made.cap
  pub made_by : task.kind ≡ Fir → owed ≡ code.Nothing
  pub made_none : task.kind ≢ Fir → made.items ≡ []

pub signalled_turn : {steps : ℕ} (job : Job) (old new : Machine) (t j number p phase : ℕ) (vs : List ℤ)
    (state : TaskState) (owed : Owed) (made : Values) → IsNextIn steps job old t (turns.signals j)
    → slice_get old.tasks.items t ≡ Some state → p ≡ output_at job t j
    → number ≡ get_or state.numbers.items (registration_of_output (task_at job.graph t) j) 0
    → NextAre job old t j vs
    → ((m : Moment) → IsMachineAt job m old → reply_of job m p number vs ≡ Ok phase)
    → SignalledCores job old new number p vs
    → new.tasks.items ≡ set old.tasks.items t (with_owing state owed made)
    → new.lines ≡ old.lines → HasSignalled (task_at job.graph t) j vs state owed made
    → HadTurn steps job old new t (Event p Moved)
signalled_turn {steps} job old new t j number p phase vs state owed made next found phaser numbered value reply cores tasks lines has =
    moved_turn job old new t p (turns.signals j) event state (with_owing state owed made) next found
    refl (signals_at job old next.some.0 t j state next next.some.1 found).there refl tt refl (λ m. refl)
    answer stands cores tasks lines
  where
    event : TaskEvent
    event = signal t j p number vs

    answer : (m : Moment) → IsMachineAt job m old
        → turn_in steps job old m t ≡ makes (signal t j p number vs)
    answer =
        accepted steps job old t number p phase vs (signal t j p number vs)
        (signals_so job old t j number p vs state next found phaser numbered value) reply

    stands : (m : Moment) → IsMachineAt job m old
        → IsTaskAt job (after_turn job (signal t j p number vs) m) t (with_owing state owed made)
    stands m at =
        let it = at.tasks t state found in
        let made_so = makes_event job m t (signal t j p number vs) next.sized at.graph at.reached (answer m at) in
        record {
          stands =
              subst (λ o. StandsUpTo state.most job (after_turn job (signal t j p number vs) m) t
              (record (place_in_state state) { owed = o })) (sym has.owes)
              (subst (λ n. StandsUpTo n job (after_turn job (signal t j p number vs) m) t
              (record (place_in_state state) {
                owed = owed_after_signal (task_at job.graph t) j vs;
              })) (most_is old t state found)
              (signal_follows (most_in old t) job m t j p number vs (place_in_state state)
              (next.sized made_so.live.there) at.graph at.reached.ran
              made_so.live made_so.next made_so.owes (stands_in job old m t state at found)));
          room = it.room;
          filter = it.filter;
          most = it.most;
          made_room = λ kind. subst (λ n. state.most ≤ n) (sym has.room)
              (it.made_room kind);
          made_by = has.made_by;
          made_none = has.made_none;
          sink = it.sink;
        }

-- ---- what the state owes

-- what a task that signals owes, by its place
pub owes_values : (most : ℕ) (job : Job) (m : Moment) (t j : ℕ) (o : places.Owed)
    → places.OwesUpTo most job m t o → next_of job m t ≡ turns.signals j
    → (vs : List (Result ℤ TooBigValue)) × (o ≡ places.values j vs)
    × (map ranged (values_up_to most job m t j) ≡ vs)
owes_values most job m t j places.nothing owes is =
    absurd (let wrong : None ≡ Some j = sym owes ∙ signals_owes job m t j is in cc)
owes_values most job m t j (places.values i vs) owes is =
    let same : i ≡ j = same_Some i j (sym owes.0 ∙ signals_owes job m t j is) in (
      vs,
      ap (λ x. places.values x vs) same,
      subst (λ x. map ranged (values_up_to most job m t x) ≡ vs) same owes.2,
    )
owes_values most job m t j (places.exchange x) owes is =
    absurd (let s = signals_step job m t j is in
    let one : 1 ≡ s.output = same_Some 1 s.output (sym owes.0 ∙ s.owes) in
    let there : turns.exchanges ≡ turns.signals j =
    sym owes.1 ∙ ap (turns.in_step job m t) one ∙ s.is in cc)

-- of this state
pub record OwesHere (job : Job) (machine : Machine) (m : Moment) (t j : ℕ) (state : TaskState)
    (vs : List (Result ℤ TooBigValue)) : Type 0 where
  pub owes : owed_in state.owed state.made.items ≡ places.values j vs
  pub next : map ranged (values_up_to (most_in machine t) job m t j) ≡ vs

pub owes_here : {steps : ℕ} (job : Job) (machine : Machine) (m : Moment) (t j i : ℕ) (state : TaskState)
    (vs : List (Result ℤ TooBigValue)) → IsNextIn steps job machine t (turns.signals j)
    → IsMachineAt job m machine → slice_get machine.tasks.items t ≡ Some state
    → owed_in state.owed state.made.items ≡ places.values i vs
    → (i ≡ j) × OwesHere job machine m t j state vs
owes_here job machine m t j i state vs next at found is =
    let owes = owes_values (most_in machine t) job m t j (owed_in state.owed state.made.items)
    (stands_in job machine m t state at found).owes (next.is m at) in
    let both : places.values i vs ≡ places.values j owes.0 = sym is ∙ owes.1 in
    let output : i ≡ j = same_output i j vs owes.0 both in
    let values : vs ≡ owes.0 = same_values i j vs owes.0 both in (
      output,
      record { owes = is ∙ ap (λ x. places.values x vs) output; next = owes.2 ∙ sym values },
    )
  where
    same_output : (i j : ℕ) (vs ws : List (Result ℤ TooBigValue))
        → places.values i vs ≡ places.values j ws → i ≡ j
    same_output i j vs ws e = cc

    same_values : (i j : ℕ) (vs ws : List (Result ℤ TooBigValue))
        → places.values i vs ≡ places.values j ws → vs ≡ ws
    same_values i j vs ws e = cc

-- of one value
pub owes_one : (state : TaskState) (i : ℕ) (w : Result ℤ TooBigValue) → state.made.items ≡ []
    → state.owed ≡ code.Value i w
    → owed_in state.owed state.made.items ≡ places.values i (w ∷ [])
owes_one state i w none is = ap (owed_in state.owed) none ∙ ap owed_of is

pub owes_this : {steps : ℕ} (job : Job) (machine : Machine) (m : Moment) (t j i : ℕ) (state : TaskState)
    (w : Result ℤ TooBigValue) → IsNextIn steps job machine t (turns.signals j)
    → IsMachineAt job m machine → slice_get machine.tasks.items t ≡ Some state
    → state.made.items ≡ [] → state.owed ≡ code.Value i w → OwesHere job machine m t j state (w ∷ [])
owes_this job machine m t j i state w next at found none is =
    (owes_here job machine m t j i state (w ∷ []) next at found (owes_one state i w none is)).1

pub owes_some : {steps : ℕ} (job : Job) (machine : Machine) (t j : ℕ) (state : TaskState)
    → IsNextIn steps job machine t (turns.signals j) → slice_get machine.tasks.items t ≡ Some state
    → state.made.items ≡ []
    → ((i : ℕ) (w : Result ℤ TooBigValue) → state.owed ≡ code.Value i w → ⊥) → ⊥
owes_some job machine t j state next found none never =
    let at = next.some.1 in
    let owes = owes_values (most_in machine t) job next.some.0 t j (owed_in state.owed state.made.items)
    (stands_in job machine next.some.0 t state at found).owes (next.is next.some.0 at) in
    by state.owed refl owes.0 (sym (ap (owed_in state.owed) none) ∙ owes.1)
  where
    by : (o : Owed) → state.owed ≡ o → (vs : List (Result ℤ TooBigValue))
        → owed_of state.owed ≡ places.values j vs → ⊥
    by code.Nothing e vs is =
        absurd (let wrong : places.nothing ≡ places.values j vs = ap owed_of (sym e) ∙ is in cc)
    by (code.Value i w) e vs is = never i w e
    by (code.Exchange x) e vs is =
        absurd (let wrong : places.exchange x ≡ places.values j vs = ap owed_of (sym e) ∙ is in cc)

-- a task that owes one value is no filter
pub one_no_filter : (job : Job) (machine : Machine) (m : Moment) (t i : ℕ) (state : TaskState)
    (w : Result ℤ TooBigValue) → IsMachineAt job m machine
    → slice_get machine.tasks.items t ≡ Some state → state.owed ≡ code.Value i w
    → (task_at job.graph t).kind ≢ Fir
one_no_filter job machine m t i state w at found is kind =
    (let wrong : code.Nothing ≡ code.Value i w =
    sym ((at.tasks t state found).made_by kind) ∙ is in cc)

-- what is so of a task that has made values which it has not signalled
pub record HasMade (job : Job) (machine : Machine) (m : Moment) (t j : ℕ) (state : TaskState) : Type 0 where
  pub filters : (task_at job.graph t).kind ≡ Fir
  pub first : 0 ≡ j
  pub here : OwesHere job machine m t j state state.made.items

pub has_made : {steps : ℕ} (job : Job) (machine : Machine) (m : Moment) (t j : ℕ) (state : TaskState)
    → IsNextIn steps job machine t (turns.signals j) → IsMachineAt job m machine
    → slice_get machine.tasks.items t ≡ Some state → state.made.items ≢ []
    → HasMade job machine m t j state
has_made job machine m t j state next at found some =
    let owes = owes_here job machine m t j 0 state state.made.items next at found
    (all state.made.items some) in
    record {
      filters = kind (task_at job.graph t).kind refl;
      first = owes.0;
      here = owes.1;
    }
  where
    all : (made : List (Result ℤ TooBigValue)) → made ≢ []
        → owed_in state.owed made ≡ places.values 0 made
    all [] some = absurd (some refl)
    all (v ∷ vs) some = refl

    other : (kind : Kind) → (task_at job.graph t).kind ≡ kind → kind ≢ Fir
        → (task_at job.graph t).kind ≡ Fir
    other kind e never =
        absurd (some ((at.tasks t state found).made_none (λ fir. never (sym e ∙ fir))))

    kind : (kind : Kind) → (task_at job.graph t).kind ≡ kind → (task_at job.graph t).kind ≡ Fir
    kind Source e = other Source e (λ f. absurd (cc))
    kind Fir e = e
    kind Split e = other Split e (λ f. absurd (cc))
    kind Decimate e = other Decimate e (λ f. absurd (cc))
    kind Join e = other Join e (λ f. absurd (cc))
    kind Peer e = other Peer e (λ f. absurd (cc))
    kind Sink e = other Sink e (λ f. absurd (cc))

-- ---- a value out of range

-- how many values a task made on an output that makes them
made_puts : (task : Task) (b j : ℕ) → are_made task.kind j ≡ true → puts_on task b j ≡ b
made_puts task b j e = by task.kind j refl e
  where
    by : (kind : Kind) (j : ℕ) → task.kind ≡ kind → are_made kind j ≡ true → puts_on task b j ≡ b
    by Source j k e = absurd (cc)
    by Fir j k e = rw k refl
    by Split j k e = absurd (cc)
    by Decimate j k e = absurd (cc)
    by Join j k e = absurd (cc)
    by Peer zero k e = absurd (cc)
    by Peer (suc j) k e = rw k refl
    by Sink j k e = absurd (cc)

-- the turn of a task that made a value out of range at this place of those that it owes
pub record MadeOver (steps : ℕ) (job : Job) (machine : Machine) (m : Moment) (t j at : ℕ) (state : TaskState)
    (vs : List (Result ℤ TooBigValue)) : Type 0 where
  pub answer : turn_in steps job machine m t
      ≡ answers.has_made (place.Task t, length (m.put t j) + at)
  pub begun : state.begun ≡ length (m.put t j) + length vs
  pub few : at < length vs

pub made_over : {steps : ℕ} (job : Job) (machine : Machine) (m : Moment) (t j at : ℕ) (state : TaskState)
    (vs : List (Result ℤ TooBigValue)) → IsNextIn steps job machine t (turns.signals j)
    → IsMachineAt job m machine → slice_get machine.tasks.items t ≡ Some state
    → OwesHere job machine m t j state vs → position_from is_value_out 0 vs ≡ Some at
    → MadeOver steps job machine m t j at state vs
made_over {steps} job machine m t j at state vs next stands found owes over =
    by (are_made (task_at job.graph t).kind j) refl
  where
    zs : List ℤ
    zs = values_up_to (most_in machine t) job m t j

    place_of_first : OverAt (values_up_to (most_in machine t) job m t j) 0 (length (m.put t j)) at
    place_of_first = first_over (values_up_to (most_in machine t) job m t j) vs 0 (length (m.put t j)) at owes.next over

    event : TaskEvent
    event =
        signal t j (output_at job t j) (number_on m t (output_at job t j)) (values_up_to (most_in machine t) job m t j)

    out : turn_in steps job machine m t
        ≡ cond (are_made (task_at job.graph t).kind j)
        (answers.has_made (place.Task t, length (m.put t j) + at)) is_refused
    out =
        let first = place_of_first in
        let same : first.at ≡ at = (let is = first.is in omega arith) in
        ap (answer_up_to steps (most_in machine t) job m t) (next.is m stands)
        ∙ stops job m t j (length (m.put t j) + at) (values_up_to (most_in machine t) job m t j)
        (signal t j (output_at job t j) (number_on m t (output_at job t j)) (values_up_to (most_in machine t) job m t j))
        (first.found ∙ ap (λ n. Some (length (m.put t j) + n)) same)

    by : (b : Bool) → are_made (task_at job.graph t).kind j ≡ b → MadeOver steps job machine m t j at state vs
    by true made =
        let it = (stands.tasks t state found).stands in
        let few = signal_few job machine m t j next stands in
        let there = (signals_at job machine m t j state next stands found).there in
        let lacks : length (made_now job m t j)
        ≡ length (m.put t j) + lacking (task_at job.graph t).kind (places.values j vs) j =
        it.lacks j few
        ∙ ap (λ o. length (m.put t j) + lacking (task_at job.graph t).kind o j) owes.owes in
        let here : lacking (task_at job.graph t).kind (places.values j vs) j ≡ length vs =
        lacks_here (task_at job.graph t).kind j vs in
        let many = made_many job m t j stands.graph (stands.reached.ran.tasks t there) there few in
        let all = made_puts (task_at job.graph t) (m.begun t) j made in
        let begun = it.begun in
        let first = place_of_first in
        let is = first.is in
        let within : first.at < length (values_up_to (most_in machine t) job m t j) = first.few in
        let long : length (map ranged (values_up_to (most_in machine t) job m t j)) ≡ length (values_up_to (most_in machine t) job m t j) =
        length-map (values_up_to (most_in machine t) job m t j) ranged in
        let all_vs : length (map ranged (values_up_to (most_in machine t) job m t j)) ≡ length vs = ap length owes.next in
        record {
          answer = out ∙ ap (λ b. cond b (answers.has_made
              (place.Task t, length (m.put t j) + at)) is_refused) made;
          begun = omega arith;
          few = omega arith;
        }
    by false made =
        absurd (next.answered m stands (out ∙ ap (λ b. cond b (answers.has_made
        (place.Task t, length (m.put t j) + at)) is_refused) made))

-- it tells the step of that value
pub over_turn : {steps : ℕ} (job : Job) (old : Machine) (t j at step : ℕ) (state : TaskState)
    (vs : List (Result ℤ TooBigValue)) → IsNextIn steps job old t (turns.signals j)
    → ((m : Moment) → IsMachineAt job m old → MadeOver steps job old m t j at state vs)
    → step + length vs ≡ state.begun + at → HadTurn steps job old old t (OutOfRange step)
over_turn job old t j at step state vs next over count = record {
  shows = λ m stands.
      let it = over m stands in
      let begun = it.begun in
      let same : length (m.put t j) + at ≡ step = omega arith in
      subst (λ a. MadeShows job m t a (OutOfRange step)) (sym it.answer)
      (ap (λ n. (place.Task t, n)) same);
  after = λ m stands good.
      subst (λ a. IsMachineAt job (after_answer job a m) old) (sym (over m stands).answer) stands;
  lines = λ given m stands good kept.
      subst (λ a. KeepsLines job given (after_answer job a m) old.lines.items)
      (sym (over m stands).answer) kept;
  own = λ room all. all;
  mosts = λ u. refl;
}

-- ---- as the code has them

-- whether a task has made values
pub none_items : (made : Values) → eqb made.len 0 ≡ true → made.items ≡ []
none_items made e =
    let many : made.len ≡ length made.items = made.ok.0 in
    let zero_is : made.len ≡ 0 = eqb-true made.len 0 e in
    none made.items (omega arith)
  where
    none : (xs : List (Result ℤ TooBigValue)) → length xs ≡ 0 → xs ≡ []
    none [] e = refl
    none (x ∷ xs) e = absurd (omega arith)

pub some_items : (made : Values) → eqb made.len 0 ≡ false → made.items ≢ []
some_items made e is =
    let many : made.len ≡ length made.items = made.ok.0 in
    let zero_is : made.len ≡ 0 = many ∙ ap length is in
    (let wrong : true ≡ false = sym (eq-eqb made.len 0 zero_is) ∙ e in cc)

-- the values that a filter has made fit in the places of a turn
pub made_few : (job : Job) (machine : Machine) (m : Moment) (t j : ℕ) (state : TaskState)
    → IsMachineAt job m machine → slice_get machine.tasks.items t ≡ Some state
    → HasMade job machine m t j state → length state.made.items ≤ most_steps job t
made_few job machine m t j state at found made =
    let vs = values_up_to (most_in machine t) job m t j in
    let long : length (map ranged vs) ≡ length vs = length-map vs ranged in
    let few : length vs ≤ most_in machine t = values_few (most_in machine t) job m t j in
    let same : most_in machine t ≡ state.most = most_is machine t state found in
    let most : state.most ≤ most_steps job t = (at.tasks t state found).most.few in
    let is : length (map ranged vs) ≡ length state.made.items = ap length made.here.next in
    omega arith

-- and were begun
pub made_begun : {steps : ℕ} (job : Job) (machine : Machine) (m : Moment) (t j : ℕ) (state : TaskState)
    → IsNextIn steps job machine t (turns.signals j) → IsMachineAt job m machine
    → slice_get machine.tasks.items t ≡ Some state → HasMade job machine m t j state
    → state.begun ≡ length (m.put t j) + length state.made.items
made_begun job machine m t j state next at found made =
    let it = (at.tasks t state found).stands in
    let few = signal_few job machine m t j next at in
    let there = (signals_at job machine m t j state next at found).there in
    let lacks : length (made_now job m t j)
    ≡ length (m.put t j)
    + lacking (task_at job.graph t).kind (places.values j state.made.items) j =
    it.lacks j few
    ∙ ap (λ o. length (m.put t j) + lacking (task_at job.graph t).kind o j) made.here.owes in
    let here : lacking (task_at job.graph t).kind (places.values j state.made.items) j
    ≡ length state.made.items = lacks_here (task_at job.graph t).kind j state.made.items in
    let many = made_many job m t j at.graph (at.reached.ran.tasks t there) there few in
    let all : puts_on (task_at job.graph t) (m.begun t) j ≡ m.begun t =
    made_puts (task_at job.graph t) (m.begun t) j (ap (λ k. are_made k j) made.filters) in
    omega (arith, it.begun)
