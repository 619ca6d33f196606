-- The turn of a filter that signals the first of what it has made, and what is ahead of a task that
-- signals.
use Rattle.std.proofs.Common.{◌≡◌, ◌≢◌, ℕ, ℤ, List, zero, suc, ◌+◌, ◌-◌, ◌<◌, ◌≤◌, Bool, true, false, cond, eqb, [], ◌∷◌, Some, None, length, get_or, slice_get, set, map, take, drop, take-take, refl, sym, ap, subst, ◌∙◌, arith, length-append, min, ⊎_elim}
use Rattle.std.specs.Prelude.{Result, Ok, Err}
use Rattle.std.specs.List.{position_from, drop-map}
use Rattle.std.proofs.lemmas.Bool.{cases_lt, eq-eqb, or_right}
use Rattle.std.proofs.lemmas.List.{drop-drop, length-drop, length-map, length-take-le, take-map}
use Rattle.std.proofs.lemmas.Option.{same_Some}
use Rattle.phase_accum.specs.Sends.{AreSends}
use Rattle.phase_history.specs.declared.event.Event.TheVariants.{Signalled}
use Rattle.phase_history.specs.declared.refusal.SignalRefusal.{SignalRefusal}
use Rattle.stream_filters.specs.Range.{ranged}
use Rattle.stream_filters.specs.declared.fault.TooBigValue.{TooBigValue}
use Rattle.graph_base.specs.declared.line.Kind.{Kind}
use Rattle.graph_base.specs.declared.line.Kind.TheVariants.{Fir}
use Rattle.graph_base.specs.declared.place.Place.TheVariants as place
use Rattle.graph_base.specs.Graphs.{phaser_at, task_at}
use Rattle.graph_base.specs.Registrations.{signalled_by}
use Rattle.graph_base.specs.TaskLines.{IsGraph}
use Rattle.stream_lists.specs.Jobs.{Job}
use Rattle.stream_lists.specs.Ranges.{are_made, is_out_of_range}
use Rattle.graph_runs.specs.Answers as answers
use Rattle.graph_runs.specs.Answers.{after_answer, answer_up_to, is_blocked, makes, output_at, signal_answer, signal_turn, turn_up_to, values_up_to, was_blocked, word_of_answer}
use Rattle.graph_runs.specs.Moments.{one, Moment, HasRun, limits_at, made_now}
use Rattle.graph_runs.specs.NextBlocks.{MaySize}
use Rattle.graph_runs.specs.Nexts as turns
use Rattle.graph_runs.specs.Nexts.{next_of, number_on}
use Rattle.graph_runs.specs.TaskEvents.{TaskEvent, after_turn, signal}
use Rattle.graph_runs.specs.TaskPlaces.{Owed, OwesUpTo, StandsUpTo, TaskPlace, lacking, nothing, registration_of_output, values}
use Rattle.graph_runs.specs.Turned.{with_at}
use Rattle.graph_runs.specs.declared.owed.Owed.{Owed as CodeOwed}
use Rattle.graph_runs.specs.declared.owed.Owed.TheVariants as code
use Rattle.graph_runs.proofs.Following.{Lacks, keeps_moved, puts_all, stays_at}
use Rattle.graph_runs.proofs.InBlocks.{next_signals_are}
use Rattle.graph_runs.proofs.Lacking.{first_is, first_none, lacks_here}
use Rattle.graph_runs.proofs.OwnEvents.{made_still}
use Rattle.graph_runs.proofs.Signalling.{values_few}
use Rattle.graph_runs.proofs.SizedTurns.{turn_reached}
use Rattle.stream_job.specs.Blocking.{called_on}
use Rattle.stream_job.specs.InRange.{HasGone, IsGoodPart, TellsNoFault, are_blocked, blocks_before, is_blocked_before, is_held_up, stands_before, told_too_big, went_by}
use Rattle.stream_job.specs.Machines.{HasCores, IsMachine, IsMachineAt, KeepsLines, most_in}
use Rattle.stream_job.specs.Places.{IsTaskAt, owed_in, place_in_state}
use Rattle.stream_job.specs.Stepping.{IsNextIn, MayStep, good_in, is_at_rest, is_value_out, owed_many}
use Rattle.stream_job.specs.Turning.{HadTurnBy, MadeShows, turn_in}
use Rattle.stream_job.specs.declared.machine.Machine.{Machine}
use Rattle.stream_job.specs.declared.made.Made.{Made}
use Rattle.stream_job.specs.declared.made.Made.TheVariants.{Blocked, Event, Nothing, OutOfRange}
use Rattle.stream_job.specs.declared.turned.Turned.TheVariants.{Moved}
use Rattle.stream_job.specs.declared.task_state.TaskState.{TaskState}
use Rattle.stream_job.proofs.Events.{after_own, unchanged}
use Rattle.stream_job.proofs.GoodSizes.{fewer_owed}
use Rattle.stream_job.proofs.LinesAfter.{quiet_lines, same_lines, same_rooms}
use Rattle.stream_job.proofs.Makes.{MakesEvent, makes_event}
use Rattle.stream_job.proofs.Mosts.{mosts_same, mosts_set, stands_in}
use Rattle.stream_job.proofs.Numbering.{few_after}
use Rattle.stream_job.proofs.SentValues.{OverAt, all_in_range, first_over, none_over, sends_all}
use Rattle.stream_job.proofs.SignalCalls.{SignalledCores, blocks, err_is, goes_on, ok_is, refusal_of, renumbered, reply_of, stops}
use Rattle.stream_job.proofs.Signals.{HasMade, OwesHere, Values, has_made, made_begun, made_over, owes_values, signals_at}
use Rattle.stream_job.proofs.Stalling.{never_refused, rest_few, take_all}
use Rattle.stream_job.proofs.WentTurns.{blocked_is, had_moved, never_gone, never_out, turn_none}

-- ---- what is left of a list

-- the part of these ranges that is signalled: all of them are in range, and they are some
pub record GoodPart (items : List (Result ℤ TooBigValue)) (vs : List ℤ) : Type 0 where
  pub are : map (λ x. Ok x) vs ≡ take (length vs) items
  pub some : 1 ≤ length vs
  pub few : length vs ≤ length items

-- what a filter owes that has these left
abbrev pub owed_left : List (Result ℤ TooBigValue) → Owed
owed_left [] = nothing
owed_left (v ∷ vs) = values 0 (v ∷ vs)

lacking_left : (kind : Kind) (rest : List (Result ℤ TooBigValue))
    → lacking kind (owed_left rest) 0 ≡ length rest
lacking_left kind [] = refl
lacking_left kind (v ∷ vs) = lacks_here kind 0 (v ∷ vs)

-- a filter has one output
filter_ends : (job : Job) (t : ℕ) → IsGraph job.graph → t < length job.graph.tasks
    → (task_at job.graph t).kind ≡ Fir → length (signalled_by (task_at job.graph t)) ≡ 1
filter_ends job t is there e =
    let both : (length (task_at job.graph t).inputs ≡ 1)
    × (length (task_at job.graph t).outputs ≡ 1) = rw e at (is.tasks t there).ends in
    let same : signalled_by (task_at job.graph t) ≡ (task_at job.graph t).outputs = rw e refl in
    ap length same ∙ both.1

-- what is owed by what an output lacks
left_owes : (most : ℕ) (job : Job) (after : Moment) (t : ℕ) (rest : List (Result ℤ TooBigValue))
    → (task_at job.graph t).kind ≡ Fir → length (signalled_by (task_at job.graph t)) ≡ 1
    → Lacks job after t (owed_left rest)
    → map ranged (take most (drop (length (after.put t 0)) (made_now job after t 0))) ≡ rest
    → OwesUpTo most job after t (owed_left rest)
left_owes most job after t [] filters one lacks list = first_none job after t lacks
left_owes most job after t (v ∷ vs) filters one lacks list =
    let here = lacks_here (task_at job.graph t).kind 0 (v ∷ vs) in (
      first_is job after t 0 (values 0 (v ∷ vs)) lacks (omega arith) (omega arith)
          (λ i lt. absurd (omega arith)),
      rw filters refl,
      list,
    )

-- the place of a filter that has signalled a part of what it owes: it owes what is left
part_stands : {steps n : ℕ} (most : ℕ) (job : Job) (m : Moment) (t p number : ℕ) (vs : List ℤ)
    (items : List (Result ℤ TooBigValue)) (at : TaskPlace) → IsGraph job.graph → HasRun job m
    → (task_at job.graph t).kind ≡ Fir → next_of job m t ≡ turns.signals 0
    → MakesEvent steps n job m t (signal t 0 p number vs)
    → StandsUpTo most job m t at → at.owed ≡ values 0 items → GoodPart items vs
    → StandsUpTo most job (after_turn job (signal t 0 p number vs) m) t
    (record at { owed = owed_left (drop (length vs) items) })
part_stands most job m t p number vs items at is ran filters next made stands owes part =
    let after = after_turn job (signal t 0 p number vs) m in
    let task = task_at job.graph t in
    let s = next_signals_are job m t 0 p number vs made.next.1 (ran.tasks t made.live.there) in
    let puts = puts_all job m after t 0 p number vs s in
    let begun : after.begun t ≡ m.begun t =
    (let here : eqb t t ≡ true = eq-eqb t t refl in rw here refl) in
    let same : made_now job after t 0 ≡ made_now job m t 0 =
    made_still job m after t 0 puts.taken begun in
    let single = filter_ends job t is made.live.there filters in
    let rest = drop (length vs) items in
    let first : 0 < length (signalled_by task) = omega arith in
    let was : length (made_now job m t 0) ≡ length (m.put t 0) + lacking task.kind (values 0 items) 0 =
    stands.lacks 0 first ∙ ap (λ o. length (m.put t 0) + lacking task.kind o 0) owes in
    let here = lacks_here task.kind 0 items in
    let left = lacking_left task.kind rest in
    let put : length (after.put t 0) ≡ length (m.put t 0) + length vs =
    ap length puts.put ∙ length-append (m.put t 0) vs in
    let many : length (made_now job after t 0) ≡ length (made_now job m t 0) = ap length same in
    let long : length rest ≡ length items - length vs = length-drop (length vs) items in
    let few = part.few in
    let lacks : Lacks job after t (owed_left rest) = λ j lt.
    (let zero_is : 0 ≡ j = omega arith in
    subst (λ j. length (made_now job after t j)
    ≡ length (after.put t j) + lacking task.kind (owed_left rest) j) zero_is (omega arith)) in
    let d = drop (length (m.put t 0)) (made_now job m t 0) in
    let small = rest_few most job m t 0 at stands next in
    let o = subst (OwesUpTo most job m t) owes stands.owes in
    let items_are : items ≡ map ranged d =
    sym o.2 ∙ ap (map ranged) (take_all most d small) in
    let smaller : length (drop (length vs) d) ≡ length d - length vs = length-drop (length vs) d in
    let list : map ranged (take most (drop (length (after.put t 0)) (made_now job after t 0)))
    ≡ rest =
    ap (λ l. map ranged (take most (drop (length (after.put t 0)) l))) same
    ∙ ap (λ k. map ranged (take most (drop k (made_now job m t 0)))) put
    ∙ ap (λ l. map ranged (take most l))
    (sym (drop-drop (length vs) (length (m.put t 0)) (made_now job m t 0)))
    ∙ ap (map ranged) (take_all most (drop (length vs) d) (omega arith))
    ∙ sym (drop-map ranged (length vs) d) ∙ ap (drop (length vs)) (sym items_are) in
    stays_at job m after t at.begun (owed_left rest) at stands
    (keeps_moved job m after t p
    (Signalled number (map one vs) (phaser_at job.graph p).single) t s.moved (λ b at. refl))
    (begun ∙ stands.begun) (left_owes most job after t rest filters single lacks list) lacks

-- ---- the turn

-- the values that are next of as many as are signalled
pub part_next : (job : Job) (machine : Machine) (m : Moment) (t : ℕ) (state : TaskState)
    (vs : List ℤ) → HasMade job machine m t 0 state → GoodPart state.made.items vs
    → map ranged (values_up_to (length vs) job m t 0) ≡ map (λ x. Ok x) vs
part_next job machine m t state vs made part =
    let d = drop (length (m.put t 0)) (made_now job m t 0) in
    let most = most_in machine t in
    let all : map ranged (take most d) ≡ state.made.items = made.here.next in
    let long : length (map ranged (take most d)) ≡ length (take most d) =
    length-map (take most d) ranged in
    let within : length (take most d) ≤ most = values_few most job m t 0 in
    let few = part.few in
    let same = ap length all in
    sym (take-map ranged (length vs) d)
    ∙ take-map ranged (length vs) d
    ∙ ap (map ranged) (sym (take-take (length vs) most d (omega arith)))
    ∙ sym (take-map ranged (length vs) (take most d))
    ∙ ap (take (length vs)) all ∙ sym part.are

-- no more of them than one event signals
pub part_few : (job : Job) (machine : Machine) (m : Moment) (t : ℕ) (state : TaskState)
    (vs : List ℤ) → HasMade job machine m t 0 state → GoodPart state.made.items vs
    → length vs ≤ most_in machine t
part_few job machine m t state vs made part =
    let most = most_in machine t in
    let d = drop (length (m.put t 0)) (made_now job m t 0) in
    let long : length (map ranged (take most d)) ≡ length (take most d) =
    length-map (take most d) ranged in
    let within : length (take most d) ≤ most = values_few most job m t 0 in
    let same = ap length made.here.next in
    let few = part.few in omega arith

-- what the turn answers: the phaser's word
pub part_answers : {steps : ℕ} (job : Job) (machine : Machine) (m : Moment) (t number p : ℕ)
    (vs : List ℤ) (state : TaskState) → IsNextIn steps job machine t (turns.signals 0)
    → IsMachineAt job m machine → slice_get machine.tasks.items t ≡ Some state
    → p ≡ output_at job t 0
    → number ≡ get_or state.numbers.items (registration_of_output (task_at job.graph t) 0) 0
    → HasMade job machine m t 0 state → GoodPart state.made.items vs
    → turn_up_to 1 (length vs) job m t
    ≡ signal_answer (signal t 0 p number vs) (refusal_of job m p number vs)
part_answers job machine m t number p vs state next at found phaser numbered made part =
    let n = length vs in
    let s = signals_at job machine m t 0 state next at found in
    let ranges = all_in_range (values_up_to n job m t 0) vs
    (part_next job machine m t state vs made part) in
    let q = output_at job t 0 in
    ap (answer_up_to 1 n job m t) (next.is m at)
    ∙ ap (λ l. signal_turn job m t 0 l (signal t 0 q (number_on m t q) l)) ranges.same
    ∙ goes_on job m t 0 vs (signal t 0 q (number_on m t q) vs) (ranges.none (length (m.put t 0)))
    ∙ renumbered job m t 0 number p vs (λ r n. signal t 0 r n vs) phaser (s.number ∙ sym numbered)

-- the values can be sent
pub part_sends : (job : Job) (machine : Machine) (m : Moment) (t : ℕ) (state : TaskState)
    (vs : List ℤ) → HasMade job machine m t 0 state → GoodPart state.made.items vs → AreSends vs
part_sends job machine m t state vs made part =
    sends_all 0 vs ((all_in_range (values_up_to (length vs) job m t 0) vs
    (part_next job machine m t state vs made part)).none 0)

-- the state of a filter that has these left
abbrev pub with_made : TaskState → Values → TaskState
with_made state made = record state { made = made }

-- it is what its state owes
owed_left_is : (rest : List (Result ℤ TooBigValue)) → owed_left rest ≡ owed_in code.Nothing rest
owed_left_is [] = refl
owed_left_is (v ∷ vs) = refl

-- no more than there are
take_least : {X : Type 0} (n : ℕ) (xs : List X) → take n xs ≡ take (min (length xs) n) xs
take_least n xs =
    ⊎_elim
    (λ (past : length xs < n). take_all n xs (omega arith)
    ∙ sym (take_all (min (length xs) n) xs (omega arith)))
    (λ (within : n ≤ length xs). let is : n ≡ min (length xs) n = omega arith in
    ap (λ k. take k xs) is) (cases_lt (length xs) n)

-- as many of what the filter owes as this size has are these
pub part_same : {steps : ℕ} (job : Job) (machine : Machine) (m : Moment) (t most : ℕ)
    (state : TaskState) (vs : List ℤ) → IsNextIn steps job machine t (turns.signals 0)
    → IsMachineAt job m machine → slice_get machine.tasks.items t ≡ Some state
    → HasMade job machine m t 0 state → length vs ≡ min (length state.made.items) most
    → turn_up_to 1 most job m t ≡ turn_up_to 1 (length vs) job m t
part_same job machine m t most state vs next at found made many =
    let d = drop (length (m.put t 0)) (made_now job m t 0) in
    let small = rest_few (most_in machine t) job m t 0 (place_in_state state)
    (stands_in job machine m t state at found) (next.is m at) in
    let all : map ranged d ≡ state.made.items =
    ap (map ranged) (sym (take_all (most_in machine t) d small)) ∙ made.here.next in
    let long : length d ≡ length state.made.items = sym (length-map d ranged) ∙ ap length all in
    let same : take most d ≡ take (length vs) d =
    ⊎_elim
    (λ (past : length d < most). take_all most d (omega arith)
    ∙ sym (take_all (length vs) d (omega arith)))
    (λ (within : most ≤ length d). let is : most ≡ length vs = omega arith in
    ap (λ n. take n d) is) (cases_lt (length d) most) in
    let q = output_at job t 0 in
    ap (answer_up_to 1 most job m t) (next.is m at)
    ∙ ap (λ l. signal_turn job m t 0 l (signal t 0 q (number_on m t q) l)) same
    ∙ sym (ap (answer_up_to 1 (length vs) job m t) (next.is m at))

-- its sizes
part_sized : {steps : ℕ} (job : Job) (old : Machine) (t : ℕ) (vs : List ℤ) (state : TaskState)
    → IsNextIn steps job old t (turns.signals 0)
    → ((m : Moment) → IsMachineAt job m old → HasMade job old m t 0 state)
    → GoodPart state.made.items vs → MaySize job.graph t 1 (length vs)
part_sized job old t vs state next made part =
    fewer_owed job old t (length vs) part.some
    (part_few job old next.some.0 t state vs (made next.some.0 next.some.1) part) next.sized

-- the turn whose signal is accepted
pub part_turn : {steps : ℕ} (job : Job) (old new : Machine) (t number p phase : ℕ) (vs : List ℤ)
    (state : TaskState) (left : Values) → IsNextIn steps job old t (turns.signals 0)
    → slice_get old.tasks.items t ≡ Some state → p ≡ output_at job t 0
    → number ≡ get_or state.numbers.items (registration_of_output (task_at job.graph t) 0) 0
    → ((m : Moment) → IsMachineAt job m old → HasMade job old m t 0 state)
    → GoodPart state.made.items vs
    → ((m : Moment) → IsMachineAt job m old → reply_of job m p number vs ≡ Ok phase)
    → SignalledCores job old new number p vs
    → new.tasks.items ≡ set old.tasks.items t (with_made state left) → new.lines ≡ old.lines
    → left.items ≡ drop (length vs) state.made.items → left.cap ≡ state.made.cap
    → HadTurnBy 1 (length vs) job old new t (Event p Moved)
part_turn {steps} job old new t number p phase vs state left next found phaser numbered made part reply cores tasks lines items cap =
    record {
      shows = λ m at. subst (λ a. MadeShows job m t a (Event p Moved)) (sym (answer m at))
          (refl, refl);
      after = λ m at none.
          after_own job m old new t (signal t 0 p number vs) (with_made state left) sized at
          (answer m at) refl (there m at)
          (turn_reached 1 (length vs) job m t sized at.graph at.reached)
          (few_after job m t sized at.graph at.reached at.few) (cores m at) tasks
          (stands m at) (ap (λ l. length l.items) lines);
      lines = λ given m at none.
          quiet_lines job given m old new t (signal t 0 p number vs) sized at (answer m at) refl tt
          lines;
      own = same_rooms old new lines;
      mosts = mosts_set old new t state (with_made state left) found tasks refl;
    }
  where
    sized : MaySize job.graph t 1 (length vs)
    sized = part_sized job old t vs state next made part

    answer : (m : Moment) → IsMachineAt job m old
        → turn_up_to 1 (length vs) job m t ≡ makes (signal t 0 p number vs)
    answer m at =
        part_answers job old m t number p vs state next at found phaser numbered (made m at) part
        ∙ ap (signal_answer (signal t 0 p number vs)) (ok_is (limits_at job p) (m.history p) number
        (map one vs) (phaser_at job.graph p).single phase (reply m at))

    there : (m : Moment) → IsMachineAt job m old → t < length job.graph.tasks
    there m at = (signals_at job old m t 0 state next at found).there

    stands : (m : Moment) → IsMachineAt job m old
        → IsTaskAt job (after_turn job (signal t 0 p number vs) m) t (with_made state left)
    stands m at =
        let it = at.tasks t state found in
        let filters = (made m at).filters in
        let event = makes_event job m t (signal t 0 p number vs) sized at.graph at.reached
        (answer m at) in
        record {
          stands =
              subst (λ o. StandsUpTo state.most job (after_turn job (signal t 0 p number vs) m) t
              (record (place_in_state state) { owed = o }))
              (owed_left_is (drop (length vs) state.made.items)
              ∙ ap (owed_in code.Nothing) (sym items)
              ∙ ap (λ o. owed_in o left.items) (sym (it.made_by filters)))
              (part_stands state.most job m t p number vs state.made.items (place_in_state state)
              at.graph at.reached.ran filters (next.is m at) event it.stands
              ((made m at).here.owes) part);
          room = it.room;
          filter = it.filter;
          most = it.most;
          made_room = λ kind. subst (λ n. state.most ≤ n) (sym cap) (it.made_room kind);
          made_by = it.made_by;
          made_none = λ other. absurd (other filters);
          sink = it.sink;
        }

-- the turn whose signal is refused
pub part_blocked : {steps : ℕ} (job : Job) (old new : Machine) (t number p : ℕ) (vs : List ℤ)
    (state : TaskState) (r : SignalRefusal) → IsNextIn steps job old t (turns.signals 0)
    → slice_get old.tasks.items t ≡ Some state → p ≡ output_at job t 0
    → number ≡ get_or state.numbers.items (registration_of_output (task_at job.graph t) 0) 0
    → ((m : Moment) → IsMachineAt job m old → HasMade job old m t 0 state)
    → GoodPart state.made.items vs
    → ((m : Moment) → IsMachineAt job m old → reply_of job m p number vs ≡ Err r)
    → ((m : Moment) → IsMachineAt job m old
    → HasCores job (with_at p (m.history p) m.history) new.cores.items)
    → new.tasks ≡ old.tasks → new.lines ≡ old.lines
    → HadTurnBy 1 (length vs) job old new t (Blocked p)
part_blocked {steps} job old new t number p vs state r next found phaser numbered made part reply cores tasks lines =
    record {
      shows = λ m at. subst (λ a. MadeShows job m t a (Blocked p)) (sym (blocked m at))
          (ap (called_on job t) (next.is m at) ∙ sym phaser);
      after = λ m at none.
          subst (λ a. IsMachineAt job (after_answer job a m) new) (sym (blocked m at))
          (unchanged job m old new p at (cores m at) tasks lines);
      lines = λ given m at none kept.
          subst (λ a. KeepsLines job given (after_answer job a m) new.lines.items)
          (sym (blocked m at)) (same_lines job given m old new lines kept);
      own = same_rooms old new lines;
      mosts = mosts_same old new tasks;
    }
  where
    refused : (m : Moment) → IsMachineAt job m old
        → turn_up_to 1 (length vs) job m t ≡ signal_answer (signal t 0 p number vs) (Some r)
    refused m at =
        part_answers job old m t number p vs state next at found phaser numbered (made m at) part
        ∙ ap (signal_answer (signal t 0 p number vs)) (err_is (limits_at job p) (m.history p) number
        (map one vs) (phaser_at job.graph p).single r (reply m at))

    blocked : (m : Moment) → IsMachineAt job m old → turn_up_to 1 (length vs) job m t ≡ is_blocked
    blocked m at =
        refused m at
        ∙ blocks (signal t 0 p number vs) r (λ e.
        never_refused job m t (next_of job m t) (part_sized job old t vs state next made part)
        at.graph next.sends at.reached refl (refused m at ∙ e))

-- the turn of a filter that has made a value out of range among those that it would signal
pub part_over : {steps : ℕ} (job : Job) (old : Machine) (t most at step : ℕ) (state : TaskState)
    → IsNextIn steps job old t (turns.signals 0) → slice_get old.tasks.items t ≡ Some state
    → ((m : Moment) → IsMachineAt job m old → HasMade job old m t 0 state)
    → position_from is_value_out 0 (take (min (length state.made.items) most) state.made.items)
    ≡ Some at
    → step + length state.made.items ≡ state.begun + at
    → HadTurnBy 1 most job old old t (OutOfRange step)
part_over job old t most at step state next found made over count = record {
  shows = λ m stands. subst (λ a. MadeShows job m t a (OutOfRange step)) (sym (answer m stands))
      refl;
  after = λ m stands good.
      subst (λ a. IsMachineAt job (after_answer job a m) old) (sym (answer m stands)) stands;
  lines = λ given m stands good kept.
      subst (λ a. KeepsLines job given (after_answer job a m) old.lines.items)
      (sym (answer m stands)) kept;
  own = λ room all. all;
  mosts = λ u. refl;
}
  where
    values_are : (m : Moment) → IsMachineAt job m old → map ranged (values_up_to most job m t 0)
        ≡ take (min (length state.made.items) most) state.made.items
    values_are m stands =
        let d = drop (length (m.put t 0)) (made_now job m t 0) in
        let small = rest_few (most_in old t) job m t 0 (place_in_state state)
        (stands_in job old m t state stands found) (next.is m stands) in
        let all : map ranged d ≡ state.made.items =
        ap (map ranged) (sym (take_all (most_in old t) d small)) ∙ (made m stands).here.next in
        sym (take-map ranged most d) ∙ ap (take most) all ∙ take_least most state.made.items

    answer : (m : Moment) → IsMachineAt job m old
        → turn_up_to 1 most job m t ≡ answers.has_made (place.Task t, step)
    answer m stands =
        let vs = values_up_to most job m t 0 in
        let q = output_at job t 0 in
        let first = first_over vs (take (min (length state.made.items) most) state.made.items) 0
        (length (m.put t 0)) at (values_are m stands) over in
        let is = first.is in
        let begun = made_begun job old m t 0 state next stands found (made m stands) in
        let same : length (m.put t 0) + first.at ≡ step = omega arith in
        ap (answer_up_to 1 most job m t) (next.is m stands)
        ∙ stops job m t 0 step vs (signal t 0 q (number_on m t q) vs)
        (first.found ∙ ap (λ n. Some n) same)
        ∙ ap (λ b. cond b (answers.has_made (place.Task t, step)) answers.is_refused)
        (ap (λ k. are_made k 0) (made m stands).filters)

-- ---- a value out of range that is next

first_out : (most : ℕ) (ds : List ℤ) (o : TooBigValue) (rest : List (Result ℤ TooBigValue))
    → map ranged (take most ds) ≡ Err o ∷ rest → map ranged (take 1 ds) ≡ Err o ∷ []
first_out zero ds o rest e = absurd (cc)
first_out (suc n) [] o rest e = absurd (cc)
first_out (suc n) (d ∷ ds) o rest e =
    ap (λ r. r ∷ []) (same (ranged d) (Err o) (map ranged (take n ds)) rest e)
  where
    same : (a b : Result ℤ TooBigValue) (xs ys : List (Result ℤ TooBigValue))
        → a ∷ xs ≡ b ∷ ys → a ≡ b
    same a b xs ys e = cc

-- a task that owes one out of range first stands before it
pub owes_out : {steps : ℕ} (job : Job) (machine : Machine) (m : Moment) (t j : ℕ)
    (state : TaskState) (o : TooBigValue) (rest : List (Result ℤ TooBigValue))
    → IsNextIn steps job machine t (turns.signals j) → IsMachineAt job m machine
    → OwesHere job machine m t j state (Err o ∷ rest)
    → stands_before job m t ≡ Some (place.Task t, length (m.put t j))
owes_out {steps} job machine m t j state o rest next at owes =
    by (are_made (task_at job.graph t).kind j) refl
  where
    one_is : map ranged (values_up_to 1 job m t j) ≡ Err o ∷ []
    one_is =
        first_out (most_in machine t) (drop (length (m.put t j)) (made_now job m t j)) o rest owes.next

    -- where it stands among so many
    found_in : (most : ℕ) (rs : List (Result ℤ TooBigValue))
        → map ranged (values_up_to most job m t j) ≡ Err o ∷ rs
        → position_from is_out_of_range (length (m.put t j)) (values_up_to most job m t j)
        ≡ Some (length (m.put t j))
    found_in most rs e =
        let first = first_over (values_up_to most job m t j) (Err o ∷ rs) 0 (length (m.put t j)) 0 e
        refl in
        let is = first.is in
        let here : length (m.put t j) + first.at ≡ length (m.put t j) = omega arith in
        first.found ∙ ap (λ n. Some n) here

    event_of : ℕ → TaskEvent
    event_of most =
        signal t j (output_at job t j) (number_on m t (output_at job t j)) (values_up_to most job m t j)

    answer : (steps most : ℕ) (rs : List (Result ℤ TooBigValue))
        → map ranged (values_up_to most job m t j) ≡ Err o ∷ rs
        → turn_up_to steps most job m t
        ≡ cond (are_made (task_at job.graph t).kind j)
        (answers.has_made (place.Task t, length (m.put t j))) answers.is_refused
    answer steps most rs e =
        ap (answer_up_to steps most job m t) (next.is m at)
        ∙ stops job m t j (length (m.put t j)) (values_up_to most job m t j) (event_of most)
        (found_in most rs e)

    by : (b : Bool) → are_made (task_at job.graph t).kind j ≡ b
        → stands_before job m t ≡ Some (place.Task t, length (m.put t j))
    by true made =
        ap (λ a. told_too_big (word_of_answer job m a)) (answer 1 1 [] one_is
        ∙ ap (λ b. cond b (answers.has_made (place.Task t, length (m.put t j))) answers.is_refused)
        made)
    by false made =
        absurd (next.answered m at (answer steps (most_in machine t) rest owes.next
        ∙ ap (λ b. cond b (answers.has_made (place.Task t, length (m.put t j))) answers.is_refused)
        made))

-- ranges of which the first is out
at_least : (from k : ℕ) (rs : List (Result ℤ TooBigValue))
    → position_from is_value_out from rs ≡ Some k → from ≤ k
at_least from k [] e = absurd (cc)
at_least from k (Ok v ∷ rs) e = let more = at_least (from + 1) k rs e in omega arith
at_least from k (Err o ∷ rs) e = let same = same_Some from k e in omega arith

pub record FirstOut (rs : List (Result ℤ TooBigValue)) : Type 0 where
  pub out : TooBigValue
  pub rest : List (Result ℤ TooBigValue)
  pub are : rs ≡ Err out ∷ rest

pub first_is_out : (rs : List (Result ℤ TooBigValue)) → position_from is_value_out 0 rs ≡ Some 0
    → FirstOut rs
first_is_out [] e = absurd (cc)
first_is_out (Ok v ∷ rs) e = absurd (let more = at_least 1 0 rs e in omega arith)
first_is_out (Err o ∷ rs) e = record { out = o; rest = rs; are = refl }

-- ---- what is put

pub some_made : (items : List (Result ℤ TooBigValue)) → items ≢ [] → 1 ≤ length items
some_made [] some = absurd (some refl)
some_made (v ∷ vs) some = omega arith

-- the first so many of these ranges, all of which are in range, are a good part
pub put_many : (items : List (Result ℤ TooBigValue)) (vs : List ℤ) (many : ℕ)
    → many ≤ length items → map (λ x. Ok x) vs ≡ take many items → length vs ≡ many
put_many items vs many few are =
    let long : length (map {B = Result ℤ TooBigValue} (λ x. Ok x) vs) ≡ length vs =
    length-map vs (λ x. Ok x) in
    sym long ∙ ap length are ∙ length-take-le many items few

pub put_part : (items : List (Result ℤ TooBigValue)) (vs : List ℤ) (many : ℕ)
    → many ≤ length items → 1 ≤ many → map (λ x. Ok x) vs ≡ take many items → GoodPart items vs
put_part items vs many few some are =
    let long = put_many items vs many few are in
    record {
      are = are ∙ ap (λ n. take n items) (sym long);
      some = omega arith;
      few = omega arith;
    }

-- ---- values before one that is out of range

none_before : (from from' k n : ℕ) (xs : List ℤ)
    → position_from is_out_of_range from xs ≡ Some k → k ≡ from + n
    → position_from is_out_of_range from' (take n xs) ≡ None
none_before from from' k zero xs found is = refl
none_before from from' k (suc n) [] found is = refl
none_before from from' k (suc n) (x ∷ xs) found is =
    by (is_out_of_range x) refl found
    (λ rest. none_before (from + 1) (from' + 1) k n xs rest (omega arith))
  where
    by : (b : Bool) → is_out_of_range x ≡ b
        → cond b (Some from) (position_from is_out_of_range (from + 1) xs) ≡ Some k
        → (position_from is_out_of_range (from + 1) xs ≡ Some k
        → position_from is_out_of_range (from' + 1) (take n xs) ≡ None)
        → position_from is_out_of_range from' (take (suc n) (x ∷ xs)) ≡ None
    by true out first more = absurd (let same = same_Some from k first in omega arith)
    by false out rest more =
        ap (λ b. cond b (Some from') (position_from is_out_of_range (from' + 1) (take n xs))) out
        ∙ more rest

-- a signal of these tells none that is
part_none : (job : Job) (old : Machine) (m : Moment) (t many : ℕ)
    → IsGoodPart many job old t → IsMachineAt job m old
    → TellsNoFault job m (turn_up_to 1 many job m t)
part_none job old m t many part at =
    let q = output_at job t 0 in
    let vs = values_up_to many job m t 0 in
    subst (λ n. TellsNoFault job m (answer_up_to 1 many job m t n)) (sym (part.next m at))
    (turn_none job m t 0 vs (signal t 0 q (number_on m t q) vs)
    (λ made. none_before 0 (length (m.put t 0)) many many
    (drop (length (m.put t 0)) (made_now job m t 0)) (part.good m at) (omega arith)) refl)

-- a filter whose signal of them would be blocked is held up
part_held : (job : Job) (old : Machine) (m : Moment) (t many : ℕ) → IsGoodPart many job old t
    → IsMachineAt job m old → turn_up_to 1 many job m t ≡ is_blocked → is_held_up job m t ≡ true
part_held job old m t zero part at blocked = absurd (let some = part.some in omega arith)
part_held job old m t (suc n) part at blocked =
    or_right (is_at_rest job m t) (is_blocked_before job m t)
    (ap (blocks_before job m t) (part.next m at) ∙ ap (are_blocked job m t 0) (part.good m at)
    ∙ ap was_blocked (sym (ap (answer_up_to 1 (suc n) job m t) (part.next m at)) ∙ blocked))

-- the turn of a filter that signals them
pub had_part : {steps : ℕ} (job : Job) (old new : Machine) (t many : ℕ) (it : Made)
    → IsGoodPart many job old t → IsMachine job old → MayStep job old t steps
    → HadTurnBy 1 many job old new t it → HasGone steps job old new t (went_by it)
had_part job old new t many (Event p told) part some sized had =
    had_moved job old new t p told (fewer_owed job old t many part.some part.few sized) had
    (λ m at. part_none job old m t many part at)
had_part {steps} job old new t many (Blocked p) part some sized had = record {
  held = λ line m at. part_held job old m t many part at (blocked m at);
  stands = λ m at none. subst (λ a. IsMachineAt job (after_answer job a m) new) (blocked m at)
      (had.after m at none);
  lines = λ given m at none kept.
      subst (λ a. KeepsLines job given (after_answer job a m) new.lines.items) (blocked m at)
      (had.lines given m at none kept);
  own = had.own;
}
  where
    blocked : (m : Moment) → IsMachineAt job m old → turn_up_to 1 many job m t ≡ is_blocked
    blocked m at = blocked_is job m t p (turn_up_to 1 many job m t) (had.shows m at)
had_part job old new t many (OutOfRange step) part some sized had =
    absurd (never_out job old new t step some had (λ m at. part_none job old m t many part at))
had_part job old new t many Nothing part some sized had =
    absurd (never_gone job old new t some had (λ m at. part_none job old m t many part at))

-- ---- what a task owes, looked at

-- all of it is in range
pub owed_good : {steps : ℕ} (job : Job) (machine : Machine) (t j : ℕ) (state : TaskState)
    → IsNextIn steps job machine t (turns.signals j)
    → slice_get machine.tasks.items t ≡ Some state
    → good_in (owed_in state.owed state.made.items) ≡ None
    → (m : Moment) → IsMachineAt job m machine → TellsNoFault job m (turn_in steps job machine m t)
owed_good {steps} job machine t j state next found none m at =
    let most = most_in machine t in
    let o = owes_values most job m t j (owed_in state.owed state.made.items)
    (stands_in job machine m t state at found).owes (next.is m at) in
    let vs = values_up_to most job m t j in
    let q = output_at job t j in
    subst (λ n. TellsNoFault job m (answer_up_to steps most job m t n)) (sym (next.is m at))
    (turn_none job m t j vs (signal t j q (number_on m t q) vs)
    (λ made. none_over vs o.0 0 (length (m.put t j)) o.2 (sym (ap good_in o.1) ∙ none)) refl)

-- the first is out of range
pub owed_before : {steps : ℕ} (job : Job) (machine : Machine) (t j phase : ℕ) (state : TaskState)
    → IsNextIn steps job machine t (turns.signals j)
    → slice_get machine.tasks.items t ≡ Some state
    → good_in (owed_in state.owed state.made.items) ≡ Some 0
    → phase + owed_many (owed_in state.owed state.made.items) ≡ state.begun
    → (m : Moment) → IsMachineAt job m machine
    → stands_before job m t ≡ Some (place.Task t, phase)
owed_before job machine t j phase state next found out many m at =
    let o = owes_values (most_in machine t) job m t j (owed_in state.owed state.made.items)
    (stands_in job machine m t state at found).owes (next.is m at) in
    let over = sym (ap good_in o.1) ∙ out in
    let first = first_is_out o.0 over in
    let here : OwesHere job machine m t j state o.0 = record { owes = o.1; next = o.2 } in
    let begun = (made_over job machine m t j 0 state o.0 next at found here over).begun in
    let long : owed_many (owed_in state.owed state.made.items) ≡ length o.0 = ap owed_many o.1 in
    let same : length (m.put t j) ≡ phase = omega arith in
    owes_out job machine m t j state first.out first.rest next at
    (subst (OwesHere job machine m t j state) first.are here)
    ∙ ap (λ n. Some (place.Task t, n)) same

-- as many are owed at least
pub owed_begun : {steps : ℕ} (job : Job) (machine : Machine) (t j : ℕ) (state : TaskState)
    → IsNextIn steps job machine t (turns.signals j)
    → slice_get machine.tasks.items t ≡ Some state
    → good_in (owed_in state.owed state.made.items) ≡ Some 0
    → owed_many (owed_in state.owed state.made.items) ≤ state.begun
owed_begun job machine t j state next found out =
    let m = next.some.0 in
    let at = next.some.1 in
    let o = owes_values (most_in machine t) job m t j (owed_in state.owed state.made.items)
    (stands_in job machine m t state at found).owes (next.is m at) in
    let over = sym (ap good_in o.1) ∙ out in
    let begun = (made_over job machine m t j 0 state o.0 next at found
    (record { owes = o.1; next = o.2 }) over).begun in
    let long : owed_many (owed_in state.owed state.made.items) ≡ length o.0 = ap owed_many o.1 in
    omega arith

-- some come before the first that is: then the task has made them
made_some : (owed : CodeOwed) (made : List (Result ℤ TooBigValue)) (n : ℕ)
    → good_in (owed_in owed made) ≡ Some (suc n) → made ≢ []
made_some owed (v ∷ vs) n some = λ e. absurd (cc)
made_some code.Nothing [] n some = absurd (cc)
made_some (code.Exchange x) [] n some = absurd (cc)
made_some (code.Value i (Ok v)) [] n some = absurd (cc)
made_some (code.Value i (Err out)) [] n some =
    absurd (let wrong = same_Some 0 (suc n) some in omega arith)

part_owed : {steps : ℕ} (job : Job) (machine : Machine) (t j n : ℕ) (state : TaskState)
    → IsNextIn steps job machine t (turns.signals j)
    → slice_get machine.tasks.items t ≡ Some state
    → good_in (owed_in state.owed state.made.items) ≡ Some (suc n)
    → IsGoodPart (suc n) job machine t
part_owed {steps} job machine t j n state next found good = record {
  some = omega arith;
  few = (let m = next.some.0 in let at = next.some.1 in
      let over = over m at in
      let is = over.is in
      let few : over.at < length (rest_of m) = over.few in
      let small = rest_few (most_in machine t) job m t 0 (place_in_state state)
      (stands_in job machine m t state at found) (is_zero m at) in
      omega arith);
  owes = λ other there none. some (ap (λ s. s.made.items)
      (same_Some state other (sym found ∙ there)) ∙ none);
  next = is_zero;
  good = λ m at. (let over = over m at in let is = over.is in
      let same : 0 + over.at ≡ suc n = omega arith in
      over.found ∙ ap (λ k. Some k) same);
}
  where
    some : state.made.items ≢ []
    some = made_some state.owed state.made.items n good

    made : (m : Moment) → IsMachineAt job m machine → HasMade job machine m t j state
    made m at = has_made job machine m t j state next at found some

    is_zero : (m : Moment) → IsMachineAt job m machine → next_of job m t ≡ turns.signals 0
    is_zero m at = next.is m at ∙ ap turns.signals (sym (made m at).first)

    rest_of : Moment → List ℤ
    rest_of m = drop (length (m.put t 0)) (made_now job m t 0)

    over : (m : Moment) → IsMachineAt job m machine → OverAt (rest_of m) 0 0 (suc n)
    over m at =
        let o = owes_values (most_in machine t) job m t 0 (owed_in state.owed state.made.items)
        (stands_in job machine m t state at found).owes (is_zero m at) in
        let small = rest_few (most_in machine t) job m t 0 (place_in_state state)
        (stands_in job machine m t state at found) (is_zero m at) in
        first_over (rest_of m) o.0 0 0 (suc n)
        (ap (map ranged) (sym (take_all (most_in machine t) (rest_of m) small)) ∙ o.2)
        (sym (ap good_in o.1) ∙ good)

pub owed_part : {steps : ℕ} (job : Job) (machine : Machine) (t j many : ℕ) (state : TaskState)
    → IsNextIn steps job machine t (turns.signals j)
    → slice_get machine.tasks.items t ≡ Some state
    → good_in (owed_in state.owed state.made.items) ≡ Some many → 0 < many
    → IsGoodPart many job machine t
owed_part job machine t j zero state next found good some = absurd (omega arith)
owed_part job machine t j (suc n) state next found good some =
    part_owed job machine t j n state next found good
