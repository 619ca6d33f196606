-- One step of a splitter, a decimator or a joiner at a moment, apart from the cores of the phasers.
use Rattle.std.proofs.Common.{◌≡◌, ◌≢◌, ℕ, ℤ, List, ◌+◌, ◌<◌, ◌≤◌, ◌&&◌, Bool, true, false, not, cond, [], ◌∷◌, Some, None, length, get_or, slice_get, set, map, take, refl, sym, ap, subst, ◌∙◌, arith}
use Rattle.std.specs.Prelude.{Ok, nat_lt, slice_range, unwrap_or}
use Rattle.std.specs.List.{position_from}
use Rattle.std.proofs.lemmas.Bool.{lt-leb}
use Rattle.std.proofs.lemmas.List.{length-set}
use Rattle.std.proofs.lemmas.Option.{slice_get_read}
use Rattle.phase_accum.specs.Sends.{AreSends}
use Rattle.phase_base.specs.declared.limits.TheConstants.{PHASES_MAX}
use Rattle.phase_accum.specs.declared.outcome.Outcome.{Outcome}
use Rattle.phase_history.specs.Histories.{done_of, founder, wait_phase}
use Rattle.phase_history.specs.declared.event.Event.TheVariants.{Signalled, Waited}
use Rattle.phase_history.specs.Phases.{stream_of}
use Rattle.graph_base.specs.declared.line.Kind.{Kind}
use Rattle.graph_base.specs.declared.line.Kind.TheVariants.{Source, Fir, Split, Decimate, Join, Peer, Sink}
use Rattle.graph_base.specs.Graphs.{Task, task_at, phaser_at, is_sink}
use Rattle.graph_base.specs.Registrations.{signalled_by}
use Rattle.graph_base.specs.TaskLines.{IsGraph}
use Rattle.stream_lists.specs.Jobs.{Job, with_samples}
use Rattle.stream_lists.specs.Lists.{number, sinks_of}
use Rattle.stream_lists.specs.Meetings.{meeting_line}
use Rattle.stream_lists.specs.Ranges.{Where, is_too_big}
use Rattle.graph_runs.specs.Answers as answers
use Rattle.graph_runs.specs.Answers.{after_answer, answer_up_to, block_answer, makes, output_at, signal_answer, signal_turn, tells_up_to, told_wait, turn_up_to, values_up_to, word_of_answer}
use Rattle.graph_runs.specs.Moments.{one, Moment, HasRun, first_input, input_at, limits_at, value_at}
use Rattle.graph_runs.specs.Moves.{IsBlock}
use Rattle.graph_runs.specs.NextBlocks.{MaySize, block_up_to}
use Rattle.graph_runs.specs.Nexts as nexts
use Rattle.graph_runs.specs.Nexts.{at_boundary, first_due, has_signaller, is_cut, is_live, next_of, next_step, number_on, registrations_at}
use Rattle.graph_runs.specs.Reached.{IsReachable}
use Rattle.graph_runs.specs.TaskEvents.{TaskEvent, after_turn, first_wait, signal}
use Rattle.graph_runs.specs.Steps.{owed_of}
use Rattle.graph_runs.specs.Turned.{with_at}
use Rattle.graph_runs.specs.TaskPlaces as places
use Rattle.graph_runs.specs.TaskPlaces.{StandsUpTo, TaskPlace, child_of, owed_after_signal, registration_of_output}
use Rattle.graph_runs.specs.declared.owed.Owed.TheVariants as code
use Rattle.graph_runs.proofs.Blocks.{block_few, block_some}
use Rattle.graph_runs.proofs.Signalling.{live-is, owed}
use Rattle.graph_runs.proofs.SizedTurns.{turn_reached}
use Rattle.graph_runs.proofs.Stepping.{signal_follows}
use Rattle.graph_runs.proofs.Tasks.{first_looks}
use Rattle.stream_job.specs.Machines.{HasCores, IsMachineAt, UsesFew, is_over}
use Rattle.stream_job.specs.Passing.{HasMadeSteps, IsPartOfStep, MayStepFrom, goes_by_steps}
use Rattle.stream_job.specs.Places.{IsTaskAt, MaySignal, StateHasTaken, owed_in, place_in_state}
use Rattle.stream_job.specs.declared.machine.Machine.{Machine}
use Rattle.stream_job.specs.declared.task_state.TaskState.{TaskState}
use Rattle.stream_job.proofs.Begun.{begun_few}
use Rattle.stream_job.proofs.Ending.{all_numbered, number_of_input, number_of_output, over_by_input}
use Rattle.stream_job.proofs.Events.{keeps_other, set_state}
use Rattle.stream_job.proofs.FirstTurns.{first_stands, taken_place}
use Rattle.stream_job.proofs.GoodSizes.{smaller_block}
use Rattle.stream_job.proofs.GoodWaits.{moved_told}
use Rattle.stream_job.proofs.Makes.{makes_event}
use Rattle.stream_job.proofs.NextSteps.{next_for, owing_next}
use Rattle.stream_job.proofs.Numbering.{few_after}
use Rattle.stream_job.proofs.Reading.{live_by}
use Rattle.stream_job.proofs.SentValues.{all_in_range, sends_all}
use Rattle.stream_job.proofs.SignalCalls.{goes_on, ok_is, renumbered, reply_of}
use Rattle.stream_job.proofs.Waits.{GotAll, block_turn}

-- ---- kinds

-- a task that goes by steps is of no other kind
pub apart_kind : (kind other : Kind) → goes_by_steps kind ≡ true → goes_by_steps other ≡ false
    → kind ≢ other
apart_kind kind other by_steps not same =
    (let wrong : true ≡ false = sym by_steps ∙ ap goes_by_steps same ∙ not in cc)

-- it owes nothing once it has signalled
pub nothing_after : (task : Task) (j : ℕ) (xs : List ℤ) → goes_by_steps task.kind ≡ true
    → owed_after_signal task j xs ≡ places.nothing
nothing_after task j xs by_steps = by task.kind refl by_steps
  where
    by : (kind : Kind) → task.kind ≡ kind → goes_by_steps kind ≡ true
        → owed_after_signal task j xs ≡ places.nothing
    by Split e by_steps = rw e refl
    by Decimate e by_steps = rw e refl
    by Join e by_steps = rw e refl
    by Source e by_steps = absurd (let wrong : false ≡ true = by_steps in cc)
    by Fir e by_steps = absurd (let wrong : false ≡ true = by_steps in cc)
    by Peer e by_steps = absurd (let wrong : false ≡ true = by_steps in cc)
    by Sink e by_steps = absurd (let wrong : false ≡ true = by_steps in cc)

-- ---- a moment and the states of the tasks

-- each task is in its state at a moment that turns lead to
pub record IsBareAt (job : Job) (m : Moment) (tasks : List TaskState) : Type 0 where
  pub graph : IsGraph job.graph
  pub apart : meeting_line job ≡ None
  pub reached : IsReachable job m
  pub few : UsesFew job m
  pub many : length tasks ≡ length job.graph.tasks
  pub each : (u : ℕ) (state : TaskState) → slice_get tasks u ≡ Some state
      → IsTaskAt job m u state

pub bare_at : (job : Job) (m : Moment) (machine : Machine) → IsMachineAt job m machine
    → IsBareAt job m machine.tasks.items
bare_at job m machine at = record {
  graph = at.graph;
  apart = at.apart;
  reached = at.reached;
  few = at.few;
  many = at.tasks_many;
  each = at.tasks;
}

-- with the cores it is a machine
pub machine_at : (job : Job) (m : Moment) (machine : Machine) (tasks : List TaskState)
    → IsBareAt job m tasks → machine.tasks.items ≡ tasks
    → HasCores job m.history machine.cores.items
    → length machine.lines.items ≡ length (sinks_of job) → IsMachineAt job m machine
machine_at job m machine tasks at same cores lines =
    let it = subst (IsBareAt job m) (sym same) at in
    record {
      graph = it.graph;
      apart = it.apart;
      reached = it.reached;
      few = it.few;
      cores = cores;
      tasks_many = it.many;
      tasks = it.each;
      lines_many = lines;
    }

-- after an event that registers no child
pub bare_after : {steps most : ℕ} (job : Job) (m : Moment) (t : ℕ) (event : TaskEvent)
    (tasks : List TaskState) (state : TaskState) → MaySize job.graph t steps most
    → IsBareAt job m tasks → turn_up_to steps most job m t ≡ makes event → child_of event ≡ None
    → t < length job.graph.tasks → IsTaskAt job (after_turn job event m) t state
    → IsBareAt job (after_turn job event m) (set tasks t state)
bare_after {steps} {most} job m t event tasks state sized at answer none there here =
    let after = after_turn job event m in
    let long = length-set tasks t state in
    let before = at.many in
    record {
      graph = at.graph;
      apart = at.apart;
      reached = subst (λ a. IsReachable job (after_answer job a m)) answer
          (turn_reached steps most job m t sized at.graph at.reached);
      few = subst (λ a. UsesFew job (after_answer job a m)) answer
          (few_after job m t sized at.graph at.reached at.few);
      many = omega arith;
      each = set_state job after tasks t state at.many there here
          (λ u other within apart found. keeps_other job m t u event other sized at.graph at.reached
          answer within apart (λ same. (let wrong : None ≡ Some u = sym none ∙ same in cc))
          (at.each u other found));
    }

-- ---- the wait

-- a task whose input has more waits for its next step
pub next_waits : {most : ℕ} (job : Job) (m : Moment) (t k p : ℕ) (at : TaskPlace)
    → IsGraph job.graph → HasRun job m → StandsUpTo most job m t at → is_live job m t ≡ true
    → at.owed ≡ places.nothing → at.left ≡ 0 → first_due job m t ≡ None
    → is_cut (task_at job.graph t).until (m.begun t) ≡ false
    → (task_at job.graph t).kind ≢ Source
    → k ≡ first_input (task_at job.graph t) (m.begun t)
    → k < length (task_at job.graph t).inputs → p < length job.graph.phasers
    → p ≡ input_at (task_at job.graph t) k
    → wait_phase (m.history p) (get_or at.numbers k 0) < done_of (m.history p)
    → next_of job m t ≡ nexts.waits k
next_waits {most} job m t k p at is ran stands live owed none due uncut never first few there same below =
    let task = task_at job.graph t in
    let h = m.history p in
    let over : is_over job m t ≡ false =
    over_by_input job m t k p at false is ran stands live none uncut never first few there same
    (λ entry found.
    (let phase : wait_phase h (get_or at.numbers k 0) ≡ entry.wait_phase =
    ap (λ o. (unwrap_or o founder).wait_phase) found in
    ap (λ b. not (has_signaller h) && b) (lt-leb (done_of h) entry.wait_phase (omega arith))
    ∙ none_of (not (has_signaller h)))) in
    owing_next most job m t at.owed live stands.owes
    ∙ ap (next_for job m t) owed
    ∙ ap (at_boundary job m t) due
    ∙ ap (λ b. cond b nexts.leaves (next_step task (m.begun t) task.kind)) over
    ∙ begins task (m.begun t) task.kind never
    ∙ ap nexts.waits (sym first)
  where
    none_of : (b : Bool) → (b && false) ≡ false
    none_of true = refl
    none_of false = refl

    begins : (task : Task) (b : ℕ) (kind : Kind) → kind ≢ Source
        → next_step task b kind ≡ nexts.waits (first_input task b)
    begins task b Source never = absurd (never refl)
    begins task b Fir never = refl
    begins task b Split never = refl
    begins task b Decimate never = refl
    begins task b Join never = refl
    begins task b Peer never = refl
    begins task b Sink never = refl

-- its turn makes the wait
pub waits_makes : {most : ℕ} (job : Job) (m : Moment) (t k p n phase sends : ℕ)
    (outcomes : List Outcome) (at : TaskPlace) → IsGraph job.graph → HasRun job m
    → StandsUpTo most job m t at → is_live job m t ≡ true
    → is_cut (task_at job.graph t).until (m.begun t) ≡ false
    → next_of job m t ≡ nexts.waits k → k < length (task_at job.graph t).inputs
    → p ≡ input_at (task_at job.graph t) k → n ≡ get_or at.numbers k 0
    → GotAll job m p n 1 phase 1 outcomes
    → turn_up_to 1 sends job m t ≡ makes (first_wait t k p n outcomes)
waits_makes {most} job m t k p n phase sends outcomes at is ran stands live uncut next few phaser numbered all =
    let q = input_at (task_at job.graph t) k in
    let there = (live-is job m t live).there in
    let number = (number_of_input job m t k at is stands live few).1 in
    let some : 1 ≤ block_up_to 1 job m t =
    block_some 1 job m t (ran.tasks t there) (omega arith) uncut in
    let most : block_up_to 1 job m t ≤ 1 = block_few 1 job m t in
    let steps : block_up_to 1 job m t ≡ 1 = omega arith in
    ap (answer_up_to 1 sends job m t) next
    ∙ ap (λ i. block_turn job m t k q i (block_up_to 1 job m t)) (number ∙ sym numbered)
    ∙ ap (λ r. block_turn job m t k r n (block_up_to 1 job m t)) (sym phaser)
    ∙ ap (block_turn job m t k p n) steps
    ∙ ap (block_answer (λ phase count. first_wait t k p n
    (slice_range (stream_of (value_at job p) (m.history p)) phase (phase + count)))) all.reply
    ∙ ap (λ l. makes (first_wait t k p n l)) all.are

-- it takes no value too big, where it got none
pub waits_good : (steps most : ℕ) (job : Job) (m : Moment) (t k p n : ℕ) (outcomes : List Outcome)
    → turn_up_to steps most job m t ≡ makes (first_wait t k p n outcomes)
    → position_from is_too_big (wait_phase (m.history p) n) outcomes ≡ None
    → (at : Where) → tells_up_to steps most job m t ≢ Some (answers.TooBig at)
waits_good steps most job m t k p n outcomes answer none at told =
    let is : tells_up_to steps most job m t ≡ Some (told_wait m p n outcomes) =
    ap (word_of_answer job m) answer in
    let moved = moved_told p (wait_phase (m.history p) n) outcomes none in
    (let wrong : Some answers.Moved ≡ Some (answers.TooBig at) =
    ap (λ x. Some x) moved ∙ sym is ∙ told in cc)

-- the moment after it
pub bare_waited : (job : Job) (m : Moment) (t k p n : ℕ) (outcomes : List Outcome)
    (tasks : List TaskState) (state took : TaskState)
    → MaySize job.graph t 1 state.most → IsBareAt job m tasks
    → slice_get tasks t ≡ Some state → t < length job.graph.tasks
    → goes_by_steps (task_at job.graph t).kind ≡ true
    → turn_up_to 1 state.most job m t ≡ makes (first_wait t k p n outcomes)
    → StateHasTaken (task_at job.graph t) (map number outcomes) state took
    → IsBareAt job (after_turn job (first_wait t k p n outcomes) m) (set tasks t took)
bare_waited job m t k p n outcomes tasks state took sized at found there by_steps answer has =
    let event = first_wait t k p n outcomes in
    let after = after_turn job event m in
    let it = at.each t state found in
    let fir = apart_kind (task_at job.graph t).kind Fir by_steps refl in
    let now = (subst (λ a. IsReachable job (after_answer job a m)) answer
    (turn_reached 1 state.most job m t sized at.graph at.reached)).ran in
    let stands = taken_place state.most job after t outcomes (m.taken t 0) state took has it.filter
    (first_stands job m t k p n outcomes (place_in_state state) sized there at.graph at.reached now
    answer it.stands) in
    bare_after job m t event tasks took sized at answer refl there record {
      stands = subst (λ i. StandsUpTo i job after t (place_in_state took)) (sym has.most) stands;
      most = subst (MaySignal job t) (sym has.most) it.most;
      room = subst (λ v. 9 ≤ v.capacity) (sym has.numbers) it.room;
      filter = λ is. absurd (fir is);
      made_room = λ is. absurd (fir is);
      made_by = has.made_by;
      made_none = has.made_none;
      sink = λ kind. ap (slice_get (sinks_of job)) has.sink ∙ it.sink kind;
    }

-- ---- the signal

-- a turn of a live task that owes one value signals it, where the phaser takes it
pub signals_makes : {most : ℕ} (steps : ℕ) (job : Job) (m : Moment) (t j p n phase : ℕ) (x : ℤ)
    (at : TaskPlace) → IsGraph job.graph → StandsUpTo most job m t at → is_live job m t ≡ true
    → at.owed ≡ places.values j (Ok x ∷ []) → p ≡ output_at job t j
    → n ≡ get_or at.numbers (registration_of_output (task_at job.graph t) j) 0
    → reply_of job m p n (x ∷ []) ≡ Ok phase
    → turn_up_to steps most job m t ≡ makes (signal t j p n (x ∷ []))
signals_makes {most} steps job m t j p n phase x at is stands live owes phaser numbered reply =
    let q = output_at job t j in
    let vs = x ∷ [] in
    let here = subst (places.OwesUpTo most job m t) owes stands.owes in
    let few = (owed job m t j here.0).0 in
    let number = (number_of_output job m t j at is stands live few).1 in
    let ranges = all_in_range (values_up_to most job m t j) vs here.2 in
    let next : next_of job m t ≡ nexts.signals j =
    owing_next most job m t at.owed live stands.owes ∙ ap (next_for job m t) owes in
    ap (answer_up_to steps most job m t) next
    ∙ ap (λ l. signal_turn job m t j l (signal t j q (number_on m t q) l)) ranges.same
    ∙ goes_on job m t j vs (signal t j q (number_on m t q) vs) (ranges.none (length (m.put t j)))
    ∙ renumbered job m t j n p vs (λ r i. signal t j r i vs) phaser (number ∙ sym numbered)
    ∙ ap (signal_answer (signal t j p n vs))
    (ok_is (limits_at job p) (m.history p) n (map one vs) (phaser_at job.graph p).single phase reply)

-- a signal tells no value too big
pub signals_good : (steps most : ℕ) (job : Job) (m : Moment) (t j p n : ℕ) (vs : List ℤ)
    → turn_up_to steps most job m t ≡ makes (signal t j p n vs)
    → (at : Where) → tells_up_to steps most job m t ≢ Some (answers.TooBig at)
signals_good steps most job m t j p n vs answer at told =
    let is : tells_up_to steps most job m t ≡ Some answers.Moved =
    ap (word_of_answer job m) answer in
    (let wrong : Some answers.Moved ≡ Some (answers.TooBig at) = sym is ∙ told in cc)

-- the moment after it
pub bare_signalled : {steps : ℕ} (job : Job) (m : Moment) (t j p n : ℕ) (vs : List ℤ)
    (tasks : List TaskState) (state : TaskState)
    → MaySize job.graph t steps state.most → IsBareAt job m tasks
    → slice_get tasks t ≡ Some state → t < length job.graph.tasks
    → goes_by_steps (task_at job.graph t).kind ≡ true
    → turn_up_to steps state.most job m t ≡ makes (signal t j p n vs)
    → IsBareAt job (after_turn job (signal t j p n vs) m)
    (set tasks t (record state { owed = code.Nothing }))
bare_signalled {steps} job m t j p n vs tasks state sized at found there by_steps answer =
    let event = signal t j p n vs in
    let after = after_turn job event m in
    let it = at.each t state found in
    let fir = apart_kind (task_at job.graph t).kind Fir by_steps refl in
    let made = makes_event job m t event sized at.graph at.reached answer in
    let none = it.made_none fir in
    let owes : owed_in code.Nothing state.made.items ≡ owed_after_signal (task_at job.graph t) j vs =
    ap (owed_in code.Nothing) none ∙ sym (nothing_after (task_at job.graph t) j vs by_steps) in
    bare_after job m t event tasks (record state { owed = code.Nothing }) sized at answer refl there
    record {
      stands = subst (λ o. StandsUpTo state.most job after t
          (record (place_in_state state) { owed = o })) (sym owes)
          (signal_follows state.most job m t j p n vs (place_in_state state) (sized there) at.graph
          at.reached.ran made.live made.next made.owes it.stands);
      most = it.most;
      room = it.room;
      filter = it.filter;
      made_room = it.made_room;
      made_by = λ is. refl;
      made_none = it.made_none;
      sink = it.sink;
    }

-- ---- the machine after each

-- a task that goes by steps is no sink
never_sink : (kind : Kind) → goes_by_steps kind ≡ true → is_sink kind ≡ false
never_sink Split by_steps = refl
never_sink Decimate by_steps = refl
never_sink Join by_steps = refl
never_sink Source by_steps = refl
never_sink Fir by_steps = refl
never_sink Peer by_steps = refl
never_sink Sink by_steps = absurd (let wrong : false ≡ true = by_steps in cc)

-- a step, and a signal of what it made, are sizes of a turn
pub step_sizes : (job : Job) (t : ℕ) (state : TaskState) → MaySignal job t state.most
    → MaySize job.graph t 1 state.most
step_sizes job t state may there = record {
  block = smaller_block job.graph t state.most 1 (omega arith) may.block.some may.block;
  owed = may.block;
  few = λ fir. may.block.some;
}

-- after the wait
pub waited_once : (job : Job) (m : Moment) (old new : Machine) (t k p n phase : ℕ)
    (outcomes : List Outcome) (state took : TaskState) → IsMachineAt job m old
    → MayStepFrom job old m t k → slice_get old.tasks.items t ≡ Some state
    → t < length job.graph.tasks → k < length (task_at job.graph t).inputs
    → p ≡ input_at (task_at job.graph t) k → p < length job.graph.phasers
    → n ≡ get_or state.numbers.items k 0 → GotAll job m p n 1 phase 1 outcomes
    → position_from is_too_big phase outcomes ≡ None
    → StateHasTaken (task_at job.graph t) (map number outcomes) state took
    → HasCores job (with_at p (Waited n 1 ∷ m.history p) m.history) new.cores.items
    → new.tasks.items ≡ set old.tasks.items t took → new.lines ≡ old.lines
    → IsPartOfStep job m t (first_wait t k p n outcomes)
    × IsMachineAt job (after_turn job (first_wait t k p n outcomes) m) new
waited_once job m old new t k p n phase outcomes state took at may found there few phaser within numbered all none has cores tasks lines =
    let it = at.tasks t state found in
    let ran = at.reached.ran in
    let sized = step_sizes job t state it.most in
    let source = apart_kind (task_at job.graph t).kind Source may.by_steps refl in
    let h = m.history p in
    let same : wait_phase h n ≡ wait_phase h (get_or state.numbers.items k 0) =
    ap (wait_phase h) numbered in
    let complete : phase + 1 ≤ done_of h = all.complete in
    let first : phase ≡ wait_phase h n = all.first in
    let next = next_waits job m t k p (place_in_state state) at.graph ran it.stands may.live
    (may.nothing state found) (may.staying state found) may.none_due may.uncut source may.first few
    within phaser (omega arith) in
    let answer = waits_makes job m t k p n phase state.most outcomes (place_in_state state) at.graph
    ran it.stands may.live may.uncut next few phaser numbered all in
    let good = waits_good 1 state.most job m t k p n outcomes answer
    (ap (λ w. position_from is_too_big w outcomes) (sym first) ∙ none) in (
      record {
        steps = 1;
        most = state.most;
        sized = sized;
        answer = answer;
        good = good;
        of_step = refl;
        no_sink = never_sink (task_at job.graph t).kind may.by_steps;
      },
      machine_at job (after_turn job (first_wait t k p n outcomes) m) new
          (set old.tasks.items t took)
          (bare_waited job m t k p n outcomes old.tasks.items state took sized (bare_at job m old at)
          found there may.by_steps answer has) tasks
          (subst (λ i. HasCores job (with_at p (Waited n i ∷ m.history p) m.history)
          new.cores.items) (sym all.many) cores)
          (ap (λ l. length l.items) lines ∙ at.lines_many),
    )

-- after the signal
pub signalled_once : (job : Job) (m : Moment) (old new : Machine) (t j p n phase : ℕ) (x : ℤ)
    (state : TaskState) → IsMachineAt job m old → slice_get old.tasks.items t ≡ Some state
    → t < length job.graph.tasks → goes_by_steps (task_at job.graph t).kind ≡ true
    → is_live job m t ≡ true → state.owed ≡ code.Value j (Ok x) → p ≡ output_at job t j
    → n ≡ get_or state.numbers.items (registration_of_output (task_at job.graph t) j) 0
    → reply_of job m p n (x ∷ []) ≡ Ok phase
    → HasCores job (with_at p (Signalled n (map one (x ∷ [])) (phaser_at job.graph p).single
    ∷ m.history p) m.history) new.cores.items
    → new.tasks.items ≡ set old.tasks.items t (record state { owed = code.Nothing })
    → new.lines ≡ old.lines
    → IsPartOfStep job m t (signal t j p n (x ∷ []))
    × IsMachineAt job (after_turn job (signal t j p n (x ∷ [])) m) new
signalled_once job m old new t j p n phase x state at found there by_steps live owing phaser numbered reply cores tasks lines =
    let it = at.tasks t state found in
    let sized = step_sizes job t state it.most in
    let fir = apart_kind (task_at job.graph t).kind Fir by_steps refl in
    let owes : owed_in state.owed state.made.items ≡ places.values j (Ok x ∷ []) =
    ap (owed_in state.owed) (it.made_none fir) ∙ ap owed_of owing in
    let answer = signals_makes 1 job m t j p n phase x (place_in_state state) at.graph it.stands live
    owes phaser numbered reply in (
      record {
        steps = 1;
        most = state.most;
        sized = sized;
        answer = answer;
        good = signals_good 1 state.most job m t j p n (x ∷ []) answer;
        of_step = refl;
        no_sink = never_sink (task_at job.graph t).kind by_steps;
      },
      machine_at job (after_turn job (signal t j p n (x ∷ [])) m) new
          (set old.tasks.items t (record state { owed = code.Nothing }))
          (bare_signalled job m t j p n (x ∷ []) old.tasks.items state sized (bare_at job m old at)
          found there by_steps answer) tasks cores
          (ap (λ l. length l.items) lines ∙ at.lines_many),
    )

-- ---- what is asked of a state

-- a task that goes by steps takes one value in a wait
pub one_block : (kind : Kind) (many : ℕ) → goes_by_steps kind ≡ true → many ≡ 1
    → IsBlock kind many
one_block Split many by_steps is = is
one_block Decimate many by_steps is = is
one_block Join many by_steps is = is
one_block Source many by_steps is = tt
one_block Fir many by_steps is = tt
one_block Peer many by_steps is = is
one_block Sink many by_steps is = tt

-- a task is live whose state has the numbers that it had when it was, and has left as many phasers
pub kept_live : {few most : ℕ} (job : Job) (s r : List (List ℤ)) (m now : Moment) (t : ℕ)
    (at later : TaskPlace) → StandsUpTo few (with_samples s job) m t at
    → is_live (with_samples s job) m t ≡ true → StandsUpTo most (with_samples r job) now t later
    → later.numbers ≡ at.numbers → later.left ≡ at.left → is_live job now t ≡ true
kept_live job s r m now t at later stands live stand numbers left =
    let there : t < length job.graph.tasks = (live-is (with_samples s job) m t live).there in
    let all : length at.numbers ≡ length (registrations_at job t) =
    all_numbered (with_samples s job) m t at stands live in
    let many : length later.numbers ≡ length at.numbers = ap length numbers in
    let fits : length (registrations_at job t) ≤ length later.numbers = omega arith in
    let was : length (registrations_at job t) ≤ length at.numbers = omega arith in
    live_by (with_samples r job) now t later stand there fits
    ∙ ap (λ n. nat_lt n (length later.numbers)) left
    ∙ ap (nat_lt at.left) many
    ∙ sym (live_by (with_samples s job) m t at stands there was) ∙ live

-- ---- as the code has it

-- a list of one
pub whole : {X : Type 0} (xs : List X) → length xs ≡ 1 → take 1 xs ≡ xs
whole [] one = absurd (omega arith)
whole (x ∷ []) one = refl
whole (x ∷ (y ∷ ys)) one = absurd (omega arith)

-- the state of a task that was read
pub read_at : (job : Job) (m : Moment) (machine : Machine) (t : ℕ) (state : TaskState)
    → IsMachineAt job m machine → t < length job.graph.tasks
    → state ≡ get_or machine.tasks.items t state → slice_get machine.tasks.items t ≡ Some state
read_at job m machine t state at there read =
    let many = at.tasks_many in
    slice_get_read machine.tasks.items (length machine.tasks.items) t state refl (omega arith) read

-- a task that waits first has begun few steps
pub waits_few_begun : (job : Job) (m : Moment) (old : Machine) (t k p phase : ℕ)
    (outcomes : List Outcome) (state : TaskState) → IsMachineAt job m old
    → MayStepFrom job old m t k → slice_get old.tasks.items t ≡ Some state
    → k < length (task_at job.graph t).inputs
    → p ≡ input_at (task_at job.graph t) k → p < length job.graph.phasers
    → GotAll job m p (get_or state.numbers.items k 0) 1 phase 1 outcomes
    → state.begun + 1 ≤ 18446744073709551615
waits_few_begun job m old t k p phase outcomes state at may found few phaser within all =
    let it = at.tasks t state found in
    let source = apart_kind (task_at job.graph t).kind Source may.by_steps refl in
    let complete : phase + 1 ≤ done_of (m.history p) = all.complete in
    let first : phase ≡ wait_phase (m.history p) (get_or state.numbers.items k 0) = all.first in
    let next = next_waits job m t k p (place_in_state state) at.graph at.reached.ran it.stands
    may.live (may.nothing state found) (may.staying state found) may.none_due may.uncut source
    may.first few within phaser (omega arith) in
    let begun : m.begun t ≤ PHASES_MAX = begun_few job m t k at.graph at.reached.ran next in
    let same : m.begun t ≡ state.begun = it.stands.begun in
    omega arith

-- what a state owes that owes one value
pub state_owes : (job : Job) (m : Moment) (t j : ℕ) (x : ℤ) (state : TaskState)
    → IsTaskAt job m t state → goes_by_steps (task_at job.graph t).kind ≡ true
    → state.owed ≡ code.Value j (Ok x)
    → owed_in state.owed state.made.items ≡ places.values j (Ok x ∷ [])
state_owes job m t j x state it by_steps owes =
    ap (owed_in state.owed) (it.made_none (apart_kind (task_at job.graph t).kind Fir by_steps refl))
    ∙ ap owed_of owes

-- the output is one of the task's
pub owes_output : {most : ℕ} (job : Job) (m : Moment) (t j : ℕ) (x : ℤ) (at : TaskPlace)
    → StandsUpTo most job m t at → at.owed ≡ places.values j (Ok x ∷ [])
    → j < length (signalled_by (task_at job.graph t))
owes_output {most} job m t j x at stands owes =
    (owed job m t j (subst (places.OwesUpTo most job m t) owes stands.owes).0).0

-- the value can be sent
pub owes_send : {most : ℕ} (job : Job) (m : Moment) (t j : ℕ) (x : ℤ) (at : TaskPlace)
    → StandsUpTo most job m t at → at.owed ≡ places.values j (Ok x ∷ []) → AreSends (x ∷ [])
owes_send {most} job m t j x at stands owes =
    let here = subst (places.OwesUpTo most job m t) owes stands.owes in
    sends_all 0 (x ∷ [])
    ((all_in_range (values_up_to most job m t j) (x ∷ []) here.2).none 0)

-- nothing was done
pub none_stepped : (job : Job) (t : ℕ) (m : Moment) (new : Machine) → IsMachineAt job m new
    → HasMadeSteps job t m new false
none_stepped job t m new at = record {
  events = [];
  after = m;
  lead = refl;
  some = λ e. absurd (let wrong : false ≡ true = e in cc);
  stands = at;
}

-- the input that its step waits on is one of the task's
pub steps_within : (job : Job) (m : Moment) (old : Machine) (t k : ℕ) → IsGraph job.graph
    → t < length job.graph.tasks → MayStepFrom job old m t k
    → k < length (task_at job.graph t).inputs
steps_within job m old t k is there may =
    subst (λ i. i < length (task_at job.graph t).inputs) (sym may.first)
    (first_looks (task_at job.graph t) (m.begun t) (is.tasks t there).ends
    (apart_kind (task_at job.graph t).kind Source may.by_steps refl)).0
