-- What the code tells of a turn is what the table tells.
use Rattle.std.proofs.Common.{◌≡◌, ◌≢◌, ℕ, ℤ, ◌<◌, ◌≤◌, true, false, List, [], Option, Some, None, length, get_or, refl, sym, ap, subst, ◌∙◌, arith, ◌⊎◌, inl, inr}
use Rattle.std.proofs.lemmas.List.{length-set}
use Rattle.graph_base.specs.declared.limits.TheConstants.{TASKS_MAX}
use Rattle.graph_base.specs.Graphs.{task_at}
use Rattle.graph_base.specs.TaskLines.{IsGraph}
use Rattle.stream_lists.specs.Jobs.{Job, least}
use Rattle.stream_lists.specs.Spans.{span_in}
use Rattle.stream_lists.specs.Ranges.{Where}
use Rattle.graph_runs.specs.Moments.{Moment, HasRun, HasAnsweredNone, input_at, started}
use Rattle.graph_runs.specs.Settled.{IsFaultAt}
use Rattle.graph_runs.proofs.AnsweredInTurn.{turn_answers_none, turn_answers_one}
use Rattle.graph_runs.proofs.ToldFaults.{told_fault}
use Rattle.graph_runs.proofs.OnLines.{on_phaser}
use Rattle.graph_runs.specs.TaskEvents.{TaskEvent, IsNext, sample, signal, first_wait, exchange_wait, leave, child, child_now, after_turn}
use Rattle.graph_runs.specs.Nexts.{Next, is_not_live, registers, leaves, samples, signals, waits, exchanges, next_of}
use Rattle.graph_runs.specs.Answers.{Answer, Moved, Blocked, Ended, Gone, TooBig, makes, is_blocked, is_gone, has_made, is_refused, answer_to, answer_of_turn, answer_up_to, after_answer, word_of_answer, turn_tells, turn_up_to, was_blocked, tells_up_to}
use Rattle.graph_runs.specs.Reached.{IsReachable}
use Rattle.graph_runs.proofs.Signalling.{live-is}
use Rattle.graph_runs.proofs.Turning.{turn_makes_next}
use Rattle.graph_runs.proofs.Outputs.{output_there}
use Rattle.stream_job.specs.Machines.{HasLineSizes, HasRoom, IsMachineAt, KeepsLines, most_in, none_given}
use Rattle.stream_job.specs.Blocking.{called_on, AreBlocked}
use Rattle.stream_job.specs.Turning.{MadeShows, HadTurn, after_turn_of, met_by, phaser_of, parked_after, parked_by, told_of, turn_in}
use Rattle.stream_job.specs.Parking.{with_task}
use Rattle.stream_job.specs.Worlds.{WorldState, HasMet, IsWorldAt}
use Rattle.stream_job.specs.Tellings.{told_by, parked_with, IsOnPhaser}
use Rattle.stream_job.specs.declared.machine.Machine.{Machine}
use Rattle.stream_job.specs.declared.made.Made.{Made}
use Rattle.stream_job.specs.declared.made.Made.TheVariants as made
use Rattle.stream_job.specs.declared.turned.Turned.{Turned}
use Rattle.stream_job.specs.declared.turned.Turned.TheVariants as turned
use Rattle.stream_job.proofs.BlockedLists.{blocked_after}
use Rattle.stream_job.proofs.LinesBegin.{turn_begins}
use Rattle.stream_job.proofs.Lively.{live_next}
use Rattle.stream_job.proofs.Stalling.{leave_moves, register_moves}
use Rattle.stream_job.proofs.Stepping.{sample_output, signal_output, wait_input, exchange_input}
use Rattle.graph_runs.specs.NextBlocks.{MaySize}
use Rattle.stream_job.proofs.NextSteps.{past_next}
use Rattle.std.proofs.lemmas.Bool.{cases_lt}
use Rattle.std.specs.List.{All}
use Rattle.graph_runs.proofs.Stepping.{line_sizes}

-- ---- what is told

pub tells_so : (job : Job) (m : Moment) (t : ℕ) (answer : Answer) (it : Made)
    → MadeShows job m t answer it → word_of_answer job m answer ≡ Some (told_of (told_by it t))
tells_so job m t (makes event) (made.Event p word) s = ap (λ w. Some w) s.1
tells_so job m t (makes event) (made.Blocked p) s = absurd s
tells_so job m t (makes event) (made.OutOfRange step) s = absurd s
tells_so job m t (makes event) made.Nothing s = absurd s
tells_so job m t is_blocked (made.Event p word) s = absurd s
tells_so job m t is_blocked (made.Blocked p) s = refl
tells_so job m t is_blocked (made.OutOfRange step) s = absurd s
tells_so job m t is_blocked made.Nothing s = absurd s
tells_so job m t is_gone (made.Event p word) s = absurd s
tells_so job m t is_gone (made.Blocked p) s = absurd s
tells_so job m t is_gone (made.OutOfRange step) s = absurd s
tells_so job m t is_gone made.Nothing s = refl
tells_so job m t (has_made at) (made.Event p word) s = absurd s
tells_so job m t (has_made at) (made.Blocked p) s = absurd s
tells_so job m t (has_made at) (made.OutOfRange step) s = ap (λ x. word_of_answer job m (has_made x)) s
tells_so job m t (has_made at) made.Nothing s = absurd s
tells_so job m t is_refused (made.Event p word) s = absurd s
tells_so job m t is_refused (made.Blocked p) s = absurd s
tells_so job m t is_refused (made.OutOfRange step) s = absurd s
tells_so job m t is_refused made.Nothing s = absurd s

-- ---- the lists of blocked tasks

pub parks_so : (job : Job) (m : Moment) (t : ℕ) (answer : Answer) (it : Made)
    (parked : List (List ℕ)) → MadeShows job m t answer it
    → parked_with it t parked ≡ parked_after job t (next_of job m t) answer parked
parks_so job m t (makes event) (made.Event p word) parked s =
    ap (λ q. parked_with (made.Event q word) t parked) (sym s.0)
parks_so job m t (makes event) (made.Blocked p) parked s = absurd s
parks_so job m t (makes event) (made.OutOfRange step) parked s = absurd s
parks_so job m t (makes event) made.Nothing parked s = absurd s
parks_so job m t is_blocked (made.Event p word) parked s = absurd s
parks_so job m t is_blocked (made.Blocked p) parked s =
    ap (λ q. parked_with (made.Blocked q) t parked) (sym s)
parks_so job m t is_blocked (made.OutOfRange step) parked s = absurd s
parks_so job m t is_blocked made.Nothing parked s = absurd s
parks_so job m t is_gone (made.Event p word) parked s = absurd s
parks_so job m t is_gone (made.Blocked p) parked s = absurd s
parks_so job m t is_gone (made.OutOfRange step) parked s = absurd s
parks_so job m t is_gone made.Nothing parked s = refl
parks_so job m t (has_made at) (made.Event p word) parked s = absurd s
parks_so job m t (has_made at) (made.Blocked p) parked s = absurd s
parks_so job m t (has_made at) (made.OutOfRange step) parked s = refl
parks_so job m t (has_made at) made.Nothing parked s = absurd s
parks_so job m t is_refused (made.Event p word) parked s = absurd s
parks_so job m t is_refused (made.Blocked p) parked s = absurd s
parks_so job m t is_refused (made.OutOfRange step) parked s = absurd s
parks_so job m t is_refused made.Nothing parked s = absurd s

-- ---- the phaser is there

event_there : (job : Job) (m : Moment) (event : TaskEvent) → IsNext job m event
    → phaser_of event < length job.graph.phasers
event_there job m (sample t j p n vs) next = next.0.phaser
event_there job m (signal t j p n vs) next = next.0.phaser
event_there job m (first_wait t k p n outcomes) next = next.0.phaser
event_there job m (exchange_wait t p n outcome) next = next.0.phaser
event_there job m (leave t p n) next = next.0.phaser
event_there job m (child t p n c a mode) next = next.0.phaser
event_there job m (child_now t p n c a) next = next.0.phaser

input_there : (job : Job) (t k : ℕ) → IsGraph job.graph → t < length job.graph.tasks
    → k < length (task_at job.graph t).inputs
    → input_at (task_at job.graph t) k < length job.graph.phasers
input_there job t k is there few =
    on_phaser job t (input_at (task_at job.graph t) k) is there (inr (k, few, refl))

blocked_there : (job : Job) (m : Moment) (t : ℕ) → IsGraph job.graph
    → answer_of_turn job m t ≡ is_blocked
    → (called_on job t (next_of job m t) < length job.graph.phasers) × (t < 64)
blocked_there job m t is blocked = by (next_of job m t) refl blocked
  where
    there : (next : Next) → next_of job m t ≡ next → next ≢ is_not_live
        → t < length job.graph.tasks
    there next e never = (live-is job m t (live_next job m t next e never)).there

    small : t < length job.graph.tasks → t < 64
    small lt = let few : length job.graph.tasks ≤ TASKS_MAX = is.few_tasks in omega arith

    by : (next : Next) → next_of job m t ≡ next → answer_to job m t next ≡ is_blocked
        → (called_on job t next < length job.graph.phasers) × (t < 64)
    by is_not_live e b = absurd (cc)
    by (registers c) e b =
        absurd (let wrong : false ≡ true = sym (register_moves job m t c) ∙ ap was_blocked b in cc)
    by leaves e b =
        absurd (let wrong : false ≡ true = sym (leave_moves job m t) ∙ ap was_blocked b in cc)
    by samples e b =
        let lt = there samples e (λ no. absurd (cc)) in
        (output_there job t 0 is lt (sample_output job m t is lt e), small lt)
    by (signals j) e b =
        let lt = there (signals j) e (λ no. absurd (cc)) in
        (output_there job t j is lt (signal_output job m t j e), small lt)
    by (waits k) e b =
        let lt = there (waits k) e (λ no. absurd (cc)) in
        (input_there job t k is lt (wait_input job m t k is lt e), small lt)
    by exchanges e b =
        let lt = there exchanges e (λ no. absurd (cc)) in
        (input_there job t 1 is lt (exchange_input job m t is lt e), small lt)

pub made_there : (job : Job) (m : Moment) (t : ℕ) (it : Made) → IsGraph job.graph
    → IsReachable job m → MadeShows job m t (answer_of_turn job m t) it
    → IsOnPhaser it t (length job.graph.phasers)
made_there job m t it is reached s = by (answer_of_turn job m t) refl it s
  where
    by : (answer : Answer) → answer_of_turn job m t ≡ answer → (it : Made)
        → MadeShows job m t answer it → IsOnPhaser it t (length job.graph.phasers)
    by (makes event) e (made.Event p word) s =
        let P : ℕ → Type 0 = λ q. q < length job.graph.phasers in
        subst P s.0 (event_there job m event
        (turn_makes_next (task_at job.graph t).block (task_at job.graph t).block job m t event
        (line_sizes job t is) is reached.ran (λ c due. reached.to_come) e))
    by (makes event) e (made.Blocked p) s = absurd s
    by is_blocked e (made.Event p word) s = absurd s
    by is_blocked e (made.Blocked p) s =
        let both = blocked_there job m t is e in
        let P : ℕ → Type 0 = λ q. q < length job.graph.phasers in
        (subst P s both.0, both.1)
    by is_gone e (made.Event p word) s = absurd s
    by is_gone e (made.Blocked p) s = absurd s
    by (has_made at) e (made.Event p word) s = absurd s
    by (has_made at) e (made.Blocked p) s = absurd s
    by is_refused e (made.Event p word) s = absurd s
    by is_refused e (made.Blocked p) s = absurd s
    by answer e (made.OutOfRange step) s = tt
    by answer e made.Nothing s = tt

-- ---- a task that is not live

pub gone_turn : {steps : ℕ} (job : Job) (machine : Machine) (t : ℕ)
    → ((m : Moment) → IsMachineAt job m machine → next_of job m t ≡ is_not_live)
    → HadTurn steps job machine machine t made.Nothing
gone_turn {steps} job machine t gone = record {
  shows = λ m at. shows m at;
  after = λ m at none. after m at;
  lines = λ given m at none kept.
      subst (λ a. KeepsLines job given (after_answer job a m) machine.lines.items)
      (sym (answer m at)) kept;
  own = λ room all. all;
  mosts = λ u. refl;
}
  where
    answer : (m : Moment) → IsMachineAt job m machine → turn_in steps job machine m t ≡ is_gone
    answer m at = ap (answer_up_to steps (most_in machine t) job m t) (gone m at)

    shows : (m : Moment) → IsMachineAt job m machine
        → MadeShows job m t (turn_in steps job machine m t) made.Nothing
    shows m at = subst (λ a. MadeShows job m t a made.Nothing) (sym (answer m at)) tt

    after : (m : Moment) → (at : IsMachineAt job m machine)
        → IsMachineAt job (after_answer job (turn_in steps job machine m t) m) machine
    after m at =
        subst (λ a. IsMachineAt job (after_answer job a m) machine) (sym (answer m at)) at

-- ---- a turn of a world

pub turn_tells_so : (job : Job) (met : Option Where) (m : Moment) (t : ℕ) (it : Made)
    (word : Turned) → met ≡ None → MadeShows job m t (answer_of_turn job m t) it
    → word ≡ told_by it t → turn_tells job met m t ≡ Some (told_of word)
turn_tells_so job met m t it word none s same =
    ap (λ o. turn_tells job o m t) none ∙ tells_so job m t (answer_of_turn job m t) it s
    ∙ ap (λ w. Some (told_of w)) (sym same)

pub turn_parks_so : (world : WorldState) (m : Moment) (t : ℕ) (it : Made)
    (parked : List (List ℕ)) → world.met ≡ None
    → MadeShows world.job m t (answer_of_turn world.job m t) it
    → parked ≡ parked_with it t world.parked → parked ≡ parked_by world m t
turn_parks_so world m t it parked none s same =
    same ∙ parks_so world.job m t (answer_of_turn world.job m t) it world.parked s
    ∙ sym (as_is world none)
  where
    as_is : (world : WorldState) → world.met ≡ None
        → parked_by world m t
        ≡ parked_after world.job t (next_of world.job m t) (answer_of_turn world.job m t)
        world.parked
    as_is world none = rw none refl

-- ---- a turn that makes a block of the line

-- what it makes is what the table says, where one event signals such a block
pub turn_of_line : (job : Job) (machine : Machine) (m : Moment) (t : ℕ) → HasLineSizes job machine
    → turn_in (task_at job.graph t).block job machine m t ≡ answer_of_turn job m t
turn_of_line job machine m t sizes = by (cases_lt t (length job.graph.tasks))
  where
    by : (t < length job.graph.tasks) ⊎ (length job.graph.tasks ≤ t)
        → turn_in (task_at job.graph t).block job machine m t ≡ answer_of_turn job m t
    by (inl there) =
        ap (λ n. turn_up_to (task_at job.graph t).block n job m t) (sizes t there)
    by (inr past) =
        let none = past_next job m t past in
        ap (answer_up_to (task_at job.graph t).block (most_in machine t) job m t) none
        ∙ sym (ap (answer_to job m t) none)

-- the machine had it
pub record HadLine (job : Job) (old new : Machine) (t : ℕ) (it : Made) : Type 0 where
  pub shows : (m : Moment) → IsMachineAt job m old → MadeShows job m t (answer_of_turn job m t) it
  pub after : (m : Moment) → IsMachineAt job m old → HasAnsweredNone job m
      → IsMachineAt job (after_answer job (answer_of_turn job m t) m) new
  pub lines : (given : ℕ → List ℤ) (m : Moment) → IsMachineAt job m old → HasAnsweredNone job m
      → KeepsLines job given m old.lines.items
      → KeepsLines job given (after_answer job (answer_of_turn job m t) m) new.lines.items
  pub own : (room : ℕ → ℕ) → All (HasRoom room) old.lines.items
      → All (HasRoom room) new.lines.items
  pub sizes : HasLineSizes job new

pub had_line : (job : Job) (old new : Machine) (t : ℕ) (it : Made) → HasLineSizes job old
    → HadTurn (task_at job.graph t).block job old new t it → HadLine job old new t it
had_line job old new t it sizes had = record {
  shows = λ m at. subst (λ a. MadeShows job m t a it) (turn_of_line job old m t sizes)
      (had.shows m at);
  after = λ m at none. subst (λ a. IsMachineAt job (after_answer job a m) new)
      (turn_of_line job old m t sizes) (had.after m at none);
  lines = λ given m at none kept.
      subst (λ a. KeepsLines job given (after_answer job a m) new.lines.items)
      (turn_of_line job old m t sizes) (had.lines given m at none kept);
  own = had.own;
  sizes = λ u there. had.mosts u ∙ sizes u there;
}

-- the tasks in the lists are blocked after the turn
pub turn_blocks_so : (job : Job) (old new : Machine) (m : Moment) (t : ℕ) (it : Made)
    (parked after : List (List ℕ)) → HadLine job old new t it → after ≡ parked_with it t parked
    → IsMachineAt job m old → AreBlocked job m parked
    → AreBlocked job (after_answer job (answer_of_turn job m t) m) after
turn_blocks_so job old new m t it parked after had same at were =
    subst (AreBlocked job (after_answer job (answer_of_turn job m t) m))
    (sym (same ∙ parks_so job m t (answer_of_turn job m t) it parked (had.shows m at)))
    (blocked_after job m old t parked at were)

-- what tells a value out of range sets no task's beginning
started_same : (job : Job) (m : Moment) (answer : Answer) (at : Where)
    → word_of_answer job m answer ≡ Some (TooBig at)
    → started job (after_answer job answer m) ≡ started job m
started_same job m (makes (sample t j p n vs)) at told = refl
started_same job m (makes (signal t j p n vs)) at told = refl
started_same job m (makes (first_wait t k p n outcomes)) at told = refl
started_same job m (makes (exchange_wait t p n outcome)) at told = refl
started_same job m (makes (leave t p n)) at told = refl
started_same job m (makes (child t p n c a mode)) at told = refl
started_same job m (makes (child_now t p n c a)) at told = absurd (cc)
started_same job m is_blocked at told = refl
started_same job m is_gone at told = refl
started_same job m (has_made place) at told = refl
started_same job m is_refused at told = refl

-- what is met after a turn
pub turn_met_so : {steps most : ℕ} {new : Machine} (job : Job) (old : Machine) (m : Moment) (t : ℕ)
    (word : Turned) → MaySize job.graph t steps most → IsMachineAt job m old
    → IsMachineAt job (after_answer job (turn_up_to steps most job m t) m) new
    → HasAnsweredNone job m → tells_up_to steps most job m t ≡ Some (told_of word)
    → HasMet job (after_answer job (turn_up_to steps most job m t) m) (met_by None word)
turn_met_so {steps} {most} {new} job old m t word sized at after none told = by word told
  where
    kept : ((there : Where) → tells_up_to steps most job m t ≢ Some (TooBig there))
        → HasAnsweredNone job (after_answer job (turn_up_to steps most job m t) m)
    kept never = turn_answers_none steps most job m t sized at.graph at.reached none never

    runs : (event : TaskEvent) → turn_up_to steps most job m t ≡ makes event
        → HasRun job (after_turn job event m)
    runs event e = (subst (λ a. IsMachineAt job (after_answer job a m) new) e after).reached.ran

    by : (word : Turned) → tells_up_to steps most job m t ≡ Some (told_of word)
        → HasMet job (after_answer job (turn_up_to steps most job m t) m) (met_by None word)
    by turned.Moved told = kept (λ there same. (let wrong : Some Moved ≡ Some (TooBig there) = sym told ∙ same in cc))
    by turned.Blocked told = kept (λ there same. (let wrong : Some Blocked ≡ Some (TooBig there) = sym told ∙ same in cc))
    by turned.Ended told = kept (λ there same. (let wrong : Some Ended ≡ Some (TooBig there) = sym told ∙ same in cc))
    by turned.Gone told = kept (λ there same. (let wrong : Some Gone ≡ Some (TooBig there) = sym told ∙ same in cc))
    by (turned.TooBig place phase) told = record {
      fault = subst (λ j. IsFaultAt j (place, phase))
          (sym (started_same job m (turn_up_to steps most job m t) (place, phase) told))
          (told_fault steps most job m t (place, phase) sized
          (record { graph = at.graph; apart = at.apart }) at.reached runs told);
      last = turn_answers_one steps most job m t none;
      lines = turn_begins job m old t sized at none;
    }

-- the world stands at the moment after the turn
pub turn_stands_so : (world : WorldState) (new : Machine) (parked : List (List ℕ))
    (met : Option Where) (m : Moment) (t : ℕ) (it : Made) (word : Turned) → world.met ≡ None
    → HadLine world.job world.machine new t it → parked ≡ parked_with it t world.parked
    → word ≡ told_by it t → met ≡ met_by None word → IsWorldAt world m
    → IsWorldAt record { job = world.job; machine = new; met = met; parked = parked }
    (after_turn_of world m t)
turn_stands_so world new parked met m t it word none had same says as_told at =
    subst (IsWorldAt record { job = world.job; machine = new; met = met; parked = parked })
    (sym (as_is world none)) record {
      machine = had.after m at.machine (subst (HasMet world.job m) none at.met);
      lines = had.lines none_given m at.machine (subst (HasMet world.job m) none at.met) at.lines;
      own = had.own (λ t. (span_in (least world.job) t).steps) at.own;
      parked = turn_blocks_so world.job world.machine new m t it world.parked parked had same
          at.machine at.parked;
      met = subst (HasMet world.job (after_answer world.job (answer_of_turn world.job m t) m))
          (sym as_told) (turn_met_so world.job world.machine m t word
          (line_sizes world.job t at.machine.graph) at.machine
          (had.after m at.machine (subst (HasMet world.job m) none at.met))
          (subst (HasMet world.job m) none at.met)
          (turn_tells_so world.job None m t it word refl (had.shows m at.machine) says));
    }
  where
    as_is : (world : WorldState) → world.met ≡ None
        → after_turn_of world m t ≡ after_answer world.job (answer_of_turn world.job m t) m
    as_is world none = rw none refl

-- there are as many lists as before
pub parked_many : (it : Made) (t : ℕ) (parked : List (List ℕ))
    → length (parked_with it t parked) ≡ length parked
parked_many (made.Event p word) t parked = length-set parked p []
parked_many (made.Blocked p) t parked = length-set parked p (with_task t (get_or parked p []))
parked_many (made.OutOfRange step) t parked = refl
parked_many made.Nothing t parked = refl
