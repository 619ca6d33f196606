-- What a task that is given a turn does next, by its state.
use Rattle.std.proofs.Common.{◌≡◌, ◌≢◌, ℕ, List, ◌+◌, ◌*◌, ◌<◌, Bool, true, false, cond, Some, length, get_or, slice_get, refl, sym, ap, ◌∙◌, arith}
use Rattle.std.specs.Prelude.{unwrap_or}
use Rattle.std.proofs.lemmas.Bool.{ltb-true}
use Rattle.std.proofs.lemmas.Option.{slice_get-get_or, slice_get_read}
use Rattle.phase_history.specs.Refusals.{drop_refusal}
use Rattle.graph_base.specs.Registrations.{no_registration}
use Rattle.graph_base.specs.TaskLines.{IsGraph}
use Rattle.stream_lists.specs.Jobs.{Job}
use Rattle.graph_runs.specs.Moments.{Moment}
use Rattle.graph_runs.proofs.OnLines.{on_phaser}
use Rattle.graph_runs.specs.Nexts.{Next, is_not_live, leaves, next_of, is_live, of_live, first_owed, number_on, registrations_at}
use Rattle.graph_runs.specs.TaskEvents.{leave}
use Rattle.graph_runs.specs.Answers.{call_leave, accepted_answer, turn_up_to, answer_up_to}
use Rattle.graph_runs.specs.TaskPlaces.{TaskPlace, StandsUpTo, registration_at}
use Rattle.graph_runs.proofs.Signalling.{live-is}
use Rattle.graph_runs.proofs.Standing.{kept}
use Rattle.graph_runs.proofs.TurnRegistering.{is_for}
use Rattle.stream_job.specs.Places.{place_in_state}
use Rattle.stream_job.specs.Machines.{IsMachineAt, most_in, next_by}
use Rattle.stream_job.specs.Stepping.{IsNextIn}
use Rattle.stream_job.specs.declared.machine.Machine.{Machine}
use Rattle.stream_job.specs.declared.step.Step.{Step}
use Rattle.stream_job.specs.declared.step.Step.TheVariants as step
use Rattle.stream_job.specs.declared.task_state.TaskState.{TaskState}
use Rattle.stream_job.proofs.Ending.{all_numbered, number-at}
use Rattle.stream_job.proofs.Reading.{live_by}

-- a task that does something next is live
pub live_next : (job : Job) (m : Moment) (t : ℕ) (next : Next) → next_of job m t ≡ next
    → next ≢ is_not_live → is_live job m t ≡ true
live_next job m t next is never = by (is_live job m t) refl is
  where
    by : (b : Bool) → is_live job m t ≡ b
        → cond b (of_live job m t (first_owed job m t)) is_not_live ≡ next
        → is_live job m t ≡ true
    by true e is = e
    by false e is = absurd (never (sym is))

-- a step that is one
pub makes_one : (it : Step) → it ≢ step.NotLive → next_by it ≢ is_not_live
makes_one step.NotLive never = λ e. absurd (never (cc))
makes_one (step.Register child) never = λ e. (cc)
makes_one step.Leave never = λ e. (cc)
makes_one step.Sample never = λ e. (cc)
makes_one (step.Signal output) never = λ e. (cc)
makes_one (step.Wait input) never = λ e. (cc)
makes_one step.Exchange never = λ e. (cc)

-- a registration of a task is on a phaser
pub phaser_there : (job : Job) (t k : ℕ) → IsGraph job.graph → t < length job.graph.tasks
    → k < length (registrations_at job t)
    → (registration_at job t k).phaser < length job.graph.phasers
phaser_there job t k is there few =
    on_phaser job t (registration_at job t k).phaser is there (is_for job t k is there few).on_line

-- where a task leaves next
pub record LeavesAt (steps most : ℕ) (job : Job) (m : Moment) (t : ℕ) (at : TaskPlace) : Type 0 where
  pub live : is_live job m t ≡ true
  pub there : t < length job.graph.tasks
  pub all : length at.numbers ≡ length (registrations_at job t)
  pub stays : at.left < length at.numbers
  pub phaser : (registration_at job t at.left).phaser < length job.graph.phasers
  pub answer : let p = (registration_at job t at.left).phaser in
      let n = get_or at.numbers at.left 0 in
      turn_up_to steps most job m t ≡ accepted_answer (leave t p n) (drop_refusal (m.history p) n)

pub leaves_at : {owes : ℕ} (steps most : ℕ) (job : Job) (m : Moment) (t : ℕ) (at : TaskPlace) → IsGraph job.graph
    → StandsUpTo owes job m t at → next_of job m t ≡ leaves → LeavesAt steps most job m t at
leaves_at steps most job m t at is stands next =
    let live = live_next job m t leaves next (λ e. (cc)) in
    let living = live-is job m t live in
    let all = all_numbered job m t at stands live in
    let low = ltb-true at.left (length at.numbers)
    (sym (live_by job m t at stands living.there (omega arith)) ∙ live) in
    let p = (registration_at job t at.left).phaser in
    let n = get_or at.numbers at.left 0 in
    let number : number_on m t p ≡ n =
    ap (λ o. unwrap_or o 0) (number-at job m t at.left at stands low) in
    record {
      live = live;
      there = living.there;
      all = all;
      stays = low;
      phaser = phaser_there job t at.left is living.there (omega arith);
      answer = ap (answer_up_to steps most job m t) next
          ∙ ap (call_leave m t) (kept job m t at stands all
          ∙ slice_get-get_or (registrations_at job t) at.left no_registration (omega arith))
          ∙ ap (λ x. accepted_answer (leave t p x) (drop_refusal (m.history p) x)) number;
    }

-- a task that does something next has a state
pub state_there : {steps : ℕ} {job : Job} {machine : Machine} {t : ℕ} {next : Next}
    → IsNextIn steps job machine t next → next ≢ is_not_live → t < length machine.tasks.items
state_there {job = job} {t = t} {next = next} is never =
    let at = is.some.1 in
    let living = live-is job is.some.0 t (live_next job is.some.0 t next (is.is is.some.0 at) never) in
    omega (arith, at.tasks_many, living.there)

-- which was read
pub state_read : {steps : ℕ} {job : Job} {machine : Machine} {t : ℕ} {next : Next} {state : TaskState}
    → IsNextIn steps job machine t next → next ≢ is_not_live → state ≡ get_or machine.tasks.items t state
    → slice_get machine.tasks.items t ≡ Some state
state_read {machine = machine} {t = t} {state = state} is never read =
    slice_get_read machine.tasks.items (length machine.tasks.items) t state refl
    (state_there is never) read

-- where a task leaves next, by the state that was read
pub leaves_now : {steps : ℕ} (job : Job) (machine : Machine) (m : Moment) (t : ℕ) (state : TaskState)
    → IsNextIn steps job machine t leaves → IsMachineAt job m machine
    → slice_get machine.tasks.items t ≡ Some state
    → LeavesAt steps (most_in machine t) job m t (place_in_state state)
leaves_now {steps} job machine m t state next at found =
    leaves_at steps (most_in machine t) job m t (place_in_state state) at.graph (at.tasks t state found).stands (next.is m at)

-- how many phasers it has left fits the machine's words
pub few_left : {steps : ℕ} (job : Job) (machine : Machine) (t : ℕ) (state : TaskState) (numbers : List ℕ)
    → IsNextIn steps job machine t leaves → slice_get machine.tasks.items t ≡ Some state
    → numbers ≡ state.numbers.items → length numbers * 8 < 9223372036854775808
    → (state.left < length numbers) × (state.left * 8 < 18446744073709551616)
    × (state.left + 1 < 18446744073709551616)
few_left job machine t state numbers next found same small =
    let low = (leaves_now job machine next.some.0 t state next next.some.1 found).stays in
    let long : length numbers ≡ length state.numbers.items = ap length same in
    (omega arith, omega arith, omega arith)
