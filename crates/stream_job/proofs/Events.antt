-- A machine after one event of a turn: the phaser has the event's history, one task has its new
-- state, and all others are as they were.
use Rattle.std.proofs.Common.{◌≡◌, ◌≢◌, ℕ, ◌<◌, Bool, true, false, eqb, List, Some, None, length, slice_get, set, refl, sym, ap, subst, ◌∙◌, arith}
use Rattle.std.proofs.lemmas.Bool.{eqb-true, ne_eqb, eq-eqb}
use Rattle.std.proofs.lemmas.List.{length-set}
use Rattle.std.proofs.lemmas.Option.{slice_get_within}
use Rattle.graph_base.specs.Graphs.{task_at}
use Rattle.graph_base.specs.TaskLines.{IsGraph}
use Rattle.stream_lists.specs.Jobs.{Job}
use Rattle.graph_runs.specs.Moments.{Moment}
use Rattle.graph_runs.specs.TaskEvents.{TaskEvent, sample, signal, first_wait, exchange_wait, leave, child, child_now, after_turn}
use Rattle.graph_runs.specs.Answers.{makes, after_answer, turn_up_to}
use Rattle.graph_runs.specs.Reached.{IsReachable}
use Rattle.graph_runs.specs.TaskPlaces.{child_of}
use Rattle.graph_runs.proofs.Whose.{task_of}
use Rattle.stream_job.proofs.Makes.{makes_event}
use Rattle.graph_runs.proofs.PlacesFollow.{others_follow}
use Rattle.graph_runs.specs.Steps.{HasFilter}
use Rattle.stream_job.specs.SinkLines.{sink_begins_at}
use Rattle.stream_job.specs.Places.{IsTaskAt, place_in_state}
use Rattle.stream_job.specs.Machines.{IsMachineAt, HasCores, UsesFew}
use Rattle.stream_job.specs.declared.machine.Machine.{Machine}
use Rattle.stream_job.specs.declared.task_state.TaskState.{TaskState}
use Rattle.stream_job.proofs.Setting.{slice_get-set_same, slice_get-set_other, same_cores}
use Rattle.graph_runs.specs.Turned.{with_at}
use Rattle.graph_runs.specs.NextBlocks.{MaySize}

-- what another task has taken
pub taken_other : (job : Job) (m : Moment) (event : TaskEvent) (u k : ℕ) → u ≢ task_of event
    → (after_turn job event m).taken u k ≡ m.taken u k
taken_other job m (sample t j p n vs) u k apart = refl
taken_other job m (signal t j p n vs) u k apart = refl
taken_other job m (first_wait t i p n outcomes) u k apart = rw (ne_eqb u t apart) refl
taken_other job m (exchange_wait t p n outcome) u k apart = rw (ne_eqb u t apart) refl
taken_other job m (leave t p n) u k apart = refl
taken_other job m (child t p n c a mode) u k apart = refl
taken_other job m (child_now t p n c a) u k apart = refl

-- an event that registers no child leaves where each sink begins
pub begins_same : (job : Job) (m : Moment) (event : TaskEvent) (u : ℕ) → child_of event ≡ None
    → sink_begins_at job m u ≡ sink_begins_at job (after_turn job event m) u
begins_same job m (sample t j p n vs) u none = refl
begins_same job m (signal t j p n vs) u none = refl
begins_same job m (first_wait t i p n outcomes) u none = refl
begins_same job m (exchange_wait t p n outcome) u none = refl
begins_same job m (leave t p n) u none = refl
begins_same job m (child t p n c a mode) u none = absurd (cc)
begins_same job m (child_now t p n c a) u none = absurd (cc)

-- another task is as it was
pub keeps_other : {steps most : ℕ} (job : Job) (m : Moment) (t u : ℕ) (event : TaskEvent)
    (state : TaskState) → MaySize job.graph t steps most → IsGraph job.graph → IsReachable job m → turn_up_to steps most job m t ≡ makes event
    → u < length job.graph.tasks → u ≢ t → child_of event ≢ Some u → IsTaskAt job m u state
    → IsTaskAt job (after_turn job event m) u state
keeps_other job m t u event state sized is reached answer there apart another at =
    let made = makes_event job m t event sized is reached answer in
    let own : task_of event ≡ t = made.own in
    let taken : (after_turn job event m).taken u 0 ≡ m.taken u 0 =
    taken_other job m event u 0 (λ same. apart (same ∙ own)) in
    record {
      stands = others_follow job m u event (place_in_state state) is reached.ran made.next there
          (λ same. apart (same ∙ own)) another at.stands;
      room = at.room;
      filter = subst (HasFilter (task_at job.graph u) state.filter) (sym taken) at.filter;
      most = at.most;
      made_room = at.made_room;
      made_by = at.made_by;
      made_none = at.made_none;
      sink = at.sink;
    }

-- one state is set
pub set_state : (job : Job) (after : Moment) (tasks : List TaskState) (x : ℕ) (state : TaskState)
    → length tasks ≡ length job.graph.tasks → x < length job.graph.tasks
    → IsTaskAt job after x state
    → ((u : ℕ) (other : TaskState) → u < length job.graph.tasks → u ≢ x
    → slice_get tasks u ≡ Some other → IsTaskAt job after u other)
    → (u : ℕ) (other : TaskState) → slice_get (set tasks x state) u ≡ Some other
    → IsTaskAt job after u other
set_state job after tasks x state many there here others u other found = by (eqb u x) refl
  where
    by : (b : Bool) → eqb u x ≡ b → IsTaskAt job after u other
    by true e =
        let same : x ≡ u = sym (eqb-true u x e) in
        let it : state ≡ other =
        slice_get-set_same tasks x state other (omega arith)
        (subst (λ n. slice_get (set tasks x state) n ≡ Some other) (sym same) found) in
        subst (λ s. IsTaskAt job after u s) it (subst (λ n. IsTaskAt job after n state) same here)
    by false e =
        let apart : u ≢ x = λ same. (
        let yes : eqb u x ≡ true = ap (λ n. eqb n x) same ∙ eq-eqb x x refl in
        let wrong : true ≡ false = sym yes ∙ e in cc) in
        let within = slice_get_within (set tasks x state) u other found in
        let long = length-set tasks x state in
        others u other (omega arith) apart (slice_get-set_other tasks x u state other apart found)

-- the machine after an event that registers no child
pub after_own : {steps most : ℕ} (job : Job) (m : Moment) (old new : Machine) (t : ℕ) (event : TaskEvent)
    (state : TaskState) → MaySize job.graph t steps most → IsMachineAt job m old → turn_up_to steps most job m t ≡ makes event
    → child_of event ≡ None → t < length job.graph.tasks
    → IsReachable job (after_answer job (turn_up_to steps most job m t) m)
    → UsesFew job (after_answer job (turn_up_to steps most job m t) m)
    → HasCores job (after_turn job event m).history new.cores.items
    → new.tasks.items ≡ set old.tasks.items t state
    → IsTaskAt job (after_turn job event m) t state
    → length new.lines.items ≡ length old.lines.items
    → IsMachineAt job (after_answer job (turn_up_to steps most job m t) m) new
after_own job m old new t event state sized at answer none there reached few cores tasks here lines =
    let after = after_turn job event m in
    let long = length-set old.tasks.items t state in
    let many : length new.tasks.items ≡ length (set old.tasks.items t state) = ap length tasks in
    let before = at.tasks_many in
    let all = set_state job after old.tasks.items t state at.tasks_many there here
    (λ u other within apart found. keeps_other job m t u event other sized at.graph at.reached answer
    within apart (λ same. (let wrong : None ≡ Some u = sym none ∙ same in cc))
    (at.tasks u other found)) in
    subst (λ a. IsMachineAt job (after_answer job a m) new) (sym answer) record {
      graph = at.graph;
      apart = at.apart;
      reached = subst (λ a. IsReachable job (after_answer job a m)) answer reached;
      few = subst (λ a. UsesFew job (after_answer job a m)) answer few;
      cores = cores;
      tasks_many = omega arith;
      tasks = λ u other found. all u other
          (subst (λ xs. slice_get xs u ≡ Some other) tasks found);
      lines_many = lines ∙ at.lines_many;
    }

-- a machine of which nothing but a core was asked
pub unchanged : (job : Job) (m : Moment) (old new : Machine) (p : ℕ) → IsMachineAt job m old
    → HasCores job (with_at p (m.history p) m.history) new.cores.items → new.tasks ≡ old.tasks
    → new.lines ≡ old.lines → IsMachineAt job m new
unchanged job m old new p at cores tasks lines = record {
  graph = at.graph;
  apart = at.apart;
  reached = at.reached;
  few = at.few;
  cores = same_cores job m.history p new.cores.items cores;
  tasks_many = ap (λ v. length v.items) tasks ∙ at.tasks_many;
  tasks = λ u state found. at.tasks u state
      (subst (λ v. slice_get v.items u ≡ Some state) tasks found);
  lines_many = ap (λ l. length l.items) lines ∙ at.lines_many;
}
