-- The line of a sink that joins now begins.
use Rattle.std.proofs.Common.{◌≡◌, ◌≢◌, ℕ, ◌<◌, ◌≤◌, Bool, true, false, List, Option, Some, None, length, get_or, slice_get, set, map, refl, sym, ap, subst, ◌∙◌, arith, ◌⊎◌, inl, inr}
use Rattle.std.specs.Prelude.{IsSome, option_map}
use Rattle.std.specs.List.{All}
use Rattle.std.proofs.lemmas.Bool.{cases_lt, eq-eqb, ne_eqb}
use Rattle.std.proofs.lemmas.List.{map-set, get_or_past}
use Rattle.std.proofs.lemmas.List.Elements.{All-get_or, All-set}
use Rattle.std.proofs.lemmas.Option.{slice_get_within}
use Rattle.graph_base.specs.declared.line.Parent.{Parent}
use Rattle.graph_base.specs.Graphs.{task_at, no_task}
use Rattle.graph_base.specs.TaskLines.{IsGraph}
use Rattle.stream_lists.specs.Jobs.{Job}
use Rattle.stream_lists.specs.Lists.{is_sink_at, sinks_of}
use Rattle.stream_eval.specs.declared.whole.Lines.{Lines}
use Rattle.graph_runs.specs.Beginnings.{opening, root_number}
use Rattle.graph_runs.specs.Moments.{Moment, input_at}
use Rattle.stream_job.specs.SinkLines.{sink_begins_at}
use Rattle.stream_job.specs.Machines.{IsMachineAt, HasRoom, kept_behind}
use Rattle.stream_job.specs.Stepping.{begins_with, LineHasBegun}
use Rattle.stream_job.specs.declared.machine.Machine.{Machine}
use Rattle.stream_job.specs.declared.task_state.TaskState.{TaskState}
use Rattle.stream_job.proofs.SinkLines.{line_stays, map_same, one_set, filter_ascends}

-- the place of the line of a sink that joins now
pub now_place : (job : Job) (m : Moment) (machine : Machine) (c : ℕ) (state : TaskState)
    → IsMachineAt job m machine → c < length job.graph.tasks
    → slice_get machine.tasks.items c ≡ Some state → (task_at job.graph c).joins_now ≡ true
    → slice_get (sinks_of job) state.sink ≡ Some c
now_place job m machine c state at there found now =
    (at.tasks c state found).sink ((at.graph.tasks c there).now now).0

-- it is there
pub now_line : (job : Job) (m : Moment) (machine : Machine) (c : ℕ) (state : TaskState)
    → IsMachineAt job m machine → c < length job.graph.tasks
    → slice_get machine.tasks.items c ≡ Some state → (task_at job.graph c).joins_now ≡ true
    → state.sink < length machine.lines.items
now_line job m machine c state at there found now =
    let within = slice_get_within (sinks_of job) state.sink c
    (now_place job m machine c state at there found now) in
    let many = at.lines_many in
    omega arith

-- at this phase
pub lines_begin : (job : Job) (m : Moment) (machine : Machine) (c phase : ℕ) (state : TaskState)
    (lines : List Lines) (read : Lines) → IsMachineAt job m machine
    → c < length job.graph.tasks → slice_get machine.tasks.items c ≡ Some state
    → (task_at job.graph c).joins_now ≡ true → lines ≡ machine.lines.items
    → read ≡ get_or lines state.sink read
    → LineHasBegun job m c phase machine.lines.items
    (set lines state.sink (record read { start = Some phase }))
lines_begin job m machine c phase state lines read at there found now same is =
    let i = state.sink in
    let new : Lines = record read { start = Some phase } in
    let place = now_place job m machine c state at there found now in
    let below = now_line job m machine c state at there found now in
    let lt : i < length lines = subst (λ l. i < length l) (sym same) below in
    record {
      values = λ given. line_stays (kept_behind given) lines i read new is refl
          ∙ ap (map (kept_behind given)) same;
      starts = λ starts. map-set (λ line. line.start) lines i new
          ∙ ap (λ l. set (map (λ line. line.start) l) i (Some phase)) same
          ∙ ap (λ starts. set starts i (Some phase)) starts
          ∙ ap (λ o. set (map (sink_begins_at job m) (sinks_of job)) i o) (sym here)
          ∙ one_set (sink_begins_at job m) (begins_with job m c phase) c 0 i (sinks_of job)
          (filter_ascends (is_sink_at job) 0 (length job.graph.tasks)) place
          (λ u apart. sym (other u apart));
      own = λ room all.
          (let own : All (HasRoom room) lines = subst (All (HasRoom room)) (sym same) all in
          let was : HasRoom room read =
          subst (HasRoom room) (sym is) (All-get_or (HasRoom room) lines i read lt own) in
          All-set (HasRoom room) lines i new (record { room = was.room }) own);
    }
  where
    here : begins_with job m c phase c ≡ Some phase
    here = let yes = eq-eqb c c refl in rw now (rw yes refl)

    other : (u : ℕ) → u ≢ c → begins_with job m c phase u ≡ sink_begins_at job m u
    other u apart = let no = ne_eqb u c apart in rw now (rw no refl)

-- where the child does not join now, the lines are as they were
pub lines_plain : (job : Job) (m : Moment) (machine : Machine) (c phase : ℕ) (lines : List Lines)
    → (task_at job.graph c).joins_now ≡ false
    → lines ≡ machine.lines.items → LineHasBegun job m c phase machine.lines.items lines
lines_plain job m machine c phase lines now same = record {
  values = λ given. ap (map (kept_behind given)) same;
  starts = λ starts. ap (map (λ line. line.start)) same ∙ starts
      ∙ map_same (sink_begins_at job m) (begins_with job m c phase) (sinks_of job) (λ u. sym (plain u));
  own = λ room all. subst (All (HasRoom room)) (sym same) all;
}
  where
    plain : (u : ℕ) → begins_with job m c phase u ≡ sink_begins_at job m u
    plain u = rw now refl

-- at the opening no sink that joins now has begun
pub opened_begins : (job : Job) (t : ℕ) → IsGraph job.graph → sink_begins_at job (opening job) t ≡ None
opened_begins job t is = by (task_at job.graph t).joins_now refl
  where
    q : ℕ
    q = input_at (task_at job.graph t) 0

    child : (o : Option Parent) → (task_at job.graph t).parent ≡ o → IsSome o
        → root_number job q t ≡ None
    child (Some u) e some = rw e refl
    child None e some = absurd (cc)

    within : (task_at job.graph t).joins_now ≡ true
        → (t < length job.graph.tasks) ⊎ (length job.graph.tasks ≤ t)
        → root_number job q t ≡ None
    within now (inl there) =
        child (task_at job.graph t).parent refl ((is.tasks t there).now now).1
    within now (inr past) =
        let none : (task_at job.graph t).joins_now ≡ false =
        ap (λ task. task.joins_now) (get_or_past job.graph.tasks t no_task past) in
        absurd (let wrong : true ≡ false = sym now ∙ none in cc)

    by : (b : Bool) → (task_at job.graph t).joins_now ≡ b → sink_begins_at job (opening job) t ≡ None
    by false now = rw now refl
    by true now =
        let number : root_number job q t ≡ None =
        within now (cases_lt t (length job.graph.tasks)) in
        rw now (ap (option_map (λ n. (opening job).offset t)) number)
