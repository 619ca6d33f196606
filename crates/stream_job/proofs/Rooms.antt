-- The line of a sink has room for the values of its next wait.
use Rattle.std.proofs.Common.{◌≡◌, ℕ, ◌+◌, ◌<◌, ◌≤◌, Bool, true, false, cond, List, [], Option, Some, None, length, get_or, slice_get, set, ℤ, refl, sym, ap, subst, ◌∙◌, arith, inr, map}
use Rattle.std.specs.Prelude.{IfSome, vec_capacity}
use Rattle.std.specs.List.{All, range_with_len}
use Rattle.std.proofs.lemmas.List.{get_or-map}
use Rattle.std.proofs.lemmas.List.Elements.{All-get_or, All-set}
use Rattle.std.proofs.lemmas.Bool.{eq-eqb}
use Rattle.std.proofs.lemmas.Option.{slice_get_within, get_or_from_slice_get}
use Rattle.phase_accum.specs.declared.outcome.Outcome.{Outcome}
use Rattle.graph_base.specs.declared.line.Kind.TheVariants.{Sink}
use Rattle.graph_base.specs.Graphs.{task_at}
use Rattle.stream_lists.specs.Jobs.{Job, least}
use Rattle.stream_lists.specs.Lists.{is_sink_at, sinks_of}
use Rattle.stream_lists.specs.Spans.{span_in, takes_from}
use Rattle.stream_eval.specs.declared.whole.Lines.{Lines}
use Rattle.stream_lists.proofs.Starts.{fewer_steps}
use Rattle.stream_lists.proofs.Basics.{sink_kind}
use Rattle.graph_runs.specs.Moments.{Moment, IsRegistered, input_at, started}
use Rattle.graph_runs.specs.Moves.{further}
use Rattle.graph_runs.proofs.Nexts.{further-length}
use Rattle.graph_runs.specs.Settled.{IsReady, Stands}
use Rattle.graph_runs.proofs.Whole.{stands_all}
use Rattle.graph_runs.proofs.Started.{run_started, ready_as}
use Rattle.graph_runs.proofs.StepsLemmas.{has_inputs}
use Rattle.graph_runs.specs.Nexts.{next_of, waits, number_on}
use Rattle.graph_runs.specs.Answers.{makes, after_answer}
use Rattle.graph_runs.specs.Reached.{IsReachable}
use Rattle.graph_runs.specs.TaskEvents.{first_wait, after_turn}
use Rattle.graph_runs.proofs.Boundaries.{all_taken}
use Rattle.graph_runs.proofs.Signalling.{Live, live-is, number_there}
use Rattle.stream_job.specs.Stepping.{HasRoomAt, HasRoomIn}
use Rattle.stream_job.specs.Machines.{HasRoom, IsLineOf, IsMachineAt, KeepsLines, kept_behind, none_given}
use Rattle.stream_job.specs.declared.machine.Machine.{Machine}
use Rattle.stream_job.specs.declared.task_state.TaskState.{TaskState}
use Rattle.stream_job.specs.SinkLines.{kept_by}
use Rattle.stream_job.specs.Turning.{turn_in}
use Rattle.stream_job.proofs.SinksKeep.{kept_within}
use Rattle.stream_job.proofs.Lively.{live_next}
use Rattle.stream_job.proofs.Waits.{waits_few}
use Rattle.stream_job.proofs.WhatNext.{Begins, waits_begins}

-- the line of a sink is its task's, with what the task keeps behind what it has handed over
pub line_is : (job : Job) (given : ℕ → List ℤ) (m : Moment) (lines : List Lines) (i t : ℕ)
    (line : Lines) → KeepsLines job given m lines → slice_get (sinks_of job) i ≡ Some t
    → slice_get lines i ≡ Some line → kept_behind given line ≡ (t, kept_by job m t)
line_is job given m lines i t line kept sink found =
    let f : ℕ → ℕ × List ℤ = λ u. (u, kept_by job m u) in
    let none : ℕ × List ℤ = (0, []) in
    sym (ap (kept_behind given) (get_or_from_slice_get lines i line line found))
    ∙ sym (get_or-map (kept_behind given) lines i line none (slice_get_within lines i line found))
    ∙ ap (λ xs. get_or xs i none) kept.values
    ∙ get_or-map f (sinks_of job) i t none (slice_get_within (sinks_of job) i t sink)
    ∙ ap f (get_or_from_slice_get (sinks_of job) i t t sink)

-- a task that waits for its next steps makes no more than its span has
steps_left : (job : Job) (m : Moment) (t k p n : ℕ) (outcomes : List Outcome) → IsReady job
    → Live job m t → k < length (task_at job.graph t).inputs
    → IsReachable job (after_turn job (first_wait t k p n outcomes) m)
    → m.number (input_at (task_at job.graph t) k) t
    ≡ Some (number_on m t (input_at (task_at job.graph t) k))
    → m.begun t + length outcomes ≤ (span_in (least job) t).steps
steps_left job m t k p n outcomes ready live few reached numbered =
    let after = after_turn job (first_wait t k p n outcomes) m in
    let q = input_at (task_at job.graph t) k in
    let registered : IsRegistered after t = (q, number_on m t q, numbered) in
    let s : Stands (started job after) after t =
    stands_all (started job after) after (ready_as job after ready)
    (run_started job after reached.ran)
    t live.there registered in
    let within : after.begun t ≤ (span_in (started job after) t).steps = s.within in
    let most : (span_in (started job after) t).steps ≤ (span_in (least job) t).steps =
    fewer_steps job (map after.offset (range_with_len 0 (length job.graph.tasks))) t ready.graph
    live.there in
    let begun : after.begun t ≡ further (m.begun t) outcomes =
    ap (λ b. cond b (further (m.begun t) outcomes) (m.begun t)) (eq-eqb t t refl) in
    omega (arith, further-length (m.begun t) outcomes)

-- there is room for what a turn gets, at one moment
room_at : (steps : ℕ) (job : Job) (old : Machine) (m : Moment) (t k p n : ℕ) (outcomes : List Outcome)
    (state : TaskState) → KeepsLines job none_given m old.lines.items
    → All (IsLineOf job) old.lines.items
    → IsReachable job (after_answer job (turn_in steps job old m t) m) → IsMachineAt job m old
    → next_of job m t ≡ waits k → turn_in steps job old m t ≡ makes (first_wait t k p n outcomes)
    → slice_get old.tasks.items t ≡ Some state → (task_at job.graph t).kind ≡ Sink
    → HasRoomIn old.lines.items (length outcomes) state.sink
room_at steps job old m t k p n outcomes state kept owns stays at next answer found kind =
    room state.sink ((at.tasks t state found).sink kind)
  where
    live : Live job m t
    live = live-is job m t (live_next job m t (waits k) next (λ e. absurd (cc)))

    few : k < length (task_at job.graph t).inputs
    few = waits_few job m t k at.graph next

    numbered : m.number (input_at (task_at job.graph t) k) t
        ≡ Some (number_on m t (input_at (task_at job.graph t) k))
    numbered =
        number_there job m t (input_at (task_at job.graph t) k) at.graph live (inr (k, few, refl))

    after : IsReachable job (after_turn job (first_wait t k p n outcomes) m)
    after = subst (λ a. IsReachable job (after_answer job a m)) answer stays

    room : (i : ℕ) → slice_get (sinks_of job) i ≡ Some t
        → HasRoomIn old.lines.items (length outcomes) i
    room i place = λ line read.
        let here : kept_behind none_given line ≡ (t, kept_by job m t) =
        line_is job none_given m old.lines.items i t line kept place read in
        let owner : line.task ≡ t = ap (λ x. x.0) here in
        let long : length line.values.items ≡ length (kept_by job m t) = ap (λ x. length x.1) here in
        let b : Begins job m t k = waits_begins job m t k next in
        let some : 0 < length (task_at job.graph t).inputs =
        has_inputs (task_at job.graph t).kind (length (task_at job.graph t).inputs)
        (length (task_at job.graph t).outputs) (at.graph.tasks t live.there).ends b.kind in
        let less : length (kept_by job m t) ≤ length (m.taken t 0) =
        kept_within job m t at.reached.ran live.there some in
        let all : length (m.taken t 0) ≡ takes_from (task_at job.graph t) (m.begun t) 0 =
        all_taken job m t at.graph (at.reached.ran.tasks t live.there) live.there b.step.none 0 some in
        let plain : takes_from (task_at job.graph t) (m.begun t) 0 ≡ m.begun t = rw kind refl in
        let more : m.begun t + length outcomes ≤ (span_in (least job) t).steps =
        steps_left job m t k p n outcomes (record { graph = at.graph; apart = at.apart }) live few after
        numbered in
        let lt = slice_get_within old.lines.items i line read in
        let own : IsLineOf job line =
        subst (IsLineOf job) (get_or_from_slice_get old.lines.items i line line read)
        (All-get_or (IsLineOf job) old.lines.items i line lt owns) in
        let enough : (span_in (least job) line.task).steps ≤ vec_capacity line.values = own.room in
        let same : (span_in (least job) line.task).steps ≡ (span_in (least job) t).steps =
        ap (λ u. (span_in (least job) u).steps) owner in
        omega (arith, line.values.ok.0)

-- where the lines keep all, and have room for all, there is room for what a turn gets
pub sink_room : (steps : ℕ) (job : Job) (old : Machine) (m : Moment) (t : ℕ)
    → KeepsLines job none_given m old.lines.items → All (IsLineOf job) old.lines.items
    → IsReachable job (after_answer job (turn_in steps job old m t) m) → IsMachineAt job m old
    → HasRoomAt steps job old t m
sink_room steps job old m t kept owns stays at = λ k p n outcomes state next answer found sink.
    room_at steps job old m t k p n outcomes state kept owns stays at next answer found
    (sink_kind (task_at job.graph t).kind sink)

-- as the code has the place of the line
pub room_of : (job : Job) (old : Machine) (t : ℕ) (outcomes : List Outcome) (state : TaskState)
    (sink : Option ℕ) → sink ≡ cond (is_sink_at job t) (Some state.sink) None
    → (is_sink_at job t ≡ true → HasRoomIn old.lines.items (length outcomes) state.sink)
    → IfSome sink (HasRoomIn old.lines.items (length outcomes))
room_of job old t outcomes state sink is room =
    subst (λ o. IfSome o (HasRoomIn old.lines.items (length outcomes))) (sym is)
    (by (is_sink_at job t) refl)
  where
    by : (b : Bool) → is_sink_at job t ≡ b
        → IfSome (cond b (Some state.sink) None) (HasRoomIn old.lines.items (length outcomes))
    by true e = room e
    by false e = tt

-- a line that has taken values has the room that it had
pub line_kept : (needs : ℕ → ℕ) (lines : List Lines) (i : ℕ) (read kept : Lines)
    → i < length lines → read ≡ get_or lines i read → kept.task ≡ read.task
    → vec_capacity kept.values ≡ vec_capacity read.values → All (HasRoom needs) lines
    → All (HasRoom needs) (set lines i kept)
line_kept needs lines i read kept lt is owner same all =
    let was : HasRoom needs read =
    subst (HasRoom needs) (sym is) (All-get_or (HasRoom needs) lines i read lt all) in
    let same_steps : needs kept.task ≡ needs read.task = ap needs owner in
    let enough : needs read.task ≤ vec_capacity read.values = was.room in
    let room : vec_capacity kept.values ≡ vec_capacity read.values = same in
    All-set (HasRoom needs) lines i kept (record { room = omega arith }) all
