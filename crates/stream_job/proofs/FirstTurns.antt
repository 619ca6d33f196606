-- The turn of a task that waits for its next steps.
use Rattle.std.proofs.Common.{◌≡◌, ◌≢◌, ℕ, ℤ, List, ◌+◌, ◌<◌, ◌≤◌, Bool, true, false, cond, [], ◌∷◌, ◌++◌, Option, Some, None, length, slice_get, set, map, refl, sym, ap, subst, ◌∙◌, arith}
use Rattle.std.specs.Prelude.{Result, Ok, Err, IfSome, slice_range}
use Rattle.std.specs.List.{All}
use Rattle.std.proofs.lemmas.List.{length-map}
use Rattle.std.proofs.lemmas.Option.{slice_get_within}
use Rattle.std.proofs.lemmas.Bool.{eq-eqb}
use Rattle.phase_accum.specs.declared.outcome.Outcome.{Outcome}
use Rattle.phase_history.specs.declared.event.Event.TheVariants.{Waited}
use Rattle.phase_history.specs.declared.got.GotBlock.TheVariants as block
use Rattle.phase_history.specs.declared.refusal.WaitRefusal.{WaitRefusal}
use Rattle.phase_history.specs.Histories.{done_of}
use Rattle.phase_base.specs.declared.limits.TheConstants.{PHASES_MAX}
use Rattle.phase_history.specs.Phases.{stream_of}
use Rattle.phase_history.specs.Replies.{wait_block_reply}
use Rattle.graph_base.specs.declared.line.Kind.TheVariants.{Source, Fir, Split, Decimate, Join, Peer, Sink}
use Rattle.graph_base.specs.declared.line.Kind.{Kind}
use Rattle.graph_base.specs.Graphs.{Task, task_at}
use Rattle.graph_base.specs.TaskLines.{IsGraph}
use Rattle.stream_lists.specs.Jobs.{Job}
use Rattle.stream_lists.specs.Lists.{number, sinks_of, is_sink_at}
use Rattle.stream_lists.proofs.Basics.{sink_kind}
use Rattle.graph_runs.specs.Moments.{Moment, HasRun, HasAnsweredNone, limits_at, value_at, first_input}
use Rattle.graph_runs.specs.Moves.{further, IsBlock}
use Rattle.graph_runs.proofs.Blocks.{block_few}
use Rattle.graph_runs.proofs.Stepping.{owes_nothing}
use Rattle.stream_filters.specs.declared.fault.TooBigValue.{TooBigValue}
use Rattle.graph_runs.specs.NextBlocks.{block_up_to, MaySize}
use Rattle.graph_runs.proofs.Nexts.{further-length}
use Rattle.graph_runs.specs.Turned.{with_at}
use Rattle.graph_runs.specs.Nexts as turns
use Rattle.graph_runs.specs.Nexts.{Next, is_live, next_of, number_on}
use Rattle.graph_runs.specs.Reached.{IsReachable}
use Rattle.graph_runs.specs.TaskEvents.{TaskEvent, first_wait, after_turn}
use Rattle.graph_runs.specs.Answers.{makes, is_blocked, after_answer, block_answer, told_got, turn_up_to}
use Rattle.graph_runs.specs.TaskPlaces as places
use Rattle.graph_runs.specs.TaskPlaces.{TaskPlace, StandsUpTo, owed_after_exchange}
use Rattle.graph_runs.proofs.Turning.{turn_makes_next}
use Rattle.graph_runs.proofs.InOrder.{event_owes}
use Rattle.graph_runs.proofs.FirstWaits.{first_wait_follows}
use Rattle.graph_runs.specs.Steps.{HasFilter}
use Rattle.graph_runs.specs.declared.owed.Owed.{Owed}
use Rattle.graph_runs.specs.declared.owed.Owed.TheVariants as code
use Rattle.stream_job.specs.Stepping.{with_more}
use Rattle.stream_job.specs.Places.{place_in_state, owed_in, MaySignal, StateHasTaken}
use Rattle.stream_job.specs.Machines.{IsMachineAt, HasCores, KeepsLines, HasRoom, kept_behind, most_in}
use Rattle.stream_job.specs.Turning.{HadTurn, MadeShows, told_of, turn_in}
use Rattle.stream_job.specs.declared.machine.Machine.{Machine}
use Rattle.stream_job.specs.declared.task_state.TaskState.{TaskState}
use Rattle.stream_job.specs.declared.made.Made.{Made}
use Rattle.stream_job.specs.declared.made.Made.TheVariants.{Event, Blocked}
use Rattle.stream_job.specs.declared.turned.Turned.{Turned}
use Rattle.stream_job.specs.SinkLines.{kept_by, kept_of}
use Rattle.stream_job.proofs.LinesAfter.{starts_stay}
use Rattle.stream_job.proofs.SinksKeep.{lines_keep, lines_stay}
use Rattle.stream_job.proofs.Begun.{begun_few}
use Rattle.stream_job.proofs.Makes.{makes_event}
use Rattle.stream_job.proofs.Mosts.{most_is, mosts_set, stands_in}
use Rattle.stream_job.proofs.WhatNext.{waits_begins}
use Rattle.stream_job.proofs.SignalCalls.{blocked_turn}
use Rattle.stream_job.proofs.Events.{after_own, unchanged}
use Rattle.stream_job.proofs.Waits.{AsksFirst, GotAll, blocks_all, done_few, first_so, first_waits_at, told_is}

-- ---- the first wait of a step

-- what the task takes is on its first input where that is looked at by a filter or a sink
pub first_is : (job : Job) (m : Moment) (t k n p : ℕ) (outcomes : List Outcome) → k ≡ 0
    → (after_turn job (first_wait t k p n outcomes) m).taken t 0
    ≡ m.taken t 0 ++ map number outcomes
first_is job m t k n p outcomes first =
    subst (λ i. with_at t (with_at i (m.taken t i ++ map number outcomes) (m.taken t)) m.taken t 0
    ≡ m.taken t 0 ++ map number outcomes) (sym first)
    (ap (λ b. cond b (with_at 0 (m.taken t 0 ++ map number outcomes) (m.taken t)) (m.taken t) 0)
    (eq-eqb t t refl))

-- a filter's first input is its only one, as a sink's
pub zero_first : (task : Task) (b k : ℕ) (kind : Kind) → task.kind ≡ kind → kind ≢ Join
    → k ≡ first_input task b → k ≡ 0
zero_first task b k kind is not first = first ∙ by kind is not
  where
    by : (kind : Kind) → task.kind ≡ kind → kind ≢ Join → first_input task b ≡ 0
    by Source e never = rw e refl
    by Fir e never = rw e refl
    by Split e never = rw e refl
    by Decimate e never = rw e refl
    by Join e never = absurd (never refl)
    by Peer e never = rw e refl
    by Sink e never = rw e refl

-- the place of a state that took these
pub taken_place : (most : ℕ) (job : Job) (after : Moment) (t : ℕ) (outcomes : List Outcome) (taken : List ℤ)
    (old new : TaskState) → StateHasTaken (task_at job.graph t) (map number outcomes) old new
    → HasFilter (task_at job.graph t) old.filter taken
    → StandsUpTo most job after t (record (place_in_state old) {
      begun = further old.begun outcomes;
      owed = places.owed_after_wait (task_at job.graph t) old.begun taken (map number outcomes);
    }) → StandsUpTo most job after t (place_in_state new)
taken_place most job after t outcomes taken old new took has stands =
    let owes = places.owed_after_wait (task_at job.graph t) old.begun taken (map number outcomes) in
    let many : further old.begun outcomes ≡ old.begun + length outcomes =
    further-length old.begun outcomes in
    let all : new.begun ≡ old.begun + length (map number outcomes) = took.begun in
    let long : length (map number outcomes) ≡ length outcomes = length-map outcomes number in
    let steps : further old.begun outcomes ≡ new.begun = omega arith in
    subst (λ o. StandsUpTo most job after t (record (place_in_state new) { owed = o })) (sym (took.owed taken has))
    (subst (λ b. StandsUpTo most job after t (record (place_in_state new) { begun = b; owed = owes })) steps
    (subst (λ l. StandsUpTo most job after t (record (place_in_state new) {
      left = l;
      begun = further old.begun outcomes;
      owed = owes;
    })) (sym took.left)
    (subst (λ v. StandsUpTo most job after t (record (place_in_state old) {
      numbers = v.items;
      begun = further old.begun outcomes;
      owed = owes;
    })) (sym took.numbers) stands)))

-- the place of a task after the first wait of its next steps
pub first_stands : {allowed most : ℕ} (job : Job) (m : Moment) (t k p n : ℕ) (outcomes : List Outcome)
    (at : TaskPlace) → MaySize job.graph t allowed most → t < length job.graph.tasks → IsGraph job.graph → IsReachable job m
    → HasRun job (after_turn job (first_wait t k p n outcomes) m)
    → turn_up_to allowed most job m t ≡ makes (first_wait t k p n outcomes) → StandsUpTo most job m t at
    → StandsUpTo most job (after_turn job (first_wait t k p n outcomes) m) t (record at {
      begun = further at.begun outcomes;
      owed = places.owed_after_wait (task_at job.graph t) at.begun (m.taken t 0)
          (map number outcomes);
    })
first_stands {allowed} {most} job m t k p n outcomes at sized there is reached now answer stands =
    let event = first_wait t k p n outcomes in
    first_wait_follows allowed most job m t k p n outcomes at (sized there) is reached.ran
    (turn_makes_next allowed most job m t event sized is reached.ran (λ c due. reached.to_come) answer) now
    (event_owes allowed most job m t event answer) stands

-- what the turn answers where the wait got values
pub first_answer : {allowed : ℕ} (job : Job) (old : Machine) (m : Moment) (t k n p steps phase count : ℕ)
    (outcomes : List Outcome) (state : TaskState) → AsksFirst allowed job old t k n p steps state
    → IsMachineAt job m old → GotAll job m p n steps phase count outcomes
    → turn_in allowed job old m t ≡ makes (first_wait t k p n outcomes)
first_answer job old m t k n p steps phase count outcomes state asks at all =
    first_so job old m t k n p steps state asks at
    ∙ ap (block_answer (λ phase count. first_wait t k p n
    (slice_range (stream_of (value_at job p) (m.history p)) phase (phase + count)))) all.reply
    ∙ ap (λ l. makes (first_wait t k p n l)) all.are

-- a state that owes nothing
pub nothing_owed : (owed : Owed) (items : List (Result ℤ TooBigValue))
    → owed_in owed items ≡ places.nothing → (owed ≡ code.Nothing) × (items ≡ [])
nothing_owed code.Nothing [] e = (refl, refl)
nothing_owed (code.Value i w) [] e = absurd (cc)
nothing_owed (code.Exchange x) [] e = absurd (cc)
nothing_owed owed (v ∷ vs) e = absurd (cc)

-- a task may take what the first wait of its next steps got
pub record MayTake (job : Job) (t : ℕ) (outcomes : List Outcome) (state : TaskState) : Type 0 where
  pub block : IsBlock (task_at job.graph t).kind (length outcomes)
  pub nothing : (state.owed ≡ code.Nothing) × (state.made.items ≡ [])
  pub room : (task_at job.graph t).kind ≡ Fir → length outcomes ≤ state.made.cap
  pub begun : state.begun + length outcomes ≤ 18446744073709551615

pub may_take : {allowed : ℕ} (job : Job) (old : Machine) (m : Moment) (t k n p steps phase count : ℕ)
    (outcomes : List Outcome) (state : TaskState) → AsksFirst allowed job old t k n p steps state
    → IsMachineAt job m old → GotAll job m p n steps phase count outcomes
    → p < length job.graph.phasers → MayTake job t outcomes state
may_take {allowed} job old m t k n p steps phase count outcomes state asks at all there =
    let it = at.tasks t state asks.found in
    let answer = first_answer job old m t k n p steps phase count outcomes state asks at all in
    let made = makes_event job m t (first_wait t k p n outcomes) asks.next.sized at.graph at.reached answer in
    let is = asks.next.is m at in
    let b = waits_begins job m t k is in
    let few : m.begun t ≤ PHASES_MAX = begun_few job m t k at.graph at.reached.ran is in
    let begun : m.begun t ≡ state.begun = it.stands.begun in
    let complete : phase + count ≤ done_of (m.history p) = all.complete in
    let done : done_of (m.history p) ≤ PHASES_MAX = done_few job m p at.reached.ran there in
    let long : length outcomes ≡ count = all.many in
    let asked : count ≤ steps = all.few in
    let many : block_up_to allowed job m t ≡ steps = asks.many m at in
    let block : block_up_to allowed job m t ≤ allowed = block_few allowed job m t in
    record {
      block = made.next.1.block;
      nothing = nothing_owed state.owed state.made.items (owes_nothing state.most job m t
          (owed_in state.owed state.made.items) it.stands.owes b.step.none);
      room = λ fir. (let room : state.most ≤ state.made.cap = it.made_room fir in
          let same : most_in old t ≡ state.most = most_is old t state asks.found in
          let few : allowed ≤ most_in old t = (asks.next.sized made.live.there).few fir in
          omega arith);
      begun = omega arith;
    }

pub first_turn : {allowed : ℕ} (job : Job) (old new : Machine) (t k n p steps phase count : ℕ)
    (outcomes : List Outcome) (state took : TaskState) (sink : Option ℕ) (told : Turned)
    → AsksFirst allowed job old t k n p steps state
    → StateHasTaken (task_at job.graph t) (map number outcomes) state took
    → sink ≡ cond (is_sink_at job t) (Some state.sink) None
    → ((m : Moment) → IsMachineAt job m old → GotAll job m p n steps phase count outcomes)
    → ((m : Moment) → IsMachineAt job m old
    → HasCores job (with_at p (Waited n count ∷ m.history p) m.history) new.cores.items)
    → new.tasks.items ≡ set old.tasks.items t took
    → ((given : ℕ → List ℤ) → map (kept_behind given) new.lines.items
    ≡ with_more sink (kept_of outcomes) (map (kept_behind given) old.lines.items))
    → map (λ line. line.start) new.lines.items ≡ map (λ line. line.start) old.lines.items
    → ((room : ℕ → ℕ) → All (HasRoom room) old.lines.items → All (HasRoom room) new.lines.items)
    → told_of told ≡ told_got p phase outcomes
    → HadTurn allowed job old new t (Event p told)
first_turn {allowed} job old new t k n p steps phase count outcomes state took sink told asks has sinks all cores tasks lines starts own tells =
    record {
      shows = shows;
      after = after;
      lines = λ given m at none kept.
          subst (λ a. KeepsLines job given (after_answer job a m) new.lines.items)
          (sym (answer m at)) record {
            values = lines given
                ∙ ap (with_more sink (kept_of outcomes)) kept.values
                ∙ ap (λ o. with_more o (kept_of outcomes)
                (map (λ u. (u, kept_by job m u)) (sinks_of job))) sinks
                ∙ sink_lines m at none (is_sink_at job t) refl;
            starts = starts ∙ kept.starts ∙ starts_stay job m event refl;
          };
      own = own;
      mosts = mosts_set old new t state took asks.found tasks has.most;
    }
  where
    event : TaskEvent
    event = first_wait t k p n outcomes

    answer : (m : Moment) → IsMachineAt job m old → turn_in allowed job old m t ≡ makes event
    answer m at =
        first_answer job old m t k n p steps phase count outcomes state asks at (all m at)

    shows : (m : Moment) → IsMachineAt job m old
        → MadeShows job m t (turn_in allowed job old m t) (Event p told)
    shows m at =
        subst (λ a. MadeShows job m t a (Event p told)) (sym (answer m at))
        (refl, told_is m p n phase outcomes (all m at).first ∙ sym tells)

    first : (m : Moment) → IsMachineAt job m old
        → k ≡ first_input (task_at job.graph t) (m.begun t)
    first m at = (waits_begins job m t k (asks.next.is m at)).first

    kept : (m : Moment) (at : IsMachineAt job m old)
        → HasFilter (task_at job.graph t) took.filter ((after_turn job event m).taken t 0)
    kept m at = λ fir.
        subst (HasFilter (task_at job.graph t) took.filter)
        (sym (first_is job m t k n p outcomes (zero_first (task_at job.graph t) (m.begun t) k Fir fir
        (λ e. absurd (cc)) (first m at))))
        (has.filter (m.taken t 0) (at.tasks t state asks.found).filter) fir

    sink_lines : (m : Moment) (at : IsMachineAt job m old) → HasAnsweredNone job m → (b : Bool)
        → is_sink_at job t ≡ b
        → with_more (cond b (Some state.sink) None) (kept_of outcomes)
        (map (λ u. (u, kept_by job m u)) (sinks_of job))
        ≡ map (λ u. (u, kept_by job (after_turn job event m) u)) (sinks_of job)
    sink_lines m at none true e =
        let kind = sink_kind (task_at job.graph t).kind e in
        lines_keep job m old t k p n state.sink outcomes asks.next.sized at none (answer m at)
        (zero_first (task_at job.graph t) (m.begun t) k Sink kind (λ e. absurd (cc)) (first m at))
        ((at.tasks t state asks.found).sink kind)
    sink_lines m at none false e = lines_stay job m t event asks.next.sized at.graph at.reached (answer m at) e

    cores_now : (m : Moment) → IsMachineAt job m old
        → HasCores job (after_turn job event m).history new.cores.items
    cores_now m at =
        subst (λ i. HasCores job (with_at p (Waited n i ∷ m.history p) m.history) new.cores.items)
        (sym (all m at).many) (cores m at)

    after : (m : Moment) → IsMachineAt job m old → HasAnsweredNone job m
        → IsMachineAt job (after_answer job (turn_in allowed job old m t) m) new
    after m at none =
        let it = at.tasks t state asks.found in
        let ran = (subst (λ a. IsReachable job (after_answer job a m)) (answer m at)
        (asks.next.stays m at)).ran in
        let same : most_in old t ≡ took.most = most_is old t state asks.found ∙ sym has.most in
        let stands = subst (λ i. StandsUpTo i job (after_turn job event m) t (place_in_state took)) same
        (taken_place (most_in old t) job (after_turn job event m) t outcomes (m.taken t 0) state took has
        it.filter (first_stands job m t k p n outcomes (place_in_state state) asks.next.sized
        (first_waits_at job old m t k state asks.next at asks.found).there at.graph at.reached ran
        (answer m at) (stands_in job old m t state at asks.found))) in
        after_own job m old new t event took asks.next.sized at (answer m at) refl
        (first_waits_at job old m t k state asks.next at asks.found).there (asks.next.stays m at)
        (asks.next.few m at)
        (cores_now m at) tasks
        (record {
          stands = stands;
          room = subst (λ v. 9 ≤ v.capacity) (sym has.numbers) it.room;
          filter = kept m at;
          most = subst (MaySignal job t) (sym has.most) it.most;
          made_room = λ fir.
              (let fits : state.most ≤ state.made.cap = it.made_room fir in
              let room : took.made.cap ≡ state.made.cap = has.room in
              let most : took.most ≡ state.most = has.most in omega arith);
          made_by = has.made_by;
          made_none = has.made_none;
          sink = λ kind. ap (slice_get (sinks_of job)) has.sink ∙ it.sink kind;
        })
        (sym (length-map new.lines.items (λ line. line.start)) ∙ ap length starts
        ∙ length-map old.lines.items (λ line. line.start))

-- a machine and an answer by other names
pub had_as : {allowed : ℕ} (job : Job) (old new same : Machine) (t : ℕ) (it told : Made) → new ≡ same
    → it ≡ told → HadTurn allowed job old same t told → HadTurn allowed job old new t it
had_as {allowed} job old new same t it told news its had =
    subst (λ s. HadTurn allowed job old s t it) (sym news)
    (subst (λ r. HadTurn allowed job old same t r) (sym its) had)

-- a wait that the phaser would not take now
pub blocked_first : {allowed : ℕ} (job : Job) (old new : Machine) (t k n p steps : ℕ) (state : TaskState)
    (r : WaitRefusal) → AsksFirst allowed job old t k n p steps state
    → ((m : Moment) → IsMachineAt job m old
    → wait_block_reply (limits_at job p) (m.history p) n steps ≡ Err r)
    → ((m : Moment) → IsMachineAt job m old
    → HasCores job (with_at p (m.history p) m.history) new.cores.items)
    → new.tasks ≡ old.tasks → new.lines ≡ old.lines → HadTurn allowed job old new t (Blocked p)
blocked_first {allowed} job old new t k n p steps state r asks reply cores tasks lines =
    blocked_turn job old new t p (turns.waits k) asks.next (sym asks.phaser) answer
    (λ m at. unchanged job m old new p at (cores m at) tasks lines) tasks lines
  where
    event : Moment → ℕ → ℕ → TaskEvent
    event m phase count =
        first_wait t k p n
        (slice_range (stream_of (value_at job p) (m.history p)) phase (phase + count))

    refused : (m : Moment) → IsMachineAt job m old
        → turn_in allowed job old m t ≡ block_answer (event m) (Err r)
    refused m at =
        first_so job old m t k n p steps state asks at
        ∙ ap (block_answer (event m)) (reply m at)

    answer : (m : Moment) → IsMachineAt job m old → turn_in allowed job old m t ≡ is_blocked
    answer m at =
        refused m at ∙ blocks_all (event m) r (λ e. asks.next.answered m at (refused m at ∙ e))

pub first_never_ended : {allowed : ℕ} (job : Job) (old : Machine) (t k n p steps : ℕ) (state : TaskState)
    → AsksFirst allowed job old t k n p steps state
    → ((m : Moment) → IsMachineAt job m old
    → wait_block_reply (limits_at job p) (m.history p) n steps ≡ Ok block.Ended) → ⊥
first_never_ended job old t k n p steps state asks reply =
    let m = asks.next.some.0 in
    let at = asks.next.some.1 in
    asks.next.answered m at (first_so job old m t k n p steps state asks at
    ∙ ap (block_answer (λ phase count. first_wait t k p n
    (slice_range (stream_of (value_at job p) (m.history p)) phase (phase + count)))) (reply m at))

-- ---- the line of a sink

pub sink_there : (job : Job) (old : Machine) (m : Moment) (t : ℕ) (state : TaskState)
    (sink : Option ℕ) → IsMachineAt job m old → slice_get old.tasks.items t ≡ Some state
    → sink ≡ cond (is_sink_at job t) (Some state.sink) None
    → IfSome sink (λ i. i < length old.lines.items)
sink_there job old m t state sink at found is =
    subst (λ o. IfSome o (λ i. i < length old.lines.items)) (sym is) (by (is_sink_at job t) refl)
  where
    by : (b : Bool) → is_sink_at job t ≡ b
        → IfSome (cond b (Some state.sink) None) (λ i. i < length old.lines.items)
    by true e =
        let lt = slice_get_within (sinks_of job) state.sink t
        ((at.tasks t state found).sink (sink_kind (task_at job.graph t).kind e)) in
        let many = at.lines_many in
        omega arith
    by false e = tt
