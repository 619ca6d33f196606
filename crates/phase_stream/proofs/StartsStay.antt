-- A sink that has begun begins there ever after.
use Rattle.std.proofs.Common.{◌≡◌, ◌<◌, ℕ, Bool, true, false, cond, eqb, List, [], ◌∷◌, Option, Some, None, length, refl, sym, ap, subst, ◌∙◌, inl, inr, arith}
use Rattle.std.proofs.lemmas.Bool.{eqb-true}
use Rattle.std.proofs.lemmas.List.Elements.{All-head, All-tail}
use Rattle.std.specs.List.{All}
use Rattle.std.specs.Option.{option_map}
use Rattle.stream_job.specs.SinkLines.{sink_begins_at}
use Rattle.stream_job.specs.Streams.{MayTurn, SizedTurn, after_sized}
use Rattle.graph_base.specs.Graphs.{task_at}
use Rattle.graph_base.specs.TaskLines.{IsGraph}
use Rattle.graph_runs.specs.Answers.{Answer, after_answer, is_blocked, is_gone, has_made, is_refused, makes, turn_up_to}
use Rattle.graph_runs.specs.Moments.{Moment, OnLine, input_at}
use Rattle.graph_runs.specs.NextBlocks.{MaySize}
use Rattle.graph_runs.specs.Reached.{IsReachable}
use Rattle.graph_runs.specs.TaskEvents.{IsNext, TaskEvent, after_turn, child, child_now, exchange_wait, first_wait, leave, sample, signal}
use Rattle.graph_runs.specs.Turned.{with_at}
use Rattle.stream_lists.specs.Jobs.{Job}
use Rattle.stream_lists.specs.Spans.{signalled_by}
use Rattle.graph_runs.proofs.JoinsNow.{sink_line, no_place}
use Rattle.graph_runs.proofs.SizedTurns.{turn_reached}
use Rattle.graph_runs.proofs.Turning.{turn_makes_next}

-- ---- an event

-- where a number is given to it once more, or to another, the start is the same
numbered_so : (job : Job) (m after : Moment) (t start : ℕ)
    → after.offset t ≡ m.offset t
    → ((n : ℕ) → m.number (input_at (task_at job.graph t) 0) t ≡ Some n
    → (k : ℕ) × (after.number (input_at (task_at job.graph t) 0) t ≡ Some k))
    → sink_begins_at job m t ≡ Some start → sink_begins_at job after t ≡ Some start
numbered_so job m after t start offset numbers is =
    by (task_at job.graph t).joins_now (m.number (input_at (task_at job.graph t) 0) t) refl refl is
  where
    by : (b : Bool) (o : Option ℕ) → (task_at job.graph t).joins_now ≡ b
        → m.number (input_at (task_at job.graph t) 0) t ≡ o
        → cond b (option_map (λ n. m.offset t) o) None ≡ Some start
        → cond (task_at job.graph t).joins_now
        (option_map (λ n. after.offset t) (after.number (input_at (task_at job.graph t) 0) t)) None
        ≡ Some start
    by false o stays number is = absurd (cc)
    by true None now number is = absurd (cc)
    by true (Some n) now number is =
        let later = numbers n number in
        rw (now, later.1, offset) is

-- a child's number
given_so : (p c a q t : ℕ) (number : ℕ → ℕ → Option ℕ) (n : ℕ) → number q t ≡ Some n
    → (k : ℕ) × (with_at p (with_at c (Some a) (number p)) number q t ≡ Some k)
given_so p c a q t number n is = by (eqb q p) (eqb t c) refl refl
  where
    by : (x y : Bool) → eqb q p ≡ x → eqb t c ≡ y
        → (k : ℕ) × (with_at p (with_at c (Some a) (number p)) number q t ≡ Some k)
    by false y e f = (n, rw e is)
    by true true e f = (a, rw (e, f) refl)
    by true false e f =
        let same : q ≡ p = eqb-true q p e in
        (n, rw (e, f) (subst (λ x. number x t ≡ Some n) same is))

only_input : (job : Job) (t p : ℕ) → IsGraph job.graph → t < length job.graph.tasks
    → (task_at job.graph t).joins_now ≡ true → OnLine (task_at job.graph t) p
    → input_at (task_at job.graph t) 0 ≡ p
only_input job t p is there now (inl out) =
    absurd (no_place (signalled_by (task_at job.graph t)) p out.0
    (sink_line job t p is there ((is.tasks t there).now now).0).1 out.1)
only_input job t p is there now (inr in_) =
    let one = (sink_line job t p is there ((is.tasks t there).now now).0).0 in
    let zero_is : in_.0 ≡ 0 = omega (arith, one, in_.1) in
    ap (input_at (task_at job.graph t)) (sym zero_is) ∙ in_.2

joins_so : (job : Job) (m : Moment) (t start : ℕ) → sink_begins_at job m t ≡ Some start
    → (task_at job.graph t).joins_now ≡ true
joins_so job m t start is = by (task_at job.graph t).joins_now refl
  where
    by : (b : Bool) → (task_at job.graph t).joins_now ≡ b → (task_at job.graph t).joins_now ≡ true
    by true e = e
    by false e = let wrong : None ≡ Some start = rw e at is in absurd (cc)

unnumbered_so : (job : Job) (m : Moment) (t start : ℕ) → sink_begins_at job m t ≡ Some start
    → m.number (input_at (task_at job.graph t) 0) t ≡ None → ⊥
unnumbered_so job m t start is none =
    let now = joins_so job m t start is in
    let wrong : None ≡ Some start = rw (now, none) at is in
    cc

pub event_stays : (job : Job) (m : Moment) (event : TaskEvent) (t start : ℕ) → IsGraph job.graph
    → t < length job.graph.tasks → IsNext job m event → sink_begins_at job m t ≡ Some start
    → sink_begins_at job (after_turn job event m) t ≡ Some start
event_stays job m (sample u j p n vs) t start is there next begins = begins
event_stays job m (signal u j p n vs) t start is there next begins = begins
event_stays job m (first_wait u k p n outcomes) t start is there next begins = begins
event_stays job m (exchange_wait u p n outcome) t start is there next begins = begins
event_stays job m (leave u p n) t start is there next begins = begins
event_stays job m (child u p n c a mode) t start is there next begins =
    numbered_so job m (after_turn job (child u p n c a mode) m) t start refl
    (given_so p c a (input_at (task_at job.graph t) 0) t m.number) begins
event_stays job m (child_now u p n c a) t start is there next begins =
    numbered_so job m (after_turn job (child_now u p n c a) m) t start
    (by (eqb t c) refl)
    (given_so p c a (input_at (task_at job.graph t) 0) t m.number) begins
  where
    by : (b : Bool) → eqb t c ≡ b → (after_turn job (child_now u p n c a) m).offset t ≡ m.offset t
    by false e = rw e refl
    by true e =
        let same : t ≡ c = eqb-true t c e in
        let it = next.1.1.child in
        let now = joins_so job m t start begins in
        let line : OnLine (task_at job.graph t) p =
        subst (λ x. OnLine (task_at job.graph x) p) (sym same) it.on_line in
        let here = only_input job t p is there now line in
        let none : m.number (input_at (task_at job.graph t) 0) t ≡ None =
        subst (λ q. m.number q t ≡ None) (sym here)
        (subst (λ x. m.number p x ≡ None) (sym same) it.absent) in
        absurd (unnumbered_so job m t start begins none)

-- ---- turns

pub turn_stays : (job : Job) (m : Moment) (turn : SizedTurn) (t start : ℕ) → IsGraph job.graph
    → t < length job.graph.tasks → MaySize job.graph turn.task turn.steps turn.most
    → IsReachable job m → sink_begins_at job m t ≡ Some start
    → sink_begins_at job (after_answer job (turn_up_to turn.steps turn.most job m turn.task) m) t
    ≡ Some start
turn_stays job m turn t start is there sized reached begins =
    by (turn_up_to turn.steps turn.most job m turn.task) refl
  where
    by : (answer : Answer) → turn_up_to turn.steps turn.most job m turn.task ≡ answer
        → sink_begins_at job (after_answer job answer m) t ≡ Some start
    by (makes event) e =
        event_stays job m event t start is there
        (turn_makes_next turn.steps turn.most job m turn.task event sized is reached.ran
        (λ d due. reached.to_come) e) begins
    by is_blocked e = begins
    by is_gone e = begins
    by (has_made at) e = begins
    by is_refused e = begins

pub starts_stay : (job : Job) (m : Moment) (turns : List SizedTurn) (t start : ℕ)
    → IsGraph job.graph → t < length job.graph.tasks → All (MayTurn job) turns → IsReachable job m
    → sink_begins_at job m t ≡ Some start
    → sink_begins_at job (after_sized job m turns) t ≡ Some start
starts_stay job m [] t start is there sized reached begins = begins
starts_stay job m (turn ∷ turns) t start is there sized reached begins =
    let one = All-head (MayTurn job) turn turns sized in
    starts_stay job (after_answer job (turn_up_to turn.steps turn.most job m turn.task) m) turns t
    start is there (All-tail (MayTurn job) turn turns sized)
    (turn_reached turn.steps turn.most job m turn.task one is reached)
    (turn_stays job m turn t start is there one reached begins)
