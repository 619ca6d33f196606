-- A sink that has left has kept all that it gets.
use Rattle.std.proofs.Common.{◌≡◌, ℕ, ◌<◌, ◌≤◌, ◌&&◌, All, Bool, true, false, not, eqb, [], ◌∷◌, Option, Some, None, is_some, length, refl, sym, ap, subst, ◌∙◌, arith, nat_lt, get_or}
use Rattle.std.specs.Prelude.{unwrap_or}
use Rattle.std.proofs.lemmas.Bool.{eqb-true, ltb-false, lt-ltb}
use Rattle.phase_accum.specs.declared.outcome.Outcome.{Outcome}
use Rattle.phase_base.specs.Limits.{Limits}
use Rattle.phase_base.specs.declared.entry.Entry.{Entry}
use Rattle.phase_base.specs.Members.{entry_of}
use Rattle.phase_history.specs.declared.event.Event.TheVariants.{Made, Registered, RegisteredNow, Signalled, Waited, Dropped}
use Rattle.phase_history.specs.Histories.{History, has_dropped, members_of}
use Rattle.phase_history.specs.Legal.{IsLegal}
use Rattle.phase_history.specs.Phases.{received_by}
use Rattle.phase_history.specs.Refusals.{wait_refusal}
use Rattle.phase_history.specs.declared.refusal.WaitRefusal.TheVariants.{NoTask}
use Rattle.phase_history.proofs.Alive.{alive_law}
use Rattle.graph_base.specs.Graphs.{task_at}
use Rattle.graph_base.specs.TaskLines.{IsGraph}
use Rattle.graph_base.specs.declared.line.Kind.TheVariants.{Sink}
use Rattle.stream_lists.specs.Jobs.{Job}
use Rattle.stream_lists.specs.Lists.{number, numbers_of, taken_from}
use Rattle.stream_lists.specs.Ranges.{Where, is_too_big}
use Rattle.stream_lists.specs.Spans.{span_in, takes_from}
use Rattle.graph_runs.specs.Moments.{Moment, AnsweredNone, AnsweredNoneBefore, HasRun, OnInput, TakenOn, input_at, limits_at, started, value_at}
use Rattle.graph_runs.specs.Nexts.{first_kept, first_missing, has_left, is_live, number_on}
use Rattle.graph_runs.specs.Settled.{IsReady, Stands}
use Rattle.graph_runs.specs.TaskPlaces.{TaskPlace, StandsUpTo, registration_at}
use Rattle.graph_runs.specs.Turned.{with_at}
use Rattle.graph_runs.proofs.Answered.{met_none}
use Rattle.graph_runs.proofs.Entries.{prefix_whole, take_length}
use Rattle.graph_runs.proofs.Standing.{many, of_input}
use Rattle.graph_runs.proofs.StepsLemmas.{taken_count}
use Rattle.graph_runs.proofs.Turned.{at_same}
use mathlib.Core.List.{IsPrefix}
use Rattle.stream_job.specs.Gone.{has_gone}
use Rattle.stream_job.specs.SinkLines.{kept_by, kept_on}
use Rattle.stream_job.specs.Worlds.{HasMet}
use Rattle.stream_job.proofs.Ending.{number-at}
use Rattle.stream_job.proofs.Reading.{complete, live_by}
use Rattle.stream_job.proofs.SinksKeep.{all_in_range, all_kept}

-- ---- where it stands

-- task t is registered on phaser p under some number, and has left it
pub record LeftPhaser (m : Moment) (p t : ℕ) : Type 0 where
  pub n : ℕ
  pub number : m.number p t ≡ Some n
  pub gone : has_dropped (m.history p) n ≡ true

-- a task that is registered on all its phasers, and not live, has left its first input
pub left_input : {most : ℕ} (job : Job) (m : Moment) (t : ℕ) (at : TaskPlace) → IsGraph job.graph
    → t < length job.graph.tasks → 0 < length (task_at job.graph t).inputs
    → StandsUpTo most job m t at → is_some (first_missing job m t) ≡ false
    → is_live job m t ≡ false → LeftPhaser m (input_at (task_at job.graph t) 0) t
left_input job m t at is there some stands all dead =
    let le = complete job m t at stands all in
    let long = many job t is there in
    let past = ltb-false at.left (length at.numbers) (sym (live_by job m t at stands there le) ∙ dead) in
    let p = (registration_at job t 0).phaser in
    let n = get_or at.numbers 0 0 in
    let number : m.number p t ≡ Some n = number-at job m t 0 at stands (omega arith) in
    let left : has_left m t (registration_at job t 0) ≡ true =
    stands.leaves 0 (omega arith) ∙ lt-ltb 0 at.left (omega arith) in
    let same : number_on m t p ≡ n = ap (λ o. unwrap_or o 0) number in
    subst (λ q. LeftPhaser m q t) (of_input job t 0 is there some) (record {
      n = n;
      number = number;
      gone = sym (ap (λ x. has_dropped (m.history p) x) same) ∙ left;
    })

gone_parts : (registered live there kept missing : Bool)
    → missing ≡ not registered → (there && not missing && kept) ≡ live → there ≡ true
    → (not missing && not kept) ≡ (registered && not live)
gone_parts true live there kept missing e l h =
    let same : kept ≡ live = rw (h, e) at l in rw e (ap not same)
gone_parts false live there kept missing e l h = rw e refl

-- whether it has gone, by whether it is registered and live
pub gone_by : (job : Job) (m : Moment) (t : ℕ) (registered live : Bool)
    → t < length job.graph.tasks → is_some (first_missing job m t) ≡ not registered
    → is_live job m t ≡ live → has_gone job m t ≡ (registered && not live)
gone_by job m t registered live there missing is =
    gone_parts registered live (nat_lt t (length job.graph.tasks))
    (is_some (first_kept job m t)) (is_some (first_missing job m t)) missing is
    (lt-ltb t (length job.graph.tasks) there)

-- ---- what it has received

abbrev Small : Outcome → Type 0
Small outcome = is_too_big outcome ≡ false

-- where no wait of a history was answered a value that is too big, nobody received one
received_small : (job : Job) (m : Moment) (p t n : ℕ) (h : History) → p < length job.graph.phasers
    → t < length job.graph.tasks → m.number p t ≡ Some n → AnsweredNone (value_at job p) h
    → All Small (received_by (value_at job p) h n)
received_small job m p t n h pp there number none =
    subst (λ l. All Small (received_by (value_at job p) l n)) (at_same p h (λ q. []))
    (met_none job (record m { history = with_at p h (λ q. []) })
    (λ q qq. by q (eqb q p) refl) p t n pp there number)
  where
    by : (q : ℕ) (b : Bool) → eqb q p ≡ b
        → AnsweredNone (value_at job q) (with_at p h (λ q. []) q)
    by q true e =
        rw e (subst (λ x. AnsweredNone (value_at job x) h) (sym (eqb-true q p e)) none)
    by q false e = rw e tt

-- who has left is refused a wait
gone_refused : (limits : Limits) (h : History) (n k : ℕ) → IsLegal limits h
    → has_dropped h n ≡ true → wait_refusal limits h n k ≡ None → ⊥
gone_refused limits h n k legal gone none = by (entry_of (members_of h) n) refl
  where
    by : (o : Option Entry) → entry_of (members_of h) n ≡ o → ⊥
    by None e = let wrong : Some NoTask ≡ None = rw e at none in cc
    by (Some entry) e =
        let stays = ((alive_law limits h n legal).0 (ap is_some e)).1 in
        let wrong : true ≡ false = sym gone ∙ stays in
        cc

-- where none but the last was, who has left received none
gone_small : (job : Job) (m : Moment) (p t n : ℕ) (limits : Limits) (h : History)
    → p < length job.graph.phasers → t < length job.graph.tasks → m.number p t ≡ Some n
    → IsLegal limits h → has_dropped h n ≡ true → AnsweredNoneBefore (value_at job p) h
    → All Small (received_by (value_at job p) h n)
gone_small job m p t n limits [] pp there number legal gone none = absurd legal
gone_small job m p t n limits (Made task ∷ h) pp there number legal gone none =
    received_small job m p t n h pp there number none
gone_small job m p t n limits (Registered parent child mode ∷ h) pp there number legal gone none =
    received_small job m p t n h pp there number none
gone_small job m p t n limits (RegisteredNow parent child ∷ h) pp there number legal gone none =
    received_small job m p t n h pp there number none
gone_small job m p t n limits (Signalled task lists single ∷ h) pp there number legal gone none =
    received_small job m p t n h pp there number none
gone_small job m p t n limits (Dropped task ∷ h) pp there number legal gone none =
    received_small job m p t n h pp there number none
gone_small job m p t n limits (Waited task k ∷ h) pp there number legal gone none =
    by (eqb task n) refl
  where
    by : (b : Bool) → eqb task n ≡ b
        → All Small (received_by (value_at job p) (Waited task k ∷ h) n)
    by true e =
        absurd (gone_refused limits h n k legal.0 gone
        (subst (λ x. wait_refusal limits h x k ≡ None) (eqb-true task n e) legal.1.0))
    by false e = rw e (received_small job m p t n h pp there number none)

-- ---- what it has kept

-- all that it has taken
pub gone_kept : (job : Job) (m : Moment) (met : Option Where) (t : ℕ) → IsGraph job.graph
    → HasRun job m → HasMet job m met → t < length job.graph.tasks
    → 0 < length (task_at job.graph t).inputs → LeftPhaser m (input_at (task_at job.graph t) 0) t
    → kept_by job m t ≡ m.taken t 0
gone_kept job m None t is ran met there some left = all_kept job m t is ran met there some
gone_kept job m (Some at) t is ran met there some left =
    let p = input_at (task_at job.graph t) 0 in
    let pp : p < length job.graph.phasers = (is.tasks t there).inputs 0 0 some in
    let on : OnInput job m t 0 p left.n =
    subst (TakenOn job m t 0 p) left.number ((ran.tasks t there).inputs 0 some) in
    ap (kept_on job m p) left.number
    ∙ all_in_range (received_by (value_at job p) (m.history p) left.n)
    (gone_small job m p t left.n (limits_at job p) (m.history p) pp there left.number
    (ran.phasers p pp).legal left.gone (met.last p pp))
    ∙ sym on.taken

-- which is its whole list
pub gone_whole : (job : Job) (m : Moment) (t : ℕ) → IsReady job → HasRun job m
    → t < length job.graph.tasks → (task_at job.graph t).kind ≡ Sink
    → 0 < length (task_at job.graph t).inputs → LeftPhaser m (input_at (task_at job.graph t) 0) t
    → Stands (started job m) m t
    → IsPrefix (m.taken t 0) (taken_from (numbers_of (started job m)) (task_at job.graph t)
    (span_in (started job m) t) 0)
    → m.taken t 0 ≡ taken_from (numbers_of (started job m)) (task_at job.graph t)
    (span_in (started job m) t) 0
gone_whole job m t ready ran there sink some left stands begins =
    let task = task_at job.graph t in
    let p = input_at task 0 in
    let on : OnInput job m t 0 p left.n =
    subst (TakenOn job m t 0 p) left.number ((ran.tasks t there).inputs 0 some) in
    let span = span_in (started job m) t in
    let same : m.begun t ≡ span.steps = stands.ended (on.left left.gone).may_end in
    let count : length (m.taken t 0) ≡ takes_from task (m.begun t) 0 =
    taken_count task (m.begun t) 0 (length (m.taken t 0)) (ready.graph.tasks t there).ends some
    (rw sink tt) ((ran.tasks t there).takes 0 some) in
    let steps : takes_from task (m.begun t) 0 ≡ takes_from task span.steps 0 =
    ap (λ n. takes_from task n 0) same in
    let list = taken_from (numbers_of (started job m)) task span 0 in
    let few : length list ≤ takes_from task span.steps 0 = take_length (takes_from task span.steps 0) _ in
    prefix_whole (m.taken t 0) list begins (omega (arith, count, steps, few))
