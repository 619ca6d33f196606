-- A step's wait is as the number that stands at the registration of its input, and what it got is
-- signalled.
use Rattle.std.proofs.Common.{◌≡◌, ◌≢◌, ℤ, List, [], ◌∷◌, None, length, get_or, map, set, refl, sym, ap, subst, ◌∙◌, arith}
use Rattle.std.specs.Prelude.{Ok}
use Rattle.std.specs.List.{position_from}
use Rattle.phase_accum.specs.declared.outcome.Outcome.TheVariants.{Empty}
use Rattle.phase_history.specs.declared.event.Event.TheVariants.{Waited}
use Rattle.phase_history.specs.declared.got.GotBlock.TheVariants as block
use Rattle.phase_history.specs.Phases.{stream_of}
use Rattle.phase_history.specs.Replies.{after_wait_block}
use Rattle.graph_base.specs.Graphs.{task_at}
use Rattle.stream_lists.specs.Jobs.{with_samples}
use Rattle.stream_lists.specs.Lists.{number}
use Rattle.stream_lists.specs.Ranges.{is_too_big}
use Rattle.graph_runs.specs.Moments.{Moment, limits_at, value_at}
use Rattle.graph_runs.specs.TaskEvents.{after_turn, first_wait}
use Rattle.graph_runs.specs.Turned.{with_at}
use Rattle.stream_job.specs.Machines.{HasCores, IsMachineAt}
use Rattle.graph_runs.specs.TaskPlaces as places
use Rattle.stream_job.specs.Passing.{IsPartOfStep, MayStepFrom}
use Rattle.stream_job.specs.Places.{StateHasTaken, owed_in, place_in_state}
use Rattle.stream_job.specs.declared.machine.Machine.{Machine}
use Rattle.stream_job.specs.declared.task_state.TaskState.{TaskState}
use Rattle.stream_job.proofs.BareSteps.{none_stepped, kept_live, read_at, steps_within, waited_once, waits_few_begun, whole}
use Rattle.stream_job.proofs.Ending.{number_of_input}
use Rattle.stream_job.proofs.FirstTurns.{nothing_owed}
use Rattle.stream_job.proofs.GoodWaits.{IsOneAhead, one_ahead, same_given}
use Rattle.stream_job.proofs.Mosts.{set_same}
use Rattle.stream_job.proofs.Setting.{read_same, bare_cores, full_cores}
use Rattle.stream_job.proofs.Waits.{GotAll, got_answered}
use Rattle.stream_job.proofs.machine.Machine.pass_value.Goals.{In-Some, In-Values, After-index_mut}
use Rattle.stream_job.proofs.machine.Machine.pass_value.Goals as goal

-- from where it may make a step
may : (c : In-Some) (s : List (List ℤ)) (m : Moment)
    → IsMachineAt (with_samples s c.args.job.now) m c.args.self.now
    → MayStepFrom (with_samples s c.args.job.now) c.args.self.now m c.args.t c.in-Some.k
may c s m at = c.in-Some.ensures s m at

pub bounds-deref-k : goal.bounds-deref-k
bounds-deref-k c =
    let s = c.requires.machine.0 in
    let m = c.requires.machine.1.0 in
    let at = c.requires.machine.1.1 in
    let job = with_samples s c.args.job.now in
    let may = may (goal.at.bounds-deref-k c).In-Some s m at in
    let found = read_at job m c.args.self.now c.args.t c.index.result.now at c.requires.task
    c.index.ensures in
    let place = (number_of_input job m c.args.t c.in-Some.k (place_in_state c.index.result.now)
    at.graph (at.tasks c.args.t c.index.result.now found).stands may.live
    (steps_within job m c.args.self.now c.args.t c.in-Some.k at.graph c.requires.task may)).0 in
    omega (arith, place, ap length c.deref.ensures)

pub good_ahead_on-requires-clause-cores : goal.good_ahead_on-requires-clause-cores
good_ahead_on-requires-clause-cores c =
    (c.requires.machine.1.0.history, bare_cores c.requires.machine.0 c.requires.machine.1.1.cores)

pub wait_block_on-requires-clause-cores : goal.wait_block_on-requires-clause-cores
wait_block_on-requires-clause-cores c =
    (c.requires.machine.1.0.history, bare_cores c.requires.machine.0 c.requires.machine.1.1.cores)

-- ---- where none is ahead

pub returns-then-count-eq0-clause-steps : goal.returns-then-count-eq0-clause-steps
returns-then-count-eq0-clause-steps c = λ s m at.
    none_stepped (with_samples s c.args.job.now) c.args.t m c.args.self.now at

pub returns-in_default-ahead-clause-steps : goal.returns-in_default-ahead-clause-steps
returns-in_default-ahead-clause-steps c = λ s m at.
    none_stepped (with_samples s c.args.job.now) c.args.t m c.args.self.now at

-- ---- what it gets

-- the value that is ahead
one : (c : In-Values) → c.in-Values.count ≢ 0 → (s : List (List ℤ)) (m : Moment)
    → IsMachineAt (with_samples s c.args.job.now) m c.args.self.now
    → let job = with_samples s c.args.job.now in let p = c.input_of-phaser.result in
    IsOneAhead (stream_of (value_at job p) (m.history p)) (limits_at job p) (m.history p)
    (get_or c.deref.result.now c.in-Some.k 0) c.in-Values.phase
one c not s m at =
    let job = with_samples s c.args.job.now in
    let p = c.input_of-phaser.result in
    one_ahead (stream_of (value_at job p) (m.history p)) (limits_at job p) (m.history p)
    (get_or c.deref.result.now c.in-Some.k 0) c.in-Values.phase c.in-Values.count (omega arith)
    (c.in-Ok.ensures m.history (bare_cores s at.cores) ∙ ap (λ g. Ok g) c.in-Values.is)

pub unreachable-requires : goal.unreachable-requires
unreachable-requires c =
    let s = c.requires.machine.0 in
    let m = c.requires.machine.1.0 in
    let at = c.requires.machine.1.1 in
    let it = one (goal.at.unreachable-requires c).In-Values c.if-count-eq0.false s m at in
    let wrong = sym it.reply
    ∙ c.in_default-wait_block_on.ensures.reply m.history (bare_cores s at.cores) in
    (cc)

-- the same where the wait was made
ahead : (c : After-index_mut) (s : List (List ℤ)) (m : Moment)
    → IsMachineAt (with_samples s c.args.job.now) m c.args.self.now → c.in-Values.count ≢ 0
    → let job = with_samples s c.args.job.now in let p = c.input_of-phaser.result in
    IsOneAhead (stream_of (value_at job p) (m.history p)) (limits_at job p) (m.history p)
    (get_or c.deref.result.now c.in-Some.k 0) c.in-Values.phase
ahead c s m at not =
    let job = with_samples s c.args.job.now in
    let p = c.input_of-phaser.result in
    one_ahead (stream_of (value_at job p) (m.history p)) (limits_at job p) (m.history p)
    (get_or c.deref.result.now c.in-Some.k 0) c.in-Values.phase c.in-Values.count (omega arith)
    (c.in-Ok.ensures m.history (bare_cores s at.cores) ∙ ap (λ g. Ok g) c.in-Values.is)

-- what it was answered
given_is : (c : After-index_mut) (s : List (List ℤ)) (m : Moment)
    → IsMachineAt (with_samples s c.args.job.now) m c.args.self.now → c.in-Values.count ≢ 0
    → c.in-Ok-wait_block_on.field-0 ≡ block.Values c.in-Values.phase 1
given_is c s m at not =
    same_given c.in-Ok-wait_block_on.field-0 (block.Values c.in-Values.phase 1)
    (sym (c.in-Ok-wait_block_on.ensures.reply m.history (bare_cores s at.cores))
    ∙ (ahead c s m at not).reply)

-- the outcomes of the wait
got : (c : After-index_mut) (s : List (List ℤ)) (m : Moment)
    → IsMachineAt (with_samples s c.args.job.now) m c.args.self.now → c.in-Values.count ≢ 0
    → GotAll (with_samples s c.args.job.now) m c.input_of-phaser.result
    (get_or c.deref.result.now c.in-Some.k 0) 1 c.in-Values.phase 1 c.wait_block_on.new.places
got c s m at not =
    let job = with_samples s c.args.job.now in
    let p = c.input_of-phaser.result in
    let n = get_or c.deref.result.now c.in-Some.k 0 in
    let wait = c.in-Ok-wait_block_on in
    let long : length c.wait_block_on.new.places ≡ 1 = c.wait_block_on.ensures.room in
    subst (GotAll job m p n 1 c.in-Values.phase 1) (whole c.wait_block_on.new.places long)
    (got_answered job m p n 1 c.in-Values.phase 1 wait.field-0 (Empty ∷ []) c.wait_block_on.new.places
    (given_is c s m at not) (wait.ensures.reply m.history (bare_cores s at.cores))
    (wait.ensures.places m.history (bare_cores s at.cores)))

-- none of them is too big
good : (c : After-index_mut) (s : List (List ℤ)) (m : Moment)
    → IsMachineAt (with_samples s c.args.job.now) m c.args.self.now → c.in-Values.count ≢ 0
    → position_from is_too_big c.in-Values.phase c.wait_block_on.new.places ≡ None
good c s m at not =
    ap (position_from is_too_big c.in-Values.phase) (sym (got c s m at not).are)
    ∙ (ahead c s m at not).none

-- the state that takes it
read : (c : After-index_mut) (s : List (List ℤ)) (m : Moment)
    → IsMachineAt (with_samples s c.args.job.now) m c.args.self.now
    → c.index.result.now ≡ c.index_mut.result.now
read c s m at =
    let tasks = c.args.self.now.tasks.items in
    read_same tasks c.args.t c.index.result.now c.index_mut.result.now
    (let many = at.tasks_many in omega (arith, c.requires.task)) c.index.ensures
    (c.index_mut.ensures.value
    ∙ ap (λ v. get_or v.items c.args.t c.index_mut.result.now)
    c.wait_block_on.ensures.tasks)

pub take-requires-clause-begun : goal.take-requires-clause-begun
take-requires-clause-begun c =
    let s = c.requires.machine.0 in
    let m = c.requires.machine.1.0 in
    let at = c.requires.machine.1.1 in
    let job = with_samples s c.args.job.now in
    let a = goal.at.take-requires-clause-begun c in
    let old = c.args.self.now in
    let may = may a.In-Some s m at in
    let state = c.index.result.now in
    let found = read_at job m old c.args.t state at c.requires.task c.index.ensures in
    let not = c.if-count-eq0.false in
    let numbered : get_or c.deref.result.now c.in-Some.k 0
    ≡ get_or state.numbers.items c.in-Some.k 0 =
    ap (λ ns. get_or ns c.in-Some.k 0) c.deref.ensures in
    let few = waits_few_begun job m old c.args.t c.in-Some.k c.input_of-phaser.result
    c.in-Values.phase c.wait_block_on.new.places state at may found
    (steps_within job m old c.args.t c.in-Some.k at.graph c.requires.task may)
    c.input_of-phaser.ensures.phaser c.input_of-phaser.ensures.within
    (subst (λ n. GotAll job m c.input_of-phaser.result n 1 c.in-Values.phase 1
    c.wait_block_on.new.places) numbered (got a.After-index_mut s m at not)) in
    let same : state.begun ≡ c.index_mut.result.now.begun =
    ap (λ z. z.begun) (read a.After-index_mut s m at) in
    let long : length c.wait_block_on.new.places ≡ 1 = c.wait_block_on.ensures.room in
    omega arith

pub take-requires-clause-nothing : goal.take-requires-clause-nothing
take-requires-clause-nothing c =
    let s = c.requires.machine.0 in
    let m = c.requires.machine.1.0 in
    let at = c.requires.machine.1.1 in
    let job = with_samples s c.args.job.now in
    let a = goal.at.take-requires-clause-nothing c in
    let state = c.index.result.now in
    let found = read_at job m c.args.self.now c.args.t state at c.requires.task c.index.ensures in
    let nothing = (may a.In-Some s m at).nothing state found in
    let same = read a.After-index_mut s m at in
    nothing_owed c.index_mut.result.now.owed c.index_mut.result.now.made.items
    (subst (λ z. owed_in z.owed z.made.items ≡ places.nothing) same nothing)

-- ---- the moment after the wait

once : (c : After-index_mut) (took : TaskState) (new : Machine) (s : List (List ℤ)) (m : Moment)
    → IsMachineAt (with_samples s c.args.job.now) m c.args.self.now
    → MayStepFrom (with_samples s c.args.job.now) c.args.self.now m c.args.t c.in-Some.k
    → c.in-Ok-wait_block_on.field-0 ≡ block.Values c.in-Values.phase 1
    → GotAll (with_samples s c.args.job.now) m c.input_of-phaser.result
    (get_or c.deref.result.now c.in-Some.k 0) 1 c.in-Values.phase 1 c.wait_block_on.new.places
    → position_from is_too_big c.in-Values.phase c.wait_block_on.new.places ≡ None
    → StateHasTaken (task_at c.args.job.now.graph c.args.t)
    (map number c.wait_block_on.new.places) c.index_mut.result.now took
    → new.cores ≡ c.wait_block_on.new.self.cores
    → new.tasks.items ≡ set c.wait_block_on.new.self.tasks.items c.args.t took
    → new.lines ≡ c.wait_block_on.new.self.lines
    → let event = first_wait c.args.t c.in-Some.k c.input_of-phaser.result
    (get_or c.deref.result.now c.in-Some.k 0) c.wait_block_on.new.places in
    IsPartOfStep (with_samples s c.args.job.now) m c.args.t event
    × IsMachineAt (with_samples s c.args.job.now)
    (after_turn (with_samples s c.args.job.now) event m) new
once c took new s m at step is all none has cores tasks lines =
    let job = with_samples s c.args.job.now in
    let t = c.args.t in
    let k = c.in-Some.k in
    let p = c.input_of-phaser.result in
    let n = get_or c.deref.result.now k 0 in
    let old = c.args.self.now in
    let state = c.index.result.now in
    let waited = c.wait_block_on.new.self in
    let found = read_at job m old t state at c.requires.task c.index.ensures in
    waited_once job m old new t k p n c.in-Values.phase c.wait_block_on.new.places state took at
    step found c.requires.task (steps_within job m old t k at.graph c.requires.task step)
    c.input_of-phaser.ensures.phaser c.input_of-phaser.ensures.within
    (ap (λ ns. get_or ns k 0) c.deref.ensures) all none
    (subst (λ z. StateHasTaken (task_at job.graph t) (map number c.wait_block_on.new.places) z
    took) (sym (read c s m at)) has)
    (subst (λ v. HasCores job (with_at p (Waited n 1 ∷ m.history p) m.history) v.items) (sym cores)
    (subst (λ g. HasCores job (with_at p (after_wait_block (Ok g) n (m.history p)) m.history)
    waited.cores.items) is
    (full_cores s (c.in-Ok-wait_block_on.ensures.cores m.history (bare_cores s at.cores)))))
    (tasks ∙ ap (λ v. set v.items t took) c.wait_block_on.ensures.tasks)
    (lines ∙ c.wait_block_on.ensures.lines)

pub put_on-requires-clause-machine : goal.put_on-requires-clause-machine
put_on-requires-clause-machine c =
    let s = c.requires.machine.0 in
    let m = c.requires.machine.1.0 in
    let at = c.requires.machine.1.1 in
    let a = goal.at.put_on-requires-clause-machine c in
    let not = c.if-count-eq0.false in
    let stepped = once a.After-index_mut c.take.new.self _ s m at (may a.In-Some s m at)
    (given_is a.After-index_mut s m at not) (got a.After-index_mut s m at not) (good a.After-index_mut s m at not)
    c.take.ensures.taken refl refl refl in
    (s, (_, stepped.1))

pub put_on-requires-clause-live : goal.put_on-requires-clause-live
put_on-requires-clause-live c = λ r now later.
    let s = c.requires.machine.0 in
    let m = c.requires.machine.1.0 in
    let at = c.requires.machine.1.1 in
    let job = with_samples s c.args.job.now in
    let t = c.args.t in
    let a = goal.at.put_on-requires-clause-live c in
    let state = c.index.result.now in
    let found = read_at job m c.args.self.now t state at c.requires.task c.index.ensures in
    let same = read a.After-index_mut s m at in
    let waited = c.wait_block_on.new.self.tasks.items in
    let long = ap (λ v. length v.items) c.wait_block_on.ensures.tasks in
    let took = set_same waited t c.take.new.self
    (let many = at.tasks_many in omega (arith, c.requires.task)) in
    let has = c.take.ensures.taken in
    kept_live c.args.job.now s r m now t (place_in_state state) (place_in_state c.take.new.self)
    (at.tasks t state found).stands (may a.In-Some s m at).live
    (later.tasks t c.take.new.self took).stands
    (ap (λ v. v.items) has.numbers ∙ ap (λ z. z.numbers.items) (sym same))
    (has.left ∙ ap (λ z. z.left) (sym same))

pub returns-clause-steps : goal.returns-clause-steps
returns-clause-steps c = λ s m at.
    let a = goal.at.returns-clause-steps c in
    let not = c.if-count-eq0.false in
    let stepped = once a.After-index_mut c.take.new.self _ s m at (may a.In-Some s m at)
    (given_is a.After-index_mut s m at not) (got a.After-index_mut s m at not) (good a.After-index_mut s m at not)
    c.take.ensures.taken refl refl refl in
    let rest = c.put_on.ensures.steps s _ stepped.1 in
    record {
      events = first_wait c.args.t c.in-Some.k c.input_of-phaser.result
          (get_or c.deref.result.now c.in-Some.k 0) c.wait_block_on.new.places ∷ rest.events;
      after = rest.after;
      lead = (stepped.0, rest.lead);
      some = λ e. omega arith;
      stands = rest.stands;
    }
