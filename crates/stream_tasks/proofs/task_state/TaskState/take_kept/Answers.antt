-- The wait is on the only input, and of what it gets the values at steps that `every` divides are
-- kept.
use Rattle.std.proofs.Common.{◌≡◌, ◌<◌, ◌≤◌, ◌+◌, ◌%◌, false, length, refl, sym, subst, ap, ◌∙◌, arith, Ok, map}
use Rattle.std.specs.Prelude.{take, drop}
use Rattle.std.proofs.lemmas.List.{length-take-le, take-append-le, take-append-drop}
use Rattle.graph_base.specs.Graphs.{task_at}
use Rattle.stream_lists.specs.Lists.{every, number}
use Rattle.stream_tasks.specs.Holds.{HoldGoesOn, WaitGave, MemberHasWaited, IsAtMost}
use Rattle.stream_tasks.proofs.Decimating.{decimate_takes}
use Rattle.stream_tasks.proofs.EndingLemmas.{runs_out}
use Rattle.stream_tasks.proofs.KeptStates.{task_keeps}
use Rattle.stream_tasks.proofs.Turning.{as_it_is, fits, task_sees, whole_moves}
use Rattle.stream_tasks.proofs.Waiting.{input_on}
use Rattle.stream_tasks.proofs.task_state.TaskState.take_kept.Goals as goal

pub returns-then-is_none : goal.returns-then-is_none
returns-then-is_none g c = λ spots task.
    c.meet.ensures.keeps c.args.job.now spots task.whole

pub returns-then-not-all_fit : goal.returns-then-not-all_fit
returns-then-not-all_fit g c = λ spots task.
    let s = c.args.self.now in
    c.meet-then-not-all_fit.ensures.keeps c.args.job.now spots
    (whole_moves c.args.job.now s 0 c.get_into.new.hold
    (record (as_it_is s) { entered = c.enter.new.entered; outcomes = c.get_into.new.places })
    (fits c.args.job.now s s.lines c.enter.new.entered c.get_into.new.places s.places
    c.get_into.ensures.places (λ op. refl) task.whole) task.whole)

pub returns-else-not-all_fit : goal.returns-else-not-all_fit
returns-else-not-all_fit g c = λ spots task.
    let s = c.args.self.now in
    let job = c.args.job.now in
    let step = c.requires.step in
    let p = c.input_of-p.result in
    let first = c.steps_to_next-first.result in
    let steps = c.steps-steps.result in
    let count = c.in-Ok-Values.count in
    let places = c.get_into.new.places.items in
    let out = take steps places in
    let got = c.deref.result.now in
    let os = take count got in
    let one = (decimate_takes job s.number task.whole.graph task.whole.there c.requires.kind).input in
    let on = input_on job s 0 p task.whole (omega (arith, one)) c.input_of-p.ensures.phaser in
    let most : steps ≤ s.most = c.steps-steps.ensures.few in
    let enough = task.whole.places.outcomes in
    let many : length places ≡ length s.outcomes.items = c.get_into.ensures.places in
    let same : got ≡ places = c.deref.ensures.value in
    let as_long : length got ≡ length places = ap length same in
    let long : length out ≡ steps = length-take-le steps places (omega arith) in
    let few = subst (IsAtMost steps) c.in-Ok-Values.field-0-is c.in-Ok-Values.ensures.few in
    let some : 1 ≤ count = few.0 in
    let less : count ≤ steps = few.1 in
    let taken_first : take count out ≡ os =
    sym (take-append-le count out (drop steps places) (omega arith))
    ∙ ap (take count) (take-append-drop steps places) ∙ ap (take count) (sym same) in
    let taken_all : length os ≡ count = length-take-le count got (omega arith) in
    task_keeps job s p (s.begun + count) steps first os false c.get_into.new.places
    c.keep_every.new.made
    c.requires.kind on.0 on.1 (sym c.input_of-p.ensures.phaser) step (omega arith)
    c.steps-steps.ensures.may (omega arith) (omega arith) (omega arith)
    (c.all_fit.ensures c.if-not-all_fit.false)
    (subst (λ n. first < n) c.every_of-every.ensures.every c.steps_to_next-first.ensures.few)
    (subst (λ n. (s.begun + first) % n ≡ 0) c.every_of-every.ensures.every
    c.steps_to_next-first.ensures.next)
    (subst (λ n. c.keep_every.new.made.items ≡ every n first (map number os))
    c.every_of-every.ensures.every c.keep_every.ensures.kept)
    spots c.index_mut.result.now c.get_into.new.hold c.keep_every.ensures.room
    c.keep_every.ensures.few many c.index_mut.ensures.value
    (subst (λ l. HoldGoesOn (MemberHasWaited l) c.index_mut.result.now c.get_into.new.hold) taken_first
    (subst (λ f. HoldGoesOn (WaitGave (Ok f) out) c.index_mut.result.now c.get_into.new.hold) c.in-Ok-Values.field-0-is
    c.in-Ok-Values.ensures.call)) task

pub returns-in-Ok-Ended : goal.returns-in-Ok-Ended
returns-in-Ok-Ended g c = λ spots task.
    let s = c.args.self.now in
    let job = c.args.job.now in
    let step = c.requires.step in
    let p = c.input_of-p.result in
    let takes = decimate_takes job s.number task.whole.graph task.whole.there c.requires.kind in
    let within : 0 < length (task_at job.graph s.number).inputs = omega (arith, takes.input) in
    let on = input_on job s 0 p task.whole within c.input_of-p.ensures.phaser in
    runs_out job spots s 0 p c.index_mut.result.now c.get_into.new.hold s.lines c.enter.new.entered
    c.get_into.new.places
    step.met step.over step.owed takes.source (takes.first s.begun) within
    (sym c.input_of-p.ensures.phaser) on.0 on.1 c.index_mut.ensures.value refl c.get_into.ensures.places step.children
    (subst (λ f. HoldGoesOn (WaitGave (Ok f) (take c.steps-steps.result c.get_into.new.places.items)) c.index_mut.result.now c.get_into.new.hold) c.in-Ok-Ended.field-0-is
    c.in-Ok-Ended.ensures.call) task

pub returns-in-Err : goal.returns-in-Err
returns-in-Err g c = λ spots task.
    let s = c.args.self.now in
    let job = c.args.job.now in
    let p = c.input_of-p.result in
    let one = (decimate_takes job s.number task.whole.graph task.whole.there c.requires.kind).input in
    let on = input_on job s 0 p task.whole (omega (arith, one)) c.input_of-p.ensures.phaser in
    let none : length s.lefts.items ≡ 0 = task.whole.staying c.requires.step.over in
    task_sees job spots s 0 p c.index_mut.result.now c.get_into.new.hold s.lines c.enter.new.entered
    c.get_into.new.places s.places c.get_into.ensures.places (λ op. refl)
    on.0 on.1 (omega arith) c.index_mut.ensures.value refl
    (subst (λ r. HoldGoesOn (WaitGave r (take c.steps-steps.result c.get_into.new.places.items)) c.index_mut.result.now c.get_into.new.hold) c.in-Err.is c.get_into.ensures.call) task
