-- The wait is on the input that the steps begin with.
use Rattle.std.proofs.Common.{◌≡◌, ◌≤◌, ◌+◌, ◌++◌, true, false, length, refl, sym, subst, ap, ◌∙◌, arith, Ok, map}
use Rattle.std.specs.Prelude.{take, drop}
use Rattle.std.proofs.lemmas.List.{length-take-le, take-append-le, take-append-drop}
use Rattle.graph_runs.proofs.Entries.{take_length}
use Rattle.graph_base.specs.Graphs.{is_sink, task_at}
use Rattle.stream_lists.specs.Lists.{is_sink_at, number}
use Rattle.stream_tasks.specs.Holds.{HoldGoesOn, WaitGave, MemberHasWaited, IsAtMost}
use Rattle.stream_tasks.proofs.Turning.{filter_of, task_sees, whole_moves, as_it_is}
use Rattle.stream_tasks.proofs.Waiting.{task_takes, input_on}
use Rattle.stream_tasks.proofs.EndingLemmas.{runs_out}
use Rattle.stream_tasks.proofs.task_state.TaskState.first_wait.Goals as goal

pub returns-then-is_none : goal.returns-then-is_none
returns-then-is_none g c = λ spots task.
    c.meet.ensures.keeps c.args.job.now spots task.whole

pub index_mut-requires : goal.index_mut-requires
index_mut-requires g c =
    let s = c.args.self.now in
    let job = c.args.job.now in
    let whole = c.requires.step.task.whole in
    let on = input_on job s c.first_input_of-k.result c.input_of-p.result whole
    (c.first_input_of-k.ensures.within c.requires.kind) c.input_of-p.ensures.phaser in
    omega (arith, on.0, whole.holds, s.holds.ok.0)

-- there is a place for what each step gets
pub get_into-requires : goal.get_into-requires
get_into-requires g c =
    let s = c.args.self.now in
    let enough = c.requires.step.task.whole.places.outcomes in
    omega (arith, c.steps-steps.ensures.few, s.outcomes.ok.0)

pub owed_after-requires-clause-filter : goal.owed_after-requires-clause-filter
owed_after-requires-clause-filter g c =
    let step = c.requires.step in
    let task = step.task in
    ((task.stands step.met).0.taken c.args.self.now.number 0, (task.stands step.met).1.filter)

pub returns-in_default : goal.returns-in_default
returns-in_default g c = λ spots task.
    let s = c.args.self.now in
    let steps = c.steps-steps.result in
    let most : steps ≤ s.most = c.steps-steps.ensures.few in
    let few = subst (IsAtMost steps) c.in-Ok-Values.field-0-is c.in-Ok-Values.ensures.few in
    let less : c.in-Ok-Values.count ≤ steps = few.1 in
    let taken = take_length c.in-Ok-Values.count c.deref.result.now in
    let made : length c.owed_after.new.made.items ≤ length (take c.in-Ok-Values.count c.deref.result.now) =
    c.owed_after.ensures.room.0 in
    let few_made : length c.owed_after.new.made.items ≤ s.most = omega arith in
    c.meet-in_default.ensures.keeps c.args.job.now spots
    (whole_moves c.args.job.now s c.first_input_of-k.result c.get_into.new.hold
    (record (as_it_is s) {
      filter = c.owed_after.new.filter;
      made = c.owed_after.new.made;
      lines = c.make_room.new.lines;
      entered = c.enter.new.entered;
      outcomes = c.get_into.new.places;
    })
    (record {
      made = c.owed_after.ensures.room.1;
      few_made = few_made;
      outcomes = c.get_into.ensures.places;
      sends = λ op. refl;
      makers = λ many. refl;
      others = λ no. c.owed_after.ensures.others (λ fir. no (rw fir tt));
      few_dealt = task.whole.places.few_dealt;
      deal = task.whole.places.deal;
      splitters = λ split. refl;
      dealers = task.whole.dealers;
    }) task.whole)

pub returns-in-Some : goal.returns-in-Some
returns-in-Some g c = λ spots task.
    let s = c.args.self.now in
    let job = c.args.job.now in
    let t = s.number in
    let step = c.requires.step in
    let k = c.first_input_of-k.result in
    let p = c.input_of-p.result in
    let steps = c.steps-steps.result in
    let count = c.in-Ok-Values.count in
    let places = c.get_into.new.places.items in
    let out = take steps places in
    let got = c.deref.result.now in
    let os = take count got in
    let on = input_on job s k p task.whole (c.first_input_of-k.ensures.within c.requires.kind)
    c.input_of-p.ensures.phaser in
    let most : steps ≤ s.most = c.steps-steps.ensures.few in
    let enough = task.whole.places.outcomes in
    let many : length places ≡ length s.outcomes.items = c.get_into.ensures.places in
    let same : got ≡ places = c.deref.ensures.value in
    let as_long : length got ≡ length places = ap length same in
    let long : length out ≡ steps = length-take-le steps places (omega arith) in
    let few = subst (IsAtMost steps) c.in-Ok-Values.field-0-is c.in-Ok-Values.ensures.few in
    let some : 1 ≤ count = few.0 in
    let less : count ≤ steps = few.1 in
    let first : take count out ≡ os =
    sym (take-append-le count out (drop steps places) (omega arith))
    ∙ ap (take count) (take-append-drop steps places) ∙ ap (take count) (sym same) in
    let taken_all : length os ≡ count = length-take-le count got (omega arith) in
    let made : length c.owed_after.new.made.items ≤ length os = c.in-Some.ensures.room.0 in
    let few_made : length c.owed_after.new.made.items ≤ s.most = omega arith in
    let taken = c.in-Some.ensures.taken in
    task_takes job spots s k p steps os c.index_mut.result.now c.get_into.new.hold
    (record {
      begun = s.begun + count;
      owed = c.in-Some.owed;
      made = c.owed_after.new.made;
      filter = c.owed_after.new.filter;
      lines = c.keep.new.lines;
      entered = false;
      outcomes = c.get_into.new.places;
      places = s.places;
      deal = s.deal;
    })
    on.0 on.1 (sym c.input_of-p.ensures.phaser) step c.requires.kind c.requires.split c.requires.decimate c.requires.join c.first_input_of-k.ensures.input
    (omega arith) c.steps-steps.ensures.may (omega arith) (omega arith) (omega arith)
    taken.fit taken.owes taken.filter
    (λ sink. (let yes : is_sink_at job t ≡ true = rw sink refl in
    c.keep.ensures.kept (c.is_sink-sink.ensures
    ∙ ap (λ graph. is_sink (task_at graph t).kind) c.graph.ensures.graph ∙ yes)
    ∙ ap (λ l. l ++ map number os) c.make_room.ensures.items))
    (record {
      made = c.owed_after.ensures.room.1;
      few_made = few_made;
      outcomes = many;
      sends = λ op. refl;
      makers = λ many. taken.filters (filter_of (task_at job.graph t).kind many c.requires.decimate c.requires.join)
          ∙ sym (task.whole.makers many);
      others = λ no. c.owed_after.ensures.others (λ fir. no (rw fir tt));
      few_dealt = task.whole.places.few_dealt;
      deal = task.whole.places.deal;
      splitters = λ split. absurd (c.requires.split split);
      dealers = task.whole.dealers;
    })
    c.index_mut.ensures.value
    (subst (λ l. HoldGoesOn (MemberHasWaited l) c.index_mut.result.now c.get_into.new.hold) first
    (subst (λ f. HoldGoesOn (WaitGave (Ok f) out) c.index_mut.result.now c.get_into.new.hold) c.in-Ok-Values.field-0-is
    c.in-Ok-Values.ensures.call)) task

pub returns-in-Ok-Ended : goal.returns-in-Ok-Ended
returns-in-Ok-Ended g c = λ spots task.
    let s = c.args.self.now in
    let job = c.args.job.now in
    let step = c.requires.step in
    let k = c.first_input_of-k.result in
    let p = c.input_of-p.result in
    let within = c.first_input_of-k.ensures.within c.requires.kind in
    let on = input_on job s k p task.whole within c.input_of-p.ensures.phaser in
    runs_out job spots s k p c.index_mut.result.now c.get_into.new.hold c.make_room.new.lines c.enter.new.entered
    c.get_into.new.places
    step.met step.over step.owed c.requires.kind c.first_input_of-k.ensures.input within
    (sym c.input_of-p.ensures.phaser) on.0 on.1 c.index_mut.ensures.value c.make_room.ensures.items c.get_into.ensures.places step.children
    (subst (λ f. HoldGoesOn (WaitGave (Ok f) (take c.steps-steps.result c.get_into.new.places.items)) c.index_mut.result.now c.get_into.new.hold) c.in-Ok-Ended.field-0-is
    c.in-Ok-Ended.ensures.call) task

pub returns-in-Err : goal.returns-in-Err
returns-in-Err g c = λ spots task.
    let s = c.args.self.now in
    let job = c.args.job.now in
    let k = c.first_input_of-k.result in
    let p = c.input_of-p.result in
    let on = input_on job s k p task.whole (c.first_input_of-k.ensures.within c.requires.kind)
    c.input_of-p.ensures.phaser in
    let none : length s.lefts.items ≡ 0 = task.whole.staying c.requires.step.over in
    task_sees job spots s k p c.index_mut.result.now c.get_into.new.hold c.make_room.new.lines c.enter.new.entered
    c.get_into.new.places s.places c.get_into.ensures.places (λ op. refl)
    on.0 on.1 (omega arith) c.index_mut.ensures.value c.make_room.ensures.items
    (subst (λ r. HoldGoesOn (WaitGave r (take c.steps-steps.result c.get_into.new.places.items)) c.index_mut.result.now c.get_into.new.hold) c.in-Err.is c.get_into.ensures.call) task
