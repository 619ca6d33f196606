-- The wait is on the input whose turn it is. What it gets stands behind what was taken before.
use Rattle.std.proofs.Common.{◌≡◌, ◌≤◌, ◌∷◌, ◌++◌, [], Ok, false, get_or, length, refl, sym, ap, subst, ◌∙◌, arith, rules, SFits, to_z, of_z, to_z-of_z, w64}
use Rattle.std.specs.Prelude.{take}
use Rattle.std.proofs.lemmas.List.{get_or-take, length-take-le}
use Rattle.graph_base.specs.Graphs.{task_at}
use Rattle.graph_base.specs.declared.line.Kind.TheVariants as kind
use Rattle.phase_accum.specs.declared.outcome.Outcome.{Outcome}
use Rattle.stream_lists.specs.Lists.{number}
use Rattle.stream_tasks.specs.Holds.{HasRunOut, HoldGoesOn, IsAtMost, MemberHasWaited, WaitGave}
use Rattle.stream_tasks.proofs.EndingLemmas.{runs_out}
use Rattle.stream_tasks.proofs.JoinStates.{ended_sees, join_children, join_owes_none, join_sees, task_joins}
use Rattle.stream_tasks.proofs.Taking.{first_of}
use Rattle.stream_tasks.proofs.Turning.{as_it_is, fits, whole_moves}
use Rattle.stream_tasks.proofs.Waiting.{input_on}
use Rattle.stream_tasks.proofs.task_state.TaskState.take_next.Goals as goal

pub returns-in_default : goal.returns-in_default
returns-in_default c = λ spots task.
    c.meet.ensures.keeps c.args.job.now spots task.whole

pub index_mut-requires : goal.index_mut-requires
index_mut-requires c =
    let s = c.args.self.now in
    let job = c.args.job.now in
    let whole = c.requires.task.whole in
    let within = c.first_input_of-k.ensures.within
    (λ source. (let no : kind.Join ≡ kind.Source = sym c.requires.kind ∙ source in cc)) in
    let on = input_on job s c.first_input_of-k.result c.input_of-p.result whole within
    c.input_of-p.ensures.phaser in
    omega (arith, on.0, whole.holds, s.holds.ok.0)

pub returns-then-is_too_big : goal.returns-then-is_too_big
returns-then-is_too_big c = λ spots task.
    let s = c.args.self.now in
    let job = c.args.job.now in
    c.meet-then-is_too_big.ensures.keeps job spots
    (whole_moves job s c.first_input_of-k.result c.get_into.new.hold
    (record (as_it_is s) { outcomes = c.get_into.new.places })
    (fits job s s.lines s.entered c.get_into.new.places s.places c.get_into.ensures.places (λ op. refl) task.whole)
    task.whole)

pub returns-else-is_too_big : goal.returns-else-is_too_big
returns-else-is_too_big c = λ spots task.
    let s = c.args.self.now in
    let job = c.args.job.now in
    let k = c.first_input_of-k.result in
    let p = c.input_of-p.result in
    let places = c.get_into.new.places.items in
    let out = take 1 places in
    let outcome : Outcome = c.index-got.result.now in
    let fit : SFits w64 c.number_taken.result = search rules in
    let got : to_z w64 (of_z w64 c.number_taken.result) ≡ number outcome =
    to_z-of_z fit ∙ c.number_taken.ensures in
    let many : length places ≡ length s.outcomes.items = c.get_into.ensures.places in
    let enough = task.whole.places.outcomes in
    let own = task.whole.places.own in
    let own_few = task.whole.places.own_few in
    let some : 1 ≤ length places = omega arith in
    let long : length out ≡ 1 = length-take-le 1 places some in
    let few = subst (IsAtMost 1) c.in-Ok-Values.field-0-is c.in-Ok-Values.ensures.few in
    let first : get_or out 0 outcome ≡ outcome =
    get_or-take 1 places 0 outcome (omega arith) ∙ sym c.index-got.ensures in
    let given : HoldGoesOn (MemberHasWaited (outcome ∷ [])) c.index_mut.result.now c.get_into.new.hold =
    subst (λ os. HoldGoesOn (MemberHasWaited os) c.index_mut.result.now c.get_into.new.hold)
    (first_of out outcome c.in-Ok-Values.field-0-0 long few.0 ∙ ap (λ o. o ∷ []) first)
    (subst (λ f. HoldGoesOn (WaitGave (Ok f) out) c.index_mut.result.now c.get_into.new.hold) c.in-Ok-Values.field-0-is
    c.in-Ok-Values.ensures.call) in
    let within = c.first_input_of-k.ensures.within
    (λ source. (let no : kind.Join ≡ kind.Source = sym c.requires.kind ∙ source in cc)) in
    let on = input_on job s k p task.whole within c.input_of-p.ensures.phaser in
    task_joins job spots s k p c.in-Some.begun outcome c.index_mut.result.now c.get_into.new.hold
    c.push_reserved.new.self false c.get_into.new.places on.0 on.1 (sym c.input_of-p.ensures.phaser)
    c.requires.met c.requires.over c.requires.kind c.requires.uncut c.requires.room
    c.first_input_of-k.ensures.input (search rules)
    (sym c.is_too_big.ensures ∙ c.if-is_too_big.false)
    (c.push_reserved.ensures.items ∙ ap (λ v. s.made.items ++ v ∷ []) got)
    c.push_reserved.ensures.capacity many c.index_mut.ensures.value given task

-- what it saw of the input where it got nothing
pub put_made-requires-clause-task : goal.put_made-requires-clause-task
put_made-requires-clause-task c =
    let old = c.index_mut.result.now in
    let new = c.get_into.new.hold in
    let gave : HoldGoesOn HasRunOut old new =
    subst (λ f. HoldGoesOn (WaitGave (Ok f) (take 1 c.get_into.new.places.items)) old new)
    c.in-Ok-Ended.field-0-is c.in-Ok-Ended.ensures.call in (
      c.requires.spots,
      join_sees c.args.job.now c.requires.spots c.args.self.now c.first_input_of-k.result c.input_of-p.result
          old new c.get_into.new.places c.requires.over c.requires.kind c.first_input_of-k.ensures.input
          c.input_of-p.ensures.phaser c.index_mut.ensures.value c.get_into.ensures.places
          (ended_sees old new gave) c.requires.task,
    )

pub returns-then-not-is_empty : goal.returns-then-not-is_empty
returns-then-not-is_empty c = λ spots task.
    let old = c.index_mut.result.now in
    let new = c.get_into.new.hold in
    let gave : HoldGoesOn HasRunOut old new =
    subst (λ f. HoldGoesOn (WaitGave (Ok f) (take 1 c.get_into.new.places.items)) old new)
    c.in-Ok-Ended.field-0-is c.in-Ok-Ended.ensures.call in
    c.put_made.ensures spots
    (join_sees c.args.job.now spots c.args.self.now c.first_input_of-k.result c.input_of-p.result
    old new c.get_into.new.places c.requires.over c.requires.kind c.first_input_of-k.ensures.input
    c.input_of-p.ensures.phaser c.index_mut.ensures.value c.get_into.ensures.places
    (ended_sees old new gave) task)

pub returns-else-not-is_empty : goal.returns-else-not-is_empty
returns-else-not-is_empty c = λ spots task.
    let s = c.args.self.now in
    let job = c.args.job.now in
    let k = c.first_input_of-k.result in
    let p = c.input_of-p.result in
    let none : s.made.items ≡ [] = search rules in
    let no_source : (task_at job.graph s.number).kind ≡ kind.Source → ⊥ =
    λ source. (let no : kind.Join ≡ kind.Source = sym c.requires.kind ∙ source in cc) in
    let within = c.first_input_of-k.ensures.within no_source in
    let on = input_on job s k p task.whole within c.input_of-p.ensures.phaser in
    runs_out job spots s k p c.index_mut.result.now c.get_into.new.hold s.lines s.entered c.get_into.new.places
    c.requires.met c.requires.over (join_owes_none job s task.whole c.requires.kind none) no_source
    c.first_input_of-k.ensures.input within (sym c.input_of-p.ensures.phaser) on.0 on.1 c.index_mut.ensures.value refl
    c.get_into.ensures.places (join_children job s task.whole c.requires.kind)
    (subst (λ f. HoldGoesOn (WaitGave (Ok f) (take 1 c.get_into.new.places.items)) c.index_mut.result.now c.get_into.new.hold) c.in-Ok-Ended.field-0-is
    c.in-Ok-Ended.ensures.call) task

pub put_made-requires-then-not-is_empty-2-clause-task :
    goal.put_made-requires-then-not-is_empty-2-clause-task
put_made-requires-then-not-is_empty-2-clause-task c = (
  c.requires.spots,
  join_sees c.args.job.now c.requires.spots c.args.self.now c.first_input_of-k.result c.input_of-p.result
      c.index_mut.result.now c.get_into.new.hold c.get_into.new.places c.requires.over c.requires.kind
      c.first_input_of-k.ensures.input c.input_of-p.ensures.phaser c.index_mut.ensures.value c.get_into.ensures.places
      (subst (λ r. HoldGoesOn (WaitGave r (take 1 c.get_into.new.places.items)) c.index_mut.result.now c.get_into.new.hold) c.in-Err.is c.get_into.ensures.call)
      c.requires.task,
)

pub returns-then-not-is_empty-2 : goal.returns-then-not-is_empty-2
returns-then-not-is_empty-2 c = λ spots task.
    c.put_made-then-not-is_empty-2.ensures spots
    (join_sees c.args.job.now spots c.args.self.now c.first_input_of-k.result c.input_of-p.result
    c.index_mut.result.now c.get_into.new.hold c.get_into.new.places c.requires.over c.requires.kind
    c.first_input_of-k.ensures.input c.input_of-p.ensures.phaser c.index_mut.ensures.value c.get_into.ensures.places
    (subst (λ r. HoldGoesOn (WaitGave r (take 1 c.get_into.new.places.items)) c.index_mut.result.now c.get_into.new.hold) c.in-Err.is c.get_into.ensures.call)
    task)

pub returns-else-eq : goal.returns-else-eq
returns-else-eq c = λ spots task.
    join_sees c.args.job.now spots c.args.self.now c.first_input_of-k.result c.input_of-p.result
    c.index_mut.result.now c.get_into.new.hold c.get_into.new.places c.requires.over c.requires.kind
    c.first_input_of-k.ensures.input c.input_of-p.ensures.phaser c.index_mut.ensures.value c.get_into.ensures.places
    (subst (λ r. HoldGoesOn (WaitGave r (take 1 c.get_into.new.places.items)) c.index_mut.result.now c.get_into.new.hold) c.in-Err.is c.get_into.ensures.call)
    task
