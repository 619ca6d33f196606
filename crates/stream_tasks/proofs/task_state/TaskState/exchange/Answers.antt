-- The peer is registered on E, as it owes its wait there.
use Rattle.std.proofs.Common.{◌≡◌, ◌≤◌, ◌∷◌, [], length, refl, sym, ap, subst, ◌∙◌, arith, to_z-of_z, rules, SFits, to_z, of_z, w64, Ok, get_or}
use Rattle.std.specs.Prelude.{take}
use Rattle.std.proofs.lemmas.List.{get_or-take, length-take-le}
use Rattle.phase_accum.specs.declared.outcome.Outcome.{Outcome}
use Rattle.graph_runs.specs.TaskPlaces as turns
use Rattle.graph_runs.specs.TaskPlaces.{owed_after_exchange}
use Rattle.graph_runs.specs.Steps.{owed_of}
use Rattle.graph_base.specs.Graphs.{task_at}
use Rattle.stream_lists.specs.Lists.{number}
use Rattle.stream_tasks.specs.Holds.{HoldGoesOn, WaitGave, MemberHasWaited, IsAtMost}
use Rattle.stream_tasks.proofs.Taking.{first_of}
use Rattle.stream_tasks.proofs.Turning.{task_sees, whole_moves, as_it_is, fits}
use Rattle.stream_tasks.proofs.Waiting.{exchange_on, task_exchanges, owes_exchange, exchange_fits}
use Rattle.stream_tasks.proofs.task_state.TaskState.exchange.Goals as goal

pub index_mut-requires : goal.index_mut-requires
index_mut-requires c =
    let s = c.args.self.now in
    let job = c.args.job.now in
    let task = c.requires.task in
    let owes = owes_exchange s c.args.x c.requires.owed c.requires.none_made in
    let on = exchange_on job task.0 s c.args.x c.requires.met c.requires.over owes task.1 in
    omega (arith, on.1, task.1.whole.holds, s.holds.ok.0)

-- there is a place for what it gets
pub get_into-requires : goal.get_into-requires
get_into-requires c =
    let s = c.args.self.now in
    let whole = c.requires.task.1.whole in
    omega (arith, whole.places.outcomes, whole.places.own, whole.places.own_few, s.outcomes.ok.0)

pub returns-then-is_too_big : goal.returns-then-is_too_big
returns-then-is_too_big c = λ spots task.
    let s = c.args.self.now in
    let job = c.args.job.now in
    c.meet.ensures.keeps job spots
    (whole_moves job s 1 c.get_into.new.hold (record (as_it_is s) { outcomes = c.get_into.new.places })
    (fits job s s.lines s.entered c.get_into.new.places s.places c.get_into.ensures.places (λ op. refl) task.whole)
    task.whole)

pub returns-else-is_too_big : goal.returns-else-is_too_big
returns-else-is_too_big c = λ spots task.
    let s = c.args.self.now in
    let job = c.args.job.now in
    let t = s.number in
    let places = c.get_into.new.places.items in
    let out = take 1 places in
    let outcome : Outcome = c.index-got.result.now in
    let owed = c.owed_after_exchange-self.result in
    let fit : SFits w64 c.number_taken.result = search rules in
    let got : to_z w64 (of_z w64 c.number_taken.result) ≡ number outcome =
    to_z-of_z fit ∙ c.number_taken.ensures in
    let many : length places ≡ length s.outcomes.items = c.get_into.ensures.places in
    let enough = task.whole.places.outcomes in
    let own = task.whole.places.own in
    let own_few = task.whole.places.own_few in
    let some : 1 ≤ length places = omega arith in
    let long : length out ≡ 1 = length-take-le 1 places some in
    let few = subst (IsAtMost 1) c.in-Ok-Values.field-0-is c.in-Ok-Values.ensures.few in
    let first : get_or out 0 outcome ≡ outcome =
    get_or-take 1 places 0 outcome (omega arith) ∙ sym c.index-got.ensures in
    let given : HoldGoesOn (MemberHasWaited (outcome ∷ [])) c.index_mut.result.now c.get_into.new.hold =
    subst (λ os. HoldGoesOn (MemberHasWaited os) c.index_mut.result.now c.get_into.new.hold)
    (first_of out outcome c.in-Ok-Values.field-0-0 long few.0 ∙ ap (λ o. o ∷ []) first)
    (subst (λ f. HoldGoesOn (WaitGave (Ok f) out) c.index_mut.result.now c.get_into.new.hold) c.in-Ok-Values.field-0-is
    c.in-Ok-Values.ensures.call) in
    task_exchanges job spots s c.input_of-p.result c.args.x outcome c.index_mut.result.now c.get_into.new.hold
    owed c.get_into.new.places c.requires.over c.requires.owed c.requires.none_made c.requires.met
    (sym c.input_of-p.ensures.phaser)
    (subst (λ y. owed_of owed ≡ owed_after_exchange (task_at job.graph t) (turns.exchange c.args.x) y) got
    (subst (λ y. owed_of owed ≡ owed_after_exchange (task_at job.graph t) (turns.exchange y) (to_z w64 (of_z w64 c.number_taken.result)))
    (to_z-of_z c.ranges.x) c.owed_after_exchange-self.ensures))
    (sym c.is_too_big.ensures ∙ c.if-is_too_big.false)
    (exchange_fits job s c.args.x owed c.get_into.new.places many task.whole c.requires.owed)
    c.index_mut.ensures.value given task

pub returns-in-Ok-Ended : goal.returns-in-Ok-Ended
returns-in-Ok-Ended c = λ spots task.
    let s = c.args.self.now in
    let job = c.args.job.now in
    c.meet-in-Ok-Ended.ensures.keeps job spots
    (whole_moves job s 1 c.get_into.new.hold (record (as_it_is s) { outcomes = c.get_into.new.places })
    (fits job s s.lines s.entered c.get_into.new.places s.places c.get_into.ensures.places (λ op. refl) task.whole)
    task.whole)

pub returns-in-Err : goal.returns-in-Err
returns-in-Err c = λ spots task.
    let s = c.args.self.now in
    let job = c.args.job.now in
    let owes = owes_exchange s c.args.x c.requires.owed c.requires.none_made in
    let on = exchange_on job spots s c.args.x c.requires.met c.requires.over owes task in
    let none : length s.lefts.items ≡ 0 = task.whole.staying c.requires.over in
    task_sees job spots s 1 c.input_of-p.result c.index_mut.result.now c.get_into.new.hold s.lines s.entered
    c.get_into.new.places s.places c.get_into.ensures.places (λ op. refl)
    on.1 (on.2 ∙ sym c.input_of-p.ensures.phaser) (omega arith) c.index_mut.ensures.value refl
    (subst (λ r. HoldGoesOn (WaitGave r (take 1 c.get_into.new.places.items)) c.index_mut.result.now c.get_into.new.hold)
    c.in-Err.is c.get_into.ensures.call) task
