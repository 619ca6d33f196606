use Rattle.std.proofs.Common.{◌≡◌, ◌∷◌, Ok, Err, true, ap, refl, ◌∙◌}
use Rattle.std.specs.Prelude.{Result, IsOk, is_some}
use Rattle.phase_shared.specs.LockedPhasers.{locked_terms}
use Rattle.turn_lock.specs.Seats.{turn_view, turn_value, turn_number, turn_told}
use Rattle.phase_shared.specs.Phasers.{entry_of}
use Rattle.phase_history.specs.declared.event.Event.TheVariants.{Dropped}
use Rattle.phase_shared.specs.Views.{resting, known_of, speaks_of}
use Rattle.phase_shared.specs.Rule.{StandsWithin}
use Rattle.phase_shared.specs.declared.seats.view.View.{View}
use Rattle.phase_shared.proofs.Giving.{gives_own, own_none, own_event, lent, after_call, AfterCall}
use Rattle.phase_history.specs.declared.refusal.NoTask.{NoTask}
use Rattle.phase_shared.proofs.seats.steps.leave.Goals as goal

-- an accepted drop answers nothing else
ok_is : (r : Result (Unit {0}) NoTask) → IsOk r → r ≡ Ok tt
ok_is (Ok tt) ok = refl
ok_is (Err refusal) ok = absurd (cc)

-- the task is registered, so that its drop is accepted
pub unreachable-requires : goal.unreachable-requires
unreachable-requires g c =
    let op = g.A.Accumulate.operation in
    let terms = locked_terms c.args.phaser.now in
    let turn = c.in-Ok.turn in
    let e = c.in-Ok.ensures.turn.knows in
    let before : StandsWithin op terms.limits c.value_in-core.result.now e.now = lent op g.K.SignalRule.allows terms c.args.me (turn_value turn) c.value_in-core.result.now e.now c.value_in-core.ensures.value e.stands in
    let known : is_some (entry_of c.value_in-core.result.now.members c.args.me) ≡ true = ap (λ ms. is_some (entry_of ms c.args.me)) before.stands.members_are ∙ ap is_some e.member in
    c.in_default.not-Ok tt (ok_is c.drop_task-answer.result (c.drop_task-answer.ensures.ok.1 known))

pub put_back-requires-clause-rule : goal.put_back-requires-clause-rule
put_back-requires-clause-rule g c =
    let op = g.A.Accumulate.operation in
    let allows = g.K.SignalRule.allows in
    let terms = locked_terms c.args.phaser.now in
    let turn = c.in-Ok.turn in
    let e = c.in-Ok.ensures.turn.knows in
    let old = c.value_in-core.result.now in
    let before : StandsWithin op terms.limits old e.now = lent op allows terms c.args.me (turn_value turn) old e.now c.value_in-core.ensures.value e.stands in
    let s : AfterCall op allows terms c.args.me (Dropped c.args.me ∷ e.now) c.drop_task-answer.new.self =
    after_call op allows terms c.args.me e.now (Dropped c.args.me ∷ e.now) old c.drop_task-answer.new.self before c.in-Ok-answer.ensures.limits
    (c.in-Ok-answer.ensures.after e.now before.stands) e.good.keeps in
    gives_own op allows terms c.args.me (λ v w. w ≡ resting (Dropped c.args.me ∷ (known_of v).seen) (speaks_of v))
    (turn_number turn) (turn_told turn) c.drop_task-answer.new.self (turn_view turn) e.now (Dropped c.args.me ∷ e.now) e.claims e.said e.is e.used
    (own_event c.args.me e.now e.now (Dropped c.args.me) (λ t. refl) (own_none c.args.me e.now)) s.good s.stands refl

pub returns-clause-ok : goal.returns-clause-ok
returns-clause-ok g c =
    let op = g.A.Accumulate.operation in
    let allows = g.K.SignalRule.allows in
    let terms = locked_terms c.args.phaser.now in
    let turn = c.in-Ok.turn in
    let e = c.in-Ok.ensures.turn.knows in
    let old = c.value_in-core.result.now in
    let before : StandsWithin op terms.limits old e.now = lent op allows terms c.args.me (turn_value turn) old e.now c.value_in-core.ensures.value e.stands in
    let s : AfterCall op allows terms c.args.me (Dropped c.args.me ∷ e.now) c.drop_task-answer.new.self =
    after_call op allows terms c.args.me e.now (Dropped c.args.me ∷ e.now) old c.drop_task-answer.new.self before c.in-Ok-answer.ensures.limits
    (c.in-Ok-answer.ensures.after e.now before.stands) e.good.keeps in
    record {
      here = c.put_back.ensures.here;
      knows = record {
        before = e.now;
        others = e.others;
        rests = c.put_back.ensures.knows ∙ ap (λ (v : View). resting (Dropped c.args.me ∷ (known_of v).seen) (speaks_of v)) e.is;
        good = s.good;
      };
    }
