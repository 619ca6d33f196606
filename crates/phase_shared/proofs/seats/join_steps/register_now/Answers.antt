use Rattle.std.proofs.Common.{◌≡◌, [], ◌∷◌, None, true, false, refl, sym, ap, ◌∙◌, rules}
use Rattle.turn_lock.specs.Seats.{seat_view, turn_view, turn_value, turn_number, turn_told, IsSameSeat}
use Rattle.phase_shared.specs.Phasers.{Entry, Event, History, done_of, entry_at, register_now_refusal, StandsFor}
use Rattle.phase_base.specs.declared.mode.Mode.TheVariants.{Wait}
use Rattle.phase_history.specs.declared.event.Event.TheVariants.{RegisteredNow}
use Rattle.phase_history.specs.declared.refusal.RegisterRefusal.TheVariants as register
use Rattle.phase_shared.specs.LockedPhasers.{locked_terms}
use Rattle.phase_shared.specs.Views.{resting, known_of}
use Rattle.phase_shared.specs.Rule.{StandsWithin}
use Rattle.phase_shared.specs.Entries.{entry_stays}
use Rattle.phase_shared.specs.Steps.{RegistersSeatNow}
use Rattle.phase_shared.specs.declared.seats.view.View.{View}
use Rattle.phase_shared.proofs.Giving.{lent}
use Rattle.phase_shared.proofs.Stepping.{kept_out}
use Rattle.phase_shared.proofs.RegisterSteps.{NewMember, is_there, gives_new_member, for_both, speaks_for_both, parent_rests, parent_stays, child_rests, child_stands, gives_refused, refused_step, child_is_next}
use Rattle.phase_shared.proofs.JoinSteps.{new_member_now}
use Rattle.phase_shared.proofs.seats.join_steps.register_now.Given.{Over}
use Rattle.phase_shared.proofs.seats.join_steps.register_now.Goals.{After-view-found}
use Rattle.phase_shared.proofs.seats.join_steps.register_now.Goals as goal

-- the phaser under the turn stood for what was seen
stood : (g : Over) (c : After-view-found g)
    → StandsWithin g.A.Accumulate.operation (locked_terms c.args.phaser.now).limits c.value_in-core.result.now c.in-Ok.ensures.turn.knows.now
stood g c =
    lent g.A.Accumulate.operation g.K.SignalRule.allows (locked_terms c.args.phaser.now) c.args.me (turn_value c.in-Ok.turn) c.value_in-core.result.now
    c.in-Ok.ensures.turn.knows.now c.value_in-core.ensures.value c.in-Ok.ensures.turn.knows.stands

-- the event, and where the child stands
abbrev event : (g : Over) (c : After-view-found g) → Event
event g c = RegisteredNow c.args.me c.child_of-child.result

abbrev begins : (g : Over) (c : After-view-found g) → Entry
begins g c = entry_at Wait c.args.entry.signal_phase (done_of c.in-Ok.ensures.turn.knows.now)

module _ (g : Over) (c : After-view-found g) where
  abbrev IsMade : Type 0
  IsMade = NewMember g.A.Accumulate.operation g.K.SignalRule.allows (locked_terms c.args.phaser.now) c.args.me c.args.entry c.in-Ok.ensures.turn.knows.now (event g c)
      c.child_of-child.result (begins g c) c.register_now-answer.new.self

  -- what the registration leaves, where the core accepted it
  made : ((h : History) → StandsFor g.A.Accumulate.operation c.value_in-core.result.now h → register_now_refusal h c.args.me c.child_of-child.result ≡ None)
      → c.register_now-answer.new.self.limits ≡ c.value_in-core.result.now.limits
      → ((h : History) → StandsFor g.A.Accumulate.operation c.value_in-core.result.now h → StandsFor g.A.Accumulate.operation c.register_now-answer.new.self (event g c ∷ h))
      → IsMade
  made ok limits after =
      let e = c.in-Ok.ensures.turn.knows in
      let before = stood g c in
      new_member_now g.A.Accumulate.operation g.K.SignalRule.allows (locked_terms c.args.phaser.now) c.args.me c.args.entry e.now c.child_of-child.result
      c.value_in-core.result.now c.register_now-answer.new.self before e.good e.used e.member (ok e.now before.stands) limits (after e.now before.stands)

-- the child is a member now
pub unreachable-requires : goal.unreachable-requires
unreachable-requires g c =
    let at = (goal.at.unreachable-requires g c).After-view-found in
    c.in_default-found.not-Some (begins g at)
    (is_there g.A.Accumulate.operation g.K.SignalRule.allows (locked_terms c.args.phaser.now) c.args.me c.args.entry c.in-Ok.ensures.turn.knows.now (event g at)
    c.child_of-child.result (begins g at) c.register_now-answer.new.self (made g at (λ h s. (c.in_default.ensures.ok h s).0) c.in_default.ensures.limits c.in_default.ensures.after)
    c.view-found.result c.view-found.ensures)

pub put_back-both-requires-clause-rule : goal.put_back-both-requires-clause-rule
put_back-both-requires-clause-rule g c =
    let at = (goal.at.put_back-both-requires-clause-rule g c).After-view-found in
    let e = c.in-Ok.ensures.turn.knows in
    gives_new_member g.A.Accumulate.operation g.K.SignalRule.allows (locked_terms c.args.phaser.now) c.args.me c.args.entry e.now (event g at)
    c.child_of-child.result (begins g at) c.register_now-answer.new.self (made g at (λ h s. (c.in_default.ensures.ok h s).0) c.in_default.ensures.limits c.in_default.ensures.after)
    (turn_number c.in-Ok.turn) (turn_told c.in-Ok.turn) (turn_view c.in-Ok.turn) e.claims e.said e.is e.used

pub give_same-requires-clause-rule : goal.give_same-requires-clause-rule
give_same-requires-clause-rule g c =
    let e = c.in-Ok.ensures.turn.knows in
    gives_refused g.A.Accumulate.operation g.K.SignalRule.allows (locked_terms c.args.phaser.now) c.args.me c.args.entry (turn_number c.in-Ok.turn) (turn_told c.in-Ok.turn)
    (seat_view c.args.seat) (turn_view c.in-Ok.turn) (turn_value c.in-Ok.turn) c.value_in-core.result.now c.register_now-answer.new.self e (stood g (goal.at.give_same-requires-clause-rule g c).After-view-found)
    c.in-Err-answer.ensures.err

pub split-seat-requires : goal.split-seat-requires
split-seat-requires g c =
    let at = (goal.at.split-seat-requires g c).After-view-found in
    let e = c.in-Ok.ensures.turn.knows in
    let child = c.child_of-child.result in
    record {
      here = c.put_back-both.ensures.here;
      knows = speaks_for_both c.args.me e.now (event g at) child (seat_view c.put_back-both.result)
          (for_both c.args.me e.now (event g at) child (seat_view c.put_back-both.result) (turn_view c.in-Ok.turn) e.claims e.said c.put_back-both.ensures.knows e.is);
    }

pub returns : goal.returns
returns g c =
    let at = (goal.at.returns g c).After-view-found in
    let op = g.A.Accumulate.operation in
    let allows = g.K.SignalRule.allows in
    let terms = locked_terms c.args.phaser.now in
    let me = c.args.me in
    let child = c.child_of-child.result in
    let e = c.in-Ok.ensures.turn.knows in
    let before = stood g at in
    let x = c.register_now-answer.new.self in
    let b : IsMade g at = made g at (λ h s. (c.in_default.ensures.ok h s).0) c.in_default.ensures.limits c.in_default.ensures.after in
    let both : seat_view c.put_back-both.result ≡ resting (event g at ∷ e.now) (me ∷ child ∷ []) =
    for_both me e.now (event g at) child (seat_view c.put_back-both.result) (turn_view c.in-Ok.turn) e.claims e.said c.put_back-both.ensures.knows e.is in
    let left : seat_view c.split-seat.result.0 ≡ resting (event g at ∷ e.now) (me ∷ []) =
    parent_rests me e.now (event g at) child (seat_view c.put_back-both.result) (seat_view c.split-seat.result.0) c.split-seat.ensures.left.knows both in
    let right : seat_view c.split-seat.result.1 ≡ resting (event g at ∷ e.now) (child ∷ []) =
    child_rests me e.now (event g at) child (seat_view c.put_back-both.result) (seat_view c.split-seat.result.1) c.split-seat.ensures.right.knows both in
    let stands = child_stands op allows terms me c.args.entry e.now (event g at) child (begins g at) x b c.in-Some.start c.view-found.result
    (seat_view c.split-seat.result.1) right c.view-found.ensures c.in-Some.is in
    record {
      call = record {
        registered = record {
          before = e.now;
          others = e.others;
          seen = ap (λ (v : View). (known_of v).seen) left;
          reply = (c.in_default.ensures.ok e.now before.stands).0;
          next = child_is_next e.now child c.value_in-core.result.now.greatest before.stands.greatest_is c.child_of-child.ensures b.new.above;
          entry = stands.1;
        };
        at = record { here = c.split-seat.ensures.right.here; knows = stands.0 };
        seen = ap (λ (v : View). (known_of v).seen) right ∙ sym (ap (λ (v : View). (known_of v).seen) left);
      };
      at = record { here = c.split-seat.ensures.left.here; knows = parent_stays op allows terms me c.args.entry e.now (event g at) child (begins g at) x b (seat_view c.split-seat.result.0) left };
      entry_is = refl;
      known = search rules;
      alone = search rules;
    }

-- the core refused it
pub returns-in-Err-answer : goal.returns-in-Err-answer
returns-in-Err-answer g c =
    let e = c.in-Ok.ensures.turn.knows in
    let before = stood g (goal.at.returns-in-Err-answer g c).After-view-found in
    let old = (known_of (seat_view c.args.seat)).seen in
    let new = (known_of (seat_view c.give_same.result)).seen in
    refused_step g.A.Accumulate.operation g.K.SignalRule.allows c.args.phaser.now c.args.me c.args.entry e.now c.child_of-child.result
    c.value_in-core.result.now.greatest Wait c.in-Err-answer.refusal (IsSameSeat c.args.seat c.give_same.result)
    (RegistersSeatNow g.K.SignalRule.allows c.args.phaser.now c.args.me c.args.entry old new)
    c.args.seat c.give_same.result (turn_view c.in-Ok.turn) e.claims e.said c.give_same.ensures e.is e.good e.member e.others
    before.stands.greatest_is c.child_of-child.ensures (λ other. c.in-Err-answer.ensures.refused other e.now before.stands)
    (λ none. c.in-Err-answer.ensures.out_of_memory none e.now before.stands) (λ r. r)

-- the turn was another's
pub returns-in-Err : goal.returns-in-Err
returns-in-Err g c =
    kept_out g.A.Accumulate.operation g.K.SignalRule.allows c.args.phaser.now c.args.me register.NoTask entry_stays _ c.args.entry
    c.args.seat c.in-Err.seat refl c.in-Err.ensures.err c.in-Err.ensures.still
    (λ only. let z : false ≡ true = c.in-Err.ensures.alone only in cc)
