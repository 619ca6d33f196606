use Rattle.std.proofs.Common.{ap, ◌∷◌, [], ◌∙◌}
use Rattle.phase_shared.specs.LockedPhasers.{locked_terms}
use Rattle.turn_lock.specs.Seats.{seat_view, seat_number, turn_value, turn_view}
use Rattle.turn_lock.specs.WordSteps.{BusyOf}
use Rattle.phase_shared.specs.Views.{knowledge, resting, known_of}
use Rattle.phase_shared.specs.Rule.{StandsWithin, HasOneHistory}
use Rattle.std.specs.Prelude.{is_some}
use Rattle.phase_history.proofs.Used.{IsUsed-member}
use Rattle.phase_shared.proofs.Small.{is_in_self}
use Rattle.phase_shared.proofs.Taking.{takes}
use Rattle.phase_shared.proofs.Joining.{never_busy}
use Rattle.phase_shared.proofs.Giving.{entered}
use Rattle.phase_shared.proofs.seats.steps.enter.Goals as goal

-- the seat rests and speaks for one number
pub try_take-requires-clause-rule : goal.try_take-requires-clause-rule
try_take-requires-clause-rule g c =
    let terms = locked_terms c.args.phaser.now in
    let op = g.A.Accumulate.operation in
    let allows = g.K.SignalRule.allows in
    let seen = (known_of (seat_view c.args.seat)).seen in
    rw c.requires.knows.rests
    (λ x told words views long k at.
    takes op.value terms.limits (allows terms.rule) (StandsWithin op terms.limits) (seat_number c.args.seat) (knowledge seen (c.args.me ∷ [])) x told words views
    k at (c.args.me, is_in_self c.args.me []))

pub returns-in-Ok-clause-turn : goal.returns-in-Ok-clause-turn
returns-in-Ok-clause-turn g c = record {
  here = c.in-Ok.ensures.turn.0;
  knows = entered g.A.Accumulate.operation g.K.SignalRule.allows (locked_terms c.args.phaser.now) c.args.me c.args.entry (seat_view c.args.seat)
      (turn_value c.in-Ok.turn) (turn_view c.in-Ok.turn) c.requires.knows c.in-Ok.ensures.rule;
}

-- the seat came back as it was
pub returns-in-Err-clause-still : goal.returns-in-Err-clause-still
returns-in-Err-clause-still g c = record {
  here = c.in-Err.ensures.err.0 ∙ c.requires.here;
  knows = rw c.in-Err.ensures.err.2 c.requires.knows;
}

-- no other seat can have the turn
pub returns-in-Err-clause-alone : goal.returns-in-Err-clause-alone
returns-in-Err-clause-alone g c only =
    let terms = locked_terms c.args.phaser.now in
    let op = g.A.Accumulate.operation in
    let allows = g.K.SignalRule.allows in
    let seen = (known_of (seat_view c.args.seat)).seen in
    let b : BusyOf (HasOneHistory op allows) terms (resting seen (c.args.me ∷ [])) = rw c.requires.knows.rests at c.in-Err.ensures.busy in
    absurd (never_busy op.value terms.limits (allows terms.rule) (StandsWithin op terms.limits) b.number (knowledge seen (c.args.me ∷ []))
    (c.args.me, is_in_self c.args.me [], IsUsed-member seen c.args.me (ap is_some c.requires.knows.member))
    only b.told b.words b.views b.kept b.here)
