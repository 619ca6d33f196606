use Rattle.std.proofs.Common.{sym, subst}
use Rattle.phase_shared.specs.LockedPhasers.{locked_terms}
use Rattle.turn_lock.specs.Seats.{seat_view, seat_number}
use Rattle.turn_lock.specs.WordSteps.{MergesOf}
use Rattle.phase_shared.specs.Views.{known_of}
use Rattle.phase_shared.specs.Rule.{StandsWithin, HasOneHistory}
use Rattle.phase_shared.specs.declared.seats.view.View.{View}
use Rattle.phase_shared.specs.declared.seats.view.View.TheVariants.{Resting, Joining, Spent}
use Rattle.phase_shared.proofs.Joining.{merges, looks}
use Rattle.phase_shared.proofs.seats.steps.join.Goals as goal

pub join-requires-clause-merges : goal.join-requires-clause-merges
join-requires-clause-merges g c =
    let op = g.A.Accumulate.operation in
    let allows = g.K.SignalRule.allows in
    let terms = locked_terms c.args.phaser.now in
    let f = known_of (seat_view c.args.seat) in
    let h = known_of (seat_view c.args.other) in
    let number = seat_number c.args.seat in
    let other = seat_number c.args.other in
    let P : View → View → Type 0 = λ v w. MergesOf (HasOneHistory op allows) terms number v other w (Joining f h) Spent in
    rw c.requires.seat.knows (subst (P (Resting f)) (sym c.requires.other.knows)
    (λ home told words views long k. merges op.value terms.limits (allows terms.rule) (StandsWithin op terms.limits) number other f h home told words views k))

pub join-requires-clause-looks : goal.join-requires-clause-looks
join-requires-clause-looks g c =
    let op = g.A.Accumulate.operation in
    let allows = g.K.SignalRule.allows in
    let terms = locked_terms c.args.phaser.now in
    λ home told words views long.
    looks op.value terms.limits (allows terms.rule) (StandsWithin op terms.limits) (seat_number c.args.seat) (known_of (seat_view c.args.seat))
    (known_of (seat_view c.args.other)) home told words views
