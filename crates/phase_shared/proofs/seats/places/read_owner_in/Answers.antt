use Rattle.std.proofs.Common.{ℕ, sym, subst}
use Rattle.turn_lock.specs.Seats.{turn_number, turn_view, turn_told}
use Rattle.turn_lock.specs.WordSteps.{ReadsIn}
use Rattle.phase_shared.specs.LockedPhasers.{locked_terms}
use Rattle.phase_shared.specs.Rule.{HasOneHistory}
use Rattle.phase_shared.proofs.seats.places.read_owner_in.Goals as goal

pub read_in-requires-clause-rule : goal.read_in-requires-clause-rule
read_in-requires-clause-rule g c =
    subst (λ (p : ℕ). ReadsIn (HasOneHistory g.A.Accumulate.operation g.K.SignalRule.allows) (locked_terms c.args.phaser.now) (turn_number c.args.turn) (turn_view c.args.turn) (turn_told c.args.turn) p (λ v r w. g.E.Report.tells v r w))
    (sym c.owner_place.ensures.value) c.requires.rule
