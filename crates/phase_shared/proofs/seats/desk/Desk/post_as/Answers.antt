use Rattle.turn_lock.specs.Seats.{seat_number, seat_view}
use Rattle.turn_lock.specs.WordSteps.{WritesOf}
use Rattle.phase_shared.specs.LockedPhasers.{locked_terms}
use Rattle.phase_shared.specs.Rule.{IsOneHistory}
use Rattle.phase_shared.proofs.CallSteps.{at_phaser}
use Rattle.phase_shared.proofs.seats.desk.Desk.post_as.Goals as goal

pub write-seat-requires-clause-rule : goal.write-seat-requires-clause-rule
write-seat-requires-clause-rule g c =
    let seat = c.args.self.seat in
    at_phaser g.K.SignalRule.allows (locked_terms c.args.self.of.phaser.now) g.S.Since.terms c.args.self.of.terms_is
    (λ limits allows. WritesOf (IsOneHistory g.A.Accumulate.operation limits allows) tt (seat_number seat) (seat_view seat) c.args.place c.args.word (λ v w. g.E.Plan.goes v w))
    c.requires.rule
