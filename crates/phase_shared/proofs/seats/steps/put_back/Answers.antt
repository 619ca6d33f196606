use Rattle.std.proofs.Common.{◌≡◌, ◌%◌, refl, arith}
use Rattle.turn_lock.specs.Seats.{turn_number, turn_view, turn_value, turn_told}
use Rattle.phase_shared.specs.LockedPhasers.{locked_terms}
use Rattle.phase_shared.proofs.Giving.{gives_told}
use Rattle.phase_shared.proofs.seats.steps.put_back.Goals.{then-last-done, else-last-done}
use Rattle.phase_shared.proofs.seats.steps.put_back.Goals as goal

-- an odd number is what was told
pub give-seat-requires-clause-rule : goal.give-seat-requires-clause-rule
give-seat-requires-clause-rule g c =
    let turn = c.args.turn in
    let same = c.told_in-turn.result.0 in
    let told = c.told_in-turn.ensures in
    let terms = locked_terms c.args.phaser.now in
    let next = c.if-last-done.next in
    let stays : next % 2 ≡ 1 → next ≡ turn_told turn = elim c.if-last-done.branch [
      | then-last-done w ↦ λ odd. absurd (let is = w.next-is in omega arith)
      | else-last-done w ↦ λ odd. let is = w.next-is in let last = told.told in omega arith
    ] in
    gives_told g.A.Accumulate.operation terms.limits (g.K.SignalRule.allows terms.rule) g.E.Plan.goes (turn_number turn) (turn_number same)
    (turn_view turn) (turn_view same) (turn_value turn) (turn_value same) (turn_told turn) (turn_told same) next next
    told.turn.1 told.view told.value told.stays refl (c.requires.rule next stays)
