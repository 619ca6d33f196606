use Rattle.std.proofs.Common.{true, refl, ◌∙◌}
use Rattle.turn_lock.specs.Seats.{turn_number, turn_view, turn_value, turn_told}
use Rattle.phase_shared.proofs.TurnParts.{completes}
use Rattle.phase_shared.proofs.TurnEnds.{gives_finished, tells_odd, tells_even}
use Rattle.phase_shared.proofs.seats.desk.FullTurn.finish.Goals.{then-is_all+then-done-lt-TOLD_END, else-is_all}
use Rattle.phase_shared.specs.Goods.{allows_or}
use Rattle.phase_shared.proofs.seats.desk.FullTurn.finish.Goals as goal

pub wait_own-on-requires : goal.wait_own-on-requires
wait_own-on-requires g c =
    let s = c.wait_all-on.ensures.serving.serving in
    record { serving = (true, 0, s, s.turned.complete refl) }

pub write_board-on-requires : goal.write_board-on-requires
write_board-on-requires g c =
    let turn = c.wait_own-on.result.0.turn in
    let o = c.wait_all-on.ensures.serving in
    record {
      completes = completes g.A.Accumulate.operation g.S.Since.terms.limits (allows_or g.K.SignalRule.allows g.S.Since.terms.rule) g.S.Since.ask g.S.Since.seen 0 (turn_view c.wait_all-on.result.0.turn) (turn_view turn) (turn_value turn)
          (c.wait_own-on.ensures.finished true 0 o.serving (o.serving.turned.complete refl)).turned c.wait_own-on.ensures.knows o.was_open;
    }

pub give-desk-requires-clause-rule : goal.give-desk-requires-clause-rule
give-desk-requires-clause-rule g c =
    let turn = c.wait_own-on.result.0.turn in
    let next = c.write_board-on.result.turn in
    let same = c.value_in-core.ensures.value ∙ c.write_board-on.ensures.value in
    let x = c.value_in-core.result.now in
    let outcome = c.wait_own-on.result.1 in
    let told = c.if-is_all.told in
    elim c.if-is_all.branch [
      | then-is_all+then-done-lt-TOLD_END w ↦
          let s = c.wait_all-on.ensures.all w.if-is_all.true in
          let f = c.wait_own-on.ensures.finished true 16 s (s.turned.complete refl) in
          gives_finished g.A.Accumulate.operation g.S.Since.terms.limits (allows_or g.K.SignalRule.allows g.S.Since.terms.rule) g.S.Since.ask g.S.Since.seen (turn_number next) (turn_told next) told 16 outcome (turn_view turn) (turn_view next) (turn_value turn) x f c.write_board-on.ensures.board same
          (tells_odd g.A.Accumulate.operation g.S.Since.terms.limits (allows_or g.K.SignalRule.allows g.S.Since.terms.rule) g.S.Since.ask g.S.Since.seen 16 outcome (turn_view turn) (turn_value turn) x f c.done-done.result told same c.done-done.ensures w.told-is)
      | else-is_all w ↦
          let s = c.wait_all-on.ensures.serving.serving in
          let f = c.wait_own-on.ensures.finished true 0 s (s.turned.complete refl) in
          gives_finished g.A.Accumulate.operation g.S.Since.terms.limits (allows_or g.K.SignalRule.allows g.S.Since.terms.rule) g.S.Since.ask g.S.Since.seen (turn_number next) (turn_told next) told 0 outcome (turn_view turn) (turn_view next) (turn_value turn) x f c.write_board-on.ensures.board same
          (tells_even g.A.Accumulate.operation g.S.Since.terms.limits (allows_or g.K.SignalRule.allows g.S.Since.terms.rule) g.S.Since.ask g.S.Since.seen 0 outcome (turn_view turn) (turn_value turn) f c.news-news.result.done told w.told-is)
    ]

pub invariant_of-result : goal.invariant_of-result
invariant_of-result g c = c.give-desk.ensures.rule
