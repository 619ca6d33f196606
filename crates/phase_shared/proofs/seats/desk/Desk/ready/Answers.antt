use Rattle.std.proofs.Common.{◌≡◌, ◌∷◌, [], sym, subst, ◌∙◌}
use Rattle.turn_lock.specs.Seats.{seat_view}
use Rattle.phase_shared.specs.Asks.{Ask}
use Rattle.phase_shared.specs.Views.{known_of, resting, owning}
use Rattle.phase_shared.proofs.AskNexts.{goes_on, rests_so}
use Rattle.phase_shared.specs.Goods.{allows_or}
use Rattle.phase_shared.proofs.seats.desk.Desk.ready.Goals as goal

pub is_own-seat-requires-clause-seat : goal.is_own-seat-requires-clause-seat
is_own-seat-requires-clause-seat g c =
    let of = c.args.self.of in
    record {
      here = c.args.self.here ∙ sym of.place_is;
      knows = subst (λ (a : Ask). seat_view c.args.self.seat ≡ resting (known_of (seat_view c.args.self.seat)).seen (a.task ∷ [])) of.ask_is
          (rests_so g.S.Since.ask g.S.Since.seen (seat_view c.args.self.seat) c.requires.next.rests);
    }

pub invariant_of-result : goal.invariant_of-result
invariant_of-result g c =
    let v = seat_view c.args.self.seat in
    let w = seat_view c.is_own-seat.result.0 in
    goes_on g.S.Since.terms.limits (allows_or g.K.SignalRule.allows g.S.Since.terms.rule) g.S.Since.ask g.S.Since.seen v w c.requires.next
    (subst (λ (a : Ask). w ≡ owning (known_of v).seen (a.task ∷ []) a.lane) (sym c.args.self.of.ask_is) (c.is_own-seat.ensures.own c.if-is_own.true))
