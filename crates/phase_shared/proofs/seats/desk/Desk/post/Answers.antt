use Rattle.std.proofs.Common.{◌≡◌, ℕ, Some, sym, ap, subst, ◌∙◌}
use Rattle.turn_lock.specs.Seats.{seat_number, seat_view}
use Rattle.phase_shared.specs.Asks.{Ask}
use Rattle.phase_shared.specs.Servings.{ask_of, MayAsk, IsAsking}
use Rattle.phase_shared.proofs.WordCalls.{has_asked, post_send, post_phase}
use Rattle.phase_shared.specs.Goods.{Allows, allows_or}
use Rattle.phase_shared.specs.Phasers.{Limits}
use Rattle.phase_shared.specs.Views.{known_of}
use Rattle.phase_shared.specs.WordTells.{lane_in}
use Rattle.phase_shared.specs.declared.seats.request.Request.{Request}
use Rattle.phase_shared.specs.declared.seats.view.View.{View}
use Rattle.phase_shared.specs.declared.seats.view.View.TheVariants.{Posting}
use Rattle.phase_shared.proofs.seats.desk.Desk.post.Goals as goal

pub post_as-desk-requires-clause-rule : goal.post_as-desk-requires-clause-rule
post_as-desk-requires-clause-rule g c =
    let seat = c.args.self.seat in
    let request = c.args.self.of.request in
    post_send g.A.Accumulate.operation g.S.Since.terms.limits (allows_or g.K.SignalRule.allows g.S.Since.terms.rule) (seat_number seat) c.send_place.result request.send request (seat_view seat)
    (subst (λ (a : Ask). MayAsk g.S.Since.terms.limits (allows_or g.K.SignalRule.allows g.S.Since.terms.rule) a (seat_view seat)) c.args.self.of.ask_is c.requires.may) c.send_place.ensures.value

-- its send stands in its lane
posted_in : (r : Request) (v w : View) (limits : Limits) (allows : Allows) → MayAsk limits allows (ask_of r) v
    → w ≡ Posting (known_of v) (lane_in 0 v) (Some r.send) → w ≡ Posting (known_of v) r.lane (Some r.send)
posted_in r v w limits allows may is = is ∙ ap (λ (i : ℕ). Posting (known_of v) i (Some r.send)) (ap (lane_in 0) may.rests)

pub post_as-desk-requires-2-clause-rule : goal.post_as-desk-requires-2-clause-rule
post_as-desk-requires-2-clause-rule g c =
    let seat = c.args.self.seat in
    let next = c.post_as-desk.result.seat in
    let request = c.args.self.of.request in
    let may = subst (λ (a : Ask). MayAsk g.S.Since.terms.limits (allows_or g.K.SignalRule.allows g.S.Since.terms.rule) a (seat_view seat)) c.args.self.of.ask_is c.requires.may in
    post_phase g.A.Accumulate.operation g.S.Since.terms.limits (allows_or g.K.SignalRule.allows g.S.Since.terms.rule) (seat_number next) c.phase_place.result request (seat_view seat) (seat_view next)
    may (posted_in request (seat_view seat) (seat_view next) g.S.Since.terms.limits (allows_or g.K.SignalRule.allows g.S.Since.terms.rule) may c.post_as-desk.ensures.rule) c.phase_place.ensures.value

pub invariant_of-result : goal.invariant_of-result
invariant_of-result g c =
    let seat = c.args.self.seat in
    let request = c.args.self.of.request in
    let may = subst (λ (a : Ask). MayAsk g.S.Since.terms.limits (allows_or g.K.SignalRule.allows g.S.Since.terms.rule) a (seat_view seat)) c.args.self.of.ask_is c.requires.may in
    let w = seat_view c.post_as-desk.result.seat in
    let x = seat_view c.post_as-desk-2.result.seat in (
      subst (λ (a : Ask). IsAsking a g.S.Since.seen x) (sym c.args.self.of.ask_is)
          (subst (λ h. IsAsking (ask_of request) h x) (sym c.requires.seen)
          (has_asked g.S.Since.terms.limits (allows_or g.K.SignalRule.allows g.S.Since.terms.rule) request (seat_view seat) w x may (posted_in request (seat_view seat) w g.S.Since.terms.limits (allows_or g.K.SignalRule.allows g.S.Since.terms.rule) may c.post_as-desk.ensures.rule) c.post_as-desk-2.ensures.rule)),
      c.requires.waits,
    )
