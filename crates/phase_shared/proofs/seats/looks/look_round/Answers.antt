-- The core stood for what the take learned, and it does still: no event came.
use Rattle.std.proofs.Common.{◌≡◌, [], ◌∷◌, Ok, refl, sym, ap, subst, ◌∙◌}
use Rattle.std.specs.Prelude.{Some}
use Rattle.turn_lock.specs.Seats.{IsSameSeat, seat_view, turn_number, turn_told, turn_value, turn_view}
use Rattle.phase_core.specs.Standings.{standing_after}
use Rattle.phase_shared.specs.Phasers.{History, OthersCame, entry_of}
use Rattle.phase_shared.specs.Entries.{entry_stays}
use Rattle.phase_shared.specs.LockedPhasers.{locked_terms}
use Rattle.phase_shared.specs.Rule.{StandsWithin}
use Rattle.phase_shared.specs.Standings.{AnswersStanding, unregistered}
use Rattle.phase_shared.specs.Views.{Unknown, known_of, resting, speaks_of, turning}
use Rattle.phase_shared.specs.declared.seats.view.View.{View}
use Rattle.phase_shared.proofs.Giving.{gives_same, lent, own_none}
use Rattle.phase_shared.proofs.Stepping.{stepped, told_at}
use Rattle.phase_shared.proofs.seats.looks.look_round.Given.{Over}
use Rattle.phase_shared.proofs.seats.looks.look_round.Goals.{After-value_in-core}
use Rattle.phase_shared.proofs.seats.looks.look_round.Goals as goal

-- the phaser under the turn stands for what was seen
stood : (g : Over) (c : After-value_in-core g)
    → StandsWithin g.A.Accumulate.operation (locked_terms c.args.phaser.now).limits c.value_in-core.result.now c.in-Ok.ensures.turn.knows.now
stood g c =
    lent g.A.Accumulate.operation g.K.SignalRule.allows (locked_terms c.args.phaser.now) c.args.me (turn_value c.in-Ok.turn) c.value_in-core.result.now
    c.in-Ok.ensures.turn.knows.now c.value_in-core.ensures.value c.in-Ok.ensures.turn.knows.stands

pub give_same-requires-clause-rule : goal.give_same-requires-clause-rule
give_same-requires-clause-rule g c =
    gives_same g.A.Accumulate.operation g.K.SignalRule.allows (locked_terms c.args.phaser.now) c.args.me (turn_number c.in-Ok.turn) (turn_told c.in-Ok.turn)
    c.args.entry (seat_view c.args.seat) (turn_value c.in-Ok.turn) c.value_in-core.result.now (turn_view c.in-Ok.turn) c.in-Ok.ensures.turn.knows
    (stood g (goal.at.give_same-requires-clause-rule g c).After-value_in-core)

pub returns-clause-step : goal.returns-clause-step
returns-clause-step g c =
    let op = g.A.Accumulate.operation in
    let me = c.args.me in
    let e = c.in-Ok.ensures.turn.knows in
    let core = c.value_in-core.result.now in
    let before = stood g (goal.at.returns-clause-step g c).After-value_in-core in
    let seat = c.give_same.result in
    let old = (known_of (seat_view c.args.seat)).seen in
    let rests : seat_view seat ≡ resting e.now (me ∷ []) =
    told_at (λ v. resting (known_of v).seen (speaks_of v)) (seat_view seat) (turn_view c.in-Ok.turn) (turning e.now (me ∷ []) e.claims e.said Unknown)
    c.give_same.ensures.knows e.is in
    let seen : (known_of (seat_view seat)).seen ≡ e.now = ap (λ (v : View). (known_of v).seen) rests in
    let here : entry_of core.members me ≡ Some c.args.entry = ap (λ ms. entry_of ms me) before.stands.members_are ∙ e.member in
    stepped op g.K.SignalRule.allows c.args.phaser.now me unregistered entry_stays (IsSameSeat c.args.seat seat)
    (AnswersStanding me old (known_of (seat_view seat)).seen) c.args.entry c.args.entry c.args.seat seat e.now e.now core (entry_of core.members me)
    (Ok c.standing-standing.result) (Ok c.standing-standing.result) refl
    (record { own = own_none me e.now; good = e.good; stands = before; member = e.member }) c.give_same.ensures.here rests refl here
    (record {
      others = subst (λ (h : History). OthersCame (me ∷ []) old h) (sym seen) e.others;
      standing_is = c.standing-standing.ensures e.now before.stands ∙ ap standing_after (sym seen);
    })
    (λ none. cc)
