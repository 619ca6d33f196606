use Rattle.std.proofs.Common.{◌≡◌, ◌++◌, sym, subst, ap, ◌∙◌}
use Rattle.turn_lock.specs.Seats.{seat_view}
use Rattle.phase_shared.specs.Phasers.{History, OthersCame, is_distinct}
use Rattle.phase_shared.specs.Views.{known_of, resting}
use Rattle.phase_shared.specs.declared.seats.view.View.{View}
use Rattle.phase_shared.specs.Regs.{phaser_terms}
use Rattle.phase_shared.specs.Rule.{IsGoodAt}
use Rattle.phase_shared.proofs.past.Past.join.Goals as goal

pub join-requires : goal.join-requires
join-requires g c = record {
  seat = record { here = ap (λ r. r.at) c.self.view_is ∙ c.requires.at.0; knows = c.self.invariant.rests };
  other = record { here = ap (λ r. r.at) c.other.view_is ∙ c.requires.at.1; knows = c.other.invariant.rests };
}

pub invariant_of-result : goal.invariant_of-result
invariant_of-result g c =
    let rule = c.join.ensures.knows in
    let is = rule.is in
    record {
      terms = phaser_terms c.args.phaser.now;
      named = ap (λ p. p.1) c.join.ensures.here;
      rests = is ∙ sym (ap (λ (v : View). resting (known_of v).seen (known_of v).speaks) is);
      distinct = ap (λ (v : View). is_distinct (known_of v).speaks) is ∙ c.join.ensures.knows.distinct;
      good = subst (λ (h : History). IsGoodAt g.K.SignalRule.allows (phaser_terms c.args.phaser.now) h) (sym (ap (λ (v : View). (known_of v).seen) is)) rule.good;
    }

pub returns-clause-numbers : goal.returns-clause-numbers
returns-clause-numbers g c =
    ap (λ (v : View). (known_of v).speaks) c.join.ensures.knows.is ∙ (λ i. (c.self.view_is i).numbers ++ (c.other.view_is i).numbers)

pub returns-clause-distinct : goal.returns-clause-distinct
returns-clause-distinct g c =
    ap (λ (v : View). is_distinct (known_of v).speaks) c.join.ensures.knows.is ∙ c.join.ensures.knows.distinct

pub returns-clause-first : goal.returns-clause-first
returns-clause-first g c =
    let rule = c.join.ensures.knows in
    let seen : (known_of (seat_view c.join.result)).seen ≡ rule.now = ap (λ (v : View). (known_of v).seen) rule.is in
    let came : OthersCame (known_of (seat_view c.self.inside.seat)).speaks (known_of (seat_view c.self.inside.seat)).seen rule.now = rule.first in
    rw seen (subst (λ r. OthersCame r.numbers r.seen rule.now) c.self.view_is came)

pub returns-clause-second : goal.returns-clause-second
returns-clause-second g c =
    let rule = c.join.ensures.knows in
    let seen : (known_of (seat_view c.join.result)).seen ≡ rule.now = ap (λ (v : View). (known_of v).seen) rule.is in
    let came : OthersCame (known_of (seat_view c.other.inside.seat)).speaks (known_of (seat_view c.other.inside.seat)).seen rule.now = rule.second in
    rw seen (subst (λ r. OthersCame r.numbers r.seen rule.now) c.other.view_is came)

pub returns-clause-good : goal.returns-clause-good
returns-clause-good g c =
    let rule = c.join.ensures.knows in
    subst (λ (h : History). IsGoodAt g.K.SignalRule.allows (phaser_terms c.args.phaser.now) h) (sym (ap (λ (v : View). (known_of v).seen) rule.is)) rule.good

pub returns-clause-at : goal.returns-clause-at
returns-clause-at g c = c.join.ensures.here ∙ sym c.requires.at.0
