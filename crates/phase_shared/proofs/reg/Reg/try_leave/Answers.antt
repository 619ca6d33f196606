use Rattle.std.proofs.Common.{◌≡◌, [], ◌∷◌, true, false, sym, subst, ap, ◌∙◌}
use Rattle.std.specs.Prelude.{is_some}
use Rattle.phase_shared.specs.Phasers.{History, OnlyUsed, is_distinct}
use Rattle.phase_shared.specs.Views.{known_of, resting}
use Rattle.phase_shared.specs.Rule.{IsGoodAt}
use Rattle.phase_shared.specs.declared.seats.view.View.{View}
use Rattle.phase_shared.specs.Regs.{RegState, phaser_terms}
use Rattle.phase_shared.proofs.Opening.{opened, closed}
use Rattle.phase_shared.proofs.reg.Reg.try_leave.Goals as goal

pub unreachable-requires : goal.unreachable-requires
unreachable-requires g c =
    absurd (let z : false ≡ true = sym (ap (λ o. is_some o) c.in_default.is) ∙ c.self.invariant.there in cc)

pub leave-requires : goal.leave-requires
leave-requires g c =
    (opened g.K.SignalRule.allows c.args.phaser.now.locked c.self.inside.number c.self.inside.entry c.self.inside.pending c.self.inside.seat c.in-Some.seat c.args.self
    c.in-Some.is c.self.invariant c.self.view_is c.requires.at).seat

-- it rests, and speaks for the one number still
pub give_back-seat-requires : goal.give_back-seat-requires
give_back-seat-requires g c = record {
  seat = record {
    here = c.in-Ok.ensures.ok.here;
    knows = c.in-Ok.ensures.ok.knows.rests
        ∙ ap (λ (h : History). resting h (c.self.inside.number ∷ [])) (sym (ap (λ (v : View). (known_of v).seen) c.in-Ok.ensures.ok.knows.rests));
  };
}

pub invariant_of-result : goal.invariant_of-result
invariant_of-result g c =
    let left = c.in-Ok.ensures.ok.knows in
    let is = c.give_back-seat.ensures.view ∙ left.rests in
    record {
      terms = phaser_terms c.args.phaser.now;
      named = ap (λ p. p.1) c.give_back-seat.ensures.here;
      rests = is ∙ sym (ap (λ (v : View). resting (known_of v).seen (known_of v).speaks) is);
      distinct = ap (λ (v : View). is_distinct (known_of v).speaks) is;
      good = subst (λ (h : History). IsGoodAt g.K.SignalRule.allows (phaser_terms c.args.phaser.now) h) (sym (ap (λ (v : View). (known_of v).seen) is)) left.good;
    }

pub invariant_of-result-in-Err : goal.invariant_of-result-in-Err
invariant_of-result-in-Err g c =
    let o = opened g.K.SignalRule.allows c.args.phaser.now.locked c.self.inside.number c.self.inside.entry c.self.inside.pending c.self.inside.seat c.in-Some.seat c.args.self
    c.in-Some.is c.self.invariant c.self.view_is c.requires.at in
    let same = c.in-Err.ensures.err in
    closed g.K.SignalRule.allows c.args.phaser.now.locked c.self.inside.number c.self.inside.entry c.in-Err.seat
    (record { here = same.0 ∙ o.seat.here; knows = rw same.2 o.seat.knows })

pub returns-in-Err-clause-alone : goal.returns-in-Err-clause-alone
returns-in-Err-clause-alone g c only =
    let o = opened g.K.SignalRule.allows c.args.phaser.now.locked c.self.inside.number c.self.inside.entry c.self.inside.pending c.self.inside.seat c.in-Some.seat c.args.self
    c.in-Some.is c.self.invariant c.self.view_is c.requires.at in
    let Q : RegState g.row.A.Denot g.row.K.Denot → Type 0 = λ r. OnlyUsed (r.number ∷ []) r.seen in
    c.in-Err.ensures.alone (subst Q (sym o.is) only)
