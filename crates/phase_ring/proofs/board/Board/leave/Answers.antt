-- Only who stands where, and which slots are sealed, changes before the base moves up.
use Rattle.std.proofs.Common.{◌≡◌, ◌+◌, ◌∙◌, ap, sym, arith, ⊎_elim, inl, inr}
use Rattle.phase_ring.specs.declared.role.Role.TheVariants.{Signaller, Waiter}
use Rattle.phase_ring.specs.Rings.{standing}
use Rattle.phase_ring.specs.Standings.{counted}
use Rattle.phase_ring.proofs.Kept.{KeepsSlots-sents}
use Rattle.phase_ring.proofs.board.Board.leave.Goals as goal

pub returns-clause-left : goal.returns-clause-left
returns-clause-left g c =
    let one = c.leave_as.ensures in
    let two = c.leave_as-2.ensures in
    let s = c.settle.ensures in
    let o = c.give_up.ensures in
    record {
      limits = o.keeps.limits ∙ s.limits ∙ two.keeps.limits ∙ one.keeps.limits;
      top = o.keeps.top ∙ s.top ∙ two.keeps.top ∙ one.keeps.top;
      stands = λ role p. elim role as (λ r. standing c.give_up.new.self.ring r p + counted r c.args.entry p ≡ standing c.args.self.now.ring r p) [
        | Signaller ↦ (let a = o.standing Signaller p in let b = s.standing Signaller p in let e = one.standing p in
            let d : standing c.leave_as-2.new.self.ring Signaller p ≡ standing c.leave_as.new.self.ring Signaller p = two.others p in omega arith)
        | Waiter ↦ (let a = o.standing Waiter p in let b = s.standing Waiter p in let d = two.standing p in
            let e : standing c.leave_as.new.self.ring Waiter p ≡ standing c.args.self.now.ring Waiter p = one.others p in omega arith)
      ];
    }

pub returns-clause-slots : goal.returns-clause-slots
returns-clause-slots g c =
    KeepsSlots-sents c.args.self.now.ring c.settle.new.self.ring c.give_up.new.self.ring
    (c.settle.ensures.same ∙ c.leave_as-2.ensures.same ∙ c.leave_as.ensures.same) c.give_up.ensures.slots

pub returns-clause-settled : goal.returns-clause-settled
returns-clause-settled g c =
    let o = c.give_up.ensures in
    let now = c.give_up.new.self in
    ⊎_elim (λ at. inl (o.keeps.done ∙ at ∙ sym o.keeps.top))
    (λ some. inr (let a = o.standing Signaller now.done in let b = ap (standing c.settle.new.self.ring Signaller) o.keeps.done in omega arith))
    c.settle.ensures.stops
