-- The waiter goes on to the later phase, and then the base moves up.
use Rattle.std.proofs.Common.{◌∙◌, arith}
use Rattle.phase_ring.specs.declared.role.Role.TheVariants.{Signaller, Waiter}
use Rattle.phase_ring.proofs.Blocks.{WaiterLeft, Hops, waiter_leaving, waiter_entering, waits-there}
use Rattle.phase_ring.proofs.Kept.{KeepsSlots-sents, standing-within}
use Rattle.phase_ring.proofs.board.Board.move_waiter.Given.{Over}
use Rattle.phase_ring.proofs.board.Board.move_waiter.Goals.{After-leave, After-enter}
use Rattle.phase_ring.proofs.board.Board.move_waiter.Goals as goal

-- the waiter has left its phase
left : (g : Over) (c : After-leave g) → WaiterLeft g.A.Accumulate.operation c.args.self.now.ring
    c.leave.new.self c.args.self.now.limits.bound c.args.self.now.done c.args.self.now.top
    c.args.from c.args.to
left g c =
    let old = c.args.self.now in
    let may = c.requires.may in
    waiter_leaving g.A.Accumulate.operation old.ring c.leave.new.self old.limits.bound old.done old.top
    c.args.from c.args.to c.requires.invariant may.later may.complete may.stands c.leave.ensures

-- and stands at the later one
entered : (g : Over) (c : After-enter g) → WaiterLeft g.A.Accumulate.operation
    c.args.self.now.ring c.leave.new.self c.args.self.now.limits.bound c.args.self.now.done
    c.args.self.now.top c.args.from c.args.to
    → Hops g.A.Accumulate.operation c.args.self.now.ring c.enter.new.self
    c.args.self.now.limits.bound c.args.self.now.done c.args.self.now.top Waiter c.args.from c.args.to
entered g c l =
    let old = c.args.self.now in
    let may = c.requires.may in
    waiter_entering g.A.Accumulate.operation old.ring c.leave.new.self c.enter.new.self old.limits.bound
    old.done old.top c.args.from c.args.to l may.later may.complete may.stands c.enter.ensures

pub leave-requires : goal.leave-requires
leave-requires g c =
    let some = c.requires.may.stands in
    record { within = standing-within c.args.self.now.ring Waiter c.args.from some; some = some }

pub enter-requires : goal.enter-requires
enter-requires g c =
    let l = left g (goal.at.enter-requires g c).After-leave in
    let room = l.room in
    let few = c.requires.may.few in
    record { within = l.next; few = omega arith }

pub give_up-requires : goal.give_up-requires
give_up-requires g c =
    let a = goal.at.give_up-requires g c in
    let old = c.args.self.now in
    let e = entered g a.After-enter (left g a.After-leave) in
    record {
      invariant = e.kept;
      waiter = (
        c.args.to,
        waits-there g.A.Accumulate.operation old.ring c.enter.new.self old.limits.bound
            old.done old.top c.args.from c.args.to c.requires.may.later e,
      );
    }

pub returns-clause-waited : goal.returns-clause-waited
returns-clause-waited g c =
    let a = goal.at.returns-clause-waited g c in
    let e = entered g a.After-enter (left g a.After-leave) in
    let o = c.give_up.ensures in
    record {
      keeps = record { limits = o.keeps.limits; done = o.keeps.done; top = o.keeps.top };
      moves = record {
        moved = λ p. (let a = o.standing Waiter p in let b = e.moved p in omega arith);
        others = λ p. o.standing Signaller p ∙ e.others p;
      };
    }

pub returns-clause-slots : goal.returns-clause-slots
returns-clause-slots g c =
    let a = goal.at.returns-clause-slots g c in
    let e = entered g a.After-enter (left g a.After-leave) in
    KeepsSlots-sents c.args.self.now.ring c.enter.new.self c.give_up.new.self.ring e.sents_same
    c.give_up.ensures.slots
