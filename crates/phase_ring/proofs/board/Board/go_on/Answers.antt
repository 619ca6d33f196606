-- The signaller leaves its phase and enters the later one, and then done moves up.
use Rattle.std.proofs.Common.{◌∙◌, arith}
use Rattle.phase_ring.specs.declared.role.Role.TheVariants.{Signaller, Waiter}
use Rattle.phase_ring.proofs.Blocks.{signaller-within, signaller_leaving, signaller_entering}
use Rattle.phase_ring.proofs.board.Board.go_on.Goals as goal

pub leave-requires : goal.leave-requires
leave-requires g c =
    let op = g.A.Accumulate.operation in
    let old = c.args.self.now in
    let may = c.requires.may in
    let later = may.later in
    let high = may.high in
    record {
      within = signaller-within op old.ring old.limits.bound old.done old.top c.args.from c.requires.invariant may.low (omega arith);
      some = may.stands;
    }

pub enter-requires : goal.enter-requires
enter-requires g c =
    let op = g.A.Accumulate.operation in
    let old = c.args.self.now in
    let may = c.requires.may in
    let l = signaller_leaving op old.ring c.leave.new.self old.limits.bound old.done old.top c.args.from c.args.to c.requires.invariant may.low may.later may.high c.leave.ensures in
    let room = l.room in
    let few = may.few in
    record { within = l.next; few = omega arith }

pub settle-requires : goal.settle-requires
settle-requires g c =
    let op = g.A.Accumulate.operation in
    let old = c.args.self.now in
    let may = c.requires.may in
    let l = signaller_leaving op old.ring c.leave.new.self old.limits.bound old.done old.top c.args.from c.args.to c.requires.invariant may.low may.later may.high c.leave.ensures in
    let e = signaller_entering op old.ring c.leave.new.self c.enter.new.self old.limits.bound old.done old.top c.args.from c.args.to l may.low may.later may.high may.stands c.enter.ensures in
    e.kept

pub returns : goal.returns
returns g c =
    let op = g.A.Accumulate.operation in
    let old = c.args.self.now in
    let may = c.requires.may in
    let l = signaller_leaving op old.ring c.leave.new.self old.limits.bound old.done old.top c.args.from c.args.to c.requires.invariant may.low may.later may.high c.leave.ensures in
    let e = signaller_entering op old.ring c.leave.new.self c.enter.new.self old.limits.bound old.done old.top c.args.from c.args.to l may.low may.later may.high may.stands c.enter.ensures in
    let s = c.settle.ensures in
    record {
      invariant = s.invariant;
      limits = s.limits;
      top = s.top;
      same = s.same ∙ e.sents_same;
      moved = record {
        moved = λ p. (let a = s.standing Signaller p in let b = e.moved p in omega arith);
        others = λ p. s.standing Waiter p ∙ e.others p;
      };
      stops = s.stops;
    }
