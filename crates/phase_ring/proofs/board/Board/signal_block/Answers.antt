-- Each parcel joins its phase, the task goes on to the phase behind them, and then done moves up.
use Rattle.std.proofs.Common.{◌≡◌, ◌+◌, ◌<◌, ◌≤◌, length, max, drop, refl, ap, ◌∙◌, arith}
use Rattle.phase_ring.specs.declared.role.Role.TheVariants.{Signaller, Waiter}
use Rattle.phase_ring.specs.Rings.{Ring, sents}
use Rattle.phase_ring.specs.Standings.{one_if_same}
use Rattle.phase_ring.specs.Blocks.{block_joined}
use Rattle.phase_ring.proofs.Slots.{sealed-high}
use Rattle.phase_ring.proofs.Blocks.{joins_first, joins_within, joins_unused, joins_here, joins_next, joins_last}
use Rattle.phase_ring.proofs.board.Board.signal_block.Goals as goal

pub loop-pending-init : goal.loop-pending-init
loop-pending-init g c =
    let now = c.args.self.now in (
      record {
        joining = joins_first g.A.Accumulate.operation now.ring now.limits.bound now.done now.top c.args.phase c.args.lists.now c.args.single.now c.requires.invariant c.requires.may.stands c.requires.fits;
        next_is = omega arith;
      },
      refl,
      refl,
      refl,
    )

pub join-requires : goal.join-requires
join-requires g c =
    let op = g.A.Accumulate.operation in
    let old = c.args.self.now in
    let may = c.requires.may in
    let inv = c.loop-pending.invariant.0 in
    let next_is = inv.next_is in
    let inside : c.loop-pending.pending-index < length c.args.lists.now = c.loop-pending-test.true in
    let far = may.far in
    let ahead = may.ahead in
    let low = may.low in
    let here = joins_here op old.ring c.loop-pending.self.ring old.limits.bound old.done old.top c.loop-pending.next c.loop-pending.pending-index c.args.lists.now
    c.pending-item.result c.args.single.now (block_joined op c.args.phase c.args.lists.now c.args.single.now old.ring) inv.joining inside c.pending-item.is in
    let within = joins_within op old.ring c.loop-pending.self.ring old.limits.bound old.done old.top c.loop-pending.next _ c.args.single.now _ here (omega arith) (omega arith) in
    record {
      within = within.0;
      below = within.1;
      incomplete = sealed-high op c.loop-pending.self.ring old.limits.bound old.done (max old.top c.loop-pending.next) c.loop-pending.next here.kept within.0 (omega arith);
      fits = here.fits.0;
      unused = λ above. joins_unused op old.ring c.loop-pending.self.ring old.limits.bound old.done old.top c.loop-pending.next _ c.args.single.now _ here within.0
          (let same : c.loop-pending.self.top ≡ old.top = c.loop-pending.invariant.3 in let a : c.loop-pending.self.top ≤ c.loop-pending.next = above in omega arith);
    }

pub overflow_add-next : goal.overflow_add-next
overflow_add-next g c =
    let inv = c.loop-pending.invariant.0 in
    omega (arith, inv.next_is, c.loop-pending-test.true, c.requires.may.far)

pub loop-pending-preserved : goal.loop-pending-preserved
loop-pending-preserved g c =
    let op = g.A.Accumulate.operation in
    let old = c.args.self.now in
    let may = c.requires.may in
    let inv = c.loop-pending.invariant.0 in
    let next_is = inv.next_is in
    let inside : c.loop-pending.pending-index < length c.args.lists.now = c.loop-pending-test.true in
    let far = may.far in
    let ahead = may.ahead in
    let low = may.low in
    let here = joins_here op old.ring c.loop-pending.self.ring old.limits.bound old.done old.top c.loop-pending.next c.loop-pending.pending-index c.args.lists.now
    c.pending-item.result c.args.single.now (block_joined op c.args.phase c.args.lists.now c.args.single.now old.ring) inv.joining inside c.pending-item.is in (
      record {
        joining = joins_next op old.ring c.loop-pending.self.ring c.join.new.self.ring old.limits.bound old.done old.top c.loop-pending.next c.pending-item.result
            (drop (c.loop-pending.pending-index + 1) c.args.lists.now) c.args.single.now (block_joined op c.args.phase c.args.lists.now c.args.single.now old.ring)
            here (omega arith) (omega arith) (omega arith) c.join.ensures.slot;
        next_is = omega arith;
      },
      c.join.ensures.keeps.limits ∙ c.loop-pending.invariant.1,
      c.join.ensures.keeps.done ∙ c.loop-pending.invariant.2,
      c.join.ensures.keeps.top ∙ c.loop-pending.invariant.3,
    )

pub go_on-requires : goal.go_on-requires
go_on-requires g c =
    let op = g.A.Accumulate.operation in
    let old = c.args.self.now in
    let may = c.requires.may in
    let inv = c.loop-pending.invariant.0 in
    let next_is = inv.next_is in
    let past : length c.args.lists.now ≤ c.loop-pending.pending-index = c.loop-pending-test.false in
    let most = c.loop-pending.auto.pending-index-end in
    let to = c.args.phase + length c.args.lists.now in
    let to_is : c.loop-pending.next ≡ to = omega arith in
    let j = joins_last op old.ring c.loop-pending.self.ring old.limits.bound old.done old.top c.loop-pending.next to c.loop-pending.pending-index c.args.lists.now
    c.args.single.now (block_joined op c.args.phase c.args.lists.now c.args.single.now old.ring) inv.joining past to_is in
    let now = c.loop-pending.self in
    let same = c.loop-pending.invariant in
    let later = may.later in
    let top = c.max-self.ensures in
    record {
      invariant = rw same.1 (rw same.2 (rw (c.max-self.ensures ∙ ap (λ t. max t c.loop-pending.next) same.3) inv.joining.kept));
      may = record {
        low = (let low = may.low in let d = same.2 in omega arith);
        later = omega arith;
        high = omega arith;
        stands = (let s = j.stands Signaller c.args.phase in let h = may.stands in omega arith);
        few = (let s = j.stands Signaller to in let few = may.few in
            rw to_is (omega arith));
      };
    }

pub returns : goal.returns
returns g c =
    let op = g.A.Accumulate.operation in
    let old = c.args.self.now in
    let may = c.requires.may in
    let inv = c.loop-pending.invariant.0 in
    let next_is = inv.next_is in
    let past : length c.args.lists.now ≤ c.loop-pending.pending-index = c.loop-pending-test.false in
    let most = c.loop-pending.auto.pending-index-end in
    let to = c.args.phase + length c.args.lists.now in
    let to_is : c.loop-pending.next ≡ to = omega arith in
    let j = joins_last op old.ring c.loop-pending.self.ring old.limits.bound old.done old.top c.loop-pending.next to c.loop-pending.pending-index c.args.lists.now
    c.args.single.now (block_joined op c.args.phase c.args.lists.now c.args.single.now old.ring) inv.joining past to_is in
    let o = c.go_on.ensures in
    record {
      invariant = o.invariant;
      signalled = record {
        limits = o.limits ∙ c.loop-pending.invariant.1;
        base = ap (λ (r : Ring g.row.A.Denot). r.base) o.same ∙ j.base_same;
        top = (let a = o.top in let b = c.max-self.ensures in let d = c.loop-pending.invariant.3 in omega arith);
        moves = record {
          moved = λ p. (let a = o.moved.moved p in let d = j.stands Signaller p in let n = ap (λ k. one_if_same k p) to_is in omega arith);
          others = λ p. o.moved.others p ∙ j.stands Waiter p;
        };
      };
      slots = o.same ∙ ap sents j.left;
      stops = o.stops;
    }
