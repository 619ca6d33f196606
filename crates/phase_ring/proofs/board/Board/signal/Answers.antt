-- The sends join their phase, and the task goes on to the next one.
use Rattle.std.proofs.Common.{◌+◌, ◌<◌, [], ◌∷◌, max, ap, ◌∙◌, arith}
use Rattle.phase_ring.specs.declared.role.Role.TheVariants.{Signaller, Waiter}
use Rattle.phase_ring.specs.Rings.{Ring, sents}
use Rattle.phase_ring.specs.Blocks.{block_joined}
use Rattle.phase_ring.proofs.Slots.{sealed-high}
use Rattle.phase_ring.proofs.Blocks.{joins_first, joins_within, joins_unused, joins_next}
use Rattle.phase_ring.proofs.board.Board.signal.Goals as goal

pub join-requires : goal.join-requires
join-requires g c =
    let op = g.A.Accumulate.operation in
    let old = c.args.self.now in
    let may = c.requires.may in
    let ahead : c.args.phase < old.ring.base + old.limits.bound = (let a = may.ahead in omega arith) in
    let want = block_joined op c.args.phase (c.args.pending.now ∷ []) c.args.single.now old.ring in
    let first = joins_first op old.ring old.limits.bound old.done old.top c.args.phase (c.args.pending.now ∷ []) c.args.single.now c.requires.invariant may.stands c.requires.fits in
    let w = joins_within op old.ring old.ring old.limits.bound old.done old.top c.args.phase (c.args.pending.now ∷ []) c.args.single.now want first may.low ahead in
    record {
      within = w.0;
      below = w.1;
      incomplete = sealed-high op old.ring old.limits.bound old.done old.top c.args.phase c.requires.invariant w.0 may.low;
      fits = c.requires.fits.0;
      unused = λ above. joins_unused op old.ring old.ring old.limits.bound old.done old.top c.args.phase (c.args.pending.now ∷ []) c.args.single.now want first w.0 above;
    }

pub overflow_add-phase : goal.overflow_add-phase
overflow_add-phase g c =
    omega (arith, c.requires.may.far)

pub overflow_add-phase-2 : goal.overflow_add-phase-2
overflow_add-phase-2 g c =
    omega (arith, c.requires.may.far)

pub go_on-requires : goal.go_on-requires
go_on-requires g c =
    let op = g.A.Accumulate.operation in
    let old = c.args.self.now in
    let may = c.requires.may in
    let ahead : c.args.phase < old.ring.base + old.limits.bound = (let a = may.ahead in omega arith) in
    let far = may.far in
    let want = block_joined op c.args.phase (c.args.pending.now ∷ []) c.args.single.now old.ring in
    let first = joins_first op old.ring old.limits.bound old.done old.top c.args.phase (c.args.pending.now ∷ []) c.args.single.now c.requires.invariant may.stands c.requires.fits in
    let j = joins_next op old.ring old.ring c.join.new.self.ring old.limits.bound old.done old.top c.args.phase c.args.pending.now [] c.args.single.now want first may.low ahead (omega arith) c.join.ensures.slot in
    let now = c.join.new.self in
    let same = c.join.ensures.keeps in
    let later = may.later in
    let top = c.max-self.ensures in
    record {
      invariant = rw same.limits (rw same.done (rw (top ∙ ap (λ t. max t (c.args.phase + 1)) same.top) j.kept));
      may = record {
        low = (let low = may.low in let d = same.done in omega arith);
        later = may.later;
        high = omega arith;
        stands = (let s = j.stands Signaller c.args.phase in let h = may.stands in omega arith);
        few = (let s = j.stands Signaller (c.args.phase + 1) in let few = may.few in omega arith);
      };
    }

pub returns : goal.returns
returns g c =
    let op = g.A.Accumulate.operation in
    let old = c.args.self.now in
    let may = c.requires.may in
    let ahead : c.args.phase < old.ring.base + old.limits.bound = (let a = may.ahead in omega arith) in
    let far = may.far in
    let want = block_joined op c.args.phase (c.args.pending.now ∷ []) c.args.single.now old.ring in
    let first = joins_first op old.ring old.limits.bound old.done old.top c.args.phase (c.args.pending.now ∷ []) c.args.single.now c.requires.invariant may.stands c.requires.fits in
    let j = joins_next op old.ring old.ring c.join.new.self.ring old.limits.bound old.done old.top c.args.phase c.args.pending.now [] c.args.single.now want first may.low ahead (omega arith) c.join.ensures.slot in
    let o = c.go_on.ensures in
    record {
      invariant = o.invariant;
      signalled = record {
        limits = o.limits ∙ c.join.ensures.keeps.limits;
        base = ap (λ (r : Ring g.row.A.Denot). r.base) o.same ∙ j.base_same;
        top = (let a = o.top in let b = c.max-self.ensures in let d = c.join.ensures.keeps.top in omega arith);
        moves = record {
          moved = λ p. (let a = o.moved.moved p in let d = j.stands Signaller p in omega arith);
          others = λ p. o.moved.others p ∙ j.stands Waiter p;
        };
      };
      slots = o.same ∙ ap sents j.left;
      stops = o.stops;
    }
