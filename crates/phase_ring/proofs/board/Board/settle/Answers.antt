-- Each step seals the first phase that was not complete, at which no signaller stands.
use Rattle.std.proofs.Common.{◌≡◌, ◌<◌, ◌≤◌, refl, sym, ◌∙◌, ap, arith, inl}
use Rattle.phase_ring.specs.declared.role.Role.{Role}
use Rattle.phase_ring.specs.declared.role.Role.TheVariants.{Signaller, Waiter}
use Rattle.phase_ring.specs.Rings.{Ring, IsWithin, standing, with_slot, sents}
use Rattle.phase_ring.specs.Slots.{standing_of, sealed}
use Rattle.phase_ring.specs.Boards.{IsRingAt}
use Rattle.phase_ring.proofs.Slots.{slot_at-some, sealed-high, seals, sents-with, standing-with_same, done-within}
use Rattle.phase_ring.proofs.board.Board.settle.Goals as goal

pub standing-requires : goal.standing-requires
standing-requires g c =
    done-within g.A.Accumulate.operation _ _ _ _ c.loop-self.invariant.0 (let b : c.loop-self.self.done < c.loop-self.self.top = c.loop-self-test.true in omega arith)

pub seal-requires : goal.seal-requires
seal-requires g c =
    let now = c.loop-self.self in
    let op = g.A.Accumulate.operation in
    let kept : IsRingAt op now.ring now.limits.bound now.done now.top = c.loop-self.invariant.0 in
    let below : now.done < now.top = c.loop-self-test.true in
    let high = kept.top_bound in
    let long = kept.long in
    let within = done-within op now.ring now.limits.bound now.done now.top kept (omega arith) in
    record {
      within = within;
      below = omega arith;
      incomplete = sealed-high op now.ring now.limits.bound now.done now.top now.done kept within (omega arith);
    }

pub loop-self-preserved : goal.loop-self-preserved
loop-self-preserved g c =
    let now = c.loop-self.self in
    let op = g.A.Accumulate.operation in
    let within : IsWithin now.ring now.done =
    done-within op _ _ _ _ c.loop-self.invariant.0 (let b : now.done < now.top = c.loop-self-test.true in omega arith) in
    let slot = slot_at-some now.ring now.done within in
    let new : c.seal.new.self ≡ with_slot now.done (sealed slot.0) now.ring = c.seal.ensures slot.0 slot.1 in
    let none : standing now.ring Signaller now.done ≡ 0 = sym c.standing.ensures ∙ c.if-standing-eq0.true in
    let same : (role : Role) → standing_of role (sealed slot.0) ≡ standing_of role slot.0 =
    λ role. elim role as (λ r. standing_of r (sealed slot.0) ≡ standing_of r slot.0) [ Signaller ↦ refl | Waiter ↦ refl ] in (
      rw new (seals op now.ring now.limits.bound now.done now.top slot.0 c.loop-self.invariant.0 c.loop-self-test.true slot.1 none),
      c.loop-self.invariant.1,
      ap sents new ∙ sents-with now.ring now.done slot.0 (sealed slot.0) slot.1 refl ∙ c.loop-self.invariant.2,
      λ role p. (ap (λ (r : Ring g.row.A.Denot). standing r role p) new
          ∙ standing-with_same now.ring now.done slot.0 (sealed slot.0) role within slot.1 (same role) p ∙ c.loop-self.invariant.3 role p),
      c.loop-self.invariant.4,
    )

pub returns-after-loop-self-clause-stops : goal.returns-after-loop-self-clause-stops
returns-after-loop-self-clause-stops g c =
    let high : c.loop-self.self.done ≤ c.loop-self.self.top = c.loop-self.invariant.0.done_top in
    let low : c.loop-self.self.top ≤ c.loop-self.self.done = c.loop-self-test.false in
    inl (omega arith)
