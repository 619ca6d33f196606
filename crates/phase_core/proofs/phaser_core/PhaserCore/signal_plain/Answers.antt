-- The values come behind the others.
use Rattle.std.proofs.Common.{ℕ, ℤ, ◌+◌, ◌∷◌, zero, suc, ◌==◌, ◌≡◌, ◌<◌, ◌++◌, length, Some, None, true, false, sym, ap, subst, ◌∙◌, refl, arith}
use Rattle.std.proofs.lemmas.Bool.{eqb-false}
use Rattle.std.proofs.lemmas.List.{length-append, take_all}
use Rattle.circular_buffer.specs.Buffer.{Buffer, buffer}
use Rattle.phase_history.specs.Replies.{signal_reply}
use Rattle.phase_base.specs.Members.{entry_of}
use Rattle.phase_base.specs.Modes.{mode_signals, mode_waits}
use Rattle.phase_core.specs.Blocks.{one_each}
use Rattle.phase_core.specs.Cores.{CoreState, StandsFor}
use Rattle.phase_core.specs.Plain.{IsPlain, plain_core}
use Rattle.phase_core.proofs.Phasers.{shown_plain, values_phaser}
use Rattle.phase_accum.specs.Sends.{AreSends}
use Rattle.phase_history.specs.declared.event.Event.TheVariants.{Signalled}
use Rattle.phase_base.specs.Members.{changed_at, signalled}
use Rattle.phase_registry.specs.Rosters.{roster}
use Rattle.phase_ring.specs.declared.store.Store.{Store}
use Rattle.phase_ring.specs.Stores.{KeepsValues}
use Rattle.phase_core.proofs.PlainSteps.{PlainSignal, replied, signaller_at, signalled_plain, signalled_stands}
use Rattle.phase_core.proofs.phaser_core.PhaserCore.signal_plain.Given.{Over}
use Rattle.phase_core.proofs.phaser_core.PhaserCore.signal_plain.Goals as goal
use Rattle.phase_core.proofs.phaser_core.PhaserCore.signal_plain.Goals.{After-len, After-signalled}

plain : (g : Over) (c : After-len g) → let p = c.self.inside.store in
    IsPlain g.A.Accumulate.operation c.self.inside.registry c.self.inside.store.board.limits p.values.base p.values.queue.items
plain g c = (c.self.invariant.values c.if-not-self.false).plain

found : (g : Over) (c : After-len g)
    → entry_of c.self.inside.registry.members c.args.task ≡ Some c.in_ok-entry.entry
found g c = sym c.get.ensures.entry ∙ c.in_ok-entry.was

signals : (g : Over) (c : After-len g) → mode_signals c.in_ok-entry.entry.mode ≡ true
signals g c = sym c.signals.ensures ∙ c.if-not-signals.false

waits : (g : Over) (c : After-len g) → mode_waits c.in_ok-entry.entry.mode ≡ false
waits g c = sym c.waits.ensures ∙ c.if-waits.false

pub overflow_add-end : goal.overflow_add-end
overflow_add-end g c =
    let here = (goal.at.overflow_add-end g c).After-len in
    let p = c.self.inside.store in
    let at = signaller_at g.A.Accumulate.operation c.self.inside.registry c.self.inside.store.board.limits p.values.base
    p.values.queue.items c.args.task c.in_ok-entry.entry (plain g here) (found g here) (signals g here) in
    let on = (c.self.invariant.values c.if-not-self.false).plain in
    omega (
      arith,
      at,
      on.far,
      c.if-values-room.false,
      c.capacity.ensures.capacity,
      c.len.ensures.len,
      c.capacity.type_inv,
    )

above_zero : (n : ℕ) → (n == 0) ≡ false → 0 < n
above_zero zero e = absurd (eqb-false 0 0 e refl)
above_zero (suc n) e = omega arith

-- it is not refused
step : (g : Over) (c : After-signalled g) → let p = c.self.inside.store in
    PlainSignal g.A.Accumulate.operation c.self.inside.registry c.self.inside.store.board.limits p.values.base p.values.queue.items
    c.args.values.now c.args.task c.in_ok-entry.entry
step g c =
    let here = (goal.at.invariant_of-self g c).After-len in
    record {
      plain = plain g here;
      found = found g here;
      signals = signals g here;
      waits = waits g here;
      sends = c.requires;
      some = above_zero (length c.args.values.now) (sym c.is_empty.ensures ∙ c.if-is_empty.false);
      room = omega (
        arith,
        c.if-values-room.false,
        c.capacity.ensures.capacity,
        c.len.ensures.len,
        (c.self.invariant.values c.if-not-self.false).room,
        c.capacity.ensures.within,
      );
      near = omega (
        arith,
        c.if-end-phases_max.false,
        c.phases_max.ensures.value,
      );
    }

-- all fit
all : (g : Over) (c : After-signalled g) → c.fill_from_slice.result ≡ length c.args.values.now
all g c = omega (
  arith,
  c.fill_from_slice.ensures.count,
  c.if-values-room.false,
  c.capacity.ensures.capacity,
  c.len.ensures.len,
  c.capacity.ensures.within,
)

-- the values behind the others
kept : (g : Over) (c : After-signalled g)
    → c.fill_from_slice.new.self
    ≡ buffer (c.self.inside.store.values.queue.items ++ c.args.values.now) c.self.inside.store.values.queue.capacity
kept g c =
    c.fill_from_slice.ensures.items
    ∙ ap (λ vs. buffer (c.self.inside.store.values.queue.items ++ vs) c.self.inside.store.values.queue.capacity)
    (take_all c.fill_from_slice.result c.args.values.now (omega (arith, all g c)))

-- the store after it
abbrev next : (g : Over) (c : After-signalled g) → Store g.row.A.Denot
next g c =
    let store = c.self.inside.store in
    let end = c.in_ok-entry.entry.signal_phase + length c.args.values.now in
    record {
      board = record { limits = store.board.limits; ring = store.board.ring; done = end; top = end };
      values = record {
        base = store.values.base;
        again = store.values.again;
        queue = c.fill_from_slice.new.self;
      };
      is_plain = store.is_plain;
    }

end_is : (g : Over) (c : After-signalled g) → (next g c).board.top
    ≡ c.self.inside.store.values.base + length c.fill_from_slice.new.self.items
end_is g c =
    let here = (goal.at.invariant_of-self g c).After-len in
    let p = c.self.inside.store in
    let at = signaller_at g.A.Accumulate.operation c.self.inside.registry c.self.inside.store.board.limits
    p.values.base p.values.queue.items c.args.task c.in_ok-entry.entry (plain g here) (found g here)
    (signals g here) in
    let long = ap (λ (b : Buffer ℤ). length b.items) (kept g c) in
    omega (arith, at, long, length-append p.values.queue.items c.args.values.now)

after : (g : Over) (c : After-signalled g) → let p = c.self.inside.store in
    IsPlain g.A.Accumulate.operation (roster (changed_at c.args.task (signalled (length c.args.values.now))
    c.self.inside.registry.members) c.self.inside.registry.greatest) p.board.limits p.values.base
    (p.values.queue.items ++ c.args.values.now)
after g c =
    let p = c.self.inside.store in
    signalled_plain g.A.Accumulate.operation g.met.A.Accumulate.laws c.self.inside.registry
    p.board.limits p.values.base p.values.queue.items c.args.values.now c.args.task c.in_ok-entry.entry
    (step g c)

keeps : (g : Over) (c : After-signalled g) → KeepsValues (next g c)
keeps g c =
    let p = after g c in
    let items = ap (λ (b : Buffer ℤ). b.items) (kept g c) in
    let end = end_is g c in
    record {
      sends = subst AreSends (sym items) p.sends;
      near = omega (arith, ap length items, p.near);
      far = omega (arith, end, ap length items, p.far);
      top_is = end;
      done_is = refl;
    }

pub invariant_of-self : goal.invariant_of-self
invariant_of-self g c =
    let is = c.self.invariant.values c.if-not-self.false in
    values_phaser c.if-not-self.false (record {
      plain = rw (kept g c) (rw c.signalled.ensures (after g c));
      keeps = keeps g c;
      room = ap (λ (b : Buffer ℤ). b.capacity) (kept g c) ∙ is.room;
      long = is.long;
    })

-- what it shows before the call
shows : (g : Over) (c : After-signalled g) → let p = c.self.inside.store in
    c.args.self.now
    ≡ plain_core g.A.Accumulate.operation c.self.inside.registry c.self.inside.store.board.limits p.values.base p.values.queue.items
shows g c =
    sym c.self.view_is ∙ shown_plain g.A.Accumulate.operation c.self.inside.store c.self.inside.registry
    c.if-not-self.false (c.self.invariant.values c.if-not-self.false).keeps

pub returns-clause-ok : goal.returns-clause-ok
returns-clause-ok g c h stands =
    let p = c.self.inside.store in
    ap (λ core. signal_reply core.limits h c.args.task (one_each c.args.values.now) None) (shows g c)
    ∙ replied g.A.Accumulate.operation g.met.A.Accumulate.laws c.self.inside.registry c.self.inside.store.board.limits
    p.values.base p.values.queue.items c.args.values.now c.args.task c.in_ok-entry.entry (step g c) h
    (subst (λ core. StandsFor g.A.Accumulate.operation core h) (shows g c) stands)

pub returns-clause-after : goal.returns-clause-after
returns-clause-after g c h stands =
    let op = g.A.Accumulate.operation in
    let a = (goal.at.returns-clause-after g c).After-signalled in
    let p = c.self.inside.store in
    subst (λ (k : CoreState g.row.A.Denot). StandsFor op k
    (Signalled c.args.task (one_each c.args.values.now) None ∷ h))
    (sym (shown_plain op (next g a) c.signalled.new.self c.if-not-self.false (keeps g a)))
    (rw c.signalled.ensures (rw (kept g a)
    (signalled_stands op g.met.A.Accumulate.laws c.self.inside.registry
    p.board.limits p.values.base p.values.queue.items c.args.values.now c.args.task
    c.in_ok-entry.entry (step g a) h
    (subst (λ core. StandsFor op core h) (shows g a) stands))))
