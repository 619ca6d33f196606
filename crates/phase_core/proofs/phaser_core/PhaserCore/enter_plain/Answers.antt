-- Nothing is kept where the slowest waiter stands at the top.
use Rattle.std.proofs.Common.{◌≡◌, true, ℤ, [], length, refl, sym, ap, subst, ◌∙◌, arith}
use Rattle.circular_buffer.specs.Buffer.{Buffer}
use Rattle.phase_accum.specs.Sends.{AreSends}
use Rattle.phase_base.specs.Members.{entry_of}
use Rattle.phase_ring.specs.declared.store.Store.{Store}
use Rattle.phase_ring.specs.Stores.{KeepsValues}
use Rattle.phase_core.specs.Cores.{CoreState, IsBoarded}
use Rattle.phase_core.specs.Plain.{IsPlain, plain_core}
use Rattle.phase_core.proofs.Boarded.{boarded_while}
use Rattle.phase_core.proofs.Phasers.{shown_off, shown_plain, values_phaser}
use Rattle.phase_core.proofs.Switching.{IsBare, bare_of}
use Rattle.phase_core.proofs.phaser_core.PhaserCore.enter_plain.Given.{Over}
use Rattle.phase_core.proofs.phaser_core.PhaserCore.enter_plain.Goals as goal
use Rattle.phase_core.proofs.phaser_core.PhaserCore.enter_plain.Goals.{After-clear}

-- the slots before
boarded : (g : Over) (c : After-clear g) → let b = c.self.inside.store.board in
    IsBoarded g.A.Accumulate.operation c.self.inside.registry.members b.ring b.limits.bound b.done b.top
boarded g c =
    let some = c.is_bare.ensures.waiter c.if-not-is_bare.false in
    boarded_while (c.self.invariant.slots c.if-self.false) refl (λ none. omega arith)

bare : (g : Over) (c : After-clear g)
    → IsBare g.A.Accumulate.operation c.self.inside.registry c.self.inside.store.board
    c.args.entry.signal_phase
bare g c =
    let r = c.self.inside.registry in
    let task = c.requires.member.0 in
    let is : c.is_bare.result ≡ true = c.if-not-is_bare.false in
    bare_of g.A.Accumulate.operation r c.self.inside.store.board task c.args.entry
    (c.self.invariant.slots c.if-self.false)
    (ap (λ (x : CoreState g.row.A.Denot). entry_of x.members task) c.self.view_is ∙ c.requires.member.1)
    c.requires.signals (c.is_bare.ensures.signaller is) (boarded g c) (c.is_bare.ensures.top is)
    (c.is_bare.ensures.base is)

-- the values after it
abbrev next : (g : Over) (c : After-clear g) → Store g.row.A.Denot
next g c = record {
  board = c.self.inside.store.board;
  values = record {
    base = c.args.entry.signal_phase;
    again = c.self.inside.store.values.again;
    queue = c.clear.new.self;
  };
  is_plain = true;
}

none : (g : Over) (c : After-clear g) → c.clear.new.self.items ≡ []
none g c = ap (λ (b : Buffer ℤ). b.items) c.clear.ensures

keeps : (g : Over) (c : After-clear g) → KeepsValues (next g c)
keeps g c =
    let is : c.is_bare.result ≡ true = c.if-not-is_bare.false in
    let k = (boarded g c).kept in
    let top = c.is_bare.ensures.top is in
    let base = c.is_bare.ensures.base is in
    let long = ap length (none g c) in
    record {
      sends = subst AreSends (sym (none g c)) tt;
      near = omega arith;
      far = k.top_far;
      top_is = omega arith;
      done_is = omega (arith, k.base_done, k.done_top);
    }

pub invariant_of-self : goal.invariant_of-self
invariant_of-self g c =
    let a = (goal.at.invariant_of-self g c).After-clear in
    let limits = c.self.inside.store.board.limits in
    values_phaser refl (record {
      plain = subst (IsPlain g.A.Accumulate.operation c.self.inside.registry limits
          c.args.entry.signal_phase) (sym (none g a)) (bare g a).plain;
      keeps = keeps g a;
      room = ap (λ (b : Buffer ℤ). b.capacity) c.clear.ensures ∙ sym c.capacity.ensures.capacity
          ∙ c.if-capacity-bound.false ∙ c.bound-bound.ensures.value;
      long = (boarded g a).kept.long;
    })

pub returns : goal.returns
returns g c =
    let a = (goal.at.returns g c).After-clear in
    let op = g.A.Accumulate.operation in
    let r = c.self.inside.registry in
    let store = c.self.inside.store in
    shown_plain op (next g a) r refl (keeps g a)
    ∙ (ap (plain_core op r store.board.limits c.args.entry.signal_phase) (none g a)
    ∙ (sym (bare g a).is ∙ (sym (shown_off op store r c.if-self.false) ∙ c.self.view_is)))
