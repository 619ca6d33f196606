-- The first phase that refuses is past the last, or is too far ahead of the slowest waiter.
use Rattle.std.proofs.Common.{◌≡◌, None, sym, ap, subst, ◌∙◌, arith}
use Rattle.phase_history.specs.Replies.{signal_reply}
use Rattle.phase_core.specs.Blocks.{one_each}
use Rattle.phase_core.specs.Cores.{StandsFor}
use Rattle.phase_core.specs.Plain.{plain_core}
use Rattle.phase_core.proofs.Phasers.{shown_plain}
use Rattle.phase_core.proofs.PlainSteps.{PlainRefusal, refused_ahead, refused_spent, signaller_at}
use Rattle.phase_core.proofs.phaser_core.PhaserCore.refusal_plain.Given.{Over}
use Rattle.phase_core.proofs.phaser_core.PhaserCore.refusal_plain.Goals.{Else-waits}
use Rattle.phase_core.proofs.phaser_core.PhaserCore.refusal_plain.Goals as goal

-- a task that alone signals and does not wait asks for as many phases as a block may have
asks : (g : Over) (c : Else-waits g) → let p = c.self.inside.store in
    PlainRefusal g.A.Accumulate.operation c.self.inside.registry c.self.inside.store.board.limits p.values.base p.values.queue.items
    c.args.values.now c.args.task c.in_ok-entry.entry
asks g c = record {
  plain = (c.self.invariant.values c.if-not-self.false).plain;
  found = sym c.get.ensures.entry ∙ c.in_ok-entry.was;
  signals = sym c.signals.ensures ∙ c.if-not-signals.false;
  waits = sym c.waits.ensures ∙ c.if-waits.false;
  some = omega (arith, c.if-phases-eq0.false);
  few = omega (arith, c.if-phases-bound.false, c.bound.ensures.value);
}

-- what it shows
shows : (g : Over) (c : Else-waits g) → let p = c.self.inside.store in
    c.args.self.now
    ≡ plain_core g.A.Accumulate.operation c.self.inside.registry c.self.inside.store.board.limits p.values.base p.values.queue.items
shows g c =
    sym c.self.view_is ∙ shown_plain g.A.Accumulate.operation c.self.inside.store c.self.inside.registry
    c.if-not-self.false (c.self.invariant.values c.if-not-self.false).keeps

pub overflow_add-entry : goal.overflow_add-entry
overflow_add-entry g c =
    let r = asks g (goal.at.overflow_add-entry g c).Else-waits in
    let p = c.self.inside.store in
    omega (
      arith,
      r.plain.far,
      r.few,
      c.bound.ensures.limits.bound_most,
      signaller_at g.A.Accumulate.operation c.self.inside.registry c.self.inside.store.board.limits p.values.base p.values.queue.items
          c.args.task c.in_ok-entry.entry r.plain r.found r.signals,
    )

pub returns-then-last-near : goal.returns-then-last-near
returns-then-last-near g c h stands =
    let a = (goal.at.returns-then-last-near g c).Else-waits in
    let p = c.self.inside.store in
    let limits = c.self.inside.store.board.limits in
    let bound : c.bound-2.result ≡ limits.bound =
    c.bound-2.ensures.value in
    let last : c.phases_max-last.result ≡ limits.phases_max =
    c.phases_max-last.ensures.value in
    ap (λ core. signal_reply core.limits h c.args.task (one_each c.args.values.now) None) (shows g a)
    ∙ refused_spent g.A.Accumulate.operation c.self.inside.registry limits p.values.base p.values.queue.items c.args.values.now
    c.args.task c.in_ok-entry.entry (asks g a) h
    (subst (λ core. StandsFor g.A.Accumulate.operation core h) (shows g a) stands)
    (omega (arith, c.if-entry-phases.false, c.min.ensures, c.if-last-near.true))
    (omega (arith, c.if-last-near.true))

pub returns-else-last-near : goal.returns-else-last-near
returns-else-last-near g c h stands =
    let a = (goal.at.returns-else-last-near g c).Else-waits in
    let p = c.self.inside.store in
    let limits = c.self.inside.store.board.limits in
    let bound : c.bound-2.result ≡ limits.bound =
    c.bound-2.ensures.value in
    let last : c.phases_max-last.result ≡ limits.phases_max =
    c.phases_max-last.ensures.value in
    ap (λ core. signal_reply core.limits h c.args.task (one_each c.args.values.now) None) (shows g a)
    ∙ refused_ahead g.A.Accumulate.operation c.self.inside.registry limits p.values.base p.values.queue.items c.args.values.now
    c.args.task c.in_ok-entry.entry (asks g a) h
    (subst (λ core. StandsFor g.A.Accumulate.operation core h) (shows g a) stands)
    (omega (arith, c.if-entry-phases.false, c.min.ensures, c.if-last-near.false))
    (omega (arith, c.if-last-near.false))
