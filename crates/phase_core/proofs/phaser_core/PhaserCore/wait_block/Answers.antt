-- As many as are complete, of as many as were asked for.
use Rattle.std.proofs.Common.{◌≡◌, ℕ, ◌-◌, ◌<◌, min, drop, ◌++◌, Some, None, Ok, length, sym, subst, ◌∙◌, ap, arith}
use Rattle.std.specs.Prelude.{is_some}
use Rattle.phase_base.specs.Members.{signal_phases, least}
use Rattle.phase_history.specs.declared.got.GotBlock.TheVariants as got
use Rattle.phase_history.specs.Histories.{History}
use Rattle.phase_history.specs.Refusals.{wait_refusal}
use Rattle.phase_history.proofs.BlockAnswers.{wait_refusal-fewer, asked_some}
use Rattle.phase_ring.specs.Stores.{board_shown}
use Rattle.phase_core.specs.Cores.{CoreState, StandsFor}
use Rattle.phase_core.specs.PlainCores.{core_shown}
use Rattle.phase_core.proofs.Phasers.{phaser_shows}
use Rattle.phase_core.proofs.NewCore.{done_of_kept}
use Rattle.phase_core.proofs.WaitCore.{got_block_values, got_block_ended, values_are, block_in_range}
use Rattle.phase_core.proofs.Waits.{Awaits, here, block_replied, is_store, may_get, may_go_on, stands_after, phaser_after}
use Rattle.phase_core.proofs.phaser_core.PhaserCore.wait_block.Given.{Over}
use Rattle.phase_core.proofs.phaser_core.PhaserCore.wait_block.Goals.{After-wait_refusal-refusal, After-min-count}
use Rattle.phase_core.proofs.phaser_core.PhaserCore.wait_block.Goals as goal

-- the member that waits
awaits : (g : Over) (c : After-wait_refusal-refusal g)
    → Awaits g.A.Accumulate.operation c.self.inside.registry c.self.inside.store c.args.task
    c.in-Some.entry c.has_signaller-has_signaller.result
awaits g c = record {
  phaser = c.self.invariant;
  found = sym c.in-Some.ensures.entry;
  few = c.in-Some.ensures.few;
  waits = sym c.waits.ensures ∙ c.if-not-waits.false;
  has = subst (λ (k : CoreState g.row.A.Denot). c.has_signaller-has_signaller.result
      ≡ is_some (least (signal_phases k.members))) (sym c.self.view_is)
      c.has_signaller-has_signaller.ensures;
}

-- so many are complete of those that it asked for, and some
record Counted (asked done phase count : ℕ) : Type 0 where
  least_of : count ≡ min asked (done - phase)
  before : phase < done
  some : 0 < count

counted : (g : Over) (c : After-min-count g) → Awaits g.A.Accumulate.operation c.self.inside.registry
    c.self.inside.store c.args.task c.in-Some.entry c.has_signaller-has_signaller.result
    → Counted (length c.args.out.now) c.self.inside.store.board.done c.in-Some.entry.wait_phase
    c.min-count.result
counted g c m =
    let shows = phaser_shows g.A.Accumulate.operation c.self.inside.registry c.self.inside.store c.self.invariant in
    let h = shows.history in
    let asked = asked_some c.self.inside.store.board.limits h c.args.task (length c.args.out.now)
    (block_replied m h (length c.args.out.now) None shows.stands c.in_default-refusal.ensures).0 in
    let count : c.min-count.result
    ≡ min (length c.args.out.now) (c.self.inside.store.board.done - c.in-Some.entry.wait_phase) =
    c.min-count.ensures in
    let before : c.in-Some.entry.wait_phase < c.self.inside.store.board.done = c.if-done-phase.false in
    record { least_of = count; before = before; some = omega arith }

-- a wait of so many phases is not refused
allowed : (g : Over) (c : After-min-count g) → Awaits g.A.Accumulate.operation
    c.self.inside.registry c.self.inside.store c.args.task c.in-Some.entry
    c.has_signaller-has_signaller.result → (h : History)
    → StandsFor g.A.Accumulate.operation (core_shown g.A.Accumulate.operation c.self.inside.registry c.self.inside.store) h
    → wait_refusal c.self.inside.store.board.limits h c.args.task c.min-count.result ≡ None
allowed g c m h stands =
    let n = counted g c m in
    let few = n.least_of in
    let some = n.some in
    wait_refusal-fewer c.self.inside.store.board.limits h c.args.task (length c.args.out.now)
    c.min-count.result
    (block_replied m h (length c.args.out.now) None stands c.in_default-refusal.ensures).0
    (omega arith) (omega arith)

pub returns-in-Some-refusal-clause-reply : goal.returns-in-Some-refusal-clause-reply
returns-in-Some-refusal-clause-reply g c h given =
    let m = awaits g (goal.at.returns-in-Some-refusal-clause-reply g c).After-wait_refusal-refusal in
    rw (← c.self.view_is) (block_replied m h (length c.args.out.now)
    (Some c.in-Some-refusal.refusal) (rw c.self.view_is given) c.in-Some-refusal.ensures).1

pub returns-then-done-phase-clause-reply : goal.returns-then-done-phase-clause-reply
returns-then-done-phase-clause-reply g c h given =
    let op = g.A.Accumulate.operation in
    let store = c.self.inside.store in
    let m = awaits g (goal.at.returns-then-done-phase-clause-reply g c).After-wait_refusal-refusal in
    let stands : StandsFor op (core_shown op c.self.inside.registry store) h = rw c.self.view_is given in
    let n = length c.args.out.now in
    rw (← c.self.view_is) ((block_replied m h n None stands c.in_default-refusal.ensures).1
    ∙ ap (λ x. Ok x) (got_block_ended h c.in-Some.entry.wait_phase n store.board.done
    (done_of_kept op c.self.inside.registry (board_shown op store) h stands (here m).kept) c.if-done-phase.true))

pub wait_block-requires : goal.wait_block-requires
wait_block-requires g c =
    let a = (goal.at.wait_block-requires g c) in
    let m = awaits g a.After-wait_refusal-refusal in
    let n = counted g a.After-min-count m in
    let few = n.least_of in
    let some = n.some in
    let before = n.before in
    record {
      invariant = is_store m;
      may = may_get m c.min-count.result some (omega arith);
      room = omega arith;
    }

pub go_on-requires : goal.go_on-requires
go_on-requires g c =
    let a = (goal.at.go_on-requires g c) in
    let m = awaits g a.After-wait_refusal-refusal in
    let n = counted g a.After-min-count m in
    let few = n.least_of in
    let before = n.before in
    may_go_on m c.wait_block.new.self c.min-count.result (omega arith) c.wait_block.ensures.got

pub invariant_of-self : goal.invariant_of-self
invariant_of-self g c =
    let a = (goal.at.invariant_of-self g c) in
    let m = awaits g a.After-wait_refusal-refusal in
    let n = counted g a.After-min-count m in
    let few = n.least_of in
    let before = n.before in
    phaser_after m c.wait_block.new.self c.min-count.result (omega arith) c.wait_block.ensures.got
    c.go_on.new.registry c.go_on.new.store c.go_on.ensures
    (λ h stands. allowed g a.After-min-count m h stands)

pub returns-clause-reply : goal.returns-clause-reply
returns-clause-reply g c h given =
    let a = (goal.at.returns-clause-reply g c) in
    let m = awaits g a.After-wait_refusal-refusal in
    let op = g.A.Accumulate.operation in
    let store = c.self.inside.store in
    let phase = c.in-Some.entry.wait_phase in
    let n = length c.args.out.now in
    let k = counted g a.After-min-count m in
    let stands : StandsFor op (core_shown op c.self.inside.registry store) h = rw c.self.view_is given in
    rw (← c.self.view_is) ((block_replied m h n None stands c.in_default-refusal.ensures).1
    ∙ ap (λ x. Ok x) (got_block_values h phase n store.board.done
    (done_of_kept op c.self.inside.registry (board_shown op store) h stands (here m).kept) k.before)
    ∙ ap (λ k. Ok (got.Values phase k)) (sym k.least_of))

pub returns-clause-after : goal.returns-clause-after
returns-clause-after g c h given =
    let a = (goal.at.returns-clause-after g c) in
    let m = awaits g a.After-wait_refusal-refusal in
    let n = counted g a.After-min-count m in
    let few = n.least_of in
    let before = n.before in
    let stands : StandsFor g.A.Accumulate.operation (core_shown g.A.Accumulate.operation c.self.inside.registry c.self.inside.store)
    h = rw c.self.view_is given in
    stands_after m c.wait_block.new.self c.min-count.result (omega arith) c.wait_block.ensures.got
    c.go_on.new.registry c.go_on.new.store c.go_on.ensures h stands
    (allowed g a.After-min-count m h stands)

pub returns-clause-out : goal.returns-clause-out
returns-clause-out g c h given =
    let a = (goal.at.returns-clause-out g c) in
    let m = awaits g a.After-wait_refusal-refusal in
    let op = g.A.Accumulate.operation in
    let reg = c.self.inside.registry in
    let store = c.self.inside.store in
    let phase = c.in-Some.entry.wait_phase in
    let count = c.min-count.result in
    let n = counted g a.After-min-count m in
    let few = n.least_of in
    let before = n.before in
    let stands : StandsFor op (core_shown op reg store) h = rw c.self.view_is given in
    let low = (here m).low in
    c.wait_block.ensures.out
    ∙ ap (λ xs. xs ++ drop count c.args.out.now) (values_are op g.met.A.Accumulate.laws reg (board_shown op store) h phase
    count (here m).kept stands low (omega arith))

-- what it answers are values of some legal history
pub returns-clause-range : goal.returns-clause-range
returns-clause-range g c phase count is =
    let op = g.A.Accumulate.operation in
    let shows = phaser_shows op c.self.inside.registry c.self.inside.store c.self.invariant in
    let stands : StandsFor op c.args.self.now shows.history = rw (← c.self.view_is) shows.stands in
    block_in_range op g.met.A.Accumulate.laws c.args.self.now.limits shows.history c.args.task phase
    count _ c.args.out.now _ stands.legal (returns-clause-reply g c shows.history stands)
    (returns-clause-out g c shows.history stands) is
