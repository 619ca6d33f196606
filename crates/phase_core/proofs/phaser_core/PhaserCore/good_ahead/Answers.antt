-- As many as are complete, of as many as were asked for, and of these the values before the first
-- that is too big.
use Rattle.std.proofs.Common.{◌≡◌, ℕ, ◌-◌, ◌<◌, min, Some, None, Ok, length, sym, subst, ◌∙◌, ap, arith}
use Rattle.std.specs.Prelude.{is_some}
use Rattle.std.specs.List.{take_while}
use Rattle.phase_base.specs.Members.{signal_phases, least}
use Rattle.phase_history.specs.declared.got.GotBlock.TheVariants as got
use Rattle.phase_history.specs.Histories.{History}
use Rattle.phase_history.specs.Phases.{stream_of}
use Rattle.phase_history.specs.Replies.{wait_block_reply}
use Rattle.phase_history.proofs.BlockAnswers.{asked_some}
use Rattle.phase_core.specs.Blocks.{before_too_big, is_not_too_big}
use Rattle.phase_ring.specs.Stores.{board_shown}
use Rattle.phase_core.specs.Cores.{CoreState, StandsFor}
use Rattle.phase_core.specs.PlainCores.{core_shown}
use Rattle.phase_core.proofs.Phasers.{phaser_shows}
use Rattle.phase_core.proofs.NewCore.{done_of_kept}
use Rattle.phase_core.proofs.WaitCore.{got_block_values, got_block_ended, values_are}
use Rattle.phase_core.proofs.Waits.{Awaits, here, block_replied, is_store, may_get}
use Rattle.phase_core.proofs.phaser_core.PhaserCore.good_ahead.Given.{Over}
use Rattle.phase_core.proofs.phaser_core.PhaserCore.good_ahead.Goals.{After-wait_refusal-refusal, After-min-complete, After-good_ahead-count}
use Rattle.phase_core.proofs.phaser_core.PhaserCore.good_ahead.Goals as goal

-- the member that waits
awaits : (g : Over) (c : After-wait_refusal-refusal g)
    → Awaits g.A.Accumulate.operation c.self.inside.registry c.self.inside.store c.args.task
    c.in-Some.entry c.has_signaller-has_signaller.result
awaits g c = record {
  phaser = c.self.invariant;
  found = sym c.in-Some.ensures.entry;
  few = c.in-Some.ensures.few;
  waits = sym c.waits.ensures ∙ c.if-not-waits.false;
  has = subst (λ (k : CoreState g.row.A.Denot). c.has_signaller-has_signaller.result
      ≡ is_some (least (signal_phases k.members))) (sym c.self.view_is)
      c.has_signaller-has_signaller.ensures;
}

-- so many are complete of those that it asked for, and some
record Counted (asked done phase complete : ℕ) : Type 0 where
  least_of : complete ≡ min asked (done - phase)
  before : phase < done
  some : 0 < complete

counted : (g : Over) (c : After-min-complete g) → Awaits g.A.Accumulate.operation c.self.inside.registry
    c.self.inside.store c.args.task c.in-Some.entry c.has_signaller-has_signaller.result
    → Counted c.args.most c.self.inside.store.board.done c.in-Some.entry.wait_phase
    c.min-complete.result
counted g c m =
    let shows = phaser_shows g.A.Accumulate.operation c.self.inside.registry c.self.inside.store c.self.invariant in
    let h = shows.history in
    let asked = asked_some c.self.inside.store.board.limits h c.args.task c.args.most
    (block_replied m h c.args.most None shows.stands c.in_default-refusal.ensures).0 in
    let complete : c.min-complete.result
    ≡ min c.args.most (c.self.inside.store.board.done - c.in-Some.entry.wait_phase) =
    c.min-complete.ensures in
    let before : c.in-Some.entry.wait_phase < c.self.inside.store.board.done = c.if-done-phase.false in
    record { least_of = complete; before = before; some = omega arith }

-- what it is answered
replied : (g : Over) (c : After-good_ahead-count g) → Awaits g.A.Accumulate.operation
    c.self.inside.registry c.self.inside.store c.args.task c.in-Some.entry
    c.has_signaller-has_signaller.result
    → Counted c.args.most c.self.inside.store.board.done c.in-Some.entry.wait_phase
    c.min-complete.result → (h : History)
    → StandsFor g.A.Accumulate.operation (core_shown g.A.Accumulate.operation c.self.inside.registry c.self.inside.store) h
    → before_too_big (stream_of g.A.Accumulate.operation.value h)
    (wait_block_reply c.self.inside.store.board.limits h c.args.task c.args.most)
    ≡ Ok (got.Values c.in-Some.entry.wait_phase c.good_ahead-count.result)
replied g c m k h stands =
    let op = g.A.Accumulate.operation in
    let reg = c.self.inside.registry in
    let store = c.self.inside.store in
    let phase = c.in-Some.entry.wait_phase in
    let n = c.args.most in
    let least_of = k.least_of in
    let before = k.before in
    let stream = stream_of op.value h in
    let low = (here m).low in
    let reply : wait_block_reply store.board.limits h c.args.task n ≡ Ok (got.Values phase c.min-complete.result) =
    (block_replied m h n None stands c.in_default-refusal.ensures).1
    ∙ ap (λ x. Ok x) (got_block_values h phase n store.board.done
    (done_of_kept op reg (board_shown op store) h stands (here m).kept) k.before)
    ∙ ap (λ k. Ok (got.Values phase k)) (sym k.least_of) in
    ap (before_too_big stream) reply
    ∙ ap (λ xs. Ok (got.Values phase (length (take_while is_not_too_big xs))))
    (sym (values_are op g.met.A.Accumulate.laws reg (board_shown op store) h phase c.min-complete.result (here m).kept
    stands low (omega arith)))
    ∙ ap (λ k. Ok (got.Values phase k)) (sym c.good_ahead-count.ensures)

pub good_ahead-count-requires : goal.good_ahead-count-requires
good_ahead-count-requires g c =
    let a = goal.at.good_ahead-count-requires g c in
    let m = awaits g a.After-wait_refusal-refusal in
    let n = counted g a.After-min-complete m in
    let least_of = n.least_of in
    let some = n.some in
    let before = n.before in
    record { invariant = is_store m; may = may_get m c.min-complete.result some (omega arith) }

pub returns-in-Some-refusal : goal.returns-in-Some-refusal
returns-in-Some-refusal g c h given =
    let m = awaits g (goal.at.returns-in-Some-refusal g c).After-wait_refusal-refusal in
    let op = g.A.Accumulate.operation in
    rw (← c.self.view_is) (ap (before_too_big (stream_of op.value h))
    (block_replied m h c.args.most (Some c.in-Some-refusal.refusal)
    (rw c.self.view_is given) c.in-Some-refusal.ensures).1)

pub returns-then-done-phase : goal.returns-then-done-phase
returns-then-done-phase g c h given =
    let op = g.A.Accumulate.operation in
    let store = c.self.inside.store in
    let m = awaits g (goal.at.returns-then-done-phase g c).After-wait_refusal-refusal in
    let stands : StandsFor op (core_shown op c.self.inside.registry store) h = rw c.self.view_is given in
    let n = c.args.most in
    rw (← c.self.view_is) (ap (before_too_big (stream_of op.value h))
    ((block_replied m h n None stands c.in_default-refusal.ensures).1
    ∙ ap (λ x. Ok x) (got_block_ended h c.in-Some.entry.wait_phase n store.board.done
    (done_of_kept op c.self.inside.registry (board_shown op store) h stands (here m).kept) c.if-done-phase.true)))

pub returns : goal.returns
returns g c h given =
    let a = goal.at.returns g c in
    let m = awaits g a.After-wait_refusal-refusal in
    rw (← c.self.view_is) (replied g a.After-good_ahead-count m (counted g a.After-min-complete m) h
    (rw c.self.view_is given))
