-- It stops at the first value that is too big, or behind the last phase.
use Rattle.std.proofs.Common.{◌≡◌, ◌+◌, ◌<◌, ◌≤◌, sym, ap, ◌∙◌, arith}
use Rattle.phase_ring.specs.Blocks.{value_at, is_not_too_big}
use Rattle.phase_ring.proofs.Slots.{sealed-low}
use Rattle.phase_ring.proofs.Blocks.{counts_in_range, fits_one_more, not_too_big, value_at-slot, block-within}
use Rattle.phase_ring.proofs.board.Board.good_ahead.Given.{Over}
use Rattle.phase_ring.proofs.board.Board.good_ahead.Goals.{After-value-outcome}
use Rattle.phase_ring.proofs.board.Board.good_ahead.Goals as goal

pub value-outcome-requires : goal.value-outcome-requires
value-outcome-requires g c =
    let op = g.A.Accumulate.operation in
    let old = c.args.self.now in
    let inside : c.loop-i.i < c.args.most = c.loop-i-test.true in
    let complete = c.requires.may.complete in
    let p = c.args.phase + c.loop-i.i in
    let w = block-within op old.ring old.limits.bound old.done old.top c.args.phase p c.requires.invariant c.requires.may.stands (omega arith) (omega arith) in
    record { within = w; complete = sealed-low op old.ring old.limits.bound old.done old.top p c.requires.invariant w (omega arith) }

-- what was read is the value of its phase
read : (g : Over) (c : After-value-outcome g) → c.value-outcome.result
    ≡ value_at g.A.Accumulate.operation c.args.self.now.ring (c.args.phase + c.loop-i.i)
read g c =
    let op = g.A.Accumulate.operation in
    let old = c.args.self.now in
    let inside : c.loop-i.i < c.args.most = c.loop-i-test.true in
    let complete = c.requires.may.complete in
    let p = c.args.phase + c.loop-i.i in
    let w = block-within op old.ring old.limits.bound old.done old.top c.args.phase p c.requires.invariant c.requires.may.stands (omega arith) (omega arith) in
    value_at-slot op old.ring p c.value-outcome.result w c.value-outcome.ensures

pub loop-i-preserved : goal.loop-i-preserved
loop-i-preserved g c =
    let f = value_at g.A.Accumulate.operation c.args.self.now.ring in
    let is = read g (goal.at.loop-i-preserved g c).After-value-outcome in
    fits_one_more f c.args.phase c.loop-i.i c.loop-i.invariant
    (ap is_not_too_big (sym is) ∙ not_too_big c.value-outcome.result c.in_default.not-TooBig)

pub returns-in-TooBig : goal.returns-in-TooBig
returns-in-TooBig g c =
    let f = value_at g.A.Accumulate.operation c.args.self.now.ring in
    let inside : c.loop-i.i < c.args.most = c.loop-i-test.true in
    let is = read g (goal.at.returns-in-TooBig g c).After-value-outcome in
    counts_in_range f c.args.phase c.args.most c.loop-i.i (omega arith) c.loop-i.invariant
    (λ more. ap is_not_too_big (sym is ∙ c.in-TooBig.is))

pub returns : goal.returns
returns g c =
    let f = value_at g.A.Accumulate.operation c.args.self.now.ring in
    let past : c.args.most ≤ c.loop-i.i = c.loop-i-test.false in
    counts_in_range f c.args.phase c.args.most c.args.most (omega arith)
    (λ k below. c.loop-i.invariant k (omega arith)) (λ more. absurd (omega arith))
