-- A task that takes part in the role stands where somebody may stand.
use Rattle.std.proofs.Common.{◌≡◌, ◌+◌, ℕ, true, subst, sym, ◌∙◌}
use Rattle.phase_ring.specs.Rings.{standing}
use Rattle.phase_ring.specs.Standings.{counted, takes_part}
use Rattle.phase_ring.specs.Restarts.{MayBePlaced}
use Rattle.phase_ring.proofs.Kept.{Counts, placed}
use Rattle.phase_ring.proofs.Restarted.{MayBePlaced-within}
use Rattle.phase_ring.proofs.board.Board.place_as.Given.{Over}
use Rattle.phase_ring.proofs.board.Board.place_as.Goals as goal
use Rattle.phase_ring.proofs.board.Board.place_as.Goals.{After-enter}

-- who stands where then
stood : (g : Over) (c : After-enter g)
    → let old = c.args.self.now in
    Counts g.A.Accumulate.operation old.ring c.enter.new.self old.limits.bound old.done old.top
    c.args.role
    × ((p : ℕ) → standing c.enter.new.self c.args.role p
    ≡ standing old.ring c.args.role p + counted c.args.role c.args.entry p)
stood g c =
    let old = c.args.self.now in
    let takes : takes_part c.args.role c.args.entry ≡ true = sym c.is_of.ensures ∙ c.if-is_of.true in
    let may = subst (λ q. MayBePlaced c.args.role q old) (sym c.phase_of.ensures)
    (c.requires.place takes) in
    let there = MayBePlaced-within g.A.Accumulate.operation old c.args.role c.phase_of.result
    c.requires.invariant may in
    placed g.A.Accumulate.operation old.ring c.enter.new.self old.limits.bound old.done old.top
    c.phase_of.result c.args.role c.args.entry c.phase_of.ensures takes c.requires.invariant
    there.0 there.1 c.enter.ensures

pub returns-then-is_of-clause-invariant : goal.returns-then-is_of-clause-invariant
returns-then-is_of-clause-invariant g c =
    (stood g (goal.at.returns-then-is_of-clause-invariant g c).After-enter).0.kept

pub returns-then-is_of-clause-same : goal.returns-then-is_of-clause-same
returns-then-is_of-clause-same g c =
    (stood g (goal.at.returns-then-is_of-clause-same g c).After-enter).0.same

pub returns-then-is_of-clause-standing : goal.returns-then-is_of-clause-standing
returns-then-is_of-clause-standing g c =
    (stood g (goal.at.returns-then-is_of-clause-standing g c).After-enter).1

pub returns-then-is_of-clause-others : goal.returns-then-is_of-clause-others
returns-then-is_of-clause-others g c =
    (stood g (goal.at.returns-then-is_of-clause-others g c).After-enter).0.others
