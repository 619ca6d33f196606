-- A task that takes part in the role stands where others stand already.
use Rattle.std.proofs.Common.{◌≡◌, true, refl, sym, ◌∙◌}
use Rattle.phase_ring.specs.Standings.{takes_part}
use Rattle.phase_ring.proofs.Kept.{left}
use Rattle.phase_ring.proofs.board.Board.leave_as.Goals as goal

pub returns-then-is_of-clause-invariant : goal.returns-then-is_of-clause-invariant
returns-then-is_of-clause-invariant g c =
    let old = c.args.self.now in
    let takes : takes_part c.args.role c.args.entry ≡ true = sym c.is_of.ensures ∙ c.if-is_of.true in
    (left g.A.Accumulate.operation old.ring c.leave.new.self old.limits.bound old.done old.top c.phase_of.result c.args.role c.args.entry
    c.phase_of.ensures takes c.requires.invariant c.requires.stands c.leave.ensures).0.kept

pub returns-then-is_of-clause-same : goal.returns-then-is_of-clause-same
returns-then-is_of-clause-same g c =
    let old = c.args.self.now in
    let takes : takes_part c.args.role c.args.entry ≡ true = sym c.is_of.ensures ∙ c.if-is_of.true in
    (left g.A.Accumulate.operation old.ring c.leave.new.self old.limits.bound old.done old.top c.phase_of.result c.args.role c.args.entry
    c.phase_of.ensures takes c.requires.invariant c.requires.stands c.leave.ensures).0.same

pub returns-then-is_of-clause-standing : goal.returns-then-is_of-clause-standing
returns-then-is_of-clause-standing g c =
    let old = c.args.self.now in
    let takes : takes_part c.args.role c.args.entry ≡ true = sym c.is_of.ensures ∙ c.if-is_of.true in
    (left g.A.Accumulate.operation old.ring c.leave.new.self old.limits.bound old.done old.top c.phase_of.result c.args.role c.args.entry
    c.phase_of.ensures takes c.requires.invariant c.requires.stands c.leave.ensures).1

pub returns-then-is_of-clause-others : goal.returns-then-is_of-clause-others
returns-then-is_of-clause-others g c =
    let old = c.args.self.now in
    let takes : takes_part c.args.role c.args.entry ≡ true = sym c.is_of.ensures ∙ c.if-is_of.true in
    (left g.A.Accumulate.operation old.ring c.leave.new.self old.limits.bound old.done old.top c.phase_of.result c.args.role c.args.entry
    c.phase_of.ensures takes c.requires.invariant c.requires.stands c.leave.ensures).0.others

pub returns-then-is_of-clause-keeps : goal.returns-then-is_of-clause-keeps
returns-then-is_of-clause-keeps g c = record { limits = refl; done = refl; top = refl }

pub returns-else-is_of-clause-keeps : goal.returns-else-is_of-clause-keeps
returns-else-is_of-clause-keeps g c = record { limits = refl; done = refl; top = refl }
