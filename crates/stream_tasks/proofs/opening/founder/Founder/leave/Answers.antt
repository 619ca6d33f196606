-- What a founder that left has seen.
use Rattle.std.proofs.Common.{subst}
use Rattle.stream_tasks.specs.Founders.{IsLeftOfFounder}
use Rattle.stream_tasks.proofs.FoundingLemmas.{leaves}
use Rattle.stream_tasks.proofs.opening.founder.Founder.leave.Goals as goal

pub returns-clause-left : goal.returns-clause-left
returns-clause-left g c =
    subst (λ f. IsLeftOfFounder f c.leave.result) c.self.view_is
    (leaves c.self.inside.member c.leave.result c.self.inside.gave.items c.self.invariant
    c.leave.ensures.left c.leave.ensures.op)
