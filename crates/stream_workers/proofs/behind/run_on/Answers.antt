-- The founders that registered the tasks are those that left.
use Rattle.std.proofs.Common.{sym, ap, subst, ◌∙◌, length}
use Rattle.std.specs.Prelude.{drop}
use Rattle.stream_tasks.specs.Openings.{AreFounders}
use Rattle.stream_workers.proofs.Grown.{written}
use Rattle.stream_workers.proofs.behind.run_on.Goals as goal

pub returns-clause-founders : goal.returns-clause-founders
returns-clause-founders g c =
    let new = c.open_pool.new.founders in
    let first = c.in-Ok.ensures g.J.Run.job c.requires.phasers in
    let last = c.open_pool.ensures.founders in
    let long =
    sym c.deref_mut.ensures.len ∙ ap length c.deref_mut.ensures.value ∙ first.many ∙ sym last.many in
    c.in-Ok-leave_all.ensures g.J.Run.job g.J.Run.spots
    (subst (AreFounders g.J.Run.job g.J.Run.spots)
    (sym (written new (drop (length new) c.in-Ok.founders.items) c.in-Ok.founders.len long)) last)
