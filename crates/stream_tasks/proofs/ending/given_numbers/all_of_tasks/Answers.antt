-- One phaser's more are tasks'.
use Rattle.std.proofs.Common.{◌≡◌, ℕ, [], map, get_or, sym, ap, ◌∙◌, arith}
use Rattle.std.proofs.lemmas.List.{get_or-map}
use Rattle.stream_tasks.specs.Agreeing.{AreOfTasks}
use Rattle.stream_tasks.proofs.Agreed.{below_next}
use Rattle.stream_tasks.proofs.ending.given_numbers.all_of_tasks.Goals as goal

pub loop-p-preserved : goal.loop-p-preserved
loop-p-preserved c =
    let job = c.args.job.now in
    let p : ℕ = c.loop-p.p in
    let at : get_or (map (λ g. g.items) c.args.gave.now) p [] ≡ c.deref.result.now =
    get_or-map (λ g. g.items) c.args.gave.now p c.index-gave-p.result [] (omega (arith, c.loop-p-test.true))
    ∙ (ap (λ g. g.items) (sym c.index-gave-p.is) ∙ sym c.deref.ensures.value) in
    below_next (λ q. AreOfTasks job c.args.parts.now q (get_or (map (λ g. g.items) c.args.gave.now) q []))
    p c.loop-p.invariant (rw at (c.are_of_tasks.ensures c.if-not-are_of_tasks.false))
