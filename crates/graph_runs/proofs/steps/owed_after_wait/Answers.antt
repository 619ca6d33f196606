-- What a filter answers is what it owes.
use Rattle.std.proofs.Common.{◌∷◌, ◌++◌, [], ap, subst, sym, ◌∙◌, to_z-of_z}
use Rattle.graph_base.specs.Graphs.{task_at}
use Rattle.stream_filters.specs.Filter.{output_after}
use Rattle.stream_filters.specs.Range.{ranged}
use Rattle.graph_runs.specs.Steps.{HasFilter}
use Rattle.graph_runs.proofs.Outputs.{filter_owes}
use Rattle.graph_runs.proofs.steps.owed_after_wait.Goals as goal

pub returns-in-Fir-clause-owed : goal.returns-in-Fir-clause-owed
returns-in-Fir-clause-owed c = λ taken has.
    filter_owes (task_at c.args.job.now.graph c.args.t) c.args.begun taken c.args.x
    c.filtered.result (sym c.kind_of.ensures ∙ c.in-Fir.is)
    (c.filtered.ensures.answer taken has
    ∙ ap (λ y. ranged (output_after (task_at c.args.job.now.graph c.args.t).taps
    (task_at c.args.job.now.graph c.args.t).form (taken ++ y ∷ []))) (to_z-of_z c.ranges.x))

pub returns-in-Fir-clause-filter : goal.returns-in-Fir-clause-filter
returns-in-Fir-clause-filter c = λ taken has.
    subst (λ y. HasFilter (task_at c.args.job.now.graph c.args.t) c.filtered.new.filter
    (taken ++ y ∷ [])) (to_z-of_z c.ranges.x) (c.filtered.ensures.filter taken has)
