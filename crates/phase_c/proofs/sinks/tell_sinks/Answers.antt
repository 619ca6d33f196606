use Rattle.std.proofs.Common.{◌≡◌, ℕ, ℤ, true, map, ap, subst, ◌∙◌, rules}
use Rattle.graph_base.specs.TaskLines.{IsGraph}
use Rattle.stream_lists.specs.Lists.{sinks_of, start_in}
use Rattle.stream_lists.specs.Spans.{span_in}
use Rattle.phase_c.specs.Evaluations.{start_number}
use Rattle.phase_c.specs.Lent.{sinks_in}
use Rattle.phase_c.proofs.Counting.{steps_are_counts}
use Rattle.phase_c.proofs.sinks.tell_sinks.Goals as goal

-- so many steps as each sink makes are as many values as it has
pub returns-clause-told : goal.returns-clause-told
returns-clause-told c is =
    let job = c.args.job.now in
    let steps : ℕ → ℕ = λ t. (span_in job t).steps in
    let start : ℕ → ℤ = λ t. start_number (start_in job t) in
    let sinks : c.in-Ok.sinks.items ≡ sinks_of job =
    c.in-Ok.ensures.sinks ∙ ap sinks_in c.graph.ensures.graph in
    let counted : c.write_counts.result ≡ true = search rules in
    record {
      counts_are = c.write_counts.ensures counted
          ∙ (ap (map steps) (c.deref.ensures.value ∙ sinks)
          ∙ steps_are_counts job (subst IsGraph c.graph.ensures.graph c.in-Ok.ensures.graph));
      starts_are = c.write_starts.ensures is ∙ ap (map start) (c.deref-2.ensures.value ∙ sinks);
    }
