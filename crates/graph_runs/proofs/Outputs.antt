-- The phaser of an output, and what a filter owes there.
use Rattle.std.proofs.Common.{◌≡◌, ℕ, ◌<◌, List, ℤ, [], ◌∷◌, ◌++◌, length, map, sym, ap, ◌∙◌, inl}
use Rattle.std.specs.Prelude.{Result}
use Rattle.stream_filters.specs.declared.fault.TooBigValue.{TooBigValue}
use Rattle.stream_filters.specs.Range.{ranged}
use Rattle.stream_filters.specs.Filter.{output_after}
use Rattle.stream_filters.proofs.Outputs.{outputs_of_block-one}
use Rattle.graph_base.specs.declared.line.Kind.TheVariants.{Fir}
use Rattle.graph_runs.specs.TaskPlaces as turns
use Rattle.graph_base.specs.Graphs.{Task, task_at}
use Rattle.graph_base.specs.TaskLines.{IsGraph}
use Rattle.graph_base.specs.Registrations.{signalled_by}
use Rattle.stream_lists.specs.Jobs.{Job}
use Rattle.graph_runs.proofs.OnLines.{on_phaser}
use Rattle.graph_runs.proofs.PlacesLemmas.{place_of_output}
use Rattle.graph_runs.specs.Answers.{output_at}

-- an output is a phaser of the graph
pub output_there : (job : Job) (t j : ℕ) → IsGraph job.graph → t < length job.graph.tasks
    → j < length (signalled_by (task_at job.graph t)) → output_at job t j < length job.graph.phasers
output_there job t j is there few =
    on_phaser job t (output_at job t j) is there
    (inl (j, place_of_output job.graph t (task_at job.graph t) j (is.tasks t there) few))

-- a filter that got one value owes its answer on its output
pub filter_owes : (task : Task) (begun : ℕ) (taken : List ℤ) (x : ℤ) (answer : Result ℤ TooBigValue)
    → task.kind ≡ Fir → answer ≡ ranged (output_after task.taps task.form (taken ++ x ∷ []))
    → turns.values 0 (answer ∷ []) ≡ turns.owed_after_wait task begun taken (x ∷ [])
filter_owes task begun taken x answer kind is =
    rw kind (ap (λ v. turns.values 0 (v ∷ [])) is
    ∙ ap (λ l. turns.values 0 (map ranged l)) (sym (outputs_of_block-one task.taps task.form taken x)))
