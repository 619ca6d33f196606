-- A fault of a job stands on a line of its graph.
use Rattle.std.proofs.Common.{◌≡◌, ◌⊎◌, inl, inr, ◌<◌, ◌≤◌, ℕ, List, true, length, get_or, sym, ap, ◌∙◌, rules, arith}
use Rattle.std.proofs.lemmas.Bool.{cases_lt}
use Rattle.std.proofs.lemmas.List.{get_or_past}
use Rattle.stream_lists.specs.declared.span.Span.{Span}
use Rattle.graph_base.specs.declared.place.Place.TheVariants as place
use Rattle.stream_lists.specs.Jobs.{Job}
use Rattle.stream_lists.specs.Ranges.{Where}
use Rattle.stream_lists.specs.Spans.{length_on, lengths_of, nowhere, span_of, spans_of, spans_over}
use Rattle.stream_lists.proofs.Growing.{length-grown}
use Rattle.graph_runs.specs.Settled.{IsFaultAt, IsPlaceThere}

-- a list that has a value at a place is longer than that
some_there : (ns : List ℕ) (p n : ℕ) → n < get_or ns p 0 → p < length ns
some_there ns p n some = by (cases_lt p (length ns))
  where
    by : (p < length ns) ⊎ (length ns ≤ p) → p < length ns
    by (inl lt) = lt
    by (inr past) = let none : get_or ns p 0 ≡ 0 = get_or_past ns p 0 past in absurd (omega arith)

live_there : (spans : List Span) (t : ℕ) → (get_or spans t nowhere).live ≡ true → t < length spans
live_there spans t live = by (cases_lt t (length spans))
  where
    by : (t < length spans) ⊎ (length spans ≤ t) → t < length spans
    by (inl lt) = lt
    by (inr past) =
        let dead = ap (λ (s : Span). s.live) (get_or_past spans t nowhere past) in
        absurd (let wrong : true ≡ nowhere.live = sym live ∙ dead in search rules)

pub fault_there : (job : Job) (at : Where) → IsFaultAt job at → IsPlaceThere job at
fault_there job (place.Phaser p, n) fault =
    let many = length-grown (λ above q. length_on job.graph (spans_over job above) q)
    (length job.graph.phasers) in
    let there = some_there (lengths_of job) p n fault.0 in
    omega arith
fault_there job (place.Task t, i) fault =
    let many = length-grown (λ above u. span_of job (lengths_of job) above u)
    (length job.graph.tasks) in
    let there = live_there (spans_of job) t fault.3 in
    omega arith
