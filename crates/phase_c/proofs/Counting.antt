-- The counts of the sinks are the lengths of their lists.
use Rattle.std.proofs.Common.{◌≡◌, ◌<◌, ◌≤◌, ◌+◌, ℕ, ℤ, zero, suc, Bool, true, false, List, [], ◌∷◌, ◌++◌, length, map, refl, sym, ap, ◌∙◌, arith}
use Rattle.std.specs.List.{filter, range_with_len}
use Rattle.std.proofs.lemmas.List.{map_push}
use Rattle.graph_base.specs.Graphs.{is_sink, task_at}
use Rattle.graph_base.specs.TaskLines.{IsGraph, HasEnds}
use Rattle.graph_base.specs.declared.line.Kind.{Kind}
use Rattle.graph_base.specs.declared.line.Kind.TheVariants.{Source, Fir, Split, Decimate, Join, Peer, Sink}
use Rattle.stream_lists.specs.Jobs.{Job}
use Rattle.stream_lists.specs.Lists.{is_sink_at, numbers_of, sink_over, sinks_of}
use Rattle.stream_lists.specs.Spans.{schedule_of, span_in}
use Rattle.stream_lists.proofs.Firsts.{filter-skip, filter-take}
use Rattle.stream_lists.proofs.ListLengths.{length-first, takes_one}
use Rattle.stream_lists.proofs.ListsAbove.{first_taken}
use Rattle.phase_c.specs.Evaluations.{counts_of}

sink_takes_one : (kind : Kind) → is_sink kind ≡ true → takes_one kind ≡ true
sink_takes_one Sink e = refl
sink_takes_one Source e = absurd (cc)
sink_takes_one Fir e = refl
sink_takes_one Split e = refl
sink_takes_one Decimate e = refl
sink_takes_one Join e = absurd (cc)
sink_takes_one Peer e = refl

sink_input : (kind : Kind) (inputs outputs : ℕ) → HasEnds kind inputs outputs
    → is_sink kind ≡ true → 0 < inputs
sink_input Sink inputs outputs ends e = omega (arith, ends.0)
sink_input Source inputs outputs ends e = absurd (cc)
sink_input Fir inputs outputs ends e = absurd (cc)
sink_input Split inputs outputs ends e = absurd (cc)
sink_input Decimate inputs outputs ends e = absurd (cc)
sink_input Join inputs outputs ends e = absurd (cc)
sink_input Peer inputs outputs ends e = absurd (cc)

-- the list of a sink, and how long it is
abbrev list_of : Job → ℕ → List ℤ
list_of job t = (sink_over job (schedule_of job) (numbers_of job) t).1

abbrev steps_of : Job → ℕ → ℕ
steps_of job t = (span_in job t).steps

-- it has a value of each step
one_long : (job : Job) (t : ℕ) → IsGraph job.graph → t < length job.graph.tasks
    → is_sink_at job t ≡ true → length (list_of job t) ≡ steps_of job t
one_long job t is there sink =
    let task = task_at job.graph t in
    let some : 0 < length task.inputs = sink_input task.kind _ _ (is.tasks t there).ends sink in
    sym (ap length (first_taken (numbers_of job) task (span_in job t) some))
    ∙ length-first job t is there (sink_takes_one task.kind sink)

-- the sinks among the first n tasks
abbrev sinks_to : Job → ℕ → List ℕ
sinks_to job n = filter (is_sink_at job) (range_with_len 0 n)

-- each of these has
all_long : (job : Job) (n : ℕ) → IsGraph job.graph → n ≤ length job.graph.tasks
    → map (λ t. length (list_of job t)) (sinks_to job n) ≡ map (steps_of job) (sinks_to job n)
all_long job zero is le = refl
all_long job (suc n) is le = by (is_sink_at job n) refl (all_long job n is (omega arith))
  where
    more : suc n ≡ n + 1
    more = omega arith

    by : (b : Bool) → is_sink_at job n ≡ b
        → map (λ t. length (list_of job t)) (sinks_to job n) ≡ map (steps_of job) (sinks_to job n)
        → map (λ t. length (list_of job t)) (sinks_to job (suc n))
        ≡ map (steps_of job) (sinks_to job (suc n))
    by true e before =
        let next : sinks_to job (suc n) ≡ sinks_to job n ++ n ∷ [] =
        ap (sinks_to job) more ∙ filter-take (is_sink_at job) n e in
        ap (map (λ t. length (list_of job t))) next
        ∙ (map_push (λ t. length (list_of job t)) (sinks_to job n) n
        ∙ (ap (λ ns. ns ++ length (list_of job n) ∷ []) before
        ∙ (ap (λ k. map (steps_of job) (sinks_to job n) ++ k ∷ [])
        (one_long job n is (omega arith) e)
        ∙ (sym (map_push (steps_of job) (sinks_to job n) n)
        ∙ ap (map (steps_of job)) (sym next)))))
    by false e before =
        let next : sinks_to job (suc n) ≡ sinks_to job n =
        ap (sinks_to job) more ∙ filter-skip (is_sink_at job) n e in
        ap (map (λ t. length (list_of job t))) next ∙ (before ∙ ap (map (steps_of job)) (sym next))

-- the lengths of the values are those of the lists
of_each : (job : Job) (ts : List ℕ)
    → map length (map (λ line. line.1) (map (sink_over job (schedule_of job) (numbers_of job)) ts))
    ≡ map (λ t. length (list_of job t)) ts
of_each job [] = refl
of_each job (t ∷ ts) = ap (λ ns. length (list_of job t) ∷ ns) (of_each job ts)

-- so many steps as each sink makes are as many values as it has
pub steps_are_counts : (job : Job) → IsGraph job.graph
    → map (λ t. (span_in job t).steps) (sinks_of job) ≡ counts_of job
steps_are_counts job is =
    sym (of_each job (sinks_of job) ∙ all_long job (length job.graph.tasks) is (omega arith))
