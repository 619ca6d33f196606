-- The sources of a job, whose files are still to be opened.
use Rattle.std.proofs.Common.{◌≡◌, ◌<◌, ◌+◌, ℕ, true, false, List, [], ◌∷◌, ◌++◌, Option, Some, length, slice_get, refl, sym, ap, subst, ◌∙◌, arith, inl, inr}
use Rattle.std.specs.Prelude.{◌⊎◌}
use Rattle.std.proofs.lemmas.List.{length_push}
use Rattle.std.proofs.lemmas.List.Sums.{count_by_more_yes, count_by_more_no}
use Rattle.graph_commands.specs.FileJobs.{Known}
use Rattle.stream_job.specs.Streams.{IsSourceAt}
use Rattle.graph_base.specs.Graphs.{is_source, no_task, source_number, task_at}
use Rattle.graph_base.specs.declared.Kind.{Kind}
use Rattle.graph_base.specs.declared.Kind.TheVariants.{Decimate, Fir, Join, Peer, Sink, Source as SourceKind, Split}
use Rattle.stream_lists.specs.Jobs.{Job}
use Rattle.stream_lists.proofs.Basics.{push_found}
use Rattle.phase_stream.specs.Sources.{AreUnopened, IsSource}
use Rattle.phase_stream.specs.declared.source.Source.{Source}

-- these are the sources among the first n tasks, and no sample came of a file
pub record AreUnopenedBefore {R : Type 0} (remaining : R → Option (List ℕ)) (job : Job) (n : ℕ)
    (sources : List (Source R)) : Type 0 where
  pub many : length sources ≡ source_number job.graph.tasks n
  pub task : (k : ℕ) (source : Source R) → slice_get sources k ≡ Some source
      → IsSourceAt job source.task k
  pub fresh : (k : ℕ) (source : Source R) → slice_get sources k ≡ Some source
      → (known : Option (List ℕ)) → IsSource remaining known [] source

kind_is : (kind : Kind) → is_source kind ≡ true → kind ≡ SourceKind
kind_is SourceKind e = refl
kind_is Fir e = absurd (cc)
kind_is Split e = absurd (cc)
kind_is Decimate e = absurd (cc)
kind_is Join e = absurd (cc)
kind_is Peer e = absurd (cc)
kind_is Sink e = absurd (cc)

pub unopened_none : {R : Type 0} (remaining : R → Option (List ℕ)) (job : Job)
    → AreUnopenedBefore remaining job 0 []
unopened_none remaining job = record {
  many = refl;
  task = λ k source found. absurd (cc);
  fresh = λ k source found. absurd (cc);
}

pub unopened_more : {R : Type 0} (remaining : R → Option (List ℕ)) (job : Job) (n : ℕ)
    (sources : List (Source R)) (source : Source R)
    → AreUnopenedBefore remaining job n sources → n < length job.graph.tasks
    → is_source (task_at job.graph n).kind ≡ true → source.task ≡ n
    → ((known : Option (List ℕ)) → IsSource remaining known [] source)
    → AreUnopenedBefore remaining job (n + 1) (sources ++ source ∷ [])
unopened_more {R} remaining job n sources source before there is task fresh = record {
  many = length_push sources source ∙ ap (λ k. k + 1) before.many
      ∙ sym (count_by_more_yes (λ task. is_source task.kind) job.graph.tasks n no_task there is);
  task = λ k one found. at k one (push_found sources source one k found);
  fresh = λ k one found. of k one (push_found sources source one k found);
}
  where
    at : (k : ℕ) (one : Source R)
        → (slice_get sources k ≡ Some one) ⊎ ((k ≡ length sources) × (source ≡ one))
        → IsSourceAt job one.task k
    at k one (inl was) = before.task k one was
    at k one (inr last) =
        let own : one.task ≡ n = ap (λ (s : Source R). s.task) (sym last.1) ∙ task in
        record {
          there = omega arith;
          kind = ap (λ t. (task_at job.graph t).kind) own
              ∙ kind_is (task_at job.graph n).kind is;
          number = ap (source_number job.graph.tasks) own ∙ sym before.many ∙ sym last.0;
        }

    of : (k : ℕ) (one : Source R)
        → (slice_get sources k ≡ Some one) ⊎ ((k ≡ length sources) × (source ≡ one))
        → (known : Option (List ℕ)) → IsSource remaining known [] one
    of k one (inl was) = before.fresh k one was
    of k one (inr last) = λ known. subst (λ s. IsSource remaining known [] s) last.1 (fresh known)

pub unopened_not : {R : Type 0} (remaining : R → Option (List ℕ)) (job : Job) (n : ℕ)
    (sources : List (Source R)) → AreUnopenedBefore remaining job n sources
    → n < length job.graph.tasks → is_source (task_at job.graph n).kind ≡ false
    → AreUnopenedBefore remaining job (n + 1) sources
unopened_not remaining job n sources before there not = record {
  many = before.many
      ∙ sym (count_by_more_no (λ task. is_source task.kind) job.graph.tasks n no_task there not);
  task = before.task;
  fresh = before.fresh;
}

pub unopened_all : {R : Type 0} (remaining : R → Option (List ℕ)) (held : Known) (job : Job)
    (n : ℕ) (sources : List (Source R)) → AreUnopenedBefore remaining job n sources
    → AreUnopened remaining held job sources
unopened_all remaining held job n sources before = λ k source found.
    (before.task k source found, before.fresh k source found _)
