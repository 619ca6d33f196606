-- The inputs of the sources, to which nothing came.
use Rattle.std.proofs.Common.{◌≡◌, ℕ, ◌+◌, ◌<◌, ◌≤◌, true, false, List, [], ◌∷◌, ◌++◌, Some, length, slice_get, refl, sym, ap, subst, ◌∙◌, arith, inl, inr}
use Rattle.std.specs.Prelude.{◌⊎◌}
use Rattle.std.specs.List.{All}
use Rattle.std.proofs.lemmas.List.{length_push, take_all}
use Rattle.std.proofs.lemmas.List.Elements.{All-nil, All-push}
use Rattle.std.proofs.lemmas.List.Sums.{count_by_more_yes, count_by_more_no}
use Rattle.graph_base.specs.Graphs.{no_task, task_at, is_source, source_number, sources_among}
use Rattle.stream_lists.specs.Jobs.{Job}
use Rattle.stream_lists.proofs.Basics.{source_kind, push_found}
use Rattle.stream_job.specs.Streams.{AreInputs, HasInputRoom, IsInputOf, InputKeeps}
use Rattle.stream_job.specs.declared.input.Input.{Input}

-- these are the inputs of the sources among the first n tasks
pub record AreInputsBefore (job : Job) (n : ℕ) (inputs : List Input) : Type 0 where
  pub many : length inputs ≡ source_number job.graph.tasks n
  pub each : (k : ℕ) (input : Input) → slice_get inputs k ≡ Some input → IsInputOf job k input
  pub empty : All (λ input. InputKeeps input 0 []) inputs
  pub opens : All (λ input. input.ended ≡ false) inputs

pub inputs_more : (job : Job) (n : ℕ) (inputs : List Input) (input : Input)
    → AreInputsBefore job n inputs → n < length job.graph.tasks
    → is_source (task_at job.graph n).kind ≡ true → input.task ≡ n → HasInputRoom input
    → InputKeeps input 0 [] → input.ended ≡ false
    → AreInputsBefore job (n + 1) (inputs ++ input ∷ [])
inputs_more job n inputs input before there is task room empty opens = record {
  many = length_push inputs input ∙ ap (λ k. k + 1) before.many
      ∙ sym (count_by_more_yes (λ task. is_source task.kind) job.graph.tasks n no_task there is);
  each = λ k one found. by k one (push_found inputs input one k found);
  empty = All-push (λ one. InputKeeps one 0 []) inputs input before.empty empty;
  opens = All-push (λ one. one.ended ≡ false) inputs input before.opens opens;
}
  where
    by : (k : ℕ) (one : Input)
        → (slice_get inputs k ≡ Some one) ⊎ ((k ≡ length inputs) × (input ≡ one))
        → IsInputOf job k one
    by k one (inl was) = before.each k one was
    by k one (inr last) =
        let own : one.task ≡ n = ap (λ (i : Input). i.task) (sym last.1) ∙ task in
        record {
          there = omega arith;
          kind = ap (λ t. (task_at job.graph t).kind) own
              ∙ source_kind (task_at job.graph n).kind is;
          number = ap (source_number job.graph.tasks) own ∙ sym before.many ∙ sym last.0;
          room = subst HasInputRoom last.1 room;
        }

pub inputs_not : (job : Job) (n : ℕ) (inputs : List Input)
    → AreInputsBefore job n inputs → n < length job.graph.tasks
    → is_source (task_at job.graph n).kind ≡ false → AreInputsBefore job (n + 1) inputs
inputs_not job n inputs before there not = record {
  many = before.many
      ∙ sym (count_by_more_no (λ task. is_source task.kind) job.graph.tasks n no_task there not);
  each = before.each;
  empty = before.empty;
  opens = before.opens;
}

pub inputs_all : (job : Job) (n : ℕ) (inputs : List Input) → AreInputsBefore job n inputs
    → length job.graph.tasks ≤ n → AreInputs job inputs
inputs_all job n inputs before all = record {
  many = before.many ∙ ap sources_among (take_all n job.graph.tasks all);
  each = before.each;
}

pub inputs_none : (job : Job) → AreInputsBefore job 0 []
inputs_none job = record {
  many = refl;
  each = λ k input found. absurd (cc);
  empty = All-nil (λ input. InputKeeps input 0 []);
  opens = All-nil (λ input. input.ended ≡ false);
}
