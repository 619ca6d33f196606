-- Where a task stands and what it does next stay with other samples, but for a source that was starved
-- and has samples now.
use Rattle.std.proofs.Common.{◌≡◌, ℕ, ℤ, cond, List, Option, Some, None, length, map, take, drop, refl, ap, ◌∙◌}
use Rattle.std.specs.Prelude.{nat_le, nat_lt, ◌||◌}
use Rattle.std.specs.List.{range_with_len}
use Rattle.graph_base.specs.Graphs.{task_at}
use Rattle.graph_base.specs.declared.line.Kind.{Kind}
use Rattle.graph_base.specs.declared.line.Kind.TheVariants.{Source, Fir, Split, Decimate, Join, Peer, Sink}
use Rattle.stream_filters.specs.Range.{ranged}
use Rattle.stream_lists.specs.Jobs.{Job, samples_at, samples_in, with_samples}
use Rattle.stream_lists.specs.Spans.{signalled_by}
use Rattle.stream_lists.proofs.Basics.{find-same}
use Rattle.graph_runs.specs.Moments.{Moment}
use Rattle.graph_runs.specs.Nexts.{is_not_live, leaves, next_step, is_owed, first_owed, is_live, of_live, first_due, at_boundary, has_input_ended, is_cut, next_of}
use Rattle.graph_runs.specs.TaskPlaces.{Owed, nothing, values, exchange, OwesUpTo, TaskPlace, StandsUpTo}
use Rattle.graph_runs.specs.Feeds.{MayHaveRun}
use Rattle.graph_runs.proofs.FedRuns.{made_fed}

-- of a source alone
abbrev pub MayBe : Job → Moment → List (List ℤ) → ℕ → Type 0
MayBe job m more t = (task_at job.graph t).kind ≡ Source → MayHaveRun job m more t

pub owed_fed : (job : Job) (m : Moment) (more : List (List ℤ)) (t : ℕ) → MayBe job m more t
    → first_owed (with_samples more job) m t ≡ first_owed job m t
owed_fed job m more t may =
    find-same (is_owed (with_samples more job) m t) (is_owed job m t)
    (range_with_len 0 (length (signalled_by (task_at job.graph t))))
    (λ j. ap (λ l. nat_lt (length (m.put t j)) (length l)) (made_fed job m more t j may))

owes_fed : (most : ℕ) (job : Job) (m : Moment) (more : List (List ℤ)) (t : ℕ) (owed : Owed)
    → MayBe job m more t → OwesUpTo most job m t owed → OwesUpTo most (with_samples more job) m t owed
owes_fed most job m more t nothing may owes = owed_fed job m more t may ∙ owes
owes_fed most job m more t (values j vs) may owes = (
  owed_fed job m more t may ∙ owes.0,
  owes.1,
  ap (λ l. map ranged (take most (drop (length (m.put t j)) l))) (made_fed job m more t j may)
      ∙ owes.2,
)
owes_fed most job m more t (exchange x) may owes =
    (owed_fed job m more t may ∙ owes.0, owes.1, owes.2)

pub stands_fed : (most : ℕ) (job : Job) (m : Moment) (more : List (List ℤ)) (t : ℕ)
    (at : TaskPlace) → MayBe job m more t → StandsUpTo most job m t at
    → StandsUpTo most (with_samples more job) m t at
stands_fed most job m more t at may stands = record {
  few = stands.few;
  few_left = stands.few_left;
  numbered = stands.numbered;
  leaves = stands.leaves;
  begun = stands.begun;
  owes = owes_fed most job m more t at.owed may stands.owes;
  lacks = λ j lt. ap length (made_fed job m more t j may) ∙ stands.lacks j lt;
}

-- the source is as starved as it was
abbrev pub StaysStarved : Job → Moment → List (List ℤ) → ℕ → Type 0
StaysStarved job m more t = (task_at job.graph t).kind ≡ Source
    → nat_le (length (samples_in job more t)) (m.begun t)
    ≡ nat_le (length (samples_at job t)) (m.begun t)

pub next_fed : (job : Job) (m : Moment) (more : List (List ℤ)) (t : ℕ) → MayBe job m more t
    → StaysStarved job m more t → next_of (with_samples more job) m t ≡ next_of job m t
next_fed job m more t may stays =
    ap (λ o. cond (is_live job m t) (of_live (with_samples more job) m t o) is_not_live)
    (owed_fed job m more t may)
    ∙ ap (λ n. cond (is_live job m t) n is_not_live) (by_owed_at (boundary (ended_by (task_at job.graph t).kind stays)) (first_owed job m t))
  where
    ended_by : (kind : Kind) → (kind ≡ Source → nat_le (length (samples_in job more t)) (m.begun t)
        ≡ nat_le (length (samples_at job t)) (m.begun t))
        → has_input_ended (with_samples more job) m t kind ≡ has_input_ended job m t kind
    ended_by Source same = same refl
    ended_by Fir same = refl
    ended_by Split same = refl
    ended_by Decimate same = refl
    ended_by Join same = refl
    ended_by Peer same = refl
    ended_by Sink same = refl

    boundary : has_input_ended (with_samples more job) m t (task_at job.graph t).kind
        ≡ has_input_ended job m t (task_at job.graph t).kind → (o : Option ℕ)
        → at_boundary (with_samples more job) m t o ≡ at_boundary job m t o
    boundary same (Some c) = refl
    boundary same None =
        ap (λ b. cond (is_cut (task_at job.graph t).until (m.begun t) || b) leaves
        (next_step (task_at job.graph t) (m.begun t) (task_at job.graph t).kind)) same

    by_owed_at : ((o : Option ℕ) → at_boundary (with_samples more job) m t o
        ≡ at_boundary job m t o) → (o : Option ℕ)
        → of_live (with_samples more job) m t o ≡ of_live job m t o
    by_owed_at at (Some j) = refl
    by_owed_at at None = at (first_due job m t)
