-- The kinds whose steps take a value each from their one input: what their wait for several steps
-- may begin.
use Rattle.std.proofs.Common.{◌≡◌, ℕ, ◌+◌, ◌<◌, ◌≤◌, length, sym, subst, ◌∙◌, arith}
use Rattle.graph_base.specs.TaskLines.{IsGraph}
use Rattle.graph_base.specs.Graphs.{task_at}
use Rattle.graph_base.specs.declared.line.Kind.TheVariants.{Source}
use Rattle.stream_lists.specs.Jobs.{Job, samples_at}
use Rattle.stream_lists.specs.Spans.{takes_from}
use Rattle.graph_runs.specs.Moments.{AtMost, HasExchanged, HasSamples, HasTaken, Moment, first_input}
use Rattle.graph_runs.specs.Moves.{IsBlock, MayBeginTo}
use Rattle.graph_runs.specs.Parts.{HasPart}
use Rattle.graph_runs.specs.Places.{HasChildrenBy, IsMost, MayMake}
use Rattle.graph_runs.specs.TaskPlaces.{OwesUpTo, StandsUpTo, TaskPlace, nothing}
use Rattle.graph_runs.proofs.TellsNext.{next_waits_at, owes_as}

-- each step of task t takes a value from its one input, and it is no source and no peer
pub record TakesOne (job : Job) (t : ℕ) : Type 0 where
  pub input : length (task_at job.graph t).inputs ≡ 1
  pub first : (begun : ℕ) → 0 ≡ first_input (task_at job.graph t) begun
  pub block : IsBlock (task_at job.graph t).kind 1
  pub source : (task_at job.graph t).kind ≡ Source → ⊥
  pub exchanged : (j put taken : ℕ) → HasExchanged (task_at job.graph t).kind j put taken
  pub samples : (begun samples : ℕ) → HasSamples (task_at job.graph t).kind begun samples
  pub takes : (begun : ℕ) → takes_from (task_at job.graph t) begun 0 ≡ begun
  pub has_taken : (begun taken : ℕ) → HasTaken (task_at job.graph t) begun 0 taken
      → taken ≡ takes_from (task_at job.graph t) begun 0
  pub taken_is : (begun taken : ℕ) → taken ≡ takes_from (task_at job.graph t) begun 0
      → HasTaken (task_at job.graph t) begun 0 taken

-- it has taken a value for each step that it has begun
pub taken_by : (job : Job) (m : Moment) (t : ℕ) → TakesOne job t → HasPart job m t
    → length (m.taken t 0) ≡ m.begun t
taken_by job m t one part =
    let few : 0 < length (task_at job.graph t).inputs = omega (arith, one.input) in
    one.has_taken (m.begun t) (length (m.taken t 0)) (part.ran.takes 0 few)
    ∙ one.takes (m.begun t)

-- where it owed nothing it may begin so many steps
pub block_may_begin : (job : Job) (m : Moment) (t most steps : ℕ) (at : TaskPlace)
    → IsGraph job.graph → t < length job.graph.tasks → HasPart job m t → TakesOne job t
    → StandsUpTo most job m t at → at.left ≡ 0 → at.owed ≡ nothing → MayMake job t at.begun 1
    → MayMake job t at.begun steps → HasChildrenBy job m t at.begun
    → MayBeginTo job m t (m.begun t + steps)
block_may_begin job m t most steps at is there part takes stands none owed_is one may kids = record {
  taken = first.taken;
  cut = subst (λ b. AtMost (b + steps) (task_at job.graph t).until) (sym stands.begun) may.cut;
  samples = takes.samples (m.begun t + steps) (length (samples_at job t));
  children = λ p c n u there_c e same on none_c line.
      (let early : m.begun t + 1 ≤ u.at =
      first.children p c n u there_c e same on none_c line in
      let begun : m.begun t ≡ at.begun = stands.begun in
      let late : at.begun + steps ≤ u.at =
      may.children c u there_c e same (omega arith) in omega arith);
}
  where
    able : IsMost job t 1
    able = record { some = omega arith; block = takes.block }

    single : StandsUpTo 1 job m t at
    single = record {
      few = stands.few;
      few_left = stands.few_left;
      numbered = stands.numbered;
      leaves = stands.leaves;
      begun = stands.begun;
      owes =
          subst (λ o. OwesUpTo 1 job m t o) (sym owed_is)
          (owes_as job m t at nothing stands owed_is);
      lacks = stands.lacks;
    }

    first : MayBeginTo job m t (m.begun t + 1)
    first =
        (next_waits_at job m t 1 1 1 at is there part able single none owed_is takes.source one
        kids (omega arith) (omega arith) (omega arith)).may_begin
