-- Sizes of a turn that are smaller.
use Rattle.std.proofs.Common.{◌≡◌, ℕ, List, ◌≤◌, false, [], ◌∷◌, ◌-◌, length, get_or, refl, ap, ◌∙◌, arith, cond, Bool, true, eqb, ◌&&◌}
use Rattle.std.specs.Prelude.{Option, Some, None, min, nat_lt}
use Rattle.std.specs.List.{All, fold, range_with_len}
use Rattle.graph_base.specs.declared.line.Parent.{Parent}
use Rattle.graph_base.specs.Graphs.{Graph, phaser_at, task_at}
use Rattle.graph_base.specs.TaskLines.{HasBlock}
use Rattle.stream_lists.specs.Jobs.{Job}
use Rattle.graph_runs.specs.Moments.{Moment}
use Rattle.graph_runs.specs.NextBlocks.{MaySize, block_up_to, child_allows, until_allows, with_block}
use Rattle.stream_job.specs.Machines.{most_in}
use Rattle.stream_job.specs.Stepping.{MayStep}
use Rattle.stream_job.specs.declared.machine.Machine.{Machine}

bounds_more : (graph : Graph) (a b : ℕ) (ps : List ℕ) → b ≤ a
    → All (λ p. a ≤ (phaser_at graph p).bound) ps → All (λ p. b ≤ (phaser_at graph p).bound) ps
bounds_more graph a b ps le all = λ k d lt.
    (let first : a ≤ (phaser_at graph (get_or ps k d)).bound = all k d lt in omega arith)

-- a smaller block
pub smaller_block : (graph : Graph) (t a b : ℕ) → 1 ≤ b → b ≤ a
    → HasBlock graph (with_block a (task_at graph t)) → HasBlock graph (with_block b (task_at graph t))
smaller_block graph t a b some le has = record {
  some = some;
  kind = λ none. (let one : a ≡ 1 = has.kind none in omega arith);
  inputs = bounds_more graph a b (task_at graph t).inputs le has.inputs;
  outputs = bounds_more graph a b (task_at graph t).outputs le has.outputs;
}

-- a signal of fewer of the values that are owed
pub fewer_owed : {steps : ℕ} (job : Job) (machine : Machine) (t n : ℕ) → 1 ≤ n
    → n ≤ most_in machine t → MayStep job machine t steps → MaySize job.graph t 1 n
fewer_owed {steps} job machine t n some few sized there =
    let s = sized there in
    let one : 1 ≤ steps = s.block.some in
    record {
      block = smaller_block job.graph t steps 1 (omega arith) one s.block;
      owed = smaller_block job.graph t (most_in machine t) n some few s.owed;
      few = λ fir. some;
    }

-- fewer steps
pub fewer_steps : {steps : ℕ} (job : Job) (machine : Machine) (t n : ℕ) → 1 ≤ n → n ≤ steps
    → MayStep job machine t steps → MayStep job machine t n
fewer_steps {steps} job machine t n some few sized there =
    let s = sized there in
    record {
      block = smaller_block job.graph t steps n some few s.block;
      owed = s.owed;
      few = λ fir. (let le : steps ≤ most_in machine t = s.few fir in omega arith);
    }

-- ---- a block of fewer steps

until_fewer : (until : Option ℕ) (begun a b : ℕ) → b ≤ until_allows until begun a
    → until_allows until begun b ≡ b
until_fewer None begun a b le = refl
until_fewer (Some until) begun a b le = omega arith

child_fewer : (t begun : ℕ) (parent : Option Parent) (a b : ℕ)
    → b ≤ child_allows t begun parent a → (b ≤ a) × (child_allows t begun parent b ≡ b)
child_fewer t begun None a b le = (le, refl)
child_fewer t begun (Some parent) a b le =
    by (eqb parent.task t && nat_lt begun parent.at) le
  where
    by : (c : Bool) → b ≤ cond c (min a (parent.at - begun)) a
        → (b ≤ a) × (cond c (min b (parent.at - begun)) b ≡ b)
    by true le = (omega arith, omega arith)
    by false le = (le, refl)

children_fewer : (job : Job) (m : Moment) (t : ℕ) (cs : List ℕ) (a b : ℕ)
    → b ≤ fold (λ s c. child_allows t (m.begun t) (task_at job.graph c).parent s) a cs
    → (b ≤ a) × (fold (λ s c. child_allows t (m.begun t) (task_at job.graph c).parent s) b cs ≡ b)
children_fewer job m t [] a b le = (le, refl)
children_fewer job m t (c ∷ cs) a b le =
    let parent = (task_at job.graph c).parent in
    let rest = children_fewer job m t cs (child_allows t (m.begun t) parent a) b le in
    let here = child_fewer t (m.begun t) parent a b rest.0 in (
      here.0,
      ap (λ n. fold (λ s c. child_allows t (m.begun t) (task_at job.graph c).parent s) n cs) here.1
          ∙ rest.1,
    )

-- no more than a block of so many steps has are a block of so many
pub block_fewer : (job : Job) (m : Moment) (t a b : ℕ) → b ≤ block_up_to a job m t
    → block_up_to b job m t ≡ b
block_fewer job m t a b le =
    let cs = range_with_len 0 (length job.graph.tasks) in
    let all = children_fewer job m t cs (until_allows (task_at job.graph t).until (m.begun t) a) b le in
    ap (λ n. fold (λ s c. child_allows t (m.begun t) (task_at job.graph c).parent s) n cs)
    (until_fewer (task_at job.graph t).until (m.begun t) a b all.0) ∙ all.1
