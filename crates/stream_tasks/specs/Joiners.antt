-- A joiner that takes values one by one, or a share of each input at once, and puts them by blocks.
use Rattle.std.specs.Prelude.{◌≡◌, ℕ, ◌+◌, ◌*◌, ◌<◌, ◌≤◌, ℤ, List, length, map, take, drop, get_or, false}
use Rattle.std.specs.List.{range_with_len}
use Rattle.graph_base.specs.Graphs.{task_at}
use Rattle.graph_base.specs.declared.line.Kind.TheVariants.{Join}
use Rattle.phase_accum.specs.declared.outcome.Outcome.{Outcome}
use Rattle.graph_runs.specs.Moments.{AtMost, first_input}
use Rattle.graph_runs.specs.Nexts.{is_cut}
use Rattle.stream_lists.specs.Jobs.{Job}
use Rattle.stream_lists.specs.Lists.{number}
use Rattle.stream_members.specs.Members.{Spot}
use Rattle.stream_tasks.specs.Holds.{HoldGoesOn, MemberHasWaited}
use Rattle.stream_tasks.specs.Tasks.{IsTask}
use Rattle.stream_tasks.specs.declared.hold.Hold.{Hold}
use Rattle.stream_tasks.specs.declared.hold.Hold.TheVariants.{Gone}
use Rattle.stream_tasks.specs.declared.task_state.TaskState.{TaskState}

-- ---- one value

-- a joiner that may take the value of its next step, whatever it has taken and not put: `until`
-- allows the step, and there is room for the value
pub record MayTakeNext (job : Job) (s : TaskState) : Type 0 where
  pub spots : ℕ → Spot
  pub task : IsTask job spots s
  pub met : s.met ≡ false
  pub over : s.over ≡ false
  pub kind : (task_at job.graph s.number).kind ≡ Join
  pub uncut : is_cut (task_at job.graph s.number).until s.begun ≡ false
  pub room : length s.made.items < s.most

-- ---- a block

-- a joiner may take so many values from each of its inputs, as far as its line and its places say:
-- its next step is its first input's, `until` allows all the steps, and there is room for them
pub record MayTakeShares (job : Job) (s : TaskState) (each : ℕ) : Type 0 where
  pub some : 1 ≤ each
  pub first : first_input (task_at job.graph s.number) s.begun ≡ 0
  pub cut : AtMost (s.begun + length (task_at job.graph s.number).inputs * each)
      (task_at job.graph s.number).until
  pub room : length (task_at job.graph s.number).inputs * each ≤ s.most

-- share number k of these outcomes, which are shares of so many, one behind the other
abbrev pub share_at : ℕ → ℕ → List Outcome → List Outcome
share_at each k outcomes = take each (drop (k * each) outcomes)

-- the numbers of so many shares
abbrev pub shares_in : ℕ → ℕ → List Outcome → List (List ℤ)
shares_in inputs each outcomes =
    map (λ k. map number (share_at each k outcomes)) (range_with_len 0 inputs)

-- each of the first so many of these holds has waited, and was answered its share of these
-- outcomes; the others are as they were
pub record HaveGiven (inputs each : ℕ) (old new : List Hold) (outcomes : List Outcome) : Type
    0 where
  pub given : (k : ℕ) → k < inputs
      → HoldGoesOn (MemberHasWaited (share_at each k outcomes)) (get_or old k Gone)
      (get_or new k Gone)
  pub others : (k : ℕ) → inputs ≤ k → get_or new k Gone ≡ get_or old k Gone
