-- Which tasks a run has found to be blocked.
use Rattle.std.specs.Prelude.{◌≡◌, ℕ, ◌==◌, true, List, [], get_or}
use Rattle.std.specs.List.{list_any}
use Rattle.graph_base.specs.Graphs.{task_at}
use Rattle.stream_lists.specs.Jobs.{Job}
use Rattle.graph_runs.specs.Moments.{Moment, input_at}
use Rattle.graph_runs.specs.Nexts as turns
use Rattle.graph_runs.specs.Answers.{answer_of_turn, is_blocked, output_at}

-- the phaser that task t would signal or wait on by what it does next
abbrev pub called_on : Job → ℕ → turns.Next → ℕ
called_on job t turns.samples = output_at job t 0
called_on job t (turns.signals j) = output_at job t j
called_on job t (turns.waits k) = input_at (task_at job.graph t) k
called_on job t turns.exchanges = input_at (task_at job.graph t) 1
called_on job t next = 0

-- task t is live, and its next call, on phaser p, would be blocked
pub record IsBlockedOn (job : Job) (m : Moment) (t p : ℕ) : Type 0 where
  pub live : turns.is_live job m t ≡ true
  pub blocked : answer_of_turn job m t ≡ is_blocked
  pub called : called_on job t (turns.next_of job m t) ≡ p

-- each task in the list of a phaser is blocked there
abbrev pub AreBlocked : Job → Moment → List (List ℕ) → Type 0
AreBlocked job m parked = (p t : ℕ) → list_any (λ u. u == t) (get_or parked p []) ≡ true
    → IsBlockedOn job m t p
