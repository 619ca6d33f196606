-- The moment at which a run begins: on each phaser its founder, number 0, has registered the tasks
-- without a parent in the order of their lines, each as the number above all others, and has left.
use Rattle.std.specs.Prelude.{ℕ, zero, suc, ◌+◌, ◌==◌, List, [], ◌∷◌, ◌++◌, length, get_or, Option, Some, None, option_map}
use Rattle.std.specs.List.{find, fold, range_with_len}
use Rattle.phase_base.specs.declared.mode.Mode.{Mode}
use Rattle.phase_history.specs.declared.event.Event.TheVariants.{Made, Registered, Dropped}
use Rattle.phase_history.specs.Histories.{History, greatest_used}
use Rattle.graph_base.specs.declared.line.Parent.{Parent}
use Rattle.graph_base.specs.Graphs.{task_at}
use Rattle.stream_lists.specs.Jobs.{Job}
use Rattle.graph_runs.specs.Moments.{Moment}
use Rattle.graph_runs.specs.Nexts.{registrations_at}

-- the mode in which task t is registered on phaser p, where p stands on its line
abbrev pub mode_on : Job → ℕ → ℕ → Option Mode
mode_on job t p = option_map (λ r. r.mode) (find (λ r. r.phaser == p) (registrations_at job t))

-- the same of a task without a parent. A child is registered later, by its parent
abbrev pub root_mode : Job → ℕ → ℕ → Option Mode
root_mode job t p = of (task_at job.graph t).parent
  where
    of : Option Parent → Option Mode
    of None = mode_on job t p
    of (Some parent) = None

-- ---- histories and numbers

-- the number of a task that joins after this history, where it joins
abbrev pub number_after_founder : History → Option Mode → Option ℕ
number_after_founder h None = None
number_after_founder h (Some mode) = Some (greatest_used h + 1)

-- the history with it
abbrev pub with_root : History → Option Mode → History
with_root h None = h
with_root h (Some mode) = Registered 0 (greatest_used h + 1) mode ∷ h

-- the history of phaser p with those of the first n tasks that its founder registers
abbrev pub roots_joined : Job → ℕ → ℕ → History
roots_joined job p zero = Made 0 ∷ []
roots_joined job p (suc t) = with_root (roots_joined job p t) (root_mode job t p)

-- the number of task t on phaser p
abbrev pub root_number : Job → ℕ → ℕ → Option ℕ
root_number job p t = number_after_founder (roots_joined job p t) (root_mode job t p)

-- ---- offsets

-- the phase at which a task begins, by those of the tasks above it
abbrev pub offset_below : List ℕ → Option Parent → ℕ
offset_below above None = 0
offset_below above (Some parent) = get_or above parent.task 0 + parent.at

-- the phase at which each task begins
abbrev pub opening_offsets : Job → List ℕ
opening_offsets job =
    fold (λ above t. above ++ offset_below above (task_at job.graph t).parent ∷ [])
    [] (range_with_len 0 (length job.graph.tasks))

-- ---- the moment

-- the opening of a run: nothing has been begun, taken or put
abbrev pub opening : Job → Moment
opening job = record {
  history = λ p. Dropped 0 ∷ roots_joined job p (length job.graph.tasks);
  number = root_number job;
  offset = λ t. get_or (opening_offsets job) t 0;
  begun = λ t. 0;
  taken = λ t k. [];
  put = λ t j. [];
}
