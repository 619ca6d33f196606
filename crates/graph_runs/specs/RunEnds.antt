-- The end of a run: what the tasks and the founders know, each by itself, and one history a phaser
-- that all of theirs begin.
use Rattle.std.specs.Prelude.{◌≡◌, ◌≢◌, ℕ, ◌<◌, ◌≤◌, ℤ, List, [], ◌∷◌, length, map, get_or, slice_get, Option, Some, None, Ok, Bool, true, ◌⊎◌}
use Rattle.phase_history.specs.Histories.{History}
use Rattle.phase_history.specs.Legal.{IsLegal}
use Rattle.phase_history.specs.Others.{OthersCame}
use Rattle.phase_base.specs.Lists.{is_in}
use Rattle.graph_base.specs.declared.line.Parent.{Parent}
use Rattle.graph_base.specs.Graphs.{task_at}
use Rattle.stream_lists.specs.Jobs.{Job, with_starts}
use Rattle.stream_lists.specs.Lists.{sinks_of, start_in}
use Rattle.stream_lists.specs.Ranges.{answer_of}
use Rattle.stream_lists.specs.Spans.{lengths_of}
use Rattle.graph_runs.specs.Moments.{Moment, limits_at}
use Rattle.graph_runs.specs.Nexts.{registrations_at}
use Rattle.graph_runs.specs.TaskPlaces.{registration_at}
use Rattle.graph_runs.specs.TaskEnds.{TaskEnd, HasLeftAt, FounderEnd, HasFoundedAndLeft}

-- the end of each task, in the order of the lines; of one that never came there is none
abbrev pub Ends : Type 0
Ends = List (Option TaskEnd)

-- task t came, and this is its end
abbrev pub HasCome : Ends → ℕ → TaskEnd → Type 0
HasCome ends t end = slice_get ends t ≡ Some (Some end)

-- registration i of task t, which came, is on phaser p: its number there, and what it has seen
pub record IsRegisteredOn (job : Job) (ends : Ends) (t i p n : ℕ) (seen : History) : Type 0 where
  pub end : TaskEnd
  pub came : HasCome ends t end
  pub few : i < length (registrations_at job t)
  pub phaser : (registration_at job t i).phaser ≡ p
  pub number : slice_get end.numbers i ≡ Some n
  pub saw : slice_get end.seen i ≡ Some seen

-- one history of phaser p: it begins with what its founder and each task has seen, and has no later
-- event of theirs; their numbers are their own; and the founder gave numbers to tasks that came
pub record HasWholeRun (job : Job) (ends : Ends) (p : ℕ) (founder : FounderEnd) (whole : History)
    : Type 0 where
  pub legal : IsLegal (limits_at job p) whole
  pub founds : HasFoundedAndLeft founder
  pub founder_came : OthersCame (founder.number ∷ []) founder.seen whole
  pub tasks_came : (t i n : ℕ) (seen : History) → IsRegisteredOn job ends t i p n seen
      → OthersCame (n ∷ []) seen whole
  pub not_founder : (t i n : ℕ) (seen : History) → IsRegisteredOn job ends t i p n seen
      → n ≢ founder.number
  pub distinct : (t u i j n : ℕ) (seen other : History) → IsRegisteredOn job ends t i p n seen
      → IsRegisteredOn job ends u j p n other → t ≡ u
  pub gave : (a : ℕ) → is_in a founder.gave ≡ true
      → (t : ℕ) × (i : ℕ) × (seen : History) × IsRegisteredOn job ends t i p a seen

-- the run is over: each task that came knows its end, each phaser has its history, and what they
-- say of one another agrees
pub record IsRunEnd (job : Job) (ends : Ends) : Type 0 where
  pub tasks : (t : ℕ) (end : TaskEnd) → HasCome ends t end
      → (end.task ≡ t) × (t < length job.graph.tasks) × ((m : Moment) × HasLeftAt job m end)
  pub phasers : (p : ℕ) → p < length job.graph.phasers
      → (founder : FounderEnd) × (whole : History) × HasWholeRun job ends p founder whole
  -- each task without a parent came
  pub roots : (t : ℕ) → t < length job.graph.tasks → (task_at job.graph t).parent ≡ None
      → (end : TaskEnd) × HasCome ends t end
  -- of each that came the parent did, and has begun the steps after which it comes
  pub parents : (c : ℕ) (u : Parent) (end : TaskEnd) → HasCome ends c end
      → (task_at job.graph c).parent ≡ Some u
      → (other : TaskEnd) × HasCome ends u.task other × (u.at ≤ other.begun)
  -- and each to which its parent gave numbers came, and has just these
  pub children : (c : ℕ) (u : Parent) (end : TaskEnd) → c < length job.graph.tasks
      → (task_at job.graph c).parent ≡ Some u → HasCome ends u.task end
      → (end.given c ≡ [])
      ⊎ ((other : TaskEnd) × HasCome ends c other × (other.numbers ≡ end.given c))

-- what a task has taken, and nothing where it never came
abbrev pub lines_in : Option (Option TaskEnd) → List ℤ
lines_in None = []
lines_in (Some None) = []
lines_in (Some (Some end)) = end.lines

-- the phase at which a task began that came and joins now
abbrev pub start_in_end : Bool → Option (Option TaskEnd) → Option ℕ
start_in_end true (Some (Some end)) = Some end.start
start_in_end joins_now end = None

-- the answer of the job for these starts is what its sinks have taken, and each sink that joins now
-- began where its span does with them, at most one phase behind the last of its phaser's list
pub record HasAnswer (job : Job) (ends : Ends) : Type 0 where
  pub starts : List ℕ
  pub answer : answer_of (with_starts starts job)
      ≡ Ok (map (λ t. (t, lines_in (slice_get ends t))) (sinks_of job))
  pub began : (t : ℕ) → t < length job.graph.tasks
      → start_in_end (task_at job.graph t).joins_now (slice_get ends t)
      ≡ start_in (with_starts starts job) t
  pub in_time : (t start : ℕ) → t < length job.graph.tasks
      → start_in (with_starts starts job) t ≡ Some start
      → start ≤ get_or (lengths_of job) (get_or (task_at job.graph t).inputs 0 0) 0
