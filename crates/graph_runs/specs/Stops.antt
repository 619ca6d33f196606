-- What tasks know that are stopped wherever they stand, and what of it is right whatever comes.
use Rattle.std.specs.Prelude.{◌≡◌, ◌≢◌, ℕ, ◌<◌, ◌≤◌, ℤ, List, [], ◌∷◌, length, slice_get, Bool, Some, None, true, false, ◌⊎◌}
use mathlib.Core.List.{IsPrefix}
use Rattle.phase_history.specs.Histories.{History, has_dropped}
use Rattle.phase_history.specs.Legal.{IsLegal}
use Rattle.phase_history.specs.Others.{OthersCame}
use Rattle.phase_base.specs.Lists.{is_in}
use Rattle.graph_base.specs.declared.line.Kind.TheVariants.{Sink, Source}
use Rattle.graph_base.specs.declared.line.Parent.{Parent}
use Rattle.graph_base.specs.Graphs.{task_at}
use Rattle.stream_lists.specs.Jobs.{Job, samples_in, with_samples, with_starts}
use Rattle.stream_lists.specs.Lists.{numbers_of, taken_from}
use Rattle.stream_lists.specs.Spans.{span_in}
use Rattle.graph_runs.specs.Moments.{Moment, limits_at}
use Rattle.graph_runs.specs.Parts.{HasPart}
use Rattle.graph_runs.specs.Nexts.{registrations_at}
use Rattle.graph_runs.specs.TaskPlaces.{registration_at}
use Rattle.graph_runs.specs.TaskEnds.{TaskEnd, IsChildOf, HasOwnCalls, HasNumbers, HasFounded, FounderEnd}
use Rattle.graph_runs.specs.RunEnds.{Ends, HasCome, IsRegisteredOn, lines_in}

-- at this moment of its own a task stands somewhere, and knows this. It has left all of its
-- phasers, some, or none
pub record HasStoppedAt (job : Job) (m : Moment) (end : TaskEnd) : Type 0 where
  pub part : HasPart job m end.task
  pub own : HasOwnCalls job m end.task
  pub begun : m.begun end.task ≡ end.begun
  pub start : (task_at job.graph end.task).joins_now ≡ true → m.offset end.task ≡ end.start
  pub numbered : (i : ℕ) → i < length (registrations_at job end.task)
      → m.number (registration_at job end.task i).phaser end.task ≡ slice_get end.numbers i
  pub whole : length end.numbers ≡ length (registrations_at job end.task)
  pub seen : (i : ℕ) → i < length (registrations_at job end.task)
      → slice_get end.seen i ≡ Some (m.history (registration_at job end.task i).phaser)
  pub lines : (task_at job.graph end.task).kind ≡ Sink → m.taken end.task 0 ≡ end.lines
  pub given : (c : ℕ) → IsChildOf job c end.task → HasNumbers job m c (end.given c)

-- one history of phaser p: it begins with what its founder and each task has seen, and has no later
-- event of theirs; their numbers are their own; and the founder gave numbers to tasks that came
pub record HasRunSoFar (job : Job) (ends : Ends) (p : ℕ) (founder : FounderEnd) (whole : History)
    : Type 0 where
  pub legal : IsLegal (limits_at job p) whole
  pub founds : HasFounded founder.number founder.gave founder.seen
  pub founder_came : OthersCame (founder.number ∷ []) founder.seen whole
  pub tasks_came : (t i n : ℕ) (seen : History) → IsRegisteredOn job ends t i p n seen
      → OthersCame (n ∷ []) seen whole
  pub not_founder : (t i n : ℕ) (seen : History) → IsRegisteredOn job ends t i p n seen
      → n ≢ founder.number
  pub distinct : (t u i j n : ℕ) (seen other : History) → IsRegisteredOn job ends t i p n seen
      → IsRegisteredOn job ends u j p n other → t ≡ u
  pub gave : (a : ℕ) → is_in a founder.gave ≡ true
      → (t : ℕ) × (i : ℕ) × (seen : History) × IsRegisteredOn job ends t i p a seen

-- each phaser has a history, and what the tasks that came say of one another agrees: each task
-- without a parent came; of each other one that came the parent did, and has begun the steps after
-- which it comes; and each to which its parent gave numbers came, and has just these
pub record Agree (job : Job) (ends : Ends) : Type 0 where
  pub phasers : (p : ℕ) → p < length job.graph.phasers
      → (founder : FounderEnd) × (whole : History) × HasRunSoFar job ends p founder whole
  pub roots : (t : ℕ) → t < length job.graph.tasks → (task_at job.graph t).parent ≡ None
      → (end : TaskEnd) × HasCome ends t end
  pub parents : (c : ℕ) (u : Parent) (end : TaskEnd) → HasCome ends c end
      → (task_at job.graph c).parent ≡ Some u
      → (other : TaskEnd) × HasCome ends u.task other × (u.at ≤ other.begun)
  pub children : (c : ℕ) (u : Parent) (end : TaskEnd) → c < length job.graph.tasks
      → (task_at job.graph c).parent ≡ Some u → HasCome ends u.task end
      → (end.given c ≡ [])
      ⊎ ((other : TaskEnd) × HasCome ends c other × (other.numbers ≡ end.given c))

-- a run that is stopped: what each task that came knows of itself, and that it agrees
pub record IsStop (job : Job) (ends : Ends) : Type 0 where
  pub tasks : (t : ℕ) (end : TaskEnd) → HasCome ends t end
      → (end.task ≡ t) × (t < length job.graph.tasks) × ((m : Moment) × HasStoppedAt job m end)
  pub agree : Agree job ends

-- ---- samples that each source has for itself

-- task t stands somewhere in the job with samples of its own, which are these where it is a source
pub record StandsFed (job : Job) (samples : List (List ℤ)) (end : TaskEnd) : Type 0 where
  pub own : List (List ℤ)
  pub same : samples_in job own end.task ≡ samples_in job samples end.task
  pub moment : Moment
  pub stands : HasStoppedAt (with_samples own job) moment end

-- a source that may still get samples has left a phaser only at its `until`
abbrev pub IsStillOpen : Job → (ℕ → Bool) → Ends → Type 0
IsStillOpen job ended ends = (t i p n : ℕ) (end : TaskEnd) (seen : History) → HasCome ends t end
    → (task_at job.graph t).kind ≡ Source → ended t ≡ false → slice_get end.numbers i ≡ Some n
    → i < length (registrations_at job t) → (registration_at job t i).phaser ≡ p
    → slice_get end.seen i ≡ Some seen → has_dropped seen n ≡ true
    → (task_at job.graph t).until ≡ Some end.begun

-- a run that is stopped whose sources were fed, each for itself, these samples so far
pub record IsFedStop (job : Job) (samples : List (List ℤ)) (ended : ℕ → Bool) (ends : Ends)
    : Type 0 where
  pub tasks : (t : ℕ) (end : TaskEnd) → HasCome ends t end
      → (end.task ≡ t) × (t < length job.graph.tasks) × StandsFed job samples end
  pub agree : Agree job ends
  pub open_is : IsStillOpen job ended ends

-- what each sink has taken begins its values in the run with these samples, for some starts of
-- those that join now
pub record IsRightFor (job : Job) (ends : Ends) : Type 0 where
  pub starts : List ℕ
  pub right : (t : ℕ) → t < length job.graph.tasks → (task_at job.graph t).kind ≡ Sink
      → IsPrefix (lines_in (slice_get ends t))
      (taken_from (numbers_of (with_starts starts job)) (task_at job.graph t)
      (span_in (with_starts starts job) t) 0)
