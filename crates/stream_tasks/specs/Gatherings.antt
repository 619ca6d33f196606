-- What the tasks up to some line, and the founders, have seen, put together.
use Rattle.std.specs.Prelude.{◌≡◌, ℕ, ◌<◌, List, [], ◌∷◌, length, slice_get, Option, Some, None, true, false}
use Rattle.phase_history.specs.Histories.{History}
use Rattle.phase_history.specs.Others.{OthersCame}
use Rattle.phase_base.specs.Lists.{is_in}
use Rattle.stream_lists.specs.Jobs.{Job}
use Rattle.graph_runs.specs.Moments.{Moment}
use Rattle.stream_members.specs.AnyMembers.{left_in}
use Rattle.stream_members.specs.declared.any_left.AnyLeft.{AnyLeft}
use Rattle.graph_runs.specs.TaskEnds.{TaskEnd, HasLeftAt}
use Rattle.graph_runs.specs.RunEnds.{Ends, HasCome, IsRegisteredOn}
use Rattle.stream_tasks.specs.declared.ending.task_left.TaskKnowledge.{TaskKnowledge}
use Rattle.stream_tasks.specs.Joinings.{IsPlaced, HasGrownTo}
use Rattle.stream_tasks.specs.TaskLefts.{given_to}

-- what stands for phaser p has all that its founder and these tasks have seen of it, and no two of
-- them have one number
pub record HasGathered (job : Job) (ends : Ends) (p : ℕ) (founder all : AnyLeft) : Type 0 where
  pub grown : HasGrownTo founder all
  pub tasks_came : (t i n : ℕ) (seen : History) → IsRegisteredOn job ends t i p n seen
      → OthersCame (n ∷ []) seen (left_in all).seen × (is_in n (left_in all).numbers ≡ true)
  pub not_founder : (t i n : ℕ) (seen : History) → IsRegisteredOn job ends t i p n seen
      → is_in n (left_in founder).numbers ≡ false
  pub distinct : (t u i j n : ℕ) (seen other : History) → IsRegisteredOn job ends t i p n seen
      → IsRegisteredOn job ends u j p n other → t ≡ u

-- a task's part tells its end
abbrev pub TellsEnd : Option TaskKnowledge → Option TaskEnd → Type 0
TellsEnd None None = Unit {0}
TellsEnd (Some part) (Some end) =
    (end.begun ≡ part.begun) × (end.start ≡ part.start) × (end.numbers ≡ part.numbers.items)
    × (end.lines ≡ part.lines.items) × ((c : ℕ) → end.given c ≡ given_to part.given.items c)
TellsEnd part end = ⊥

-- these ends are of the first tasks, whose parts are these, and stand put together
pub record AreGathered (job : Job) (founders joined : List (Option AnyLeft))
    (parts : List (Option TaskKnowledge)) (ends : Ends) : Type 0 where
  pub long : length parts ≡ length ends
  pub joined_long : length joined ≡ length founders
  pub tasks : (t : ℕ) (end : TaskEnd) → HasCome ends t end
      → (end.task ≡ t) × (t < length job.graph.tasks) × ((m : Moment) × HasLeftAt job m end)
  pub tells : (t : ℕ) (part : Option TaskKnowledge) (end : Option TaskEnd)
      → slice_get parts t ≡ Some part → slice_get ends t ≡ Some end → TellsEnd part end
  pub phasers : (p : ℕ) (founder : AnyLeft) → IsPlaced founders p founder
      → (all : AnyLeft) × IsPlaced joined p all × HasGathered job ends p founder all
