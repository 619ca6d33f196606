-- Runs of a graph as lists of events, one event of one task at a time, of one step or of a block.
use Rattle.std.specs.Prelude.{ℕ, List, [], ◌∷◌, Option, None, get_or}
use Rattle.phase_history.specs.Histories.{History}
use Rattle.stream_lists.specs.Jobs.{Job}
use Rattle.graph_runs.specs.Moments.{Moment, HasRun}
pub use Rattle.graph_runs.specs.TaskEvents.{TaskEvent, sample, signal, first_wait, exchange_wait, leave, child, child_now, IsThere, after_turn, IsNext}

-- each of these events is the next one, where the run came so far
abbrev pub AreNext : Job → Moment → List TaskEvent → Type 0
AreNext job m [] = Unit {0}
AreNext job m (turn ∷ turns) =
    (HasRun job m → IsNext job m turn) × AreNext job (after_turn job turn m) turns

-- each moment of these events, from the first to the last, is one of a run
abbrev pub HasRunThrough : Job → Moment → List TaskEvent → Type 0
HasRunThrough job m [] = HasRun job m
HasRunThrough job m (turn ∷ turns) =
    HasRun job m × HasRunThrough job (after_turn job turn m) turns

-- the moment after all of them
abbrev pub after_all : Job → Moment → List TaskEvent → Moment
after_all job m [] = m
after_all job m (turn ∷ turns) = after_all job (after_turn job turn m) turns

-- a moment at which nothing was sent or taken, with the history of each phaser, the numbers on it
-- of the tasks, and the offset of each task
abbrev pub opened : List History → List (List (Option ℕ)) → List ℕ → Moment
opened histories numbers offsets = record {
  history = λ p. get_or histories p [];
  number = λ p t. get_or (get_or numbers p []) t None;
  offset = λ t. get_or offsets t 0;
  begun = λ t. 0;
  taken = λ t k. [];
  put = λ t j. [];
}
