-- Turns of a run from its opening, one after the other.
use Rattle.std.specs.Prelude.{◌≡◌, ◌≢◌, ℕ, List, ◌∷◌, ◌++◌, Some, None}
use Rattle.stream_lists.specs.Jobs.{Job}
use Rattle.stream_lists.specs.Ranges.{Where}
use Rattle.graph_runs.specs.Answers.{TooBig, after_turns, turn_tells}
use Rattle.graph_runs.specs.Beginnings.{opening}

-- no turn of these tells a value out of range
abbrev pub TellsNone : Job → List ℕ → Type 0
TellsNone job turns = (before : List ℕ) (task : ℕ) (after : List ℕ) (at : Where)
    → turns ≡ before ++ task ∷ after
    → turn_tells job None (after_turns job (opening job) before) task ≢ Some (TooBig at)

-- a turn of these tells a value out of range, and none before it does
pub record TellsTooBig (job : Job) (turns : List ℕ) (at : Where) : Type 0 where
  pub before : List ℕ
  pub task : ℕ
  pub after : List ℕ
  pub are : turns ≡ before ++ task ∷ after
  pub none : TellsNone job before
  pub tells : turn_tells job None (after_turns job (opening job) before) task ≡ Some (TooBig at)
