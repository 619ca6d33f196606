-- A run that meets a value that is too big, and in which a filter makes one.
use Rattle.std.specs.Prelude.{ℕ, ℤ, List, [], ◌∷◌, Option, Some, None, pos, codes, take}
use Rattle.phase_base.specs.declared.mode.Mode.TheVariants.{Sig, Wait}
use Rattle.phase_accum.specs.declared.outcome.Outcome.TheVariants.{Value, TooBig}
use Rattle.phase_history.specs.declared.event.Event.TheVariants.{Made, Registered, Dropped}
use Rattle.phase_history.specs.Histories.{History}
use Rattle.graph_base.specs.declared.line.Kind.TheVariants.{Source, Fir}
use Rattle.graph_base.specs.declared.place.Place.TheVariants as place
use Rattle.graph_base.specs.Graphs.{Graph, no_task}
use Rattle.stream_lists.specs.Jobs.{Job}
use Rattle.graph_runs.specs.Moments.{Moment}
use Rattle.worked_runs.specs.Runs.{TaskEvent, sample, first_wait, opened, after_all}
use Rattle.worked_runs.specs.Worked.{bus, founded}

-- the greatest value, 2^63 - 1
abbrev pub greatest_number : ℤ
greatest_number = pos 9223372036854775807

-- phaser X sum 4 / phaser W sum 4 / phaser Y sum 4 / source a a.csv -> X / source b b.csv -> X
-- sink out X / source c c.csv -> W / fir f W -> Y shift 0 taps 2 / sink y Y
abbrev pub faulty_graph : Graph
faulty_graph = record {
  names = (codes "X", place.Phaser 0) ∷ (codes "W", place.Phaser 1) ∷ (codes "Y", place.Phaser 2)
      ∷ (codes "a", place.Task 0) ∷ (codes "b", place.Task 1) ∷ (codes "out", place.Task 2)
      ∷ (codes "c", place.Task 3) ∷ (codes "f", place.Task 4) ∷ (codes "y", place.Task 5) ∷ [];
  phasers = bus ∷ bus ∷ bus ∷ [];
  tasks = record no_task { line = 4; kind = Source; outputs = 0 ∷ [] }
      ∷ record no_task { line = 5; kind = Source; outputs = 0 ∷ [] }
      ∷ record no_task { line = 6; inputs = 0 ∷ [] }
      ∷ record no_task { line = 7; kind = Source; outputs = 1 ∷ [] }
      ∷ record no_task {
        line = 8;
        kind = Fir;
        inputs = 1 ∷ [];
        outputs = 2 ∷ [];
        taps = pos 2 ∷ [];
      }
      ∷ record no_task { line = 9; inputs = 2 ∷ [] }
      ∷ [];
  files = codes "a.csv" ∷ codes "b.csv" ∷ codes "c.csv" ∷ [];
}

-- each source has the greatest value
abbrev pub faulty : Job
faulty = record {
  graph = faulty_graph;
  samples = (greatest_number ∷ []) ∷ (greatest_number ∷ []) ∷ (greatest_number ∷ []) ∷ [];
  starts = [];
}

-- X has two signallers and a waiter
abbrev pub founded_sum : History
founded_sum =
    Dropped 0 ∷ Registered 0 3 Wait ∷ Registered 0 2 Sig ∷ Registered 0 1 Sig ∷ Made 0 ∷ []

-- of X, W and Y
abbrev pub faulty_histories : List History
faulty_histories = founded_sum ∷ founded ∷ founded ∷ []

-- the numbers on them of a, b, out, c, f and y
abbrev pub faulty_numbers : List (List (Option ℕ))
faulty_numbers =
    (Some 1 ∷ Some 2 ∷ Some 3 ∷ None ∷ None ∷ None ∷ [])
    ∷ (None ∷ None ∷ None ∷ Some 1 ∷ Some 2 ∷ None ∷ [])
    ∷ (None ∷ None ∷ None ∷ None ∷ Some 1 ∷ Some 2 ∷ [])
    ∷ []

-- each begins at the opening
abbrev pub faulty_offsets : List ℕ
faulty_offsets = 0 ∷ 0 ∷ 0 ∷ 0 ∷ 0 ∷ 0 ∷ []

-- its opening
abbrev pub faulty_opening : Moment
faulty_opening = opened faulty_histories faulty_numbers faulty_offsets

-- out takes the sum of a's and b's values, and the filter takes c's, of which it makes twice as
-- much
abbrev pub faulty_turns : List TaskEvent
faulty_turns =
    sample 0 0 0 1 (greatest_number ∷ [])
    ∷ sample 1 0 0 2 (greatest_number ∷ [])
    ∷ first_wait 2 0 0 3 (TooBig ∷ [])
    ∷ sample 3 0 1 1 (greatest_number ∷ [])
    ∷ first_wait 4 0 1 2 (Value greatest_number ∷ [])
    ∷ []

-- out has met the sum, and the filter has taken its value
abbrev pub faulty_moment : Moment
faulty_moment = after_all faulty faulty_opening faulty_turns

-- before out takes the sum
abbrev pub before_fault : Moment
before_fault = after_all faulty faulty_opening (take 2 faulty_turns)
