-- Worked runs with a decimator, which puts one value of three.
use Rattle.std.specs.Prelude.{ℕ, ℤ, List, [], ◌∷◌, Option, Some, None, pos, codes}
use Rattle.phase_base.specs.declared.mode.Mode.TheVariants.{Sig, Wait}
use Rattle.phase_accum.specs.declared.outcome.Outcome.TheVariants.{Value}
use Rattle.phase_history.specs.declared.event.Event.TheVariants.{Made, Registered, Dropped}
use Rattle.phase_history.specs.Histories.{History}
use Rattle.graph_base.specs.declared.line.Kind.TheVariants.{Source, Fir, Decimate}
use Rattle.graph_base.specs.declared.place.Place.TheVariants as place
use Rattle.graph_base.specs.Graphs.{Graph, no_task}
use Rattle.stream_lists.specs.Jobs.{Job}
use Rattle.graph_runs.specs.Moments.{Moment}
use Rattle.worked_runs.specs.Runs.{TaskEvent, sample, signal, first_wait, leave, opened, after_all}
use Rattle.worked_runs.specs.Worked.{bus, founded}
use Rattle.worked_runs.specs.WorkedTurns.{after_rounds, narrow}

-- ---- a decimator alone

-- phaser X sum 4 / phaser Y sum 4 / source s s.csv -> X / decimate d X -> Y every 3 / sink out Y
abbrev pub thirds_graph : Graph
thirds_graph = record {
  names = (codes "X", place.Phaser 0) ∷ (codes "Y", place.Phaser 1) ∷ (codes "s", place.Task 0)
      ∷ (codes "d", place.Task 1) ∷ (codes "out", place.Task 2) ∷ [];
  phasers = bus ∷ bus ∷ [];
  tasks = record no_task { line = 3; kind = Source; outputs = 0 ∷ [] }
      ∷ record no_task { line = 4; kind = Decimate; inputs = 0 ∷ []; outputs = 1 ∷ []; every = 3 }
      ∷ record no_task { line = 5; inputs = 1 ∷ [] }
      ∷ [];
  files = codes "s.csv" ∷ [];
}

-- the samples 3, 1, 4, 1, 5, 9
abbrev pub thirds : Job
thirds = record {
  graph = thirds_graph;
  samples = (pos 3 ∷ pos 1 ∷ pos 4 ∷ pos 1 ∷ pos 5 ∷ pos 9 ∷ []) ∷ [];
  starts = [];
}

-- of X and Y
abbrev pub thirds_histories : List History
thirds_histories = founded ∷ founded ∷ []

-- the numbers on them of s, d and out
abbrev pub thirds_numbers : List (List (Option ℕ))
thirds_numbers = (Some 1 ∷ Some 2 ∷ None ∷ []) ∷ (None ∷ Some 1 ∷ Some 2 ∷ []) ∷ []

-- its opening
abbrev pub thirds_opening : Moment
thirds_opening = opened thirds_histories thirds_numbers (0 ∷ 0 ∷ 0 ∷ [])

-- d puts the first sample, and takes the second
abbrev pub first_turns : List TaskEvent
first_turns =
    sample 0 0 0 1 (pos 3 ∷ [])
    ∷ first_wait 1 0 0 2 (Value (pos 3) ∷ [])
    ∷ signal 1 0 1 1 (pos 3 ∷ [])
    ∷ sample 0 0 0 1 (pos 1 ∷ [])
    ∷ first_wait 1 0 0 2 (Value (pos 1) ∷ [])
    ∷ []

-- it takes the third, and puts the fourth
abbrev pub second_turns : List TaskEvent
second_turns =
    sample 0 0 0 1 (pos 4 ∷ [])
    ∷ first_wait 1 0 0 2 (Value (pos 4) ∷ [])
    ∷ sample 0 0 0 1 (pos 1 ∷ [])
    ∷ first_wait 1 0 0 2 (Value (pos 1) ∷ [])
    ∷ signal 1 0 1 1 (pos 1 ∷ [])
    ∷ []

-- it takes the last two, and leaves; out takes what d put, and leaves
abbrev pub third_turns : List TaskEvent
third_turns =
    sample 0 0 0 1 (pos 5 ∷ [])
    ∷ sample 0 0 0 1 (pos 9 ∷ [])
    ∷ leave 0 0 1
    ∷ first_wait 1 0 0 2 (Value (pos 5) ∷ [])
    ∷ first_wait 1 0 0 2 (Value (pos 9) ∷ [])
    ∷ leave 1 0 2
    ∷ leave 1 1 1
    ∷ first_wait 2 0 1 2 (Value (pos 3) ∷ [])
    ∷ first_wait 2 0 1 2 (Value (pos 1) ∷ [])
    ∷ leave 2 1 2
    ∷ []

-- whose turns they are
abbrev pub thirds_order : List ℕ
thirds_order =
    0 ∷ 1 ∷ 1 ∷ 0 ∷ 1 ∷ 0 ∷ 1 ∷ 0 ∷ 1 ∷ 1 ∷ 0 ∷ 0 ∷ 0 ∷ 1 ∷ 1 ∷ 1 ∷ 1 ∷ 2 ∷ 2 ∷ 2 ∷ []

-- d has taken the second sample
abbrev pub after_second : Moment
after_second = after_all thirds thirds_opening first_turns

-- it has put the fourth
abbrev pub after_fourth : Moment
after_fourth = after_all thirds after_second second_turns

-- all have left
abbrev pub thirds_end : Moment
thirds_end = after_all thirds after_fourth third_turns

-- ---- a decimator and a filter that wait for each other

-- phaser X sum 1 / phaser A sum 1 / phaser S sum 1 / source s s.csv -> X / decimate d X -> A every
-- 3 / fir f A -> S shift 0 taps 1 / fir g X -> S shift 0 taps 1 / sink out S
abbrev pub thinned_graph : Graph
thinned_graph = record {
  names = (codes "X", place.Phaser 0) ∷ (codes "A", place.Phaser 1) ∷ (codes "S", place.Phaser 2)
      ∷ (codes "s", place.Task 0) ∷ (codes "d", place.Task 1) ∷ (codes "f", place.Task 2)
      ∷ (codes "g", place.Task 3) ∷ (codes "out", place.Task 4) ∷ [];
  phasers = narrow ∷ narrow ∷ narrow ∷ [];
  tasks = record no_task { line = 4; kind = Source; outputs = 0 ∷ [] }
      ∷ record no_task { line = 5; kind = Decimate; inputs = 0 ∷ []; outputs = 1 ∷ []; every = 3 }
      ∷ record no_task {
        line = 6;
        kind = Fir;
        inputs = 1 ∷ [];
        outputs = 2 ∷ [];
        taps = pos 1 ∷ [];
      }
      ∷ record no_task {
        line = 7;
        kind = Fir;
        inputs = 0 ∷ [];
        outputs = 2 ∷ [];
        taps = pos 1 ∷ [];
      }
      ∷ record no_task { line = 8; inputs = 2 ∷ [] }
      ∷ [];
  files = codes "s.csv" ∷ [];
}

-- with these samples
abbrev pub thinned : List ℤ → Job
thinned samples = record { graph = thinned_graph; samples = samples ∷ []; starts = [] }

-- the samples 1 to 5
abbrev pub five : List ℤ
five = pos 1 ∷ pos 2 ∷ pos 3 ∷ pos 4 ∷ pos 5 ∷ []

-- on X, s is 1, d 2 and g 3; on A, d is 1 and f 2; on S, f is 1, g 2 and out 3
abbrev pub thinned_opening : Moment
thinned_opening = opened
    ((Dropped 0 ∷ Registered 0 3 Wait ∷ Registered 0 2 Wait ∷ Registered 0 1 Sig ∷ Made 0 ∷ [])
    ∷ founded
    ∷ (Dropped 0 ∷ Registered 0 3 Wait ∷ Registered 0 2 Sig ∷ Registered 0 1 Sig ∷ Made 0 ∷ [])
    ∷ [])
    ((Some 1 ∷ Some 2 ∷ None ∷ Some 3 ∷ None ∷ [])
    ∷ (None ∷ Some 1 ∷ Some 2 ∷ None ∷ None ∷ [])
    ∷ (None ∷ None ∷ Some 1 ∷ Some 2 ∷ Some 3 ∷ [])
    ∷ [])
    (0 ∷ 0 ∷ 0 ∷ 0 ∷ 0 ∷ [])

-- after so many rounds
abbrev pub thinned_after : List ℤ → ℕ → Moment
thinned_after samples rounds =
    after_rounds (thinned samples) (0 ∷ 1 ∷ 2 ∷ 3 ∷ 4 ∷ []) rounds thinned_opening
