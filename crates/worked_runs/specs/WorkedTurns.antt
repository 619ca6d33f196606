-- Graphs whose tasks take their turns in rotation, from the opening on.
use Rattle.std.specs.Prelude.{ℕ, zero, suc, ℤ, List, [], ◌∷◌, Some, None, pos, codes}
use Rattle.phase_base.specs.declared.mode.Mode.TheVariants.{Sig, Wait}
use Rattle.phase_base.specs.declared.operation.Op.TheVariants.{Sum}
use Rattle.phase_accum.specs.declared.outcome.Outcome.TheVariants.{Value}
use Rattle.phase_history.specs.declared.event.Event.TheVariants.{Made, Registered, Dropped}
use Rattle.graph_base.specs.declared.line.Kind.TheVariants.{Source, Fir, Split}
use Rattle.graph_base.specs.declared.line.PhaserLine.{PhaserLine}
use Rattle.graph_base.specs.declared.place.Place.TheVariants as place
use Rattle.graph_base.specs.Graphs.{Graph, no_task}
use Rattle.stream_lists.specs.Jobs.{Job}
use Rattle.graph_runs.specs.Moments.{Moment}
use Rattle.graph_runs.specs.Answers.{Answer, makes, is_blocked, after_turns}
use Rattle.worked_runs.specs.Runs.{sample, first_wait, opened}
use Rattle.worked_runs.specs.Worked.{bus, founded}

-- so many rounds of the tasks' turns
abbrev pub after_rounds : Job → List ℕ → ℕ → Moment → Moment
after_rounds job tasks zero m = m
after_rounds job tasks (suc n) m = after_rounds job tasks n (after_turns job m tasks)

-- ---- sinks that come late and leave early

-- phaser X sum 4 / source s s.csv -> X / sink out X / sink late X by out at N / sink early X until
-- 2
abbrev pub late_graph : ℕ → Graph
late_graph at = record {
  names = (codes "X", place.Phaser 0) ∷ (codes "s", place.Task 0) ∷ (codes "out", place.Task 1)
      ∷ (codes "late", place.Task 2) ∷ (codes "early", place.Task 3) ∷ [];
  phasers = bus ∷ [];
  tasks = record no_task { line = 2; kind = Source; outputs = 0 ∷ [] }
      ∷ record no_task { line = 3; inputs = 0 ∷ [] }
      ∷ record no_task { line = 4; inputs = 0 ∷ []; parent = Some (record { task = 1; at = at }) }
      ∷ record no_task { line = 5; inputs = 0 ∷ []; until = Some 2 }
      ∷ [];
  files = codes "s.csv" ∷ [];
}

-- the samples 1 to 4
abbrev pub late : ℕ → Job
late at = record {
  graph = late_graph at;
  samples = (pos 1 ∷ pos 2 ∷ pos 3 ∷ pos 4 ∷ []) ∷ [];
  starts = [];
}

-- s is 1, out 2 and early 3; late begins so many steps after out
abbrev pub late_opening : ℕ → Moment
late_opening at = opened
    ((Dropped 0 ∷ Registered 0 3 Wait ∷ Registered 0 2 Wait ∷ Registered 0 1 Sig ∷ Made 0 ∷ [])
    ∷ [])
    ((Some 1 ∷ Some 2 ∷ None ∷ Some 3 ∷ []) ∷ []) (0 ∷ 0 ∷ at ∷ 0 ∷ [])

-- after so many rounds
abbrev pub late_after : ℕ → ℕ → Moment
late_after at rounds = after_rounds (late at) (0 ∷ 1 ∷ 2 ∷ 3 ∷ []) rounds (late_opening at)

-- ---- a filter with a child

-- phaser X sum 4 / phaser Y sum 4 / source s s.csv -> X / fir f X -> Y shift 0 taps 1 1 / fir g X
-- -> Y shift 0 taps 1 1 by f at 2 until 1 / sink out Y
abbrev pub child_graph : Graph
child_graph = record {
  names = (codes "X", place.Phaser 0) ∷ (codes "Y", place.Phaser 1) ∷ (codes "s", place.Task 0)
      ∷ (codes "f", place.Task 1) ∷ (codes "g", place.Task 2) ∷ (codes "out", place.Task 3) ∷ [];
  phasers = bus ∷ bus ∷ [];
  tasks = record no_task { line = 3; kind = Source; outputs = 0 ∷ [] }
      ∷ record no_task {
        line = 4;
        kind = Fir;
        inputs = 0 ∷ [];
        outputs = 1 ∷ [];
        taps = pos 1 ∷ pos 1 ∷ [];
      }
      ∷ record no_task {
        line = 5;
        kind = Fir;
        inputs = 0 ∷ [];
        outputs = 1 ∷ [];
        taps = pos 1 ∷ pos 1 ∷ [];
        parent = Some (record { task = 1; at = 2 });
        until = Some 1;
      }
      ∷ record no_task { line = 6; inputs = 1 ∷ [] }
      ∷ [];
  files = codes "s.csv" ∷ [];
}

-- the samples 1 to 4
abbrev pub with_child : Job
with_child = record {
  graph = child_graph;
  samples = (pos 1 ∷ pos 2 ∷ pos 3 ∷ pos 4 ∷ []) ∷ [];
  starts = [];
}

-- on X, s is 1 and f is 2; on Y, f is 1 and out is 2; g begins two steps after f
abbrev pub child_opening : Moment
child_opening = opened (founded ∷ founded ∷ [])
    ((Some 1 ∷ Some 2 ∷ None ∷ None ∷ []) ∷ (None ∷ Some 1 ∷ None ∷ Some 2 ∷ []) ∷ [])
    (0 ∷ 0 ∷ 2 ∷ 0 ∷ [])

-- after so many rounds
abbrev pub child_after : ℕ → Moment
child_after rounds = after_rounds with_child (0 ∷ 1 ∷ 2 ∷ 3 ∷ []) rounds child_opening

-- ---- a splitter and a filter that wait for each other

-- phaser NAME sum 1
abbrev pub narrow : PhaserLine
narrow = record { op = Sum; bound = 1; single = None }

-- phaser X sum 1 / phaser A sum 1 / phaser B sum 1 / phaser S sum 1 / source s s.csv -> X / split d
-- X -> A B / fir f A -> S shift 0 taps 1 / fir g X -> S shift 0 taps 1 / sink out S
abbrev pub crossed_graph : Graph
crossed_graph = record {
  names = (codes "X", place.Phaser 0) ∷ (codes "A", place.Phaser 1) ∷ (codes "B", place.Phaser 2)
      ∷ (codes "S", place.Phaser 3) ∷ (codes "s", place.Task 0) ∷ (codes "d", place.Task 1)
      ∷ (codes "f", place.Task 2) ∷ (codes "g", place.Task 3) ∷ (codes "out", place.Task 4) ∷ [];
  phasers = narrow ∷ narrow ∷ narrow ∷ narrow ∷ [];
  tasks = record no_task { line = 5; kind = Source; outputs = 0 ∷ [] }
      ∷ record no_task { line = 6; kind = Split; inputs = 0 ∷ []; outputs = 1 ∷ 2 ∷ [] }
      ∷ record no_task {
        line = 7;
        kind = Fir;
        inputs = 1 ∷ [];
        outputs = 3 ∷ [];
        taps = pos 1 ∷ [];
      }
      ∷ record no_task {
        line = 8;
        kind = Fir;
        inputs = 0 ∷ [];
        outputs = 3 ∷ [];
        taps = pos 1 ∷ [];
      }
      ∷ record no_task { line = 9; inputs = 3 ∷ [] }
      ∷ [];
  files = codes "s.csv" ∷ [];
}

-- with these samples
abbrev pub crossed : List ℤ → Job
crossed samples = record { graph = crossed_graph; samples = samples ∷ []; starts = [] }

-- the samples 1 to 6
abbrev pub six : List ℤ
six = pos 1 ∷ pos 2 ∷ pos 3 ∷ pos 4 ∷ pos 5 ∷ pos 6 ∷ []

-- the samples 1 to 7
abbrev pub seven : List ℤ
seven = pos 1 ∷ pos 2 ∷ pos 3 ∷ pos 4 ∷ pos 5 ∷ pos 6 ∷ pos 7 ∷ []

-- on X, s is 1, d 2 and g 3; on A, d is 1 and f 2; on B, d is 1; on S, f is 1, g 2 and out 3
abbrev pub crossed_opening : Moment
crossed_opening = opened
    ((Dropped 0 ∷ Registered 0 3 Wait ∷ Registered 0 2 Wait ∷ Registered 0 1 Sig ∷ Made 0 ∷ [])
    ∷ founded
    ∷ (Dropped 0 ∷ Registered 0 1 Sig ∷ Made 0 ∷ [])
    ∷ (Dropped 0 ∷ Registered 0 3 Wait ∷ Registered 0 2 Sig ∷ Registered 0 1 Sig ∷ Made 0 ∷ [])
    ∷ [])
    ((Some 1 ∷ Some 2 ∷ None ∷ Some 3 ∷ None ∷ [])
    ∷ (None ∷ Some 1 ∷ Some 2 ∷ None ∷ None ∷ [])
    ∷ (None ∷ Some 1 ∷ None ∷ None ∷ None ∷ [])
    ∷ (None ∷ None ∷ Some 1 ∷ Some 2 ∷ Some 3 ∷ [])
    ∷ [])
    (0 ∷ 0 ∷ 0 ∷ 0 ∷ 0 ∷ [])

-- after so many rounds
abbrev pub crossed_after : List ℤ → ℕ → Moment
crossed_after samples rounds =
    after_rounds (crossed samples) (0 ∷ 1 ∷ 2 ∷ 3 ∷ 4 ∷ []) rounds crossed_opening

-- ---- a source of blocks of two

-- phaser X sum 2 / source s s.csv -> X block=2 / sink out X
abbrev pub two_graph : Graph
two_graph = record {
  names =
      (codes "X", place.Phaser 0) ∷ (codes "s", place.Task 0) ∷ (codes "out", place.Task 1) ∷ [];
  phasers = record { op = Sum; bound = 2; single = None } ∷ [];
  tasks = record no_task { line = 2; kind = Source; outputs = 0 ∷ []; block = 2 }
      ∷ record no_task { line = 3; inputs = 0 ∷ [] }
      ∷ [];
  files = codes "s.csv" ∷ [];
}

-- the samples 1 to 3
abbrev pub by_two : Job
by_two = record {
  graph = two_graph;
  samples = (pos 1 ∷ pos 2 ∷ pos 3 ∷ []) ∷ [];
  starts = [];
}

-- s is 1 and out 2
abbrev pub two_opening : Moment
two_opening = opened (founded ∷ []) ((Some 1 ∷ Some 2 ∷ []) ∷ []) (0 ∷ 0 ∷ [])

-- two turns of s, one of out, and one of s
abbrev pub two_order : List ℕ
two_order = 0 ∷ 0 ∷ 1 ∷ 0 ∷ []

-- what they come to
abbrev pub two_answers : List Answer
two_answers =
    makes (sample 0 0 0 1 (pos 1 ∷ pos 2 ∷ []))
    ∷ is_blocked
    ∷ makes (first_wait 1 0 0 2 (Value (pos 1) ∷ []))
    ∷ makes (sample 0 0 0 1 (pos 3 ∷ []))
    ∷ []
