-- Runs of graphs whose samples come in pieces, by turns from the opening on.
use Rattle.std.specs.Prelude.{ℕ, ℤ, List, [], ◌∷◌, Some, Bool, pos, false}
use Rattle.graph_base.specs.declared.line.Kind.TheVariants.{Source}
use Rattle.graph_base.specs.Graphs.{Graph, no_graph, no_task}
use Rattle.graph_runs.specs.Answers.{after_turns}
use Rattle.graph_runs.specs.Beginnings.{opening}
use Rattle.graph_runs.specs.Moments.{Moment}
use Rattle.stream_lists.specs.Jobs.{Job}
use Rattle.worked_runs.specs.Worked.{bus}

-- no source has ended
abbrev pub all_open : ℕ → Bool
all_open t = false

-- ---- a bus of two sources

-- phaser X sum 4 / source a a.csv -> X / source b b.csv -> X / sink out X
abbrev pub two_sources : Graph
two_sources = record no_graph {
  phasers = bus ∷ [];
  tasks = record no_task { line = 2; kind = Source; outputs = 0 ∷ [] }
      ∷ record no_task { line = 3; kind = Source; outputs = 0 ∷ [] }
      ∷ record no_task { line = 4; inputs = 0 ∷ [] }
      ∷ [];
}

-- a has the samples 1 to 3, and b these
abbrev pub added_to : List ℤ → Job
added_to samples = record {
  graph = two_sources;
  samples = (pos 1 ∷ pos 2 ∷ pos 3 ∷ []) ∷ samples ∷ [];
  starts = [];
}

-- b has one sample so far; a signals, b signals, out waits, and a signals once more
abbrev pub one_of_b : Job
one_of_b = added_to (pos 10 ∷ [])

abbrev pub one_taken : Moment
one_taken = after_turns one_of_b (opening one_of_b) (0 ∷ 1 ∷ 2 ∷ 0 ∷ [])

-- the same with a second sample of b
abbrev pub two_of_b : List (List ℤ)
two_of_b = (pos 1 ∷ pos 2 ∷ pos 3 ∷ []) ∷ (pos 10 ∷ pos 20 ∷ []) ∷ []

-- ---- a child where the samples end

-- phaser X sum 4 / source a a.csv -> X / source c c.csv -> X by a at 1 / sink out X
abbrev pub helped : Graph
helped = record no_graph {
  phasers = bus ∷ [];
  tasks = record no_task { line = 2; kind = Source; outputs = 0 ∷ [] }
      ∷ record no_task {
        line = 3;
        kind = Source;
        outputs = 0 ∷ [];
        parent = Some (record { task = 0; at = 1 });
      }
      ∷ record no_task { line = 4; inputs = 0 ∷ [] }
      ∷ [];
}

-- a has one sample, and c two
abbrev pub helped_once : Job
helped_once = record {
  graph = helped;
  samples = (pos 1 ∷ []) ∷ (pos 2 ∷ pos 3 ∷ []) ∷ [];
  starts = [];
}

-- a has signalled its sample
abbrev pub before_the_child : Moment
before_the_child = after_turns helped_once (opening helped_once) (0 ∷ [])

-- and then it has registered c
abbrev pub behind_the_child : Moment
behind_the_child = after_turns helped_once (opening helped_once) (0 ∷ 0 ∷ [])
