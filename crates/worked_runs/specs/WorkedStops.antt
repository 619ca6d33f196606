-- A run that is stopped in the midst of a phase: what each task knows of it.
use Rattle.std.specs.Prelude.{◌==◌, ℕ, ℤ, List, [], ◌∷◌, Some, None, Bool, pos, codes}
use Rattle.phase_base.specs.declared.mode.Mode.TheVariants.{Sig, Wait}
use Rattle.phase_history.specs.declared.event.Event.TheVariants.{Made, Registered, Signalled, Waited, Dropped}
use Rattle.phase_history.specs.Histories.{History}
use Rattle.graph_base.specs.declared.line.Kind.TheVariants.{Source}
use Rattle.graph_base.specs.declared.place.Place.TheVariants as place
use Rattle.graph_base.specs.Graphs.{Graph, no_task}
use Rattle.graph_runs.specs.Answers.{after_turns}
use Rattle.graph_runs.specs.Beginnings.{opening}
use Rattle.graph_runs.specs.Moments.{Moment}
use Rattle.graph_runs.specs.RunEnds.{Ends}
use Rattle.graph_runs.specs.TaskEnds.{TaskEnd}
use Rattle.stream_lists.specs.Jobs.{Job}
use Rattle.worked_runs.specs.Worked.{bus}

-- ---- the run

-- phaser X sum 4 / source a a.csv -> X / source b b.csv -> X / sink out X
abbrev pub stopped_graph : Graph
stopped_graph = record {
  names = (codes "X", place.Phaser 0) ∷ (codes "a", place.Task 0) ∷ (codes "b", place.Task 1)
      ∷ (codes "out", place.Task 2) ∷ [];
  phasers = bus ∷ [];
  tasks = record no_task { line = 2; kind = Source; outputs = 0 ∷ [] }
      ∷ record no_task { line = 3; kind = Source; outputs = 0 ∷ [] }
      ∷ record no_task { line = 4; inputs = 0 ∷ [] }
      ∷ [];
  files = codes "a.csv" ∷ codes "b.csv" ∷ [];
}

-- with these samples of a and of b
abbrev pub two_fed : List ℤ → List ℤ → Job
two_fed of_a of_b = record { graph = stopped_graph; samples = of_a ∷ of_b ∷ []; starts = [] }

-- a has the samples 1 and 2, after which its file has ended, and b has 10 so far
abbrev pub came : List (List ℤ)
came = (pos 1 ∷ pos 2 ∷ []) ∷ (pos 10 ∷ []) ∷ []

abbrev pub stopped : Job
stopped = two_fed (pos 1 ∷ pos 2 ∷ []) (pos 10 ∷ [])

-- a signals 1
abbrev pub begun : Job → Moment
begun job = after_turns job (opening job) (0 ∷ [])

-- b signals 10
abbrev pub as_b_knows : Job → Moment
as_b_knows job = after_turns job (begun job) (1 ∷ [])

-- out takes 11
abbrev pub as_out_knows : Job → Moment
as_out_knows job = after_turns job (as_b_knows job) (2 ∷ [])

-- a signals 2 in phase 1, in which b has not signalled, and leaves
abbrev pub as_a_knows : Job → Moment
as_a_knows job = after_turns job (as_out_knows job) (0 ∷ 0 ∷ [])

-- ---- what each knows of X

-- its founder, which has left
abbrev pub founder_saw : History
founder_saw =
    Dropped 0 ∷ Registered 0 3 Wait ∷ Registered 0 2 Sig ∷ Registered 0 1 Sig ∷ Made 0 ∷ []

-- b, as number 2
abbrev pub b_saw : History
b_saw = Signalled 2 ((pos 10 ∷ []) ∷ []) None ∷ Signalled 1 ((pos 1 ∷ []) ∷ []) None ∷ founder_saw

-- out, as number 3
abbrev pub out_saw : History
out_saw = Waited 3 1 ∷ b_saw

-- a, as number 1
abbrev pub a_saw : History
a_saw = Dropped 1 ∷ Signalled 1 ((pos 2 ∷ []) ∷ []) None ∷ out_saw

-- and what each knows of itself
abbrev pub end_with : ℕ → ℕ → ℕ → History → List ℤ → TaskEnd
end_with task begun number seen lines = record {
  task = task;
  begun = begun;
  start = 0;
  numbers = number ∷ [];
  seen = seen ∷ [];
  lines = lines;
  given = λ child. [];
}

abbrev pub a_knows : TaskEnd
a_knows = end_with 0 2 1 a_saw []

abbrev pub b_knows : TaskEnd
b_knows = end_with 1 1 2 b_saw []

abbrev pub out_knows : TaskEnd
out_knows = end_with 2 1 3 out_saw (pos 11 ∷ [])

-- all of them
abbrev pub stopped_ends : Ends
stopped_ends = Some a_knows ∷ Some b_knows ∷ Some out_knows ∷ []

-- ---- samples of their own

-- the file of a has ended, and that of b has not
abbrev pub a_has_ended : ℕ → Bool
a_has_ended t = t == 0

-- nobody is told what came to the others
abbrev pub unfed : Job
unfed = record { graph = stopped_graph; samples = []; starts = [] }

-- a runs beside a source b that has two samples
abbrev pub for_a : List (List ℤ)
for_a = (pos 1 ∷ pos 2 ∷ []) ∷ (pos 10 ∷ pos 20 ∷ []) ∷ []

-- b beside a source a that has one
abbrev pub for_b : List (List ℤ)
for_b = (pos 1 ∷ []) ∷ (pos 10 ∷ []) ∷ []

-- and out beside sources that have other samples behind the first ones
abbrev pub for_out : List (List ℤ)
for_out = (pos 1 ∷ pos 3 ∷ []) ∷ (pos 10 ∷ pos 4 ∷ []) ∷ []
