-- A graph with the samples of its sources.
use Rattle.std.specs.Prelude.{ℕ, ℤ, pos, List, [], ◌==◌, Option, get_or, map, replicate, if◌then◌else◌}
use Rattle.std.specs.List.{position_from}
use Rattle.graph_base.specs.Graphs.{Graph, source_number, task_at}

-- a graph, the samples of each source, in the order of the lines, and for each task the phase at
-- which it may begin at the earliest, 0 where the list has none. Of tasks that do not join now no
-- definition looks at it
pub record Job : Type 0 where
  pub graph : Graph
  pub samples : List (List ℤ)
  pub starts : List ℕ

-- the samples of task number t, where it is a source; of another task those of the next source
-- below it, if there is one, and no definition looks at them
abbrev pub samples_at : Job → ℕ → List ℤ
samples_at job t = get_or job.samples (source_number job.graph.tasks t) []

-- the earliest phase at which task t begins, where it joins now. Of other tasks it is 0
abbrev pub start_at : Job → ℕ → ℕ
start_at job t = if (task_at job.graph t).joins_now then get_or job.starts t 0 else 0

-- the job with these samples in place of its own
abbrev pub with_samples : List (List ℤ) → Job → Job
with_samples samples job = record job { samples = samples }

-- the samples of task t, where the sources have these
abbrev pub samples_in : Job → List (List ℤ) → ℕ → List ℤ
samples_in job samples t = samples_at (with_samples samples job) t

-- the job with these starts in place of its own
abbrev pub with_starts : List ℕ → Job → Job
with_starts starts job = record job { starts = starts }

-- the job whose sinks that join now begin at the least phase that they may
abbrev pub least : Job → Job
least job = with_starts [] job

-- so many samples of each source, each of which is 0
abbrev pub zeros : List ℕ → List (List ℤ)
zeros counts = map (λ n. replicate n (pos 0)) counts

-- the graph with so many samples of each source, of which nothing but their number matters
abbrev pub counted : Graph → List ℕ → Job
counted graph counts = record { graph = graph; samples = zeros counts; starts = [] }

-- how many samples task t has, where it is a source and the sources have so many; of another task
-- it is the number of the next source below it, if there is one, and no definition looks at it
abbrev pub count_at : Graph → List ℕ → ℕ → ℕ
count_at graph counts t = get_or counts (source_number graph.tasks t) 0

-- the place of a phaser among those of a line
abbrev pub index_in : List ℕ → ℕ → Option ℕ
index_in phasers p = position_from (λ q. q == p) 0 phasers
