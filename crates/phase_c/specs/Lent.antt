-- What a caller lends for an evaluation, as lists and lengths.
use Rattle.std.specs.Prelude.{◌≡◌, ◌<◌, ◌≤◌, ℕ, ℤ, pos, List, [], ◌∷◌, length, take, drop, get_or, Ok}
use Rattle.std.specs.List.{All, filter, range_with_len, sum}
use Rattle.graph_lang.specs.Reads.{ReadsText}
use Rattle.graph_base.specs.Graphs.{Graph, is_sink, sources_of, task_at}
use Rattle.graph_text.specs.Texts.{lines_of as text_lines}
use Rattle.phase_accum.specs.Sends.{AreSends}
use Rattle.stream_filters.specs.Range.{lowest}
use Rattle.stream_lists.specs.Jobs.{Job}
use Rattle.stream_lists.specs.declared.job.TheConstants.{SAMPLES_MAX}

-- the numbers, cut into lists that are as long as the counts say
abbrev pub cut : List ℕ → List ℤ → List (List ℤ)
cut [] numbers = []
cut (count ∷ counts) numbers = take count numbers ∷ cut counts (drop count numbers)

-- the counts are those of so many samples of a graph's sources
pub record AreCounts (graph : Graph) (samples : ℕ) (counts : List ℕ) : Type 0 where
  pub each : length counts ≡ sources_of graph
  pub total : sum counts ≡ samples
  pub few : All (λ count. count ≤ SAMPLES_MAX) counts

-- the first of the numbers that is no sample, -9223372036854775808, stands at this place
pub record IsFirstNoSample (samples : List ℤ) (at : ℕ) : Type 0 where
  pub there : at < length samples
  pub none : get_or samples at (pos 0) ≡ lowest
  pub before : AreSends (take at samples)

-- the numbers of the sinks among the tasks, in the order of the lines
abbrev pub sinks_in : Graph → List ℕ
sinks_in graph =
    filter (λ t. is_sink (task_at graph t).kind) (range_with_len 0 (length graph.tasks))

-- the counts are those of the samples of this graph's sources, and there is room for a count and a
-- start of each sink
pub record HasLengths (samples : List ℤ) (counts : List ℕ) (sinks starts : ℕ) (graph : Graph)
    : Type 0 where
  pub are_counts : AreCounts graph (length samples) counts
  pub sinks_are : sinks ≡ length (sinks_in graph)
  pub starts_are : starts ≡ length (sinks_in graph)

-- the text reads as this graph, and what is lent is what it asks for
pub record IsGraphLent (text : List ℕ) (samples : List ℤ) (counts : List ℕ) (sinks starts : ℕ)
    (graph : Graph) : Type 0 where
  pub reads : ReadsText (text_lines text) (Ok graph)
  pub lengths : HasLengths samples counts sinks starts graph
  pub sends : AreSends samples

-- the job is that of the graph with these samples
pub record IsJobLent (text : List ℕ) (samples : List ℤ) (counts : List ℕ) (sinks starts : ℕ)
    (job : Job) : Type 0 where
  pub graph_lent : IsGraphLent text samples counts sinks starts job.graph
  pub samples_are : job.samples ≡ cut counts samples
