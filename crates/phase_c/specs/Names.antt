-- The names of a graph's sources and sinks, or of all its phasers and tasks, as a text.
use Rattle.std.specs.Prelude.{◌≡◌, ◌<◌, ℕ, List, [], ◌∷◌, ◌++◌, length, drop, Ok, Err}
use Rattle.std.specs.List.{filter, flat_map, range_with_len}
use Rattle.graph_lang.specs.Reads.{ReadsText}
use Rattle.graph_base.specs.Graphs.{Graph, is_source, name_at, task_at}
use Rattle.graph_base.specs.declared.place.Place.{Place}
use Rattle.graph_base.specs.declared.place.Place.TheVariants as place
use Rattle.graph_text.specs.Texts.{lines_of as text_lines}
use Rattle.phase_c.specs.Lent.{sinks_in}
use Rattle.phase_c.specs.declared.refusal.Refusal.{Refusal}
use Rattle.phase_c.specs.declared.refusal.Refusal.TheVariants as refusal

-- the numbers of the sources among the tasks, in the order of the lines
abbrev pub sources_in : Graph → List ℕ
sources_in graph =
    filter (λ t. is_source (task_at graph t).kind) (range_with_len 0 (length graph.tasks))

-- the name of a phaser or a task, and a line end
abbrev pub name_line : Graph → Place → List ℕ
name_line graph at = name_at graph at ++ 10 ∷ []

-- the names of these tasks
abbrev pub tasks_text : Graph → List ℕ → List ℕ
tasks_text graph tasks = flat_map (λ t. name_line graph (place.Task t)) tasks

-- the names of the sources, then of the sinks, each in the order of their lines
abbrev pub names_text : Graph → List ℕ
names_text graph = tasks_text graph (sources_in graph) ++ tasks_text graph (sinks_in graph)

-- the names of all phasers, in the order of their lines
abbrev pub phasers_text : Graph → List ℕ
phasers_text graph =
    flat_map (λ p. name_line graph (place.Phaser p)) (range_with_len 0 (length graph.phasers))

-- the names of all phasers, then of all tasks, each in the order of their lines
abbrev pub all_names_text : Graph → List ℕ
all_names_text graph =
    phasers_text graph ++ tasks_text graph (range_with_len 0 (length graph.tasks))

-- the text reads as a graph, and these are its names, or those of them that are asked for
pub record HasNames (names_of : Graph → List ℕ) (text names : List ℕ) : Type 0 where
  pub graph : Graph
  pub reads : ReadsText (text_lines text) (Ok graph)
  pub names_are : names ≡ names_of graph

-- the text reads as a graph, its names were written, and it is told how many bytes they are; what
-- stands behind them stays
pub record WritesNames (names_of : Graph → List ℕ) (text old new : List ℕ) (needed : ℕ)
    : Type 0 where
  pub graph : Graph
  pub reads : ReadsText (text_lines text) (Ok graph)
  pub needed_is : needed ≡ length (names_of graph)
  pub written : new ≡ names_of graph ++ drop (length (names_of graph)) old

-- the text reads as a graph, its names are more bytes than there is room for, and it is told how
-- many they are
pub record NamesHaveNoRoom (names_of : Graph → List ℕ) (text : List ℕ) (room needed : ℕ)
    : Type 0 where
  pub graph : Graph
  pub reads : ReadsText (text_lines text) (Ok graph)
  pub needed_is : needed ≡ length (names_of graph)
  pub short : room < length (names_of graph)

-- why the names were not written, and what is told of how many bytes they are
abbrev pub RefusesNames : (Graph → List ℕ) → List ℕ → ℕ → ℕ → ℕ → Refusal → Type 0
RefusesNames names_of text room old new (refusal.Graph found) =
    ReadsText (text_lines text) (Err found) × (new ≡ old)
RefusesNames names_of text room old new refusal.OutOfMemory = new ≡ old
RefusesNames names_of text room old new refusal.Room = NamesHaveNoRoom names_of text room new
RefusesNames names_of text room old new refusal.Counts = ⊥
RefusesNames names_of text room old new (refusal.Sample at) = ⊥
RefusesNames names_of text room old new (refusal.TooBig place n) = ⊥
