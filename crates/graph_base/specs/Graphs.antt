-- A graph as lists: what its lines declare.
use Rattle.std.specs.Prelude.{ℕ, ◌<◌, ◌==◌, List, [], ◌∷◌, length, take, get_or, ℤ, pos, Option, None, Bool, true, false, if◌then◌else◌}
use Rattle.std.specs.List.{count_by}
use Rattle.phase_base.specs.declared.operation.Op.TheVariants.{Sum}
use Rattle.graph_base.specs.declared.line.Kind.{Kind}
use Rattle.graph_base.specs.declared.line.Kind.TheVariants.{Source, Fir, Split, Decimate, Join, Peer, Sink}
use Rattle.graph_base.specs.declared.line.Parent.{Parent}
use Rattle.graph_base.specs.declared.line.PhaserLine.{PhaserLine}
use Rattle.graph_base.specs.declared.place.Place.{Place}
use Rattle.stream_filters.specs.Filter.{no_form}
use Rattle.stream_filters.specs.declared.form.Form.{Form}
use Rattle.graph_base.specs.declared.place.Place.TheVariants as place

-- the line of a task, with its lists as lists
pub record Task : Type 0 where
  pub line : ℕ
  pub kind : Kind
  pub inputs : List ℕ
  pub outputs : List ℕ
  pub parent : Option Parent
  pub until : Option ℕ
  pub taps : List ℤ
  pub form : Form
  pub mul : ℤ
  pub every : ℕ
  pub block : ℕ
  pub joins_now : Bool

-- the bytes of a name, with what it stands for
abbrev pub Named : Type 0
Named = List ℕ × Place

-- the names in the order of their lines, the phasers and the tasks, each numbered from 0 in the
-- order of their lines, and the file of each source
pub record Graph : Type 0 where
  pub names : List Named
  pub phasers : List PhaserLine
  pub tasks : List Task
  pub files : List (List ℕ)

-- a graph with no line
abbrev pub no_graph : Graph
no_graph = record { names = []; phasers = []; tasks = []; files = [] }

-- the line of a task that is not there
abbrev pub no_task : Task
no_task = record {
  line = 0;
  kind = Sink;
  inputs = [];
  outputs = [];
  parent = None;
  until = None;
  taps = [];
  form = no_form;
  mul = pos 0;
  every = 1;
  block = 1;
  joins_now = false;
}

-- the line of a phaser that is not there
abbrev pub no_phaser : PhaserLine
no_phaser = record { op = Sum; bound = 1; single = None }

-- task number t
abbrev pub task_at : Graph → ℕ → Task
task_at graph t = get_or graph.tasks t no_task

-- phaser number p
abbrev pub phaser_at : Graph → ℕ → PhaserLine
phaser_at graph p = get_or graph.phasers p no_phaser

-- the file of source number s
abbrev pub file_at : Graph → ℕ → List ℕ
file_at graph s = get_or graph.files s []

-- whether two places are the same
abbrev pub is_same_place : Place → Place → Bool
is_same_place (place.Phaser p) (place.Phaser q) = p == q
is_same_place (place.Task t) (place.Task u) = t == u
is_same_place (place.Phaser p) (place.Task u) = false
is_same_place (place.Task t) (place.Phaser q) = false

-- the first of these names that stands for the place
abbrev pub name_among : List Named → Place → List ℕ
name_among [] at = []
name_among (named ∷ others) at =
    if is_same_place named.1 at then named.0 else name_among others at

-- the name of a phaser or a task
abbrev pub name_at : Graph → Place → List ℕ
name_at graph at = name_among graph.names at

-- the phaser or the task is one of the graph
abbrev pub IsPlace : Graph → Place → Type 0
IsPlace graph (place.Phaser p) = p < length graph.phasers
IsPlace graph (place.Task t) = t < length graph.tasks

-- whether a task is a source
abbrev pub is_source : Kind → Bool
is_source Source = true
is_source Fir = false
is_source Split = false
is_source Decimate = false
is_source Join = false
is_source Peer = false
is_source Sink = false

-- whether a task is a sink
abbrev pub is_sink : Kind → Bool
is_sink Source = false
is_sink Fir = false
is_sink Split = false
is_sink Decimate = false
is_sink Join = false
is_sink Peer = false
is_sink Sink = true

-- how many of these tasks are sources
abbrev pub sources_among : List Task → ℕ
sources_among tasks = count_by (λ task. is_source task.kind) tasks

-- how many sources a graph has
abbrev pub sources_of : Graph → ℕ
sources_of graph = sources_among graph.tasks

-- the number of source t among the sources: how many stand above it
abbrev pub source_number : List Task → ℕ → ℕ
source_number tasks t = sources_among (take t tasks)
