-- What holds of each line of a graph that was read.
use Rattle.std.specs.Prelude.{ℕ, ◌≡◌, ◌<◌, ◌≤◌, List, [], ◌++◌, length, get_or, ℤ, pos, unsigned_abs, Some, None, IfSome, IsSome, IsTrue, Bool, true, false}
use Rattle.std.specs.List.{All, Contains}
use Rattle.phase_base.specs.Limits.{IsBound}
use Rattle.phase_base.specs.Lists.{is_distinct}
use Rattle.phase_accum.specs.Singles.{CanBeNamed}
use Rattle.stream_filters.specs.Filter.{AreTaps, no_form}
use Rattle.stream_filters.specs.declared.form.Form.{Form}
use Rattle.phase_base.specs.Words.{Word, is_name, is_file}
use Rattle.graph_base.specs.Graphs.{Task, Graph, IsPlace, task_at, phaser_at, name_at, sources_of}
use Rattle.graph_base.specs.Names.{place_of}
use Rattle.graph_base.specs.declared.limits.TheConstants.{PHASERS_MAX, TASKS_MAX, ENDS_MAX, STEPS_MAX, FACTOR_MAX, EVERY_MAX}
use Rattle.graph_base.specs.declared.line.Kind.{Kind}
use Rattle.graph_base.specs.declared.line.Kind.TheVariants.{Source, Fir, Split, Decimate, Join, Peer, Sink}
use Rattle.graph_base.specs.declared.line.Parent.{Parent}
use Rattle.graph_base.specs.declared.line.PhaserLine.{PhaserLine}
use Rattle.graph_base.specs.declared.place.Place.{Place}

-- how many inputs and how many outputs a line of the kind has
abbrev pub HasEnds : Kind → ℕ → ℕ → Type 0
HasEnds Source inputs outputs = (inputs ≡ 0) × (outputs ≡ 1)
HasEnds Fir inputs outputs = (inputs ≡ 1) × (outputs ≡ 1)
HasEnds Split inputs outputs = (inputs ≡ 1) × (2 ≤ outputs) × (outputs ≤ ENDS_MAX)
HasEnds Decimate inputs outputs = (inputs ≡ 1) × (outputs ≡ 1)
HasEnds Join inputs outputs = (2 ≤ inputs) × (inputs ≤ ENDS_MAX) × (outputs ≡ 1)
HasEnds Peer inputs outputs = (inputs ≡ 2) × (outputs ≡ 1)
HasEnds Sink inputs outputs = (inputs ≡ 1) × (outputs ≡ 0)

-- of a peer, E stands below X
abbrev pub IsExchangeBelow : Kind → List ℕ → Type 0
IsExchangeBelow Peer inputs = get_or inputs 0 0 < get_or inputs 1 0
IsExchangeBelow kind inputs = Unit {0}

-- a filter has taps and a form that a filter may have; no other kind has any
abbrev pub HasTaps : Kind → List ℤ → Form → Type 0
HasTaps Fir taps form = AreTaps taps form
HasTaps kind taps form = (taps ≡ []) × (form ≡ no_form)

-- a peer has a factor within its limit, and no other kind has one
abbrev pub HasFactor : Kind → ℤ → Type 0
HasFactor Peer mul = unsigned_abs mul ≤ FACTOR_MAX
HasFactor kind mul = mul ≡ pos 0

-- a decimator puts one of at least one value, and at most of so many; of any other kind this is 1
abbrev pub HasEvery : Kind → ℕ → Type 0
HasEvery Decimate every = (1 ≤ every) × (every ≤ EVERY_MAX)
HasEvery kind every = every ≡ 1

-- whether a task of the kind may be a child, and may have children
abbrev pub has_children : Kind → Bool
has_children Source = true
has_children Fir = true
has_children Split = false
has_children Decimate = false
has_children Join = false
has_children Peer = false
has_children Sink = true

-- the kinds whose steps may be made in blocks
abbrev pub has_blocks : Kind → Bool
has_blocks Source = true
has_blocks Fir = true
has_blocks Split = false
has_blocks Decimate = false
has_blocks Join = false
has_blocks Peer = false
has_blocks Sink = true

-- a block is a step, or several of a task of such a kind, at most the bound of each phaser of the
-- line
pub record HasBlock (graph : Graph) (task : Task) : Type 0 where
  pub some : 1 ≤ task.block
  pub kind : has_blocks task.kind ≡ false → task.block ≡ 1
  pub inputs : All (λ p. task.block ≤ (phaser_at graph p).bound) task.inputs
  pub outputs : All (λ p. task.block ≤ (phaser_at graph p).bound) task.outputs

-- a task that joins now is a sink and a child
abbrev pub MayJoinNow : Task → Type 0
MayJoinNow task = task.joins_now ≡ true → (task.kind ≡ Sink) × IsSome task.parent

-- each of these numbers is among those
abbrev pub AreAmong : List ℕ → List ℕ → Type 0
AreAmong ps qs = All (λ p. Contains qs p) ps

-- the parent of task number t: it stands above its child, waits for what the child waits for, and
-- signals what the child signals
pub record IsParent (graph : Graph) (t : ℕ) (task : Task) (parent : Parent) : Type 0 where
  pub above : parent.task < t
  pub steps : parent.at ≤ STEPS_MAX
  pub kind : has_children (task_at graph parent.task).kind ≡ true
  pub child_kind : has_children task.kind ≡ true
  pub stays : (task_at graph parent.task).joins_now ≡ false
  pub waits : AreAmong task.inputs (task_at graph parent.task).inputs
  pub signals : AreAmong task.outputs (task_at graph parent.task).outputs

-- the line of task number t
pub record IsTaskLine (graph : Graph) (t : ℕ) (task : Task) : Type 0 where
  -- its kind's number of inputs and of outputs
  pub ends : HasEnds task.kind (length task.inputs) (length task.outputs)
  -- all of them phasers of the graph, and no two the same
  pub inputs : All (λ p. p < length graph.phasers) task.inputs
  pub outputs : All (λ p. p < length graph.phasers) task.outputs
  pub distinct : is_distinct (task.inputs ++ task.outputs) ≡ true
  -- each output stands below each input
  pub in_order : All (λ x. All (λ y. x < y) task.outputs) task.inputs
  pub exchange : IsExchangeBelow task.kind task.inputs
  -- no output has a single
  pub plain : All (λ y. (phaser_at graph y).single ≡ None) task.outputs
  -- the numbers of its kind
  pub taps : HasTaps task.kind task.taps task.form
  pub factor : HasFactor task.kind task.mul
  pub every : HasEvery task.kind task.every
  pub until : IfSome task.until (λ steps. steps ≤ STEPS_MAX)
  pub parent : IfSome task.parent (λ parent. IsParent graph t task parent)
  pub block : HasBlock graph task
  pub now : MayJoinNow task

-- the line of a phaser
pub record IsPhaserLine (phaser : PhaserLine) : Type 0 where
  pub bound : IsBound phaser.bound
  -- the ends of a clamp are a range
  pub single : CanBeNamed phaser.single

-- the names of a graph that was read
pub record AreNames (graph : Graph) : Type 0 where
  -- each stands for a phaser or a task
  pub places : All (λ named. IsPlace graph named.1) graph.names
  -- what a name stands for has that name, and no other
  pub found : (name : Word) (at : Place) → place_of graph.names name ≡ Some at
      → name_at graph at ≡ name
  -- each phaser and each task has a name of the grammar, which stands for it
  pub known : (at : Place) → IsPlace graph at → place_of graph.names (name_at graph at) ≡ Some at
  pub names : (at : Place) → IsPlace graph at → IsTrue (is_name (name_at graph at))

-- the numbers of the lines of tasks, from 1 on: in the order of the tasks
pub record AreRising (graph : Graph) : Type 0 where
  pub counted : (t : ℕ) → t < length graph.tasks → 1 ≤ (task_at graph t).line
  pub rising : (t u : ℕ) → t < u → u < length graph.tasks
      → (task_at graph t).line < (task_at graph u).line

-- what holds of a graph that was read
pub record IsGraph (graph : Graph) : Type 0 where
  pub few_phasers : length graph.phasers ≤ PHASERS_MAX
  pub few_tasks : length graph.tasks ≤ TASKS_MAX
  pub phasers : (p : ℕ) → p < length graph.phasers → IsPhaserLine (phaser_at graph p)
  pub tasks : (t : ℕ) → t < length graph.tasks → IsTaskLine graph t (task_at graph t)
  pub lines : AreRising graph
  -- a file for each source
  pub files : length graph.files ≡ sources_of graph
  pub are_files : All (λ file. IsTrue (is_file file)) graph.files
  pub names : AreNames graph
