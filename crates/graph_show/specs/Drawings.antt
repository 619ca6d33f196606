-- The drawing of a graph, as text for Graphviz.
use Rattle.std.specs.Prelude.{ℕ, ℤ, pos, ◌==◌, ◌&&◌, ◌||◌, not, nat_lt, unsigned_abs, Bool, false, if◌then◌else◌, List, [], ◌∷◌, ◌++◌, length, Option, None, Some, is_some, codes, decimal}
use Rattle.std.specs.Ordering.{int_eq}
use Rattle.std.specs.Fmt.{signed_decimal}
use Rattle.std.specs.List.{concat, flat_map, range_with_len}
use Rattle.phase_base.specs.OperationWords.{operation_word}
use Rattle.phase_accum.specs.declared.single.Single.{Single}
use Rattle.phase_accum.specs.declared.single.Single.TheVariants as single
use Rattle.graph_base.specs.Graphs.{Graph, Task, name_at, phaser_at, task_at, file_at, source_number}
use Rattle.graph_base.specs.Registrations.{signalled_by}
use Rattle.graph_base.specs.declared.line.Kind.{Kind}
use Rattle.graph_base.specs.declared.line.Kind.TheVariants.{Source, Fir, Split, Decimate, Join, Peer, Sink}
use Rattle.graph_base.specs.declared.line.Parent.{Parent}
use Rattle.stream_filters.specs.Filter.{taps_ahead, taps_again}
use Rattle.stream_filters.specs.declared.form.Form.{Form}
use Rattle.graph_base.specs.declared.line.PhaserLine.{PhaserLine}
use Rattle.graph_base.specs.declared.place.Place.TheVariants as place

-- the first word of the line of a task of this kind
abbrev pub kind_word : Kind → List ℕ
kind_word Source = codes "source"
kind_word Fir = codes "fir"
kind_word Split = codes "split"
kind_word Decimate = codes "decimate"
kind_word Join = codes "join"
kind_word Peer = codes "peer"
kind_word Sink = codes "sink"

-- whether these taps copy a sample
abbrev pub are_copy : List ℤ → Bool
are_copy [] = false
are_copy (tap ∷ []) = int_eq tap (pos 1)
are_copy (tap ∷ other ∷ taps) = false

-- whether a filter is told as a delay: it copies a sample that is not the newest, and does no more
abbrev pub is_delay : Form → List ℤ → Bool
is_delay form taps =
    nat_lt 0 form.delay && form.shift == 0 && unsigned_abs form.plus == 0 && form.again == 0
    && not (is_some form.single) && are_copy taps

-- the first word of the line of a task
abbrev pub task_word : Task → List ℕ
task_word task = if is_delay task.form task.taps then codes "delay" else kind_word task.kind

-- ---- nodes

-- what stands on a line of its own below a name
abbrev pub note : List ℕ → List ℕ
note text = codes "\\n" ++ text

-- a byte within quotes
abbrev pub quoted : ℕ → List ℕ
quoted b = if (b == 34) || (b == 92) then 92 ∷ b ∷ [] else b ∷ []

-- a clamp with its ends
abbrev pub clamp_note : ℤ → ℤ → List ℕ
clamp_note low high =
    note (codes "clamp " ++ signed_decimal low ++ codes " " ++ signed_decimal high)

-- the ends of a single that is a clamp
abbrev pub clamp_ends : Single → Option (ℤ × ℤ)
clamp_ends single.Neg = None
clamp_ends single.Abs = None
clamp_ends single.Halve = None
clamp_ends (single.Clamp range) = Some range

-- a single, by its word
abbrev pub single_note : Option Single → List ℕ
single_note None = []
single_note (Some single.Neg) = note (codes "neg")
single_note (Some single.Abs) = note (codes "abs")
single_note (Some single.Halve) = note (codes "halve")
single_note (Some (single.Clamp range)) = clamp_note range.0 range.1

-- what an ellipse says of a phaser
abbrev pub phaser_notes : PhaserLine → List ℕ
phaser_notes line =
    note (operation_word line.op ++ codes " " ++ decimal line.bound) ++ single_note line.single

-- the file of a source
abbrev pub file_note : Graph → ℕ → List ℕ
file_note graph t =
    note (flat_map quoted (file_at graph (source_number graph.tasks t)))

-- a tap behind a space
abbrev pub tap_text : ℤ → List ℕ
tap_text tap = codes " " ++ signed_decimal tap

-- what a filter adds, where it adds something
abbrev pub plus_note : ℤ → List ℕ
plus_note plus = if unsigned_abs plus == 0 then [] else note (codes "plus " ++ signed_decimal plus)

-- how many samples before the newest one a filter weighs, where there are some
abbrev pub age_note : ℕ → List ℕ
age_note delay = if delay == 0 then [] else note (codes "of " ++ decimal delay)

-- the shift of a filter, what it adds, and its taps for samples
abbrev pub taps_note : Form → List ℤ → List ℕ
taps_note form taps =
    note (codes "shift " ++ decimal form.shift)
    ++ (plus_note form.plus ++ (note (codes "taps") ++ flat_map tap_text taps))

-- the taps of a filter for what it put, where there are some
abbrev pub again_note : List ℤ → List ℕ
again_note [] = []
again_note (tap ∷ taps) = note (codes "again") ++ flat_map tap_text (tap ∷ taps)

-- what a filter does beside that, which of a delay is nothing
abbrev pub more_note : Form → List ℤ → List ℕ
more_note form taps =
    if is_delay form taps then []
    else taps_note form (taps_ahead taps form)
    ++ (again_note (taps_again taps form) ++ single_note form.single)

-- what a filter does
abbrev pub filter_note : Form → List ℤ → List ℕ
filter_note form taps = age_note form.delay ++ more_note form taps

-- of how many values a decimator puts one
abbrev pub every_note : ℕ → List ℕ
every_note every = note (codes "every " ++ decimal every)

-- the factor of a peer
abbrev pub peer_note : ℤ → List ℕ
peer_note factor = note (codes "mul " ++ signed_decimal factor)

-- what a box says of a task of this kind alone
abbrev pub kind_notes : Graph → ℕ → Kind → List ℕ
kind_notes graph t Source = file_note graph t
kind_notes graph t Fir = filter_note (task_at graph t).form (task_at graph t).taps
kind_notes graph t Split = []
kind_notes graph t Decimate = every_note (task_at graph t).every
kind_notes graph t Join = []
kind_notes graph t Peer = peer_note (task_at graph t).mul
kind_notes graph t Sink = []

-- how many steps a task makes at most
abbrev pub until_note : Option ℕ → List ℕ
until_note None = []
until_note (Some steps) = note (codes "until " ++ decimal steps)

-- whether a task joins now
abbrev pub now_note : Bool → List ℕ
now_note joins_now = if joins_now then note (codes "now") else []

-- the steps of a block, where they are several
abbrev pub block_note : ℕ → List ℕ
block_note block = if block == 1 then [] else note (codes "block " ++ decimal block)

-- what a box says of a task
abbrev pub task_notes : Graph → ℕ → List ℕ
task_notes graph t =
    let task = task_at graph t in
    note (task_word task) ++ kind_notes graph t task.kind ++ until_note task.until
    ++ now_note task.joins_now ++ block_note task.block

-- how the node of a name begins that has this shape
abbrev pub node_start : List ℕ → List ℕ → List ℕ
node_start name shape =
    concat (codes "    \"" ∷ name ∷ codes "\" [shape=" ∷ shape ∷ codes ", label=\"" ∷ name ∷ [])

-- and how it ends
abbrev pub node_end : List ℕ
node_end = codes "\"];\n"

-- a node of this name and shape, which says these notes below the name
abbrev pub node : List ℕ → List ℕ → List ℕ → List ℕ
node name shape notes = node_start name shape ++ (notes ++ node_end)

-- phaser p
abbrev pub phaser_node : Graph → ℕ → List ℕ
phaser_node graph p =
    node (name_at graph (place.Phaser p)) (codes "ellipse") (phaser_notes (phaser_at graph p))

-- task t
abbrev pub task_node : Graph → ℕ → List ℕ
task_node graph t = node (name_at graph (place.Task t)) (codes "box") (task_notes graph t)

-- ---- arrows

-- an arrow between two names
abbrev pub arrow : List ℕ → List ℕ → List ℕ
arrow from to = concat (codes "    \"" ∷ from ∷ codes "\" -> \"" ∷ to ∷ codes "\";\n" ∷ [])

-- task t waits on phaser p
abbrev pub wait_arrow : Graph → ℕ → ℕ → List ℕ
wait_arrow graph t p = arrow (name_at graph (place.Phaser p)) (name_at graph (place.Task t))

-- task t signals phaser p
abbrev pub signal_arrow : Graph → ℕ → ℕ → List ℕ
signal_arrow graph t p = arrow (name_at graph (place.Task t)) (name_at graph (place.Phaser p))

-- a dashed arrow between two names, with the number of a step
abbrev pub dashed : List ℕ → List ℕ → List ℕ → List ℕ
dashed from to step =
    concat (codes "    \"" ∷ from ∷ codes "\" -> \"" ∷ to
    ∷ codes "\" [style=dashed, label=\"at " ∷ step ∷ codes "\"];\n" ∷ [])

-- a parent is dashed to its child, which it registers after so many steps
abbrev pub parent_arrow : Graph → ℕ → Option Parent → List ℕ
parent_arrow graph t None = []
parent_arrow graph t (Some parent) =
    dashed (name_at graph (place.Task parent.task)) (name_at graph (place.Task t))
    (decimal parent.at)

-- the arrows of task t: one from each phaser on which it waits, one to each that it signals, and
-- one from its parent
abbrev pub task_arrows : Graph → ℕ → List ℕ
task_arrows graph t =
    let task = task_at graph t in
    flat_map (wait_arrow graph t) task.inputs
    ++ flat_map (signal_arrow graph t) (signalled_by task)
    ++ parent_arrow graph t task.parent

-- ---- the whole

-- the first lines
abbrev pub head : List ℕ
head = codes "digraph {\n    rankdir=LR;\n"

-- the phasers and the tasks in the order of their lines, and then the arrows of each task
abbrev pub drawing : Graph → List ℕ
drawing graph =
    head
    ++ flat_map (phaser_node graph) (range_with_len 0 (length graph.phasers))
    ++ flat_map (task_node graph) (range_with_len 0 (length graph.tasks))
    ++ flat_map (task_arrows graph) (range_with_len 0 (length graph.tasks))
    ++ codes "}\n"
