-- Tests of a graph: that it is one as they are read.
use Rattle.std.proofs.Common.{◌≡◌, ℕ, suc, ◌<◌, ◌≤◌, All, Contains, IfSome, IsSome, is_some, IsTrue, Bool, true, false, not, cond, List, [], ◌∷◌, ◌++◌, ◌-◌, Option, Some, None, ℤ, pos, length, bytes_eq, get_or, unsigned_abs, refl, sym, ap, ◌∙◌, arith}
use Rattle.std.proofs.lemmas.List.Elements.{All-nil, All-cons}
use Rattle.std.proofs.lemmas.Option.{same_Some}
use Rattle.std.proofs.lemmas.Slice.Eq.{bytes_eq-Decides}
use Rattle.phase_base.specs.declared.limits.TheConstants.{BOUND_MAX}
use Rattle.phase_accum.specs.declared.single.Single.{Single}
use Rattle.phase_accum.specs.Singles.{CanBeNamed}
use Rattle.phase_base.specs.Words.{Word, is_name, is_file}
use Rattle.graph_base.specs.declared.limits.TheConstants.{PHASERS_MAX, TASKS_MAX, ENDS_MAX, STEPS_MAX, FACTOR_MAX, EVERY_MAX}
use Rattle.graph_base.specs.declared.line.Kind.{Kind}
use Rattle.graph_base.specs.declared.line.Kind.TheVariants.{Source, Fir, Split, Decimate, Join, Peer, Sink}
use Rattle.graph_base.specs.declared.line.Parent.{Parent}
use Rattle.graph_base.specs.declared.line.PhaserLine.{PhaserLine}
use Rattle.graph_base.specs.declared.place.Place.{Place}
use Rattle.graph_base.specs.declared.place.Place.TheVariants as at_place
use Rattle.graph_base.specs.Graphs.{Graph, Task, Named, IsPlace, name_at, task_at, phaser_at, sources_of}
use Rattle.graph_base.specs.Names.{place_of}
use Rattle.graph_base.specs.TaskLines.{IsGraph, IsTaskLine, IsPhaserLine, IsParent, AreNames, AreRising, AreAmong, HasEnds, HasTaps, HasFactor, HasEvery, HasBlock, MayJoinNow, IsExchangeBelow, has_children, has_blocks}
use Rattle.phase_base.specs.Lists.{is_distinct}
use Rattle.stream_filters.specs.Filter.{no_form}
use Rattle.stream_filters.specs.declared.form.Form.{Form}
use Rattle.worked_runs.proofs.Tests as test
use Rattle.worked_runs.proofs.Tests.{Test, Both, never, always, giving, both, either, each, when_some, where_so}

-- ---- lists

abbrev pub all_of : {X : Type 0} (P : X → Type 0) (xs : List X) → ((x : X) → Test (P x))
    → Test (All P xs)
all_of P [] test = always (All-nil P)
all_of P (x ∷ xs) test =
    giving (λ b. All-cons P x xs b.left b.right) (both (test x) (all_of P xs test))

pub later_too : (qs : List ℕ) (q p : ℕ) → Contains qs p → Contains (q ∷ qs) p
later_too qs q p c = let lt : c.0 < length qs = c.1 in (suc c.0, omega arith, c.2)

abbrev pub contains : (qs : List ℕ) (p : ℕ) → Test (Contains qs p)
contains [] p = never
contains (q ∷ qs) p =
    either (Contains (q ∷ qs) p) (giving (λ same. (0, omega arith, same)) (test.is_equal q p))
    (giving (later_too qs q p) (contains qs p))

abbrev pub are_among : (ps qs : List ℕ) → Test (AreAmong ps qs)
are_among ps qs = all_of (λ p. Contains qs p) ps (λ p. contains qs p)

abbrev pub if_some : {X : Type 0} (o : Option X) (P : X → Type 0) → ((x : X) → Test (P x))
    → Test (IfSome o P)
if_some None P test = always tt
if_some (Some x) P test = test x

-- ---- the line of a task

abbrev pub has_ends : (kind : Kind) (inputs outputs : ℕ) → Test (HasEnds kind inputs outputs)
has_ends Source inputs outputs =
    giving (λ b. (b.left, b.right)) (both (test.is_equal inputs 0) (test.is_equal outputs 1))
has_ends Fir inputs outputs =
    giving (λ b. (b.left, b.right)) (both (test.is_equal inputs 1) (test.is_equal outputs 1))
has_ends Split inputs outputs =
    giving (λ b. (b.left, b.right.left, b.right.right))
    (both (test.is_equal inputs 1)
    (both (test.is_at_most 2 outputs) (test.is_at_most outputs ENDS_MAX)))
has_ends Decimate inputs outputs =
    giving (λ b. (b.left, b.right)) (both (test.is_equal inputs 1) (test.is_equal outputs 1))
has_ends Join inputs outputs =
    giving (λ b. (b.left, b.right.left, b.right.right))
    (both (test.is_at_most 2 inputs)
    (both (test.is_at_most inputs ENDS_MAX) (test.is_equal outputs 1)))
has_ends Peer inputs outputs =
    giving (λ b. (b.left, b.right)) (both (test.is_equal inputs 2) (test.is_equal outputs 1))
has_ends Sink inputs outputs =
    giving (λ b. (b.left, b.right)) (both (test.is_equal inputs 1) (test.is_equal outputs 0))

abbrev pub is_exchange_below : (kind : Kind) (inputs : List ℕ)
    → Test (IsExchangeBelow kind inputs)
is_exchange_below Peer inputs = test.is_below (get_or inputs 0 0) (get_or inputs 1 0)
is_exchange_below Source inputs = always tt
is_exchange_below Fir inputs = always tt
is_exchange_below Split inputs = always tt
is_exchange_below Decimate inputs = always tt
is_exchange_below Join inputs = always tt
is_exchange_below Sink inputs = always tt

-- a form is known by its parts
form_by : (shift : ℕ) (plus : ℤ) (delay again : ℕ) (single : Option Single) → shift ≡ 0
    → plus ≡ pos 0 → delay ≡ 0 → again ≡ 0 → single ≡ None
    → record {
      shift = shift;
      plus = plus;
      delay = delay;
      again = again;
      single = single;
    } ≡ no_form
form_by shift plus delay again single a b c d e = rw (a, b, c, d, e) refl

pub form_is : (form : Form) → form.shift ≡ 0 → form.plus ≡ pos 0 → form.delay ≡ 0
    → form.again ≡ 0 → form.single ≡ None → form ≡ no_form
form_is form a b c d e =
    form_by form.shift form.plus form.delay form.again form.single a b c d e

abbrev no_single : (single : Option Single) → Test (single ≡ None)
no_single None = always refl
no_single (Some single) = never

abbrev pub no_taps : (taps : List ℤ) (form : Form) → Test ((taps ≡ []) × (form ≡ no_form))
no_taps taps form =
    giving (λ b. (
      b.left,
      form_is form b.right.left b.right.right.left b.right.right.right.left
          b.right.right.right.right.left b.right.right.right.right.right,
    ))
    (both (test.is_empty taps)
    (both (test.is_equal form.shift 0)
    (both (test.is_value form.plus (pos 0))
    (both (test.is_equal form.delay 0)
    (both (test.is_equal form.again 0) (no_single form.single))))))

abbrev pub has_taps : (kind : Kind) (taps : List ℤ) (form : Form) → Test (HasTaps kind taps form)
has_taps Fir taps form =
    giving (λ b. record {
      some = b.left;
      few = b.right.left;
      again_few = b.right.right.left;
      small = b.right.right.right.left;
      shift_small = b.right.right.right.right.left;
      plus_small = b.right.right.right.right.right.left;
      delay_small = b.right.right.right.right.right.right;
    })
    (both (test.is_at_most 1 (length taps - form.again))
    (both (test.is_at_most (length taps - form.again) 1024)
    (both (test.is_at_most form.again 64)
    (both (all_of (λ tap. unsigned_abs tap ≤ 2147483647) taps
    (λ tap. test.is_at_most (unsigned_abs tap) 2147483647))
    (both (test.is_at_most form.shift 62)
    (both (test.is_at_most (unsigned_abs form.plus) 4611686018427387904)
    (test.is_at_most form.delay 65536)))))))
has_taps Source taps form = no_taps taps form
has_taps Split taps form = no_taps taps form
has_taps Decimate taps form = no_taps taps form
has_taps Join taps form = no_taps taps form
has_taps Peer taps form = no_taps taps form
has_taps Sink taps form = no_taps taps form

abbrev pub has_factor : (kind : Kind) (mul : ℤ) → Test (HasFactor kind mul)
has_factor Peer mul = test.is_at_most (unsigned_abs mul) FACTOR_MAX
has_factor Source mul = test.is_value mul (pos 0)
has_factor Fir mul = test.is_value mul (pos 0)
has_factor Split mul = test.is_value mul (pos 0)
has_factor Decimate mul = test.is_value mul (pos 0)
has_factor Join mul = test.is_value mul (pos 0)
has_factor Sink mul = test.is_value mul (pos 0)

abbrev pub has_every : (kind : Kind) (every : ℕ) → Test (HasEvery kind every)
has_every Decimate every =
    giving (λ b. (b.left, b.right))
    (both (test.is_at_most 1 every) (test.is_at_most every EVERY_MAX))
has_every Source every = test.is_equal every 1
has_every Fir every = test.is_equal every 1
has_every Split every = test.is_equal every 1
has_every Join every = test.is_equal every 1
has_every Peer every = test.is_equal every 1
has_every Sink every = test.is_equal every 1

abbrev pub is_parent : (graph : Graph) (t : ℕ) (task : Task) (parent : Parent)
    → Test (IsParent graph t task parent)
is_parent graph t task parent =
    let above = task_at graph parent.task in
    giving (λ b. record {
      above = b.left;
      steps = b.right.left;
      kind = b.right.right.left;
      child_kind = b.right.right.right.left;
      stays = b.right.right.right.right.left;
      waits = b.right.right.right.right.right.left;
      signals = b.right.right.right.right.right.right;
    })
    (both (test.is_below parent.task t)
    (both (test.is_at_most parent.at STEPS_MAX)
    (both (test.is_true (has_children above.kind))
    (both (test.is_true (has_children task.kind))
    (both (test.is_false above.joins_now)
    (both (are_among task.inputs above.inputs) (are_among task.outputs above.outputs)))))))

abbrev pub has_block : (graph : Graph) (task : Task) → Test (HasBlock graph task)
has_block graph task =
    let Room : ℕ → Type 0 = λ p. task.block ≤ (phaser_at graph p).bound in
    giving (λ b. record {
      some = b.left;
      kind = b.right.left;
      inputs = b.right.right.left;
      outputs = b.right.right.right;
    })
    (both (test.is_at_most 1 task.block)
    (both
    (where_so (has_blocks task.kind ≡ false) (task.block ≡ 1) (not (has_blocks task.kind))
    (λ e. rw e refl) (test.is_equal task.block 1))
    (both (all_of Room task.inputs (λ p. test.is_at_most task.block (phaser_at graph p).bound))
    (all_of Room task.outputs (λ p. test.is_at_most task.block (phaser_at graph p).bound)))))

abbrev pub is_sink_kind : (kind : Kind) → Test (kind ≡ Sink)
is_sink_kind Sink = always refl
is_sink_kind Source = never
is_sink_kind Fir = never
is_sink_kind Split = never
is_sink_kind Decimate = never
is_sink_kind Join = never
is_sink_kind Peer = never

abbrev pub may_join_now : (task : Task) → Test (MayJoinNow task)
may_join_now task =
    where_so (task.joins_now ≡ true) ((task.kind ≡ Sink) × IsSome task.parent) task.joins_now
    (λ now. now)
    (giving (λ b. (b.left, b.right))
    (both (is_sink_kind task.kind) (test.is_true (is_some task.parent))))

abbrev pub is_task_line : (graph : Graph) (t : ℕ) (task : Task) → Test (IsTaskLine graph t task)
is_task_line graph t task =
    let On : ℕ → Type 0 = λ p. p < length graph.phasers in
    let Above : ℕ → Type 0 = λ x. All (λ y. x < y) task.outputs in
    let Plain : ℕ → Type 0 = λ y. (phaser_at graph y).single ≡ None in
    giving (λ b. record {
      ends = b.left.left;
      inputs = b.left.right.left;
      outputs = b.left.right.right.left;
      distinct = b.left.right.right.right.left;
      in_order = b.left.right.right.right.right;
      exchange = b.right.left;
      plain = b.right.right.left;
      taps = b.right.right.right.left;
      factor = b.right.right.right.right.left;
      every = b.right.right.right.right.right.left;
      until = b.right.right.right.right.right.right.left;
      parent = b.right.right.right.right.right.right.right.left;
      block = b.right.right.right.right.right.right.right.right.left;
      now = b.right.right.right.right.right.right.right.right.right;
    })
    (both
    (both (has_ends task.kind (length task.inputs) (length task.outputs))
    (both (all_of On task.inputs (λ p. test.is_below p (length graph.phasers)))
    (both (all_of On task.outputs (λ p. test.is_below p (length graph.phasers)))
    (both (test.is_true (is_distinct (task.inputs ++ task.outputs)))
    (all_of Above task.inputs
    (λ x. all_of (λ y. x < y) task.outputs (λ y. test.is_below x y)))))))
    (both (is_exchange_below task.kind task.inputs)
    (both (all_of Plain task.outputs (λ y. test.is_none (phaser_at graph y).single))
    (both (has_taps task.kind task.taps task.form)
    (both (has_factor task.kind task.mul)
    (both (has_every task.kind task.every)
    (both (if_some task.until (λ steps. steps ≤ STEPS_MAX)
    (λ steps. test.is_at_most steps STEPS_MAX))
    (both (if_some task.parent (λ parent. IsParent graph t task parent)
    (λ parent. is_parent graph t task parent))
    (both (has_block graph task) (may_join_now task))))))))))

-- ---- the line of a phaser, without a single

abbrev pub can_be_named : (single : Option Single) → Test (CanBeNamed single)
can_be_named None = always tt
can_be_named (Some single) = never

abbrev pub is_phaser_line : (phaser : PhaserLine) → Test (IsPhaserLine phaser)
is_phaser_line phaser =
    giving (λ b. record { bound = (b.left, b.right.left); single = b.right.right })
    (both (test.is_at_most 1 phaser.bound)
    (both (test.is_at_most phaser.bound BOUND_MAX) (can_be_named phaser.single)))

-- ---- names

abbrev pub are_bytes : (xs ys : List ℕ) → Test (xs ≡ ys)
are_bytes xs ys =
    giving (λ same. (bytes_eq-Decides xs ys).0 same) (test.is_true (bytes_eq xs ys))

-- each of these names is that of what it stands for
abbrev pub AreTheirs : Graph → List Named → Type 0
AreTheirs graph [] = Unit {0}
AreTheirs graph (named ∷ others) =
    Both (name_at graph named.1 ≡ named.0) (AreTheirs graph others)

abbrev pub are_theirs : (graph : Graph) (names : List Named) → Test (AreTheirs graph names)
are_theirs graph [] = always tt
are_theirs graph (named ∷ others) =
    both (are_bytes (name_at graph named.1) named.0) (are_theirs graph others)

pub found_among : (graph : Graph) (names : List Named) → AreTheirs graph names → (name : Word)
    (at : Place) → place_of names name ≡ Some at → name_at graph at ≡ name
found_among graph [] are name at e = absurd (cc)
found_among graph (named ∷ others) are name at e =
    by (bytes_eq name named.0) refl e (λ f. found_among graph others are.right name at f)
  where
    by : (b : Bool) → bytes_eq name named.0 ≡ b
        → cond b (Some named.1) (place_of others name) ≡ Some at
        → (place_of others name ≡ Some at → name_at graph at ≡ name) → name_at graph at ≡ name
    by true same e later =
        ap (name_at graph) (sym (same_Some named.1 at e)) ∙ are.left
        ∙ sym ((bytes_eq-Decides name named.0).0 same)
    by false other e later = later e

abbrev pub is_place : (graph : Graph) (at : Place) → Test (IsPlace graph at)
is_place graph (at_place.Phaser p) = test.is_below p (length graph.phasers)
is_place graph (at_place.Task t) = test.is_below t (length graph.tasks)

abbrev pub stands_for : (o : Option Place) (at : Place) → Test (o ≡ Some at)
stands_for None at = never
stands_for (Some (at_place.Phaser p)) (at_place.Phaser q) =
    giving (λ same. ap (λ n. Some (at_place.Phaser n)) same) (test.is_equal p q)
stands_for (Some (at_place.Task t)) (at_place.Task u) =
    giving (λ same. ap (λ n. Some (at_place.Task n)) same) (test.is_equal t u)
stands_for (Some (at_place.Phaser p)) (at_place.Task u) = never
stands_for (Some (at_place.Task t)) (at_place.Phaser q) = never

-- what holds of the name of a place
abbrev pub HasName : Graph → Place → Type 0
HasName graph at = Both (place_of graph.names (name_at graph at) ≡ Some at)
    (IsTrue (is_name (name_at graph at)))

abbrev pub has_name : (graph : Graph) (at : Place) → Test (HasName graph at)
has_name graph at =
    both (stands_for (place_of graph.names (name_at graph at)) at)
    (test.is_true (is_name (name_at graph at)))

pub any_place : (graph : Graph)
    → ((p : ℕ) → p < length graph.phasers → HasName graph (at_place.Phaser p))
    → ((t : ℕ) → t < length graph.tasks → HasName graph (at_place.Task t))
    → (at : Place) → IsPlace graph at → HasName graph at
any_place graph phasers tasks (at_place.Phaser p) is = phasers p is
any_place graph phasers tasks (at_place.Task t) is = tasks t is

abbrev pub are_names : (graph : Graph) → Test (AreNames graph)
are_names graph =
    giving (λ b. record {
      places = b.left;
      found = found_among graph graph.names b.right.left;
      known = λ at is. (any_place graph b.right.right.left b.right.right.right at is).left;
      names = λ at is. (any_place graph b.right.right.left b.right.right.right at is).right;
    })
    (both (all_of (λ (named : Named). IsPlace graph named.1) graph.names
    (λ (named : Named). is_place graph named.1))
    (both (are_theirs graph graph.names)
    (both (each (length graph.phasers) (λ p. HasName graph (at_place.Phaser p))
    (λ p. has_name graph (at_place.Phaser p)))
    (each (length graph.tasks) (λ t. HasName graph (at_place.Task t))
    (λ t. has_name graph (at_place.Task t))))))

-- ---- the graph

abbrev pub are_rising : (graph : Graph) → Test (AreRising graph)
are_rising graph =
    let line : ℕ → ℕ = λ t. (task_at graph t).line in
    giving (λ b. record { counted = b.left; rising = λ t u less below. b.right u below t less })
    (both (each (length graph.tasks) (λ t. 1 ≤ line t) (λ t. test.is_at_most 1 (line t)))
    (each (length graph.tasks) (λ u. (t : ℕ) → t < u → line t < line u)
    (λ u. each u (λ t. line t < line u) (λ t. test.is_below (line t) (line u)))))

abbrev pub is_graph : (graph : Graph) → Test (IsGraph graph)
is_graph graph =
    giving (λ b. record {
      few_phasers = b.left;
      few_tasks = b.right.left;
      phasers = b.right.right.left;
      tasks = b.right.right.right.left;
      lines = b.right.right.right.right.left;
      files = b.right.right.right.right.right.left;
      are_files = b.right.right.right.right.right.right.left;
      names = b.right.right.right.right.right.right.right;
    })
    (both (test.is_at_most (length graph.phasers) PHASERS_MAX)
    (both (test.is_at_most (length graph.tasks) TASKS_MAX)
    (both (each (length graph.phasers) (λ p. IsPhaserLine (phaser_at graph p))
    (λ p. is_phaser_line (phaser_at graph p)))
    (both (each (length graph.tasks) (λ t. IsTaskLine graph t (task_at graph t))
    (λ t. is_task_line graph t (task_at graph t)))
    (both (are_rising graph)
    (both (test.is_equal (length graph.files) (sources_of graph))
    (both (all_of (λ file. IsTrue (is_file file)) graph.files (λ file. test.is_true (is_file file)))
    (are_names graph))))))))
