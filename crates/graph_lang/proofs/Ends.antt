-- What well-formed words say of a task's line.
use Rattle.std.proofs.Common.{ℕ, ℤ, List, option_map, ◌≡◌, Bool, Option, IfSome, IsTrue, refl}
use Rattle.graph_base.specs.Graphs.{Named}
use Rattle.graph_base.specs.declared.line.Kind.{Kind}
use Rattle.graph_base.specs.declared.line.Parent.{Parent}
use Rattle.phase_base.specs.Numbers.{is_nat, nat_value}
use Rattle.graph_text.specs.Decls.{EndWords, BodyWords, IsBy, AreEnds, MayHaveBy, may_have_blocks}
use Rattle.graph_text.specs.declared.version.Version.{Version}
use Rattle.stream_filters.specs.declared.form.Form.{Form}
use Rattle.graph_lang.specs.WordValues.{inputs_of, outputs_of, task_line, kind_of_body, phaser_numbers, parent_of, taps_of, filter_form, factor_of, every_of, block_of, joins_now}
use Rattle.graph_lang.proofs.Grown.{weaken_some}

-- the parent is a name, and its steps a number
pub ends-by : (version : Version) (body : BodyWords) (ends : EndWords) → AreEnds version body ends
    → IfSome ends.by IsBy
ends-by version body ends are =
    weaken_some ends.by (λ by. IsBy by × MayHaveBy version body by) IsBy (λ by is. is.0) are.by

-- the steps of a block are a number
pub ends-block : (version : Version) (body : BodyWords) (ends : EndWords)
    → AreEnds version body ends → IfSome ends.block (λ steps. IsTrue (is_nat steps))
ends-block version body ends are =
    weaken_some ends.block
    (λ steps. IsTrue (is_nat steps) × IsTrue (may_have_blocks version body))
    (λ steps. IsTrue (is_nat steps)) (λ steps is. is.0) are.block

-- the task of a line, by its fields
pub task-built : (names : List Named) (n : ℕ) (body : BodyWords) (ends : EndWords) (kind : Kind)
    (inputs outputs : List ℕ) (parent : Option Parent) (until : Option ℕ) (taps : List ℤ) (form : Form)
    (mul : ℤ) (every block : ℕ) (now : Bool) → kind ≡ kind_of_body body
    → inputs ≡ phaser_numbers names (inputs_of body) → outputs ≡ phaser_numbers names (outputs_of body)
    → parent ≡ option_map (parent_of names) ends.by
    → until ≡ option_map nat_value ends.until → taps ≡ taps_of body → form ≡ filter_form body
    → mul ≡ factor_of body → every ≡ every_of body → block ≡ block_of ends.block
    → now ≡ joins_now ends.by
    → record {
      line = n;
      kind = kind;
      inputs = inputs;
      outputs = outputs;
      parent = parent;
      until = until;
      taps = taps;
      form = form;
      mul = mul;
      every = every;
      block = block;
      joins_now = now;
    } ≡ task_line names n body ends
task-built names n body ends kind inputs outputs parent until taps form mul every block now a b c d
    e f g h i j k =
    rw (a, b, c, d, e, f, g, h, i, j, k) refl
