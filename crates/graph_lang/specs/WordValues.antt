-- What the words of a line stand for, after the lines above it.
use Rattle.std.specs.Prelude.{ℕ, Bool, false, List, [], ◌∷◌, ◌++◌, length, map, Option, Some, None, option_map, ℤ, pos}
use Rattle.phase_accum.specs.declared.single.Single.{Single}
use Rattle.phase_accum.specs.declared.single.Single.TheVariants.{Neg, Abs, Halve, Clamp}
use Rattle.phase_base.specs.Words.{Word}
use Rattle.phase_base.specs.Numbers.{nat_value, int_value}
use Rattle.graph_text.specs.Decls.{FunctionWords, neg, abs, halve, clamp, ByWords, EndWords, FilterWords, BodyWords, source, fir, delay, decimate, split, join, peer, sink}
use Rattle.graph_base.specs.Graphs.{Task, Named}
use Rattle.graph_base.specs.Names.{phaser_named, task_named}
use Rattle.phase_base.specs.declared.operation.Op.{Op}
use Rattle.graph_base.specs.declared.line.Kind.{Kind}
use Rattle.graph_base.specs.declared.line.Kind.TheVariants as kind
use Rattle.graph_base.specs.declared.line.Parent.{Parent}
use Rattle.graph_base.specs.declared.line.PhaserLine.{PhaserLine}
use Rattle.stream_filters.specs.Filter.{no_form}
use Rattle.stream_filters.specs.declared.form.Form.{Form}

-- the number that is there, or 0
abbrev pub or_zero : Option ℕ → ℕ
or_zero None = 0
or_zero (Some n) = n

-- the single that a function spells
abbrev pub single_of : FunctionWords → Single
single_of neg = Neg
single_of abs = Abs
single_of halve = Halve
single_of (clamp low high) = Clamp (int_value low, int_value high)

-- ---- a phaser

-- the phaser that the words of a line declare
abbrev pub phaser_line : Op → Word → Option FunctionWords → PhaserLine
phaser_line operation bound single = record {
  op = operation;
  bound = nat_value bound;
  single = option_map single_of single;
}

-- ---- a task

-- what the task of a line does: a delay is a filter
abbrev pub kind_of_body : BodyWords → Kind
kind_of_body (source file output) = kind.Source
kind_of_body (fir input output filter) = kind.Fir
kind_of_body (delay input output steps) = kind.Fir
kind_of_body (decimate input output every) = kind.Decimate
kind_of_body (split input outputs) = kind.Split
kind_of_body (join inputs output) = kind.Join
kind_of_body (peer input exchange output factor) = kind.Peer
kind_of_body (sink input) = kind.Sink

-- the phasers that the task waits for; of a peer X and then E
abbrev pub inputs_of : BodyWords → List Word
inputs_of (source file output) = []
inputs_of (fir input output filter) = input ∷ []
inputs_of (delay input output steps) = input ∷ []
inputs_of (decimate input output every) = input ∷ []
inputs_of (split input outputs) = input ∷ []
inputs_of (join inputs output) = inputs
inputs_of (peer input exchange output factor) = input ∷ exchange ∷ []
inputs_of (sink input) = input ∷ []

-- the phasers that the task signals; of a peer Y alone
abbrev pub outputs_of : BodyWords → List Word
outputs_of (source file output) = output ∷ []
outputs_of (fir input output filter) = output ∷ []
outputs_of (delay input output steps) = output ∷ []
outputs_of (decimate input output every) = output ∷ []
outputs_of (split input outputs) = outputs
outputs_of (join inputs output) = output ∷ []
outputs_of (peer input exchange output factor) = output ∷ []
outputs_of (sink input) = []

-- the taps of a filter, of which the last ones weigh what it put; of a delay the one that copies,
-- and none of another task
abbrev pub taps_of : BodyWords → List ℤ
taps_of (fir input output filter) = map int_value (filter.taps ++ filter.again)
taps_of (delay input output steps) = pos 1 ∷ []
taps_of body = []

-- what the word writes that says what is added, or 0
abbrev pub plus_of : Option Word → ℤ
plus_of None = pos 0
plus_of (Some plus) = int_value plus

-- how many samples before the newest one the word writes that says it, or 0
abbrev pub age_of : Option Word → ℕ
age_of None = 0
age_of (Some steps) = nat_value steps

-- the form that the words of a filter write
abbrev pub form_in : FilterWords → Form
form_in filter = record {
  shift = nat_value filter.shift;
  plus = plus_of filter.plus;
  delay = age_of filter.delay;
  again = length filter.again;
  single = option_map single_of filter.single;
}

-- the form of a filter or a delay, and none of another task
abbrev pub filter_form : BodyWords → Form
filter_form (fir input output filter) = form_in filter
filter_form (delay input output steps) = record no_form { delay = nat_value steps }
filter_form body = no_form

-- the factor of a peer, or 0
abbrev pub factor_of : BodyWords → ℤ
factor_of (peer input exchange output factor) = int_value factor
factor_of body = pos 0

-- of how many values a decimator puts one, and 1 of any other task
abbrev pub every_of : BodyWords → ℕ
every_of (decimate input output every) = nat_value every
every_of body = 1

-- the file of a source
abbrev pub files_in : BodyWords → List (List ℕ)
files_in (source file output) = file ∷ []
files_in body = []

-- the numbers of the phasers of these names
abbrev pub phaser_numbers : List Named → List Word → List ℕ
phaser_numbers names words = map (λ word. or_zero (phaser_named names word)) words

-- the parent that `by` names, and how many steps it makes before
abbrev pub parent_of : List Named → ByWords → Parent
parent_of names by = record {
  task = or_zero (task_named names by.parent);
  at = nat_value by.at;
}

-- the steps of a block that the word behind `block=` writes, or 1 where there is none
abbrev pub block_of : Option Word → ℕ
block_of None = 1
block_of (Some steps) = nat_value steps

-- whether the task joins now
abbrev pub joins_now : Option ByWords → Bool
joins_now None = false
joins_now (Some by) = by.now

-- the task that line n declares, after lines that declared these names
abbrev pub task_line : List Named → ℕ → BodyWords → EndWords → Task
task_line names n body ends = record {
  line = n;
  kind = kind_of_body body;
  inputs = phaser_numbers names (inputs_of body);
  outputs = phaser_numbers names (outputs_of body);
  parent = option_map (parent_of names) ends.by;
  until = option_map nat_value ends.until;
  taps = taps_of body;
  form = filter_form body;
  mul = factor_of body;
  every = every_of body;
  block = block_of ends.block;
  joins_now = joins_now ends.by;
}
