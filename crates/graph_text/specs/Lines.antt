-- The lines of the program, without where their words lie in memory.
use Rattle.std.specs.Prelude.{ℕ, List, Option, Some, None}
use Rattle.std.specs.Borrow.{Bor}
use Rattle.phase_base.specs.Words.{Word}
use Rattle.graph_text.specs.Plain.{plain as words_in}
use Rattle.graph_text.specs.Decls.{Decl, phaser, task, FunctionWords, neg, abs, halve, clamp, ByWords, EndWords, FilterWords, BodyWords, source, fir, delay, decimate, split, join, peer, sink}
use Rattle.graph_text.specs.declared.line.By.{By}
use Rattle.graph_text.specs.declared.line.Ends.{Ends}
use Rattle.graph_text.specs.declared.line.Filter.{Filter}
use Rattle.graph_text.specs.declared.line.Function.{Function}
use Rattle.graph_text.specs.declared.line.Function.TheVariants as function
use Rattle.graph_text.specs.declared.line.Body.{Body}
use Rattle.graph_text.specs.declared.line.Body.TheVariants as body
use Rattle.graph_text.specs.declared.line.Line.{Line}
use Rattle.graph_text.specs.declared.line.Line.TheVariants as line

-- the function
abbrev pub function_of : Function → FunctionWords
function_of function.Neg = neg
function_of function.Abs = abs
function_of function.Halve = halve
function_of (function.Clamp low high) = clamp low.now high.now

-- the single
abbrev pub single_of : Option Function → Option FunctionWords
single_of None = None
single_of (Some single) = Some (function_of single)

-- the parent
abbrev pub by_of : Option By → Option ByWords
by_of None = None
by_of (Some by) = Some (record { parent = by.parent.now; at = by.at.now; now = by.now })

-- a word, where there is one
abbrev pub word_of : Option (Bor (List ℕ)) → Option Word
word_of None = None
word_of (Some word) = Some word.now

-- the ends
abbrev pub ends_of : Ends → EndWords
ends_of ends = record {
  by = by_of ends.by;
  until = word_of ends.until;
  block = word_of ends.block;
}

-- what a filter does
abbrev pub filter_of : Filter → FilterWords
filter_of filter = record {
  delay = word_of filter.delay;
  shift = filter.shift.now;
  plus = word_of filter.plus;
  taps = words_in filter.taps.now;
  again = words_in filter.again.now;
  single = single_of filter.single;
}

-- what a task does
abbrev pub body_of : Body → BodyWords
body_of (body.Source file output) = source file.now output.now
body_of (body.Fir input output filter) = fir input.now output.now (filter_of filter)
body_of (body.Delay input output steps) = delay input.now output.now steps.now
body_of (body.Decimate input output every) = decimate input.now output.now every.now
body_of (body.Split input outputs) = split input.now (words_in outputs.now)
body_of (body.Join inputs output) = join (words_in inputs.now) output.now
body_of (body.Peer input exchange output factor) =
    peer input.now exchange.now output.now factor.now
body_of (body.Sink input) = sink input.now

-- what a line of the program declares
abbrev pub decl_of : Line → Decl
decl_of (line.Phaser phaser_line) = phaser phaser_line.name.now phaser_line.operation
    phaser_line.bound.now (single_of phaser_line.single)
decl_of (line.Task task_line) =
    task task_line.name.now (body_of task_line.body) (ends_of task_line.ends)
