-- What a reader lends.
use Rattle.std.proofs.Common.{ℕ, ◌≡◌, ◌<◌, ◌≤◌, ◌==◌, ◌&&◌, not, true, nat_le, List, ◌∙◌, length, map, get_or, ap, sym}
use Rattle.std.specs.Prelude.{slice_index}
use Rattle.std.specs.List.{list_all}
use Rattle.std.proofs.lemmas.Bool.{and_parts, leb-true}
use Rattle.std.proofs.lemmas.List.{get_or-map}
use Rattle.phase_base.specs.Words.{is_name, is_letter, is_name_byte, is_kind_word, is_mark}
use Rattle.phase_base.specs.declared.word.TheConstants.{NAME_MAX}
use Rattle.graph_base.specs.Graphs.{no_task}
use Rattle.graph_base.specs.GraphFields.{task_of}
use Rattle.graph_base.specs.declared.line.TaskLine.{TaskLine}

-- a line that is lent is the task of its number
pub task_of-get_or : (lines : List TaskLine) (t : ℕ) (line : TaskLine) → t < length lines
    → line ≡ get_or lines t line → get_or (map task_of lines) t no_task ≡ task_of line
task_of-get_or lines t line below e =
    get_or-map task_of lines t line no_task below ∙ ap task_of (sym e)

-- a name of the grammar has few bytes
pub name-few : (word : List ℕ) → is_name word ≡ true → length word ≤ NAME_MAX
name-few word is =
    let size = not (length word == 0) && nat_le (length word) NAME_MAX in
    let begun = size && is_letter (slice_index word 0) in
    let bytes = begun && list_all is_name_byte word in
    let kinds = bytes && not (is_kind_word word) in
    let all = and_parts size (is_letter (slice_index word 0))
    (and_parts begun (list_all is_name_byte word)
    (and_parts bytes (not (is_kind_word word)) (and_parts kinds (not (is_mark word)) is).0).0).0 in
    leb-true (length word) NAME_MAX
    (and_parts (not (length word == 0)) (nat_le (length word) NAME_MAX) all.0).1
