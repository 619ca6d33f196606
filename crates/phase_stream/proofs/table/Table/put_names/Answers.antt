-- A name more was put.
use Rattle.std.proofs.Common.{◌≡◌, ◌<◌, ◌++◌, ◌∙◌, ℕ, List, [], None, Some, length, get_or, map, slice_get, refl, sym, ap, subst, arith}
use Rattle.std.proofs.lemmas.Option.{slice_get_read}
use Rattle.graph_commands.specs.ColumnTexts.{SinkValues, cell_at, comma_before}
use Rattle.graph_base.specs.Graphs.{Graph, name_at}
use Rattle.graph_base.specs.declared.place.Place.TheVariants as place
use Rattle.stream_lists.specs.Lists.{sinks_of}
use Rattle.phase_stream.proofs.LineTexts.{bare_line_at, cells_more}
use Rattle.phase_stream.proofs.RightTables.{column_there}
use Rattle.phase_stream.proofs.table.Table.put_names.Goals as goal

pub name-name-requires : goal.name-name-requires
name-name-requires c =
    let columns = c.args.self.now.columns.items in
    let k = c.loop-k.k in
    let lt = c.loop-k-test.true in
    let end = c.len-k-end.ensures in
    let near = c.loop-k.auto.k-end in
    let okay = c.args.self.now.columns.ok.0 in
    let got : slice_get columns k ≡ Some c.index.result.now =
    slice_get_read columns (length columns) k c.index.result.now refl (omega arith) c.index.ensures in
    let there = column_there c.args.job.now columns k c.index.result.now c.requires got in
    subst (λ (graph : Graph). c.index.result.now.task < length graph.tasks)
    (sym c.graph.ensures.graph) there.3

pub loop-k-preserved : goal.loop-k-preserved
loop-k-preserved c =
    let job = c.args.job.now in
    let columns = c.args.self.now.columns.items in
    let k : ℕ = c.loop-k.k in
    let lt = c.loop-k-test.true in
    let end = c.len-k-end.ensures in
    let near = c.loop-k.auto.k-end in
    let okay = c.args.self.now.columns.ok.0 in
    let column = c.index.result.now in
    let got : slice_get columns k ≡ Some column =
    slice_get_read columns (length columns) k column refl (omega arith) c.index.ensures in
    let there = column_there job columns k column c.requires got in
    let bare : List SinkValues = map (λ t. (t, [])) (sinks_of job) in
    let name : c.as_bytes.result.now ≡ name_at job.graph (place.Task (get_or bare k (0, [])).0) =
    c.as_bytes.ensures.value ∙ c.name-name.ensures.name
    ∙ ap (λ (graph : Graph). name_at graph (place.Task column.task)) c.graph.ensures.graph
    ∙ ap (λ t. name_at job.graph (place.Task t))
    (there.1 ∙ sym (ap (λ (line : SinkValues). line.0) (bare_line_at job k there.0))) in
    cells_more c.args.text.now.items c.loop-k.text.items c.extend_from_slice.new.self.items
    c.extend_from_slice-in-loop-k.new.self.items (cell_at job bare None) k
    c.comma_before.result.now c.as_bytes.result.now c.loop-k.invariant
    c.in_ok-extend_from_slice.ensures.items c.in_ok-extend_from_slice-2.ensures.items
    (ap (λ l. l ++ c.as_bytes.result.now) c.comma_before.ensures
    ∙ ap (λ l. comma_before k ++ l) name)
