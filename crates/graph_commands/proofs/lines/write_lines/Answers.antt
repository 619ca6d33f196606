use Rattle.std.proofs.Common.{◌≡◌, ◌+◌, ◌++◌, ◌∷◌, [], ◌∙◌, map, take, drop, ap, rules, arith}
use Rattle.std.proofs.lemmas.List.{take_more, take_all}
use Rattle.std.proofs.lemmas.Result.{err_from_is_err_and, on_err_weaker}
use Rattle.stream_eval.specs.Results.{sink_output}
use Rattle.graph_commands.specs.OutputTexts.{sink_text, text_of}
use Rattle.graph_base.specs.Graphs.{name_at}
use Rattle.graph_base.specs.declared.place.Place.TheVariants as place
use Rattle.watched_io.proofs.Items.{flat_map-map-push, flat_map-map-rest}
use Rattle.graph_commands.proofs.Putting.{Puts-append, prefix_behind, prefix_of_put, prefix_within}
use Rattle.graph_commands.proofs.lines.write_lines.Goals as goal

-- of a sink's text a prefix was put
pub returns-in_err-put_sink-clause-err : goal.returns-in_err-put_sink-clause-err
returns-in_err-put_sink-clause-err g c =
    let p = err_from_is_err_and c.from_residual.result c.from_residual.ensures.1 in
    let lines = c.args.lines.now in
    let graph = c.args.graph.now in
    let i = c.loop-sink.sink-index in
    let sink = c.sink-item.result in
    let item : take (i + 1) lines ≡ take i lines ++ sink ∷ [] =
    take_more lines i sink c.loop-sink-test.true
    ∙ ap (λ x. take i lines ++ x ∷ []) (search rules) in
    let text = sink_text (name_at graph (place.Task sink.task)) sink.start sink.values.items in
    let same : sink_text c.name-name.result.now sink.start sink.values.items ≡ text =
    search rules in
    let more = ap (λ xs. text_of graph (map sink_output xs)) item ∙ flat_map-map-push
    (λ line. sink_text (name_at graph (place.Task line.0)) line.1 line.2) sink_output (take i lines) sink in
    let whole = flat_map-map-rest (λ line. sink_text (name_at graph (place.Task line.0)) line.1 line.2)
    sink_output lines (i + 1) ∙ ap (λ l. l ++ text_of graph (map sink_output (drop (i + 1) lines))) more in
    rw p.1 (prefix_within _ _ [] (text_of graph (map sink_output (take i lines)) ++ text)
    (text_of graph (map sink_output (drop (i + 1) lines))) (text_of graph (map sink_output lines)) whole
    (prefix_behind _ _ _ [] c.loop-sink.piece (text_of graph (map sink_output (take i lines))) text
    c.loop-sink.invariant.0 (rw same at c.in_err-put_sink.ensures.err)))

-- one more sink was put
pub loop-sink-preserved : goal.loop-sink-preserved
loop-sink-preserved g c =
    let lines = c.args.lines.now in
    let graph = c.args.graph.now in
    let i = c.loop-sink.sink-index in
    let sink = c.sink-item.result in
    let item : take (i + 1) lines ≡ take i lines ++ sink ∷ [] =
    take_more lines i sink c.loop-sink-test.true
    ∙ ap (λ x. take i lines ++ x ∷ []) (search rules) in
    let text = sink_text (name_at graph (place.Task sink.task)) sink.start sink.values.items in
    let same : sink_text c.name-name.result.now sink.start sink.values.items ≡ text =
    search rules in
    let more = ap (λ xs. text_of graph (map sink_output xs)) item ∙ flat_map-map-push
    (λ line. sink_text (name_at graph (place.Task line.0)) line.1 line.2) sink_output (take i lines) sink in (
      rw more (Puts-append _ _ _ [] c.loop-sink.piece c.put_sink.new.self
          (text_of graph (map sink_output (take i lines))) text c.loop-sink.invariant.0
          (rw same at c.in_ok-put_sink.ensures.ok)),
      c.in_ok-put_sink.ensures.same ∙ c.loop-sink.invariant.1,
    )

-- of what waited at the end a prefix was written
pub returns-clause-err : goal.returns-clause-err
returns-clause-err g c =
    let lines = c.args.lines.now in
    let whole : take c.loop-sink.sink-index lines ≡ lines =
    take_all c.loop-sink.sink-index lines (omega (arith, c.loop-sink-test.false)) in
    on_err_weaker c.hand_over.result
    (prefix_of_put _ _ _ [] c.loop-sink.piece (text_of c.args.graph.now (map sink_output lines))
    (rw whole at c.loop-sink.invariant.0))
    c.hand_over.ensures.err
