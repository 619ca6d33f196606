use Rattle.std.proofs.Common.{◌≡◌, length, rules}
use Rattle.std.specs.List.{flat_map}
use Rattle.std.proofs.lemmas.Result.{err_from_is_err_and, on_err_weaker, on_ok_weaker}
use Rattle.graph_commands.specs.OutputTexts.{heading_text, value_text}
use Rattle.graph_commands.proofs.Putting.{Puts-append, prefix_before, prefix_behind}
use Rattle.graph_commands.proofs.output_buffer.OutputBuffer.put_sink.Goals as goal

-- of the heading a prefix was put
pub returns-in_err-put_heading-clause-err : goal.returns-in_err-put_heading-clause-err
returns-in_err-put_heading-clause-err g c =
    let p = err_from_is_err_and c.from_residual.result c.from_residual.ensures.1 in
    let sink = c.args.sink.now in
    let count : c.len.result ≡ length sink.values.items = search rules in
    rw p.1 (prefix_before _ _ c.args.self.now
    (heading_text c.args.name.now sink.start (length sink.values.items))
    (flat_map value_text sink.values.items)
    (rw count at c.in_err-put_heading.ensures.err))

-- the heading and the values
pub returns-clause-ok : goal.returns-clause-ok
returns-clause-ok g c =
    let sink = c.args.sink.now in
    let count : c.len.result ≡ length sink.values.items = search rules in
    let values : c.deref.result.now ≡ sink.values.items = search rules in
    on_ok_weaker c.put_all.result
    (Puts-append _ _ _ c.args.self.now c.put_heading.new.self _
    (heading_text c.args.name.now sink.start (length sink.values.items))
    (flat_map value_text sink.values.items)
    (rw count at c.in_ok-put_heading.ensures.ok))
    (rw values at c.put_all.ensures.ok)

pub returns-clause-err : goal.returns-clause-err
returns-clause-err g c =
    let sink = c.args.sink.now in
    let count : c.len.result ≡ length sink.values.items = search rules in
    let values : c.deref.result.now ≡ sink.values.items = search rules in
    on_err_weaker c.put_all.result
    (prefix_behind _ _ _ c.args.self.now c.put_heading.new.self
    (heading_text c.args.name.now sink.start (length sink.values.items))
    (flat_map value_text sink.values.items)
    (rw count at c.in_ok-put_heading.ensures.ok))
    (rw values at c.put_all.ensures.err)
