-- The names were written, and the run goes on; or a part of them was.
use Rattle.std.proofs.Common.{◌∙◌, Err, inr, refl, sym, ap, subst}
use Rattle.std.specs.Io.KnownBytes.{Appends}
use Rattle.watched_io.specs.Prefix.{AppendsPrefix}
use Rattle.watched_io.specs.States.{writer_state}
use Rattle.watched_io.specs.Watched.{inner_of}
use Rattle.phase_stream.specs.TableLines.{AreNewColumns, names_line}
use Rattle.phase_stream.specs.Tables.{unknown}
use Rattle.phase_stream.proofs.FirstTables.{first_part, first_table, table_does, table_stops}
use Rattle.phase_stream.proofs.Results.{with_err, with_ok}
use Rattle.phase_stream.proofs.TableStops.{io_table}
use Rattle.phase_stream.proofs.streamed_table.begin.Goals as goal

pub go-requires-clause-stands : goal.go-requires-clause-stands
go-requires-clause-stands g c =
    let session = c.in-Ok-new.session in
    let columns = c.in-Ok.table.columns.items in
    let new = subst (λ j. AreNewColumns j columns) (c.job.ensures ∙ sym c.in-Ok-new.ensures.job)
    c.in-Ok.ensures in
    let old = g.W.Write.contents (inner_of c.args.output.now) in
    let now = g.W.Write.contents (inner_of c.write_names.new.output) in
    let known = g.F.Files.file c.args.files.now in (
      known,
      old,
      λ name. refl,
      first_table g.F.Reader.Read.remaining known old now session c.in-Ok.table
          (c.in-Ok-new.ensures.stands known unknown unknown (λ k. tt)) new
          (subst (λ j. Appends old now (names_line j)) c.job-2.ensures c.in-Ok-write_names.ensures.ok),
    )

pub returns-in-Ok-write_names-clause-done : goal.returns-in-Ok-write_names-clause-done
returns-in-Ok-write_names-clause-done g c =
    let session = c.in-Ok-new.session in
    let columns = c.in-Ok.table.columns.items in
    let new = subst (λ j. AreNewColumns j columns) (c.job.ensures ∙ sym c.in-Ok-new.ensures.job)
    c.in-Ok.ensures in
    let old = g.W.Write.contents (inner_of c.args.output.now) in
    let now = g.W.Write.contents (inner_of c.write_names.new.output) in
    let put = subst (λ j. Appends old now (names_line j)) c.job-2.ensures
    c.in-Ok-write_names.ensures.ok in
    with_ok c.go.result _ _
    (λ whole known is of_graph. table_does known c.args.call.now.graph.now c.args.stream.job
    session.stream.job old (g.W.Write.contents (inner_of c.go.new.output)) c.in-Ok-new.ensures.job
    of_graph (whole known old is (first_table g.F.Reader.Read.remaining known old now session
    c.in-Ok.table (c.in-Ok-new.ensures.stands known unknown unknown (λ k. tt)) new put)))
    c.go.ensures.done

pub returns-in-Ok-write_names-clause-failed : goal.returns-in-Ok-write_names-clause-failed
returns-in-Ok-write_names-clause-failed g c =
    let session = c.in-Ok-new.session in
    let columns = c.in-Ok.table.columns.items in
    let new = subst (λ j. AreNewColumns j columns) (c.job.ensures ∙ sym c.in-Ok-new.ensures.job)
    c.in-Ok.ensures in
    let old = g.W.Write.contents (inner_of c.args.output.now) in
    let now = g.W.Write.contents (inner_of c.write_names.new.output) in
    let put = subst (λ j. Appends old now (names_line j)) c.job-2.ensures
    c.in-Ok-write_names.ensures.ok in
    with_err c.go.result _ _
    (λ found stops known is of_graph. inr (table_stops known c.args.call.now.graph.now
    c.args.stream.job session.stream.job old (writer_state g.W.Write.contents c.go.new.output) found
    c.in-Ok-new.ensures.job of_graph (stops known old is (first_table g.F.Reader.Read.remaining known
    old now session c.in-Ok.table (c.in-Ok-new.ensures.stands known unknown unknown (λ k. tt)) new
    put))))
    c.go.ensures.failed

pub returns-clause-failed : goal.returns-clause-failed
returns-clause-failed g c = λ known is of_graph.
    (let session = c.in-Ok-new.session in
    let columns = c.in-Ok.table.columns.items in
    let new = subst (λ j. AreNewColumns j columns) (c.job.ensures ∙ sym c.in-Ok-new.ensures.job)
    c.in-Ok.ensures in
    let old = g.W.Write.contents (inner_of c.args.output.now) in
    let now = g.W.Write.contents (inner_of c.write_names.new.output) in
    let part = subst (λ j. AppendsPrefix old now (names_line j)) c.job-2.ensures
    c.in-Err.ensures.err in
    inr (table_stops known c.args.call.now.graph.now c.args.stream.job session.stream.job old
    (writer_state g.W.Write.contents c.write_names.new.output) _ c.in-Ok-new.ensures.job of_graph
    (io_table known session.stream.job old (writer_state g.W.Write.contents c.write_names.new.output)
    c.in-Err.fault
    (first_part g.F.Reader.Read.remaining known old now session c.in-Ok.table
    (c.in-Ok-new.ensures.stands known unknown unknown (λ k. tt)) new part)
    (λ e. c.write_names.ensures.failed (c.in-Err.is ∙ ap Err e)))))
