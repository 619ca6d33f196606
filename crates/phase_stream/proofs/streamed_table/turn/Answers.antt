-- What the sinks have is taken over, and its lines are written.
use Rattle.std.proofs.Common.{◌∙◌, true, refl, sym, ap}
use Rattle.stream_job.specs.Streams.{ended_at}
use Rattle.stream_lists.specs.Lists.{sinks_of}
use Rattle.phase_stream.specs.TableLines.{by_number, goes_on}
use Rattle.phase_stream.proofs.TableStops.{part_first}
use Rattle.phase_stream.proofs.TurnedTables.{after_end, after_run, after_take, after_write, part_now, part_of, same_stop}
use Rattle.phase_stream.proofs.streamed_table.turn.Goals as goal

pub take-requires : goal.take-requires
take-requires g c = c.requires ∙ ap (λ j. sinks_of j) (sym c.run.ensures.same.job)

pub returns-in_default-clause-err : goal.returns-in_default-clause-err
returns-in_default-clause-err g c = λ held old st.
    part_now g.R.Read.remaining held old _ c.args.session.now c.args.table.now true st

pub returns-in_default-take-clause-err : goal.returns-in_default-take-clause-err
returns-in_default-take-clause-err g c = λ held old st.
    part_now g.R.Read.remaining held old _ c.args.session.now c.args.table.now true st

pub returns-in-Ok-write-clause-ok : goal.returns-in-Ok-write-clause-ok
returns-in-Ok-write-clause-ok g c = λ held old st.
    (let mid = c.run.new.self in
    let after = record mid { stream = c.forget_all.new.stream } in
    let stop = c.in-Ok.stop in
    let gone = after_run g.R.Read.remaining held old _ c.args.session.now mid c.args.table.now st
    c.run.ensures.goes_on c.run.ensures.others.0 in
    let took = after_take g.R.Read.remaining held old _ mid after c.args.table.now c.take.new.self stop
    gone c.in-Ok.ensures.stops c.in-Ok-take.ensures.ok c.forget_all.ensures refl in
    let ended = after_end g.R.Read.remaining held old _ after c.take.new.self c.end.new.table stop took
    c.end.ensures in
    let by = ended.table_stands.stands in
    same_stop g.R.Read.remaining held old _ after c.write.new.self stop c.with_wanted.result
    (after_write g.R.Read.remaining held old _ _ after c.end.new.table c.write.new.self stop ended
    (c.in-Ok-write.ensures.ok after.stream.job (ended_at after.stream) (goes_on stop) by.samples
    by.moment (by_number after.stream.job by.given) ended.table_stands.view ended.table_stands.shows)
    c.in-Ok-write.ensures.line c.in-Ok-write.ensures.left)
    c.with_wanted.ensures)

pub returns-in-Err-clause-err : goal.returns-in-Err-clause-err
returns-in-Err-clause-err g c = λ held old st.
    (let mid = c.run.new.self in
    let after = record mid { stream = c.forget_all.new.stream } in
    let stop = c.in-Ok.stop in
    let gone = after_run g.R.Read.remaining held old _ c.args.session.now mid c.args.table.now st
    c.run.ensures.goes_on c.run.ensures.others.0 in
    let took = after_take g.R.Read.remaining held old _ mid after c.args.table.now c.take.new.self stop
    gone c.in-Ok.ensures.stops c.in-Ok-take.ensures.ok c.forget_all.ensures refl in
    let ended = after_end g.R.Read.remaining held old _ after c.take.new.self c.end.new.table stop took
    c.end.ensures in
    let by = ended.table_stands.stands in
    part_first held c.args.session.now.stream.job after.stream.job old _
    (c.forget_all.ensures.job ∙ c.run.ensures.same.job)
    (part_of g.R.Read.remaining held old _ _ after c.end.new.table (goes_on stop) ended.table_stands
    (c.in-Err.ensures.err after.stream.job (ended_at after.stream) (goes_on stop) by.samples
    by.moment (by_number after.stream.job by.given) ended.table_stands.view
    ended.table_stands.shows)))
