-- What is left of a sink, or nothing.
use Rattle.std.proofs.Common.{◌≡◌, Some, slice_get, length, refl, ap, ◌∙◌, arith}
use Rattle.std.proofs.lemmas.Option.{slice_get_read}
use Rattle.phase_stream.specs.Outputs.{writers_at}
use Rattle.phase_stream.proofs.Handing.{writes_none}
use Rattle.phase_stream.proofs.Results.{on_err, with_ok}
use Rattle.phase_stream.proofs.Targets.{left_of_sink, no_task_at_place, sink_at}
use Rattle.phase_stream.proofs.session.Session.write_left.Goals as goal

pub values-requires : goal.values-requires
values-requires g c =
    let items = c.args.self.now.targets.items in
    let lt = c.requires.there in
    let long = c.args.self.now.targets.ok.0 in
    let read : slice_get items c.args.number ≡ Some c.index.result.now =
    slice_get_read items (length items) c.args.number c.index.result.now refl (omega (arith, lt, long))
    c.index.ensures in
    let place : slice_get items c.args.number ≡ Some (Some c.in-Some.sink) =
    read ∙ ap (λ o. Some o) c.in-Some.is in
    (c.requires.targets c.args.number c.in-Some.sink
    (sink_at items c.args.number (Some c.in-Some.sink) place)).there

pub returns-in-Some-clause-ok : goal.returns-in-Some-clause-ok
returns-in-Some-clause-ok g c =
    let items = c.args.self.now.targets.items in
    let lt = c.requires.there in
    let long = c.args.self.now.targets.ok.0 in
    let read : slice_get items c.args.number ≡ Some c.index.result.now =
    slice_get_read items (length items) c.args.number c.index.result.now refl (omega (arith, lt, long))
    c.index.ensures in
    let place : slice_get items c.args.number ≡ Some (Some c.in-Some.sink) =
    read ∙ ap (λ o. Some o) c.in-Some.is in
    let left = left_of_sink c.args.self.now.stream items c.args.number c.in-Some.sink
    c.values.result.now place c.requires.targets c.values.ensures.kept in
    with_ok c.write_to.result _ _
    (λ writes. record { values = c.values.result.now; left = left; writes = writes })
    c.write_to.ensures.ok

pub returns-in-Some-clause-err : goal.returns-in-Some-clause-err
returns-in-Some-clause-err g c =
    let items = c.args.self.now.targets.items in
    let lt = c.requires.there in
    let long = c.args.self.now.targets.ok.0 in
    let read : slice_get items c.args.number ≡ Some c.index.result.now =
    slice_get_read items (length items) c.args.number c.index.result.now refl (omega (arith, lt, long))
    c.index.ensures in
    let place : slice_get items c.args.number ≡ Some (Some c.in-Some.sink) =
    read ∙ ap (λ o. Some o) c.in-Some.is in
    let left = left_of_sink c.args.self.now.stream items c.args.number c.in-Some.sink
    c.values.result.now place c.requires.targets c.values.ensures.kept in
    on_err c.write_to.result _ _
    (λ writes. record { values = c.values.result.now; left = left; writes = writes })
    c.write_to.ensures.err

pub returns-in-None-clause-ok : goal.returns-in-None-clause-ok
returns-in-None-clause-ok g c =
    let items = c.args.self.now.targets.items in
    let lt = c.requires.there in
    let long = c.args.self.now.targets.ok.0 in
    let read : slice_get items c.args.number ≡ Some c.index.result.now =
    slice_get_read items (length items) c.args.number c.index.result.now refl (omega (arith, lt, long))
    c.index.ensures in
    writes_none c.args.self.now.stream items c.args.number
    (writers_at g.W.Write.contents g.V.Write.contents c.args.output.now c.args.made.now.items)
    (no_task_at_place items c.args.number (read ∙ ap (λ o. Some o) c.in-None.is))
