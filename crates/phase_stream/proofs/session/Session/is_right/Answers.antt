-- What was handed over and what is left is what the sink has kept.
use Rattle.std.proofs.Common.{◌≡◌, Some, None, slice_get, length, refl, sym, ap, ◌∙◌, arith}
use Rattle.std.proofs.lemmas.Option.{same_Some, slice_get_read}
use Rattle.phase_stream.proofs.Targets.{left_of_sink, no_task_at_place, sink_at, task_at_place}
use Rattle.phase_stream.proofs.Writing.{right_by}
use Rattle.phase_stream.proofs.session.Session.is_right.Goals as goal

pub values-values-requires : goal.values-values-requires
values-values-requires g c =
    let items = c.args.self.now.targets.items in
    let lt = c.requires.there in
    let long = c.args.self.now.targets.ok.0 in
    let read : slice_get items c.args.number ≡ Some c.index.result.now =
    slice_get_read items (length items) c.args.number c.index.result.now refl (omega (arith, lt, long))
    c.index.ensures in
    let place : slice_get items c.args.number ≡ Some (Some c.in-Some.sink) =
    read ∙ ap (λ o. Some o) c.in-Some.is in
    (c.requires.targets c.args.number c.in-Some.sink
    (sink_at items c.args.number (Some c.in-Some.sink) place)).there

pub returns-in-Some-clause-given : goal.returns-in-Some-clause-given
returns-in-Some-clause-given g c = λ t goes s m given at.
    let items = c.args.self.now.targets.items in
    let lt = c.requires.there in
    let long = c.args.self.now.targets.ok.0 in
    let read : slice_get items c.args.number ≡ Some c.index.result.now =
    slice_get_read items (length items) c.args.number c.index.result.now refl (omega (arith, lt, long))
    c.index.ensures in
    let place : slice_get items c.args.number ≡ Some (Some c.in-Some.sink) =
    read ∙ ap (λ o. Some o) c.in-Some.is in
    let left = left_of_sink c.args.self.now.stream items c.args.number c.in-Some.sink
    c.values-values.result.now place c.requires.targets c.values-values.ensures.kept in
    (c.values-values.result.now, left.rest t goes s m given at)

pub returns-in-Some-clause-right : goal.returns-in-Some-clause-right
returns-in-Some-clause-right g c = λ t goes s m given more at fed ready.
    let items = c.args.self.now.targets.items in
    let lt = c.requires.there in
    let long = c.args.self.now.targets.ok.0 in
    let read : slice_get items c.args.number ≡ Some c.index.result.now =
    slice_get_read items (length items) c.args.number c.index.result.now refl (omega (arith, lt, long))
    c.index.ensures in
    let place : slice_get items c.args.number ≡ Some (Some c.in-Some.sink) =
    read ∙ ap (λ o. Some o) c.in-Some.is in
    let sink = c.in-Some.sink in
    let number = c.requires.targets c.args.number sink (sink_at items c.args.number (Some sink) place) in
    let same : sink.task ≡ t =
    same_Some sink.task t (sym (task_at_place items c.args.number sink place) ∙ goes) in
    right_by c.args.self.now.stream t sink.number c.values-values.result.now s m given more
    (number.task ∙ same) (c.values-values.ensures.kept s m given at)
    (c.values-values.ensures.right s m given more at fed ready)

pub returns-in_default-clause-given : goal.returns-in_default-clause-given
returns-in_default-clause-given g c = λ t goes s m given at.
    let items = c.args.self.now.targets.items in
    let lt = c.requires.there in
    let long = c.args.self.now.targets.ok.0 in
    let read : slice_get items c.args.number ≡ Some c.index.result.now =
    slice_get_read items (length items) c.args.number c.index.result.now refl (omega (arith, lt, long))
    c.index.ensures in
    let none = no_task_at_place items c.args.number (read ∙ ap (λ o. Some o) c.in_default.is) in
    let bad : None ≡ Some t = sym none ∙ goes in absurd (cc)

pub returns-in_default-clause-right : goal.returns-in_default-clause-right
returns-in_default-clause-right g c = λ t goes s m given more at fed ready.
    let items = c.args.self.now.targets.items in
    let lt = c.requires.there in
    let long = c.args.self.now.targets.ok.0 in
    let read : slice_get items c.args.number ≡ Some c.index.result.now =
    slice_get_read items (length items) c.args.number c.index.result.now refl (omega (arith, lt, long))
    c.index.ensures in
    let none = no_task_at_place items c.args.number (read ∙ ap (λ o. Some o) c.in_default.is) in
    let bad : None ≡ Some t = sym none ∙ goes in absurd (cc)
