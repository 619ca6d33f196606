-- By the stream.
use Rattle.std.proofs.Common.{◌≡◌, Some, None, slice_get, length, get_or, refl, sym, ap, subst, ◌∙◌, arith}
use Rattle.std.proofs.lemmas.Option.{same_Some, slice_get_read}
use Rattle.stream_job.specs.Gone.{has_gone}
use Rattle.stream_job.specs.SinkLines.{kept_by}
use Rattle.graph_runs.specs.InTime.{BeginsInTime}
use Rattle.graph_runs.specs.Moments.{started}
use Rattle.stream_lists.specs.Jobs.{with_samples}
use Rattle.stream_lists.specs.Lists.{sinks_of}
use Rattle.stream_job.proofs.GivenLines.{sink_there}
use Rattle.phase_stream.specs.Sessions.{sink_list}
use Rattle.phase_stream.proofs.Targets.{no_task_at_place, sink_at, task_at_place}
use Rattle.phase_stream.proofs.session.Session.has_left.Goals as goal

pub has_left-requires : goal.has_left-requires
has_left-requires g c =
    let items = c.args.self.now.targets.items in
    let lt = c.requires.there in
    let long = c.args.self.now.targets.ok.0 in
    let read : slice_get items c.args.number ≡ Some c.index.result.now =
    slice_get_read items (length items) c.args.number c.index.result.now refl (omega (arith, lt, long))
    c.index.ensures in
    let place : slice_get items c.args.number ≡ Some (Some c.in-Some.sink) =
    read ∙ ap (λ o. Some o) c.in-Some.is in
    (c.requires.targets c.args.number c.in-Some.sink
    (sink_at items c.args.number (Some c.in-Some.sink) place)).there

pub returns-in-Some-clause-gone : goal.returns-in-Some-clause-gone
returns-in-Some-clause-gone g c = λ t goes s m given at.
    let items = c.args.self.now.targets.items in
    let lt = c.requires.there in
    let long = c.args.self.now.targets.ok.0 in
    let read : slice_get items c.args.number ≡ Some c.index.result.now =
    slice_get_read items (length items) c.args.number c.index.result.now refl (omega (arith, lt, long))
    c.index.ensures in
    let place : slice_get items c.args.number ≡ Some (Some c.in-Some.sink) =
    read ∙ ap (λ o. Some o) c.in-Some.is in
    let sink = c.in-Some.sink in
    let number = c.requires.targets c.args.number sink (sink_at items c.args.number (Some sink) place) in
    let same : sink.task ≡ t =
    same_Some sink.task t (sym (task_at_place items c.args.number sink place) ∙ goes) in
    subst (λ t. has_gone c.args.self.now.stream.job m t ≡ c.has_left.result) (number.task ∙ same)
    (c.has_left.ensures.left s m given at)

pub returns-in-Some-clause-whole : goal.returns-in-Some-clause-whole
returns-in-Some-clause-whole g c = λ t goes is s m given more at fed ready.
    let items = c.args.self.now.targets.items in
    let lt = c.requires.there in
    let long = c.args.self.now.targets.ok.0 in
    let read : slice_get items c.args.number ≡ Some c.index.result.now =
    slice_get_read items (length items) c.args.number c.index.result.now refl (omega (arith, lt, long))
    c.index.ensures in
    let place : slice_get items c.args.number ≡ Some (Some c.in-Some.sink) =
    read ∙ ap (λ o. Some o) c.in-Some.is in
    let sink = c.in-Some.sink in
    let number = c.requires.targets c.args.number sink (sink_at items c.args.number (Some sink) place) in
    let same : sink.task ≡ t =
    same_Some sink.task t (sym (task_at_place items c.args.number sink place) ∙ goes) in
    let job = c.args.self.now.stream.job in
    let u = get_or (sinks_of job) sink.number 0 in
    subst (λ t. (kept_by job m t ≡ sink_list (started (with_samples more job) m) t)
    × BeginsInTime (started (with_samples more job) m) t) (number.task ∙ same) (
      c.has_left.ensures.whole is s m given more at fed ready,
      c.starts_are_in_time.ensures.left c.args.self.now.stream s m given more u at fed ready
          (sink_there job sink.number number.there).1
          (c.has_left.ensures.left s m given at ∙ is),
    )

pub returns-in-None-clause-gone : goal.returns-in-None-clause-gone
returns-in-None-clause-gone g c = λ t goes s m given at.
    let items = c.args.self.now.targets.items in
    let lt = c.requires.there in
    let long = c.args.self.now.targets.ok.0 in
    let read : slice_get items c.args.number ≡ Some c.index.result.now =
    slice_get_read items (length items) c.args.number c.index.result.now refl (omega (arith, lt, long))
    c.index.ensures in
    let none = no_task_at_place items c.args.number (read ∙ ap (λ o. Some o) c.in-None.is) in
    let bad : None ≡ Some t = sym none ∙ goes in absurd (cc)

pub returns-in-None-clause-whole : goal.returns-in-None-clause-whole
returns-in-None-clause-whole g c = λ t goes is s m given more at fed ready.
    let items = c.args.self.now.targets.items in
    let lt = c.requires.there in
    let long = c.args.self.now.targets.ok.0 in
    let read : slice_get items c.args.number ≡ Some c.index.result.now =
    slice_get_read items (length items) c.args.number c.index.result.now refl (omega (arith, lt, long))
    c.index.ensures in
    let none = no_task_at_place items c.args.number (read ∙ ap (λ o. Some o) c.in-None.is) in
    let bad : None ≡ Some t = sym none ∙ goes in absurd (cc)
