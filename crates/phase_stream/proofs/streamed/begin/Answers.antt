-- What the words ask for is there, and nothing was written yet.
use Rattle.std.proofs.Common.{◌∙◌, ℕ, [], inl, length, refl, sym, subst, ap}
use Rattle.std.proofs.lemmas.List.{length-map}
use Rattle.std.specs.Io.KnownBytes.{Appends}
use Rattle.graph_commands.proofs.Needed.{needed-graph}
use Rattle.phase_words.specs.Outputs.{pair_as}
use Rattle.phase_words.specs.StreamLine.{stream_asked}
use Rattle.phase_stream.specs.Outputs.{bare_at, task_to, writers_at}
use Rattle.phase_stream.specs.Sessions.{AreTargets, task_for}
use Rattle.phase_stream.proofs.Ending.{begun_does, begun_stops, made_last, none_bare, there_of, unmade_unbegun, writers_bare}
use Rattle.phase_stream.proofs.Results.{with_err, with_ok}
use Rattle.phase_stream.proofs.streamed.begin.Goals as goal

pub returns-in_default-clause-failed : goal.returns-in_default-clause-failed
returns-in_default-clause-failed g c = λ known is of_graph.
    inl (
      inl (refl, needed-graph known _ _ of_graph),
      refl,
      none_bare g.F.Opens.knows g.F.Writer.Write.contents c.args.made.now.items c.requires.made,
      inl c.requires.made,
    )

pub returns-clause-failed : goal.returns-clause-failed
returns-clause-failed g c = λ known is of_graph.
    inl (
      unmade_unbegun known (stream_asked c.args.call.now) c.in-Err.fault _ of_graph
          c.in-Err.ensures.fault,
      refl,
      c.make_files.ensures.bare,
      made_last known (stream_asked c.args.call.now) c.args.stream.job c.in-Ok.session.stream.job
          c.graph.result.now c.make_files.new.made.items c.in-Ok.ensures.job c.graph.ensures of_graph
          c.requires.targets.sinks c.in-Err.ensures.unmade,
    )

pub go-requires-clause-targets : goal.go-requires-clause-targets
go-requires-clause-targets g c =
    subst (λ j. AreTargets j c.in-Ok.session.targets.items) (sym c.in-Ok.ensures.job)
    (subst (AreTargets c.args.stream.job) (sym c.in-Ok.ensures.targets) c.requires.targets.numbers)

pub go-requires-clause-stands : goal.go-requires-clause-stands
go-requires-clause-stands g c =
    let known = g.F.Files.file c.args.files.now in
    let what = stream_asked c.args.call.now in
    let bare : (k : ℕ) → Appends (bare_at g.F.Opens.knows what.files
    (g.W.Write.contents c.args.output.now.inner) k)
    (writers_at g.W.Write.contents g.F.Writer.Write.contents c.args.output.now
    c.make_files.new.made.items k).written [] =
    writers_bare g.F.Opens.knows g.W.Write.contents g.F.Writer.Write.contents c.args.output.now
    what.files c.make_files.new.made.items c.make_files.ensures.bare
    (c.in-Ok-make_files.ensures.many ∙ sym (length-map c.args.call.now.files.items pair_as)) in (
      known,
      _,
      c.make_files.ensures.same,
      (c.in-Ok.ensures.stands known _ _ bare).0,
    )

pub returns-in-Ok-make_files-clause-done : goal.returns-in-Ok-make_files-clause-done
returns-in-Ok-make_files-clause-done g c =
    let what = stream_asked c.args.call.now in
    let session = c.in-Ok.session in
    let bare : (k : ℕ) → Appends (bare_at g.F.Opens.knows what.files
    (g.W.Write.contents c.args.output.now.inner) k)
    (writers_at g.W.Write.contents g.F.Writer.Write.contents c.args.output.now
    c.make_files.new.made.items k).written [] =
    writers_bare g.F.Opens.knows g.W.Write.contents g.F.Writer.Write.contents c.args.output.now
    what.files c.make_files.new.made.items c.make_files.ensures.bare
    (c.in-Ok-make_files.ensures.many ∙ sym (length-map c.args.call.now.files.items pair_as)) in
    with_ok c.go.result _ _
    (λ whole known is of_graph. begun_does known what session.stream.job (task_for session.targets.items)
    (bare_at g.F.Opens.knows what.files (g.W.Write.contents c.args.output.now.inner))
    (λ k. (writers_at g.W.Write.contents g.F.Writer.Write.contents c.go.new.output
    c.go.new.made.items k).written)
    (there_of known what c.args.stream.job session.stream.job c.graph.result.now c.in-Ok.ensures.job
    c.graph.ensures of_graph c.requires.targets.sinks c.in-Ok-make_files.ensures.apart)
    (λ k. ap (λ ts. task_for ts k) c.in-Ok.ensures.targets ∙ c.requires.targets.goes k
    ∙ ap (λ j. task_to j what.sink what.files k) (sym c.in-Ok.ensures.job))
    (whole known _ (λ name. c.make_files.ensures.same name ∙ is name)
    (c.in-Ok.ensures.stands known _ _ bare).0))
    c.go.ensures.done

pub returns-in-Ok-make_files-clause-failed : goal.returns-in-Ok-make_files-clause-failed
returns-in-Ok-make_files-clause-failed g c =
    let what = stream_asked c.args.call.now in
    let session = c.in-Ok.session in
    let bare : (k : ℕ) → Appends (bare_at g.F.Opens.knows what.files
    (g.W.Write.contents c.args.output.now.inner) k)
    (writers_at g.W.Write.contents g.F.Writer.Write.contents c.args.output.now
    c.make_files.new.made.items k).written [] =
    writers_bare g.F.Opens.knows g.W.Write.contents g.F.Writer.Write.contents c.args.output.now
    what.files c.make_files.new.made.items c.make_files.ensures.bare
    (c.in-Ok-make_files.ensures.many ∙ sym (length-map c.args.call.now.files.items pair_as)) in
    with_err c.go.result _ _
    (λ found stops known is of_graph. begun_stops known what g.F.Opens.knows g.W.Write.contents
    g.F.Writer.Write.contents c.args.output.now c.go.new.output c.go.new.made.items
    session.stream.job (task_for session.targets.items) (length session.targets.items) found
    (there_of known what c.args.stream.job session.stream.job c.graph.result.now c.in-Ok.ensures.job
    c.graph.ensures of_graph c.requires.targets.sinks c.in-Ok-make_files.ensures.apart)
    (λ k. ap (λ ts. task_for ts k) c.in-Ok.ensures.targets ∙ c.requires.targets.goes k
    ∙ ap (λ j. task_to j what.sink what.files k) (sym c.in-Ok.ensures.job))
    (ap length c.in-Ok.ensures.targets ∙ c.requires.targets.many)
    (stops known _ (λ name. c.make_files.ensures.same name ∙ is name)
    (c.in-Ok.ensures.stands known _ _ bare).0))
    c.go.ensures.failed
