use Rattle.std.proofs.Common.{inl, inr, refl, sym, subst, ◌∙◌}
use Rattle.phase_words.proofs.Answering.{may-end-answered, may-end-taken, refused-silent, unbegun}
use Rattle.phase_words.specs.RunLine.{Run}
use Rattle.watched_io.specs.States.{writer_state}
use Rattle.phase.specs.Ends.{EndsAsRun}
use Rattle.phase.proofs.run.cli.run_graph.Goals as goal

-- ---- a run of a graph was asked for

pub returns-in-Ok-clause-status : goal.returns-in-Ok-clause-status
returns-in-Ok-clause-status g c =
    may-end-taken _ _ _ c.in-Ok.ensures.call.taken c.run_call.ensures.status

pub returns-in-Ok-clause-run : goal.returns-in-Ok-clause-run
returns-in-Ok-clause-run g c =
    λ what asks.
    inr (subst (λ (what : Run). EndsAsRun what (g.F.Files.file c.args.streams.now.files)
    g.W.Write.contents c.run_call.result c.args.streams.now.output c.run_call.new.streams.output
    (writer_state g.E.Write.contents c.args.streams.now.faults)
    (writer_state g.E.Write.contents c.run_call.new.streams.faults))
    (sym c.in-Ok.ensures.call.run ∙ asks.run) c.run_call.ensures.ends)

pub returns-in-Ok-clause-answered : goal.returns-in-Ok-clause-answered
returns-in-Ok-clause-answered g c = λ untaken. absurd (untaken c.in-Ok.ensures.call.taken)

pub returns-in-Ok-clause-unopened : goal.returns-in-Ok-clause-unopened
returns-in-Ok-clause-unopened g c = λ untaken. absurd (untaken c.in-Ok.ensures.call.taken)

-- ---- the words give no call

pub returns-in-Err-clause-status : goal.returns-in-Err-clause-status
returns-in-Err-clause-status g c =
    may-end-answered _ _ c.in-Err.none _ _ _ _ _ (λ failed. inr (inr (inr (inr failed))))
    c.in-Err.ensures.no_call c.answer.ensures.answer

pub returns-in-Err-clause-run : goal.returns-in-Err-clause-run
returns-in-Err-clause-run g c =
    λ what asks. inl (unbegun _ c.in-Err.none _ _ _ _ _ _ asks.taken c.in-Err.ensures.no_call
    c.answer.ensures.answer)

pub returns-in-Err-clause-answered : goal.returns-in-Err-clause-answered
returns-in-Err-clause-answered g c =
    λ _. record {
      silent = refused-silent _ c.in-Err.none _ _ _ _ _ c.in-Err.ensures.no_call c.answer.ensures.answer;
      stops = c.answer.ensures.stops;
    }
