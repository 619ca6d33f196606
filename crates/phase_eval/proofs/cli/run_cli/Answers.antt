use Rattle.std.proofs.Common.{inl, inr, sym, subst, ◌∙◌}
use Rattle.phase_words.proofs.Answering.{may-end-answered, may-end-taken, refused-silent, unbegun}
use Rattle.phase_words.specs.RunLine.{Run}
use Rattle.watched_io.specs.States.{writer_state}
use Rattle.phase_eval.specs.Ends.{EndsAsEval}
use Rattle.phase_eval.proofs.cli.run_cli.Goals as goal

-- ---- an evaluation of a graph was asked for

pub returns-in-Ok-clause-status : goal.returns-in-Ok-clause-status
returns-in-Ok-clause-status g c =
    may-end-taken _ _ _ c.in-Ok.ensures.call.taken c.run_call.ensures.status

pub returns-in-Ok-clause-eval : goal.returns-in-Ok-clause-eval
returns-in-Ok-clause-eval g c =
    λ what asks.
    inr (subst (λ (what : Run). EndsAsEval what (g.F.Files.file c.args.streams.now.files)
    g.W.Write.contents c.run_call.result c.args.streams.now.output c.run_call.new.streams.output
    (writer_state g.E.Write.contents c.args.streams.now.faults)
    (writer_state g.E.Write.contents c.run_call.new.streams.faults))
    (sym c.in-Ok.ensures.call.run ∙ asks.run) c.run_call.ensures.ends)

pub returns-in-Ok-clause-answered : goal.returns-in-Ok-clause-answered
returns-in-Ok-clause-answered g c = λ untaken. absurd (untaken c.in-Ok.ensures.call.taken)

pub returns-in-Ok-clause-unopened : goal.returns-in-Ok-clause-unopened
returns-in-Ok-clause-unopened g c = λ untaken. absurd (untaken c.in-Ok.ensures.call.taken)

-- ---- the words give no call

pub returns-in-Err-clause-status : goal.returns-in-Err-clause-status
returns-in-Err-clause-status g c =
    may-end-answered _ _ c.in-Err.none _ _ _ _ _ (λ failed. inr (inr (inr failed)))
    c.in-Err.ensures.no_call c.answer.ensures.answer

pub returns-in-Err-clause-eval : goal.returns-in-Err-clause-eval
returns-in-Err-clause-eval g c =
    λ what asks. inl (unbegun _ c.in-Err.none _ _ _ _ _ _ asks.taken c.in-Err.ensures.no_call
    c.answer.ensures.answer)

pub returns-in-Err-clause-answered : goal.returns-in-Err-clause-answered
returns-in-Err-clause-answered g c =
    λ _. record {
      silent = refused-silent _ c.in-Err.none _ _ _ _ _ c.in-Err.ensures.no_call c.answer.ensures.answer;
      stops = c.answer.ensures.stops;
    }
