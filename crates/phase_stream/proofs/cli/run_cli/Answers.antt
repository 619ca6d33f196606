use Rattle.std.proofs.Common.{inl, inr, sym, subst, ◌∙◌}
use Rattle.phase_words.proofs.Answering.{may-end-answered, may-end-taken, refused-silent, unbegun}
use Rattle.phase_words.specs.StreamLine.{Stream}
use Rattle.watched_io.specs.States.{writer_state}
use Rattle.phase_stream.specs.Ends.{EndsAsAsked, EndsAsTable}
use Rattle.phase_stream.proofs.cli.run_cli.Goals as goal

-- ---- a stream was asked for

pub returns-in-Ok-clause-status : goal.returns-in-Ok-clause-status
returns-in-Ok-clause-status g c =
    may-end-taken _ _ _ c.in-Ok.ensures.call.taken c.run_call.ensures.status

pub returns-in-Ok-clause-asked : goal.returns-in-Ok-clause-asked
returns-in-Ok-clause-asked g c = λ what asks.
    let file = g.F.Files.file c.args.streams.now.files in
    let before = writer_state g.E.Write.contents c.args.streams.now.faults in
    let after = writer_state g.E.Write.contents c.run_call.new.streams.faults in
    let is = sym c.in-Ok.ensures.call.stream ∙ asks.stream in
    let ends = subst (λ (what : Stream). EndsAsAsked what file g.F.Opens.knows g.W.Write.contents
    g.F.Writer.Write.contents c.run_call.result c.run_call.new.made.items
    c.args.streams.now.output c.run_call.new.streams.output before after) is c.run_call.ensures.ends in
    inr (record {
      files = ends;
      table = subst (λ (what : Stream). EndsAsTable what file g.W.Write.contents c.run_call.result
          c.args.streams.now.output c.run_call.new.streams.output before after) is
          c.run_call.ensures.table;
    })

pub returns-in-Ok-clause-answered : goal.returns-in-Ok-clause-answered
returns-in-Ok-clause-answered g c = λ untaken. absurd (untaken c.in-Ok.ensures.call.taken)

pub returns-in-Ok-clause-unmade : goal.returns-in-Ok-clause-unmade
returns-in-Ok-clause-unmade g c = λ untaken. absurd (untaken c.in-Ok.ensures.call.taken)

pub returns-in-Ok-clause-unopened : goal.returns-in-Ok-clause-unopened
returns-in-Ok-clause-unopened g c = λ untaken. absurd (untaken c.in-Ok.ensures.call.taken)

-- ---- the words give no call

pub returns-in-Err-clause-status : goal.returns-in-Err-clause-status
returns-in-Err-clause-status g c =
    may-end-answered _ _ c.in-Err.none _ _ _ _ _ (λ failed. inr (inr (inr (inr failed))))
    c.in-Err.ensures.no_call c.answer.ensures.answer

pub returns-in-Err-clause-asked : goal.returns-in-Err-clause-asked
returns-in-Err-clause-asked g c =
    λ what asks. inl (unbegun _ c.in-Err.none _ _ _ _ _ _ asks.taken c.in-Err.ensures.no_call
    c.answer.ensures.answer)

pub returns-in-Err-clause-answered : goal.returns-in-Err-clause-answered
returns-in-Err-clause-answered g c =
    λ _. record {
      silent = refused-silent _ c.in-Err.none _ _ _ _ _ c.in-Err.ensures.no_call c.answer.ensures.answer;
      stops = c.answer.ensures.stops;
    }
