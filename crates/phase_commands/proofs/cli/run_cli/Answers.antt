use Rattle.std.proofs.Common.{inl, inr, refl, subst}
use Rattle.phase_words.specs.CommandLine.{Asked, texts}
use Rattle.watched_io.specs.States.{reader_state, writer_state}
use Rattle.phase_commands.specs.Ends.{EndsAs}
use Rattle.phase_commands.proofs.Asking.{asks-one, failed-as, leaves-asked, may-end-asked}
use Rattle.phase_words.proofs.Answering.{may-end-answered, refused-silent, unbegun}
use Rattle.phase_commands.proofs.Nothing.{replay-unbegun}
use Rattle.phase_commands.proofs.cli.run_cli.Goals as goal

-- ---- the words are taken

pub returns-in-Ok-clause-status : goal.returns-in-Ok-clause-status
returns-in-Ok-clause-status g c =
    may-end-asked _ _ _ c.in-Ok.ensures.call c.run_call.ensures.status

pub returns-in-Ok-clause-replay : goal.returns-in-Ok-clause-replay
returns-in-Ok-clause-replay g c =
    λ asks. subst (λ (what : Asked). EndsAs what (g.F.Files.file c.args.streams.now.files) g.W.Write.contents
    c.run_call.result (reader_state g.R.Read.remaining c.args.input.now)
    (reader_state g.R.Read.remaining c.run_call.new.input) c.args.streams.now.output c.run_call.new.streams.output
    (writer_state g.E.Write.contents c.args.streams.now.faults)
    (writer_state g.E.Write.contents c.run_call.new.streams.faults))
    (asks-one (texts c.args.words.now) _ _ c.in-Ok.ensures.call asks) c.run_call.ensures.ends

pub returns-in-Ok-clause-asked : goal.returns-in-Ok-clause-asked
returns-in-Ok-clause-asked g c =
    λ what asks. inr (subst (λ (what : Asked). EndsAs what (g.F.Files.file c.args.streams.now.files)
    g.W.Write.contents c.run_call.result (reader_state g.R.Read.remaining c.args.input.now)
    (reader_state g.R.Read.remaining c.run_call.new.input) c.args.streams.now.output c.run_call.new.streams.output
    (writer_state g.E.Write.contents c.args.streams.now.faults)
    (writer_state g.E.Write.contents c.run_call.new.streams.faults))
    (asks-one (texts c.args.words.now) _ what c.in-Ok.ensures.call asks) c.run_call.ensures.ends)

pub returns-in-Ok-clause-answered : goal.returns-in-Ok-clause-answered
returns-in-Ok-clause-answered g c = λ untaken. absurd (untaken c.in-Ok.ensures.call.taken)

pub returns-in-Ok-clause-left : goal.returns-in-Ok-clause-left
returns-in-Ok-clause-left g c =
    leaves-asked _ c.in-Ok.call _ _ _ _ c.in-Ok.ensures.call c.run_call.ensures.left

-- ---- the words give no call

pub returns-in-Err-clause-status : goal.returns-in-Err-clause-status
returns-in-Err-clause-status g c =
    may-end-answered _ _ c.in-Err.none _ _ _ _ _ (failed-as (texts c.args.words.now) c.answer.result)
    c.in-Err.ensures.no_call c.answer.ensures.answer

pub returns-in-Err-clause-replay : goal.returns-in-Err-clause-replay
returns-in-Err-clause-replay g c =
    λ asks.
    let none = unbegun _ c.in-Err.none c.answer.result c.args.streams.now.files c.args.streams.now.output c.answer.new.output
    _ _ asks.taken c.in-Err.ensures.no_call c.answer.ensures.answer in
    rw none.silent (replay-unbegun c.answer.result (reader_state g.R.Read.remaining c.args.input.now)
    (writer_state g.W.Write.contents c.args.streams.now.output) _ _ none.status_is none.says)

pub returns-in-Err-clause-asked : goal.returns-in-Err-clause-asked
returns-in-Err-clause-asked g c =
    λ what asks. inl (unbegun _ c.in-Err.none _ _ _ _ _ _ asks.taken c.in-Err.ensures.no_call
    c.answer.ensures.answer)

pub returns-in-Err-clause-left : goal.returns-in-Err-clause-left
returns-in-Err-clause-left g c = record { unread = λ _. refl; unopened = λ _. refl }

pub returns-in-Err-clause-answered : goal.returns-in-Err-clause-answered
returns-in-Err-clause-answered g c =
    λ _. record {
      silent = refused-silent _ c.in-Err.none _ _ _ _ _ c.in-Err.ensures.no_call c.answer.ensures.answer;
      stops = c.answer.ensures.stops;
    }
