-- A stream answers its words, and those of help on it.
use Rattle.std.proofs.Common.{◌≡◌, [], ◌∷◌, codes}
use Rattle.phase_words.specs.CommandLine.{texts}
use Rattle.phase.proofs.cli.stream_own.Goals as goal

pub returns-in-Behind-clause-answers : goal.returns-in-Behind-clause-answers
returns-in-Behind-clause-answers g c = rw c.in-Behind.is (record {
  ends = c.run_cli.ensures.status;
  asked = c.run_cli.ensures.asked;
  answered = c.run_cli.ensures.answered;
  unopened = c.run_cli.ensures.unopened;
})

pub returns-in-Ok-clause-answers : goal.returns-in-Ok-clause-answers
returns-in-Ok-clause-answers g c =
    let help : texts c.as_slice.result.now ≡ codes "--help" ∷ [] =
    rw c.as_slice.ensures.value c.in-Ok.ensures in
    rw c.in-Help.is (record {
      ends = rw help at c.run_cli-in-Ok.ensures.status;
      asked = rw help at c.run_cli-in-Ok.ensures.asked;
      answered = rw help at c.run_cli-in-Ok.ensures.answered;
      unopened = rw help at c.run_cli-in-Ok.ensures.unopened;
    })
