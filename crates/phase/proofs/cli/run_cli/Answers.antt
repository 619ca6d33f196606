-- The others answer all the words.
use Rattle.phase.proofs.cli.run_cli.Goals as goal

pub returns-in-Others-clause-others : goal.returns-in-Others-clause-others
returns-in-Others-clause-others g c = λ _. record {
  answers = record {
    ends = c.run_cli.ensures.status;
    asked = c.run_cli.ensures.asked;
    answered = c.run_cli.ensures.answered;
    unopened = λ refused. c.run_cli.ensures.left.unopened (λ name file. refused file.asks.taken);
  };
  replay = c.run_cli.ensures.replay;
  left = c.run_cli.ensures.left;
}
