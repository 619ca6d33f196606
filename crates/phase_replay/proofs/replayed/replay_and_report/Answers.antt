use Rattle.std.proofs.Common.{rules}
use Rattle.phase_replay.proofs.replayed.replay_and_report.Goals as goal

-- The fault is the one that is reported.
pub returns-in-Err-clause-ends : goal.returns-in-Err-clause-ends
returns-in-Err-clause-ends g c = record {
  done = λ zero. search rules;
  stops = λ _. record {
    fault = c.in-Err.fault;
    cause = c.in-Err.ensures.cause;
    known = c.in-Err.ensures.err;
    prefix = c.in-Err.ensures.prefix;
    says = c.report.ensures.line;
  };
}
