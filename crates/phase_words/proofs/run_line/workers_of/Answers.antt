-- The number that was read, or 4.
use Rattle.std.proofs.Common.{rules}
use Rattle.phase_words.proofs.Workers.{workers-read, workers-unread}
use Rattle.phase_words.proofs.run_line.workers_of.Goals as goal

pub returns-in-Ok : goal.returns-in-Ok
returns-in-Ok c =
    let read = c.in-Ok.ensures.value.0 in
    workers-read c.args.word c.in-Some.word c.in-Ok.workers c.in-Some.is read.0 read.1
    (search rules) (search rules)

pub returns-in_default-parse-2 : goal.returns-in_default-parse-2
returns-in_default-parse-2 c =
    workers-unread c.args.word c.in-Some.word c.in-Some.is
    (rw c.in_default-parse.is at c.parse.ensures.value).0
