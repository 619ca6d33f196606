use Rattle.phase_replay.proofs.Stopping.{first-ended, first-last}
use Rattle.phase_replay.proofs.first_line.first_line.Goals as goal

-- An LF ends the line.
pub returns-in-Some : goal.returns-in-Some
returns-in-Some c =
    rw c.without_cr.ensures (first-ended c.args.text.now c.in-Some.end
    c.in-Some.ensures.0 c.in-Some.ensures.1 c.in-Some.ensures.2)

-- The line is the whole text.
pub returns-in-None : goal.returns-in-None
returns-in-None c =
    rw c.without_cr-in-None.ensures (first-last c.args.text.now c.requires c.in-None.ensures)
