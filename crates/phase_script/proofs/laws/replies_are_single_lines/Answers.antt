-- Neither the words nor the numbers have a line end.
use Rattle.phase_script.proofs.ReplyLines.{reply_is_one_line}
use Rattle.phase_script.proofs.laws.replies_are_single_lines.Goals as goal

pub returns : goal.returns
returns c = reply_is_one_line
