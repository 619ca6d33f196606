-- The longest line is that of a value with two long numbers.
use Rattle.std.proofs.Common.{refl}
use Rattle.phase_script.proofs.ReplyLines.{reply_short}
use Rattle.phase_script.proofs.laws.replies_are_short.Goals as goal

pub returns : goal.returns
returns c = record { short = reply_short; number = refl }
