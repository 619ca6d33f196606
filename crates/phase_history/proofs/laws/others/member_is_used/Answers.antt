-- Who did not begin is no member.
use Rattle.phase_history.proofs.Used.{IsUsed-member}
use Rattle.phase_history.proofs.laws.others.member_is_used.Goals as goal

pub returns : goal.returns
returns c = IsUsed-member
