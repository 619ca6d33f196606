-- Whoever registers a child is one of these, and then its event is one of theirs.
use Rattle.std.proofs.Common.{sym, subst}
use Rattle.phase_history.specs.Histories.{History}
use Rattle.phase_history.specs.Legal.{IsLegal}
use Rattle.phase_history.specs.Others.{OnlyUsed}
use Rattle.phase_history.proofs.Used.{OnlyUsed-others}
use Rattle.phase_history.proofs.laws.others.only_used_stays.Goals as goal

pub returns : goal.returns
returns c = λ limits tasks old new some came legal only.
    rw came.is (OnlyUsed-others limits came.later old tasks some (rw came.is at legal) came.others only)
