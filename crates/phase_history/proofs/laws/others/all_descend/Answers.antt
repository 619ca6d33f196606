-- A parent was used before its child, so it stands in the list, and with it the child.
use Rattle.std.proofs.Common.{◌≡◌, true, sym, subst}
use Rattle.phase_history.specs.Histories.{History}
use Rattle.phase_history.specs.Legal.{IsLegal}
use Rattle.phase_history.specs.Others.{OnlyUsed, events_of, children_in}
use Rattle.phase_base.specs.Lists.{is_in}
use Rattle.phase_history.proofs.Descent.{OnlyUsed-descent}
use Rattle.phase_history.proofs.laws.others.all_descend.Goals as goal

pub returns : goal.returns
returns c = λ limits h founder tasks legal begins has each.
    rw begins.is (OnlyUsed-descent limits founder tasks begins.later (rw begins.is at legal) has
    (λ task child inside is. each task child inside
    (subst (λ (g : History). is_in child (children_in (events_of task g)) ≡ true) (sym begins.is) is)))
