-- The registration tells it.
use Rattle.std.proofs.Common.{subst}
use Rattle.std.specs.Arc.{arc_value}
use Rattle.shared_handle.specs.Members.{IsInItsHistory}
use Rattle.shared_handle.proofs.Trying.{is_member}
use Rattle.shared_handle.proofs.member.Member.look.Goals as goal

pub returns : goal.returns
returns g c =
    let own = c.self.inside in
    subst IsInItsHistory c.self.view_is
    (is_member _ (arc_value own.phaser) own.loose.reg c.self.invariant c.look.ensures.good
    c.look.ensures.entry)
