-- The registration tells it.
use Rattle.std.proofs.Common.{subst}
use Rattle.stream_members.specs.Members.{IsMember}
use Rattle.stream_members.proofs.Looks.{is_member}
use Rattle.stream_members.proofs.member.Member.look.Goals as goal

pub returns : goal.returns
returns g c =
    let own = c.self.inside in
    subst IsMember c.self.view_is
    (is_member _ own.phaser.now own.reg c.self.invariant.0 c.look.ensures.good c.look.ensures.entry)
