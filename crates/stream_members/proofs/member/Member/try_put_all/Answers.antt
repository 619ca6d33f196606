-- The registration tells of values, too.
use Rattle.std.proofs.Common.{subst}
use Rattle.stream_members.specs.Members.{MemberState, member_state, Puts}
use Rattle.stream_members.proofs.Putting.{puts_values}
use Rattle.stream_members.proofs.member.Member.try_put_all.Goals as goal

pub returns-clause-call : goal.returns-clause-call
returns-clause-call g c =
    let own = c.self.inside in
    let values = c.args.values.now in
    let new = c.try_signal_values.new.self in
    let P : MemberState → Type 0 =
    λ old. Puts values c.args.single old (member_state new) c.put_answer.result in
    subst P c.self.view_is
    (puts_values own.phaser.now values c.args.single own.reg new c.try_signal_values.result
    c.put_answer.result c.self.invariant.0 c.try_signal_values.ensures.call.call
    c.put_answer.ensures)
