-- The registration is alone, as the member is.
use Rattle.stream_members.proofs.Looks.{only_used}
use Rattle.stream_members.proofs.member.Member.try_get.Goals as goal

pub returns-clause-alone : goal.returns-clause-alone
returns-clause-alone g c = λ alone.
    let own = c.self.inside in
    c.try_wait_block.ensures.call.alone (only_used own.reg c.args.self.now c.self.view_is alone)
