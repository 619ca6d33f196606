-- The registration is alone, as the member is.
use Rattle.stream_members.proofs.Looks.{only_used}
use Rattle.stream_members.proofs.member.Member.try_leave.Goals as goal

pub returns-in-Err-clause-alone : goal.returns-in-Err-clause-alone
returns-in-Err-clause-alone g c = λ alone.
    let own = c.self.inside in
    c.in-Err.ensures.alone (only_used own.reg c.args.self c.self.view_is alone)
