-- The registration is alone, as the member is.
use Rattle.std.proofs.Common.{rules}
use Rattle.stream_members.proofs.Looks.{only_used}
use Rattle.stream_members.proofs.member.Member.try_add_now.Goals as goal

pub returns-in_err-reg-clause-alone : goal.returns-in_err-reg-clause-alone
returns-in_err-reg-clause-alone g c = λ alone.
    let own = c.self.inside in
    let apart = c.try_register_now.ensures.call.alone
    (only_used own.reg c.args.self.now c.self.view_is alone) in
    search rules
