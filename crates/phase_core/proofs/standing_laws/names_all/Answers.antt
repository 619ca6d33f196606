use Rattle.std.proofs.Common.{◌≡◌, ap, arith}
use Rattle.std.specs.Prelude.{unwrap_or}
use Rattle.phase_base.specs.Members.{least, wait_phases}
use Rattle.phase_ring.specs.declared.role.Role.TheVariants.{Signaller, Waiter}
use Rattle.phase_history.specs.Histories.{members_of, done_of}
use Rattle.phase_core.proofs.Missing.{is_in-who_have_to}
use Rattle.phase_core.proofs.standing_laws.names_all.Goals as goal

pub returns-clause-missing : goal.returns-clause-missing
returns-clause-missing g h task entry signaller at =
    is_in-who_have_to Signaller (done_of h) (members_of h) task entry signaller.is_member signaller.signals (omega (arith, at))

pub returns-clause-slowest : goal.returns-clause-slowest
returns-clause-slowest g h task entry waiter at =
    let is : unwrap_or (least (wait_phases (members_of h))) 0 ≡ entry.wait_phase = ap (λ o. unwrap_or o 0) at in
    is_in-who_have_to Waiter (unwrap_or (least (wait_phases (members_of h))) 0) (members_of h) task entry waiter.is_member waiter.waits (omega (arith, is))
