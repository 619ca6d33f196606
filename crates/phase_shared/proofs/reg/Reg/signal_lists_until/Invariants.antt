use Rattle.phase_shared.proofs.Later.{HasWaited}
use Rattle.phase_shared.proofs.reg.Reg.signal_lists_until.Given as goal

-- others' events came
abbrev pub invariant-loop : goal.invariant-loop
invariant-loop g l = HasWaited l.fn.self l.self
