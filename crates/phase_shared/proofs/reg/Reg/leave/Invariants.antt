use Rattle.std.specs.Prelude.{◌≡◌}
use Rattle.phase_shared.proofs.reg.Reg.leave.Given as goal

-- nothing changed
abbrev pub invariant-loop : goal.invariant-loop
invariant-loop g l = l.reg ≡ l.initial.reg
