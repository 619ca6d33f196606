use Rattle.std.specs.Prelude.{◌≡◌}
use Rattle.phase_shared.proofs.reg.Reg.missing.Given as goal

-- nothing changed
abbrev pub invariant-loop : goal.invariant-loop
invariant-loop g l = (l.self ≡ l.fn.self) × (l.places ≡ l.fn.places)
