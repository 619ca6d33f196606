-- Sends that are held are not refused.
use Rattle.std.proofs.Common.{◌≡◌, ◌≤◌, ℤ, subst, arith}
use Rattle.std.specs.Prelude.{unsigned_abs, Result, Err}
use Rattle.phase_accum.specs.declared.outcome.TheConstants.{NO_VALUE}
use Rattle.phase_accum.specs.declared.pending.SendFault.{SendFault}
use Rattle.phase_accum.specs.Sends.{IsSend, value_max}

-- a value that can be sent is held where there is room
pub no-fault : (r : Result (Unit {0}) SendFault) (fault : SendFault) → r ≡ Err fault
    → (r ≡ Err SendFault.BadValue → ⊥) → (r ≡ Err SendFault.TooManySends → ⊥) → ⊥
no-fault r SendFault.BadValue is bad many = bad is
no-fault r SendFault.TooManySends is bad many = many is

pub not-no-value : (v : ℤ) → IsSend v → v ≡ NO_VALUE → ⊥
not-no-value v is e =
    let small : unsigned_abs NO_VALUE ≤ value_max =
    subst (λ (x : ℤ). unsigned_abs x ≤ value_max) e is.small in omega (arith, small)
