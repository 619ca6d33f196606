-- The numbers of the statuses.
use Rattle.std.proofs.Common.{◌≡◌, ◌≤◌, ◌==◌, ℕ, refl, sym, ◌∙◌, ap, if◌then◌else◌, arith}
use Rattle.watched_io.specs.Statuses.{status_code}
use Rattle.watched_io.specs.declared.status.Status.{Status}
use Rattle.watched_io.specs.declared.status.Status.TheVariants as status

-- the status of a number
abbrev coded : ℕ → Status
coded n =
    if n == 0 then status.Done
    else if n == 1 then status.GraphRefused
    else if n == 2 then status.Refused
    else if n == 3 then status.TooBig
    else if n == 4 then status.Stalled
    else status.Failed

coded-status_code : (one : Status) → coded (status_code one) ≡ one
coded-status_code status.Done = refl
coded-status_code status.GraphRefused = refl
coded-status_code status.Refused = refl
coded-status_code status.TooBig = refl
coded-status_code status.Stalled = refl
coded-status_code status.Failed = refl

pub few : (one : Status) → status_code one ≤ 5
few status.Done = omega arith
few status.GraphRefused = omega arith
few status.Refused = omega arith
few status.TooBig = omega arith
few status.Stalled = omega arith
few status.Failed = omega arith

pub apart : (one other : Status) → status_code one ≡ status_code other → one ≡ other
apart one other same =
    sym (coded-status_code one) ∙ ap coded same ∙ coded-status_code other
