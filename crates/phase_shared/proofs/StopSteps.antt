-- A wait that ends where the phaser is closed, by whether the task waits.
use Rattle.std.proofs.Common.{◌≡◌, ℕ, ℤ, Bool, true, false, List, Option, None, refl}
use Rattle.phase_shared.specs.Phasers.{Limits, Outcome, Got, History}
use Rattle.phase_shared.specs.Closings.{WaitsOrStops}

module _ (value : List ℤ → Outcome) (limits : Limits) (me : ℕ) where
  -- a task that waits made this one
  pub stops_made : (old new : History) (can : Bool) (got : Option Got) → can ≡ true
      → WaitsOrStops true value limits me old new got → WaitsOrStops can value limits me old new got
  stops_made old new true got yes' made = made
  stops_made old new false got yes' made = absurd (cc)

  -- another made none
  pub stops_none : (h : History) (can : Bool) → can ≡ false → WaitsOrStops can value limits me h h None
  stops_none h true no' = absurd (cc)
  stops_none h false no' = refl
