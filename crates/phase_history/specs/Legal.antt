-- Which lists of events are histories that the calls of a phaser can make.
use Rattle.std.specs.Prelude.{◌≡◌, ◌+◌, ◌≤◌, ℤ, List, [], ◌∷◌, None, length}
use Rattle.phase_base.specs.Limits.{Limits, AreLimits}
use Rattle.phase_base.specs.declared.limits.TheConstants.{SENDS_MAX}
use Rattle.phase_accum.specs.Values.{AreSends}
use Rattle.phase_accum.specs.Singles.{CanBeNamed}
use Rattle.phase_history.specs.declared.event.Event.{Event}
use Rattle.phase_history.specs.declared.event.Event.TheVariants.{Made, Registered, RegisteredNow, Signalled, Waited, Dropped}
use Rattle.phase_history.specs.Histories.{History, wait_phase, done_of}
use Rattle.phase_history.specs.Refusals.{register_refusal, register_now_refusal, signal_refusal, wait_refusal, drop_refusal}

-- each list is of values that can be sent, and not too long
abbrev pub AreLists : List (List ℤ) → Type 0
AreLists [] = Unit {0}
AreLists (sends ∷ lists) = AreSends sends × (length sends ≤ SENDS_MAX) × AreLists lists

-- after these events the event is that of an accepted call
abbrev pub IsAccepted : Limits → History → Event → Type 0
IsAccepted limits before (Made task) = AreLimits limits × (before ≡ [])
IsAccepted limits before (Registered parent child mode) =
    register_refusal before parent child mode ≡ None
IsAccepted limits before (RegisteredNow parent child) =
    register_now_refusal before parent child ≡ None
IsAccepted limits before (Signalled task lists single) =
    (signal_refusal limits before task lists single ≡ None) × AreLists lists × CanBeNamed single
IsAccepted limits before (Waited task n) =
    (wait_refusal limits before task n ≡ None) × (wait_phase before task + n ≤ done_of before)
IsAccepted limits before (Dropped task) = drop_refusal before task ≡ None

-- the history begins with the making of the phaser, and each later event is accepted
abbrev pub IsLegal : Limits → History → Type 0
IsLegal limits [] = ⊥
IsLegal limits (Made task ∷ before) = IsAccepted limits before (Made task)
IsLegal limits (event ∷ before) = IsLegal limits before × IsAccepted limits before event
