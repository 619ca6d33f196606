-- The definitions at the limits of members and of sends.
use Rattle.std.proofs.Common.{◌≡◌, ℕ, zero, suc, [], ◌∷◌, Some, None, pos, replicate, refl}
use Rattle.phase_base.specs.Limits.{limits}
use Rattle.phase_base.specs.declared.mode.Mode.TheVariants.{Sig, Wait}
use Rattle.phase_accum.specs.declared.outcome.Outcome.TheVariants.{Value}
use Rattle.phase_accum.specs.Values.{sum_value}
use Rattle.phase_history.specs.declared.event.Event.TheVariants.{Made, Registered, Signalled, Dropped}
use Rattle.phase_history.specs.declared.refusal.RegisterRefusal.TheVariants as joins
use Rattle.phase_history.specs.declared.refusal.SignalRefusal.TheVariants as signals
use Rattle.phase_history.specs.Histories.{History}
use Rattle.phase_history.specs.Phases.{value_of_phase}
use Rattle.phase_history.specs.Refusals.{register_refusal, signal_refusal}

-- task 0 with as many children, whose numbers are one after another
abbrev with_children : ℕ → History
with_children zero = Made 0 ∷ []
with_children (suc n) = Registered 0 (suc n) Wait ∷ with_children n

one_more_member : register_refusal (with_children 1022) 0 1023 Wait ≡ None
one_more_member = refl

no_more_members : register_refusal (with_children 1023) 0 1024 Wait ≡ Some joins.TooManyTasks
no_more_members = refl

-- a phase in which task 1 has sent so many ones
abbrev with_sends : ℕ → History
with_sends n = Signalled 1 (replicate n (pos 1) ∷ []) None ∷ Registered 0 1 Sig ∷ Made 0 ∷ []

one_more_send : signal_refusal (limits 2 100) (with_sends 65535) 0 ((pos 1 ∷ []) ∷ []) None ≡ None
one_more_send = refl

no_more_sends : signal_refusal (limits 2 100) (with_sends 65536) 0 ((pos 1 ∷ []) ∷ []) None ≡ Some signals.PhaseFull
no_more_sends = refl

-- while no waiter is registered a phase may have more
abbrev without_waiter : History
without_waiter =
    Signalled 1 (replicate 65536 (pos 1) ∷ []) None ∷ Dropped 0 ∷ Registered 0 2 Sig ∷ Registered 0 1 Sig
    ∷ Made 0 ∷ []

one_send_past_the_limit : signal_refusal (limits 2 100) without_waiter 2 ((pos 1 ∷ []) ∷ []) None ≡ None
one_send_past_the_limit = refl

their_sum : value_of_phase sum_value (Signalled 2 ((pos 1 ∷ []) ∷ []) None ∷ without_waiter) 0 ≡ Value (pos 65537)
their_sum = refl
