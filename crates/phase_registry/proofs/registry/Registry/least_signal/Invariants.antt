-- the least phase of the members so far
use Rattle.std.proofs.Common.{◌≡◌, None, take}
use Rattle.std.specs.List.{fold}
use Rattle.phase_base.specs.Modes.{mode_signals}
use Rattle.phase_registry.proofs.Leasts.{lower}
use Rattle.phase_registry.proofs.registry.Registry.least_signal.Given as goal

abbrev pub invariant-loop-member : goal.invariant-loop-member
invariant-loop-member l =
    l.least ≡ fold (lower (λ e. mode_signals e.mode) (λ e. e.signal_phase)) None (take l.member-index l.member-items)
