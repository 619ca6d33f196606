-- The refusals of the ring, as refusals of a signal.
use Rattle.phase_ring.specs.declared.slot.MergeRefusal.{MergeRefusal}
use Rattle.phase_ring.specs.declared.slot.MergeRefusal.TheVariants as merge
use Rattle.phase_history.specs.declared.refusal.SignalRefusal.{SignalRefusal}
use Rattle.phase_history.specs.declared.refusal.SignalRefusal.TheVariants as signal

-- the refusal of a signal whose sends do not join its phase
abbrev pub refusal_of : MergeRefusal → SignalRefusal
refusal_of merge.SingleDiffers = signal.SingleDiffers
refusal_of merge.PhaseFull = signal.PhaseFull
