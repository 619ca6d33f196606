-- The cause of a fault where a replay stops at a call that writes and reads nothing.
use Rattle.std.proofs.Common.{◌≡◌, ◌∙◌, Bool}
use Rattle.watched_io.specs.States.{ReaderState, ReadsWithin, WriterState}
use Rattle.watched_io.specs.declared.fault.IoFault.{IoFault}
use Rattle.watched_io.specs.declared.fault.IoFault.TheVariants.{ReadFault, WriteFault, OutOfMemory}
use Rattle.phase_replay.specs.declared.whole.TheConstants.{SCRIPT_MAX}
use Rattle.phase_replay.specs.Replay.{HasCause}
use Rattle.phase_replay.specs.Replayer.{FaultIsNoted}

-- only the note of a failed write may have changed, and then the fault says so
pub cause_at : (fault : IoFault) (unread rest : ReaderState) (old new : WriterState) (mid : Bool) → ReadsWithin SCRIPT_MAX unread rest
    → rest.failed ≡ unread.failed → mid ≡ old.failed → FaultIsNoted fault mid new.failed
    → HasCause fault unread rest old new
cause_at ReadFault unread rest old new mid within read same noted = absurd noted
cause_at WriteFault unread rest old new mid within read same noted = (noted, read)
cause_at OutOfMemory unread rest old new mid within read same noted = (within, read, noted ∙ same)
