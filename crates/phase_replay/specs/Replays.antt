-- How a replay ends: its status, and what stands on its streams then.
use Rattle.std.specs.Prelude.{◌≡◌}
use Rattle.watched_io.specs.States.{ReaderState, WriterState}
use Rattle.watched_io.specs.declared.fault.IoFault.{IoFault}
use Rattle.phase_replay.specs.Replay.{HasCause, RepliesPrefix, RepliesWhole, ReplaysAll, ReplaysPrefix}
use Rattle.watched_io.specs.Statuses.{Reports}
use Rattle.watched_io.specs.declared.status.Status.{Status}
use Rattle.watched_io.specs.declared.status.Status.TheVariants.{Done, Failed}

-- the output grew by the replies: to the script where it is known, and to some script that was read
pub record Replays (input rest : ReaderState) (old new : WriterState) : Type 0 where
  pub known : RepliesWhole input old new
  pub all : ReplaysAll input rest old new

-- the output grew by a prefix of them, and a fault that has its cause was told
pub record ReplayStops (input rest : ReaderState)
    (old new before after : WriterState) : Type 0 where
  pub fault : IoFault
  pub cause : HasCause fault input rest old new
  pub known : RepliesPrefix input old new
  pub prefix : ReplaysPrefix input rest old new
  pub says : Reports fault before after

-- how a replay ends, by its status
pub record ReplayEnds (status : Status) (input rest : ReaderState)
    (old new before after : WriterState) : Type 0 where
  pub done : status ≡ Done → Replays input rest old new
  pub stops : status ≡ Failed → ReplayStops input rest old new before after
