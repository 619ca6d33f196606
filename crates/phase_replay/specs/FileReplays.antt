-- How a replay of the script in a file ends.
use Rattle.std.specs.Prelude.{◌≡◌, ◌⊎◌, ◌≤◌, ℕ, List, length}
use Rattle.std.specs.declared.option.Option.{Option}
use Rattle.watched_io.specs.Faults.{as_io_fault}
use Rattle.watched_io.specs.Files.{HasBytes, MayBeRefused, MayNeedMemory}
use Rattle.watched_io.specs.States.{WriterState}
use Rattle.watched_io.specs.Statuses.{Reports}
use Rattle.watched_io.specs.declared.fault.FileFault.{FileFault}
use Rattle.watched_io.specs.declared.fault.FileFault.TheVariants as file_fault
use Rattle.phase_replay.specs.Stops.{StrictEnds, TextEnds}
use Rattle.phase_replay.specs.declared.whole.TheConstants.{SCRIPT_MAX}
use Rattle.watched_io.specs.declared.status.Status.{Status}
use Rattle.watched_io.specs.declared.status.Status.TheVariants.{Failed}

-- the script is that of the file, and no longer than a script may be
pub record IsScriptOf (file : Option (List ℕ)) (script : List ℕ) : Type 0 where
  pub bytes : HasBytes file script
  pub short : length script ≤ SCRIPT_MAX

-- the file was not read: it may be refused, or memory may run out over it
abbrev pub MayFail : Option (List ℕ) → FileFault → Type 0
MayFail file file_fault.ReadFault = MayBeRefused SCRIPT_MAX file
MayFail file file_fault.OutOfMemory = MayNeedMemory SCRIPT_MAX file

-- so nothing was written, and the fault was told
pub record IsFileUnread (file : Option (List ℕ)) (status : Status)
    (old new before after : WriterState) : Type 0 where
  pub fault : FileFault
  pub may_fail : MayFail file fault
  pub status_is : status ≡ Failed
  pub silent : new ≡ old
  pub says : Reports (as_io_fault fault) before after

-- the file was read, and its script replayed
pub record IsReplayed (file : Option (List ℕ)) (status : Status)
    (old new before after : WriterState) : Type 0 where
  pub script : List ℕ
  pub script_of : IsScriptOf file script
  pub ends : TextEnds script status old new before after

-- or strictly
pub record IsReplayedStrictly (file : Option (List ℕ)) (status : Status)
    (old new before after : WriterState) : Type 0 where
  pub script : List ℕ
  pub script_of : IsScriptOf file script
  pub ends : StrictEnds script status old new before after

-- how a replay of the script in a file ends
abbrev pub FileReplayEnds : Option (List ℕ) → Status
    → WriterState → WriterState → WriterState → WriterState → Type 0
FileReplayEnds file status old new before after =
    IsFileUnread file status old new before after ⊎ IsReplayed file status old new before after

-- and a strict one
abbrev pub StrictFileReplayEnds : Option (List ℕ) → Status
    → WriterState → WriterState → WriterState → WriterState → Type 0
StrictFileReplayEnds file status old new before after =
    IsFileUnread file status old new before after
    ⊎ IsReplayedStrictly file status old new before after
