-- What stands on the fault stream after a fault.
use Rattle.std.specs.Prelude.{◌≡◌, ◌⊎◌, ℕ, true, List, codes}
use Rattle.std.specs.Io.KnownBytes.{Appends}
use Rattle.watched_io.specs.Prefix.{AppendsPrefix}
use Rattle.watched_io.specs.States.{WriterState}
use Rattle.watched_io.specs.declared.fault.IoFault.{IoFault}
use Rattle.watched_io.specs.declared.fault.IoFault.TheVariants.{OutOfMemory, ReadFault, WriteFault}
use Rattle.watched_io.specs.declared.status.Status.{Status}
use Rattle.watched_io.specs.declared.status.Status.TheVariants as status

-- the number that the process ends with
abbrev pub status_code : Status → ℕ
status_code status.Done = 0
status_code status.GraphRefused = 1
status_code status.Refused = 2
status_code status.TooBig = 3
status_code status.Stalled = 4
status_code status.Failed = 5

-- the line on the fault stream
abbrev pub fault_line : IoFault → List ℕ
fault_line ReadFault = codes "phase: read fault\n"
fault_line WriteFault = codes "phase: write fault\n"
fault_line OutOfMemory = codes "phase: out of memory\n"

-- a stream grew by the line, or, where a write to it failed, by a prefix of that
pub record Says (line : List ℕ) (old new : WriterState) : Type 0 where
  pub whole : (new.failed ≡ true) ⊎ Appends old.written new.written line
  pub prefix : AppendsPrefix old.written new.written line

-- the same of the fault stream and the fault's line
abbrev pub Reports : IoFault → WriterState → WriterState → Type 0
Reports fault old new = Says (fault_line fault) old new
