-- What a replay on its way still owes its writer.
use Rattle.std.specs.Prelude.{◌≡◌, ℕ, Bool, List, ◌++◌, take, true, Ok, Err}
use Rattle.std.specs.Io.KnownBytes.{Appends}
use Rattle.std.specs.declared.option.Option.{Option}
use Rattle.std.specs.declared.result.Result.{Result}
use Rattle.watched_io.specs.declared.fault.IoFault.{IoFault}
use Rattle.watched_io.specs.declared.fault.IoFault.TheVariants.{ReadFault, WriteFault, OutOfMemory}
use Rattle.phase_script.specs.Lines.{lines_after}
use Rattle.phase_replay.specs.Replies.{replies}
use Rattle.phase_replay.specs.Scripts.{ScriptState}
use Rattle.phase_replay.specs.Session.{SessionStands}
use Rattle.phase_replay.specs.declared.replayer.Replayer.{Replayer}
use Rattle.phase_replay.specs.declared.line_prefix.TheConstants.{PREFIX_MAX}

-- the replies that wait to be written
abbrev pub waiting_of : Replayer → List ℕ
waiting_of replayer = replayer.out.items

-- with `later` still to be read, `owed` is still to be written
pub record ReplayerOwes (replayer : Replayer) (later owed : List ℕ) : Type 0 where
  pub state : ScriptState
  pub prefix : List ℕ
  pub stands : SessionStands replayer.session state
  pub kept : replayer.kept ≡ take PREFIX_MAX prefix
  pub owed_is : owed ≡ waiting_of replayer ++ replies state (lines_after prefix later)

-- a prefix of `owed` was written, and with `later` still to be read the replayer owes the rest
pub record Goes (old new : Option (List ℕ)) (replayer : Replayer) (later owed : List ℕ)
    : Type 0 where
  pub sent : List ℕ
  pub rest : List ℕ
  pub whole : owed ≡ sent ++ rest
  pub appends : Appends old new sent
  pub owes : ReplayerOwes replayer later rest

-- the note of a failed write, before and after, at a fault of a call that writes and reads nothing
abbrev pub FaultIsNoted : IoFault → Bool → Bool → Type 0
FaultIsNoted ReadFault old new = ⊥
FaultIsNoted WriteFault old new = new ≡ true
FaultIsNoted OutOfMemory old new = new ≡ old

-- the same at each answer
abbrev pub IsNoted : {A : Type 0} → Result A IoFault → Bool → Bool → Type 0
IsNoted (Ok _) old new = new ≡ old
IsNoted (Err fault) old new = FaultIsNoted fault old new
