-- A replay of a text that is known, and where a strict one stops: at the first line that is
-- refused.
use Rattle.std.specs.Prelude.{◌≡◌, ◌⊎◌, ℕ, ◌+◌, Bool, true, false, List, [], ◌∷◌, ◌++◌, length}
use Rattle.std.specs.Prelude.{codes, decimal, ⊤}
use Rattle.std.specs.List.{concat}
use Rattle.std.specs.Io.KnownBytes.{Appends}
use Rattle.phase_script.specs.Commands.{command_of}
use Rattle.phase_script.specs.Lines.{lines_of}
use Rattle.phase_script.specs.ReplyLines.{WholeReply, BadLine, Refused}
use Rattle.watched_io.specs.Prefix.{AppendsPrefix}
use Rattle.watched_io.specs.States.{WriterState}
use Rattle.watched_io.specs.Statuses.{Reports, Says}
use Rattle.watched_io.specs.declared.fault.IoFault.{IoFault}
use Rattle.phase_replay.specs.Replayer.{FaultIsNoted}
use Rattle.phase_replay.specs.Replies.{replies_of}
use Rattle.phase_replay.specs.Scripts.{ScriptState, after_line, reply_of_line, start, state_after}
use Rattle.watched_io.specs.declared.status.Status.{Status}
use Rattle.watched_io.specs.declared.status.Status.TheVariants.{Done, Failed, GraphRefused}

-- ---- lines that are refused

-- the reply says that the line is no command, or that it was refused
abbrev pub is_refusal : WholeReply → Bool
is_refusal (Refused refusal) = true
is_refusal BadLine = true
is_refusal reply = false

-- the line is refused there, or it is no command
abbrev pub is_refused : ScriptState → List ℕ → Bool
is_refused state line = is_refusal (reply_of_line state (command_of line))

-- none of the lines is
abbrev pub AreLinesTaken : ScriptState → List (List ℕ) → Type 0
AreLinesTaken state [] = ⊤
AreLinesTaken state (line ∷ lines) =
    (is_refused state line ≡ false) × AreLinesTaken (after_line state line) lines

-- the script's line of this number, counted from 1, is the first that is refused, and the front is
-- the script through that line
pub record ScriptStopsAt (script front : List ℕ) (number : ℕ) : Type 0 where
  pub before : List (List ℕ)
  pub line : List ℕ
  pub behind : List (List ℕ)
  pub lines_are : lines_of script ≡ before ++ line ∷ behind
  pub front_lines : lines_of front ≡ before ++ line ∷ []
  pub taken : AreLinesTaken start before
  pub refused : is_refused (state_after before) line ≡ true
  pub number_is : number ≡ length before + 1

-- ---- how a replay of a text ends

-- the fault's line for the line of this number
abbrev pub script_line : ℕ → List ℕ
script_line number = concat (codes "phase: script line " ∷ decimal number ∷ codes "\n" ∷ [])

-- the output grew by a prefix of these replies, and a fault was told: a write failed or memory ran
-- out, since nothing is read
pub record TextStops (owed : List ℕ) (old new before after : WriterState) : Type 0 where
  pub fault : IoFault
  pub noted : FaultIsNoted fault old.failed new.failed
  pub prefix : AppendsPrefix old.written new.written owed
  pub says : Reports fault before after

-- how a replay of a text ends, by its status
pub record TextEnds (script : List ℕ) (status : Status)
    (old new before after : WriterState) : Type 0 where
  pub done : status ≡ Done → Appends old.written new.written (replies_of script)
  pub stops : status ≡ Failed → TextStops (replies_of script) old new before after

-- no line of the script is refused, and the output grew by the replies
pub record StrictReplays (script : List ℕ) (old new : WriterState) : Type 0 where
  pub taken : AreLinesTaken start (lines_of script)
  pub written : Appends old.written new.written (replies_of script)

-- a line is: the output grew by the replies through that line, and its number was told
pub record StrictRefusal (script : List ℕ) (old new before after : WriterState) : Type 0 where
  pub front : List ℕ
  pub number : ℕ
  pub stops : ScriptStopsAt script front number
  pub written : Appends old.written new.written (replies_of front)
  pub says : Says (script_line number) before after

-- what of a script is replayed strictly: all of it, where no line is refused, or what goes through
-- the first line that is; nothing, where memory ran out over the search for that line
abbrev pub IsReplayedFront : List ℕ → List ℕ → ℕ → Type 0
IsReplayedFront script front number =
    ((front ≡ script) × AreLinesTaken start (lines_of script))
    ⊎ (ScriptStopsAt script front number ⊎ (front ≡ []))

-- a fault was told, behind a prefix of the replies to what is replayed
pub record StrictStops (script : List ℕ) (old new before after : WriterState) : Type 0 where
  pub front : List ℕ
  pub number : ℕ
  pub through : IsReplayedFront script front number
  pub stops : TextStops (replies_of front) old new before after

-- how a strict replay of a text ends, by its status
pub record StrictEnds (script : List ℕ) (status : Status)
    (old new before after : WriterState) : Type 0 where
  pub done : status ≡ Done → StrictReplays script old new
  pub refused : status ≡ GraphRefused → StrictRefusal script old new before after
  pub stops : status ≡ Failed → StrictStops script old new before after
