-- How a run of the program may end, by what its words ask for.
use Rattle.std.specs.Prelude.{◌≡◌, ◌⊎◌, ℕ, List, Option}
use Rattle.graph_commands.specs.Ends.{CheckEnds, ColumnsEnd, DrawEnds, EvalEnds}
use Rattle.graph_commands.specs.FileJobs.{Known}
use Rattle.graph_commands.specs.Folders.{known_by}
use Rattle.phase_replay.specs.FileReplays.{FileReplayEnds, StrictFileReplayEnds}
use Rattle.phase_replay.specs.Replays.{ReplayEnds}
use Rattle.watched_io.specs.States.{ReaderState, WriterState, writer_state}
use Rattle.watched_io.specs.declared.status.Status.{Status}
use Rattle.watched_io.specs.declared.status.Status.TheVariants.{Done, Failed, GraphRefused, TooBig}
use Rattle.watched_io.specs.declared.watched.Watched.{Watched}
use Rattle.phase_words.specs.CommandLine.{Asked, Asks, AskFile, AskReplay, check, columns, draw, eval, replay, replay_file}
use Rattle.phase_words.specs.declared.call.Strict.TheVariants.{No, Yes}

-- the statuses of what words that are taken ask for
abbrev pub MayEndAs : Asked → Status → Type 0
MayEndAs replay status = (status ≡ Done) ⊎ (status ≡ Failed)
MayEndAs (replay_file No _) status = (status ≡ Done) ⊎ (status ≡ Failed)
MayEndAs (replay_file Yes _) status =
    (status ≡ Done) ⊎ ((status ≡ GraphRefused) ⊎ (status ≡ Failed))
MayEndAs (check _ _ _) status = (status ≡ Done) ⊎ ((status ≡ GraphRefused) ⊎ (status ≡ Failed))
MayEndAs (eval _ _ _ _) status =
    (status ≡ Done) ⊎ ((status ≡ GraphRefused) ⊎ ((status ≡ TooBig) ⊎ (status ≡ Failed)))
MayEndAs (columns _ _ _) status =
    (status ≡ Done) ⊎ ((status ≡ GraphRefused) ⊎ ((status ≡ TooBig) ⊎ (status ≡ Failed)))
MayEndAs (draw _ _) status = (status ≡ Done) ⊎ ((status ≡ GraphRefused) ⊎ (status ≡ Failed))

-- the same of whatever the words ask for
abbrev pub MayEndAsked : List (List ℕ) → Status → Type 0
MayEndAsked words status = (what : Asked) → Asks words what → MayEndAs what status

-- how what words ask for ends: what a replay, a check, an evaluation and a drawing write, whole or
-- up to a fault, and why there is no other answer
abbrev pub EndsAs : {W : Type 0} → Asked → Known → (W → Option (List ℕ)) → Status
    → ReaderState → ReaderState → Watched W → Watched W → WriterState → WriterState → Type 0
EndsAs replay known contents status input rest old new before after =
    ReplayEnds status input rest (writer_state contents old) (writer_state contents new)
    before after
EndsAs (replay_file No name) known contents status input rest old new before after =
    FileReplayEnds (known name) status (writer_state contents old) (writer_state contents new)
    before after
EndsAs (replay_file Yes name) known contents status input rest old new before after =
    StrictFileReplayEnds (known name) status (writer_state contents old) (writer_state contents new)
    before after
EndsAs (check beside explain name) known contents status input rest old new before after =
    CheckEnds explain (known_by beside name known) name status contents old new before after
EndsAs (eval beside explain name sink) known contents status input rest old new before after =
    EvalEnds explain (known_by beside name known) name sink status contents old new before after
EndsAs (columns beside explain name) known contents status input rest old new before after =
    ColumnsEnd explain (known_by beside name known) name status contents old new before after
EndsAs (draw explain name) known contents status input rest old new before after =
    DrawEnds explain known name status contents old new before after

-- a replay with no file alone reads the input, and words that ask for something of a script or a
-- graph in a file alone open files
pub record LeavesAlone {R F : Type 0} (words : List (List ℕ)) (input rest : Watched R)
    (closed files : F) : Type 0 where
  pub unread : (AskReplay words → ⊥) → rest ≡ input
  pub unopened : ((name : List ℕ) → AskFile words name → ⊥) → files ≡ closed
