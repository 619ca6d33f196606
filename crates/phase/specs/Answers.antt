-- How the commands answer their words: which statuses may come, what is written, and what is told.
use Rattle.std.specs.Prelude.{◌≡◌, ◌⊎◌, ℕ, Bool, List, [], Option}
use Rattle.clap.specs.Words.{Kinds, Text}
use Rattle.phase_commands.specs.Ends.{EndsAs, LeavesAlone, MayEndAsked}
use Rattle.graph_commands.specs.FileJobs.{Known}
use Rattle.watched_io.specs.States.{WriterState, reader_state, writer_state}
use Rattle.watched_io.specs.declared.status.Status.{Status}
use Rattle.watched_io.specs.declared.watched.Watched.{Watched}
use Rattle.phase_replay.specs.Replays.{ReplayEnds}
use Rattle.phase_words.specs.Answers.{AnswerEnds, IsUnbegun, MayEnd}
use Rattle.phase_words.specs.CommandLine.{Asked, AskReplay, Asks, kinds_of}
use Rattle.phase_words.specs.RunLine.{AsksRun, AsksWorkers, Run, run_kinds_of, workers_kinds_of}
use Rattle.phase_words.specs.StreamLine.{AsksStream, Stream, stream_kinds_of}
use Rattle.phase_eval.specs.Ends.{EndsAsEval, MayEndAsEval}
use Rattle.phase.specs.Ends.{AskNoCounts, EndsAsRun, MayEndAsRun}
use Rattle.phase_stream.specs.Ends.{EndsAsStreamed, MayEndAsStream}
use Rattle.phase.specs.Ways.{run, way_of}

-- ---- any command

-- how a command answers words of which clap makes answers of these kinds, or none where it takes
-- them: what they ask for ends so, or memory ran out over the words; words that are not taken open
-- no file
pub record Answers {F W What : Type 0} (kinds : Kinds) (MayEndTaken : Status → Type 0)
    (AsksFor Ends : What → Type 0) (status : Status) (closed files : F) (old new : Watched W)
    (before after : WriterState) : Type 0 where
  pub ends : MayEnd kinds MayEndTaken status
  pub asked : (what : What) → AsksFor what
      → IsUnbegun status closed files old new before after ⊎ Ends what
  pub answered : (kinds ≡ [] → ⊥) → AnswerEnds kinds status old new before after
  pub unopened : (kinds ≡ [] → ⊥) → files ≡ closed

-- ---- each command

-- `run` answers words of its own
abbrev pub RunAnswers : {F W : Type 0} → List Text → Known → (W → Option (List ℕ)) → Status
    → F → F → Watched W → Watched W → WriterState → WriterState → Type 0
RunAnswers words known contents status closed files old new before after =
    Answers (run_kinds_of words) MayEndAsRun (AsksRun words)
    (λ (what : Run). EndsAsRun what known contents status old new before after)
    status closed files old new before after

-- where the words are for a run, they ask for no counts
abbrev pub AsksNoCounts : List Text → Type 0
AsksNoCounts words = (own : List Text) → way_of words ≡ run own → AskNoCounts own

-- `eval` by workers answers the words behind its name
abbrev pub EvalAnswers : {F W : Type 0} → List Text → Known → (W → Option (List ℕ)) → Status
    → F → F → Watched W → Watched W → WriterState → WriterState → Type 0
EvalAnswers words known contents status closed files old new before after =
    Answers (workers_kinds_of words) MayEndAsEval (AsksWorkers words)
    (λ (what : Run). EndsAsEval what known contents status old new before after)
    status closed files old new before after

-- `stream` answers words of its own
abbrev pub StreamAnswers : {F W V : Type 0} → List Text → Known → Bool → (W → Option (List ℕ))
    → (V → Option (List ℕ)) → Status → List (Watched V) → F → F → Watched W → Watched W
    → WriterState → WriterState → Type 0
StreamAnswers words known knows of_output of_file status made closed files old new before after =
    Answers (stream_kinds_of words) MayEndAsStream (AsksStream words)
    (λ (what : Stream). EndsAsStreamed what known knows of_output of_file status made
    old new before after)
    status closed files old new before after

-- the others answer all the words: a replay of the input ends as one also where memory ran out, a
-- replay with no file alone reads the input, and what goes by a file alone opens files
pub record OthersAnswer {F R W : Type 0} (words : List Text) (known : Known)
    (remaining : R → Option (List ℕ)) (contents : W → Option (List ℕ)) (status : Status)
    (input rest : Watched R) (closed files : F) (old new : Watched W)
    (before after : WriterState) : Type 0 where
  pub answers : Answers (kinds_of words) (MayEndAsked words) (Asks words)
      (λ (what : Asked). EndsAs what known contents status
      (reader_state remaining input) (reader_state remaining rest) old new before after)
      status closed files old new before after
  pub replay : AskReplay words → ReplayEnds status
      (reader_state remaining input) (reader_state remaining rest)
      (writer_state contents old) (writer_state contents new) before after
  pub left : LeavesAlone words input rest closed files
