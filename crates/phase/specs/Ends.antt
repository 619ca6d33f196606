-- How a run of the program may end, by what its words ask for.
use Rattle.std.specs.Prelude.{◌≡◌, ◌⊎◌, ℕ, Bool, true, false, List, Option}
use Rattle.phase.specs.Runs.{RunEnds}
use Rattle.phase_words.specs.RunLine.{AreRunTaken, Run, run_in}
use Rattle.graph_commands.specs.Explained.{AreFurtherLines}
use Rattle.graph_commands.specs.FileJobs.{Known}
use Rattle.graph_commands.specs.Folders.{known_by}
use Rattle.watched_io.specs.States.{WriterState}
use Rattle.watched_io.specs.Statuses.{Says}
use Rattle.watched_io.specs.declared.status.Status.{Status}
use Rattle.watched_io.specs.declared.status.Status.TheVariants.{Done, Failed, GraphRefused, Stalled, TooBig}
use Rattle.watched_io.specs.declared.watched.Watched.{Watched}

-- the statuses of a run of a graph
abbrev pub MayEndAsRun : Status → Type 0
MayEndAsRun status =
    (status ≡ Done) ⊎ ((status ≡ GraphRefused) ⊎ ((status ≡ TooBig) ⊎ ((status ≡ Stalled)
    ⊎ (status ≡ Failed))))

-- lines for a person were told
pub record TellsLines (before after : WriterState) : Type 0 where
  pub lines : List ℕ
  pub are : AreFurtherLines lines
  pub says : Says lines before after

-- behind all values nothing is told, or what each task did, where that is asked for
abbrev pub TellsCounts : Bool → WriterState → WriterState → Type 0
TellsCounts false before after = after ≡ before
TellsCounts true before after = TellsLines before after

-- how the run that words ask for ends
pub record EndsAsRun {W : Type 0} (what : Run) (known : Known) (contents : W → Option (List ℕ))
    (status : Status) (old new : Watched W) (before after : WriterState) : Type 0 where
  pub ends : RunEnds what.explain (known_by what.beside what.graph known) what.graph what.sink
      status contents old new before after
  pub counts : status ≡ Done → TellsCounts what.counts before after

-- words that are taken ask for no counts
abbrev pub AskNoCounts : List (List ℕ) → Type 0
AskNoCounts words = AreRunTaken words → (run_in words).counts ≡ false
