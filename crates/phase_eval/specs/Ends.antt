-- How an evaluation of the program may end, by what its words ask for.
use Rattle.std.specs.Prelude.{◌≡◌, ◌⊎◌, ℕ, List, Option}
use Rattle.graph_commands.specs.Ends.{EvalEnds}
use Rattle.graph_commands.specs.FileJobs.{Known}
use Rattle.graph_commands.specs.Folders.{known_by}
use Rattle.watched_io.specs.States.{WriterState}
use Rattle.watched_io.specs.declared.status.Status.{Status}
use Rattle.watched_io.specs.declared.status.Status.TheVariants.{Done, Failed, GraphRefused, TooBig}
use Rattle.watched_io.specs.declared.watched.Watched.{Watched}
use Rattle.phase_words.specs.RunLine.{Run}

-- the statuses of an evaluation of a graph
abbrev pub MayEndAsEval : Status → Type 0
MayEndAsEval status =
    (status ≡ Done) ⊎ ((status ≡ GraphRefused) ⊎ ((status ≡ TooBig) ⊎ (status ≡ Failed)))

-- how the evaluation that words ask for ends
abbrev pub EndsAsEval : {W : Type 0} → Run → Known → (W → Option (List ℕ)) → Status
    → Watched W → Watched W → WriterState → WriterState → Type 0
EndsAsEval what known contents status old new before after =
    EvalEnds what.explain (known_by what.beside what.graph known) what.graph what.sink status
    contents old new before after
