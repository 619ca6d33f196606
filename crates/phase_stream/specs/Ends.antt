-- How a run of the program may end, by what its words ask for.
use Rattle.std.specs.Prelude.{◌≡◌, ◌⊎◌, ℕ, Bool, false, true, List, Option}
use Rattle.graph_commands.specs.FileJobs.{Known}
use Rattle.graph_commands.specs.Folders.{known_by}
use Rattle.watched_io.specs.States.{WriterState}
use Rattle.watched_io.specs.declared.status.Status.{Status}
use Rattle.watched_io.specs.declared.status.Status.TheVariants.{Done, Failed, GraphRefused, Stalled, TooBig}
use Rattle.watched_io.specs.declared.watched.Watched.{Watched}
use Rattle.phase_stream.specs.Outputs.{StreamEndsBy}
use Rattle.phase_stream.specs.Tables.{TableEnds}
use Rattle.phase_words.specs.StreamLine.{Stream}

-- the statuses of a stream
abbrev pub MayEndAsStream : Status → Type 0
MayEndAsStream status =
    (status ≡ Done) ⊎ ((status ≡ GraphRefused) ⊎ ((status ≡ TooBig) ⊎ ((status ≡ Stalled)
    ⊎ (status ≡ Failed))))

-- how the stream that words ask for ends, where the values of sinks go to the output, to files
-- too, which were made, and of which it may be known what is written, or to both
abbrev pub EndsAsAsked : {W V : Type 0} → Stream → Known → Bool → (W → Option (List ℕ))
    → (V → Option (List ℕ)) → Status → List (Watched V) → Watched W → Watched W → WriterState
    → WriterState → Type 0
EndsAsAsked what known knows of_output of_file status made old new before after =
    what.columns ≡ false
    → StreamEndsBy (known_by what.beside what.graph known) what knows of_output of_file status
    old new made before after

-- and how it ends where all sinks go to the output as the columns of a table
abbrev pub EndsAsTable : {W : Type 0} → Stream → Known → (W → Option (List ℕ)) → Status
    → Watched W → Watched W → WriterState → WriterState → Type 0
EndsAsTable what known contents status old new before after = what.columns ≡ true
    → TableEnds what.explain (known_by what.beside what.graph known) what.graph status contents
    old new before after

-- all of these
pub record EndsAsStreamed {W V : Type 0} (what : Stream) (known : Known) (knows : Bool)
    (of_output : W → Option (List ℕ)) (of_file : V → Option (List ℕ)) (status : Status)
    (made : List (Watched V)) (old new : Watched W) (before after : WriterState) : Type 0 where
  pub files : EndsAsAsked what known knows of_output of_file status made old new before after
  pub table : EndsAsTable what known of_output status old new before after
