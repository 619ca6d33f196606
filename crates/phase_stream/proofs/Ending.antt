-- How a stream ends, by what its parts answered.
use Rattle.std.proofs.Common.{◌≡◌, ◌≢◌, ◌⊎◌, ◌+◌, inl, inr, ℕ, zero, suc, Bool, true, false, List, [], ◌∷◌, Option, Some, None, Ok, Err, length, refl, sym, subst, ◌∙◌, arith}
use Rattle.std.proofs.KnownBytes.{Appends-nil}
use Rattle.std.specs.Prelude.{IfErr, OnOk}
use Rattle.std.specs.Io.KnownBytes.{Appends, Keeps}
use Rattle.std.specs.declared.result.Result.{Result}
use Rattle.graph_commands.specs.Failures.{failure_status}
use Rattle.graph_commands.specs.FileJobs.{IsGraphOf, Known}
use Rattle.graph_commands.specs.GraphRuns.{job_status}
use Rattle.graph_commands.specs.declared.failure.Failure.{Failure}
use Rattle.graph_commands.specs.declared.failure.Failure.TheVariants as failure
use Rattle.graph_commands.specs.declared.fault.JobFault.{JobFault}
use Rattle.graph_commands.specs.declared.fault.JobFault.TheVariants as fault
use Rattle.watched_io.specs.States.{WriterState}
use Rattle.watched_io.specs.declared.explain.Explain.{Explain}
use Rattle.watched_io.specs.declared.fault.IoFault.{IoFault}
use Rattle.watched_io.specs.declared.fault.IoFault.TheVariants as io_fault
use Rattle.watched_io.specs.declared.status.Status.{Status}
use Rattle.watched_io.specs.declared.status.Status.TheVariants.{Done}
use Rattle.watched_io.specs.declared.watched.Watched.{Watched}
use Rattle.graph_commands.proofs.Needed.{needed-graph}
use Rattle.phase_words.specs.Outputs.{Pair}
use Rattle.phase_words.specs.StreamLine.{Stream}
use Rattle.graph_base.specs.Graphs.{Graph}
use Rattle.stream_lists.specs.Jobs.{Job}
use Rattle.phase_stream.specs.Ends.{MayEndAsStream}
use Rattle.phase_stream.specs.Outputs.{AreNotRead, AreBare, AreMadeLast, HasSinks, IsAsAsked, IsUnbegunStream, IsUnmadeFile, IsUnreadGraph, StopOf, StreamDoes, StreamEndsBy, StreamFailsBy, WriteWhole, bare_at, bare_file, task_to, writers_at}
use Rattle.phase_stream.specs.Streams.{IsStreamTold, explained}
use Rattle.phase_stream.specs.Tables.{TableDoes, TableEnds, TableFails}

-- ---- statuses

job_ends : (found : JobFault) → MayEndAsStream (job_status found)
job_ends (fault.Graph found) = inr (inl refl)
job_ends (fault.BadSample name number told) = inr (inl refl)
job_ends fault.ReadFault = inr (inr (inr (inr refl)))
job_ends fault.OutOfMemory = inr (inr (inr (inr refl)))

pub failure_ends : (found : Failure) → MayEndAsStream (failure_status found)
failure_ends (failure.Graph found text) = job_ends found
failure_ends (failure.NoSink job name) = inr (inl refl)
failure_ends (failure.TooBig job place phase) = inr (inr (inl refl))
failure_ends (failure.Stalled further) = inr (inr (inr (inl refl)))
failure_ends (failure.Io found) = inr (inr (inr (inr refl)))

job_not_done : (found : JobFault) → job_status found ≢ Done
job_not_done (fault.Graph found) = λ e. (cc e)
job_not_done (fault.BadSample name number told) = λ e. (cc e)
job_not_done fault.ReadFault = λ e. (cc e)
job_not_done fault.OutOfMemory = λ e. (cc e)

failure_not_done : (found : Failure) → failure_status found ≢ Done
failure_not_done (failure.Graph found text) = job_not_done found
failure_not_done (failure.NoSink job name) = λ e. (cc e)
failure_not_done (failure.TooBig job place phase) = λ e. (cc e)
failure_not_done (failure.Stalled further) = λ e. (cc e)
failure_not_done (failure.Io found) = λ e. (cc e)

-- ---- the end

pub stream_ends : {A W V : Type 0} (Quiet : Type 0) (known : Known) (what : Stream) (knows : Bool)
    (of_output : W → Option (List ℕ)) (of_file : V → Option (List ℕ)) (old new : Watched W)
    (made : List (Watched V)) (done : Result A Failure) (status : Status)
    (before after : WriterState)
    → OnOk done (StreamDoes known what (bare_at knows what.files (of_output old.inner))
    (λ k. (writers_at of_output of_file new made k).written))
    → IfErr done (StreamFailsBy known what knows of_output of_file old new made)
    → OnOk done ((status ≡ Done) × Quiet)
    → IfErr done (λ found. status ≡ failure_status found)
    → IfErr done (λ found. IsStreamTold (explained found what.explain) found before after)
    → StreamEndsBy known what knows of_output of_file status old new made before after
stream_ends Quiet known what knows of_output of_file old new made (Ok unit) status before after does
    fails quiet is told =
    record { done = λ e. does; stops = λ other. absurd (other quiet.0) }
stream_ends Quiet known what knows of_output of_file old new made (Err found) status before after does
    fails quiet is told =
    record {
      done = λ e. absurd (failure_not_done found (sym is ∙ e));
      stops = λ other. record { found = found; fails = fails; status_is = is; told = told };
    }

-- the same where all sinks are the columns of a table
pub table_ends : {A W : Type 0} (Quiet : Type 0) (explain : Explain) (known : Known) (name : List ℕ)
    (contents : W → Option (List ℕ)) (old new : Watched W) (done : Result A Failure)
    (status : Status) (before after : WriterState)
    → OnOk done (TableDoes known name (contents old.inner) (contents new.inner))
    → IfErr done (TableFails known name contents old new) → OnOk done ((status ≡ Done) × Quiet)
    → IfErr done (λ found. status ≡ failure_status found)
    → IfErr done (λ found. IsStreamTold (explained found explain) found before after)
    → TableEnds explain known name status contents old new before after
table_ends Quiet explain known name contents old new (Ok unit) status before after does fails quiet is
    told =
    record { done = λ e. does; stops = λ other. absurd (other quiet.0) }
table_ends Quiet explain known name contents old new (Err found) status before after does fails quiet
    is told =
    record {
      done = λ e. absurd (failure_not_done found (sym is ∙ e));
      stops = λ other. record { found = found; fails = fails; status_is = is; told = told };
    }

pub status_ends : {A : Type 0} (Quiet : Type 0) (done : Result A Failure) (status : Status)
    → OnOk done ((status ≡ Done) × Quiet) → IfErr done (λ found. status ≡ failure_status found)
    → MayEndAsStream status
status_ends Quiet (Ok unit) status quiet is = inl quiet.0
status_ends Quiet (Err found) status quiet is = subst MayEndAsStream (sym is) (failure_ends found)

-- ---- a stream that began

-- what the words ask for is there
pub there_of : (known : Known) (what : Stream) (job now : Job) (graph : Graph) → now ≡ job
    → graph ≡ now.graph → IsGraphOf known what.graph job.graph → HasSinks job what.sink what.files
    → AreNotRead what.beside what.graph graph what.files → IsAsAsked known what now
there_of known what job now graph same is of_graph sinks apart = record {
  graph_of = subst (λ (j : Job). IsGraphOf known what.graph j.graph) (sym same) of_graph;
  sinks = subst (λ j. HasSinks j what.sink what.files) (sym same) sinks;
  apart = subst (λ g. AreNotRead what.beside what.graph g what.files) is apart;
}

-- files were made only where it is
pub made_last : {V : Type 0} (known : Known) (what : Stream) (job now : Job) (graph : Graph)
    (made : List (Watched V)) → now ≡ job → graph ≡ now.graph → IsGraphOf known what.graph job.graph
    → HasSinks job what.sink what.files
    → (made ≡ []) ⊎ AreNotRead what.beside what.graph graph what.files → AreMadeLast known what made
made_last known what job now graph made same is of_graph sinks (inl none) = inl none
made_last known what job now graph made same is of_graph sinks (inr apart) =
    inr (now, there_of known what job now graph same is of_graph sinks apart)

pub begun_does : (known : Known) (what : Stream) (job : Job) (goes : ℕ → Option ℕ)
    (old now : ℕ → Option (List ℕ)) → IsAsAsked known what job
    → ((k : ℕ) → goes k ≡ task_to job what.sink what.files k) → WriteWhole known job goes old now
    → StreamDoes known what old now
begun_does known what job goes old now there same whole = record {
  job = job;
  there = there;
  whole = subst (λ goes. WriteWhole known job goes old now) (λ i. λ k. same k i) whole;
}

pub begun_stops : {W V : Type 0} (known : Known) (what : Stream) (knows : Bool)
    (of_output : W → Option (List ℕ)) (of_file : V → Option (List ℕ)) (old new : Watched W)
    (made : List (Watched V)) (job : Job) (goes : ℕ → Option ℕ) (many : ℕ) (found : Failure)
    → IsAsAsked known what job → ((k : ℕ) → goes k ≡ task_to job what.sink what.files k)
    → many ≡ length what.files + 1
    → StopOf known job goes many (bare_at knows what.files (of_output old.inner))
    (writers_at of_output of_file new made) found
    → StreamFailsBy known what knows of_output of_file old new made found
begun_stops known what knows of_output of_file old new made job goes many found there same long stops =
    inr (record {
      job = job;
      there = there;
      stops = subst (λ goes. StopOf known job goes (length what.files + 1)
          (bare_at knows what.files (of_output old.inner)) (writers_at of_output of_file new made) found)
          (λ i. λ k. same k i)
          (subst (λ n. StopOf known job goes n
          (bare_at knows what.files (of_output old.inner)) (writers_at of_output of_file new made) found)
          long stops);
    })

-- ---- one that did not begin

-- no file was made
pub none_bare : {V : Type 0} (knows : Bool) (of_file : V → Option (List ℕ)) (made : List (Watched V))
    → made ≡ [] → AreBare knows of_file made
none_bare knows of_file [] e = λ k writer there. absurd (let bad : None ≡ Some writer = there in cc)
none_bare knows of_file (w ∷ ws) e = absurd (cc)

-- no file was made, or not all
pub unmade_unbegun : (known : Known) (what : Stream) (fault : IoFault) (graph : Graph)
    → IsGraphOf known what.graph graph
    → (fault ≡ io_fault.OutOfMemory) ⊎ ((fault ≡ io_fault.WriteFault) × (what.files ≢ []))
    → IsUnmadeFile known what fault
unmade_unbegun known what fault graph of_graph (inl memory) =
    inl (memory, needed-graph known what.graph graph of_graph)
unmade_unbegun known what fault graph of_graph (inr unmade) = inr unmade

-- nothing was read
pub unread_unbegun : (known : Known) (what : Stream) (found : Failure)
    → IsUnreadGraph known what.graph found → IsUnbegunStream known what found
unread_unbegun known what (failure.Graph found text) why = why
unread_unbegun known what (failure.NoSink job wanted) why = absurd why
unread_unbegun known what (failure.TooBig other at phase) why = why
unread_unbegun known what (failure.Stalled further) why = why
unread_unbegun known what (failure.Io found) why = absurd why

-- ---- the writers before anything is written

bare_keeps : (knows : Bool) (held : Option (List ℕ)) → Keeps (bare_file knows) held
    → Appends (bare_file knows) held []
bare_keeps false held keeps = tt
bare_keeps true None keeps = keeps
bare_keeps true (Some xs) keeps = keeps

-- each stands as it is told
pub writers_bare : {W V : Type 0} (knows : Bool) (of_output : W → Option (List ℕ))
    (of_file : V → Option (List ℕ)) (output : Watched W) (files : List Pair)
    (made : List (Watched V)) → AreBare knows of_file made → length made ≡ length files → (k : ℕ)
    → Appends (bare_at knows files (of_output output.inner) k)
    (writers_at of_output of_file output made k).written []
writers_bare knows of_output of_file output files made bare many zero =
    Appends-nil (of_output output.inner)
writers_bare knows of_output of_file output [] made bare many (suc k) = tt
writers_bare knows of_output of_file output (file ∷ files) [] bare many (suc k) =
    absurd (omega (arith, many))
writers_bare knows of_output of_file output (file ∷ files) (writer ∷ made) bare many (suc zero) =
    bare_keeps knows (of_file writer.inner) (bare 0 writer refl)
writers_bare knows of_output of_file output (file ∷ files) (writer ∷ made) bare many (suc (suc k)) =
    writers_bare knows of_output of_file output files made
    (λ j other there. bare (suc j) other there) (omega (arith, many)) (suc k)

-- files that are known alike
pub known_same : (now first : Known) → ((other : List ℕ) → now other ≡ first other) → now ≡ first
known_same now first same = λ i. λ name. same name i
