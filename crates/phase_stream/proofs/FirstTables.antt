-- A table of which the names alone were written, or a part of them.
use Rattle.std.proofs.Common.{◌≡◌, ℕ, true, List, Option, get_or, sym, ap, subst, append-nil}
use Rattle.std.specs.Io.KnownBytes.{Appends}
use Rattle.graph_commands.specs.FileJobs.{IsGraphOf, Known}
use Rattle.graph_commands.specs.declared.failure.Failure.{Failure}
use Rattle.graph_commands.specs.declared.failure.Failure.TheVariants as failure
use Rattle.watched_io.specs.Prefix.{AppendsPrefix}
use Rattle.watched_io.specs.States.{WriterState}
use Rattle.stream_job.specs.Streams.{ended_at, has_ended}
use Rattle.graph_runs.specs.Moments.{started}
use Rattle.stream_lists.specs.Jobs.{Job}
use Rattle.stream_lists.specs.Lists.{sinks_of}
use Rattle.phase_stream.specs.Outputs.{IsUnreadGraph}
use Rattle.phase_stream.specs.Sessions.{StandsFresh}
use Rattle.phase_stream.specs.TableLines.{AreNewColumns, Shows, TableStands, by_number, names_line, table_text}
use Rattle.phase_stream.specs.Tables.{IsUnbegunTable, StopsAtTable, TableDoes, TableStops, WritesTable, WritesTablePart, unknown}
use Rattle.phase_stream.specs.declared.session.Session.{Session}
use Rattle.phase_stream.specs.declared.table.Table.{Table}
use Rattle.phase_stream.proofs.RightTables.{text_begins}
use Rattle.phase_stream.proofs.TakenLines.{shows_none, view_none}

first_shows : {R : Type 0} (remaining : R → Option (List ℕ)) (held : Known) (session : Session R)
    (table : Table) (fresh : StandsFresh remaining held unknown unknown session)
    → AreNewColumns session.stream.job table.columns.items
    → Shows session.stream.job (ended_at session.stream) true fresh.0.samples fresh.0.moment
    (by_number session.stream.job fresh.0.given) table.columns.items (view_none session.stream.job)
first_shows {R} remaining held session table fresh new =
    shows_none session.stream.job (ended_at session.stream) true fresh.0.samples fresh.0.moment
    (by_number session.stream.job fresh.0.given) table.columns.items new
    (λ k. ap (λ g. g (get_or (sinks_of session.stream.job) k 0)) fresh.1)

pub first_table : {R : Type 0} (remaining : R → Option (List ℕ)) (held : Known)
    (old now : Option (List ℕ)) (session : Session R) (table : Table)
    → StandsFresh remaining held unknown unknown session
    → AreNewColumns session.stream.job table.columns.items
    → Appends old now (names_line session.stream.job)
    → TableStands remaining held old now session table true
first_table {R} remaining held old now session table fresh new written = record {
  stands = fresh.0;
  view = view_none session.stream.job;
  shows = first_shows remaining held session table fresh new;
  written = subst (Appends old now) (sym (append-nil (names_line session.stream.job))) written;
}

pub first_part : {R : Type 0} (remaining : R → Option (List ℕ)) (held : Known)
    (old now : Option (List ℕ)) (session : Session R) (table : Table)
    → StandsFresh remaining held unknown unknown session
    → AreNewColumns session.stream.job table.columns.items
    → AppendsPrefix old now (names_line session.stream.job)
    → WritesTablePart held session.stream.job old now
first_part {R} remaining held old now session table fresh new written =
    let by = fresh.0 in
    let job = session.stream.job in
    record {
      samples = by.samples;
      ended = has_ended session.stream.inputs;
      came = by.reaches.came;
      starts = (started job by.moment).starts;
      text = table_text job (view_none job);
      right = λ later behind. text_begins session.stream true by.samples by.moment by.given later
          (by_number job by.given) table.columns.items (view_none job) by.reaches.at behind.feeds
          behind.ready (first_shows remaining held session table fresh new);
      written = subst (AppendsPrefix old now) (sym (append-nil (names_line job))) written;
    }

-- ---- the job of the graph

graph_now : (known : Known) (name : List ℕ) (first now : Job) → now ≡ first
    → IsGraphOf known name first.graph → IsGraphOf known name now.graph
graph_now known name first now same is = subst (λ (j : Job). IsGraphOf known name j.graph) (sym same) is

pub table_does : (known : Known) (name : List ℕ) (first job : Job) (old now : Option (List ℕ))
    → job ≡ first → IsGraphOf known name first.graph → WritesTable known job old now
    → TableDoes known name old now
table_does known name first job old now same is whole = record {
  job = job;
  graph_of = graph_now known name first job same is;
  whole = whole;
}

pub table_stops : (known : Known) (name : List ℕ) (first job : Job) (old : Option (List ℕ))
    (new : WriterState) (found : Failure) → job ≡ first → IsGraphOf known name first.graph
    → StopsAtTable known job old new found → TableStops known name old new found
table_stops known name first job old new found same is stops = record {
  job = job;
  graph_of = graph_now known name first job same is;
  stops = stops;
}

-- no graph was read
pub unread_table : (known : Known) (name : List ℕ) (found : Failure)
    → IsUnreadGraph known name found → IsUnbegunTable known name found
unread_table known name (failure.Graph fault text) is = is
unread_table known name (failure.NoSink job wanted) is = absurd is
unread_table known name (failure.TooBig job at phase) is = absurd is
unread_table known name (failure.Stalled further) is = absurd is
unread_table known name (failure.Io found) is = absurd is
