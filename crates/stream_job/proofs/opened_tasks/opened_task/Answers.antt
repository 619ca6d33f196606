-- The fields stand at the opening.
use Rattle.std.proofs.Common.{refl, sym, ap, subst, ◌∙◌, arith}
use Rattle.std.specs.Prelude.{slice_get}
use Rattle.graph_base.specs.Graphs.{is_sink}
use Rattle.stream_lists.specs.Lists.{sinks_of}
use Rattle.graph_runs.specs.Beginnings.{opening}
use Rattle.graph_runs.specs.TaskPlaces.{StandsUpTo, at_start}
use Rattle.graph_runs.specs.declared.owed.Owed.TheVariants.{Nothing}
use Rattle.stream_job.specs.Places.{owed_in}
use Rattle.stream_job.proofs.OpeningTasks.{opening_stands, sink_is}
use Rattle.stream_job.proofs.opened_tasks.opened_task.Goals as goal

pub returns : goal.returns
returns c =
    let job = c.args.job.now in
    let room = c.root_numbers.ensures.room in
    let most = c.owed_most-most.ensures in
    record {
      at = record {
        stands = subst (λ vs. StandsUpTo c.owed_most-most.result job (opening job) c.args.t
            (record (at_start c.root_numbers.result.items) { owed = owed_in Nothing vs }))
            (sym c.in_ok-first_made.ensures.none)
            (opening_stands c.owed_most-most.result job c.args.t c.root_numbers.result.items
            c.requires.graph c.requires.task c.root_numbers.ensures.few
            c.root_numbers.ensures.numbers);
        most = record {
          block = most.sized;
          least = most.least;
          few = most.most c.requires.own.1;
        };
        room = omega arith;
        filter = c.in_ok-first_filter.ensures;
        made_room = c.in_ok-first_made.ensures.room;
        made_by = λ fir. refl;
        made_none = λ other. c.in_ok-first_made.ensures.none;
        sink = λ kind.
            ap (slice_get (sinks_of job)) c.requires.sinks
            ∙ sink_is job c.args.t c.requires.task (ap is_sink kind);
      };
      line = most.line;
    }
