use Rattle.std.proofs.Common.{◌≡◌, None, inl, inr, map, refl}
use Rattle.stream_eval.specs.Results.{sink_values}
use Rattle.stream_lists.specs.Lists.{lines_of}
use Rattle.graph_commands.proofs.Places.{sinks-within}
use Rattle.graph_commands.proofs.answered.job_columns.Goals as goal

-- each sink is a task of the graph
pub write_columns-requires : goal.write_columns-requires
write_columns-requires g c =
    sinks-within c.args.job c.deref.result.now (rw c.deref.ensures.value c.in-Ok.ensures.ok)

-- there are no lists
pub returns-clause-failed : goal.returns-clause-failed
returns-clause-failed g c known name of = inl (c.unanswered.ensures known name None of, refl)

-- a prefix of the table was written
pub returns-in-Ok-clause-failed : goal.returns-in-Ok-clause-failed
returns-in-Ok-clause-failed g c known name of =
    let values : map sink_values c.deref.result.now ≡ lines_of c.args.job =
    rw c.deref.ensures.value c.in-Ok.ensures.ok in
    inr (record {
      failure_is = refl;
      written = record {
        job = c.args.job;
        job_of = of;
        fits = c.in-Ok.ensures.fits;
        written = rw values at c.in-Err-write_columns.ensures.err;
      };
      noted = c.in-Err-write_columns.ensures.failed;
    })
