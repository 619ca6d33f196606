use Rattle.std.proofs.Common.{◌≡◌, inl, inr, map, refl}
use Rattle.std.specs.List.{All}
use Rattle.stream_eval.specs.Results.{sink_values}
use Rattle.stream_lists.specs.Lists.{lines_of, start_in}
use Rattle.stream_eval.proofs.SinkStarts.{outputs-are}
use Rattle.graph_commands.proofs.answered.eval_asked.Goals as goal

-- the lines are the job's
pub write_sinks-requires-clause-lines : goal.write_sinks-requires-clause-lines
write_sinks-requires-clause-lines g c = (c.args.asked.job.starts, rw c.deref.ensures.value c.in-Ok.ensures.ok)

-- there are no lists
pub returns-clause-failed : goal.returns-clause-failed
returns-clause-failed g c known name sink of asks =
    inl (c.unanswered.ensures known name sink of, refl)

-- the lists were written
pub returns-in-Ok-write_sinks-clause-done : goal.returns-in-Ok-write_sinks-clause-done
returns-in-Ok-write_sinks-clause-done g c known name sink of asks =
    let job = c.args.asked.job in
    let lines = c.deref.result.now in
    let values : map sink_values lines ≡ lines_of job =
    rw c.deref.ensures.value c.in-Ok.ensures.ok in
    let starts : All (λ line. line.start ≡ start_in job line.task) lines =
    rw c.deref.ensures.value c.in-Ok.ensures.starts in
    let outputs = outputs-are job lines values starts in
    record {
      job = job;
      job_of = of;
      fits = c.in-Ok.ensures.fits;
      sink = c.args.asked.sink;
      asks = asks;
      written = rw outputs at c.in-Ok-write_sinks.ensures.ok;
    }

-- a prefix of them was
pub returns-in-Ok-clause-failed : goal.returns-in-Ok-clause-failed
returns-in-Ok-clause-failed g c known name sink of asks =
    let job = c.args.asked.job in
    let lines = c.deref.result.now in
    let values : map sink_values lines ≡ lines_of job =
    rw c.deref.ensures.value c.in-Ok.ensures.ok in
    let starts : All (λ line. line.start ≡ start_in job line.task) lines =
    rw c.deref.ensures.value c.in-Ok.ensures.starts in
    let outputs = outputs-are job lines values starts in
    inr (record {
      failure_is = refl;
      written = record {
        job = job;
        job_of = of;
        fits = c.in-Ok.ensures.fits;
        sink = c.args.asked.sink;
        asks = asks;
        written = rw outputs at c.in-Err-write_sinks.ensures.err;
      };
      noted = c.in-Err-write_sinks.ensures.failed;
    })
