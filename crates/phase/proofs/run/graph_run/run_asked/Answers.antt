use Rattle.std.proofs.Common.{◌≡◌, inl, inr, map, refl, rules}
use Rattle.std.specs.List.{All}
use Rattle.graph_commands.proofs.Needed.{needed-graph}
use Rattle.stream_eval.proofs.SinkStarts.{outputs-are}
use Rattle.stream_lists.specs.Jobs.{Job, with_starts}
use Rattle.stream_lists.specs.Lists.{lines_of, start_in}
use Rattle.stream_eval.specs.Results.{sink_values}
use Rattle.stream_lists.proofs.Basics.{answer_fits}
use Rattle.phase.proofs.Answered.{answer-lines, told-in_time}
use Rattle.phase.proofs.run.graph_run.run_asked.Goals as goal

-- the lines are those of the job's sinks, which stand where they stood
pub write_sinks-requires-clause-lines : goal.write_sinks-requires-clause-lines
write_sinks-requires-clause-lines g c =
    let told = c.in-Ok-run_watched.ensures.done in
    (told.starts, rw c.deref.ensures.value (answer-lines (with_starts told.starts c.args.asked.job) _ told.answer))

-- a value is out of range
pub returns-in-Err-TooBig-clause-failed : goal.returns-in-Err-TooBig-clause-failed
returns-in-Err-TooBig-clause-failed g c known name sink of asks =
    let place = c.in-Err-TooBig.place in
    let phase = c.in-Err-TooBig.phase in
    inl (
      record {
        job_of = of;
        first = rw c.in-Err-TooBig.field-0-is
            (c.in-Err-TooBig.ensures.too_big place phase (search rules));
      },
      refl,
    )

-- the run stalled
pub returns-in-Err-Stalled-clause-failed : goal.returns-in-Err-Stalled-clause-failed
returns-in-Err-Stalled-clause-failed g c known name sink of asks =
    inl ((c.stalled.ensures, record { job = c.args.asked.job; job_of = of }), refl)

-- memory ran out over the run
pub returns-clause-failed : goal.returns-clause-failed
returns-clause-failed g c known name sink of asks =
    inl ((refl, needed-graph known name c.args.asked.job.graph of.graph_of), refl)

-- the lists were written
pub returns-in-Ok-write_sinks-clause-done : goal.returns-in-Ok-write_sinks-clause-done
returns-in-Ok-write_sinks-clause-done g c known name sink of asks =
    let told = c.in-Ok-run_watched.ensures.done in
    let job : Job = with_starts told.starts c.args.asked.job in
    let lines = c.deref.result.now in
    let values : map sink_values lines ≡ lines_of job =
    rw c.deref.ensures.value (answer-lines job _ told.answer) in
    let starts : All (λ line. line.start ≡ start_in job line.task) lines =
    rw c.deref.ensures.value told.told in
    let outputs = outputs-are job lines values starts in
    record {
      job = c.args.asked.job;
      job_of = of;
      starts = told.starts;
      in_time = told-in_time c.args.asked.job told.starts lines values starts
          (rw c.deref.ensures.value told.in_time);
      fits = answer_fits job _ told.answer;
      sink = c.args.asked.sink;
      asks = asks;
      written = rw outputs at c.in-Ok-write_sinks.ensures.ok;
    }

-- a prefix of them was
pub returns-in-Ok-run_watched-clause-failed : goal.returns-in-Ok-run_watched-clause-failed
returns-in-Ok-run_watched-clause-failed g c known name sink of asks =
    let told = c.in-Ok-run_watched.ensures.done in
    let job : Job = with_starts told.starts c.args.asked.job in
    let lines = c.deref.result.now in
    let values : map sink_values lines ≡ lines_of job =
    rw c.deref.ensures.value (answer-lines job _ told.answer) in
    let starts : All (λ line. line.start ≡ start_in job line.task) lines =
    rw c.deref.ensures.value told.told in
    let outputs = outputs-are job lines values starts in
    inr (record {
      failure_is = refl;
      written = record {
        job = c.args.asked.job;
        job_of = of;
        starts = told.starts;
        in_time = told-in_time c.args.asked.job told.starts lines values starts
            (rw c.deref.ensures.value told.in_time);
        fits = answer_fits job _ told.answer;
        sink = c.args.asked.sink;
        asks = asks;
        written = rw outputs at c.in-Err.ensures.err;
      };
      noted = c.in-Err.ensures.failed;
    })
