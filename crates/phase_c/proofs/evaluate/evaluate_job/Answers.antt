use Rattle.std.proofs.Common.{◌≡◌, ◌≤◌, ◌++◌, true, length, map, drop, ap, sym, ◌∙◌, arith, rules}
use Rattle.std.specs.List.{sum, sum_by}
use Rattle.std.proofs.lemmas.List.Sums.{sum-map}
use Rattle.stream_eval.specs.Results.{sink_values}
use Rattle.stream_lists.specs.Lists.{lines_of}
use Rattle.phase_c.specs.SinkValues.{count_in}
use Rattle.phase_c.proofs.Writing.{counts-are, values-are}
use Rattle.phase_c.proofs.evaluate.evaluate_job.Goals as goal

-- the values are as many as the counts say, which have room
pub write_values-requires : goal.write_values-requires
write_values-requires c =
    let lines = c.deref.result.now in
    let counted : c.tell_sinks.result ≡ true = search rules in
    let told = c.tell_sinks.ensures.told counted in
    let found = ap (map sink_values) c.deref.ensures.value ∙ c.in-Ok.ensures.ok in
    let room : sum c.tell_sinks.new.counts ≤ length c.args.out.now = search rules in
    let same : map count_in lines ≡ c.tell_sinks.new.counts =
    counts-are lines (lines_of c.args.job.now) found ∙ sym told.counts_are in
    let total : sum_by count_in lines ≡ sum c.tell_sinks.new.counts =
    sym (sum-map count_in lines) ∙ ap sum same in
    omega (arith, room, total)

-- they are those of the job
pub returns-clause-done : goal.returns-clause-done
returns-clause-done c =
    let counted : c.tell_sinks.result ≡ true = search rules in
    record {
      fits = c.in-Ok.ensures.fits;
      told = c.tell_sinks.ensures.told counted;
      written = c.write_values.ensures
          ∙ ap (λ xs. xs ++ drop (length xs) c.args.out.now)
          (values-are c.deref.result.now (lines_of c.args.job.now)
          (ap (map sink_values) c.deref.ensures.value ∙ c.in-Ok.ensures.ok));
    }
