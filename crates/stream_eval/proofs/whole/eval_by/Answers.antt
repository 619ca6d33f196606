use Rattle.std.proofs.Common.{rules, ◌≡◌, [], Err, length, map, get_or, ap, ◌∙◌}
use Rattle.std.proofs.lemmas.Result.{IfOk-weaker}
use Rattle.stream_lists.specs.Lists.{lines_of, numbers_of, sink_over, sinks_of}
use Rattle.stream_lists.specs.JobFields.{items_of}
use Rattle.stream_lists.specs.Ranges.{Fits}
use Rattle.stream_lists.specs.Spans.{schedule_of}
use Rattle.stream_eval.specs.Results.{sink_values}
use Rattle.stream_eval.specs.declared.fault.EvalFault.TheVariants as fault
use Rattle.stream_eval.proofs.Agreeing.{kept-agree, sinks-same}
use Rattle.stream_eval.proofs.whole.eval_by.Goals as goal

-- the sinks take what they would of the definition's lists
pub returns-clause-ok : goal.returns-clause-ok
returns-clause-ok g c =
    let job = c.args.job.now in
    let end = length job.graph.phasers in
    let lent = ap items_of c.deref.ensures.value in
    let agree = kept-agree job end (items_of c.deref.result.now) (numbers_of job)
    (λ q. ap (λ xs. get_or xs q []) lent ∙ c.in-Ok.ensures.ok q) in
    IfOk-weaker c.all_lines.result
    (λ lines. map sink_values lines.items
    ≡ map (sink_over job (schedule_of job) (items_of c.deref.result.now)) (sinks_of job))
    (λ lines. map sink_values lines.items ≡ lines_of job)
    (λ lines is. is ∙ sinks-same job (schedule_of job) end (items_of c.deref.result.now)
    (numbers_of job) agree) c.all_lines.ensures.ok

pub returns-clause-fits : goal.returns-clause-fits
returns-clause-fits g c =
    IfOk-weaker c.all_lines.result
    (λ lines. map sink_values lines.items
    ≡ map (sink_over c.args.job.now (schedule_of c.args.job.now) (items_of c.deref.result.now))
    (sinks_of c.args.job.now))
    (λ lines. Fits c.args.job.now) (λ lines is. c.in-Ok.ensures.fits) c.all_lines.ensures.ok

-- the lines have no fault of their own
pub returns-clause-too_big : goal.returns-clause-too_big
returns-clause-too_big g c place n e = absurd (c.all_lines.ensures.no_place place n e)

-- the fault is that of the lists
pub returns-in-Err-clause-too_big : goal.returns-in-Err-clause-too_big
returns-in-Err-clause-too_big g c place n e =
    let same : c.in-Err.fault ≡ fault.TooBig place n = search rules in
    c.phaser_lists.ensures.too_big place n (c.in-Err.is ∙ ap Err same)
