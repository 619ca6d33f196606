-- The span that a job keeps is the one with the least starts.
use Rattle.std.proofs.Common.{◌≡◌, sym, ap, arith}
use Rattle.stream_lists.specs.declared.span.Span.{Span}
use Rattle.stream_lists.specs.Jobs.{Job, with_starts, least}
use Rattle.stream_lists.specs.Spans.{span_in}
use Rattle.stream_job.proofs.opening.opened_line.Goals as goal

pub returns-clause-own : goal.returns-clause-own
returns-clause-own c =
    let job : Job = c.args.job.now in
    let same : least job ≡ job = ap (λ s. with_starts s job) (sym c.span.ensures.least) in
    let most : (span_in (least job) c.args.t).steps ≡ (span_in job c.args.t).steps =
    ap (λ j. (span_in j c.args.t).steps) same in
    let kept : c.span.result.steps ≡ (span_in job c.args.t).steps =
    ap (λ (s : Span). s.steps) c.span.ensures.span in
    let read = c.in-Ok.ensures in
    let room = c.in_ok-with_capacity.ensures.capacity in
    record { room = omega arith }
