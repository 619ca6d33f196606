-- The parts are those of the opening.
use Rattle.std.proofs.Common.{ap, map, sym, subst, ◌∙◌, arith}
use Rattle.std.specs.List.{All}
use Rattle.stream_eval.specs.Results.{sink_values}
use Rattle.stream_eval.specs.declared.whole.Lines.{Lines}
use Rattle.graph_runs.specs.Beginnings.{opening}
use Rattle.stream_job.specs.Machines.{HasRoom, none_given}
use Rattle.stream_job.specs.Streams.{line_room, none_came}
use Rattle.stream_job.proofs.OpenedStreams.{none_ended, stream_opens}
use Rattle.stream_job.proofs.stream.opened.Goals as goal

pub returns-clause-opening : goal.returns-clause-opening
returns-clause-opening c =
    let lines = c.in_ok-bounded_lines.ensures in
    let same = ap (λ v. v.items) c.in_ok-machine.ensures.lines in
    stream_opens c.args.job c.in_ok-machine.machine c.in_ok-inputs.inputs.items c.requires.none
    c.in_ok-machine.ensures.opening (ap (map sink_values) same ∙ lines.lines)
    (ap (map (λ (line : Lines). line.start)) same ∙ lines.starts) c.in_ok-inputs.ensures.empty

pub invariant_of-result : goal.invariant_of-result
invariant_of-result c =
    let job = c.args.job in
    let lines = c.in_ok-bounded_lines.ensures in
    let same = ap (λ v. v.items) c.in_ok-machine.ensures.lines in (
      (
        none_came job,
        opening job,
        none_given,
        stream_opens job c.in_ok-machine.machine c.in_ok-inputs.inputs.items c.requires.none
            c.in_ok-machine.ensures.opening (ap (map sink_values) same ∙ lines.lines)
            (ap (map (λ (line : Lines). line.start)) same ∙ lines.starts)
            c.in_ok-inputs.ensures.empty,
      ),
      c.in_ok-plan.ensures,
      c.in_ok-buffers.ensures,
      c.requires.apart,
      c.in_ok-inputs.ensures.inputs,
      subst (All (HasRoom (line_room job))) (sym same) lines.own,
    )

pub returns-clause-open : goal.returns-clause-open
returns-clause-open c source lt =
    let many = c.in_ok-inputs.ensures.inputs.many in
    none_ended c.in_ok-inputs.inputs.items source c.in_ok-inputs.ensures.open (omega arith)
