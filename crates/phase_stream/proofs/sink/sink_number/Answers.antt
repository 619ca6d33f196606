-- The number of a sink is how many stand before it.
use Rattle.std.proofs.Common.{◌≡◌, ◌+◌, ℕ, length, refl, sym, ap, subst, ◌∙◌, arith}
use Rattle.std.proofs.lemmas.List.{length_push}
use Rattle.graph_base.specs.Graphs.{is_sink, task_at}
use Rattle.phase_stream.specs.Sessions.{IsSinkNumber}
use Rattle.phase_stream.proofs.Sinking.{numbered, sinks_before, sinks_few, sinks_no, sinks_yes}
use Rattle.phase_stream.proofs.sink.sink_number.Goals as goal
use Rattle.phase_stream.proofs.sink.sink_number.Goals.{then-is_sink, else-is_sink}

pub loop-t-init : goal.loop-t-init
loop-t-init c = refl

pub overflow_add-number : goal.overflow_add-number
overflow_add-number c =
    let number = c.loop-t.invariant in
    let few = sinks_few c.args.job.now c.loop-t.t in
    let below = c.loop-t-test.true in
    let fits = c.ranges.task.fits in
    record { fits = omega arith }

pub loop-t-preserved : goal.loop-t-preserved
loop-t-preserved c =
    let t : ℕ = c.loop-t.t in
    let job = c.args.job.now in
    let same = ap (λ graph. is_sink (task_at graph t).kind) (sym c.graph.ensures.graph)
    ∙ sym c.is_sink.ensures in
    elim c.if-is_sink.branch [
      | then-is_sink w ↦
          rw w.number-is (ap (λ n. n + 1) c.loop-t.invariant
          ∙ sym (length_push (sinks_before job t) t)
          ∙ sym (ap length (sinks_yes job t (same ∙ w.if-is_sink.true))))
      | else-is_sink w ↦
          rw w.number-is (c.loop-t.invariant
          ∙ sym (ap length (sinks_no job t (same ∙ w.if-is_sink.false))))
    ]

pub returns : goal.returns
returns c =
    let job = c.args.job.now in
    let far = c.loop-t-test.false in
    let near = c.loop-t.auto.t-end in
    let all : c.loop-t.t ≡ c.args.task = omega arith in
    subst (IsSinkNumber job c.args.task)
    (sym (c.loop-t.invariant ∙ ap (λ n. length (sinks_before job n)) all))
    (numbered job c.args.task c.requires.there c.requires.sink)
