-- The loop goes through the lines in their order, and stops at the sink's.
use Rattle.std.proofs.Common.{sym, ◌∙◌}
use Rattle.std.proofs.lemmas.Bool.{eq-eqb, ne_eqb}
use Rattle.graph_commands.proofs.Finding.{no_values, values_behind, values_here}
use Rattle.graph_commands.proofs.sinks.values_of.Goals as goal

pub returns-then-line-sink : goal.returns-then-line-sink
returns-then-line-sink c =
    let line = c.line-item.result in
    c.deref.ensures.value
    ∙ sym (c.loop-line.invariant ∙ values_here c.args.sink c.loop-line.line-index c.args.lines.now line
    c.loop-line-test.true (sym c.line-item.is) (eq-eqb line.task c.args.sink c.if-line-sink.true))

pub loop-line-preserved : goal.loop-line-preserved
loop-line-preserved c =
    let line = c.line-item.result in
    c.loop-line.invariant ∙ values_behind c.args.sink c.loop-line.line-index c.args.lines.now line
    c.loop-line-test.true (sym c.line-item.is) (ne_eqb line.task c.args.sink c.if-line-sink.false)

pub returns : goal.returns
returns c =
    sym (c.loop-line.invariant ∙ no_values c.args.sink c.args.lines.now c.loop-line.line-index
    c.loop-line-test.false)
