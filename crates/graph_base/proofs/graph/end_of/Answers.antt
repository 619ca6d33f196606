use Rattle.std.proofs.Common.{◌≡◌, ◌∙◌, ap, sym, ◌<◌, ◌-◌, length, get_or, arith}
use Rattle.std.proofs.lemmas.Grind.{get_or_default_zero}
use Rattle.graph_base.specs.GraphFields.{task_of}
use Rattle.graph_base.specs.Registrations.{as_input, as_output}
use Rattle.graph_base.proofs.Registered.{end-input, end-output}
use Rattle.graph_base.proofs.graph.end_of.Goals as goal

-- input number k
pub returns-then-k-inputs : goal.returns-then-k-inputs
returns-then-k-inputs c =
    let inputs = c.args.task.now.inputs.items in
    let k = c.args.k in
    let lt : k < length inputs = omega (arith, c.if-k-inputs.true, c.len-inputs.ensures) in
    c.input.ensures
    ∙ ap (λ p. as_input (k, p))
    (c.index.ensures ∙ get_or_default_zero inputs k c.index.result.now lt)
    ∙ sym (end-input (task_of c.args.task.now) k lt)

-- the output behind all inputs
pub returns-else-k-inputs : goal.returns-else-k-inputs
returns-else-k-inputs c =
    let inputs = c.args.task.now.inputs.items in
    let outputs = c.args.task.now.outputs.items in
    let k = c.args.k in
    let many : c.len-inputs.result ≡ length inputs = omega (arith, c.len-inputs.ensures) in
    let j = k - length inputs in
    let lt : j < length outputs = omega (arith, c.requires, c.if-k-inputs.false, many) in
    c.output.ensures
    ∙ ap (λ n. as_output (k - n, c.index-else-k-inputs.result.now)) many
    ∙ ap (λ p. as_output (j, p))
    (c.index-else-k-inputs.ensures
    ∙ ap (λ n. get_or outputs (k - n) c.index-else-k-inputs.result.now) many
    ∙ get_or_default_zero outputs j c.index-else-k-inputs.result.now lt)
    ∙ sym (end-output (task_of c.args.task.now) k (omega (arith, c.if-k-inputs.false, many)) lt)
