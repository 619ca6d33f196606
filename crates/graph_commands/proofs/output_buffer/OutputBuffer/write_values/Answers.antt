use Rattle.std.proofs.Common.{[]}
use Rattle.std.specs.List.{flat_map}
use Rattle.std.proofs.lemmas.Result.{on_err_weaker}
use Rattle.graph_commands.specs.OutputTexts.{value_text}
use Rattle.graph_commands.proofs.Putting.{prefix_of_put}
use Rattle.graph_commands.proofs.output_buffer.OutputBuffer.write_values.Goals as goal

-- of what waited at the end a prefix was written
pub returns-clause-err : goal.returns-clause-err
returns-clause-err g c =
    on_err_weaker c.hand_over.result
    (prefix_of_put _ _ _ [] c.put_values.new.self (flat_map value_text c.args.values.now)
    (rw c.clear.ensures at c.in_ok-put_values.ensures.ok))
    c.hand_over.ensures.err
