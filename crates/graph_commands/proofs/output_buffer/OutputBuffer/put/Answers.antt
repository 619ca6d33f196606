use Rattle.std.proofs.Common.{refl}
use Rattle.std.proofs.lemmas.Result.{err_from_is_err_and, on_ok_weaker}
use Rattle.watched_io.proofs.Writing.{prefix_of_prefix}
use Rattle.graph_commands.proofs.Putting.{Puts-all}
use Rattle.graph_commands.proofs.output_buffer.OutputBuffer.put.Goals as goal

-- of what waited a prefix was written
pub returns-in_err-hand_over-clause-err : goal.returns-in_err-hand_over-clause-err
returns-in_err-hand_over-clause-err g c =
    let p = err_from_is_err_and c.from_residual.result c.from_residual.ensures.1 in
    rw p.1 (prefix_of_prefix _ _ c.args.self.now c.args.bytes.now _ refl
    c.in_err-hand_over.ensures.err)

-- all was written
pub returns-clause-ok : goal.returns-clause-ok
returns-clause-ok g c =
    rw c.in_ok-hand_over.ensures.empty (on_ok_weaker c.send.result
    (Puts-all _ _ _ c.args.self.now c.args.bytes.now c.in_ok-hand_over.ensures.ok)
    c.send.ensures.ok)
