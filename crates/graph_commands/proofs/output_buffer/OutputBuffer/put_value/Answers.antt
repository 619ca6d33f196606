-- Of what waited a prefix was written.
use Rattle.std.proofs.Common.{refl}
use Rattle.std.proofs.lemmas.Result.{err_from_is_err_and}
use Rattle.watched_io.proofs.Writing.{prefix_of_prefix}
use Rattle.graph_commands.specs.OutputTexts.{value_text}
use Rattle.graph_commands.proofs.output_buffer.OutputBuffer.put_value.Goals as goal

pub returns-in_err-make_room-clause-err : goal.returns-in_err-make_room-clause-err
returns-in_err-make_room-clause-err g c =
    let p = err_from_is_err_and c.from_residual.result c.from_residual.ensures.1 in
    rw p.1 (prefix_of_prefix _ _ c.args.self.now (value_text c.args.value) _ refl
    c.in_err-make_room.ensures.err)
