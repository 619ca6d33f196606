-- A number stands at some place.
use Rattle.std.proofs.Common.{arith}
use Rattle.stream_tasks.proofs.Agreed.{place_of_number}
use Rattle.stream_tasks.proofs.ending.given_numbers.are_of_tasks.Goals as goal

pub returns : goal.returns
returns c = λ e a inside.
    (let k = place_of_number c.args.gave.now a inside in
    let over = c.loop-k-test.false in
    c.loop-k.invariant k.0 a (omega arith) k.2)
