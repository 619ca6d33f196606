-- The values that were got stand in the first places, and their numbers are written.
use Rattle.std.proofs.Common.{ap, ◌∙◌, Ok}
use Rattle.phase_accum.specs.Values.{value_by}
use Rattle.phase_history.specs.Phases.{stream_of}
use Rattle.phase_core.specs.Blocks.{written}
use Rattle.handle_numbers.proofs.BlockWaits.{got_of, numbers-got, numbers-named}
use Rattle.phase_handle.proofs.handle.Handle.wait_into.Goals as goal

pub returns-in-Ok-Values-clause-got : goal.returns-in-Ok-Values-clause-got
returns-in-Ok-Values-clause-got c = λ op limits h first many holds is.
    let value = value_by op in
    let there = c.in-Ok-Values in
    let reply = there.ensures.reply op limits h holds ∙ ap (λ g. Ok g) there.field-0-is in
    let out = there.ensures.out op limits h holds
    ∙ ap (λ g. written (Ok g) (stream_of value h) c.args.out.now) there.field-0-is in
    let got =
    got_of value limits h c.args.task _ there.phase there.count _ _ reply out in
    numbers-named first many there.phase there.count (stream_of value h) c.args.values.now _ is
    (numbers-got value h there.phase there.count _ c.args.values.now _ got
    c.write_numbers.ensures)
