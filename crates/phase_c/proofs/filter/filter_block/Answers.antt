use Rattle.std.proofs.Common.{◌≡◌, ◌<◌, ℕ, length, refl, arith}
use Rattle.stream_filters.specs.Filter.{by_shift}
use Rattle.phase_c.proofs.Streams.{filters_all, filters_to}
use Rattle.phase_c.proofs.filter.filter_block.Goals as goal

-- nothing was written
pub returns-in-Err-clause-refused : goal.returns-in-Err-clause-refused
returns-in-Err-clause-refused c =
    c.in-Err.ensures.refused c.args.block.now c.args.out.now refl refl

-- the filter behind the state met a value out of range
pub returns-then-done-block-clause-refused : goal.returns-then-done-block-clause-refused
returns-then-done-block-clause-refused c =
    let block = c.args.block.now in
    let n : ℕ = c.steps.result in
    let made = c.in-Ok.ensures in
    let went = c.steps.ensures in
    let less : n < length block = omega (arith, c.if-done-block.true) in
    let of_filter = made.of_filter in
    filters_to c.args.taps.now (by_shift c.args.shift) c.args.state.now block c.args.out.now
    c.steps.new.out n c.in-Ok.fir of_filter made.taps made.form
    made.stands made.room went.few went.written
    went.fits went.behind less went.too_big

-- it went through the whole block, and the state has the last samples
pub returns-clause-done : goal.returns-clause-done
returns-clause-done c =
    let block = c.args.block.now in
    let n : ℕ = c.steps.result in
    let made = c.in-Ok.ensures in
    let went = c.steps.ensures in
    let all : n ≡ length block = omega (arith, went.few, c.if-done-block.false) in
    let of_filter = made.of_filter in
    filters_all c.args.taps.now (by_shift c.args.shift) c.args.state.now block c.args.out.now
    c.steps.new.out n c.in-Ok.fir of_filter made.taps made.form
    made.stands made.room went.few went.written
    went.fits went.behind c.keep.new.state all c.keep.ensures
