use Rattle.std.proofs.Common.{◌≡◌, ◌<◌, ◌++◌, ℕ, length, drop, refl, ap, ◌∙◌, arith}
use Rattle.stream_filters.specs.Filter.{by_shift}
use Rattle.phase_c.proofs.Streams.{filters_all, filters_to}
use Rattle.phase_c.proofs.in_place.filter_in_place.Goals as goal

-- nothing was written
pub returns-in-Err-clause-refused : goal.returns-in-Err-clause-refused
returns-in-Err-clause-refused c =
    c.in-Err.ensures.refused c.args.block.now c.args.block.now refl refl

-- the filter behind the state met a value out of range
pub returns-then-done-block-clause-refused : goal.returns-then-done-block-clause-refused
returns-then-done-block-clause-refused c =
    let state = c.args.state.now in
    let block = c.args.block.now in
    let new = c.steps_in_place.new.block in
    let n : ℕ = c.steps_in_place.result in
    let made = c.in-Ok.ensures in
    let went = c.steps_in_place.ensures in
    let less : n < length block = omega (arith, c.if-done-block.true) in
    let of_filter = made.of_filter in
    filters_to c.args.taps.now (by_shift c.args.shift) state block block new n
    c.in-Ok.fir of_filter made.taps made.form made.stands made.room
    went.few went.written
    went.fits went.behind less went.too_big

-- it went through the whole block, and the state has the last samples
pub returns-clause-done : goal.returns-clause-done
returns-clause-done c =
    let state = c.args.state.now in
    let block = c.args.block.now in
    let new = c.steps_in_place.new.block in
    let n : ℕ = c.steps_in_place.result in
    let made = c.in-Ok.ensures in
    let went = c.steps_in_place.ensures in
    let all : n ≡ length block = omega (arith, went.few, c.if-done-block.false) in
    let kept = c.copy_from_slice-2.ensures.after
    ∙ (c.keep.ensures ∙ ap (λ xs. drop (length block) (xs ++ block)) c.copy_from_slice.ensures.after)
    in
    let of_filter = made.of_filter in
    filters_all c.args.taps.now (by_shift c.args.shift) state block block new n
    c.in-Ok.fir of_filter made.taps made.form made.stands made.room
    went.few went.written
    went.fits went.behind c.copy_from_slice-2.new.self all kept
