use Rattle.std.proofs.Common.{ℕ, length, drop, ◌-◌, ◌∙◌, arith}
use Rattle.std.proofs.lemmas.List.{length-drop, take_all}
use Rattle.phase_c.proofs.Streams.{drop_past}
use Rattle.phase_c.proofs.filter.keep.Goals as goal

-- a block as long as the state takes its place
pub returns-then-count-kept : goal.returns-then-count-kept
returns-then-count-kept c =
    let state = c.args.state.now in
    let block = c.args.block.now in
    let n : ℕ = length block - length state in
    c.copy_from_slice.ensures.after
    ∙ (take_all (length block - n) (drop n block) (omega (arith, length-drop n block))
    ∙ drop_past state block (omega (arith, c.if-count-kept.true)))
