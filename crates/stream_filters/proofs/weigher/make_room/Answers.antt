use Rattle.std.proofs.Common.{◌-◌, ◌∙◌, ap, take, arith}
use Rattle.std.specs.Vec.{vec_len}
use Rattle.stream_filters.specs.WeigherFields.{window_of}
use Rattle.stream_filters.proofs.Lines.{window_of-moved}
use Rattle.stream_filters.proofs.weigher.make_room.Goals as goal

-- the last samples are moved to the front
pub returns-then-capacity-len-clause-last : goal.returns-then-capacity-len-clause-last
returns-then-capacity-len-clause-last c =
    ap (window_of c.args.kept)
    (c.truncate.ensures.items ∙ ap (take c.args.kept) c.copy_within.ensures.items)
    ∙ window_of-moved c.args.kept (c.len-then-capacity-len.result - c.args.kept)
    (vec_len c.args.line.now) c.args.line.now.items c.requires.held
    (omega (arith, c.len-then-capacity-len.ensures)) (omega arith)
