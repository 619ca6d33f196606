use Rattle.phase_accum.proofs.Parts.{AreSends-take, AreSends-drop}
use Rattle.stream_eval.proofs.outputs.copy_of.Goals as goal

-- they are values of the list
pub whole_copy-requires : goal.whole_copy-requires
whole_copy-requires c =
    rw c.part_of.ensures (AreSends-take c.args.count _ (AreSends-drop 0 c.args.list.now c.requires))
