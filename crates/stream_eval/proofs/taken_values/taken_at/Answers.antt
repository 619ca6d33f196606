use Rattle.phase_accum.proofs.Parts.{AreSends-take, AreSends-drop}
use Rattle.stream_eval.proofs.Sendable.{AreSends-one}
use Rattle.stream_eval.proofs.taken_values.taken_at.Goals as goal

-- they are values of a list
pub returns-clause-sends : goal.returns-clause-sends
returns-clause-sends c =
    rw (c.part_of.ensures, c.list_at.ensures)
    (AreSends-take _ _ (AreSends-drop _ _
    (AreSends-one (λ list. list.items) c.args.above.now c.unwrap_or-p.result c.requires.sends)))
