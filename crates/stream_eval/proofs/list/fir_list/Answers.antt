use Rattle.std.proofs.Common.{subst, sym}
use Rattle.phase_accum.specs.Sends.{AreSends}
use Rattle.stream_lists.proofs.Fitting.{all_sends}
use Rattle.stream_eval.proofs.list.fir_list.Goals as goal

-- no output is out of range
pub returns-in-Ok-clause-sends : goal.returns-in-Ok-clause-sends
returns-in-Ok-clause-sends g c =
    subst AreSends (sym c.in-Ok.ensures.ok) (all_sends 0 _ c.in-Ok.ensures.in_range)
