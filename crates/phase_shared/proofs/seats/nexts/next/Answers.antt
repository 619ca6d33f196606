use Rattle.phase_shared.proofs.seats.nexts.next.Goals as goal

pub returns-clause-ended : goal.returns-clause-ended
returns-clause-ended g c = c.ended.invariant
