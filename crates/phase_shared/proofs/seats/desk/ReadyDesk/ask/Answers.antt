use Rattle.phase_shared.proofs.seats.desk.ReadyDesk.ask.Goals as goal

pub post-asking-requires-clause-may : goal.post-asking-requires-clause-may
post-asking-requires-clause-may g c = c.self.invariant.may

pub post-asking-requires-clause-seen : goal.post-asking-requires-clause-seen
post-asking-requires-clause-seen g c = c.self.invariant.seen_is

pub post-asking-requires-clause-waits : goal.post-asking-requires-clause-waits
post-asking-requires-clause-waits g c = c.self.invariant.waits
