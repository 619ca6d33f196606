use Rattle.phase_stream.specs.Outputs.{writers_at}
use Rattle.phase_stream.specs.Sessions.{WritesFirst}
use Rattle.phase_stream.proofs.session.Session.write_all.Given as goal

-- what was left of the sinks of the writers before this one was written
abbrev pub invariant-loop-number : goal.invariant-loop-number
invariant-loop-number g l = WritesFirst l.self.stream l.self.targets.items l.number
    (writers_at g.W.Write.contents g.V.Write.contents l.fn.output l.fn.made.items)
    (writers_at g.W.Write.contents g.V.Write.contents l.output l.made.items)
