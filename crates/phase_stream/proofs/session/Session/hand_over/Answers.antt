-- All of it, and then it is forgotten, or a part of it.
use Rattle.std.proofs.Common.{refl}
use Rattle.phase_stream.proofs.session.Session.hand_over.Goals as goal

pub returns-clause-ok : goal.returns-clause-ok
returns-clause-ok g c = record {
  writes = c.in_ok-write_all.ensures.ok;
  forgets = c.forget_all.ensures;
  sources = refl;
}
