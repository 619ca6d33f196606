use Rattle.std.proofs.Common.{refl}
use Rattle.phase_c.proofs.formed.formed_behind.Goals as goal

-- no form is named
pub returns-in-None-clause-refused : goal.returns-in-None-clause-refused
returns-in-None-clause-refused c block old many room = record {
  because = λ named. absurd (cc (c.form_of.ensures.only named.form named.names, c.in-None.is));
  same = refl;
  none = refl;
}
