use Rattle.std.proofs.Common.{◌≡◌, subst, ap, ◌∙◌, rules}
use Rattle.phase_shared.specs.Calls.{Tries, Registers}
use Rattle.phase_shared.proofs.reg.Reg.register.Goals as goal

pub returns-in-Ok-clause-call : goal.returns-in-Ok-clause-call
returns-in-Ok-clause-call g c =
    let op = g.A.Accumulate.operation in
    let i = c.loop.invariant in
    let t = c.try_register.ensures.call in
    let now = c.loop.self in
    let new = c.try_register.new.self in
    record {
      call = rw i at (subst (λ r. Tries (new ≡ now) (Registers op c.args.mode now new) r) c.in-Ok.is t.call);
      entry = t.entry ∙ ap (λ r. r.entry) i;
      mode = t.mode ∙ ap (λ r. r.entry.mode) i;
      at = (t.at.0 ∙ ap (λ r. r.at) i, t.at.1 ∙ ap (λ r. r.number) i);
      good = t.good;
      known = search rules;
    }
