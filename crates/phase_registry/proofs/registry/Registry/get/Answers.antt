-- The search ends at the task's place, or where it would be.
use Rattle.std.proofs.Common.{◌≡◌, get_or, Some, sym, subst, ap, ◌∙◌}
use Rattle.phase_base.specs.declared.member.Member.{Member}
use Rattle.phase_registry.specs.Rosters.{Roster, AreRising}
use Rattle.phase_registry.proofs.Places.{entry_of-at, entry_of-gap}
use Rattle.phase_registry.proofs.registry.Registry.get.Goals as goal

pub returns-in-Ok-clause-entry : goal.returns-in-Ok-clause-entry
returns-in-Ok-clause-entry c =
    let R : Roster → Type 0 = λ r. AreRising r.members in
    let rising : AreRising c.args.self.now.members = subst R c.self.view_is c.self.invariant.rising in
    let is = entry_of-at c.args.self.now.members c.args.number c.in-Ok.place c.index.result.now rising c.in-Ok.ensures.found in
    let here : c.index.result.now ≡ get_or c.args.self.now.members c.in-Ok.place c.index.result.now =
    c.index.ensures ∙ ap (λ (r : Roster). get_or r.members c.in-Ok.place c.index.result.now) c.self.view_is in
    ap (λ (m : Member). Some m.entry) here ∙ sym is

pub returns-in-Err-clause-entry : goal.returns-in-Err-clause-entry
returns-in-Err-clause-entry c = sym (entry_of-gap c.args.self.now.members c.args.number _ c.in-Err.ensures.absent)
