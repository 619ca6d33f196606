-- the member at the number's place leaves
use Rattle.std.proofs.Common.{◌≡◌, ◌≤◌, ◌-◌, cond, get_or, sym, ap, subst, ◌∙◌, rules, arith}
use Rattle.std.specs.Prelude.{is_some}
use Rattle.phase_base.specs.Modes.{mode_signals, mode_waits}
use Rattle.phase_base.specs.declared.member.Member.{Member}
use Rattle.phase_base.specs.Members.{Members, without}
use Rattle.phase_registry.specs.Rosters.{Roster, roster, AreRising, IsRoster}
use Rattle.phase_registry.specs.NumberPlaces.{IsAt}
use Rattle.phase_registry.proofs.Places.{entry_of-at, entry_of-gap}
use Rattle.phase_registry.proofs.Weights.{without-absent}
use Rattle.phase_registry.proofs.Kept.{IsCounted-at, IsRoster-removed, remove-place}
use Rattle.phase_registry.proofs.registry.Registry.remove.Goals as goal

pub overflow_sub-self : goal.overflow_sub-self
overflow_sub-self c =
    let l = c.self.inside.members.items in
    let d = c.remove.result in
    let R : Roster → Type 0 = λ r. IsAt r.members c.args.number c.in-Ok.place in
    let at : IsAt l c.args.number c.in-Ok.place = subst R (sym c.self.view_is) c.in-Ok.ensures.found in
    let counted = IsCounted-at l _ _ _ c.args.number c.in-Ok.place d c.self.invariant at in
    let S : Member → Type 0 = λ m. cond (mode_signals m.entry.mode) 1 0 ≤ c.self.inside.signallers in
    let low = subst S (sym c.remove.ensures.value) counted.signallers in
    let one : c.one_if.result ≡ cond (mode_signals c.remove.result.entry.mode) 1 0 = search rules in
    omega arith

pub overflow_sub-self-2 : goal.overflow_sub-self-2
overflow_sub-self-2 c =
    let l = c.self.inside.members.items in
    let d = c.remove.result in
    let R : Roster → Type 0 = λ r. IsAt r.members c.args.number c.in-Ok.place in
    let at : IsAt l c.args.number c.in-Ok.place = subst R (sym c.self.view_is) c.in-Ok.ensures.found in
    let counted = IsCounted-at l _ _ _ c.args.number c.in-Ok.place d c.self.invariant at in
    let S : Member → Type 0 = λ m. cond (mode_waits m.entry.mode) 1 0 ≤ c.self.inside.waiters in
    let low = subst S (sym c.remove.ensures.value) counted.waiters in
    let one : c.one_if-2.result ≡ cond (mode_waits c.remove.result.entry.mode) 1 0 = search rules in
    omega arith

pub returns-in_default-clause-found : goal.returns-in_default-clause-found
returns-in_default-clause-found c =
    sym (ap (λ o. is_some o) (entry_of-gap c.args.self.now.members c.args.number _ c.in_default.ensures.absent))

pub returns-in_default-clause-members : goal.returns-in_default-clause-members
returns-in_default-clause-members c =
    let same = without-absent c.args.self.now.members c.args.number
    (entry_of-gap c.args.self.now.members c.args.number _ c.in_default.ensures.absent) in
    ap (λ ms. roster ms c.args.self.now.greatest) (sym same)

pub invariant_of-self : goal.invariant_of-self
invariant_of-self c =
    let l = c.self.inside.members.items in
    let d = c.remove.result in
    let R : Roster → Type 0 = λ r. IsAt r.members c.args.number c.in-Ok.place in
    let at : IsAt l c.args.number c.in-Ok.place = subst R (sym c.self.view_is) c.in-Ok.ensures.found in
    let counted = IsCounted-at l _ _ _ c.args.number c.in-Ok.place d c.self.invariant at in
    let mode = ap (λ (m : Member). m.entry.mode) c.remove.ensures.value in
    let signals : c.one_if.result ≡ cond (mode_signals (get_or l c.in-Ok.place d).entry.mode) 1 0 =
    (let one : c.one_if.result ≡ cond (mode_signals c.remove.result.entry.mode) 1 0 = search rules in
    one ∙ ap (λ m. cond (mode_signals m) 1 0) mode) in
    let waits : c.one_if-2.result ≡ cond (mode_waits (get_or l c.in-Ok.place d).entry.mode) 1 0 =
    (let one : c.one_if-2.result ≡ cond (mode_waits c.remove.result.entry.mode) 1 0 = search rules in
    one ∙ ap (λ m. cond (mode_waits m) 1 0) mode) in
    let low = counted.signallers in
    let low_2 = counted.waiters in
    let s = c.self.inside.signallers - c.one_if.result in
    let w = c.self.inside.waiters - c.one_if-2.result in
    let M : Members → Type 0 = λ ms. IsRoster ms c.self.inside.greatest s w in
    subst M (sym c.remove.ensures.items) (IsRoster-removed l c.self.inside.greatest
    c.self.inside.signallers c.self.inside.waiters s w c.args.number c.in-Ok.place d c.self.invariant at
    (omega arith) (omega arith))

pub returns-clause-found : goal.returns-clause-found
returns-clause-found c =
    let members = c.args.self.now.members in
    let R : Roster → Type 0 = λ r. AreRising r.members in
    let rising : AreRising members = subst R c.self.view_is c.self.invariant.rising in
    sym (ap (λ o. is_some o) (entry_of-at members c.args.number c.in-Ok.place c.remove.result rising c.in-Ok.ensures.found))

pub returns-clause-members : goal.returns-clause-members
returns-clause-members c =
    let l = c.self.inside.members.items in
    let R : Roster → Type 0 = λ r. IsAt r.members c.args.number c.in-Ok.place in
    let at : IsAt l c.args.number c.in-Ok.place = subst R (sym c.self.view_is) c.in-Ok.ensures.found in
    let left = c.remove.ensures.items ∙ remove-place l c.args.number c.in-Ok.place c.remove.result c.self.invariant.rising at in
    ap (λ ms. roster ms c.self.inside.greatest) left
    ∙ ap (λ (r : Roster). roster (without c.args.number r.members) r.greatest) c.self.view_is
