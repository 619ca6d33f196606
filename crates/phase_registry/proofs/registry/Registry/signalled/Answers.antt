-- the entry at the task's place changes, and keeps its mode
use Rattle.std.proofs.Common.{◌≡◌, ◌<◌, ℕ, ◌+◌, ◌^◌, Some, set, get_or, refl, sym, ap, subst, ◌∙◌, arith}
use Rattle.std.specs.Prelude.{IfSome, Option}
use Rattle.phase_base.specs.declared.entry.Entry.{Entry}
use Rattle.phase_base.specs.declared.member.Member.{Member}
use Rattle.phase_base.specs.Members.{member, entry_of, changed_at, signalled}
use Rattle.phase_registry.specs.Rosters.{Roster, roster, AreRising, IsRoster}
use Rattle.phase_registry.specs.NumberPlaces.{IsAt}
use Rattle.phase_registry.proofs.Places.{not_member, entry_of-at, entry_of-gap, changed_at-place}
use Rattle.phase_registry.proofs.Kept.{IsAt-number, IsRoster-changed, none_before}
use Rattle.phase_registry.proofs.registry.Registry.signalled.Goals as goal

below_from : (n : ℕ) (o : Option Entry) (e : Entry) → o ≡ Some e
    → IfSome o (λ entry. entry.signal_phase + n < 2 ^ 64) → e.signal_phase + n < 2 ^ 64
below_from n o e found below =
    rw found at below

pub overflow_add-index_mut : goal.overflow_add-index_mut
overflow_add-index_mut c =
    let members = c.args.self.now.members in
    let R : Roster → Type 0 = λ r. AreRising r.members in
    let rising : AreRising members = subst R c.self.view_is c.self.invariant.rising in
    let is = entry_of-at members c.args.number c.in-Ok.place c.index_mut.result.now rising c.in-Ok.ensures.found in
    let here : c.index_mut.result.now ≡ get_or members c.in-Ok.place c.index_mut.result.now =
    c.index_mut.ensures.value ∙ ap (λ (r : Roster). get_or r.members c.in-Ok.place c.index_mut.result.now) c.self.view_is in
    let found : entry_of members c.args.number ≡ Some c.index_mut.result.now.entry =
    is ∙ ap (λ (m : Member). Some m.entry) (sym here) in
    omega (arith, below_from _ _ _ found c.requires.below)

pub invariant_of-self : goal.invariant_of-self
invariant_of-self c =
    let l = c.self.inside.members.items in
    let d = c.index_mut.result.now in
    let R : Roster → Type 0 = λ r. IsAt r.members c.args.number c.in-Ok.place in
    let at : IsAt l c.args.number c.in-Ok.place = subst R (sym c.self.view_is) c.in-Ok.ensures.found in
    let M : Member → Type 0 = λ m. IsRoster (set l c.in-Ok.place (member m.task (signalled c.args.phases m.entry))) c.self.inside.greatest c.self.inside.signallers c.self.inside.waiters in
    let N : ℕ → Type 0 = λ n. IsRoster (set l c.in-Ok.place (member n (signalled c.args.phases (get_or l c.in-Ok.place d).entry))) c.self.inside.greatest c.self.inside.signallers c.self.inside.waiters in
    subst M (sym c.index_mut.ensures.value) (subst N (sym (IsAt-number l c.args.number c.in-Ok.place d at))
    (IsRoster-changed l c.self.inside.greatest _ _ c.args.number c.in-Ok.place d (signalled c.args.phases) c.self.invariant at (λ e. refl)))

pub returns-in-Ok : goal.returns-in-Ok
returns-in-Ok c =
    let l = c.self.inside.members.items in
    let d = c.index_mut.result.now in
    let k = c.args.number in
    let place = c.in-Ok.place in
    let greatest = c.self.inside.greatest in
    let R : Roster → Type 0 = λ r. IsAt r.members k place in
    let at : IsAt l k place = subst R (sym c.self.view_is) c.in-Ok.ensures.found in
    let rising = c.self.invariant.rising in
    ap (λ (m : Member). roster (set l place (member m.task (signalled c.args.phases m.entry))) greatest) c.index_mut.ensures.value
    ∙ ap (λ n. roster (set l place (member n (signalled c.args.phases (get_or l place d).entry))) greatest) (IsAt-number l k place d at)
    ∙ ap (λ ms. roster ms greatest) (changed_at-place l k place d (signalled c.args.phases) at (none_before l k place rising at))
    ∙ ap (λ (r : Roster). roster (changed_at k (signalled c.args.phases) r.members) r.greatest) c.self.view_is

pub returns-in_default : goal.returns-in_default
returns-in_default c =
    absurd (not_member _ (entry_of-gap _ c.args.number _ c.in_default.ensures.absent) c.requires.member)
