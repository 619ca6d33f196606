-- What a registration and a drop leave of a core, and that the core then stands for the history with it.
use Rattle.std.proofs.Common.{◌≡◌, ℕ, ◌≤◌, Bool, true, not, eqb, List, [], ◌∷◌, ◌++◌, Some, None, max, unwrap_or, refl, sym, ap, subst, ◌∙◌, arith}
use Rattle.std.proofs.lemmas.Option.{same_Some}
use Rattle.phase_base.specs.Limits.{Limits}
use Rattle.phase_base.specs.Modes.{mode_waits, holds}
use Rattle.phase_base.specs.declared.mode.Mode.{Mode}
use Rattle.phase_base.specs.declared.entry.Entry.{Entry}
use Rattle.phase_base.specs.declared.member.Member.{Member}
use Rattle.phase_accum.specs.Operations.{Operation}
use Rattle.phase_history.specs.declared.event.Event.TheVariants.{Registered, Dropped}
use Rattle.phase_core.specs.Slots.{KeptSlot}
use Rattle.phase_base.specs.Members.{Members, member, entry_of, without, wait_phases, least}
use Rattle.phase_history.specs.Histories.{History, members_of, entry_at}
use Rattle.phase_history.specs.Refusals.{register_refusal, drop_refusal}
use Rattle.phase_history.specs.Legal.{IsLegal}
use Rattle.phase_core.specs.Cores.{CoreState, IsSlotOf, KeepsPhase, StandsFor}
use Rattle.phase_history.proofs.Each.{Each, Each-of_picked, Each-picked, Each-filter, Each-push, least_low, least_or_high}
use Rattle.phase_history.proofs.MemberLemmas.{Each-entry, holds_waits}
use Rattle.phase_history.proofs.Steps.{member_entry_is}
use Rattle.phase_history.proofs.Refused.{Registers as MayRegister, registers_from}
use Rattle.phase_history.proofs.Bounded.{none_least}

-- where some waiter is left, the slowest one was there before
slowest_kept : (ms more : Members)
    → ((b : ℕ) → Each (λ (m : Member). mode_waits m.entry.mode ≡ true → b ≤ m.entry.wait_phase) ms
    → Each (λ (m : Member). mode_waits m.entry.mode ≡ true → b ≤ m.entry.wait_phase) more)
    → (Each (λ (m : Member). mode_waits m.entry.mode ≡ true → ⊥) ms
    → Each (λ (m : Member). mode_waits m.entry.mode ≡ true → ⊥) more)
    → (slowest : ℕ) → least (wait_phases more) ≡ Some slowest
    → (b : ℕ) × (least (wait_phases ms) ≡ Some b) × (b ≤ slowest)
slowest_kept ms more low none slowest least_new =
    elim (least (wait_phases ms)) as (λ o. (least (wait_phases ms) ≡ o) → (b : ℕ) × (o ≡ Some b) × (b ≤ slowest)) [
      | None ↦ λ no.
          let each = Each-of_picked (λ x. ⊥) (λ (m : Member). m.entry.wait_phase)
          (λ (m : Member). mode_waits m.entry.mode) ms (none_least (λ x. ⊥) (wait_phases ms) no) in
          let picked = Each-picked (λ x. ⊥) (λ (m : Member). m.entry.wait_phase)
          (λ (m : Member). mode_waits m.entry.mode) more (none each) in
          absurd (some_least (wait_phases more) slowest least_new picked)
      | Some b ↦ λ some.
          let each = Each-of_picked (λ x. b ≤ x) (λ (m : Member). m.entry.wait_phase)
          (λ (m : Member). mode_waits m.entry.mode) ms (least_low (wait_phases ms) b some) in
          let picked = Each-picked (λ x. b ≤ x) (λ (m : Member). m.entry.wait_phase)
          (λ (m : Member). mode_waits m.entry.mode) more (low b each) in
          let high : b ≤ unwrap_or (least (wait_phases more)) b = least_or_high (wait_phases more) b b picked (omega arith) in
          let is : unwrap_or (least (wait_phases more)) b ≡ slowest = ap (λ o. unwrap_or o b) least_new in
          (b, refl, omega arith)
    ] refl
  where
    some_least : (xs : List ℕ) (n : ℕ) → least xs ≡ Some n → Each (λ x. ⊥) xs → ⊥
    some_least [] n e each = absurd (cc)
    some_least (x ∷ xs) n e each = each.0

-- ---- a drop

-- what a drop leaves of a core: a phase that a waiter has still to get is kept
pub record Drops {A : Type 0} (old new : CoreState A) (task : ℕ) : Type 0 where
  pub limits_same : new.limits ≡ old.limits
  pub greatest_same : new.greatest ≡ old.greatest
  pub members_are : new.members ≡ without task old.members
  pub top_same : new.top ≡ old.top
  pub kept : (slowest p : ℕ) (slot : KeptSlot A) → least (wait_phases new.members) ≡ Some slowest → slowest ≤ p
      → IsSlotOf old p slot → IsSlotOf new p slot

-- a core after a drop stands for the history with it
pub drops_stands : {A : Type 0} (op : Operation A) (old new : CoreState A) (h : History) (task : ℕ)
    → StandsFor op old h → drop_refusal h task ≡ None → Drops old new task
    → StandsFor op new (Dropped task ∷ h)
drops_stands op old new h task stands none s =
    let L : Limits → Type 0 = λ l. IsLegal l (Dropped task ∷ h) in
    let test : Member → Bool = λ m. not (eqb m.task task) in
    record {
      legal = subst L (sym s.limits_same) (stands.legal, none);
      members_are = s.members_are ∙ ap (λ ms. without task ms) stands.members_are;
      greatest_is = s.greatest_same ∙ stands.greatest_is;
      top_is = s.top_same ∙ stands.top_is;
      phases_are = λ slowest p waiter behind below.
          let left : least (wait_phases (without task old.members)) ≡ Some slowest =
          sym (ap (λ ms. least (wait_phases ms)) s.members_are) ∙ waiter in
          let b = slowest_kept old.members (without task old.members)
          (λ b each. Each-filter _ test old.members each) (λ each. Each-filter _ test old.members each) slowest left in
          let low : b.0 ≤ slowest = b.2 in
          let top_is : new.top ≡ old.top = s.top_same in
          let k : KeepsPhase op old h p = stands.phases_are b.0 p b.1 (omega arith) (omega arith) in
          record {
            slot = k.slot;
            is_slot = s.kept slowest p k.slot waiter behind k.is_slot;
            keeps = record { part_is = k.keeps.part_is; count_is = k.keeps.count_is; named_is = k.keeps.named_is };
          };
    }

-- ---- a registration

-- what a registration leaves of a core, where the parent has this entry
pub record Joins {A : Type 0} (old new : CoreState A) (child : ℕ) (mode : Mode) (parent : Entry) : Type 0 where
  pub limits_same : new.limits ≡ old.limits
  pub greatest_is : new.greatest ≡ max child old.greatest
  pub members_are : new.members ≡ old.members ++ member child (entry_at mode parent.signal_phase parent.wait_phase) ∷ []
  pub top_same : new.top ≡ old.top
  pub kept : (slowest p : ℕ) (slot : KeptSlot A) → least (wait_phases new.members) ≡ Some slowest → slowest ≤ p
      → IsSlotOf old p slot → IsSlotOf new p slot

-- a core after a registration stands for the history with it
pub joins_stands : {A : Type 0} (op : Operation A) (old new : CoreState A) (h : History) (parent child : ℕ) (mode : Mode) (e : Entry)
    → StandsFor op old h → entry_of old.members parent ≡ Some e
    → register_refusal h parent child mode ≡ None → Joins old new child mode e
    → StandsFor op new (Registered parent child mode ∷ h)
joins_stands op old new h parent child mode e stands found_old none s =
    let found : entry_of (members_of h) parent ≡ Some e = (rw (← stands.members_are) found_old) in
    let r : MayRegister h parent child mode = registers_from h parent child mode none in
    let same : r.entry ≡ e = same_Some _ _ (sym r.is_member ∙ found) in
    let H : Entry → Type 0 = λ x. holds x.mode mode ≡ true in
    let allowed : holds e.mode mode ≡ true = subst H same r.allowed in
    let L : Limits → Type 0 = λ l. IsLegal l (Registered parent child mode ∷ h) in
    let x : Entry = entry_at mode e.signal_phase e.wait_phase in
    record {
      legal = subst L (sym s.limits_same) (stands.legal, none);
      members_are = s.members_are ∙ ap (λ ms. ms ++ member child x ∷ []) stands.members_are
          ∙ ap (λ (y : Entry). members_of h ++ member child (entry_at mode y.signal_phase y.wait_phase) ∷ [])
          (sym (member_entry_is (members_of h) parent e found));
      greatest_is = s.greatest_is ∙ ap (λ g. max child g) stands.greatest_is;
      top_is = s.top_same ∙ stands.top_is;
      phases_are = λ slowest p waiter behind below.
          let more = old.members ++ member child x ∷ [] in
          let left : least (wait_phases more) ≡ Some slowest =
          sym (ap (λ ms. least (wait_phases ms)) s.members_are) ∙ waiter in
          let b = slowest_kept old.members more
          (λ b each. Each-push _ old.members (member child x) each
          (λ w. (Each-entry _ old.members parent e found_old each) (holds_waits e.mode mode allowed w)))
          (λ each. Each-push _ old.members (member child x) each
          (λ w. (Each-entry _ old.members parent e found_old each) (holds_waits e.mode mode allowed w)))
          slowest left in
          let low : b.0 ≤ slowest = b.2 in
          let top_is : new.top ≡ old.top = s.top_same in
          let k : KeepsPhase op old h p = stands.phases_are b.0 p b.1 (omega arith) (omega arith) in
          record {
            slot = k.slot;
            is_slot = s.kept slowest p k.slot waiter behind k.is_slot;
            keeps = record { part_is = k.keeps.part_is; count_is = k.keeps.count_is; named_is = k.keeps.named_is };
          };
    }
