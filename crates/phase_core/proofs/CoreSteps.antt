-- What a signal and a wait leave of a core, as relations that do not say how slots are kept, and
-- that the core then stands for the history with the event.
use Rattle.std.proofs.Common.{◌≡◌, ℕ, ◌+◌, ◌≤◌, true, false, ◌&&◌, eqb, leb, ltb, List, [], ◌∷◌, ◌++◌, Some, None, ℤ, length, unwrap_or, refl, sym, ap, subst, ◌∙◌, arith}
use Rattle.std.specs.Option.{option_and_then}
use Rattle.std.proofs.lemmas.Option.{same_Some}
use Rattle.std.proofs.lemmas.Bool.{ne_eqb, le-ltb}
use Rattle.phase_base.specs.Limits.{Limits}
use Rattle.phase_base.specs.Modes.{mode_waits}
use Rattle.phase_base.specs.declared.entry.Entry.{Entry}
use Rattle.phase_base.specs.declared.member.Member.{Member}
use Rattle.phase_accum.specs.Values.{applied}
use Rattle.phase_accum.specs.Operations.{Operation, AccumulateLaws}
use Rattle.phase_history.specs.declared.event.Event.TheVariants.{Made, Registered, RegisteredNow, Signalled, Waited, Dropped}
use Rattle.phase_base.specs.Members.{Members, entry_of, changed_at, wait_phases, least, waited}
use Rattle.phase_history.specs.Histories.{History, members_of, top_of, done_of, signal_phase, wait_phase}
use Rattle.phase_history.specs.Phases.{value_of_phase, single_of_phase, sends_of_phase, named_in_phase, list_in_phase, is_among}
use Rattle.phase_history.specs.Refusals.{wait_refusal}
use Rattle.phase_history.specs.Legal.{IsLegal}
use Rattle.phase_core.specs.Slots.{KeptSlot}
use Rattle.phase_core.specs.Cores.{CoreState, KeepsSends, IsSlotOf, KeepsPhase, StandsFor}
use Rattle.phase_history.proofs.Each.{Each, Each-of_picked, Each-picked, least_low, least_or_high}
use Rattle.phase_history.proofs.MemberLemmas.{Each-entry, Each-changed}
use Rattle.phase_history.proofs.Refused.{WaitsNow, waits_from}
use Rattle.phase_history.proofs.Steps.{member_entry_is, first_named_not}
use Rattle.phase_history.proofs.Bounded.{none_least}

-- ---- phases that no signal has joined

-- no list stands in a phase behind the last
list_in_phase_behind : (lists : List (List ℤ)) (s p : ℕ) → s + length lists ≤ p → list_in_phase lists s p ≡ []
list_in_phase_behind [] s p h = refl
list_in_phase_behind (sends ∷ lists) s p h =
    let apart : eqb s p ≡ false = ne_eqb s p (λ e. omega arith) in
    rw apart (list_in_phase_behind lists (s + 1) p (omega arith))

-- a phase from the top on has no sends, and no single is named in it
pub none_from_top : (limits : Limits) (h : History) (p : ℕ) → IsLegal limits h → top_of h ≤ p
    → (sends_of_phase h p ≡ []) × (named_in_phase h p ≡ None)
none_from_top limits [] p legal past = absurd legal
none_from_top limits (Made task ∷ before) p legal past =
    rw legal.1 (refl, refl)
none_from_top limits (Registered parent child mode ∷ before) p legal past = none_from_top limits before p legal.0 past
none_from_top limits (RegisteredNow parent child ∷ before) p legal past = none_from_top limits before p legal.0 past
none_from_top limits (Signalled task lists single ∷ before) p legal past =
    let s = signal_phase before task in
    let i = none_from_top limits before p legal.0 (omega arith) in
    let late : ltb p (s + length lists) ≡ false = le-ltb p (s + length lists) (omega arith) in
    let outside : is_among s (length lists) p ≡ false = elim (leb s p) as (λ b. (b && ltb p (s + length lists)) ≡ false) [ true ↦ late | false ↦ refl ] in (
      ap (λ l. l ++ list_in_phase lists s p) i.0 ∙ list_in_phase_behind lists s p (omega arith),
      first_named_not (named_in_phase before p) _ single outside ∙ i.1,
    )
none_from_top limits (Waited task n ∷ before) p legal past = none_from_top limits before p legal.0 past
none_from_top limits (Dropped task ∷ before) p legal past = none_from_top limits before p legal.0 past

-- ---- a wait

-- what a wait for n phases leaves of a core: a phase that a waiter has still to get is kept
pub record Waits {A : Type 0} (old new : CoreState A) (task n : ℕ) : Type 0 where
  pub limits_same : new.limits ≡ old.limits
  pub greatest_same : new.greatest ≡ old.greatest
  pub members_are : new.members ≡ changed_at task (waited n) old.members
  pub top_same : new.top ≡ old.top
  pub kept : (slowest p : ℕ) (slot : KeptSlot A) → least (wait_phases new.members) ≡ Some slowest → slowest ≤ p
      → IsSlotOf old p slot → IsSlotOf new p slot

-- the slowest waiter before a wait was no further than after it
pub slowest_before : (ms : Members) (task n slowest : ℕ) (e : Entry) → entry_of ms task ≡ Some e → mode_waits e.mode ≡ true
    → least (wait_phases (changed_at task (waited n) ms)) ≡ Some slowest
    → (b : ℕ) × (least (wait_phases ms) ≡ Some b) × (b ≤ slowest)
slowest_before ms task n slowest e found waits least_new =
    elim (least (wait_phases ms)) as (λ o. (least (wait_phases ms) ≡ o) → (b : ℕ) × (o ≡ Some b) × (b ≤ slowest)) [
      | None ↦ λ none.
          let each : Each (λ (m : Member). mode_waits m.entry.mode ≡ true → ⊥) ms =
          Each-of_picked (λ x. ⊥) (λ (m : Member). m.entry.wait_phase)
          (λ (m : Member). mode_waits m.entry.mode) ms (none_least (λ x. ⊥) (wait_phases ms) none) in
          let no_waiter : mode_waits e.mode ≡ true → ⊥ = Each-entry _ ms task e found each in
          absurd (no_waiter waits)
      | Some b ↦ λ some.
          let each : Each (λ (m : Member). mode_waits m.entry.mode ≡ true → b ≤ m.entry.wait_phase) ms =
          Each-of_picked (λ x. b ≤ x) (λ (m : Member). m.entry.wait_phase)
          (λ (m : Member). mode_waits m.entry.mode) ms (least_low (wait_phases ms) b some) in
          let each_new : Each (λ (m : Member). mode_waits m.entry.mode ≡ true → b ≤ m.entry.wait_phase)
          (changed_at task (waited n) ms) =
          Each-changed _ _ task (waited n) e ms found (λ m h. h) (λ h w. (let a : b ≤ e.wait_phase = h w in omega arith)) each in
          let low : b ≤ unwrap_or (least (wait_phases (changed_at task (waited n) ms))) b =
          least_or_high (wait_phases (changed_at task (waited n) ms)) b b
          (Each-picked (λ x. b ≤ x) (λ (m : Member). m.entry.wait_phase)
          (λ (m : Member). mode_waits m.entry.mode) (changed_at task (waited n) ms) each_new) (omega arith) in
          let is : unwrap_or (least (wait_phases (changed_at task (waited n) ms))) b ≡ slowest =
          ap (λ o. unwrap_or o b) least_new in
          (b, refl, omega arith)
    ] refl

-- a core after a wait stands for the history with it
pub waits_stands : {A : Type 0} (op : Operation A) (old new : CoreState A) (h : History) (task n : ℕ) (e : Entry)
    → StandsFor op old h → entry_of old.members task ≡ Some e
    → wait_refusal old.limits h task n ≡ None → e.wait_phase + n ≤ done_of h → Waits old new task n
    → StandsFor op new (Waited task n ∷ h)
waits_stands op old new h task n e stands found_old none complete s =
    let found : entry_of (members_of h) task ≡ Some e = (rw (← stands.members_are) found_old) in
    let r : WaitsNow h task = waits_from old.limits h task n none in
    let same : r.entry ≡ e = same_Some _ _ (sym r.is_member ∙ found) in
    let W : Entry → Type 0 = λ x. mode_waits x.mode ≡ true in
    let waits : mode_waits e.mode ≡ true = subst W same r.waits in
    let at_phase : wait_phase h task ≡ e.wait_phase =
    ap (λ (x : Entry). x.wait_phase) (member_entry_is (members_of h) task e found) in
    let L : Limits → Type 0 = λ l. IsLegal l (Waited task n ∷ h) in
    record {
      legal = subst L (sym s.limits_same) (stands.legal, (none, omega arith));
      members_are = s.members_are ∙ ap (λ ms. changed_at task (waited n) ms) stands.members_are;
      greatest_is = s.greatest_same ∙ stands.greatest_is;
      top_is = s.top_same ∙ stands.top_is;
      phases_are = λ slowest p waiter behind below.
          let waiter_changed : least (wait_phases (changed_at task (waited n) old.members)) ≡ Some slowest =
          sym (ap (λ ms. least (wait_phases ms)) s.members_are) ∙ waiter in
          let b = slowest_before old.members task n slowest e found_old waits waiter_changed in
          let low : b.0 ≤ slowest = b.2 in
          let top_is : new.top ≡ old.top = s.top_same in
          let k : KeepsPhase op old h p = stands.phases_are b.0 p b.1 (omega arith) (omega arith) in
          record {
            slot = k.slot;
            is_slot = s.kept slowest p k.slot waiter behind k.is_slot;
            keeps = record { part_is = k.keeps.part_is; count_is = k.keeps.count_is; named_is = k.keeps.named_is };
          };
    }

-- ---- replies

-- the value of a phase by its slot: that of its part, with the single that its first signal named
pub kept_value : {A : Type 0} (op : Operation A) (laws : AccumulateLaws op) (slot : KeptSlot A) (h : History) (p : ℕ)
    → KeepsSends op slot h p
    → applied (option_and_then (λ named. named) slot.named) (op.finish slot.part)
    ≡ value_of_phase op.value h p
kept_value op laws slot h p keeps =
    ap (λ n. applied (option_and_then (λ named. named) n) (op.finish slot.part)) keeps.named_is
    ∙ ap (λ o. applied (single_of_phase h p) o) (laws.finishes slot.part (sends_of_phase h p) keeps.part_is)
