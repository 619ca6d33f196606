-- What a drop leaves of a core.
use Rattle.std.proofs.Common.{◌≡◌, ℕ, ◌+◌, ◌<◌, ◌≤◌, ◌⊎◌, true, [], ◌∷◌, Some, None, length, refl, sym, ap, ◌∙◌, arith, inl, inr}
use Rattle.std.specs.Prelude.{IsSome}
use Rattle.std.proofs.lemmas.Option.{same_Some}
use Rattle.phase_base.specs.Limits.{Limits}
use Rattle.phase_base.specs.declared.entry.Entry.{Entry}
use Rattle.phase_base.specs.Members.{Members, entry_of, without, wait_phases, least}
use Rattle.phase_accum.specs.Operations.{Operation}
use Rattle.phase_history.specs.declared.event.Event.TheVariants.{Dropped}
use Rattle.phase_history.specs.declared.refusal.NoTask.{NoTask}
use Rattle.phase_history.specs.Histories.{History}
use Rattle.phase_history.specs.Refusals.{drop_refusal, refusal_at}
use Rattle.phase_registry.specs.Rosters.{Roster, roster, AreRising}
use Rattle.phase_ring.specs.declared.board.Board.{Board}
use Rattle.phase_ring.specs.declared.role.Role.{Role}
use Rattle.phase_ring.specs.declared.role.Role.TheVariants.{Signaller, Waiter}
use Rattle.phase_ring.specs.Rings.{Ring, standing, sents, KeepsSlots}
use Rattle.phase_ring.specs.Standings.{count_of, counted, takes_part, phase_for}
use Rattle.phase_ring.specs.Boards.{IsRingAt}
use Rattle.phase_core.specs.Slots.{KeptSlot}
use Rattle.phase_core.specs.Cores.{CoreState, IsSlotOf, StandsFor, IsBoarded, core_with, core_of}
use Rattle.phase_core.proofs.LeastCounts.{signaller-counted, waiter-counted}
use Rattle.phase_core.proofs.Boarded.{length-none, slowest_is}
use Rattle.phase_core.proofs.RingSlots.{kept_slots}
use Rattle.phase_core.proofs.MemberSteps.{drops_stands}
use Rattle.phase_core.proofs.MemberCounts.{counts-without, waiters-without, some_counted}
use Rattle.phase_core.proofs.Joining.{Joined}

-- ---- the drop

-- a member's drop is accepted
drop_accepted : {A : Type 0} (op : Operation A) (core : CoreState A) (h : History) (task : ℕ) (e : Entry)
    → StandsFor op core h → entry_of core.members task ≡ Some e → drop_refusal h task ≡ None
drop_accepted op core h task e stands found =
    let gone : NoTask = record {} in
    ap (λ ms. refusal_at (entry_of ms task) gone (λ entry. [])) (sym stands.members_are)
    ∙ ap (λ o. refusal_at o gone (λ entry. [])) found

-- the core with one member less, where the slots that matter are kept
left_stands : {A : Type 0} (op : Operation A) (reg : Roster) (limits : Limits) (r new : Ring A) (top : ℕ) (h : History) (task : ℕ) (e : Entry)
    → StandsFor op (core_with reg limits r top) h → entry_of reg.members task ≡ Some e
    → ((slowest p : ℕ) (slot : KeptSlot A) → least (wait_phases (without task reg.members)) ≡ Some slowest → slowest ≤ p
    → IsSlotOf (core_with reg limits r top) p slot
    → IsSlotOf (core_with (roster (without task reg.members) reg.greatest) limits new top) p slot)
    → StandsFor op (core_with (roster (without task reg.members) reg.greatest) limits new top) (Dropped task ∷ h)
left_stands op reg limits r new top h task e stands found kept =
    drops_stands op (core_with reg limits r top) (core_with (roster (without task reg.members) reg.greatest) limits new top) h task stands
    (drop_accepted op (core_with reg limits r top) h task e stands found) (record {
      limits_same = refl;
      greatest_same = refl;
      members_are = refl;
      top_same = refl;
      kept = kept;
    })

-- where a waiter is left
pub drops_core : {A : Type 0} (op : Operation A) (reg new_reg : Roster) (b new : Board A) (h : History) (task : ℕ) (e : Entry)
    → StandsFor op (core_of reg b) h → IsBoarded op reg.members b.ring b.limits.bound b.done b.top → IsSome reg.greatest
    → AreRising reg.members → entry_of reg.members task ≡ Some e
    → new_reg ≡ roster (without task reg.members) reg.greatest
    → new.limits ≡ b.limits → new.top ≡ b.top → KeepsSlots (sents b.ring) (sents new.ring)
    → ((role : Role) (p : ℕ) → standing new.ring role p + counted role e p ≡ standing b.ring role p)
    → (new.done ≡ new.top) ⊎ (0 < standing new.ring Signaller new.done) → 0 < standing new.ring Waiter new.ring.base
    → IsRingAt op new.ring new.limits.bound new.done new.top
    → Joined op new_reg new (Dropped task ∷ h)
drops_core {A} op reg new_reg b new h task e stands boarded used rising found reg_is limits_is top_is slots less settled stops kept =
    let want = roster (without task reg.members) reg.greatest in
    let event = Dropped task in
    let now : IsBoarded op want.members new.ring new.limits.bound new.done new.top = record {
      kept = kept;
      done_at = settled;
      base_at = stops;
      signallers_are = λ p. (let m = less Signaller p in let t = boarded.signallers_are p in
          let c = counts-without Signaller p reg.members task e rising found in omega arith);
      waiters_are = λ p. (let m = less Waiter p in let t = boarded.waiters_are p in
          let c = counts-without Waiter p reg.members task e rising found in omega arith);
    } in
    let slowest_now = slowest_is op want.members new.ring new.limits.bound new.done new.top now in
    let there : StandsFor op (core_with want b.limits new.ring b.top) (event ∷ h) =
    left_stands op reg b.limits b.ring new.ring b.top h task e stands found
    (λ slowest p slot waiter behind is.
    let same : new.ring.base ≡ slowest = same_Some _ _ (sym slowest_now ∙ waiter) in
    kept_slots reg want b.limits b.ring new.ring b.top b.top p slot slots (omega arith) is) in
    let core_is : core_of want new ≡ core_with want b.limits new.ring b.top =
    ap (λ l. core_with want l new.ring new.top) limits_is ∙ ap (λ t. core_with want b.limits new.ring t) top_is in
    let stands_now : StandsFor op (core_of want new) (event ∷ h) = rw core_is there in
    rw reg_is (record {
      stands = stands_now;
      holds = record { history = event ∷ h; stands = stands_now; boarded = inr now; used = used };
    })

-- where none is left, whatever the slots are
pub drops_alone : {A : Type 0} (op : Operation A) (reg new_reg : Roster) (b new : Board A) (h : History) (task : ℕ) (e : Entry)
    → StandsFor op (core_of reg b) h → IsSome reg.greatest → entry_of reg.members task ≡ Some e
    → new_reg ≡ roster (without task reg.members) reg.greatest
    → length (wait_phases (without task reg.members)) ≡ 0 → new.limits ≡ b.limits → new.top ≡ b.top
    → Joined op new_reg new (Dropped task ∷ h)
drops_alone {A} op reg new_reg b new h task e stands used found reg_is alone limits_is top_is =
    let want = roster (without task reg.members) reg.greatest in
    let event = Dropped task in
    let left : wait_phases want.members ≡ [] = length-none (wait_phases want.members) alone in
    let there : StandsFor op (core_with want b.limits new.ring b.top) (event ∷ h) =
    left_stands op reg b.limits b.ring new.ring b.top h task e stands found
    (λ slowest p slot waiter behind is. absurd (none_some slowest (sym (ap least left) ∙ waiter))) in
    let core_is : core_of want new ≡ core_with want b.limits new.ring b.top =
    ap (λ l. core_with want l new.ring new.top) limits_is ∙ ap (λ t. core_with want b.limits new.ring t) top_is in
    let stands_now : StandsFor op (core_of want new) (event ∷ h) = rw core_is there in
    rw reg_is (record {
      stands = stands_now;
      holds = record { history = event ∷ h; stands = stands_now; boarded = inl left; used = used };
    })
  where
    none_some : (n : ℕ) → least [] ≡ Some n → ⊥
    none_some n e = absurd (cc)

-- where there was no waiter, none is left
pub none_left : (ms : Members) (task : ℕ) (e : Entry) → AreRising ms → entry_of ms task ≡ Some e
    → length (wait_phases ms) ≡ 0 → length (wait_phases (without task ms)) ≡ 0
none_left ms task e rising found none =
    omega (arith, waiters-without ms task e rising found)

-- ---- what the board asks

-- a member stands at its phases
pub stands_there : {A : Type 0} (op : Operation A) (ms : Members) (r : Ring A) (bound done top task : ℕ) (e : Entry)
    → IsBoarded op ms r bound done top → entry_of ms task ≡ Some e
    → (role : Role) → takes_part role e ≡ true → 0 < standing r role (phase_for role e)
stands_there op ms r bound done top task e b found Signaller takes =
    omega (arith, signaller-counted ms task e found takes, b.signallers_are e.signal_phase)
stands_there op ms r bound done top task e b found Waiter takes =
    omega (arith, waiter-counted ms task e found takes, b.waiters_are e.wait_phase)

-- where a waiter is left, one stands beside the member that leaves
pub waiter_left : {A : Type 0} (op : Operation A) (ms : Members) (r : Ring A) (bound done top task : ℕ) (e : Entry)
    → IsBoarded op ms r bound done top → AreRising ms → entry_of ms task ≡ Some e
    → (length (wait_phases (without task ms)) ≡ 0 → ⊥)
    → (p : ℕ) × (counted Waiter e p < standing r Waiter p)
waiter_left op ms r bound done top task e b rising found some =
    let one = some_counted (wait_phases (without task ms)) some in
    let less = counts-without Waiter one.0 ms task e rising found in
    let t = b.waiters_are one.0 in
    let n : 0 < count_of one.0 (wait_phases (without task ms)) = one.1 in
    (one.0, omega arith)
