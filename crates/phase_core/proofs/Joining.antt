-- What a registration leaves of a core.
use Rattle.std.proofs.Common.{◌≡◌, ℕ, ◌+◌, ◌<◌, ◌≤◌, true, false, not, cond, leb, [], ◌∷◌, Option, Some, None, length, unwrap_or, refl, sym, ap, subst, ◌∙◌, arith, ⊎_elim, inl, inr}
use Rattle.std.specs.Prelude.{IsSome}
use Rattle.std.specs.Option.{option_map}
use Rattle.phase_base.specs.Limits.{Limits}
use Rattle.phase_base.specs.Modes.{holds, mode_waits}
use Rattle.phase_base.specs.declared.mode.Mode.{Mode}
use Rattle.phase_base.specs.declared.entry.Entry.{Entry}
use Rattle.phase_base.specs.declared.limits.TheConstants.{MEMBERS_MAX}
use Rattle.phase_base.specs.Members.{Members, entry_of, signal_phases, wait_phases, least}
use Rattle.phase_accum.specs.Operations.{Operation}
use Rattle.phase_history.specs.declared.event.Event.TheVariants.{Registered}
use Rattle.phase_history.specs.declared.refusal.RegisterRefusal.TheVariants as register
use Rattle.phase_history.specs.Histories.{History, entry_at, greatest_used}
use Rattle.phase_history.specs.Refusals.{register_refusal, refusal_at, register_rows}
use Rattle.phase_base.specs.Lists.{first_row}
use Rattle.phase_history.proofs.MemberLemmas.{holds_signals, holds_waits}
use Rattle.phase_history.proofs.Refused.{Registers as MayRegister, registers_from}
use Rattle.phase_registry.specs.declared.refusal.AddRefusal.TheVariants as add
use Rattle.phase_registry.specs.Rosters.{Roster, roster, add_refusal, added}
use Rattle.phase_registry.proofs.Kept.{addable_from, waiters-push}
use Rattle.phase_ring.specs.declared.board.Board.{Board}
use Rattle.phase_ring.specs.declared.role.Role.{Role}
use Rattle.phase_ring.specs.declared.role.Role.TheVariants.{Signaller, Waiter}
use Rattle.phase_ring.specs.Rings.{Ring, standing, sents}
use Rattle.phase_ring.specs.Standings.{counted, takes_part, phase_for}
use Rattle.phase_ring.specs.Boards.{IsRingAt}
use Rattle.phase_core.specs.Slots.{KeptSlot}
use Rattle.phase_core.specs.Admission.{refusal_of_add}
use Rattle.phase_core.specs.Cores.{CoreState, IsSlotOf, StandsFor, IsBoarded, IsCore, core_with, core_of}
use Rattle.phase_core.proofs.LeastCounts.{signal_phases-few, wait_phases-few, signaller-counted, waiter-counted}
use Rattle.phase_core.proofs.Boarded.{length-none, waits-some}
use Rattle.phase_core.proofs.RingSlots.{same_slots}
use Rattle.phase_core.proofs.MemberSteps.{joins_stands}
use Rattle.phase_core.proofs.MemberCounts.{counts-push, count_of-few}

-- ---- the refusal of a registration

-- by the members of the core
refusal_of_parent : {A : Type 0} (op : Operation A) (core : CoreState A) (h : History) (parent child : ℕ) (mode : Mode)
    → StandsFor op core h
    → register_refusal h parent child mode
    ≡ refusal_at (entry_of core.members parent) register.NoTask (register_rows core.members core.greatest child mode)
refusal_of_parent op core h parent child mode stands =
    ap (λ ms. refusal_at (entry_of ms parent) register.NoTask (register_rows ms (greatest_used h) child mode)) (sym stands.members_are)
    ∙ ap (λ g. refusal_at (entry_of core.members parent) register.NoTask (register_rows core.members g child mode)) (sym stands.greatest_is)

-- the rows on the child's number and on the members are those of the registry
rows_of_add : (ms : Members) (greatest : Option ℕ) (child : ℕ) → IsSome greatest
    → first_row ((leb child (unwrap_or greatest 0), register.NotNew)
    ∷ (leb MEMBERS_MAX (length ms), register.TooManyTasks) ∷ [])
    ≡ option_map refusal_of_add (add_refusal (roster ms greatest) child)
rows_of_add ms None child used = absurd (cc)
rows_of_add ms (Some g) child used =
    elim (leb child g) as (λ b. first_row ((b, register.NotNew) ∷ (leb MEMBERS_MAX (length ms), register.TooManyTasks) ∷ [])
    ≡ option_map refusal_of_add (cond b (Some add.NotNew) (cond (leb MEMBERS_MAX (length ms)) (Some add.TooManyTasks) None))) [
      | true ↦ refl
      | false ↦ elim (leb MEMBERS_MAX (length ms)) as (λ b. first_row ((b, register.TooManyTasks) ∷ [])
          ≡ option_map refusal_of_add (cond b (Some add.TooManyTasks) None)) [ true ↦ refl | false ↦ refl ]
    ]

-- else the registry's
pub register_refusal_is : {A : Type 0} (op : Operation A) (reg : Roster) (limits : Limits) (r : Ring A) (top : ℕ) (h : History) (parent child : ℕ) (mode : Mode)
    (e : Entry) → StandsFor op (core_with reg limits r top) h → IsSome reg.greatest → entry_of reg.members parent ≡ Some e
    → holds e.mode mode ≡ true
    → register_refusal h parent child mode ≡ option_map refusal_of_add (add_refusal reg child)
register_refusal_is op reg limits r top h parent child mode e stands used found held =
    refusal_of_parent op (core_with reg limits r top) h parent child mode stands
    ∙ ap (λ o. refusal_at o register.NoTask (register_rows reg.members (unwrap_or reg.greatest 0) child mode)) found
    ∙ ap (λ b. first_row ((not b, register.NotAllowed) ∷ (leb child (unwrap_or reg.greatest 0), register.NotNew)
    ∷ (leb MEMBERS_MAX (length reg.members), register.TooManyTasks) ∷ [])) held
    ∙ rows_of_add reg.members reg.greatest child used

-- ---- the registration

-- what a registration says of its parent and its child
pub record Accepted (reg : Roster) (h : History) (parent child : ℕ) (mode : Mode) (e : Entry) : Type 0 where
  pub none : register_refusal h parent child mode ≡ None
  pub found : entry_of reg.members parent ≡ Some e
  pub held : holds e.mode mode ≡ true

pub accepted : {A : Type 0} (op : Operation A) (reg : Roster) (limits : Limits) (r : Ring A) (top : ℕ) (h : History) (parent child : ℕ) (mode : Mode)
    (e : Entry) → StandsFor op (core_with reg limits r top) h → IsSome reg.greatest → entry_of reg.members parent ≡ Some e
    → holds e.mode mode ≡ true → add_refusal reg child ≡ None → Accepted reg h parent child mode e
accepted op reg limits r top h parent child mode e stands used found held none = record {
  none = register_refusal_is op reg limits r top h parent child mode e stands used found held
      ∙ ap (λ o. option_map refusal_of_add o) none;
  found = found;
  held = held;
}

-- the core with one more member, where the slots that matter are kept
joined_stands : {A : Type 0} (op : Operation A) (reg : Roster) (limits : Limits) (r new : Ring A) (top : ℕ) (h : History) (parent child : ℕ) (mode : Mode)
    (e : Entry) → StandsFor op (core_with reg limits r top) h → Accepted reg h parent child mode e
    → ((slowest p : ℕ) (slot : KeptSlot A) → least (wait_phases (added child (entry_at mode e.signal_phase e.wait_phase) reg).members) ≡ Some slowest → slowest ≤ p
    → IsSlotOf (core_with reg limits r top) p slot
    → IsSlotOf (core_with (added child (entry_at mode e.signal_phase e.wait_phase) reg) limits new top) p slot)
    → StandsFor op (core_with (added child (entry_at mode e.signal_phase e.wait_phase) reg) limits new top) (Registered parent child mode ∷ h)
joined_stands op reg limits r new top h parent child mode e stands a kept =
    let m : MayRegister h parent child mode = registers_from h parent child mode a.none in
    let high : greatest_used h < child = m.new_number in
    let g : unwrap_or reg.greatest 0 ≡ greatest_used h = stands.greatest_is in
    joins_stands op (core_with reg limits r top) (core_with (added child (entry_at mode e.signal_phase e.wait_phase) reg) limits new top)
    h parent child mode e stands a.found a.none (record {
      limits_same = refl;
      greatest_is = omega arith;
      members_are = refl;
      top_same = refl;
      kept = kept;
    })

-- what a registration leaves, where a waiter is registered
pub record Joined {A : Type 0} (op : Operation A) (reg : Roster) (b : Board A) (h : History) : Type 0 where
  pub stands : StandsFor op (core_of reg b) h
  pub holds : IsCore op reg b

pub registers_core : {A : Type 0} (op : Operation A) (reg new_reg : Roster) (b new : Board A) (h : History) (parent child : ℕ) (mode : Mode) (e : Entry)
    → StandsFor op (core_of reg b) h → IsBoarded op reg.members b.ring b.limits.bound b.done b.top
    → Accepted reg h parent child mode e
    → new_reg ≡ added child (entry_at mode e.signal_phase e.wait_phase) reg
    → new.limits ≡ b.limits → new.done ≡ b.done → new.top ≡ b.top → sents new.ring ≡ sents b.ring
    → ((role : Role) (p : ℕ) → standing new.ring role p ≡ standing b.ring role p + counted role (entry_at mode e.signal_phase e.wait_phase) p)
    → IsRingAt op new.ring new.limits.bound new.done new.top
    → Joined op new_reg new (Registered parent child mode ∷ h)
registers_core {A} op reg new_reg b new h parent child mode e stands boarded a reg_is limits_is done_is top_is same more kept =
    let x = entry_at mode e.signal_phase e.wait_phase in
    let want = added child x reg in
    let event = Registered parent child mode in
    let there : StandsFor op (core_with want b.limits new.ring b.top) (event ∷ h) =
    joined_stands op reg b.limits b.ring new.ring b.top h parent child mode e stands a
    (λ slowest p slot waiter behind is. same_slots reg b.limits new.ring b.ring b.top b.top p slot same is want) in
    let base : new.ring.base ≡ b.ring.base = ap (λ (r : Ring A). r.base) same in
    let now : IsBoarded op want.members new.ring new.limits.bound new.done new.top = record {
      kept = kept;
      done_at = ⊎_elim (λ at. inl (omega arith))
          (λ some. inr (let m = more Signaller b.done in
          let s : standing new.ring Signaller new.done ≡ standing new.ring Signaller b.done = ap (standing new.ring Signaller) done_is in
          omega arith)) boarded.done_at;
      base_at = (let m = more Waiter b.ring.base in
          let s : standing new.ring Waiter new.ring.base ≡ standing new.ring Waiter b.ring.base = ap (standing new.ring Waiter) base in
          let w = boarded.base_at in omega arith);
      signallers_are = λ p. (let m = more Signaller p in let t = boarded.signallers_are p in
          let c = counts-push Signaller p reg.members child x in omega arith);
      waiters_are = λ p. (let m = more Waiter p in let t = boarded.waiters_are p in
          let c = counts-push Waiter p reg.members child x in omega arith);
    } in
    let core_is : core_of want new ≡ core_with want b.limits new.ring b.top =
    ap (λ l. core_with want l new.ring new.top) limits_is ∙ ap (λ t. core_with want b.limits new.ring t) top_is in
    let S : CoreState A → Type 0 = λ k. StandsFor op k (event ∷ h) in
    let stands_now : StandsFor op (core_of want new) (event ∷ h) = subst S (sym core_is) there in
    let J : Roster → Type 0 = λ r. Joined op r new (event ∷ h) in
    subst J (sym reg_is) (record {
      stands = stands_now;
      holds = record { history = event ∷ h; stands = stands_now; boarded = inr now; used = refl };
    })

-- and where none is: the child is none either
pub registers_alone : {A : Type 0} (op : Operation A) (reg new_reg : Roster) (b : Board A) (h : History) (parent child : ℕ) (mode : Mode) (e : Entry)
    → StandsFor op (core_of reg b) h → length (wait_phases reg.members) ≡ 0 → Accepted reg h parent child mode e
    → new_reg ≡ added child (entry_at mode e.signal_phase e.wait_phase) reg
    → Joined op new_reg b (Registered parent child mode ∷ h)
registers_alone {A} op reg new_reg b h parent child mode e stands alone a reg_is =
    let x = entry_at mode e.signal_phase e.wait_phase in
    let want = added child x reg in
    let event = Registered parent child mode in
    let count : length (wait_phases want.members) ≡ length (wait_phases reg.members) + cond (mode_waits mode) 1 0 =
    waiters-push reg.members child x in
    let no_waiter : mode_waits mode ≡ true → ⊥ = λ waits.
    waits-some reg.members parent e a.found (holds_waits e.mode mode a.held waits) alone in
    let none : cond {A = ℕ} (mode_waits mode) 1 0 ≡ 0 =
    elim (mode_waits mode) as (λ w. (mode_waits mode ≡ w) → cond {A = ℕ} w 1 0 ≡ 0) [
      | true ↦ λ waits. absurd (no_waiter waits)
      | false ↦ λ waits. refl
    ] refl in
    let left : wait_phases want.members ≡ [] = length-none (wait_phases want.members) (omega arith) in
    let stands_now : StandsFor op (core_of want b) (event ∷ h) =
    joined_stands op reg b.limits b.ring b.ring b.top h parent child mode e stands a
    (λ slowest p slot waiter behind is. absurd (none_some slowest (sym (ap least left) ∙ waiter))) in
    rw reg_is (record {
      stands = stands_now;
      holds = record { history = event ∷ h; stands = stands_now; boarded = inl left; used = refl };
    })
  where
    none_some : (n : ℕ) → least [] ≡ Some n → ⊥
    none_some n e = absurd (cc)

-- ---- what the board asks

-- the child stands where its parent stands
pub stands_beside : {A : Type 0} (op : Operation A) (ms : Members) (r : Ring A) (bound done top parent : ℕ) (mode : Mode) (e : Entry)
    → IsBoarded op ms r bound done top → entry_of ms parent ≡ Some e → holds e.mode mode ≡ true
    → (role : Role) → takes_part role (entry_at mode e.signal_phase e.wait_phase) ≡ true
    → 0 < standing r role (phase_for role (entry_at mode e.signal_phase e.wait_phase))
stands_beside op ms r bound done top parent mode e b found held Signaller takes =
    let some = signaller-counted ms parent e found (holds_signals e.mode mode held takes) in
    omega (arith, b.signallers_are e.signal_phase)
stands_beside op ms r bound done top parent mode e b found held Waiter takes =
    let some = waiter-counted ms parent e found (holds_waits e.mode mode held takes) in
    omega (arith, b.waiters_are e.wait_phase)

-- there is room for one more at each phase
pub room_for_one : {A : Type 0} (op : Operation A) (reg : Roster) (r : Ring A) (bound done top child : ℕ)
    → IsBoarded op reg.members r bound done top → add_refusal reg child ≡ None
    → (role : Role) (p : ℕ) → standing r role p < MEMBERS_MAX
room_for_one op reg r bound done top child b none Signaller p =
    let few = count_of-few p (signal_phases reg.members) in
    let room = (addable_from reg.members reg.greatest child none).room in
    omega (arith, signal_phases-few reg.members, b.signallers_are p)
room_for_one op reg r bound done top child b none Waiter p =
    let few = count_of-few p (wait_phases reg.members) in
    let room = (addable_from reg.members reg.greatest child none).room in
    omega (arith, wait_phases-few reg.members, b.waiters_are p)
