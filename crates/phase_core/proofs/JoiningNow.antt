-- What a registration of a waiter that joins now leaves of a core.
use Rattle.std.proofs.Common.{◌≡◌, ℕ, ◌+◌, ◌++◌, ◌<◌, true, [], ◌∷◌, Some, None, refl, sym, ap, subst, ◌∙◌, arith, ⊎_elim, inl, inr}
use Rattle.std.specs.Prelude.{IsSome}
use Rattle.std.specs.Option.{option_map}
use Rattle.std.proofs.lemmas.Option.{same_Some}
use Rattle.phase_base.specs.Limits.{Limits}
use Rattle.phase_base.specs.Modes.{holds, mode_waits}
use Rattle.phase_base.specs.declared.mode.Mode.{Mode}
use Rattle.phase_base.specs.declared.entry.Entry.{Entry}
use Rattle.phase_base.specs.Members.{member, entry_of, signal_phases, wait_phases}
use Rattle.phase_accum.specs.Operations.{Operation}
use Rattle.phase_history.specs.declared.event.Event.TheVariants.{RegisteredNow}
use Rattle.phase_history.specs.Histories.{History, entry_at, members_of, member_entry, done_of, greatest_used}
use Rattle.phase_history.specs.Refusals.{register_now_refusal}
use Rattle.phase_history.proofs.Refused.{Registers as MayRegister, registers_from}
use Rattle.phase_registry.specs.Rosters.{Roster, add_refusal, added}
use Rattle.phase_ring.specs.declared.board.Board.{Board}
use Rattle.phase_ring.specs.declared.role.Role.TheVariants.{Signaller, Waiter}
use Rattle.phase_ring.specs.Rings.{Ring, standing, sents}
use Rattle.phase_base.specs.declared.mode.Mode.TheVariants.{Single, SigWait, Sig, Wait}
use Rattle.phase_history.proofs.Steps.{member_entry_is}
use Rattle.phase_core.proofs.NewCore.{done_of_boarded}
use Rattle.phase_core.proofs.Boarded.{slowest_is}
use Rattle.phase_core.proofs.Joining.{register_refusal_is}
use Rattle.phase_ring.specs.Standings.{one_if_same, count_of}
use Rattle.phase_ring.specs.Boards.{IsRingAt}
use Rattle.phase_core.specs.Admission.{refusal_of_add}
use Rattle.phase_core.specs.Cores.{CoreState, StandsFor, IsBoarded, IsCore, core_with, core_of}
use Rattle.phase_core.proofs.RingSlots.{same_slots}
use Rattle.phase_core.proofs.MemberCounts.{counts-push}

holds_waiter : (mode : Mode) → mode_waits mode ≡ true → holds mode Wait ≡ true
holds_waiter mode waits = elim mode as (λ m. mode_waits m ≡ true → holds m Wait ≡ true) [
  | Single ↦ λ w. refl
  | SigWait ↦ λ w. refl
  | Sig ↦ λ w. absurd (cc)
  | Wait ↦ λ w. refl
] waits

pub now_refusal : {A : Type 0} (op : Operation A) (reg : Roster) (limits : Limits) (r : Ring A) (top : ℕ) (h : History) (parent child : ℕ)
    (e : Entry) → StandsFor op (core_with reg limits r top) h → IsSome reg.greatest → entry_of reg.members parent ≡ Some e → mode_waits e.mode ≡ true
    → add_refusal reg child ≡ None → register_now_refusal h parent child ≡ None
now_refusal op reg limits r top h parent child e stands used found waits none =
    register_refusal_is op reg limits r top h parent child Wait e stands used found (holds_waiter e.mode waits) ∙ ap (λ o. option_map refusal_of_add o) none

pub record JoinedNow {A : Type 0} (op : Operation A) (reg : Roster) (b : Board A) (h : History) : Type 0 where
  pub stands : StandsFor op (core_of reg b) h
  pub holds : IsCore op reg b

pub registers_now : {A : Type 0} (op : Operation A) (reg new_reg : Roster) (b new : Board A) (h : History) (parent child : ℕ) (e : Entry)
    → StandsFor op (core_of reg b) h → IsBoarded op reg.members b.ring b.limits.bound b.done b.top
    → entry_of reg.members parent ≡ Some e → register_now_refusal h parent child ≡ None
    → new_reg ≡ added child (entry_at Wait e.signal_phase b.done) reg
    → new.limits ≡ b.limits → new.done ≡ b.done → new.top ≡ b.top → sents new.ring ≡ sents b.ring
    → ((p : ℕ) → standing new.ring Waiter p ≡ standing b.ring Waiter p + one_if_same b.done p)
    → ((p : ℕ) → standing new.ring Signaller p ≡ standing b.ring Signaller p)
    → IsRingAt op new.ring new.limits.bound new.done new.top
    → JoinedNow op new_reg new (RegisteredNow parent child ∷ h)
registers_now {A} op reg new_reg b new h parent child e stands boarded found none reg_is limits_is done_is top_is same more others kept =
    let x = entry_at Wait e.signal_phase b.done in
    let want = added child x reg in
    let event = RegisteredNow parent child in
    let base : new.ring.base ≡ b.ring.base = ap (λ (r : Ring A). r.base) same in
    let now : IsBoarded op want.members new.ring new.limits.bound new.done new.top = record {
      kept = kept;
      done_at = ⊎_elim (λ at. inl (omega arith))
          (λ some. inr (let m = others b.done in
          let s : standing new.ring Signaller new.done ≡ standing new.ring Signaller b.done = ap (standing new.ring Signaller) done_is in
          omega arith)) boarded.done_at;
      base_at = (let m = more b.ring.base in
          let s : standing new.ring Waiter new.ring.base ≡ standing new.ring Waiter b.ring.base = ap (standing new.ring Waiter) base in
          let w = boarded.base_at in omega arith);
      signallers_are = λ p. (let m = others p in let t = boarded.signallers_are p in
          let c : count_of p (signal_phases want.members) ≡ count_of p (signal_phases reg.members) + 0 = counts-push Signaller p reg.members child x in omega arith);
      waiters_are = λ p. (let m = more p in let t = boarded.waiters_are p in
          let c : count_of p (wait_phases want.members) ≡ count_of p (wait_phases reg.members) + one_if_same b.done p = counts-push Waiter p reg.members child x in omega arith);
    } in
    let m : MayRegister h parent child Wait = registers_from h parent child Wait none in
    let high : greatest_used h < child = m.new_number in
    let found_h : entry_of (members_of h) parent ≡ Some e = (rw (← stands.members_are) found) in
    let d : b.done ≡ done_of h = done_of_boarded op reg b h stands boarded in
    let there : StandsFor op (core_with want b.limits new.ring b.top) (event ∷ h) = record {
      legal = (stands.legal, none);
      members_are = ap (λ ms. ms ++ member child x ∷ []) stands.members_are
          ∙ ap (λ (y : Entry). members_of h ++ member child (entry_at Wait y.signal_phase b.done) ∷ []) (sym (member_entry_is (members_of h) parent e found_h))
          ∙ ap (λ n. members_of h ++ member child (entry_at Wait (member_entry (members_of h) parent).signal_phase n) ∷ []) d;
      greatest_is = omega arith;
      top_is = stands.top_is;
      phases_are = λ slowest p waiter behind below.
          let at : Some slowest ≡ Some new.ring.base = sym waiter ∙ slowest_is op want.members new.ring new.limits.bound new.done new.top now in
          let s : slowest ≡ new.ring.base = same_Some _ _ at in
          let k = stands.phases_are b.ring.base p (slowest_is op reg.members b.ring b.limits.bound b.done b.top boarded) (omega arith) below in
          record {
            slot = k.slot;
            is_slot = same_slots reg b.limits new.ring b.ring b.top b.top p k.slot same k.is_slot want;
            keeps = record { part_is = k.keeps.part_is; count_is = k.keeps.count_is; named_is = k.keeps.named_is };
          };
    } in
    let core_is : core_of want new ≡ core_with want b.limits new.ring b.top =
    ap (λ l. core_with want l new.ring new.top) limits_is ∙ ap (λ t. core_with want b.limits new.ring t) top_is in
    let S : CoreState A → Type 0 = λ k. StandsFor op k (event ∷ h) in
    let stands_now : StandsFor op (core_of want new) (event ∷ h) = subst S (sym core_is) there in
    let J : Roster → Type 0 = λ r. JoinedNow op r new (event ∷ h) in
    subst J (sym reg_is) (record {
      stands = stands_now;
      holds = record { history = event ∷ h; stands = stands_now; boarded = inr now; used = refl };
    })
