-- A signal and a wait of the only member, at a phase that no signal has joined.
use Rattle.std.proofs.Common.{◌≡◌, ℕ, ℤ, ◌+◌, ◌<◌, eqb, leb, ltb, true, false, not, cond, List, [], ◌∷◌, ◌++◌, Option, Some, None, Ok, max, length, refl, sym, subst, ◌∙◌, ap, arith, inl, inr, ◌≤◌}
use Rattle.std.specs.Prelude.{unwrap_or, IfSome}
use Rattle.std.specs.Option.{option_and_then}
use Rattle.std.proofs.lemmas.Option.{same_Some}
use Rattle.std.proofs.lemmas.Bool.{eq-eqb, ne_eqb, eqb-true, le-leb, lt-leb, lt-ltb, le-ltb}
use Rattle.phase_base.specs.Limits.{Limits}
use Rattle.phase_base.specs.Modes.{mode_signals, mode_waits}
use Rattle.phase_base.specs.declared.entry.Entry.{Entry}
use Rattle.phase_base.specs.declared.limits.TheConstants.{SENDS_MAX}
use Rattle.phase_base.specs.Members.{Members, member, entry_of, changed_at, signal_phases, wait_phases, least, signalled, waited}
use Rattle.phase_base.specs.Lists.{first_row}
use Rattle.phase_registry.specs.Rosters.{Roster, roster}
use Rattle.phase_accum.specs.declared.outcome.Outcome.{Outcome}
use Rattle.phase_accum.specs.declared.single.Single.{Single}
use Rattle.phase_accum.specs.Singles.{CanBeNamed}
use Rattle.phase_accum.specs.Operations.{Operation, AccumulateLaws}
use Rattle.phase_accum.specs.Parcels.{Parcel, StandsForSends}
use Rattle.phase_accum.specs.Values.{applied}
use Rattle.phase_history.specs.declared.event.Event.TheVariants.{Signalled, Waited}
use Rattle.phase_history.specs.declared.got.Got.TheVariants as got
use Rattle.phase_history.specs.declared.refusal.WaitRefusal.TheVariants as wait
use Rattle.phase_history.specs.Histories.{History, members_of, top_of, done_of, signal_phase, wait_phase, positions_of}
use Rattle.phase_history.specs.Phases.{value_of_phase, sends_of_phase, single_of_phase, list_in_phase, is_among, first_named}
use Rattle.phase_history.specs.Refusals.{phase_rows, signal_refusal, wait_refusal, wait_rows, refusal_at}
use Rattle.phase_history.specs.Replies.{wait_reply, refused_or, got_at}
use Rattle.phase_history.specs.Legal.{IsLegal}
use Rattle.phase_history.proofs.Refused.{first_row_none}
use Rattle.phase_history.proofs.Steps.{member_entry_is}
use Rattle.phase_history.proofs.Standstill.{limits_of}
use Rattle.phase_ring.specs.declared.board.Board.{Board}
use Rattle.phase_ring.specs.declared.role.Role.TheVariants.{Signaller, Waiter}
use Rattle.phase_ring.specs.Rings.{slot_at}
use Rattle.phase_ring.specs.Standings.{one_if_same, count_of}
use Rattle.phase_ring.proofs.Slots.{slot_at-some}
use Rattle.phase_ring.specs.Boards.{IsBoard}
use Rattle.phase_ring.specs.Calls.{HasPassed, StandsAlone}
use Rattle.phase_core.specs.Cores.{StandsFor, IsBoarded, IsCore, core_of}
use Rattle.phase_core.specs.Blocks.{block_rows, count_at, named_at}
use Rattle.phase_core.specs.Passes.{Passes}
use Rattle.phase_core.proofs.Admitting.{Met, passed, admitted, replied}
use Rattle.phase_core.proofs.Boarded.{boarded_beside, slowest_is}
use Rattle.phase_core.proofs.CoreSteps.{none_from_top}
use Rattle.phase_core.proofs.LeastCounts.{one-same}
use Rattle.phase_core.proofs.Replies.{got_value}
use Rattle.phase_core.proofs.SignalSlots.{lists-are}

-- ---- one member

-- the only member is the task
pub only_member : (ms : Members) (task : ℕ) (e : Entry) → length ms ≡ 1 → entry_of ms task ≡ Some e → ms ≡ member task e ∷ []
only_member [] task e one found = absurd (cc)
only_member (m ∷ n ∷ ms) task e one found = absurd (omega arith)
only_member (m ∷ []) task e one found =
    elim (eqb m.task task) as (λ b. (eqb m.task task ≡ b) → (cond b (Some m.entry) None ≡ Some e) → (m ∷ []) ≡ (member task e ∷ [])) [
      | true ↦ λ t f.
          ap (λ n. member n m.entry ∷ []) (eqb-true m.task task t) ∙ ap (λ x. member task x ∷ []) (same_Some _ _ f)
      | false ↦ λ t f. absurd (cc)
    ] refl found

-- and stays it, with its entry changed
changed_one : (task : ℕ) (f : Entry → Entry) (e : Entry) → changed_at task f (member task e ∷ []) ≡ member task (f e) ∷ []
changed_one task f e = ap (λ b. cond b (member task (f e) ∷ []) (member task e ∷ [])) (eq-eqb task task refl)

signals_one : (task : ℕ) (e : Entry) → mode_signals e.mode ≡ true → signal_phases (member task e ∷ []) ≡ e.signal_phase ∷ []
signals_one task e signals = rw signals refl

waits_one : (task : ℕ) (e : Entry) → mode_waits e.mode ≡ true → wait_phases (member task e ∷ []) ≡ e.wait_phase ∷ []
waits_one task e waits = rw waits refl

-- ---- histories of one member, which signals and then waits

module _ (limits : Limits) (h : History) (task : ℕ) (e : Entry) (sends : List ℤ) (single : Option Single)
    (legal : IsLegal limits h) (only : members_of h ≡ member task e ∷ []) (signals : mode_signals e.mode ≡ true) (waits : mode_waits e.mode ≡ true)
    (level : e.wait_phase ≡ e.signal_phase) (fresh : top_of h ≡ e.signal_phase)
  where
    abbrev after : History
    after = Signalled task (sends ∷ []) single ∷ h

    at_phase : signal_phase h task ≡ e.signal_phase
    at_phase = ap (λ (x : Entry). x.signal_phase) (member_entry_is (members_of h) task e (ap (λ ms. entry_of ms task) only ∙ found))
      where
        found : entry_of (member task e ∷ []) task ≡ Some e
        found = ap (λ b. cond b (Some e) None) (eq-eqb task task refl)

    members_after : members_of after ≡ member task (signalled 1 e) ∷ []
    members_after = ap (λ ms. changed_at task (signalled 1) ms) only ∙ changed_one task (signalled 1) e

    top_after : top_of after ≡ e.signal_phase + 1
    top_after = ap (λ p. max (top_of h) (p + 1)) at_phase ∙ (let t = fresh in omega arith)

    done_after : done_of after ≡ e.signal_phase + 1
    done_after = ap (λ ms. unwrap_or (least (signal_phases ms)) (top_of after)) members_after
        ∙ ap (λ xs. unwrap_or (least xs) (top_of after)) (signals_one task (signalled 1 e) signals)

    entry_after : entry_of (members_of after) task ≡ Some (signalled 1 e)
    entry_after = ap (λ ms. entry_of ms task) members_after ∙ ap (λ b. cond b (Some (signalled 1 e)) None) (eq-eqb task task refl)

    not_refused : wait_refusal limits after task 1 ≡ None
    not_refused =
        let bound = (limits_of limits h legal).bound_least in
        let short : ltb limits.bound 1 ≡ false = le-ltb limits.bound 1 bound in
        let apart : eqb (e.signal_phase + 1) e.wait_phase ≡ false = ne_eqb (e.signal_phase + 1) e.wait_phase (λ q. omega arith) in
        let complete : leb (done_of after) e.wait_phase ≡ false = lt-leb (done_of after) e.wait_phase (let d = done_after in omega arith) in
        ap (λ o. refusal_at o wait.NoTask (wait_rows limits (positions_of after) 1)) entry_after
        ∙ first_row_none (wait_rows limits (positions_of after) 1 (signalled 1 e))
        (ap not waits, (short, (rw signals apart, (rw complete refl, tt))))

    sends_after : sends_of_phase after e.signal_phase ≡ sends
    sends_after =
        ap (λ xs. xs ++ list_in_phase (sends ∷ []) (signal_phase h task) e.signal_phase) (none_from_top limits h e.signal_phase legal (let t = fresh in omega arith)).0
        ∙ ap (λ p. list_in_phase (sends ∷ []) p e.signal_phase) at_phase
        ∙ ap (λ b. cond b sends []) (eq-eqb e.signal_phase e.signal_phase refl)

    among : is_among e.signal_phase 1 e.signal_phase ≡ true
    among = rw (le-leb e.signal_phase e.signal_phase (omega arith)) (lt-ltb e.signal_phase (e.signal_phase + 1) (omega arith))

    single_after : single_of_phase after e.signal_phase ≡ single
    single_after =
        ap (λ o. option_and_then (λ named. named) (first_named o (is_among (signal_phase h task) 1 e.signal_phase) single))
        (none_from_top limits h e.signal_phase legal (let t = fresh in omega arith)).1
        ∙ ap (λ p. option_and_then (λ named. named) (first_named None (is_among p 1 e.signal_phase) single)) at_phase
        ∙ ap (λ b. option_and_then (λ named. named) (first_named None b single)) among

    pub got_alone : {A : Type 0} (op : Operation A) → wait_reply op.value limits after task
        ≡ Ok (got.Value e.signal_phase (applied single (op.value sends)))
    got_alone op =
        let at : wait_phase after task ≡ e.wait_phase = ap (λ (x : Entry). x.wait_phase) (member_entry_is (members_of after) task (signalled 1 e) entry_after) in
        let value : value_of_phase op.value after e.signal_phase ≡ applied single (op.value sends) =
        ap (λ o. applied o (op.value (sends_of_phase after e.signal_phase))) single_after ∙ ap (λ xs. applied single (op.value xs)) sends_after in
        ap (λ o. refused_or o (got_at op.value after (wait_phase after task))) not_refused
        ∙ ap (λ p. Ok (got_at op.value after p)) (at ∙ level)
        ∙ ap (λ g. Ok g) (got_value op.value after e.signal_phase (let d = done_after in omega arith))
        ∙ ap (λ o. Ok (got.Value e.signal_phase o)) value

    pub legal_after : (signal_refusal limits h task (sends ∷ []) single ≡ None) → IsLegal limits after → IsLegal limits (Waited task 1 ∷ after)
    legal_after none accepted =
        let at : wait_phase after task ≡ e.wait_phase = ap (λ (x : Entry). x.wait_phase) (member_entry_is (members_of after) task (signalled 1 e) entry_after) in
        (accepted, (not_refused, (let d = done_after in omega arith)))

    pub members_both : members_of (Waited task 1 ∷ after) ≡ member task (waited 1 (signalled 1 e)) ∷ []
    members_both = ap (λ ms. changed_at task (waited 1) ms) members_after ∙ changed_one task (waited 1) (signalled 1 e)

    pub top_both : top_of (Waited task 1 ∷ after) ≡ e.signal_phase + 1
    top_both = top_after

-- ---- the core

-- the only member, which is not refused, at a phase that no signal has joined
pub record Alone {A : Type 0} (op : Operation A) (reg : Roster) (b : Board A) (task : ℕ) (e : Entry)
    (held : Parcel A) (single : Option Single) : Type 0 where
  pub met : Met op reg b task e (held ∷ []) single (least (wait_phases reg.members))
  pub few : held.count ≤ SENDS_MAX
  pub below : e.signal_phase < b.limits.phases_max
  pub one : length reg.members ≡ 1
  pub waits : mode_waits e.mode ≡ true
  pub level : e.wait_phase ≡ e.signal_phase
  pub fresh : b.top ≡ e.signal_phase

module _ {A : Type 0} {op : Operation A} {reg : Roster} {b : Board A} {task : ℕ} {e : Entry} {held : Parcel A} {single : Option Single}
    (a : Alone op reg b task e held single)
  where
    pub only : reg.members ≡ member task e ∷ []
    only = only_member reg.members task e a.one a.met.found

    pub boarded : IsBoarded op reg.members b.ring b.limits.bound b.done b.top
    boarded = boarded_beside task a.met.core a.met.found a.waits

    pub base_is : b.ring.base ≡ e.signal_phase
    base_is = same_Some _ _ (sym (slowest_is op reg.members b.ring b.limits.bound b.done b.top boarded)
        ∙ ap (λ ms. least (wait_phases ms)) only ∙ ap least (waits_one task e a.waits)) ∙ a.level

    -- nothing refuses its signal in a phase that no signal has joined
    pub row : first_row (block_rows b.limits (least (wait_phases reg.members)) b.ring (held ∷ []) single e) ≡ None
    row =
        let bound = (limits_of b.limits a.met.core.history a.met.core.stands.legal).bound_least in
        let k = boarded.kept in
        let long = k.long in
        let level = a.level in
        let base = base_is in
        let slot = slot_at-some b.ring e.signal_phase (record { low = omega arith; high = omega arith }) in
        let unused = k.unused e.signal_phase slot.0 (omega arith) slot.1 (let f = a.fresh in omega arith) in
        let slowest : least (wait_phases reg.members) ≡ Some e.signal_phase =
        slowest_is op reg.members b.ring b.limits.bound b.done b.top boarded ∙ ap Some base in
        let count : count_at (slot_at b.ring e.signal_phase) ≡ 0 = ap count_at slot.1 ∙ unused.count_is in
        let named : named_at (slot_at b.ring e.signal_phase) ≡ None = ap named_at slot.1 ∙ unused.named_is in
        let few = a.few in
        ap (λ o. first_row (block_rows b.limits o b.ring (held ∷ []) single e)) slowest
        ∙ ap (λ n. first_row (phase_rows b.limits (Some e.signal_phase) n (named_at (slot_at b.ring e.signal_phase)) held.count single e ++ [])) count
        ∙ ap (λ o. first_row (phase_rows b.limits (Some e.signal_phase) 0 o held.count single e ++ [])) named
        ∙ first_row_none (phase_rows b.limits (Some e.signal_phase) 0 None held.count single e ++ []) (
          rw a.waits (ne_eqb e.signal_phase (e.wait_phase + 1) (λ q. omega arith)),
          (
            lt-leb b.limits.phases_max e.signal_phase a.below,
            (
              lt-leb (e.signal_phase + b.limits.bound) e.signal_phase (omega arith),
              (refl, (le-ltb SENDS_MAX (0 + held.count) (omega arith), tt)),
            ),
          ),
        )

    pub stands_alone : StandsAlone b.ring.base b
    stands_alone Signaller p = boarded.signallers_are p ∙ ap (λ ms. count_of p (signal_phases ms)) only
        ∙ ap (count_of p) (signals_one task e (passed a.met).signals) ∙ ap (λ q. one_if_same q p + 0) (sym base_is) ∙ (omega arith)
    stands_alone Waiter p = boarded.waiters_are p ∙ ap (λ ms. count_of p (wait_phases ms)) only
        ∙ ap (count_of p) (waits_one task e a.waits) ∙ ap (λ q. one_if_same q p + 0) (a.level ∙ sym base_is) ∙ (omega arith)

    module _ (laws : AccumulateLaws op) (can : CanBeNamed single) (mid new_reg : Roster) (new : Board A) (outcome : Outcome)
        (mid_is : mid ≡ roster (changed_at task (signalled 1) reg.members) reg.greatest)
        (reg_is : new_reg ≡ roster (changed_at task (waited 1) mid.members) mid.greatest)
        (value : outcome ≡ applied single (op.finish held.part)) (moved : HasPassed b new)
      where
        new_members : new_reg.members ≡ member task (waited 1 (signalled 1 e)) ∷ []
        new_members = ap (λ (r : Roster). r.members) reg_is ∙ ap (λ (r : Roster). changed_at task (waited 1) r.members) mid_is
            ∙ ap (λ ms. changed_at task (waited 1) (changed_at task (signalled 1) ms)) only
            ∙ ap (λ ms. changed_at task (waited 1) ms) (changed_one task (signalled 1) e) ∙ changed_one task (waited 1) (signalled 1 e)

        same_greatest : new_reg.greatest ≡ reg.greatest
        same_greatest = ap (λ (r : Roster). r.greatest) reg_is ∙ ap (λ (r : Roster). r.greatest) mid_is

        pub passes : (h : History) (sends : List ℤ) → StandsFor op (core_of reg b) h → StandsForSends op held sends
            → Passes op (core_of reg b) (core_of new_reg new) task sends single h (e.signal_phase, outcome)
        passes h sends stands holds =
            let here : members_of h ≡ member task e ∷ [] = sym stands.members_are ∙ only in
            let fresh : top_of h ≡ e.signal_phase = sym stands.top_is ∙ a.fresh in
            let signals = (passed a.met).signals in
            let none = admitted a.met row h (sends ∷ []) stands (holds, tt) in
            let accepted : IsLegal b.limits (Signalled task (sends ∷ []) single ∷ h) =
            (stands.legal, (none, lists-are op (held ∷ []) (sends ∷ []) (holds, tt), can)) in
            let legal = legal_after b.limits h task e sends single stands.legal here signals a.waits a.level fresh none accepted in
            let members = members_both b.limits h task e sends single stands.legal here signals a.waits a.level fresh in
            let top = top_both b.limits h task e sends single stands.legal here signals a.waits a.level fresh in
            let L : Limits → Type 0 = λ l. IsLegal l (Waited task 1 ∷ Signalled task (sends ∷ []) single ∷ h) in
            let new_top : new.top ≡ e.signal_phase + 1 = moved.top ∙ moved.base ∙ ap (λ p. p + 1) base_is in
            record {
              signals = replied a.met row h (sends ∷ []) stands (holds, tt);
              waits = got_alone b.limits h task e sends single stands.legal here signals a.waits a.level fresh op
                  ∙ ap (λ o. Ok (got.Value e.signal_phase (applied single o))) (sym (laws.finishes held.part sends holds.part_is))
                  ∙ ap (λ o. Ok (got.Value e.signal_phase o)) (sym value);
              stands = record {
                legal = subst L (sym moved.limits) legal;
                members_are = new_members ∙ sym members;
                greatest_is = ap (λ o. unwrap_or o 0) same_greatest ∙ stands.greatest_is;
                top_is = new_top ∙ sym top;
                phases_are = λ slowest p waiter behind below.
                    let at : e.wait_phase + 1 ≡ slowest = same_Some _ _ (sym (ap (λ ms. least (wait_phases ms)) new_members
                    ∙ ap least (waits_one task (waited 1 (signalled 1 e)) a.waits)) ∙ waiter) in
                    let level = a.level in absurd (omega arith);
              };
            }

        pub core_passed : (sends : List ℤ) → StandsForSends op held sends → IsBoard op new → StandsAlone new.ring.base new → IsCore op new_reg new
        core_passed sends holds kept alone =
            let base : new.ring.base ≡ e.signal_phase + 1 = moved.base ∙ ap (λ p. p + 1) base_is in
            let signals = (passed a.met).signals in
            record {
              history = Waited task 1 ∷ Signalled task (sends ∷ []) single ∷ a.met.core.history;
              stands = (passes a.met.core.history sends a.met.core.stands holds).stands;
              boarded = inr (record {
                kept = kept;
                done_at = inl (moved.done ∙ sym moved.top);
                base_at = (let s = alone Waiter new.ring.base in let one = one-same new.ring.base in omega arith);
                signallers_are = λ p. alone Signaller p ∙ ap (λ q. one_if_same q p) base
                    ∙ sym (ap (λ ms. count_of p (signal_phases ms)) new_members
                    ∙ ap (count_of p) (signals_one task (waited 1 (signalled 1 e)) signals) ∙ (omega arith));
                waiters_are = λ p. alone Waiter p ∙ ap (λ q. one_if_same q p) (base ∙ ap (λ q. q + 1) (sym a.level))
                    ∙ sym (ap (λ ms. count_of p (wait_phases ms)) new_members
                    ∙ ap (count_of p) (waits_one task (waited 1 (signalled 1 e)) a.waits) ∙ (omega arith));
              });
              used = rw same_greatest a.met.core.used;
            }

pub wait_below : (o : Option Entry) (e : Entry) (n : ℕ) → o ≡ Some e → e.wait_phase + n < 18446744073709551616
    → IfSome o (λ entry. entry.wait_phase + n < 18446744073709551616)
wait_below None e n found below = absurd (cc)
wait_below (Some x) e n found below = let s : x.wait_phase ≡ e.wait_phase = ap (λ (y : Entry). y.wait_phase) (same_Some _ _ found) in omega arith

-- there is none, since each would be one too many
pub none_since : {X : Type 0} (o : Option X) → ((x : X) → o ≡ Some x → ⊥) → o ≡ None
none_since None never = refl
none_since (Some x) never = absurd (never x refl)
