-- What a signal leaves of a core over a registry and a board.
use Rattle.std.proofs.Common.{◌≡◌, ℕ, ℤ, ◌+◌, ◌<◌, ◌≤◌, ◌⊎◌, true, List, [], ◌∷◌, ◌++◌, Option, Some, None, max, length, refl, sym, ◌∙◌, ap, subst, arith, ⊎_elim}
use Rattle.std.specs.Prelude.{IfSome, IsSome}
use Rattle.std.proofs.lemmas.List.{length-set}
use Rattle.std.proofs.lemmas.Option.{same_Some}
use Rattle.std.proofs.lemmas.Bool.{cases_lt}
use Rattle.phase_base.specs.Limits.{Limits}
use Rattle.phase_base.specs.Modes.{mode_signals}
use Rattle.phase_base.specs.declared.limits.TheConstants.{MEMBERS_MAX}
use Rattle.phase_base.specs.declared.entry.Entry.{Entry}
use Rattle.phase_base.specs.Members.{Members, entry_of, changed_at, signal_phases, wait_phases, least, signalled}
use Rattle.phase_accum.specs.declared.single.Single.{Single}
use Rattle.phase_accum.specs.Singles.{CanBeNamed}
use Rattle.phase_accum.specs.Operations.{Operation, AccumulateLaws, IsPartOf}
use Rattle.phase_accum.specs.Parcels.{Parcel}
use Rattle.phase_history.specs.declared.event.Event.TheVariants.{Signalled}
use Rattle.phase_history.specs.Histories.{History, members_of, top_of, signal_phase}
use Rattle.phase_history.specs.Phases.{sends_of_phase, named_in_phase, list_in_phase, first_named, is_among}
use Rattle.phase_history.specs.Refusals.{signal_refusal}
use Rattle.phase_history.proofs.MemberLemmas.{wait_phases-signalled}
use Rattle.phase_registry.specs.Rosters.{Roster, roster}
use Rattle.phase_ring.specs.declared.board.Board.{Board}
use Rattle.phase_ring.specs.Slots.{Slot}
use Rattle.phase_ring.specs.declared.role.Role.TheVariants.{Signaller, Waiter}
use Rattle.phase_ring.specs.Rings.{Ring, IsWithin, slot_at, standing, sents}
use Rattle.phase_ring.specs.Standings.{one_if_same, count_of}
use Rattle.phase_ring.specs.Boards.{IsRingAt}
use Rattle.phase_ring.specs.Blocks.{joined_in, block_joined, BlockFits}
use Rattle.phase_ring.proofs.Slots.{slot_at-some}
use Rattle.phase_core.specs.Cores.{CoreState, StandsFor, IsBoarded, sent_of, core_with, core_of}
use Rattle.phase_core.specs.Blocks.{StandForLists}
use Rattle.phase_core.proofs.Boarded.{slowest_is}
use Rattle.phase_core.proofs.LeastCounts.{signallers-signalled, two_counts, signal_phases-few, signaller-counted}
use Rattle.phase_core.proofs.Replies.{signal_phase_is}
use Rattle.phase_core.proofs.RingSlots.{slot_of, same_slots, slot_keeps}
use Rattle.phase_core.proofs.SignalSlots.{keeps-block, lists-are, lists-length}

-- ---- the ring keeps its shape

record SameShape {A : Type 0} (one other : Ring A) : Type 0 where
  base : one.base ≡ other.base
  long : length one.slots ≡ length other.slots

joined-shape : {A : Type 0} (op : Operation A) (q : ℕ) (x : Parcel A) (single : Option Single) (r : Ring A) (o : Option (Slot A)) → SameShape (joined_in op q x single r o) r
joined-shape op q x single r None = record { base = refl; long = refl }
joined-shape op q x single r (Some slot) = record { base = refl; long = length-set _ _ _ }

block-shape : {A : Type 0} (op : Operation A) (q : ℕ) (held : List (Parcel A)) (single : Option Single) (r : Ring A) → SameShape (block_joined op q held single r) r
block-shape op q [] single r = record { base = refl; long = refl }
block-shape op q (x ∷ held) single r =
    let one = joined-shape op q x single r (slot_at r q) in
    let rest = block-shape op (q + 1) held single (joined_in op q x single r (slot_at r q)) in
    record { base = rest.base ∙ one.base; long = rest.long ∙ one.long }

-- ---- where a waiter is registered

pub signal_stands : {A : Type 0} (op : Operation A) (laws : AccumulateLaws op) (reg new_reg : Roster) (b new : Board A) (h : History)
    (task : ℕ) (e : Entry) (held : List (Parcel A)) (lists : List (List ℤ)) (single : Option Single)
    → StandsFor op (core_of reg b) h → IsBoarded op reg.members b.ring b.limits.bound b.done b.top
    → entry_of reg.members task ≡ Some e → b.ring.base ≤ e.signal_phase → e.signal_phase + length held ≤ b.ring.base + b.limits.bound
    → signal_refusal b.limits h task lists single ≡ None → StandForLists op held lists → CanBeNamed single → BlockFits b.ring e.signal_phase held single
    → new_reg ≡ roster (changed_at task (signalled (length held)) reg.members) reg.greatest
    → new.limits ≡ b.limits → new.top ≡ max b.top (e.signal_phase + length held)
    → sents new.ring ≡ sents (block_joined op e.signal_phase held single b.ring)
    → StandsFor op (core_of new_reg new) (Signalled task lists single ∷ h)
signal_stands {A} op laws reg new_reg b new h task e held lists single stands boarded found low near none holds can fits reg_is limits_is top_is slots =
    let n = length held in
    let s = e.signal_phase in
    let want = roster (changed_at task (signalled n) reg.members) reg.greatest in
    let top = max b.top (s + n) in
    let event = Signalled task lists single in
    let len : length lists ≡ n = lists-length op held lists holds in
    let at_phase : signal_phase h task ≡ s = signal_phase_is op (core_of reg b) h task e stands found in
    let mid : Ring A = block_joined op s held single b.ring in
    let shape = block-shape op s held single b.ring in
    let base_is = shape.base in
    let long_is = shape.long in
    let long = boarded.kept.long in
    let up = boarded.kept.top_bound in
    let keeps = keeps-block op laws b.ring s held lists single (sends_of_phase h) (named_in_phase h)
    (λ p slot low found. let k = slot_keeps op reg b.limits b.ring b.done b.top p h slot stands boarded low found in
    record { part_is = k.part_is; count_is = k.count_is; named_is = k.named_is }) low (omega arith) holds fits in
    let there : StandsFor op (core_with want b.limits new.ring top) (event ∷ h) = record {
      legal = (stands.legal, (none, lists-are op held lists holds, can));
      members_are = ap (λ ms. changed_at task (signalled n) ms) stands.members_are ∙ ap (λ k. changed_at task (signalled k) (members_of h)) (sym len);
      greatest_is = stands.greatest_is;
      top_is = ap (λ t. max t (s + n)) stands.top_is ∙ ap (λ k. max (top_of h) (s + k)) (sym len) ∙ ap (λ p. max (top_of h) (p + length lists)) (sym at_phase);
      phases_are = λ slowest p waiter behind below.
          let old_waiter : least (wait_phases reg.members) ≡ Some slowest = sym (ap least (wait_phases-signalled reg.members task n)) ∙ waiter in
          let base : b.ring.base ≡ slowest = same_Some _ _ (sym (slowest_is op reg.members b.ring b.limits.bound b.done b.top boarded) ∙ old_waiter) in
          let w : IsWithin mid p = record { low = omega arith; high = omega arith } in
          let slot = slot_at-some mid p w in
          let x = keeps p slot.0 w.low slot.1 in
          let S : ℕ → Type 0 = λ q. IsPartOf op slot.0.part (sends_of_phase h p ++ list_in_phase lists q p) in
          record {
            slot = sent_of slot.0;
            is_slot = same_slots reg b.limits new.ring mid top top p (sent_of slot.0) slots (slot_of reg b.limits mid top p slot.0 w.low slot.1) want;
            keeps = record {
              part_is = subst S (sym at_phase) x.part_is;
              count_is = x.count_is ∙ ap (λ q. length (sends_of_phase h p ++ list_in_phase lists q p)) (sym at_phase);
              named_is = x.named_is ∙ ap (λ q. first_named (named_in_phase h p) (is_among q (length lists) p) single) (sym at_phase);
            };
          };
    } in
    let core_is : core_of new_reg new ≡ core_with want b.limits new.ring top =
    ap (λ r. core_with r new.limits new.ring new.top) reg_is ∙ ap (λ l. core_with want l new.ring new.top) limits_is
    ∙ ap (λ t. core_with want b.limits new.ring t) top_is in
    subst (λ (k : CoreState A). StandsFor op k (event ∷ h)) (sym core_is) there

pub block_boarded : {A : Type 0} (op : Operation A) (reg new_reg : Roster) (b new : Board A) (task n : ℕ) (e : Entry)
    → IsBoarded op reg.members b.ring b.limits.bound b.done b.top
    → entry_of reg.members task ≡ Some e → mode_signals e.mode ≡ true
    → new_reg ≡ roster (changed_at task (signalled n) reg.members) reg.greatest
    → new.ring.base ≡ b.ring.base
    → ((p : ℕ) → standing new.ring Signaller p + one_if_same e.signal_phase p ≡ standing b.ring Signaller p + one_if_same (e.signal_phase + n) p)
    → ((p : ℕ) → standing new.ring Waiter p ≡ standing b.ring Waiter p)
    → IsRingAt op new.ring new.limits.bound new.done new.top
    → (new.done ≡ new.top) ⊎ (0 < standing new.ring Signaller new.done)
    → IsBoarded op new_reg.members new.ring new.limits.bound new.done new.top
block_boarded {A} op reg new_reg b new task n e boarded found signals reg_is base moved others kept stops =
    let members : new_reg.members ≡ changed_at task (signalled n) reg.members = ap (λ (r : Roster). r.members) reg_is in
    record {
      kept = kept;
      done_at = stops;
      base_at = (let o = others new.ring.base in let same : standing b.ring Waiter new.ring.base ≡ standing b.ring Waiter b.ring.base = ap (standing b.ring Waiter) base in
          let w = boarded.base_at in omega arith);
      signallers_are = λ p.
          let m = moved p in
          let t = boarded.signallers_are p in
          let c = signallers-signalled reg.members task p n e found signals in
          let k : count_of p (signal_phases new_reg.members) ≡ count_of p (signal_phases (changed_at task (signalled n) reg.members)) =
          ap (λ ms. count_of p (signal_phases ms)) members in
          omega arith;
      waiters_are = λ p. others p ∙ boarded.waiters_are p
          ∙ sym (ap (λ ms. count_of p (wait_phases ms)) members ∙ ap (count_of p) (wait_phases-signalled reg.members task n));
    }

-- ---- where none is

block_alone : {A : Type 0} (op : Operation A) (reg new_reg : Roster) (limits : Limits) (r : Ring A) (top new_top : ℕ) (h : History)
    (task : ℕ) (e : Entry) (held : List (Parcel A)) (lists : List (List ℤ)) (single : Option Single)
    → StandsFor op (core_with reg limits r top) h → wait_phases reg.members ≡ [] → entry_of reg.members task ≡ Some e
    → signal_refusal limits h task lists single ≡ None → StandForLists op held lists → CanBeNamed single
    → new_reg ≡ roster (changed_at task (signalled (length held)) reg.members) reg.greatest → new_top ≡ max top (e.signal_phase + length held)
    → StandsFor op (core_with new_reg limits r new_top) (Signalled task lists single ∷ h)
block_alone {A} op reg new_reg limits r top new_top h task e held lists single stands alone found none holds can reg_is top_is =
    let n = length held in
    let s = e.signal_phase in
    let want = roster (changed_at task (signalled n) reg.members) reg.greatest in
    let len : length lists ≡ n = lists-length op held lists holds in
    let at_phase : signal_phase h task ≡ s = signal_phase_is op (core_with reg limits r top) h task e stands found in
    let none_waits : wait_phases want.members ≡ [] = wait_phases-signalled reg.members task n ∙ alone in
    let there : StandsFor op (core_with want limits r (max top (s + n))) (Signalled task lists single ∷ h) = record {
      legal = (stands.legal, (none, lists-are op held lists holds, can));
      members_are = ap (λ ms. changed_at task (signalled n) ms) stands.members_are ∙ ap (λ k. changed_at task (signalled k) (members_of h)) (sym len);
      greatest_is = stands.greatest_is;
      top_is = ap (λ t. max t (s + n)) stands.top_is ∙ ap (λ k. max (top_of h) (s + k)) (sym len) ∙ ap (λ p. max (top_of h) (p + length lists)) (sym at_phase);
      phases_are = λ slowest p waiter behind below. absurd (none_least slowest (sym (ap least none_waits) ∙ waiter));
    } in
    rw top_is (rw reg_is there)
  where
    none_least : (n : ℕ) → least [] ≡ Some n → ⊥
    none_least n e = absurd (cc)

-- the same on a board of which the top alone was raised
pub block_alone_on : {A : Type 0} (op : Operation A) (reg new_reg : Roster) (b new : Board A) (h : History)
    (task : ℕ) (e : Entry) (held : List (Parcel A)) (lists : List (List ℤ)) (single : Option Single)
    → StandsFor op (core_of reg b) h → wait_phases reg.members ≡ [] → entry_of reg.members task ≡ Some e
    → signal_refusal b.limits h task lists single ≡ None → StandForLists op held lists → CanBeNamed single
    → new_reg ≡ roster (changed_at task (signalled (length held)) reg.members) reg.greatest
    → new.limits ≡ b.limits → new.ring ≡ b.ring → new.top ≡ max b.top (e.signal_phase + length held)
    → StandsFor op (core_of new_reg new) (Signalled task lists single ∷ h)
block_alone_on {A} op reg new_reg b new h task e held lists single stands alone found none holds can reg_is limits_is ring_is top_is =
    let core_is : core_of new_reg new ≡ core_with new_reg b.limits b.ring new.top =
    ap (λ l. core_with new_reg l new.ring new.top) limits_is ∙ ap (λ r. core_with new_reg b.limits r new.top) ring_is in
    rw core_is (block_alone op reg new_reg b.limits b.ring b.top new.top h task e held lists single
    stands alone found none holds can reg_is top_is)

pub waits_none_block : (reg new_reg : Roster) (task n : ℕ) → wait_phases reg.members ≡ []
    → new_reg ≡ roster (changed_at task (signalled n) reg.members) reg.greatest → wait_phases new_reg.members ≡ []
waits_none_block reg new_reg task n alone reg_is =
    ap (λ (x : Roster). wait_phases x.members) reg_is ∙ wait_phases-signalled reg.members task n ∙ alone

pub block_below : (o : Option Entry) (e : Entry) (n : ℕ) → o ≡ Some e → e.signal_phase + n < 18446744073709551616
    → IfSome o (λ entry. entry.signal_phase + n < 18446744073709551616)
block_below None e n found below = absurd (cc)
block_below (Some x) e n found below = let s : x.signal_phase ≡ e.signal_phase = ap (λ (y : Entry). y.signal_phase) (same_Some _ _ found) in omega arith

-- ---- what the board asks

pub record BlockStands {A : Type 0} (r : Ring A) (done : ℕ) (e : Entry) (n : ℕ) : Type 0 where
  pub low : done ≤ e.signal_phase
  pub stands : 0 < standing r Signaller e.signal_phase
  pub few : standing r Signaller (e.signal_phase + n) < MEMBERS_MAX

pub block_ready : {A : Type 0} (op : Operation A) (ms : Members) (r : Ring A) (bound done top task n : ℕ) (e : Entry)
    → IsBoarded op ms r bound done top → entry_of ms task ≡ Some e → length ms ≤ MEMBERS_MAX → mode_signals e.mode ≡ true → 0 < n → BlockStands r done e n
block_ready op ms r bound done top task n e b found few signals some =
    let at = signaller-counted ms task e found signals in
    let here = b.signallers_are e.signal_phase in
    let next = b.signallers_are (e.signal_phase + n) in
    let two = two_counts (signal_phases ms) e.signal_phase (e.signal_phase + n) (λ q. omega arith) in
    let most = signal_phases-few ms in
    record {
      low = ⊎_elim (λ under. absurd (let z = b.kept.signals_low e.signal_phase under in omega arith)) (λ x. x) (cases_lt e.signal_phase done);
      stands = omega arith;
      few = omega arith;
    }

-- ---- where a waiter is registered

-- ---- where none is

pub used_after : (reg new_reg : Roster) (ms : Members) → IsSome reg.greatest → new_reg ≡ roster ms reg.greatest → IsSome new_reg.greatest
used_after reg new_reg ms used reg_is =
    rw reg_is used
