-- The refusal of a signal, and what is known of one that is accepted.
use Rattle.std.proofs.Common.{◌≡◌, ℕ, ℤ, ◌+◌, ◌<◌, ◌≤◌, ◌⊎◌, Bool, true, false, not, eqb, ltb, List, [], Option, Some, None, length, refl, sym, ◌∙◌, ap, arith, ⊎_elim, inl, inr}
use Rattle.std.specs.Prelude.{IsSome}
use Rattle.std.proofs.lemmas.Bool.{ltb-false, eqb-false, or_parts}
use Rattle.phase_base.specs.Limits.{Limits}
use Rattle.phase_base.specs.Modes.{mode_signals}
use Rattle.phase_base.specs.declared.entry.Entry.{Entry}
use Rattle.phase_base.specs.declared.limits.TheConstants.{MEMBERS_MAX}
use Rattle.phase_base.specs.Members.{member, entry_of, wait_phases, least}
use Rattle.phase_accum.specs.declared.single.Single.{Single}
use Rattle.phase_accum.specs.Operations.{Operation}
use Rattle.phase_accum.specs.Parcels.{Parcel}
use Rattle.phase_history.specs.declared.refusal.SignalRefusal.{SignalRefusal}
use Rattle.phase_history.specs.declared.refusal.SignalRefusal.TheVariants as signal
use Rattle.phase_history.specs.Histories.{History, members_of, top_of, done_of, greatest_used}
use Rattle.phase_history.specs.Refusals.{signal_rows, signal_rows_before, list_rows, signal_refusal, refusal_at}
use Rattle.phase_base.specs.Lists.{first_row}
use Rattle.phase_history.proofs.Refused.{no_row}
use Rattle.phase_history.proofs.Tops.{top_within}
use Rattle.phase_history.proofs.MemberLemmas.{Each-entry}
use Rattle.phase_history.proofs.Steps.{StandsWell, IsSound, sound_of}
use Rattle.phase_history.proofs.Standstill.{limits_of}
use Rattle.phase_registry.specs.Rosters.{Roster}
use Rattle.phase_ring.specs.declared.board.Board.{Board}
use Rattle.phase_ring.specs.Blocks.{BlockFits}
use Rattle.phase_core.specs.Cores.{CoreState, StandsFor, IsBoarded, core_of}
use Rattle.phase_core.specs.Blocks.{StandForLists, block_rows, IsOpen}
use Rattle.phase_core.proofs.Boarded.{boarded_of, slowest_is}
use Rattle.phase_core.proofs.SignalRows.{first_or, first_row-append, rows_same, rows_same_alone, block_near, block_fits}
use Rattle.phase_core.proofs.SignalSlots.{lists-length}
use Rattle.phase_core.proofs.SignalCore.{BlockStands, block_ready}

-- the rows before the phases', and then those
before_split : (limits : Limits) (n : ℕ) (single : Option Single) (e : Entry) (rows : List (Bool × SignalRefusal))
    → first_row (signal_rows_before limits n single e rows) ≡ first_or (first_row (signal_rows_before limits n single e [])) (first_row rows)
before_split limits n single e rows = first_row-append (signal_rows_before limits n single e []) rows

-- what a block knows whose first rows do not apply
pub record BlockPassed (limits : Limits) (n : ℕ) (e : Entry) : Type 0 where
  pub signals : mode_signals e.mode ≡ true
  pub some : 0 < n
  pub few : n ≤ limits.bound

pub block_passed : (limits : Limits) (n : ℕ) (single : Option Single) (e : Entry) → None ≡ first_row (signal_rows_before limits n single e []) → BlockPassed limits n e
block_passed limits n single e row =
    let p = no_row (signal_rows_before limits n single e []) (sym row) in
    let bad = or_parts (eqb n 0) (ltb limits.bound n) p.1.1.0 in
    let no_zero : n ≡ 0 → ⊥ = eqb-false n 0 bad.0 in
    record { signals = not_false (mode_signals e.mode) p.0; some = omega arith; few = ltb-false limits.bound n bad.1 }
  where
    not_false : (b : Bool) → not b ≡ false → b ≡ true
    not_false true e = refl
    not_false false e = absurd (cc)

-- the refusal of a block of a member
refusal_is : {A : Type 0} (op : Operation A) (core : CoreState A) (h : History) (task : ℕ) (e : Entry) (held : List (Parcel A)) (sends : List (List ℤ)) (single : Option Single) (n : ℕ)
    → StandsFor op core h → entry_of core.members task ≡ Some e → StandForLists op held sends → n ≡ length held
    → signal_refusal core.limits h task sends single
    ≡ first_or (first_row (signal_rows_before core.limits n single e [])) (first_row (list_rows core.limits h sends single e))
refusal_is op core h task e held sends single n stands found holds count =
    let found_h : entry_of (members_of h) task ≡ Some e = (rw (← stands.members_are) found) in
    let len : length sends ≡ n = lists-length op held sends holds ∙ sym count in
    ap (λ o. refusal_at o signal.NoTask (signal_rows core.limits h sends single)) found_h
    ∙ ap (λ k. first_row (signal_rows_before core.limits k single e (list_rows core.limits h sends single e))) len
    ∙ before_split core.limits n single e (list_rows core.limits h sends single e)

pub block_refused_first : {A : Type 0} (op : Operation A) (core : CoreState A) (h : History) (task : ℕ) (e : Entry) (held : List (Parcel A)) (sends : List (List ℤ)) (single : Option Single) (n : ℕ)
    (r : SignalRefusal) → StandsFor op core h → entry_of core.members task ≡ Some e → StandForLists op held sends → n ≡ length held
    → Some r ≡ first_row (signal_rows_before core.limits n single e []) → signal_refusal core.limits h task sends single ≡ Some r
block_refused_first op core h task e held sends single n r stands found holds count row =
    refusal_is op core h task e held sends single n stands found holds count
    ∙ ap (λ o. first_or o (first_row (list_rows core.limits h sends single e))) (sym row)

pub block_refusal_is : {A : Type 0} (op : Operation A) (reg : Roster) (b : Board A) (h : History) (task : ℕ) (e : Entry) (held : List (Parcel A)) (sends : List (List ℤ)) (single : Option Single)
    (n : ℕ) (slowest : Option ℕ)
    → (wait_phases reg.members ≡ []) ⊎ IsBoarded op reg.members b.ring b.limits.bound b.done b.top → slowest ≡ least (wait_phases reg.members)
    → StandsFor op (core_of reg b) h → entry_of reg.members task ≡ Some e → length reg.members ≤ MEMBERS_MAX → StandForLists op held sends → n ≡ length held
    → None ≡ first_row (signal_rows_before b.limits n single e [])
    → signal_refusal b.limits h task sends single ≡ first_row (block_rows b.limits slowest b.ring held single e)
block_refusal_is {A} op reg b h task e held sends single n slowest either slow stands found few holds count row =
    let p = block_passed b.limits n single e row in
    let same : least (wait_phases reg.members) ≡ least (wait_phases (members_of h)) = ap (λ ms. least (wait_phases ms)) stands.members_are in
    refusal_is op (core_of reg b) h task e held sends single n stands found holds count
    ∙ ap (λ o. first_or o (first_row (list_rows b.limits h sends single e))) (sym row)
    ∙ ⊎_elim
    (λ alone.
    let none : least (wait_phases reg.members) ≡ None = ap least alone in
    ap first_row (rows_same_alone op b.limits b.ring h held sends single e holds (sym same ∙ none))
    ∙ ap (λ o. first_row (block_rows b.limits o b.ring held single e)) (sym (slow ∙ none)))
    (λ boarded.
    let at = slowest_is op reg.members b.ring b.limits.bound b.done b.top boarded in
    let ready = block_ready op reg.members b.ring b.limits.bound b.done b.top task 1 e boarded found few p.signals (omega arith) in
    let low = ready.low in
    let base = boarded.kept.base_done in
    ap first_row (rows_same op reg b.limits b.ring b.done b.top h held sends single e stands boarded (omega arith) (sym same ∙ at) holds)
    ∙ ap (λ o. first_row (block_rows b.limits o b.ring held single e)) (sym (slow ∙ at)))
    either

-- what the look at the phases asks
pub opened_of : {A : Type 0} (op : Operation A) (reg : Roster) (b : Board A) (task : ℕ) (e : Entry) (slowest : Option ℕ)
    → (wait_phases reg.members ≡ []) ⊎ IsBoarded op reg.members b.ring b.limits.bound b.done b.top → slowest ≡ least (wait_phases reg.members)
    → entry_of reg.members task ≡ Some e → length reg.members ≤ MEMBERS_MAX → mode_signals e.mode ≡ true → IsSome slowest
    → IsOpen op b.ring b.limits.bound b.done b.top slowest e.signal_phase
opened_of op reg b task e slowest (inl alone) slow found few signals some =
    absurd (no_some slowest (slow ∙ ap least alone) some)
  where
    no_some : (o : Option ℕ) → o ≡ None → IsSome o → ⊥
    no_some None none some = absurd (cc)
    no_some (Some x) none some = absurd (cc)
opened_of op reg b task e slowest (inr boarded) slow found few signals some =
    let ready = block_ready op reg.members b.ring b.limits.bound b.done b.top task 1 e boarded found few signals (omega arith) in
    record {
      kept = boarded.kept;
      slowest_is = slow ∙ slowest_is op reg.members b.ring b.limits.bound b.done b.top boarded;
      low = ready.low;
    }

pub block_far_off : {A : Type 0} (op : Operation A) (core : CoreState A) (h : History) (task n : ℕ) (e : Entry)
    → StandsFor op core h → entry_of core.members task ≡ Some e → n ≤ core.limits.bound → e.signal_phase + n ≤ 9223372036854775808
block_far_off op core h task n e stands found few =
    let found_h : entry_of (members_of h) task ≡ Some e = (rw (← stands.members_are) found) in
    let sound : IsSound h = sound_of core.limits h stands.legal in
    let good : StandsWell (done_of h) (top_of h) (greatest_used h) (member task e) = Each-entry _ (members_of h) task e found_h sound in
    let limits = limits_of core.limits h stands.legal in
    let top = top_within core.limits h stands.legal in
    omega (arith, good.below, limits.bound_most, limits.phases_most)

-- what is known of a block that meets no refusal, while a waiter is registered
pub record BlockTaken {A : Type 0} (op : Operation A) (reg : Roster) (b : Board A) (e : Entry) (held : List (Parcel A)) (single : Option Single) : Type 0 where
  pub boarded : IsBoarded op reg.members b.ring b.limits.bound b.done b.top
  pub ready : BlockStands b.ring b.done e (length held)
  pub base : b.ring.base ≤ e.signal_phase
  pub near : e.signal_phase + length held ≤ b.ring.base + b.limits.bound
  pub fits : BlockFits b.ring e.signal_phase held single

pub block_taken : {A : Type 0} (op : Operation A) (reg : Roster) (b : Board A) (task : ℕ) (e : Entry) (held : List (Parcel A)) (single : Option Single) (waiters : ℕ)
    (slowest : Option ℕ) → (wait_phases reg.members ≡ []) ⊎ IsBoarded op reg.members b.ring b.limits.bound b.done b.top
    → waiters ≡ length (wait_phases reg.members) → (waiters ≡ 0 → ⊥) → slowest ≡ least (wait_phases reg.members)
    → entry_of reg.members task ≡ Some e → length reg.members ≤ MEMBERS_MAX → mode_signals e.mode ≡ true → 0 < length held
    → first_row (block_rows b.limits slowest b.ring held single e) ≡ None → BlockTaken op reg b e held single
block_taken {A} op reg b task e held single waiters slowest either count others slow found few signals some row =
    let boarded = boarded_of (wait_phases reg.members) either (λ z. others (count ∙ z)) in
    let ready = block_ready op reg.members b.ring b.limits.bound b.done b.top task (length held) e boarded found few signals some in
    let at = slowest_is op reg.members b.ring b.limits.bound b.done b.top boarded in
    let row_b : first_row (block_rows b.limits (Some b.ring.base) b.ring held single e) ≡ None = rw (slow ∙ at) at row in
    record {
      boarded = boarded;
      ready = ready;
      base = (let l = ready.low in let k = boarded.kept.base_done in omega arith);
      near = block_near b.limits b.ring.base b.ring held single e some row_b;
      fits = block_fits b.limits b.ring.base b.ring held single e row_b;
    }
