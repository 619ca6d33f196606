-- What a wait leaves of a core over a registry and a board.
use Rattle.std.proofs.Common.{◌≡◌, ℕ, ◌+◌, ◌<◌, ◌≤◌, true, Bool, ◌∷◌, Option, Some, None, Ok, length, unwrap_or, refl, sym, ◌∙◌, ap, arith, ⊎_elim, inl, inr, zero, suc, ◌-◌, cond, map, take, drop, min, List, ◌++◌, Result, ℤ}
use Rattle.std.specs.Prelude.{is_some, slice_range}
use Rattle.std.proofs.lemmas.Option.{same_Some}
use Rattle.phase_base.specs.Modes.{mode_waits}
use Rattle.phase_base.specs.declared.entry.Entry.{Entry}
use Rattle.phase_base.specs.declared.limits.TheConstants.{MEMBERS_MAX}
use Rattle.phase_base.specs.Members.{entry_of, changed_at, signal_phases, wait_phases, least, waited}
use Rattle.phase_accum.specs.declared.outcome.Outcome.{Outcome}
use Rattle.phase_accum.specs.Operations.{Operation, AccumulateLaws}
use Rattle.phase_history.specs.declared.event.Event.TheVariants.{Waited}
use Rattle.phase_history.specs.declared.got.Got.TheVariants as got
use Rattle.phase_history.specs.declared.refusal.WaitRefusal.{WaitRefusal}
use Rattle.phase_history.specs.Histories.{History, done_of, members_of, wait_phase}
use Rattle.phase_history.specs.Phases.{value_of_phase, stream_of}
use Rattle.phase_history.specs.Refusals.{wait_refusal, plain_wait_rows, refusal_at, wait_rows_at}
use Rattle.phase_base.specs.Lists.{first_row}
use Rattle.phase_history.specs.Replies.{wait_reply, refused_or, got_at, wait_block_reply, got_block_at}
use Rattle.phase_history.proofs.MemberLemmas.{signal_phases-waited}
use Rattle.phase_registry.specs.Rosters.{Roster, roster}
use Rattle.phase_ring.specs.declared.board.Board.{Board}
use Rattle.phase_ring.specs.declared.role.Role.TheVariants.{Signaller, Waiter}
use Rattle.phase_ring.specs.Rings.{standing, sents, KeepsSlots}
use Rattle.phase_ring.specs.Standings.{one_if_same, count_of}
use Rattle.phase_ring.specs.Boards.{IsRingAt}
use Rattle.phase_ring.proofs.Slots.{slot_at-some}
use Rattle.phase_core.specs.Cores.{StandsFor, IsBoarded, sent_of, core_of, core_with}
use Rattle.phase_core.proofs.CoreSteps.{waits_stands, kept_value}
use Rattle.phase_core.proofs.LeastCounts.{waiters-waited, two_counts, wait_phases-few, waiter-counted}
use Rattle.phase_core.proofs.Boarded.{IsKept, slowest_is}
use Rattle.phase_core.proofs.NewCore.{done_of_boarded, done_of_kept}
use Rattle.phase_core.proofs.Replies.{wait_reply_is, got_value, got_ended}
use Rattle.phase_core.proofs.RingSlots.{kept_slots, slot_kept}
use Rattle.std.proofs.lemmas.Bool.{lt-ltb, le-ltb}
use Rattle.phase_history.proofs.Steps.{member_entry_is}
use Rattle.phase_ring.specs.Blocks.{value_at, value_in, block_values}
use Rattle.std.specs.List.{range_with_len, All}
use Rattle.phase_history.specs.declared.refusal.WaitRefusal.TheVariants as wait
use Rattle.phase_history.specs.declared.got.GotBlock.TheVariants as got_block
use Rattle.std.proofs.lemmas.List.FromFn.{take-map-range_with_len, length-range_with_len}
use Rattle.std.proofs.lemmas.List.{length-take, length-drop, length-map, take-append-le}
use Rattle.std.proofs.lemmas.List.Elements.{All-take, All-drop}
use Rattle.phase_base.specs.Limits.{Limits}
use Rattle.phase_accum.specs.Values.{IsInRange}
use Rattle.phase_history.specs.declared.got.GotBlock.{GotBlock}
use Rattle.phase_history.specs.Legal.{IsLegal}
use Rattle.phase_history.proofs.BlockAnswers.{block_tells}
use Rattle.phase_history.proofs.InRange.{stream_of-in_range}
use Rattle.phase_core.specs.Blocks.{written}

-- what a wait of a waiter knows
pub record Waiting {A : Type 0} (op : Operation A) (reg : Roster) (b : Board A) (e : Entry) : Type 0 where
  pub kept : IsKept op reg.members b.ring b.limits.bound b.done b.top
  pub low : b.ring.base ≤ e.wait_phase

-- ---- the reply

-- the refusal and the reply, for any history
pub waits_reply : {A : Type 0} (op : Operation A) (reg : Roster) (b : Board A) (h : History) (task : ℕ) (e : Entry) (has_signaller : Bool) (r : Option WaitRefusal)
    → Waiting op reg b e → StandsFor op (core_of reg b) h → entry_of reg.members task ≡ Some e
    → has_signaller ≡ is_some (least (signal_phases reg.members))
    → r ≡ first_row (plain_wait_rows b.limits b.done has_signaller e)
    → (wait_refusal b.limits h task 1 ≡ r) × (wait_reply op.value b.limits h task ≡ refused_or r (got_at op.value h e.wait_phase))
waits_reply op reg b h task e has_signaller r w stands found has row =
    wait_reply_is op op.value (core_of reg b) h task e r stands found
    (row ∙ ap (λ d. first_row (plain_wait_rows b.limits d has_signaller e)) (done_of_kept op reg b h stands w.kept)
    ∙ ap (λ s. first_row (plain_wait_rows b.limits (done_of h) s e)) has)

pub waits_ended : {A : Type 0} (op : Operation A) (reg : Roster) (b : Board A) (h : History) (task : ℕ) (e : Entry)
    → Waiting op reg b e → StandsFor op (core_of reg b) h → b.done ≤ e.wait_phase
    → wait_reply op.value b.limits h task ≡ refused_or None (got_at op.value h e.wait_phase)
    → wait_reply op.value b.limits h task ≡ Ok got.Ended
waits_ended op reg b h task e w stands past reply =
    let d = done_of_kept op reg b h stands w.kept in
    reply ∙ ap (λ g. Ok g) (got_ended op.value h e.wait_phase (omega arith))

pub waits_value : {A : Type 0} (op : Operation A) (laws : AccumulateLaws op) (reg : Roster) (b : Board A) (h : History) (task : ℕ) (e : Entry) (outcome : Outcome)
    → Waiting op reg b e → StandsFor op (core_of reg b) h → e.wait_phase < b.done
    → outcome ≡ value_at op b.ring e.wait_phase
    → wait_reply op.value b.limits h task ≡ refused_or None (got_at op.value h e.wait_phase)
    → wait_reply op.value b.limits h task ≡ Ok (got.Value e.wait_phase outcome)
waits_value op laws reg b h task e outcome w stands complete value reply =
    let d = done_of_kept op reg b h stands w.kept in
    let slot = slot_at-some b.ring e.wait_phase (record {
      low = w.low;
      high = omega (arith, w.kept.kept.long, w.kept.kept.top_bound, w.kept.kept.done_top);
    }) in
    let keeps = slot_kept op reg b.limits b.ring b.done b.top e.wait_phase h slot.0 stands w.kept w.low slot.1 in
    let is : outcome ≡ value_of_phase op.value h e.wait_phase =
    value ∙ ap (value_in op) slot.1 ∙ kept_value op laws (sent_of slot.0) h e.wait_phase keeps in
    reply ∙ ap (λ g. Ok g) (got_value op.value h e.wait_phase (omega arith) ∙ ap (λ o. got.Value e.wait_phase o) (sym is))

-- ---- after it

-- the board still agrees with the members
pub boarded_waited : {A : Type 0} (op : Operation A) (reg new_reg : Roster) (b new : Board A) (task n : ℕ) (e : Entry)
    → IsBoarded op reg.members b.ring b.limits.bound b.done b.top → entry_of reg.members task ≡ Some e → mode_waits e.mode ≡ true
    → new_reg ≡ roster (changed_at task (waited n) reg.members) reg.greatest
    → new.done ≡ b.done → new.top ≡ b.top
    → ((p : ℕ) → standing new.ring Waiter p + one_if_same e.wait_phase p ≡ standing b.ring Waiter p + one_if_same (e.wait_phase + n) p)
    → ((p : ℕ) → standing new.ring Signaller p ≡ standing b.ring Signaller p)
    → IsRingAt op new.ring new.limits.bound new.done new.top → 0 < standing new.ring Waiter new.ring.base
    → IsBoarded op new_reg.members new.ring new.limits.bound new.done new.top
boarded_waited op reg new_reg b new task n e boarded found waits reg_is done_is top_is moved others kept stops =
    let members : new_reg.members ≡ changed_at task (waited n) reg.members = ap (λ (r : Roster). r.members) reg_is in
    record {
      kept = kept;
      done_at = ⊎_elim (λ at. inl (done_is ∙ at ∙ sym top_is))
          (λ some. inr (let o = others new.done in let d = ap (standing b.ring Signaller) done_is in omega arith)) boarded.done_at;
      base_at = stops;
      signallers_are = λ p. others p ∙ boarded.signallers_are p
          ∙ sym (ap (λ ms. count_of p (signal_phases ms)) members ∙ ap (count_of p) (signal_phases-waited reg.members task n));
      waiters_are = λ p.
          let m = moved p in
          let t = boarded.waiters_are p in
          let c = waiters-waited reg.members task p n e found waits in
          let n : count_of p (wait_phases new_reg.members) ≡ count_of p (wait_phases (changed_at task (waited n) reg.members)) =
          ap (λ ms. count_of p (wait_phases ms)) members in
          omega arith;
    }

-- and the core stands for the history with the wait
pub stands_waited : {A : Type 0} (op : Operation A) (reg new_reg : Roster) (b new : Board A) (h : History) (task n : ℕ) (e : Entry)
    → IsBoarded op reg.members b.ring b.limits.bound b.done b.top → StandsFor op (core_of reg b) h → entry_of reg.members task ≡ Some e
    → IsBoarded op new_reg.members new.ring new.limits.bound new.done new.top
    → wait_refusal b.limits h task n ≡ None → e.wait_phase + n ≤ b.done
    → new_reg ≡ roster (changed_at task (waited n) reg.members) reg.greatest
    → new.limits ≡ b.limits → new.top ≡ b.top → KeepsSlots (sents b.ring) (sents new.ring)
    → StandsFor op (core_of new_reg new) (Waited task n ∷ h)
stands_waited {A} op reg new_reg b new h task n e before stands found boarded none complete reg_is limits_is top_is keeps =
    let d = done_of_boarded op reg b h stands before in
    let there : StandsFor op (core_with new_reg b.limits new.ring new.top) (Waited task n ∷ h) =
    waits_stands op (core_of reg b) (core_with new_reg b.limits new.ring new.top) h task n e stands found none (omega arith)
    (record {
      limits_same = refl;
      greatest_same = ap (λ (r : Roster). unwrap_or r.greatest 0) reg_is;
      members_are = ap (λ (r : Roster). r.members) reg_is;
      top_same = top_is;
      kept = λ slowest p slot waiter behind is.
          let base : slowest ≡ new.ring.base =
          same_Some _ _ (sym waiter ∙ slowest_is op new_reg.members new.ring new.limits.bound new.done new.top boarded) in
          kept_slots reg new_reg b.limits b.ring new.ring b.top new.top p slot keeps (omega arith) is;
    }) in
    rw (ap (λ l. core_with new_reg l new.ring new.top) limits_is) there

-- ---- the reply

pub wait_block_is : {A : Type 0} (op : Operation A) (reg : Roster) (b : Board A) (h : History) (task n : ℕ) (e : Entry) (has_signaller : Bool) (r : Option WaitRefusal)
    → Waiting op reg b e → StandsFor op (core_of reg b) h → entry_of reg.members task ≡ Some e
    → has_signaller ≡ is_some (least (signal_phases reg.members))
    → r ≡ first_row (wait_rows_at b.limits b.done has_signaller n e)
    → (wait_refusal b.limits h task n ≡ r) × (wait_block_reply b.limits h task n ≡ refused_or r (got_block_at h e.wait_phase n))
wait_block_is op reg b h task n e has_signaller r w stands found has row =
    let found_h : entry_of (members_of h) task ≡ Some e = (rw (← stands.members_are) found) in
    let phase : wait_phase h task ≡ e.wait_phase = ap (λ (x : Entry). x.wait_phase) (member_entry_is (members_of h) task e found_h) in
    let done = done_of_kept op reg b h stands w.kept in
    let is : wait_refusal b.limits h task n ≡ r =
    ap (λ ms. refusal_at (entry_of ms task) wait.NoTask (wait_rows_at b.limits (done_of h) (is_some (least (signal_phases ms))) n)) (sym stands.members_are)
    ∙ ap (λ o. refusal_at o wait.NoTask (wait_rows_at b.limits (done_of h) (is_some (least (signal_phases reg.members))) n)) found
    ∙ ap (λ d. first_row (wait_rows_at b.limits d (is_some (least (signal_phases reg.members))) n e)) (sym done)
    ∙ ap (λ s. first_row (wait_rows_at b.limits b.done s n e)) (sym has)
    ∙ sym row in
    (is, ap (λ o. refused_or o (got_block_at h (wait_phase h task) n)) is ∙ ap (λ q. refused_or r (got_block_at h q n)) phase)

pub got_block_values : (h : History) (w n done : ℕ) → done ≡ done_of h → w < done → got_block_at h w n ≡ got_block.Values w (min n (done - w))
got_block_values h w n done is complete =
    ap (λ b. cond b (got_block.Values w (min n (done_of h - w))) got_block.Ended) (lt-ltb w (done_of h) (omega arith))
    ∙ ap (λ d. got_block.Values w (min n (d - w))) (sym is)

pub got_block_ended : (h : History) (w n done : ℕ) → done ≡ done_of h → done ≤ w → got_block_at h w n ≡ got_block.Ended
got_block_ended h w n done is past =
    ap (λ b. cond b (got_block.Values w (min n (done_of h - w))) got_block.Ended) (le-ltb w (done_of h) (omega arith))

-- ---- the values

pub map-same : {X : Type 0} (f g : ℕ → X) (a n : ℕ) → ((p : ℕ) → a ≤ p → p < a + n → f p ≡ g p) → map f (range_with_len a n) ≡ map g (range_with_len a n)
map-same f g a zero same = refl
map-same f g a (suc n) same =
    ap (λ x. x ∷ map f (range_with_len (a + 1) n)) (same a (omega arith) (omega arith))
    ∙ ap (λ xs. g a ∷ xs) (map-same f g (a + 1) n (λ p low high. same p (omega arith) (omega arith)))

drop-map-range : {X : Type 0} (f : ℕ → X) (a n k s : ℕ) → a + k ≡ s → drop k (map f (range_with_len a n)) ≡ map f (range_with_len s (n - k))
drop-map-range f a n zero s e = ap (λ m. map f (range_with_len a m)) (let z : n ≡ n - 0 = omega arith in z) ∙ ap (λ q. map f (range_with_len q (n - 0))) (let t : a ≡ s = omega arith in t)
drop-map-range f a zero (suc k) s e = ap (λ m. map f (range_with_len s m)) (let z : 0 ≡ 0 - suc k = omega arith in z)
drop-map-range f a (suc n) (suc k) s e = drop-map-range f (a + 1) n k s (omega arith) ∙ ap (λ m. map f (range_with_len s m)) (let z : n - k ≡ suc n - suc k = omega arith in z)

-- the values of complete phases in a row, in the stream
pub stream_range : (value : List ℤ → Outcome) (h : History) (phase count : ℕ)
    → phase + count ≤ done_of h → map (value_of_phase value h) (range_with_len phase count)
    ≡ slice_range (stream_of value h) phase (phase + count)
stream_range value h phase count complete =
    sym (take-map-range_with_len (value_of_phase value h) phase (done_of h - phase) count (omega arith))
    ∙ sym (ap (take count) (drop-map-range (value_of_phase value h) 0 (done_of h) phase phase (omega arith)))
    ∙ ap (λ k. take k (drop phase (stream_of value h))) (let e : count ≡ phase + count - phase = omega arith in e)

pub values_are : {A : Type 0} (op : Operation A) (laws : AccumulateLaws op) (reg : Roster) (b : Board A) (h : History) (phase count : ℕ)
    → IsKept op reg.members b.ring b.limits.bound b.done b.top → StandsFor op (core_of reg b) h → b.ring.base ≤ phase → phase + count ≤ b.done
    → block_values op b.ring phase count ≡ slice_range (stream_of op.value h) phase (phase + count)
values_are op laws reg b h phase count kept stands low complete =
    let d = done_of_kept op reg b h stands kept in
    let long = kept.kept.long in
    let up = kept.kept.top_bound in
    let below = kept.kept.done_top in
    let each : (p : ℕ) → phase ≤ p → p < phase + count → value_at op b.ring p ≡ value_of_phase op.value h p = λ p from to.
    (let slot = slot_at-some b.ring p (record { low = omega arith; high = omega arith }) in
    let keeps = slot_kept op reg b.limits b.ring b.done b.top p h slot.0 stands kept (omega arith) slot.1 in
    ap (value_in op) slot.1 ∙ kept_value op laws (sent_of slot.0) h p keeps) in
    map-same (value_at op b.ring) (value_of_phase op.value h) phase count each
    ∙ stream_range op.value h phase count (omega arith)

pub few_by : {A : Type 0} (op : Operation A) (reg : Roster) (b : Board A) (task n : ℕ) (e : Entry) → IsBoarded op reg.members b.ring b.limits.bound b.done b.top
    → entry_of reg.members task ≡ Some e → length reg.members ≤ MEMBERS_MAX → mode_waits e.mode ≡ true → 0 < n → standing b.ring Waiter (e.wait_phase + n) < MEMBERS_MAX
few_by op reg b task n e boarded found few waits some =
    let at = waiter-counted reg.members task e found waits in
    let here = boarded.waiters_are e.wait_phase in
    let next = boarded.waiters_are (e.wait_phase + n) in
    let two = two_counts (wait_phases reg.members) e.wait_phase (e.wait_phase + n) (λ q. omega arith) in
    omega (arith, wait_phases-few reg.members)

-- what was got is in range, and has its places
pub block_in_range : {A : Type 0} (op : Operation A) (laws : AccumulateLaws op) (limits : Limits) (h : History) (task phase count : ℕ)
    (result : Result GotBlock WaitRefusal) (old new : List Outcome) → IsLegal limits h → wait_block_reply limits h task (length old) ≡ result
    → new ≡ written result (stream_of op.value h) old → result ≡ Ok (got_block.Values phase count)
    → (count ≤ length old) × All IsInRange (take count new)
block_in_range op laws limits h task phase count result old new legal reply out got_is =
    let t = block_tells limits h task (length old) phase count (reply ∙ got_is) in
    let xs = stream_of op.value h in
    let got = take (phase + count - phase) (drop phase xs) in
    let new_is : new ≡ got ++ drop count old = out ∙ ap (λ r. written r xs old) got_is in
    let long : length xs ≡ done_of h = length-map (range_with_len 0 (done_of h)) (value_of_phase op.value h) ∙ length-range_with_len 0 (done_of h) in
    let below = t.below in
    let at = t.phase_is in
    let many = t.count_is in
    let got_long : count ≤ length got = omega (arith, length-take (phase + count - phase) (drop phase xs), length-drop phase xs) in
    let front : take count new ≡ take count got = ap (take count) new_is ∙ take-append-le count got (drop count old) got_long in
    (omega arith, rw front (All-take IsInRange count got (All-take IsInRange (phase + count - phase) (drop phase xs) (All-drop IsInRange phase xs (stream_of-in_range op laws limits h legal)))))
