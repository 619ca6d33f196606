-- How far the signallers are ahead of the waiters, and how far a task's signals are ahead of its waits.
use Rattle.std.proofs.Common.{◌≡◌, ℕ, ◌+◌, ◌-◌, ◌<◌, ◌≤◌, Bool, true, false, not, ◌&&◌, eqb, leb, List, [], ◌∷◌, Option, Some, None, ℤ, length, max, unwrap_or, refl, sym, ap, subst, ◌∙◌, arith}
use Rattle.std.proofs.lemmas.Bool.{leb-false, eqb-false}
use Rattle.phase_base.specs.Limits.{Limits}
use Rattle.phase_base.specs.Modes.{mode_signals, mode_waits}
use Rattle.phase_base.specs.declared.mode.Mode.TheVariants.{Wait}
use Rattle.phase_base.specs.declared.entry.Entry.{Entry}
use Rattle.phase_base.specs.declared.member.Member.{Member}
use Rattle.phase_accum.specs.declared.single.Single.{Single as SingleFn}
use Rattle.phase_history.specs.declared.event.Event.{Event}
use Rattle.phase_history.specs.declared.event.Event.TheVariants.{Made, Registered, RegisteredNow, Signalled, Waited, Dropped}
use Rattle.phase_history.specs.declared.refusal.SignalRefusal.{SignalRefusal}
use Rattle.phase_base.specs.Members.{Members, member, entry_of, wait_phases, least, signalled, waited}
use Rattle.phase_history.specs.Histories.{History, positions_of, members_of, top_of, done_of, member_entry, signal_phase, wait_phase, greatest_used}
use Rattle.phase_history.specs.Refusals.{is_ahead, list_rows, signal_rows}
use Rattle.phase_history.specs.Legal.{IsAccepted, IsLegal}
use Rattle.phase_history.proofs.Each.{Each, Each-from, Each-push, Each-filter, Each-picked, Each-of_picked, least_low, least_or_high}
use Rattle.phase_history.proofs.MemberLemmas.{Each-entry, Each-changed, holds_signals, holds_waits}
use Rattle.phase_history.proofs.Refused.{Passes, passes_from, registers_from, waits_from}
use Rattle.phase_history.proofs.Steps.{StandsWell, sound_of, done_low, member_entry_is}

-- ---- the bound

-- each waiter has the top within the bound
abbrev WithinBound : ℕ → ℕ → Member → Type 0
WithinBound bound top m = mode_waits m.entry.mode ≡ true → top ≤ m.entry.wait_phase + bound

-- an accepted signal ends no further than the bound ahead of the slowest waiter
not_ahead : (limits : Limits) (h : History) (lists : List (List ℤ)) (single : Option SingleFn) (e : Entry) (slowest : ℕ)
    → least (wait_phases (members_of h)) ≡ Some slowest
    → Each (λ (row : Bool × SignalRefusal). row.0 ≡ false) (list_rows limits h lists single e)
    → e.signal_phase ≤ slowest + limits.bound → e.signal_phase + length lists ≤ slowest + limits.bound
not_ahead limits h [] single e slowest waiter each low = omega arith
not_ahead limits h (sends ∷ lists) single e slowest waiter each low =
    let ahead : leb (slowest + limits.bound) e.signal_phase ≡ false = rw waiter at each.1.1.0 in
    let here : e.signal_phase < slowest + limits.bound = leb-false _ _ ahead in
    let rest : (e.signal_phase + 1) + length lists ≤ slowest + limits.bound =
    not_ahead limits h lists single (signalled 1 e) slowest waiter each.1.1.1.1.1 (omega arith) in
    omega arith

Each-both : {X : Type 0} (P Q R : X → Type 0) → ((x : X) → P x → Q x → R x) → (xs : List X) → Each P xs → Each Q xs → Each R xs
Each-both P Q R both [] p q = tt
Each-both P Q R both (x ∷ xs) p q = (both x p.0 q.0, Each-both P Q R both xs p.1 q.1)

pub none_least : (P : ℕ → Type 0) (xs : List ℕ) → least xs ≡ None → Each P xs
none_least P [] none = tt
none_least P (x ∷ xs) none = absurd (cc)

-- each waiter of the history has the top within the bound
abbrev IsBounded : Limits → History → Type 0
IsBounded limits h = Each (WithinBound limits.bound (top_of h)) (members_of h)

-- a phase that is within the bound of the slowest waiter is within that of each
each_ahead : (bound p : ℕ) (ms : Members) → ((slowest : ℕ) → least (wait_phases ms) ≡ Some slowest → p ≤ slowest + bound)
    → Each (WithinBound bound p) ms
each_ahead bound p ms within =
    elim (least (wait_phases ms)) as (λ o. (least (wait_phases ms) ≡ o) → Each (WithinBound bound p) ms) [
      | None ↦ λ none.
          Each-from (λ (m : Member). mode_waits m.entry.mode ≡ true → ⊥) (WithinBound bound p) (λ m no_waiter w. absurd (no_waiter w)) ms
          (Each-of_picked (λ x. ⊥) (λ (m : Member). m.entry.wait_phase) (λ (m : Member). mode_waits m.entry.mode) ms (none_least (λ x. ⊥) (wait_phases ms) none))
      | Some b ↦ λ some.
          let low : p ≤ b + bound = within b some in
          Each-from (λ (m : Member). mode_waits m.entry.mode ≡ true → b ≤ m.entry.wait_phase) (WithinBound bound p)
          (λ m above w. (let a : b ≤ m.entry.wait_phase = above w in omega arith)) ms
          (Each-of_picked (λ x. b ≤ x) (λ (m : Member). m.entry.wait_phase) (λ (m : Member). mode_waits m.entry.mode) ms (least_low (wait_phases ms) b some))
    ] refl

-- and back: what is within the bound of each waiter is within that of the slowest
slowest_ahead : (bound p : ℕ) (ms : Members) (slowest : ℕ) → Each (WithinBound bound p) ms
    → least (wait_phases ms) ≡ Some slowest → p ≤ slowest + bound
slowest_ahead bound p ms slowest each some =
    let low : (p - bound) ≤ unwrap_or (least (wait_phases ms)) (p - bound) =
    least_or_high (wait_phases ms) (p - bound) (p - bound)
    (Each-picked (λ x. (p - bound) ≤ x) (λ (m : Member). m.entry.wait_phase) (λ (m : Member). mode_waits m.entry.mode) ms
    (Each-from (WithinBound bound p) (λ (m : Member). mode_waits m.entry.mode ≡ true → (p - bound) ≤ m.entry.wait_phase)
    (λ m within w. (let a : p ≤ m.entry.wait_phase + bound = within w in omega arith)) ms each)) (omega arith) in
    let is : unwrap_or (least (wait_phases ms)) (p - bound) ≡ slowest = ap (λ o. unwrap_or o (p - bound)) some in
    omega arith

bounded_step : (limits : Limits) (before : History) (event : Event) → IsLegal limits before → IsAccepted limits before event
    → IsBounded limits before → IsBounded limits (event ∷ before)
bounded_step limits before (Made task) legal accepted bounded =
    absurd (rw accepted.1 at legal)
bounded_step limits before (Registered parent child mode) legal accepted bounded =
    let r = registers_from before parent child mode accepted in
    let is : member_entry (members_of before) parent ≡ r.entry = member_entry_is (members_of before) parent r.entry r.is_member in
    let w_is : wait_phase before parent ≡ r.entry.wait_phase = ap (λ (e : Entry). e.wait_phase) is in
    let own : WithinBound limits.bound (top_of before) (member parent r.entry) = Each-entry _ (members_of before) parent r.entry r.is_member bounded in
    Each-push _ (members_of before) _ bounded
    (λ w. (let a : top_of before ≤ r.entry.wait_phase + limits.bound = own (holds_waits r.entry.mode mode r.allowed w) in omega arith))
bounded_step limits before (RegisteredNow parent child) legal accepted bounded =
    let r = registers_from before parent child Wait accepted in
    let own : WithinBound limits.bound (top_of before) (member parent r.entry) = Each-entry _ (members_of before) parent r.entry r.is_member bounded in
    let good : StandsWell (done_of before) (top_of before) (greatest_used before) (member parent r.entry) =
    Each-entry _ (members_of before) parent r.entry r.is_member (sound_of limits before legal) in
    Each-push _ (members_of before) _ bounded
    (λ w. (let t : mode_waits r.entry.mode ≡ true = holds_waits r.entry.mode Wait r.allowed refl in
    omega (arith, own t, good.waits t)))
bounded_step limits before (Signalled task lists single) legal accepted bounded =
    let ms = members_of before in
    let p : Passes (entry_of ms task) (signal_rows limits before lists single) = passes_from _ _ _ accepted.0 in
    let good : StandsWell (done_of before) (top_of before) (greatest_used before) (member task p.entry) =
    Each-entry _ ms task p.entry p.is_member (sound_of limits before legal) in
    let is : member_entry ms task ≡ p.entry = member_entry_is ms task p.entry p.is_member in
    let top_is : top_of (Signalled task lists single ∷ before) ≡ max (top_of before) (p.entry.signal_phase + length lists) =
    ap (λ (e : Entry). max (top_of before) (e.signal_phase + length lists)) is in
    let ahead : Each (WithinBound limits.bound (p.entry.signal_phase + length lists)) ms =
    each_ahead limits.bound (p.entry.signal_phase + length lists) ms (λ slowest some.
    (let low : top_of before ≤ slowest + limits.bound = slowest_ahead limits.bound (top_of before) ms slowest bounded some in
    let s_low : p.entry.signal_phase ≤ top_of before = good.below in
    not_ahead limits before lists single p.entry slowest some p.passes.1.1.1 (omega arith))) in
    let both : Each (WithinBound limits.bound (top_of (Signalled task lists single ∷ before))) ms =
    Each-both (WithinBound limits.bound (top_of before)) (WithinBound limits.bound (p.entry.signal_phase + length lists)) (WithinBound limits.bound (top_of (Signalled task lists single ∷ before)))
    (λ m a b w. (omega (arith, a w, b w))) ms bounded ahead in
    Each-changed _ _ task (signalled (length lists)) p.entry ms p.is_member (λ m h. h) (λ h. h) both
bounded_step limits before (Waited task n) legal accepted bounded =
    let r = waits_from limits before task n accepted.0 in
    Each-changed _ _ task (waited n) r.entry (members_of before) r.is_member (λ m h. h)
    (λ h w. (let a : top_of before ≤ r.entry.wait_phase + limits.bound = h w in omega arith)) bounded
bounded_step limits before (Dropped task) legal accepted bounded =
    Each-filter _ (λ (m : Member). not (eqb m.task task)) (members_of before) bounded

bounded_of : (limits : Limits) (h : History) → IsLegal limits h → IsBounded limits h
bounded_of limits [] legal = absurd legal
bounded_of limits (Made task ∷ before) legal =
    let P : History → Type 0 = λ b. IsBounded limits (Made task ∷ b) in subst P (sym legal.1) (λ w. omega arith, tt)
bounded_of limits (Registered parent child mode ∷ before) legal =
    bounded_step limits before (Registered parent child mode) legal.0 legal.1 (bounded_of limits before legal.0)
bounded_of limits (RegisteredNow parent child ∷ before) legal =
    bounded_step limits before (RegisteredNow parent child) legal.0 legal.1 (bounded_of limits before legal.0)
bounded_of limits (Signalled task lists single ∷ before) legal =
    bounded_step limits before (Signalled task lists single) legal.0 legal.1 (bounded_of limits before legal.0)
bounded_of limits (Waited task n ∷ before) legal =
    bounded_step limits before (Waited task n) legal.0 legal.1 (bounded_of limits before legal.0)
bounded_of limits (Dropped task ∷ before) legal =
    bounded_step limits before (Dropped task) legal.0 legal.1 (bounded_of limits before legal.0)

-- in a legal history the top is no further than the bound ahead of the slowest waiter
pub within_bound : (limits : Limits) (h : History) (slowest : ℕ) → IsLegal limits h
    → least (wait_phases (members_of h)) ≡ Some slowest → top_of h ≤ slowest + limits.bound
within_bound limits h slowest legal some =
    slowest_ahead limits.bound (top_of h) (members_of h) slowest (bounded_of limits h legal) some

-- ---- turns

-- a member that signals and waits is at most one signal ahead of its waits
abbrev pub TakesTurns : Member → Type 0
TakesTurns m = mode_signals m.entry.mode ≡ true → mode_waits m.entry.mode ≡ true
    → (m.entry.wait_phase ≤ m.entry.signal_phase) × (m.entry.signal_phase ≤ m.entry.wait_phase + 1)

-- an accepted signal of a member that waits is for one phase, and comes behind a wait
one_phase : (limits : Limits) (h : History) (lists : List (List ℤ)) (single : Option SingleFn) (e : Entry) → mode_waits e.mode ≡ true
    → Each (λ (row : Bool × SignalRefusal). row.0 ≡ false) (list_rows limits h lists single e)
    → e.wait_phase ≤ e.signal_phase → e.signal_phase ≤ e.wait_phase + 1
    → (e.signal_phase + length lists ≤ e.wait_phase + 1)
one_phase limits h [] single e waits each low high = omega arith
one_phase limits h (sends ∷ lists) single e waits each low high =
    let twice : eqb e.signal_phase (e.wait_phase + 1) ≡ false =
    sym (ap (λ b. b && eqb e.signal_phase (e.wait_phase + 1)) waits) ∙ each.0 in
    let apart : e.signal_phase ≡ e.wait_phase + 1 → ⊥ = eqb-false _ _ twice in
    let rest : (e.signal_phase + 1) + length lists ≤ e.wait_phase + 1 =
    one_phase limits h lists single (signalled 1 e) waits each.1.1.1.1.1 (omega arith) (omega arith) in
    omega arith

turns_step : (limits : Limits) (before : History) (event : Event) → IsLegal limits before → IsAccepted limits before event
    → Each TakesTurns (members_of before) → Each TakesTurns (members_of (event ∷ before))
turns_step limits before (Made task) legal accepted turns =
    absurd (rw accepted.1 at legal)
turns_step limits before (Registered parent child mode) legal accepted turns =
    let r = registers_from before parent child mode accepted in
    let is : member_entry (members_of before) parent ≡ r.entry = member_entry_is (members_of before) parent r.entry r.is_member in
    let s_is : signal_phase before parent ≡ r.entry.signal_phase = ap (λ (e : Entry). e.signal_phase) is in
    let w_is : wait_phase before parent ≡ r.entry.wait_phase = ap (λ (e : Entry). e.wait_phase) is in
    let own : TakesTurns (member parent r.entry) = Each-entry _ (members_of before) parent r.entry r.is_member turns in
    Each-push _ (members_of before) _ turns
    (λ s w. (let a = own (holds_signals r.entry.mode mode r.allowed s) (holds_waits r.entry.mode mode r.allowed w) in
    let low : r.entry.wait_phase ≤ r.entry.signal_phase = a.0 in
    let high : r.entry.signal_phase ≤ r.entry.wait_phase + 1 = a.1 in (omega arith, omega arith)))
turns_step limits before (RegisteredNow parent child) legal accepted turns =
    Each-push _ (members_of before) _ turns (λ s w. absurd (let e : false ≡ true = s in cc))
turns_step limits before (Signalled task lists single) legal accepted turns =
    let ms = members_of before in
    let p : Passes (entry_of ms task) (signal_rows limits before lists single) = passes_from _ _ _ accepted.0 in
    Each-changed _ _ task (signalled (length lists)) p.entry ms p.is_member (λ m h. h)
    (λ h s w. (let a = h s w in
    let low : p.entry.wait_phase ≤ p.entry.signal_phase = a.0 in
    let high : p.entry.signal_phase ≤ p.entry.wait_phase + 1 = a.1 in
    let top : p.entry.signal_phase + length lists ≤ p.entry.wait_phase + 1 =
    one_phase limits before lists single p.entry w p.passes.1.1.1 low high in (omega arith, top))) turns
turns_step limits before (Waited task n) legal accepted turns =
    let ms = members_of before in
    let r = waits_from limits before task n accepted.0 in
    let is : member_entry ms task ≡ r.entry = member_entry_is ms task r.entry r.is_member in
    let w_is : wait_phase before task ≡ r.entry.wait_phase = ap (λ (e : Entry). e.wait_phase) is in
    let fits : wait_phase before task + n ≤ done_of before = accepted.1 in
    let own : mode_signals r.entry.mode ≡ true → done_of before ≤ r.entry.signal_phase = Each-entry _ ms task r.entry r.is_member (done_low (positions_of before)) in
    Each-changed _ _ task (waited n) r.entry ms r.is_member (λ m h. h)
    (λ h s w. (let a = h s w in
    let high : r.entry.signal_phase ≤ r.entry.wait_phase + 1 = a.1 in
    let done : done_of before ≤ r.entry.signal_phase = own s in (omega arith, omega arith))) turns
turns_step limits before (Dropped task) legal accepted turns =
    Each-filter _ (λ (m : Member). not (eqb m.task task)) (members_of before) turns

pub turns_of : (limits : Limits) (h : History) → IsLegal limits h → Each TakesTurns (members_of h)
turns_of limits [] legal = absurd legal
turns_of limits (Made task ∷ before) legal =
    let P : History → Type 0 = λ b. Each TakesTurns (members_of (Made task ∷ b)) in subst P (sym legal.1) (λ s w. (omega arith, omega arith), tt)
turns_of limits (Registered parent child mode ∷ before) legal =
    turns_step limits before (Registered parent child mode) legal.0 legal.1 (turns_of limits before legal.0)
turns_of limits (RegisteredNow parent child ∷ before) legal =
    turns_step limits before (RegisteredNow parent child) legal.0 legal.1 (turns_of limits before legal.0)
turns_of limits (Signalled task lists single ∷ before) legal =
    turns_step limits before (Signalled task lists single) legal.0 legal.1 (turns_of limits before legal.0)
turns_of limits (Waited task n ∷ before) legal =
    turns_step limits before (Waited task n) legal.0 legal.1 (turns_of limits before legal.0)
turns_of limits (Dropped task ∷ before) legal =
    turns_step limits before (Dropped task) legal.0 legal.1 (turns_of limits before legal.0)
