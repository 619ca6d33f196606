-- No task has waited for a phase that is not complete.
use Rattle.std.proofs.Common.{◌≡◌, ℕ, ◌+◌, ◌≤◌, not, eqb, [], ◌∷◌, Some, length, sym, ap, subst, arith}
use Rattle.phase_shared.specs.Phasers.{Limits, Entry, entry_of, signalled, waited, Event, History, members_of, wait_phase, done_of, IsAccepted, IsLegal}
use Rattle.phase_base.specs.declared.member.Member.{Member}
use Rattle.phase_history.specs.declared.event.Event.TheVariants.{Made, Registered, RegisteredNow, Signalled, Waited, Dropped}
use Rattle.phase_history.specs.Histories.{member_entry}
use Rattle.phase_history.proofs.Each.{Each, Each-from, Each-push, Each-filter}
use Rattle.phase_history.proofs.MemberLemmas.{Each-entry, Each-changed}
use Rattle.phase_history.proofs.Refused.{passes_from, registers_from, waits_from}
use Rattle.phase_history.proofs.Steps.{steps, sound_of, member_entry_is}

abbrev Within : ℕ → Member → Type 0
Within n m = m.entry.wait_phase ≤ n

low_step : (limits : Limits) (before : History) (event : Event) → IsLegal limits before → IsAccepted limits before event
    → Each (Within (done_of before)) (members_of before) → Each (Within (done_of (event ∷ before))) (members_of before)
low_step limits before event legal accepted low =
    let more = (steps limits before event legal (sound_of limits before legal) accepted).grows in
    Each-from (Within (done_of before)) (Within (done_of (event ∷ before))) (λ m w. (let a : m.entry.wait_phase ≤ done_of before = w in omega arith)) (members_of before) low

low_next : (limits : Limits) (before : History) (event : Event) → IsLegal limits before → IsAccepted limits before event
    → Each (Within (done_of before)) (members_of before) → Each (Within (done_of (event ∷ before))) (members_of (event ∷ before))
low_next limits before (Made task) legal accepted low = absurd (rw accepted.1 at legal)
low_next limits before (Registered parent child mode) legal accepted low =
    let all = low_step limits before (Registered parent child mode) legal accepted low in
    let r = registers_from before parent child mode accepted in
    let is : member_entry (members_of before) parent ≡ r.entry = member_entry_is (members_of before) parent r.entry r.is_member in
    let w_is : wait_phase before parent ≡ r.entry.wait_phase = ap (λ (e : Entry). e.wait_phase) is in
    let own : r.entry.wait_phase ≤ done_of (Registered parent child mode ∷ before) = Each-entry _ (members_of before) parent r.entry r.is_member all in
    Each-push _ (members_of before) _ all (omega arith)
low_next limits before (RegisteredNow parent child) legal accepted low =
    let more = (steps limits before (RegisteredNow parent child) legal (sound_of limits before legal) accepted).grows in
    Each-push _ (members_of before) _ (low_step limits before (RegisteredNow parent child) legal accepted low) (omega arith)
low_next limits before (Signalled task lists single) legal accepted low =
    let p = passes_from _ _ _ accepted.0 in
    Each-changed _ _ task (signalled (length lists)) p.entry (members_of before) p.is_member (λ m h. h) (λ h. h)
    (low_step limits before (Signalled task lists single) legal accepted low)
low_next limits before (Waited task n) legal accepted low =
    let more = (steps limits before (Waited task n) legal (sound_of limits before legal) accepted).grows in
    let r = waits_from limits before task n accepted.0 in
    let is : member_entry (members_of before) task ≡ r.entry = member_entry_is (members_of before) task r.entry r.is_member in
    let w_is : wait_phase before task ≡ r.entry.wait_phase = ap (λ (e : Entry). e.wait_phase) is in
    let fits : wait_phase before task + n ≤ done_of before = accepted.1 in
    Each-changed _ _ task (waited n) r.entry (members_of before) r.is_member (λ m h. h) (λ h. omega arith)
    (low_step limits before (Waited task n) legal accepted low)
low_next limits before (Dropped task) legal accepted low =
    Each-filter _ (λ (m : Member). not (eqb m.task task)) (members_of before) (low_step limits before (Dropped task) legal accepted low)

all_low : (limits : Limits) (h : History) → IsLegal limits h → Each (Within (done_of h)) (members_of h)
all_low limits [] legal = absurd legal
all_low limits (Made task ∷ before) legal =
    let P : History → Type 0 = λ b. Each (Within (done_of (Made task ∷ b))) (members_of (Made task ∷ b)) in subst P (sym legal.1) (omega arith, tt)
all_low limits (Registered parent child mode ∷ before) legal =
    low_next limits before (Registered parent child mode) legal.0 legal.1 (all_low limits before legal.0)
all_low limits (RegisteredNow parent child ∷ before) legal =
    low_next limits before (RegisteredNow parent child) legal.0 legal.1 (all_low limits before legal.0)
all_low limits (Signalled task lists single ∷ before) legal =
    low_next limits before (Signalled task lists single) legal.0 legal.1 (all_low limits before legal.0)
all_low limits (Waited task n ∷ before) legal =
    low_next limits before (Waited task n) legal.0 legal.1 (all_low limits before legal.0)
all_low limits (Dropped task ∷ before) legal =
    low_next limits before (Dropped task) legal.0 legal.1 (all_low limits before legal.0)

-- so it is for each task
pub waits_low : (limits : Limits) (h : History) (task : ℕ) (entry : Entry) → IsLegal limits h → entry_of (members_of h) task ≡ Some entry
    → entry.wait_phase ≤ done_of h
waits_low limits h task entry legal member' = Each-entry (Within (done_of h)) (members_of h) task entry member' (all_low limits h legal)
