-- No phase past the limit is signalled.
use Rattle.std.proofs.Common.{◌≡◌, ◌+◌, ◌<◌, ◌≤◌, Bool, false, List, [], ◌∷◌, Option, max, length, ℤ, ap, arith}
use Rattle.std.proofs.lemmas.Bool.{leb-false}
use Rattle.phase_base.specs.Limits.{Limits}
use Rattle.phase_base.specs.declared.entry.Entry.{Entry}
use Rattle.phase_base.specs.Members.{member, entry_of, signalled}
use Rattle.phase_accum.specs.declared.single.Single.{Single}
use Rattle.phase_history.specs.declared.event.Event.TheVariants.{Made, Registered, RegisteredNow, Signalled, Waited, Dropped}
use Rattle.phase_history.specs.declared.refusal.SignalRefusal.{SignalRefusal}
use Rattle.phase_history.specs.Histories.{History, members_of, top_of, done_of, greatest_used, member_entry}
use Rattle.phase_history.specs.Legal.{IsLegal}
use Rattle.phase_history.specs.Refusals.{list_rows, signal_rows}
use Rattle.phase_history.proofs.Each.{Each}
use Rattle.phase_history.proofs.MemberLemmas.{Each-entry}
use Rattle.phase_history.proofs.Refused.{Passes, passes_from}
use Rattle.phase_history.proofs.Steps.{StandsWell, sound_of, member_entry_is}

-- each phase of an accepted signal is below the limit
not_spent : (limits : Limits) (h : History) (lists : List (List ℤ)) (single : Option Single) (e : Entry)
    → Each (λ (row : Bool × SignalRefusal). row.0 ≡ false) (list_rows limits h lists single e)
    → e.signal_phase ≤ limits.phases_max → e.signal_phase + length lists ≤ limits.phases_max
not_spent limits h [] single e each low = omega arith
not_spent limits h (sends ∷ lists) single e each low =
    let below : e.signal_phase < limits.phases_max = leb-false _ _ each.1.0 in
    let rest : (e.signal_phase + 1) + length lists ≤ limits.phases_max =
    not_spent limits h lists single (signalled 1 e) each.1.1.1.1.1 (omega arith) in
    omega arith

pub top_within : (limits : Limits) (h : History) → IsLegal limits h → top_of h ≤ limits.phases_max
top_within limits [] legal = absurd legal
top_within limits (Made task ∷ before) legal = omega arith
top_within limits (Registered parent child mode ∷ before) legal = top_within limits before legal.0
top_within limits (RegisteredNow parent child ∷ before) legal = top_within limits before legal.0
top_within limits (Signalled task lists single ∷ before) legal =
    let ms = members_of before in
    let p : Passes (entry_of ms task) (signal_rows limits before lists single) = passes_from _ _ _ legal.1.0 in
    let good : StandsWell (done_of before) (top_of before) (greatest_used before) (member task p.entry) =
    Each-entry _ ms task p.entry p.is_member (sound_of limits before legal.0) in
    let is : member_entry ms task ≡ p.entry = member_entry_is ms task p.entry p.is_member in
    let top_is : top_of (Signalled task lists single ∷ before) ≡ max (top_of before) (p.entry.signal_phase + length lists) =
    ap (λ (e : Entry). max (top_of before) (e.signal_phase + length lists)) is in
    let old : top_of before ≤ limits.phases_max = top_within limits before legal.0 in
    let below : p.entry.signal_phase ≤ top_of before = good.below in
    let new : p.entry.signal_phase + length lists ≤ limits.phases_max =
    not_spent limits before lists single p.entry p.passes.1.1.1 (omega arith) in
    omega arith
top_within limits (Waited task n ∷ before) legal = top_within limits before legal.0
top_within limits (Dropped task ∷ before) legal = top_within limits before legal.0
