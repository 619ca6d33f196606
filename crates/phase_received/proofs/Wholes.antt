-- Who has seen the end of a stream has received all of it, and no more comes.
use Rattle.std.proofs.Common.{◌≡◌, ◌≢◌, ℕ, ◌-◌, ◌≤◌, ℤ, true, List, [], ◌∷◌, Option, Some, None, length, drop, sym, ap, subst, ◌∙◌, arith}
use Rattle.std.specs.Prelude.{unwrap_or}
use Rattle.std.proofs.lemmas.List.{length-drop, take_all}
use Rattle.std.proofs.lemmas.List.FromFn.{length-map-range_with_len}
use Rattle.std.proofs.lemmas.Bool.{false_from_ne_true}
use Rattle.phase_base.specs.Limits.{Limits}
use Rattle.phase_base.specs.Members.{entry_of}
use Rattle.phase_base.specs.Modes.{mode_signals, mode_waits}
use Rattle.phase_base.specs.declared.entry.Entry.{Entry}
use Rattle.phase_base.specs.declared.member.Member.{Member}
use Rattle.phase_accum.specs.declared.outcome.Outcome.{Outcome}
use Rattle.phase_history.specs.declared.event.Event.TheVariants.{Dropped}
use Rattle.phase_history.specs.Histories.{History, IsBeginning, IsWaiter, HasNoSignaller, members_of, founder, done_of, start_of, wait_phase}
use Rattle.phase_history.specs.Phases.{received_by, stream_of}
use Rattle.phase_history.specs.Legal.{IsLegal}
use Rattle.phase_history.specs.Others.{OthersCame}
use Rattle.phase_base.specs.Lists.{is_in}
use Rattle.phase_history.specs.Laws.{HasReceived}
use Rattle.phase_history.proofs.Each.{Each, Each-of_picked}
use Rattle.phase_history.proofs.MemberLemmas.{Each-entry}
use Rattle.phase_history.proofs.LawProofs.{got_of}
use Rattle.phase_history.proofs.Streams.{stream_closed, signallers_closed}
use Rattle.phase_history.proofs.Used.{start_of-longer, IsLegal-beginning}
use Rattle.phase_history.proofs.OthersEvents.{IsBeginning-others, received_by-others}
use Rattle.phase_shared.specs.Calls.{Leaves}
use Rattle.phase_shared.proofs.NextSteps.{waits_else}
use Rattle.phase_shared.proofs.PartSteps.{leaver_stays}
use Rattle.phase_received.specs.Whole.{HasSeenEnd, HasWhole}

waits_at_end : (h : History) (task : ℕ) (entry : Entry) → HasNoSignaller h → entry_of (members_of h) task ≡ Some entry
    → mode_waits entry.mode ≡ true
waits_at_end h task entry none member =
    let P : List ℕ → Type 0 = λ xs. Each (λ x. ⊥) xs in
    let quiet : Each (λ (m : Member). mode_signals m.entry.mode ≡ true → ⊥) (members_of h) =
    Each-of_picked (λ x. ⊥) (λ (m : Member). m.entry.signal_phase) (λ (m : Member). mode_signals m.entry.mode) (members_of h) (subst P (sym none) tt) in
    waits_else entry.mode (false_from_ne_true (mode_signals entry.mode) (Each-entry (λ (m : Member). mode_signals m.entry.mode ≡ true → ⊥) (members_of h) task entry member quiet))

pub whole_seen : (value : List ℤ → Outcome) (limits : Limits) (h : History) (task : ℕ) (entry : Entry)
    → IsLegal limits h → entry_of (members_of h) task ≡ Some entry → HasSeenEnd h task → HasWhole value h task
whole_seen value limits h task entry legal member end =
    let waiter : IsWaiter h task entry = record { is_member = member; waits = waits_at_end h task entry end.no_signaller member } in
    let r : HasReceived value h task entry = got_of value limits h task entry legal waiter in
    let stream = stream_of value h in
    let got_all : done_of h ≤ wait_phase h task = end.got_all in
    let long : length stream ≡ done_of h = length-map-range_with_len _ 0 (done_of h) in
    let at : wait_phase h task ≡ entry.wait_phase = ap (λ (o : Option Entry). (unwrap_or o founder).wait_phase) waiter.is_member in
    let rest : length (drop r.start.wait_phase stream) ≡ length stream - r.start.wait_phase = length-drop r.start.wait_phase stream in
    record {
      no_signaller = end.no_signaller;
      start = r.start;
      start_is = r.start_is;
      whole = r.received ∙ take_all (entry.wait_phase - r.start.wait_phase) (drop r.start.wait_phase stream) (omega arith);
    }

-- in a longer history, where the task has received no more
whole_longer : (value : List ℤ → Outcome) (limits : Limits) (old new : History) (task : ℕ) → IsLegal limits old → IsLegal limits new
    → IsBeginning old new → received_by value new task ≡ received_by value old task → HasWhole value old task → HasWhole value new task
whole_longer value limits old new task legal legal_new later same w = record {
  no_signaller = signallers_closed limits old new w.no_signaller legal legal_new later;
  start = w.start;
  start_is = start_of-longer limits old new task w.start legal_new later w.start_is;
  whole = same ∙ w.whole
      ∙ ap (λ s. drop w.start.wait_phase s) (sym (stream_closed value limits old new w.no_signaller legal legal_new later));
}

-- nobody began before the first event
some_start : (h : History) (task : ℕ) (start : Entry) → start_of h task ≡ Some start → h ≢ []
some_start h task start is none =
    absurd (let e : None ≡ Some start = sym (ap (λ h. start_of h task) none) ∙ is in cc)

pub whole_stays : (value : List ℤ → Outcome) (limits : Limits) (tasks : List ℕ) (old new : History) (task : ℕ)
    → IsLegal limits new → OthersCame tasks old new → is_in task tasks ≡ true
    → HasWhole value old task → HasWhole value new task
whole_stays value limits tasks old new task legal came has w =
    whole_longer value limits old new task
    (IsLegal-beginning limits old new (some_start old task w.start w.start_is) legal (IsBeginning-others tasks old new came))
    legal (IsBeginning-others tasks old new came)
    (ap (λ h. received_by value h task) came.is ∙ received_by-others value came.later old task (came.others task has)) w

-- ---- leaving

-- nobody is registered before the first event
some_event : (h : History) (task : ℕ) (entry : Entry) → entry_of (members_of h) task ≡ Some entry → h ≢ []
some_event h task entry member none =
    absurd (let e : None ≡ Some entry = sym (ap (λ h. entry_of (members_of h) task) none) ∙ member in cc)

-- whoever leaves has seen a longer history
left_after : (me : ℕ) (old new : History) → Leaves me old new → IsBeginning old new
left_after me old new l =
    record { later = Dropped me ∷ l.others.later; is = l.seen ∙ ap (λ h. Dropped me ∷ h) l.others.is }

pub whole_leaves : (value : List ℤ → Outcome) (limits : Limits) (old new : History) (task : ℕ) → IsLegal limits new
    → Leaves task old new → HasWhole value old task → HasWhole value new task
whole_leaves value limits old new task legal l w =
    let later : IsBeginning old new = left_after task old new l in
    whole_longer value limits old new task
    (IsLegal-beginning limits old new (some_start old task w.start w.start_is) legal later) legal later
    ((leaver_stays task old new l).received value) w

pub whole_left : (value : List ℤ → Outcome) (limits : Limits) (me : ℕ) (entry : Entry) (old new : History) → IsLegal limits new
    → entry_of (members_of old) me ≡ Some entry → Leaves me old new → received_by value new me ≡ received_by value old me
    → HasSeenEnd old me → HasWhole value new me
whole_left value limits me entry old new legal member l same end =
    let later : IsBeginning old new = left_after me old new l in
    let before : IsLegal limits old = IsLegal-beginning limits old new (some_event old me entry member) legal later in
    whole_longer value limits old new me before legal later same
    (whole_seen value limits old me entry before member end)
