-- What each task that began in a mode that waits has received, also after it has left.
use Rattle.std.proofs.Common.{◌≡◌, ℕ, ◌+◌, ◌-◌, ◌<◌, ◌≤◌, true, false, cond, eqb, List, [], ◌∷◌, ◌++◌, Some, None, ℤ, length, take, drop, refl, sym, ap, subst, ◌∙◌, arith}
use Rattle.std.proofs.lemmas.List.{take-append-le, drop-append-le, length-drop, length-append, length-take-le}
use Rattle.std.proofs.lemmas.List.FromFn.{length-map-range_with_len}
use Rattle.std.proofs.lemmas.Option.{same_Some}
use Rattle.std.proofs.lemmas.Bool.{eqb-true}
use mathlib.Core.List.{IsPrefix}
use Rattle.phase_base.specs.Limits.{Limits}
use Rattle.phase_base.specs.Modes.{mode_waits}
use Rattle.phase_base.specs.declared.mode.Mode.TheVariants.{Wait}
use Rattle.phase_base.specs.declared.entry.Entry.{Entry}
use Rattle.phase_accum.specs.declared.outcome.Outcome.{Outcome}
use Rattle.phase_history.specs.declared.event.Event.{Event}
use Rattle.phase_history.specs.declared.event.Event.TheVariants.{Made, Registered, RegisteredNow, Signalled, Waited, Dropped}
use Rattle.phase_base.specs.Members.{member, entry_of, waited}
use Rattle.phase_history.specs.Histories.{History, members_of, done_of, top_of, founder, entry_at, signal_phase, wait_phase, greatest_used, start_of, phases_waited}
use Rattle.phase_history.specs.Phases.{value_of_phase, stream_of, received_by}
use Rattle.phase_history.specs.Legal.{IsLegal}
use Rattle.phase_history.specs.Laws.{HasReceivedFrom}
use Rattle.phase_history.proofs.MemberLemmas.{Each-entry, entry_of-changed_same, entry_of-push_new}
use Rattle.phase_history.proofs.Refused.{Registers, registers_from, WaitsNow, waits_from}
use Rattle.phase_history.proofs.Steps.{StandsWell, IsSound, Steps, steps, sound_of}
use Rattle.phase_history.proofs.Streams.{stream_grows}
use Rattle.phase_history.proofs.Received.{Counted, counted, fresh}

-- the same, with the part of the stream cut out
record HasGot (value : List ℤ → Outcome) (h : History) (task : ℕ) (start : Entry) : Type 0 where
  complete : start.wait_phase + phases_waited h task ≤ done_of h
  received : received_by value h task ≡ take (phases_waited h task) (drop start.wait_phase (stream_of value h))

-- of a member
of_member : (value : List ℤ → Outcome) (limits : Limits) (h : History) (task : ℕ) (e start : Entry) → IsLegal limits h
    → entry_of (members_of h) task ≡ Some e → mode_waits e.mode ≡ true → start_of h task ≡ Some start → HasGot value h task start
of_member value limits h task e start legal found waits start_is =
    let c : Counted value h task e = counted value limits h task e legal found in
    let good : StandsWell (done_of h) (top_of h) (greatest_used h) (member task e) = Each-entry _ (members_of h) task e found (sound_of limits h legal) in
    let same : c.start ≡ start = same_Some _ _ (sym c.start_is ∙ start_is) in
    let at : c.start.wait_phase + phases_waited h task ≡ e.wait_phase = c.waits in
    let low : e.wait_phase ≤ done_of h = good.waits waits in
    rw (← same) (record { complete = omega arith; received = c.received waits })

-- an event that is none of the task's waits leaves it
onward : (value : List ℤ → Outcome) (before : History) (event : Event) (task : ℕ) (start : Entry) → Steps before event
    → HasGot value before task start
    → phases_waited (event ∷ before) task ≡ phases_waited before task
    → received_by value (event ∷ before) task ≡ received_by value before task
    → HasGot value (event ∷ before) task start
onward value before event task start step g waited_same received_same =
    let xs = stream_of value before in
    let ys = stream_of value (event ∷ before) in
    let longer : IsPrefix xs ys = stream_grows value before event step in
    let long : length xs ≡ done_of before = length-map-range_with_len _ 0 (done_of before) in
    let w = start.wait_phase in
    let k = phases_waited before task in
    let fits : w + k ≤ done_of before = g.complete in
    let more : done_of before ≤ done_of (event ∷ before) = step.grows in
    record {
      complete = omega arith;
      received = received_same ∙ g.received
          ∙ sym (ap (λ l. take k (drop w l)) (sym longer.1)
          ∙ ap (λ l. take k l) (drop-append-le w xs longer.0 (omega arith))
          ∙ take-append-le k (drop w xs) longer.0 (let e : length (drop w xs) ≡ length xs - w = length-drop w xs in omega arith))
          ∙ ap (λ n. take n (drop w ys)) (sym waited_same);
    }

-- a child that began with this entry is a member with it
began : (before : History) (child task : ℕ) (x : Entry) → IsSound before → greatest_used before < child → child ≡ task
    → entry_of (members_of before ++ member child x ∷ []) task ≡ Some x
began before child task x sound above same =
    rw (← same) (entry_of-push_new (members_of before) child x (fresh before child sound above))

has_got : (value : List ℤ → Outcome) (limits : Limits) (h : History) (task : ℕ) (start : Entry) → IsLegal limits h
    → start_of h task ≡ Some start → mode_waits start.mode ≡ true → HasGot value h task start
has_got value limits [] task start legal start_is waits = absurd legal
has_got value limits (Made founding ∷ before) task start legal start_is waits =
    let legal_alone : IsLegal limits (Made founding ∷ []) = (legal.0, refl) in
    rw (← legal.1) at (elim (eqb founding task) as (λ b. (eqb founding task ≡ b) → (cond b (Some founder) None ≡ Some start) → HasGot value (Made founding ∷ []) task start) [
      | true ↦ λ t s.
          let found : entry_of (member founding founder ∷ []) task ≡ Some founder = ap (λ b. cond b (Some founder) None) t in
          let is : start_of (Made founding ∷ []) task ≡ Some start = ap (λ b. cond b (Some founder) None) t ∙ s in
          of_member value limits (Made founding ∷ []) task founder start legal_alone found refl is
      | false ↦ λ t s. absurd (cc)
    ] refl start_is)
has_got value limits (Registered parent child mode ∷ before) task start legal start_is waits =
    let sound = sound_of limits before legal.0 in
    let r : Registers before parent child mode = registers_from before parent child mode legal.1 in
    let event = Registered parent child mode in
    let x : Entry = entry_at mode (signal_phase before parent) (wait_phase before parent) in
    elim (eqb child task) as (λ b. (eqb child task ≡ b) → (cond b (Some x) (start_of before task) ≡ Some start) → HasGot value (event ∷ before) task start) [
      | true ↦ λ t s.
          let is : x ≡ start = same_Some _ _ s in
          let found = began before child task x sound r.new_number (eqb-true _ _ t) in
          let at_start : start_of (event ∷ before) task ≡ Some start = ap (λ b. cond b (Some x) (start_of before task)) t ∙ s in
          of_member value limits (event ∷ before) task x start legal found (rw (← is) at waits) at_start
      | false ↦ λ t s.
          onward value before event task start (steps limits before event legal.0 sound legal.1)
          (has_got value limits before task start legal.0 s waits) refl refl
    ] refl start_is
has_got value limits (RegisteredNow parent child ∷ before) task start legal start_is waits =
    let sound = sound_of limits before legal.0 in
    let r : Registers before parent child Wait = registers_from before parent child Wait legal.1 in
    let event = RegisteredNow parent child in
    let x : Entry = entry_at Wait (signal_phase before parent) (done_of before) in
    elim (eqb child task) as (λ b. (eqb child task ≡ b) → (cond b (Some x) (start_of before task) ≡ Some start) → HasGot value (event ∷ before) task start) [
      | true ↦ λ t s.
          let found = began before child task x sound r.new_number (eqb-true _ _ t) in
          let at_start : start_of (event ∷ before) task ≡ Some start = ap (λ b. cond b (Some x) (start_of before task)) t ∙ s in
          of_member value limits (event ∷ before) task x start legal found refl at_start
      | false ↦ λ t s.
          onward value before event task start (steps limits before event legal.0 sound legal.1)
          (has_got value limits before task start legal.0 s waits) refl refl
    ] refl start_is
has_got value limits (Signalled signaller lists single ∷ before) task start legal start_is waits =
    let event = Signalled signaller lists single in
    onward value before event task start (steps limits before event legal.0 (sound_of limits before legal.0) legal.1)
    (has_got value limits before task start legal.0 start_is waits) refl refl
has_got value limits (Waited waiter n ∷ before) task start legal start_is waits =
    let event = Waited waiter n in
    let r : WaitsNow before waiter = waits_from limits before waiter n legal.1.0 in
    elim (eqb waiter task) as (λ b. (eqb waiter task ≡ b) → HasGot value (event ∷ before) task start) [
      | true ↦ λ t.
          let found : entry_of (members_of (event ∷ before)) task ≡ Some (waited n r.entry) =
          rw (← (eqb-true _ _ t)) (entry_of-changed_same waiter (waited n) r.entry (members_of before) r.is_member) in
          of_member value limits (event ∷ before) task (waited n r.entry) start legal found r.waits start_is
      | false ↦ λ t.
          onward value before event task start (steps limits before event legal.0 (sound_of limits before legal.0) legal.1)
          (has_got value limits before task start legal.0 start_is waits) (rw t refl) (rw t refl)
    ] refl
has_got value limits (Dropped gone ∷ before) task start legal start_is waits =
    let event = Dropped gone in
    onward value before event task start (steps limits before event legal.0 (sound_of limits before legal.0) legal.1)
    (has_got value limits before task start legal.0 start_is waits) refl refl

pub received_law : (value : List ℤ → Outcome) (limits : Limits) (h : History) (task : ℕ) (start : Entry) → IsLegal limits h
    → start_of h task ≡ Some start → mode_waits start.mode ≡ true → HasReceivedFrom value h task start
received_law value limits h task start legal start_is waits =
    let g : HasGot value h task start = has_got value limits h task start legal start_is waits in
    let n = phases_waited h task in
    let count : (start.wait_phase + n) - start.wait_phase ≡ n = omega arith in
    record {
      complete = g.complete;
      received = g.received ∙ ap (λ k. take k (drop start.wait_phase (stream_of value h))) (sym count);
    }

-- ---- how much each task has received

-- as many values as phases that it waited for, all of which were complete
pub length-received : (value : List ℤ → Outcome) (limits : Limits) (h : History) (task : ℕ)
    → IsLegal limits h → length (received_by value h task) ≡ phases_waited h task
length-received value limits [] task legal = absurd legal
length-received value limits (Made founding ∷ before) task legal =
    rw legal.1 refl
length-received value limits (Registered parent child mode ∷ before) task legal =
    length-received value limits before task legal.0
length-received value limits (RegisteredNow parent child ∷ before) task legal =
    length-received value limits before task legal.0
length-received value limits (Signalled signaller lists single ∷ before) task legal =
    length-received value limits before task legal.0
length-received value limits (Dropped gone ∷ before) task legal =
    length-received value limits before task legal.0
length-received value limits (Waited waiter n ∷ before) task legal =
    let w = wait_phase before task in
    let xs = stream_of value before in
    let got = received_by value before task in
    let earlier : length got ≡ phases_waited before task =
    length-received value limits before task legal.0 in
    elim (eqb waiter task) as (λ b. (eqb waiter task ≡ b)
    → length (cond b (got ++ take n (drop w xs)) got)
    ≡ cond b (phases_waited before task + n) (phases_waited before task)) [
      | true ↦ λ t.
          let at : wait_phase before waiter ≡ w =
          ap (λ m. wait_phase before m) (eqb-true waiter task t) in
          let complete : wait_phase before waiter + n ≤ done_of before = legal.1.1 in
          let long : length xs ≡ done_of before =
          length-map-range_with_len (value_of_phase value before) 0 (done_of before) in
          let rest : length (drop w xs) ≡ length xs - w = length-drop w xs in
          let whole : length (take n (drop w xs)) ≡ n =
          length-take-le n (drop w xs) (omega arith) in
          omega (arith, length-append got (take n (drop w xs)))
      | false ↦ λ t. earlier
    ] refl
