-- What a task has received is the stream from its start to its wait phase, and its phases are its
-- start and the number of its events.
use Rattle.std.proofs.Common.{◌≡◌, ℕ, ◌+◌, ◌-◌, ◌<◌, ◌≤◌, Bool, true, false, cond, eqb, List, [], ◌∷◌, ◌++◌, Option, Some, None, ℤ, length, take, drop, refl, sym, ap, subst, ◌∙◌, arith}
use Rattle.std.specs.Prelude.{is_some}
use Rattle.std.proofs.lemmas.List.{take-append-le, drop-append-le, length-drop, drop-drop}
use Rattle.std.proofs.lemmas.List.FromFn.{length-map-range_with_len}
use Rattle.std.proofs.lemmas.Option.{same_Some}
use Rattle.std.proofs.lemmas.Bool.{eqb-true, ne_eqb}
use Rattle.std.proofs.Math.Seq.{take-add}
use mathlib.Core.List.{IsPrefix}
use Rattle.phase_base.specs.Limits.{Limits}
use Rattle.phase_base.specs.Modes.{mode_waits}
use Rattle.phase_base.specs.declared.mode.Mode.TheVariants.{Wait}
use Rattle.phase_base.specs.declared.entry.Entry.{Entry}
use Rattle.phase_accum.specs.declared.outcome.Outcome.{Outcome}
use Rattle.phase_history.specs.declared.event.Event.{Event}
use Rattle.phase_history.specs.declared.event.Event.TheVariants.{Made, Registered, RegisteredNow, Signalled, Waited, Dropped}
use Rattle.phase_base.specs.Members.{member, entry_of, signalled, waited}
use Rattle.phase_history.specs.Histories.{History, members_of, done_of, top_of, founder, entry_at, signal_phase, wait_phase, greatest_used, start_of, phases_signalled, phases_waited, has_dropped}
use Rattle.phase_history.specs.Phases.{stream_of, received_by}
use Rattle.phase_history.specs.Legal.{IsLegal}
use Rattle.phase_history.proofs.Each.{Each-from}
use Rattle.phase_history.proofs.MemberLemmas.{Each-entry, is_some-entry_of-changed, entry_of-changed_same, entry_of-changed_other, entry_of-push_other, entry_of-push_new, entry_of_above, entry_of-without_other, entry_of-without_same}
use Rattle.phase_history.proofs.Refused.{passes_from, Registers, registers_from, SignalsNow, signals_from, WaitsNow, waits_from}
use Rattle.phase_history.proofs.Steps.{StandsWell, IsSound, Steps, steps, sound_of, member_entry_is}
use Rattle.phase_history.proofs.Streams.{stream_grows}

-- what the events of a task add up to, for a member with this entry
pub record Counted (value : List ℤ → Outcome) (h : History) (task : ℕ) (entry : Entry) : Type 0 where
  pub start : Entry
  pub start_is : start_of h task ≡ Some start
  pub signals : start.signal_phase + phases_signalled h task ≡ entry.signal_phase
  pub waits : start.wait_phase + phases_waited h task ≡ entry.wait_phase
  pub received : mode_waits entry.mode ≡ true
      → received_by value h task ≡ take (phases_waited h task) (drop start.wait_phase (stream_of value h))

-- what holds of a number that was never given to a task
pub record Unused (value : List ℤ → Outcome) (h : History) (task : ℕ) : Type 0 where
  pub signals : phases_signalled h task ≡ 0
  pub waits : phases_waited h task ≡ 0
  pub received : received_by value h task ≡ []
  pub stays : has_dropped h task ≡ false

some_or : {X : Type 0} (b : Bool) (x : X) (o : Option X) → cond b (Some x) o ≡ None → (b ≡ false) × (o ≡ None)
some_or true x o none = absurd (cc)
some_or false x o none = (refl, none)

pub none_from : {X : Type 0} (o : Option X) → is_some o ≡ false → o ≡ None
none_from None e = refl
none_from (Some x) e = absurd (cc)

-- who did not begin is no member
pub entry_of-none : (h : History) (task : ℕ) → start_of h task ≡ None → entry_of (members_of h) task ≡ None
entry_of-none [] task never = refl
entry_of-none (Made founding ∷ before) task never = never
entry_of-none (Registered parent child mode ∷ before) task never =
    let n = some_or (eqb child task) _ (start_of before task) never in
    entry_of-push_other (members_of before) child task _ n.0 ∙ entry_of-none before task n.1
entry_of-none (RegisteredNow parent child ∷ before) task never =
    let n = some_or (eqb child task) _ (start_of before task) never in
    entry_of-push_other (members_of before) child task _ n.0 ∙ entry_of-none before task n.1
entry_of-none (Signalled signaller lists single ∷ before) task never =
    none_from _ (is_some-entry_of-changed signaller task (signalled (length lists)) (members_of before)
    ∙ ap is_some (entry_of-none before task never))
entry_of-none (Waited waiter n ∷ before) task never =
    none_from _ (is_some-entry_of-changed waiter task (waited n) (members_of before) ∙ ap is_some (entry_of-none before task never))
entry_of-none (Dropped gone ∷ before) task never =
    elim (eqb gone task) as (λ b. (eqb gone task ≡ b) → entry_of (members_of (Dropped gone ∷ before)) task ≡ None) [
      | true ↦ λ t.
          rw (← (eqb-true _ _ t)) (entry_of-without_same (members_of before) gone)
      | false ↦ λ t. entry_of-without_other (members_of before) gone task t ∙ entry_of-none before task never
    ] refl

-- so a member is another task
member_is_other : (h : History) (other task : ℕ) (e : Entry) → start_of h task ≡ None
    → entry_of (members_of h) other ≡ Some e → eqb other task ≡ false
member_is_other h other task e never found =
    ne_eqb other task (λ same.
    (let here : entry_of (members_of h) task ≡ Some e = rw same at found in
    let none : entry_of (members_of h) task ≡ None = entry_of-none h task never in cc))

-- a number above all that were used did not begin
pub start_of-above : (h : History) (task : ℕ) → greatest_used h < task → start_of h task ≡ None
start_of-above [] task above = refl
start_of-above (Made founding ∷ before) task above =
    ap (λ b. cond b (Some founder) None) (ne_eqb founding task (λ e. omega arith))
start_of-above (Registered parent child mode ∷ before) task above =
    let x : Entry = entry_at mode (signal_phase before parent) (wait_phase before parent) in
    ap (λ b. cond b (Some x) (start_of before task)) (ne_eqb child task (λ e. omega arith))
    ∙ start_of-above before task (omega arith)
start_of-above (RegisteredNow parent child ∷ before) task above =
    let x : Entry = entry_at Wait (signal_phase before parent) (done_of before) in
    ap (λ b. cond b (Some x) (start_of before task)) (ne_eqb child task (λ e. omega arith))
    ∙ start_of-above before task (omega arith)
start_of-above (Signalled signaller lists single ∷ before) task above = start_of-above before task above
start_of-above (Waited waiter n ∷ before) task above = start_of-above before task above
start_of-above (Dropped gone ∷ before) task above = start_of-above before task above

pub unused : (value : List ℤ → Outcome) (limits : Limits) (h : History) (task : ℕ) → IsLegal limits h
    → start_of h task ≡ None → Unused value h task
unused value limits [] task legal never = absurd legal
unused value limits (Made founding ∷ before) task legal never =
    rw legal.1 (record { signals = refl; waits = refl; received = refl; stays = refl })
unused value limits (Registered parent child mode ∷ before) task legal never =
    let n = some_or (eqb child task) _ (start_of before task) never in
    let u : Unused value before task = unused value limits before task legal.0 n.1 in
    record { signals = u.signals; waits = u.waits; received = u.received; stays = u.stays }
unused value limits (RegisteredNow parent child ∷ before) task legal never =
    let n = some_or (eqb child task) _ (start_of before task) never in
    let u : Unused value before task = unused value limits before task legal.0 n.1 in
    record { signals = u.signals; waits = u.waits; received = u.received; stays = u.stays }
unused value limits (Signalled signaller lists single ∷ before) task legal never =
    let u : Unused value before task = unused value limits before task legal.0 never in
    let r : SignalsNow before signaller = signals_from limits before signaller lists single legal.1.0 in
    let apart : eqb signaller task ≡ false = member_is_other before signaller task r.entry never r.is_member in
    record { signals = rw apart u.signals; waits = u.waits; received = u.received; stays = u.stays }
unused value limits (Waited waiter n ∷ before) task legal never =
    let u : Unused value before task = unused value limits before task legal.0 never in
    let r : WaitsNow before waiter = waits_from limits before waiter n legal.1.0 in
    let apart : eqb waiter task ≡ false = member_is_other before waiter task r.entry never r.is_member in
    record { signals = u.signals; waits = rw apart u.waits; received = rw apart u.received; stays = u.stays }
unused value limits (Dropped gone ∷ before) task legal never =
    let u : Unused value before task = unused value limits before task legal.0 never in
    let p = passes_from (entry_of (members_of before) gone) (record {}) (λ entry. []) legal.1 in
    let apart : eqb gone task ≡ false = member_is_other before gone task p.entry never p.is_member in
    record { signals = u.signals; waits = u.waits; received = u.received; stays = rw apart u.stays }

-- a part of a list is that part of a longer one
pub part_of_longer : {X : Type 0} (xs ys : List X) (w k : ℕ) → IsPrefix xs ys → w + k ≤ length xs
    → take k (drop w ys) ≡ take k (drop w xs)
part_of_longer xs ys w k longer fits =
    ap (λ l. take k (drop w l)) (sym longer.1)
    ∙ ap (λ l. take k l) (drop-append-le w xs longer.0 (omega arith))
    ∙ take-append-le k (drop w xs) longer.0 (let e : length (drop w xs) ≡ length xs - w = length-drop w xs in omega arith)

length-stream : (value : List ℤ → Outcome) (h : History) → length (stream_of value h) ≡ done_of h
length-stream value h = length-map-range_with_len _ 0 (done_of h)

-- a member that keeps its entry, its start and its events through one more event
kept : (value : List ℤ → Outcome) (before : History) (event : Event) (task : ℕ) (e : Entry) → IsSound before
    → Steps before event → entry_of (members_of before) task ≡ Some e → Counted value before task e
    → start_of (event ∷ before) task ≡ start_of before task
    → phases_signalled (event ∷ before) task ≡ phases_signalled before task
    → phases_waited (event ∷ before) task ≡ phases_waited before task
    → received_by value (event ∷ before) task ≡ received_by value before task
    → Counted value (event ∷ before) task e
kept value before event task e sound step found c start signals waits received =
    let good : StandsWell (done_of before) (top_of before) (greatest_used before) (member task e) =
    Each-entry _ (members_of before) task e found sound in
    let w_is : c.start.wait_phase + phases_waited before task ≡ e.wait_phase = c.waits in
    let long : length (stream_of value before) ≡ done_of before = length-stream value before in
    record {
      start = c.start;
      start_is = start ∙ c.start_is;
      signals = ap (λ n. c.start.signal_phase + n) signals ∙ c.signals;
      waits = ap (λ n. c.start.wait_phase + n) waits ∙ c.waits;
      received = λ t.
          let low : e.wait_phase ≤ done_of before = good.waits t in
          received ∙ c.received t
          ∙ sym (part_of_longer (stream_of value before)
          (stream_of value (event ∷ before)) c.start.wait_phase (phases_waited before task)
          (stream_grows value before event step) (omega arith))
          ∙ ap (λ n. take n (drop c.start.wait_phase (stream_of value (event ∷ before)))) (sym waits);
    }

-- a new member begins at its entry
began : (value : List ℤ → Outcome) (h : History) (task : ℕ) (e : Entry) → start_of h task ≡ Some e
    → Unused value h task → Counted value h task e
began value h task e start u = record {
  start = e;
  start_is = start;
  signals = (let z : phases_signalled h task ≡ 0 = u.signals in omega arith);
  waits = (let z : phases_waited h task ≡ 0 = u.waits in omega arith);
  received = λ t. u.received ∙ ap (λ n. take n (drop e.wait_phase (stream_of value h))) (sym u.waits);
}

-- a number above all that were used is no member's
pub fresh : (h : History) (task : ℕ) → IsSound h → greatest_used h < task → entry_of (members_of h) task ≡ None
fresh h task sound above =
    entry_of_above (members_of h) task
    (Each-from (StandsWell (done_of h) (top_of h) (greatest_used h)) _
    (λ m good. (let u : m.task ≤ greatest_used h = good.used in omega arith)) (members_of h) sound)

pub counted : (value : List ℤ → Outcome) (limits : Limits) (h : History) (task : ℕ) (e : Entry) → IsLegal limits h
    → entry_of (members_of h) task ≡ Some e → Counted value h task e
counted value limits [] task e legal found = absurd legal
counted value limits (Made founding ∷ before) task e legal found =
    rw (← legal.1) at (elim (eqb founding task) as (λ b. (eqb founding task ≡ b) → (cond b (Some founder) None ≡ Some e) → Counted value (Made founding ∷ []) task e) [
      | true ↦ λ t f. began value (Made founding ∷ []) task e (rw t f) (record { signals = refl; waits = refl; received = refl; stays = refl })
      | false ↦ λ t f. absurd (cc)
    ] refl found)
counted value limits (Registered parent child mode ∷ before) task e legal found =
    let sound = sound_of limits before legal.0 in
    let r : Registers before parent child mode = registers_from before parent child mode legal.1 in
    let x : Entry = entry_at mode (signal_phase before parent) (wait_phase before parent) in
    elim (eqb child task) as (λ b. (eqb child task ≡ b) → Counted value (Registered parent child mode ∷ before) task e) [
      | true ↦ λ t.
          let same : child ≡ task = eqb-true _ _ t in
          let above : greatest_used before < task = (let a : greatest_used before < child = r.new_number in omega arith) in
          let P : ℕ → Type 0 = λ n. entry_of (members_of before ++ member n x ∷ []) task ≡ Some e in
          let at_task : entry_of (members_of before ++ member task x ∷ []) task ≡ Some e = subst P same found in
          let is : x ≡ e = same_Some _ _ (sym
          (entry_of-push_new (members_of before) task x (fresh before task sound above)) ∙ at_task) in
          let u : Unused value before task = unused value limits before task legal.0 (start_of-above before task above) in
          began value (Registered parent child mode ∷ before) task e (rw t (ap (λ y. Some y) is))
          (record { signals = u.signals; waits = u.waits; received = u.received; stays = u.stays })
      | false ↦ λ t.
          let old : entry_of (members_of before) task ≡ Some e =
          sym (entry_of-push_other (members_of before) child task x t) ∙ found in
          kept value before (Registered parent child mode) task e sound
          (steps limits before (Registered parent child mode) legal.0 sound legal.1)
          old (counted value limits before task e legal.0 old) (rw t refl) refl refl refl
    ] refl
counted value limits (RegisteredNow parent child ∷ before) task e legal found =
    let sound = sound_of limits before legal.0 in
    let r : Registers before parent child Wait = registers_from before parent child Wait legal.1 in
    let x : Entry = entry_at Wait (signal_phase before parent) (done_of before) in
    elim (eqb child task) as (λ b. (eqb child task ≡ b) → Counted value (RegisteredNow parent child ∷ before) task e) [
      | true ↦ λ t.
          let same : child ≡ task = eqb-true _ _ t in
          let above : greatest_used before < task = (let a : greatest_used before < child = r.new_number in omega arith) in
          let P : ℕ → Type 0 = λ n. entry_of (members_of before ++ member n x ∷ []) task ≡ Some e in
          let at_task : entry_of (members_of before ++ member task x ∷ []) task ≡ Some e = subst P same found in
          let is : x ≡ e = same_Some _ _ (sym
          (entry_of-push_new (members_of before) task x (fresh before task sound above)) ∙ at_task) in
          let u : Unused value before task = unused value limits before task legal.0 (start_of-above before task above) in
          began value (RegisteredNow parent child ∷ before) task e (rw t (ap (λ y. Some y) is))
          (record { signals = u.signals; waits = u.waits; received = u.received; stays = u.stays })
      | false ↦ λ t.
          let old : entry_of (members_of before) task ≡ Some e =
          sym (entry_of-push_other (members_of before) child task x t) ∙ found in
          kept value before (RegisteredNow parent child) task e sound
          (steps limits before (RegisteredNow parent child) legal.0 sound legal.1)
          old (counted value limits before task e legal.0 old) (rw t refl) refl refl refl
    ] refl
counted value limits (Signalled signaller lists single ∷ before) task e legal found =
    let sound = sound_of limits before legal.0 in
    let n = length lists in
    let event = Signalled signaller lists single in
    let step : Steps before event = steps limits before event legal.0 sound legal.1 in
    elim (eqb signaller task) as (λ b. (eqb signaller task ≡ b) → Counted value (event ∷ before) task e) [
      | true ↦ λ t.
          let r : SignalsNow before signaller = signals_from limits before signaller lists single legal.1.0 in
          let same : signaller ≡ task = eqb-true _ _ t in
          let old : entry_of (members_of before) task ≡ Some r.entry = rw (← same) r.is_member in
          let new_entry : entry_of (members_of (event ∷ before)) signaller ≡ Some (signalled n r.entry) =
          entry_of-changed_same signaller (signalled n) r.entry (members_of before) r.is_member in
          let is : signalled n r.entry ≡ e = same_Some _ _ (sym (rw (← same) new_entry) ∙ found) in
          let c : Counted value before task r.entry = counted value limits before task r.entry legal.0 old in
          let good : StandsWell (done_of before) (top_of before) (greatest_used before) (member task r.entry) =
          Each-entry _ (members_of before) task r.entry old sound in
          let long : length (stream_of value before) ≡ done_of before = length-stream value before in
          let s_is : c.start.signal_phase + phases_signalled before task ≡ r.entry.signal_phase = c.signals in
          let w_is : c.start.wait_phase + phases_waited before task ≡ r.entry.wait_phase = c.waits in
          let more : phases_signalled (event ∷ before) task ≡ phases_signalled before task + n = rw t refl in
          rw (← is) (record {
            start = c.start;
            start_is = c.start_is;
            signals = omega arith;
            waits = c.waits;
            received = λ w.
                let low : r.entry.wait_phase ≤ done_of before = good.waits w in
                c.received w
                ∙ sym (part_of_longer (stream_of value before)
                (stream_of value (event ∷ before)) c.start.wait_phase (phases_waited before task)
                (stream_grows value before event step) (omega arith));
          })
      | false ↦ λ t.
          let old : entry_of (members_of before) task ≡ Some e =
          sym (entry_of-changed_other signaller task (signalled n) (members_of before) t) ∙ found in
          kept value before event task e sound step old
          (counted value limits before task e legal.0 old) refl (rw t refl) refl refl
    ] refl
counted value limits (Waited waiter n ∷ before) task e legal found =
    let sound = sound_of limits before legal.0 in
    let event = Waited waiter n in
    let step : Steps before event = steps limits before event legal.0 sound legal.1 in
    elim (eqb waiter task) as (λ b. (eqb waiter task ≡ b) → Counted value (event ∷ before) task e) [
      | true ↦ λ t.
          let r : WaitsNow before waiter = waits_from limits before waiter n legal.1.0 in
          let same : waiter ≡ task = eqb-true _ _ t in
          let old : entry_of (members_of before) task ≡ Some r.entry = rw (← same) r.is_member in
          let new_entry : entry_of (members_of (event ∷ before)) waiter ≡ Some (waited n r.entry) =
          entry_of-changed_same waiter (waited n) r.entry (members_of before) r.is_member in
          let is : waited n r.entry ≡ e = same_Some _ _ (sym (rw (← same) new_entry) ∙ found) in
          let c : Counted value before task r.entry = counted value limits before task r.entry legal.0 old in
          let long : length (stream_of value before) ≡ done_of before = length-stream value before in
          let w_is : c.start.wait_phase + phases_waited before task ≡ r.entry.wait_phase = c.waits in
          let w_now : wait_phase before waiter ≡ r.entry.wait_phase =
          ap (λ (x : Entry). x.wait_phase) (member_entry_is (members_of before) waiter r.entry r.is_member) in
          let w_task : wait_phase before task ≡ r.entry.wait_phase =
          ap (λ (x : Entry). x.wait_phase) (member_entry_is (members_of before) task r.entry old) in
          let fits : wait_phase before waiter + n ≤ done_of before = legal.1.1 in
          let k = phases_waited before task in
          let a = c.start.wait_phase in
          let xs = stream_of value before in
          let more : phases_waited (event ∷ before) task ≡ k + n = rw t refl in
          let got : received_by value (event ∷ before) task
          ≡ received_by value before task ++ take n (drop (wait_phase before task) xs) = rw t refl in
          rw (← is) (record {
            start = c.start;
            start_is = c.start_is;
            signals = c.signals;
            waits = omega arith;
            received = λ w.
                got
                ∙ ap (λ l. l ++ take n (drop (wait_phase before task) xs)) (c.received r.waits)
                ∙ ap (λ m. take k (drop a xs) ++ take n (drop m xs)) (let e : wait_phase before task ≡ a + k = omega arith in e)
                ∙ ap (λ l. take k (drop a xs) ++ take n l) (sym (drop-drop k a xs))
                ∙ sym (take-add k n (drop a xs))
                ∙ sym (part_of_longer xs (stream_of value (event ∷ before)) a (k + n)
                (stream_grows value before event step) (omega arith))
                ∙ ap (λ m. take m (drop a (stream_of value (event ∷ before)))) (sym more);
          })
      | false ↦ λ t.
          let old : entry_of (members_of before) task ≡ Some e =
          sym (entry_of-changed_other waiter task (waited n) (members_of before) t) ∙ found in
          kept value before event task e sound step old
          (counted value limits before task e legal.0 old) refl refl (rw t refl) (rw t refl)
    ] refl
counted value limits (Dropped gone ∷ before) task e legal found =
    let sound = sound_of limits before legal.0 in
    elim (eqb gone task) as (λ b. (eqb gone task ≡ b) → Counted value (Dropped gone ∷ before) task e) [
      | true ↦ λ t.
          let same : gone ≡ task = eqb-true _ _ t in
          let none : entry_of (members_of (Dropped gone ∷ before)) task ≡ None =
          rw (← same) (entry_of-without_same (members_of before) gone) in
          absurd (cc)
      | false ↦ λ t.
          let old : entry_of (members_of before) task ≡ Some e =
          sym (entry_of-without_other (members_of before) gone task t) ∙ found in
          kept value before (Dropped gone) task e sound (steps limits before (Dropped gone) legal.0 sound legal.1)
          old (counted value limits before task e legal.0 old) refl refl refl refl
    ] refl
