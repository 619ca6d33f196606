-- Whose an event is, and what stays while others' events come.
use Rattle.std.proofs.Common.{◌≡◌, ℕ, ◌+◌, Bool, true, false, ◌||◌, cond, eqb, List, [], ◌∷◌, ◌++◌, ℤ, length, take, drop, refl, sym, ap, ◌∙◌, arith}
use Rattle.std.specs.List.{sum_by}
use Rattle.std.proofs.lemmas.List.{append_assoc}
use Rattle.std.proofs.lemmas.List.Elements.{filter-append}
use Rattle.std.proofs.lemmas.List.Sums.{sum_by-cons}
use Rattle.std.proofs.lemmas.Bool.{eq-eqb}
use Rattle.phase_accum.specs.declared.outcome.Outcome.{Outcome}
use Rattle.phase_history.specs.declared.event.Event.{Event}
use Rattle.phase_history.specs.declared.event.Event.TheVariants.{Made, Registered, RegisteredNow, Signalled, Waited, Dropped}
use Rattle.phase_history.specs.Histories.{History, IsBeginning, signal_phase, wait_phase, phases_signalled, phases_waited, has_dropped}
use Rattle.phase_history.specs.Phases.{list_in_phase, stream_of, received_by}
use Rattle.phase_history.specs.Others.{is_by, events_of, phases_of_signal, phases_of_wait, OthersCame}
use Rattle.phase_base.specs.Lists.{is_in}
use Rattle.phase_history.specs.Sent.{sent_by, sent_in, gathered}

-- an event in front that is not the task's
pub record Skips (task : ℕ) (event : Event) (before : History) : Type 0 where
  pub not_by : is_by task event ≡ false
  pub rest : events_of task before ≡ []

pub skips : (task : ℕ) (event : Event) (before : History) → events_of task (event ∷ before) ≡ [] → Skips task event before
skips task event before none =
    elim (is_by task event) as (λ b. (is_by task event ≡ b) → cond b (event ∷ events_of task before) (events_of task before) ≡ [] → Skips task event before) [
      | true ↦ λ t n. absurd (cc)
      | false ↦ λ t n. record { not_by = t; rest = n }
    ]
    refl none

-- ---- that others' events came

pub IsBeginning-others : (tasks : List ℕ) (old new : History) → OthersCame tasks old new → IsBeginning old new
IsBeginning-others tasks old new came = record { later = came.later; is = came.is }

pub OthersCame-refl : (tasks : List ℕ) (h : History) → OthersCame tasks h h
OthersCame-refl tasks h = record { later = []; is = refl; others = λ task has. refl }

pub OthersCame-event : (tasks : List ℕ) (h : History) (event : Event)
    → ((task : ℕ) → is_in task tasks ≡ true → is_by task event ≡ false) → OthersCame tasks h (event ∷ h)
OthersCame-event tasks h event other = record {
  later = event ∷ [];
  is = refl;
  others = λ task has. ap (λ b. cond b (event ∷ []) []) (other task has);
}

pub OthersCame-trans : (tasks : List ℕ) (first second third : History) → OthersCame tasks first second
    → OthersCame tasks second third → OthersCame tasks first third
OthersCame-trans tasks first second third p q = record {
  later = q.later ++ p.later;
  is = q.is ∙ ap (λ h. q.later ++ h) p.is ∙ sym (append_assoc q.later p.later first);
  others = λ task has. filter-append (is_by task) q.later p.later ∙ ap (λ l. l ++ events_of task p.later) (q.others task has) ∙ p.others task has;
}

pub OthersCame-fewer : (tasks fewer : List ℕ) (old new : History)
    → ((task : ℕ) → is_in task fewer ≡ true → is_in task tasks ≡ true) → OthersCame tasks old new → OthersCame fewer old new
OthersCame-fewer tasks fewer old new within came =
    record { later = came.later; is = came.is; others = λ task has. came.others task (within task has) }

-- ---- a task's own part of the history

-- what each event of another task leaves, all of them leave
stays : {X : Type 0} (part : History → X) (task : ℕ)
    → ((event : Event) (before : History) → is_by task event ≡ false → part (event ∷ before) ≡ part before)
    → (later h : History) → events_of task later ≡ [] → part (later ++ h) ≡ part h
stays part task leaves [] h none = refl
stays part task leaves (event ∷ later) h none =
    let s = skips task event later none in
    leaves event (later ++ h) s.not_by ∙ stays part task leaves later h s.rest

pub events_of-others : (later h : History) (task : ℕ) → events_of task later ≡ [] → events_of task (later ++ h) ≡ events_of task h
events_of-others later h task none = filter-append (is_by task) later h ∙ ap (λ l. l ++ events_of task h) none

received_by-other : (value : List ℤ → Outcome) (task : ℕ) (event : Event) (before : History) → is_by task event ≡ false
    → received_by value (event ∷ before) task ≡ received_by value before task
received_by-other value task (Made founding) before other = refl
received_by-other value task (Registered parent child mode) before other = refl
received_by-other value task (RegisteredNow parent child) before other = refl
received_by-other value task (Signalled signaller lists single) before other = refl
received_by-other value task (Waited waiter n) before other =
    ap (λ b. cond b (received_by value before task ++ take n (drop (wait_phase before task) (stream_of value before))) (received_by value before task)) other
received_by-other value task (Dropped gone) before other = refl

pub received_by-others : (value : List ℤ → Outcome) (later h : History) (task : ℕ) → events_of task later ≡ []
    → received_by value (later ++ h) task ≡ received_by value h task
received_by-others value later h task none = stays (λ g. received_by value g task) task (received_by-other value task) later h none

phases_signalled-other : (task : ℕ) (event : Event) (before : History) → is_by task event ≡ false
    → phases_signalled (event ∷ before) task ≡ phases_signalled before task
phases_signalled-other task (Made founding) before other = refl
phases_signalled-other task (Registered parent child mode) before other = refl
phases_signalled-other task (RegisteredNow parent child) before other = refl
phases_signalled-other task (Signalled signaller lists single) before other =
    ap (λ b. cond b (phases_signalled before task + length lists) (phases_signalled before task)) other
phases_signalled-other task (Waited waiter n) before other = refl
phases_signalled-other task (Dropped gone) before other = refl

pub phases_signalled-others : (later h : History) (task : ℕ) → events_of task later ≡ []
    → phases_signalled (later ++ h) task ≡ phases_signalled h task
phases_signalled-others later h task none = stays (λ g. phases_signalled g task) task (phases_signalled-other task) later h none

phases_waited-other : (task : ℕ) (event : Event) (before : History) → is_by task event ≡ false
    → phases_waited (event ∷ before) task ≡ phases_waited before task
phases_waited-other task (Made founding) before other = refl
phases_waited-other task (Registered parent child mode) before other = refl
phases_waited-other task (RegisteredNow parent child) before other = refl
phases_waited-other task (Signalled signaller lists single) before other = refl
phases_waited-other task (Waited waiter n) before other =
    ap (λ b. cond b (phases_waited before task + n) (phases_waited before task)) other
phases_waited-other task (Dropped gone) before other = refl

pub phases_waited-others : (later h : History) (task : ℕ) → events_of task later ≡ []
    → phases_waited (later ++ h) task ≡ phases_waited h task
phases_waited-others later h task none = stays (λ g. phases_waited g task) task (phases_waited-other task) later h none

has_dropped-other : (task : ℕ) (event : Event) (before : History) → is_by task event ≡ false
    → has_dropped (event ∷ before) task ≡ has_dropped before task
has_dropped-other task (Made founding) before other = refl
has_dropped-other task (Registered parent child mode) before other = refl
has_dropped-other task (RegisteredNow parent child) before other = refl
has_dropped-other task (Signalled signaller lists single) before other = refl
has_dropped-other task (Waited waiter n) before other = refl
has_dropped-other task (Dropped gone) before other = ap (λ b. cond b true (has_dropped before task)) other

pub has_dropped-others : (later h : History) (task : ℕ) → events_of task later ≡ []
    → has_dropped (later ++ h) task ≡ has_dropped h task
has_dropped-others later h task none = stays (λ g. has_dropped g task) task (has_dropped-other task) later h none

sent_by-other : (task : ℕ) (event : Event) (before : History) → is_by task event ≡ false
    → sent_by (event ∷ before) task ≡ sent_by before task
sent_by-other task (Made founding) before other = refl
sent_by-other task (Registered parent child mode) before other = refl
sent_by-other task (RegisteredNow parent child) before other = refl
sent_by-other task (Signalled signaller lists single) before other =
    ap (λ b. cond b (sent_by before task ++ lists) (sent_by before task)) other
sent_by-other task (Waited waiter n) before other = refl
sent_by-other task (Dropped gone) before other = refl

pub sent_by-others : (later h : History) (task : ℕ) → events_of task later ≡ [] → sent_by (later ++ h) task ≡ sent_by h task
sent_by-others later h task none = stays (λ g. sent_by g task) task (sent_by-other task) later h none

sent_in-other : (p task : ℕ) (event : Event) (before : History) → is_by task event ≡ false
    → sent_in (event ∷ before) task p ≡ sent_in before task p
sent_in-other p task (Made founding) before other = refl
sent_in-other p task (Registered parent child mode) before other = refl
sent_in-other p task (RegisteredNow parent child) before other = refl
sent_in-other p task (Signalled signaller lists single) before other =
    ap (λ b. cond b (sent_in before task p ++ list_in_phase lists (signal_phase before signaller) p) (sent_in before task p)) other
sent_in-other p task (Waited waiter n) before other = refl
sent_in-other p task (Dropped gone) before other = refl

pub sent_in-others : (later h : History) (task p : ℕ) → events_of task later ≡ [] → sent_in (later ++ h) task p ≡ sent_in h task p
sent_in-others later h task p none = stays (λ g. sent_in g task p) task (sent_in-other p task) later h none

-- what some of these tasks have sent together
gathered-some : (later h : History) (tasks some : List ℕ) (p : ℕ) → ((task : ℕ) → is_in task tasks ≡ true → events_of task later ≡ [])
    → ((task : ℕ) → is_in task some ≡ true → is_in task tasks ≡ true) → gathered (later ++ h) some p ≡ gathered h some p
gathered-some later h tasks [] p others within = refl
gathered-some later h tasks (task ∷ some) p others within =
    let here : is_in task (task ∷ some) ≡ true = ap (λ b. b || is_in task some) (eq-eqb task task refl) in
    ap (λ l. l ++ gathered (later ++ h) some p) (sent_in-others later h task p (others task (within task here)))
    ∙ ap (λ l. sent_in h task p ++ l)
    (gathered-some later h tasks some p others (λ other has. within other (behind (eqb task other) (is_in other some) has)))
  where
    behind : (a b : Bool) → b ≡ true → (a || b) ≡ true
    behind true b e = refl
    behind false b e = e

pub gathered-others : (later h : History) (tasks : List ℕ) (p : ℕ) → ((task : ℕ) → is_in task tasks ≡ true → events_of task later ≡ [])
    → gathered (later ++ h) tasks p ≡ gathered h tasks p
gathered-others later h tasks p others = gathered-some later h tasks tasks p others (λ task has. has)

-- ---- what a task's events add up to

-- an event that counts nothing adds nothing
sum_by-nothing : (count : Event → ℕ) (task : ℕ) (event : Event) (before : History) → count event ≡ 0
    → sum_by count (events_of task before) ≡ sum_by count (events_of task (event ∷ before))
sum_by-nothing count task event before none =
    let more : sum_by count (event ∷ events_of task before) ≡ count event + sum_by count (events_of task before) =
    sum_by-cons count event (events_of task before) in
    elim (is_by task event) as (λ b. sum_by count (events_of task before) ≡ sum_by count (cond b (event ∷ events_of task before) (events_of task before))) [
      | true ↦ omega arith
      | false ↦ refl
    ]

pub phases_signalled-events : (h : History) (task : ℕ) → phases_signalled h task ≡ sum_by phases_of_signal (events_of task h)
phases_signalled-events [] task = refl
phases_signalled-events (Made founding ∷ before) task = phases_signalled-events before task
phases_signalled-events (Registered parent child mode ∷ before) task =
    phases_signalled-events before task ∙ sum_by-nothing phases_of_signal task (Registered parent child mode) before refl
phases_signalled-events (RegisteredNow parent child ∷ before) task =
    phases_signalled-events before task ∙ sum_by-nothing phases_of_signal task (RegisteredNow parent child) before refl
phases_signalled-events (Signalled signaller lists single ∷ before) task =
    let now = Signalled signaller lists single in
    let earlier : phases_signalled before task ≡ sum_by phases_of_signal (events_of task before) = phases_signalled-events before task in
    let more : sum_by phases_of_signal (now ∷ events_of task before) ≡ length lists + sum_by phases_of_signal (events_of task before) =
    sum_by-cons phases_of_signal now (events_of task before) in
    elim (eqb signaller task) as (λ b. cond b (phases_signalled before task + length lists) (phases_signalled before task)
    ≡ sum_by phases_of_signal (cond b (now ∷ events_of task before) (events_of task before))) [
      | true ↦ omega arith
      | false ↦ earlier
    ]
phases_signalled-events (Waited waiter n ∷ before) task =
    phases_signalled-events before task ∙ sum_by-nothing phases_of_signal task (Waited waiter n) before refl
phases_signalled-events (Dropped gone ∷ before) task =
    phases_signalled-events before task ∙ sum_by-nothing phases_of_signal task (Dropped gone) before refl

pub phases_waited-events : (h : History) (task : ℕ) → phases_waited h task ≡ sum_by phases_of_wait (events_of task h)
phases_waited-events [] task = refl
phases_waited-events (Made founding ∷ before) task = phases_waited-events before task
phases_waited-events (Registered parent child mode ∷ before) task =
    phases_waited-events before task ∙ sum_by-nothing phases_of_wait task (Registered parent child mode) before refl
phases_waited-events (RegisteredNow parent child ∷ before) task =
    phases_waited-events before task ∙ sum_by-nothing phases_of_wait task (RegisteredNow parent child) before refl
phases_waited-events (Signalled signaller lists single ∷ before) task =
    phases_waited-events before task ∙ sum_by-nothing phases_of_wait task (Signalled signaller lists single) before refl
phases_waited-events (Waited waiter n ∷ before) task =
    let now = Waited waiter n in
    let earlier : phases_waited before task ≡ sum_by phases_of_wait (events_of task before) = phases_waited-events before task in
    let more : sum_by phases_of_wait (now ∷ events_of task before) ≡ n + sum_by phases_of_wait (events_of task before) =
    sum_by-cons phases_of_wait now (events_of task before) in
    elim (eqb waiter task) as (λ b. cond b (phases_waited before task + n) (phases_waited before task)
    ≡ sum_by phases_of_wait (cond b (now ∷ events_of task before) (events_of task before))) [
      | true ↦ omega arith
      | false ↦ earlier
    ]
phases_waited-events (Dropped gone ∷ before) task =
    phases_waited-events before task ∙ sum_by-nothing phases_of_wait task (Dropped gone) before refl
