-- Who holds a phase open, and who reached the top.
use Rattle.std.proofs.Common.{◌≡◌, ℕ, ◌+◌, ◌<◌, ◌≤◌, true, false, cond, eqb, [], ◌∷◌, ◌++◌, Option, Some, None, length, max, unwrap_or, refl, sym, ap, subst, ◌∙◌, arith, ◌⊎◌, inl, inr}
use Rattle.std.specs.Prelude.{is_some, IsSome}
use Rattle.std.proofs.lemmas.Bool.{eqb-true, ne_eqb, eq-eqb, cases_lt}
use Rattle.std.proofs.lemmas.Option.{same_Some}
use Rattle.phase_base.specs.Limits.{Limits}
use Rattle.phase_base.specs.Modes.{mode_signals}
use Rattle.phase_base.specs.declared.mode.Mode.TheVariants.{Wait}
use Rattle.phase_base.specs.declared.entry.Entry.{Entry}
use Rattle.phase_base.specs.declared.member.Member.{Member}
use Rattle.phase_history.specs.declared.event.Event.TheVariants.{Made, Registered, RegisteredNow, Signalled, Waited, Dropped}
use Rattle.phase_base.specs.Members.{Members, member, entry_of, signal_phases, changed_at, without, least, signalled, waited}
use Rattle.phase_history.specs.Histories.{History, positions_of, members_of, signal_phase, wait_phase, done_of, top_of, greatest_used, start_of, founder, entry_at, phases_signalled, has_dropped, HasNoSignaller}
use Rattle.phase_history.specs.Legal.{IsLegal}
use Rattle.phase_history.specs.Others.{IsUsed}
use Rattle.phase_history.proofs.Each.{Each, Each-of_picked}
use Rattle.phase_history.proofs.Refused.{Registers, registers_from, SignalsNow, signals_from, WaitsNow, waits_from}
use Rattle.phase_history.proofs.Steps.{StandsWell, IsSound, sound_of, member_entry_is, done_low}
use Rattle.phase_history.proofs.MemberLemmas.{Each-entry, entry_of-changed_same, entry_of-changed_other, entry_of-push_other, entry_of-push_new, entry_of-without_other, entry_of-without_same}
use Rattle.phase_history.proofs.Received.{Counted, counted, fresh, Unused, unused, start_of-above}
use Rattle.phase_history.specs.Sent.{ReachesTop}
use Rattle.phase_history.proofs.Alive.{alive_law}
use Rattle.phase_history.proofs.Used.{start_from, start_used}
use Rattle.phase_history.proofs.Sendings.{nothing}

-- ---- the mode in which a task began

joined : (before : History) (child task : ℕ) (x e : Entry) (o : Option Entry) → IsSound before → greatest_used before < child
    → entry_of (members_of before ++ member child x ∷ []) task ≡ Some e
    → (entry_of (members_of before) task ≡ Some e → (start : Entry) × (o ≡ Some start) × (start.mode ≡ e.mode))
    → (start : Entry) × (cond (eqb child task) (Some x) o ≡ Some start) × (start.mode ≡ e.mode)
joined before child task x e o sound above found known =
    elim (eqb child task) as (λ b. (eqb child task ≡ b) → (start : Entry) × (cond b (Some x) o ≡ Some start) × (start.mode ≡ e.mode)) [
      | true ↦ λ t.
          let same : child ≡ task = eqb-true _ _ t in
          let at_task : entry_of (members_of before ++ member task x ∷ []) task ≡ Some e = rw same at found in
          let is : x ≡ e = same_Some _ _ (sym (entry_of-push_new (members_of before) task x (fresh before task sound (omega arith))) ∙ at_task) in
          (x, refl, ap (λ (y : Entry). y.mode) is)
      | false ↦ λ t. known (sym (entry_of-push_other (members_of before) child task x t) ∙ found)
    ] refl

changed : (before : History) (t task : ℕ) (f : Entry → Entry) (r e : Entry) → ((x : Entry) → (f x).mode ≡ x.mode)
    → entry_of (members_of before) t ≡ Some r
    → entry_of (changed_at t f (members_of before)) task ≡ Some e
    → (x : Entry) × (entry_of (members_of before) task ≡ Some x) × (x.mode ≡ e.mode)
changed before t task f r e keeps is_member found =
    elim (eqb t task) as (λ b. (eqb t task ≡ b) → (x : Entry) × (entry_of (members_of before) task ≡ Some x) × (x.mode ≡ e.mode)) [
      | true ↦ λ q.
          let same : t ≡ task = eqb-true _ _ q in
          let here : entry_of (members_of before) task ≡ Some r = ap (λ n. entry_of (members_of before) n) (sym same) ∙ is_member in
          let is : f r ≡ e = same_Some _ _ (sym (entry_of-changed_same task f r (members_of before) here) ∙ rw same at found) in
          (r, here, sym (keeps r) ∙ ap (λ (y : Entry). y.mode) is)
      | false ↦ λ q. (e, sym (entry_of-changed_other t task f (members_of before) q) ∙ found, refl)
    ] refl

pub began : (limits : Limits) (h : History) (task : ℕ) (e : Entry) → IsLegal limits h → entry_of (members_of h) task ≡ Some e
    → (start : Entry) × (start_of h task ≡ Some start) × (start.mode ≡ e.mode)
began limits [] task e legal found = absurd legal
began limits (Made t ∷ before) task e legal found = (e, found, refl)
began limits (Registered parent child mode ∷ before) task e legal found =
    let r : Registers before parent child mode = registers_from before parent child mode legal.1 in
    joined before child task _ e _ (sound_of limits before legal.0) r.new_number found (λ f. began limits before task e legal.0 f)
began limits (RegisteredNow parent child ∷ before) task e legal found =
    let r : Registers before parent child Wait = registers_from before parent child Wait legal.1 in
    joined before child task _ e _ (sound_of limits before legal.0) r.new_number found (λ f. began limits before task e legal.0 f)
began limits (Signalled t lists single ∷ before) task e legal found =
    let r : SignalsNow before t = signals_from limits before t lists single legal.1.0 in
    let c = changed before t task (signalled (length lists)) r.entry e (λ x. refl) r.is_member found in
    let b = began limits before task c.0 legal.0 c.1 in
    (b.0, b.1, b.2 ∙ c.2)
began limits (Waited t n ∷ before) task e legal found =
    let r : WaitsNow before t = waits_from limits before t n legal.1.0 in
    let c = changed before t task (waited n) r.entry e (λ x. refl) r.is_member found in
    let b = began limits before task c.0 legal.0 c.1 in
    (b.0, b.1, b.2 ∙ c.2)
began limits (Dropped gone ∷ before) task e legal found =
    elim (eqb gone task) as (λ b. (eqb gone task ≡ b) → (start : Entry) × (start_of before task ≡ Some start) × (start.mode ≡ e.mode)) [
      | true ↦ λ t.
          let none : entry_of (without gone (members_of before)) task ≡ None = rw (← (eqb-true _ _ t)) (entry_of-without_same (members_of before) gone) in
          absurd (let e : None ≡ Some e = sym none ∙ found in cc)
      | false ↦ λ t. began limits before task e legal.0 (sym (entry_of-without_other (members_of before) gone task t) ∙ found)
    ] refl

-- a registered signaller, by its start
pub record Signals (h : History) (task : ℕ) (start : Entry) : Type 0 where
  pub entry : Entry
  pub is_member : entry_of (members_of h) task ≡ Some entry
  pub signals : mode_signals entry.mode ≡ true
  pub at : start.signal_phase + phases_signalled h task ≡ entry.signal_phase

pub signals_still : (limits : Limits) (h : History) (task : ℕ) (start : Entry) → IsLegal limits h → start_of h task ≡ Some start
    → mode_signals start.mode ≡ true → has_dropped h task ≡ false → Signals h task start
signals_still limits h task start legal is signals stays =
    let law = alive_law limits h task legal in
    let some : is_some (start_of h task) ≡ true = ap is_some is in
    let alive : is_some (entry_of (members_of h) task) ≡ true = law.1 (some, stays) in
    let e = start_from (entry_of (members_of h) task) alive in
    let b = began limits h task e.0 legal e.1 in
    let same : b.0 ≡ start = same_Some _ _ (sym b.1 ∙ is) in
    let c : Counted nothing h task e.0 = counted nothing limits h task e.0 legal e.1 in
    let same_start : c.start ≡ start = same_Some _ _ (sym c.start_is ∙ is) in
    record {
      entry = e.0;
      is_member = e.1;
      signals = ap mode_signals (sym b.2 ∙ ap (λ (x : Entry). x.mode) same) ∙ signals;
      at = ap (λ (x : Entry). x.signal_phase + phases_signalled h task) (sym same_start) ∙ c.signals;
    }

-- no phase that a registered signaller has yet to signal is complete
pub holds_open : (limits : Limits) (h : History) (task : ℕ) (start : Entry) → IsLegal limits h → start_of h task ≡ Some start
    → mode_signals start.mode ≡ true → has_dropped h task ≡ false → done_of h ≤ start.signal_phase + phases_signalled h task
holds_open limits h task start legal is signals stays =
    let s : Signals h task start = signals_still limits h task start legal is signals stays in
    let low : mode_signals s.entry.mode ≡ true → done_of h ≤ s.entry.signal_phase = Each-entry _ (members_of h) task s.entry s.is_member (done_low (positions_of h)) in
    omega (arith, low s.signals, s.at)

-- where no task signals, each that began as a signaller has dropped
pub all_dropped : (limits : Limits) (h : History) (task : ℕ) (start : Entry) → IsLegal limits h → HasNoSignaller h → start_of h task ≡ Some start
    → mode_signals start.mode ≡ true → has_dropped h task ≡ true
all_dropped limits h task start legal quiet is signals =
    elim (has_dropped h task) as (λ b. (has_dropped h task ≡ b) → b ≡ true) [
      | true ↦ λ e. refl
      | false ↦ λ stays.
          let s : Signals h task start = signals_still limits h task start legal is signals stays in
          let none : mode_signals s.entry.mode ≡ true → ⊥ = Each-entry _ (members_of h) task s.entry s.is_member
          (Each-of_picked (λ x. ⊥) (λ (m : Member). m.entry.signal_phase) (λ (m : Member). mode_signals m.entry.mode) (members_of h) (rw quiet tt)) in
          absurd (none s.signals)
    ] refl

pub done_at_top : (h : History) → HasNoSignaller h → done_of h ≡ top_of h
done_at_top h quiet = ap (λ xs. unwrap_or (least xs) (top_of h)) quiet

-- ---- who reached the top

-- some task has signalled up to the top, or further
record Reaches (h : History) : Type 0 where
  task : ℕ
  start : Entry
  start_is : start_of h task ≡ Some start
  reaches : top_of h ≤ start.signal_phase + phases_signalled h task

same_reach : (before now : History) (r : Reaches before) → start_of now r.task ≡ start_of before r.task
    → top_of now ≤ r.start.signal_phase + phases_signalled now r.task → Reaches now
same_reach before now r same reaches = record { task = r.task; start = r.start; start_is = same ∙ r.start_is; reaches = reaches }

top_reached : (limits : Limits) (h : History) → IsLegal limits h → Reaches h
top_reached limits [] legal = absurd legal
top_reached limits (Made t ∷ before) legal =
    let here : eqb t t ≡ true = eq-eqb t t refl in
    record { task = t; start = founder; start_is = rw here refl; reaches = omega arith }
top_reached limits (Registered parent child mode ∷ before) legal =
    let r : Reaches before = top_reached limits before legal.0 in
    let g : Registers before parent child mode = registers_from before parent child mode legal.1 in
    let above : greatest_used before < child = g.new_number in
    let low : r.task ≤ greatest_used before = start_used before r.task r.start r.start_is in
    let apart : eqb child r.task ≡ false = ne_eqb child r.task (λ e. omega arith) in
    same_reach before (Registered parent child mode ∷ before) r (rw apart refl) r.reaches
top_reached limits (RegisteredNow parent child ∷ before) legal =
    let r : Reaches before = top_reached limits before legal.0 in
    let g : Registers before parent child Wait = registers_from before parent child Wait legal.1 in
    let above : greatest_used before < child = g.new_number in
    let low : r.task ≤ greatest_used before = start_used before r.task r.start r.start_is in
    let apart : eqb child r.task ≡ false = ne_eqb child r.task (λ e. omega arith) in
    same_reach before (RegisteredNow parent child ∷ before) r (rw apart refl) r.reaches
top_reached limits (Waited t n ∷ before) legal =
    let r : Reaches before = top_reached limits before legal.0 in same_reach before (Waited t n ∷ before) r refl r.reaches
top_reached limits (Dropped t ∷ before) legal =
    let r : Reaches before = top_reached limits before legal.0 in same_reach before (Dropped t ∷ before) r refl r.reaches
top_reached limits (Signalled t lists single ∷ before) legal =
    let r : Reaches before = top_reached limits before legal.0 in
    let g : SignalsNow before t = signals_from limits before t lists single legal.1.0 in
    let c : Counted nothing before t g.entry = counted nothing limits before t g.entry legal.0 g.is_member in
    let s_is : signal_phase before t ≡ g.entry.signal_phase = ap (λ (e : Entry). e.signal_phase) (member_entry_is (members_of before) t g.entry g.is_member) in
    let at : c.start.signal_phase + phases_signalled before t ≡ g.entry.signal_phase = c.signals in
    let here : eqb t t ≡ true = eq-eqb t t refl in
    let mine : phases_signalled (Signalled t lists single ∷ before) t ≡ phases_signalled before t + length lists = rw here refl in
    let more : phases_signalled before r.task ≤ phases_signalled (Signalled t lists single ∷ before) r.task = grows r.task in
    let old : top_of before ≤ r.start.signal_phase + phases_signalled before r.task = r.reaches in
    let now : top_of (Signalled t lists single ∷ before) ≡ max (top_of before) (signal_phase before t + length lists) = refl in
    let reach : (top_of before < signal_phase before t + length lists) ⊎ (signal_phase before t + length lists ≤ top_of before) = cases_lt _ _ in
    elim reach as (λ x. Reaches (Signalled t lists single ∷ before)) [
      | inl below ↦ record { task = t; start = c.start; start_is = c.start_is; reaches = omega arith }
      | inr above ↦ same_reach before (Signalled t lists single ∷ before) r refl (omega arith)
    ]
  where
    grows : (task : ℕ) → phases_signalled before task ≤ phases_signalled (Signalled t lists single ∷ before) task
    grows task = elim (eqb t task) as (λ b. phases_signalled before task ≤ cond b (phases_signalled before task + length lists) (phases_signalled before task)) [
      | true ↦ omega arith
      | false ↦ omega arith
    ]

-- ---- no task has signalled past the top

pub below_top : (limits : Limits) (h : History) (task : ℕ) (start : Entry) → IsLegal limits h → start_of h task ≡ Some start
    → start.signal_phase + phases_signalled h task ≤ top_of h
below_top limits [] task start legal is = absurd legal
below_top limits (Made t ∷ before) task start legal is =
    elim (eqb t task) as (λ b. (cond b (Some founder) None ≡ Some start) → start.signal_phase + phases_signalled (Made t ∷ before) task ≤ 0) [
      | true ↦ λ f.
          let same : founder ≡ start = same_Some _ _ f in
          let zero_start : 0 ≡ start.signal_phase = ap (λ (x : Entry). x.signal_phase) same in
          let none : phases_signalled (Made t ∷ before) task ≡ 0 = rw legal.1 refl in omega arith
      | false ↦ λ f. absurd (cc)
    ] is
below_top limits (Registered parent child mode ∷ before) task start legal is =
    let r : Registers before parent child mode = registers_from before parent child mode legal.1 in
    let good : StandsWell (done_of before) (top_of before) (greatest_used before) (member parent r.entry) = Each-entry _ (members_of before) parent r.entry r.is_member (sound_of limits before legal.0) in
    let low : r.entry.signal_phase ≤ top_of before = good.below in
    let s_is : signal_phase before parent ≡ r.entry.signal_phase = ap (λ (e : Entry). e.signal_phase) (member_entry_is (members_of before) parent r.entry r.is_member) in
    elim (eqb child task) as (λ b. (eqb child task ≡ b) → (cond b (Some (entry_at mode (signal_phase before parent) (wait_phase before parent))) (start_of before task) ≡ Some start)
    → start.signal_phase + phases_signalled before task ≤ top_of before) [
      | true ↦ λ e f.
          let same : child ≡ task = eqb-true _ _ e in
          let above : greatest_used before < child = r.new_number in
          let u : Unused nothing before task = unused nothing limits before task legal.0 (start_of-above before task (omega arith)) in
          let none : phases_signalled before task ≡ 0 = u.signals in
          let here : signal_phase before parent ≡ start.signal_phase = ap (λ (x : Entry). x.signal_phase) (same_Some _ _ f) in omega arith
      | false ↦ λ e f. below_top limits before task start legal.0 f
    ] refl is
below_top limits (RegisteredNow parent child ∷ before) task start legal is =
    let r : Registers before parent child Wait = registers_from before parent child Wait legal.1 in
    let good : StandsWell (done_of before) (top_of before) (greatest_used before) (member parent r.entry) = Each-entry _ (members_of before) parent r.entry r.is_member (sound_of limits before legal.0) in
    let low : r.entry.signal_phase ≤ top_of before = good.below in
    let s_is : signal_phase before parent ≡ r.entry.signal_phase = ap (λ (e : Entry). e.signal_phase) (member_entry_is (members_of before) parent r.entry r.is_member) in
    elim (eqb child task) as (λ b. (eqb child task ≡ b) → (cond b (Some (entry_at Wait (signal_phase before parent) (done_of before))) (start_of before task) ≡ Some start)
    → start.signal_phase + phases_signalled before task ≤ top_of before) [
      | true ↦ λ e f.
          let same : child ≡ task = eqb-true _ _ e in
          let above : greatest_used before < child = r.new_number in
          let u : Unused nothing before task = unused nothing limits before task legal.0 (start_of-above before task (omega arith)) in
          let none : phases_signalled before task ≡ 0 = u.signals in
          let here : signal_phase before parent ≡ start.signal_phase = ap (λ (x : Entry). x.signal_phase) (same_Some _ _ f) in omega arith
      | false ↦ λ e f. below_top limits before task start legal.0 f
    ] refl is
below_top limits (Waited t n ∷ before) task start legal is = below_top limits before task start legal.0 is
below_top limits (Dropped t ∷ before) task start legal is = below_top limits before task start legal.0 is
below_top limits (Signalled t lists single ∷ before) task start legal is =
    let g : SignalsNow before t = signals_from limits before t lists single legal.1.0 in
    let c : Counted nothing before t g.entry = counted nothing limits before t g.entry legal.0 g.is_member in
    let s_is : signal_phase before t ≡ g.entry.signal_phase = ap (λ (e : Entry). e.signal_phase) (member_entry_is (members_of before) t g.entry g.is_member) in
    let at : c.start.signal_phase + phases_signalled before t ≡ g.entry.signal_phase = c.signals in
    let old : start.signal_phase + phases_signalled before task ≤ top_of before = below_top limits before task start legal.0 is in
    let now : top_of (Signalled t lists single ∷ before) ≡ max (top_of before) (signal_phase before t + length lists) = refl in
    elim (eqb t task) as (λ b. (eqb t task ≡ b)
    → start.signal_phase + cond b (phases_signalled before task + length lists) (phases_signalled before task) ≤ top_of (Signalled t lists single ∷ before)) [
      | true ↦ λ e.
          let same : t ≡ task = eqb-true _ _ e in
          let began_is : c.start ≡ start = same_Some _ _ (sym c.start_is ∙ (ap (λ n. start_of before n) same ∙ is)) in
          let began_at : c.start.signal_phase ≡ start.signal_phase = ap (λ (x : Entry). x.signal_phase) began_is in
          let count_is : phases_signalled before t ≡ phases_signalled before task = ap (λ n. phases_signalled before n) same in omega arith
      | false ↦ λ e. omega arith
    ] refl

-- so some task has signalled up to the top, and no further
pub ReachesTop-of : (limits : Limits) (h : History) → IsLegal limits h → ReachesTop h
ReachesTop-of limits h legal =
    let r : Reaches h = top_reached limits h legal in
    let high : r.start.signal_phase + phases_signalled h r.task ≤ top_of h = below_top limits h r.task r.start legal r.start_is in
    let low : top_of h ≤ r.start.signal_phase + phases_signalled h r.task = r.reaches in
    record { task = r.task; start = r.start; start_is = r.start_is; reaches = omega arith }

-- a member has the mode in which it began
pub mode_of_start : (limits : Limits) (h : History) (task : ℕ) (start entry : Entry) → IsLegal limits h
    → start_of h task ≡ Some start → entry_of (members_of h) task ≡ Some entry → entry.mode ≡ start.mode
mode_of_start limits h task start entry legal is found =
    let b = began limits h task entry legal found in
    sym b.2 ∙ ap (λ (x : Entry). x.mode) (same_Some _ _ (sym b.1 ∙ is))

-- ---- where all have left

-- where each task that was used has dropped, no task is registered, and none signals
pub quiet_from : (limits : Limits) (h : History) → IsLegal limits h
    → ((n : ℕ) → IsUsed h n → has_dropped h n ≡ true) → HasNoSignaller h
quiet_from limits h legal gone = ap signal_phases (none (members_of h) refl)
  where
    none : (ms : Members) → members_of h ≡ ms → members_of h ≡ []
    none [] e = e
    none (m ∷ ms) e =
        let here : eqb m.task m.task ≡ true = eq-eqb m.task m.task refl in
        let found : entry_of (m ∷ ms) m.task ≡ Some m.entry = rw here refl in
        let alive = (alive_law limits h m.task legal).0 (rw e (ap is_some found)) in
        absurd (let f : true ≡ false = sym (gone m.task alive.0) ∙ alive.1 in cc)
