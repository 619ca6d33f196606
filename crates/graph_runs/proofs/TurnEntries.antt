-- The entry of a task on a phaser that it has not left.
use Rattle.std.proofs.Common.{◌≡◌, ℕ, zero, suc, ◌+◌, ◌-◌, ◌<◌, ◌≤◌, Bool, true, false, ◌||◌, eqb, List, [], ◌∷◌, ◌++◌, Option, Some, None, length, map, get_or, ℤ, refl, sym, ap, subst, ◌∙◌, arith, ◌⊎◌, inl, inr}
use Rattle.std.specs.List.{range_with_len, filter_map, cons_option}
use Rattle.std.proofs.lemmas.Bool.{cases_lt, eq-eqb}
use Rattle.std.proofs.lemmas.List.{length-map, length-append}
use Rattle.phase_base.specs.Members.{entry_of}
use Rattle.phase_base.specs.declared.entry.Entry.{Entry}
use Rattle.phase_base.specs.declared.mode.Mode.{Mode}
use Rattle.phase_history.specs.Histories.{History, members_of, start_of, has_dropped, phases_signalled, phases_waited, IsAlive}
use Rattle.phase_history.specs.Phases.{sends_of_phase, received_by}
use Rattle.phase_history.specs.Legal.{IsLegal}
use Rattle.phase_base.specs.Lists.{is_in}
use Rattle.phase_history.specs.Sent.{sent_by, sent_in, gathered, IsSilent}
use Rattle.phase_history.proofs.Alive.{alive_law}
use Rattle.phase_history.proofs.Gathered.{sends_are_gathered}
use Rattle.phase_history.proofs.Left.{length-received}
use Rattle.phase_history.proofs.Received.{counted}
use Rattle.phase_history.proofs.Sendings.{length-sent_by, sent_in-none, SentInTurn, SentInTurn-of}
use Rattle.phase_history.proofs.Signallers.{mode_of_start}
use Rattle.phase_history.proofs.Used.{start_from}
use Rattle.graph_base.specs.Graphs.{task_at}
use Rattle.graph_base.specs.Registrations.{no_registration}
use Rattle.stream_lists.specs.Jobs.{Job, index_in}
use Rattle.stream_lists.specs.Spans.{signalled_by}
use Rattle.stream_lists.specs.Lists.{number}
use Rattle.graph_runs.specs.Moments.{one, Moment, HasRun, TaskRan, PutOn, TakenOn, OnOutput, OnInput, SilentOn, limits_at, value_at, input_at, numbers_on}
use Rattle.graph_runs.proofs.Numbers.{from_numbers, numbers_distinct}
use Rattle.graph_runs.specs.Nexts.{registrations_at}
use Rattle.graph_runs.specs.Reached.{IsReachable}

-- ---- what a moment has of a task on a phaser

pub on_output : (job : Job) (m : Moment) (t j p n : ℕ) → TaskRan job m t
    → t < length job.graph.tasks → p < length job.graph.phasers
    → index_in (signalled_by (task_at job.graph t)) p ≡ Some j → m.number p t ≡ Some n
    → OnOutput job m t j p n
on_output job m t j p n ran there pp place at =
    let N : Option ℕ → Type 0 = λ o. PutOn job m t j p o in
    subst N at (rw place at (ran.outputs p pp))

pub on_input : (job : Job) (m : Moment) (t k p n : ℕ) → TaskRan job m t
    → t < length job.graph.tasks → k < length (task_at job.graph t).inputs
    → input_at (task_at job.graph t) k ≡ p → m.number p t ≡ Some n → OnInput job m t k p n
on_input job m t k p n ran there lt place at =
    let N : Option ℕ → Type 0 = λ o. TakenOn job m t k p o in
    subst N at (rw place at (ran.inputs k lt))

-- ---- its entry

-- task t as number n on phaser p, in a mode, is a member with this entry
pub record IsMember (m : Moment) (p n : ℕ) (mode : Mode) : Type 0 where
  pub start : Entry
  pub entry : Entry
  pub start_is : start_of (m.history p) n ≡ Some start
  pub is : entry_of (members_of (m.history p)) n ≡ Some entry
  pub mode_is : entry.mode ≡ mode
  pub signals : start.signal_phase + phases_signalled (m.history p) n ≡ entry.signal_phase
  pub waits : start.wait_phase + phases_waited (m.history p) n ≡ entry.wait_phase

pub member : (job : Job) (m : Moment) (t i n : ℕ) → IsReachable job m
    → t < length job.graph.tasks → i < length (registrations_at job t)
    → (get_or (registrations_at job t) i no_registration).phaser < length job.graph.phasers
    → m.number (get_or (registrations_at job t) i no_registration).phaser t ≡ Some n
    → has_dropped (m.history (get_or (registrations_at job t) i no_registration).phaser) n ≡ false
    → IsMember m (get_or (registrations_at job t) i no_registration).phaser n
    (get_or (registrations_at job t) i no_registration).mode
member job m t i n reached there lt pp at stays =
    let r = get_or (registrations_at job t) i no_registration in
    let p = r.phaser in
    let h = m.history p in
    let ran = reached.ran.phasers p pp in
    let alive : IsAlive h n = (alive_law (limits_at job p) h n ran.legal).1 (
      ran.used t n at,
      stays,
    ) in
    let e = start_from (entry_of (members_of h) n) alive in
    let c = counted (value_at job p) (limits_at job p) h n e.0 ran.legal e.1 in
    record {
      start = c.start;
      entry = e.0;
      start_is = c.start_is;
      is = e.1;
      mode_is = mode_of_start (limits_at job p) h n c.start e.0 ran.legal c.start_is e.1
          ∙ reached.modes t there i no_registration lt n c.start at c.start_is;
      signals = c.signals;
      waits = c.waits;
    }

-- its signal phase, by what it has put
pub signal_phase_is : (job : Job) (m : Moment) (t j p n : ℕ) (mode : Mode)
    → (on : OnOutput job m t j p n) → (e : IsMember m p n mode)
    → e.entry.signal_phase ≡ m.offset t + length (m.put t j)
signal_phase_is job m t j p n mode on e =
    let same : Some e.start ≡ Some on.start = sym e.start_is ∙ on.start_is in
    let S : Option Entry → ℕ = λ o. signal_phase_or o in
    let put : length (sent_by (m.history p) n) ≡ length (m.put t j) =
    ap length on.sent ∙ length-map (m.put t j) one in
    omega (arith, ap S same ∙ on.at, length-sent_by (m.history p) n, e.signals)
  where
    signal_phase_or : Option Entry → ℕ
    signal_phase_or None = 0
    signal_phase_or (Some entry) = entry.signal_phase

-- its wait phase, by what it has taken
pub wait_phase_is : (job : Job) (m : Moment) (t k p n : ℕ) (mode : Mode)
    → IsLegal (limits_at job p) (m.history p) → (on : OnInput job m t k p n)
    → (e : IsMember m p n mode) → e.entry.wait_phase ≡ m.offset t + length (m.taken t k)
wait_phase_is job m t k p n mode legal on e =
    let same : Some e.start ≡ Some on.start = sym e.start_is ∙ on.start_is in
    let at : e.start.wait_phase ≡ m.offset t = ap (λ o. wait_phase_or o) same ∙ on.at in
    let taken : length (m.taken t k)
    ≡ length (received_by (value_at job p) (m.history p) n) =
    ap length on.taken ∙ length-map (received_by (value_at job p) (m.history p) n) number in
    omega (arith, length-received (value_at job p) (limits_at job p) (m.history p) n legal, e.waits)
  where
    wait_phase_or : Option Entry → ℕ
    wait_phase_or None = 0
    wait_phase_or (Some entry) = entry.wait_phase

-- ---- how many sends a phase has

-- a task has sent at most one value in a phase
one_sent : (xs : List ℤ) (k : ℕ) → length (get_or (map one xs) k []) ≤ 1
one_sent [] k = omega arith
one_sent (x ∷ xs) zero = omega arith
one_sent (x ∷ xs) (suc k) = one_sent xs k

sent_few : (job : Job) (m : Moment) (p s n : ℕ) → HasRun job m → p < length job.graph.phasers
    → is_in n (numbers_on job m p) ≡ true → length (sent_in (m.history p) n s) ≤ 1
sent_few job m p s n ran pp among =
    let from = from_numbers (m.number p) 0 (length job.graph.tasks) n among in
    let high : from.0 < 0 + length job.graph.tasks = from.2 in
    let there : from.0 < length job.graph.tasks = omega arith in
    by from.0 there from.3 (index_in (signalled_by (task_at job.graph from.0)) p) refl
  where
    put : (start : Entry) → SentInTurn (m.history p) n start → (xs : List ℤ)
        → sent_by (m.history p) n ≡ map one xs
        → (s < start.signal_phase) ⊎ (start.signal_phase ≤ s)
        → length (sent_in (m.history p) n s) ≤ 1
    put start turn xs sent (inl early) =
        omega (arith, ap length (turn.below s early))
    put start turn xs sent (inr late) =
        let k = s - start.signal_phase in
        let is : length (sent_in (m.history p) n s) ≡ length (get_or (map one xs) k []) =
        ap length (turn.placed k s (omega arith) ∙ ap (λ l. get_or l k []) sent) in
        omega (arith, one_sent xs k)

    by : (t : ℕ) → t < length job.graph.tasks → m.number p t ≡ Some n → (o : Option ℕ)
        → index_in (signalled_by (task_at job.graph t)) p ≡ o
        → length (sent_in (m.history p) n s) ≤ 1
    by t there at (Some j) place =
        let on = on_output job m t j p n (ran.tasks t there) there pp place at in
        put on.start
        (SentInTurn-of (limits_at job p) (m.history p) n on.start (ran.phasers p pp).legal
        on.start_is) (m.put t j) on.sent (cases_lt s on.start.signal_phase)
    by t there at None place =
        let N : Option ℕ → Type 0 = λ o. SilentOn m p o in
        let silent : IsSilent (m.history p) n =
        subst N at (rw place at ((ran.tasks t there).outputs p pp)) in
        omega (arith, ap length (sent_in-none (m.history p) n s silent.nothing))

gathered_few : (h : History) (tasks : List ℕ) (s : ℕ)
    → ((n : ℕ) → is_in n tasks ≡ true → length (sent_in h n s) ≤ 1)
    → length (gathered h tasks s) ≤ length tasks
gathered_few h [] s few = omega arith
gathered_few h (task ∷ tasks) s few =
    let both = length-append (sent_in h task s) (gathered h tasks s) in
    let here : length (sent_in h task s) ≤ 1 =
    few task (let same : eqb task task ≡ true = eq_same task in rw same refl) in
    let rest : length (gathered h tasks s) ≤ length tasks =
    gathered_few h tasks s (λ n among. few n (rw among (or_true (eqb task n)))) in
    omega arith
  where
    eq_same : (n : ℕ) → eqb n n ≡ true
    eq_same n = eq-eqb n n refl

    or_true : (b : Bool) → (b || true) ≡ true
    or_true true = refl
    or_true false = refl

filter_map_few : (f : ℕ → Option ℕ) (from many : ℕ)
    → length (filter_map f (range_with_len from many)) ≤ many
filter_map_few f from zero = omega arith
filter_map_few f from (suc many) =
    let rest : length (filter_map f (range_with_len (from + 1) many)) ≤ many =
    filter_map_few f (from + 1) many in
    by (f from) rest
  where
    by : (o : Option ℕ) → length (filter_map f (range_with_len (from + 1) many)) ≤ many
        → length (cons_option o (filter_map f (range_with_len (from + 1) many))) ≤ suc many
    by None rest = omega arith
    by (Some n) rest = omega arith

pub numbers_few : (job : Job) (m : Moment) (p : ℕ)
    → length (numbers_on job m p) ≤ length job.graph.tasks
numbers_few job m p = filter_map_few (m.number p) 0 (length job.graph.tasks)

-- a phase has at most as many sends as the graph has tasks
pub sends_few : (job : Job) (m : Moment) (p s : ℕ) → HasRun job m
    → p < length job.graph.phasers
    → length (sends_of_phase (m.history p) s) ≤ length job.graph.tasks
sends_few job m p s ran pp =
    let h = m.history p in
    let numbers = numbers_on job m p in
    let same : length (sends_of_phase h s) ≡ length (gathered h numbers s) =
    sends_are_gathered length h numbers s exchanges
    (numbers_distinct job m p (ran.phasers p pp))
    (λ n stranger. ((ran.phasers p pp).strangers n stranger).nothing) in
    let sent : length (gathered h numbers s) ≤ length numbers =
    gathered_few h numbers s (λ n among. sent_few job m p s n ran pp among) in
    omega (arith, numbers_few job m p)
  where
    exchanges : (front xs ys back : List ℤ)
        → length (front ++ (xs ++ (ys ++ back))) ≡ length (front ++ (ys ++ (xs ++ back)))
    exchanges front xs ys back =
        let a = length-append front (xs ++ (ys ++ back)) in
        let b = length-append xs (ys ++ back) in
        let d = length-append front (ys ++ (xs ++ back)) in
        omega (arith, length-append ys back, length-append ys (xs ++ back), length-append xs back)
