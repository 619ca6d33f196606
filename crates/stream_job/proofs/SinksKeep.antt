-- What the sinks keep over one event.
use Rattle.std.proofs.Common.{◌≡◌, ◌≢◌, ℕ, ℤ, zero, suc, ◌+◌, ◌<◌, ◌≤◌, All, Bool, true, false, not, cond, eqb, List, [], ◌∷◌, ◌++◌, Option, Some, None, length, map, slice_get, refl, sym, ap, subst, ◌∙◌, arith, ◌⊎◌, inl, inr}
use Rattle.std.specs.List.{filter, range_with_len, take_while}
use mathlib.Core.List.{IsPrefix}
use Rattle.std.proofs.lemmas.Bool.{eqb-true, eq-eqb, ne_eqb}
use Rattle.std.proofs.lemmas.List.{length-append}
use Rattle.std.proofs.lemmas.List.Sums.{take_while-cons}
use Rattle.phase_base.specs.declared.mode.Mode.{Mode}
use Rattle.phase_base.specs.declared.mode.Mode.TheVariants.{Wait}
use Rattle.phase_accum.specs.declared.outcome.Outcome.{Outcome}
use Rattle.phase_history.specs.declared.event.Event.{Event}
use Rattle.phase_history.specs.declared.event.Event.TheVariants.{Signalled, Waited, Dropped, Registered, RegisteredNow}
use Rattle.phase_history.specs.Phases.{received_by}
use Rattle.phase_history.proofs.LawProofs.{above_law}
use Rattle.phase_history.proofs.Refused.{registers_from}
use Rattle.graph_base.specs.TaskLines.{IsGraph}
use Rattle.graph_runs.specs.Reached.{IsReachable}
use Rattle.graph_base.specs.Graphs.{is_sink, task_at, phaser_at}
use Rattle.stream_lists.specs.Jobs.{Job}
use Rattle.stream_lists.specs.Lists.{is_sink_at, number, sinks_of}
use Rattle.stream_lists.specs.Ranges.{is_too_big}
use Rattle.graph_runs.specs.Moments.{one, Moment, HasRun, HasAnsweredNone, TakenOn, input_at, limits_at, value_at}
use Rattle.graph_runs.specs.Moves.{HasMoved}
use Rattle.graph_runs.proofs.InBlocks.{next_samples_are, next_signals_are, first_waits_are}
use Rattle.graph_runs.proofs.JoinsNow.{next_child_now_is}
use Rattle.graph_runs.proofs.Turned.{exchange_wait_is, next_leave_is, next_child_is}
use Rattle.graph_runs.specs.TaskEvents.{TaskEvent, IsNext, sample, signal, first_wait, exchange_wait, leave, child, child_now, after_turn}
use Rattle.graph_runs.specs.Answers.{makes, turn_up_to}
use Rattle.graph_runs.specs.Beginnings.{opening, root_mode, root_number, roots_joined, with_root}
use Rattle.graph_runs.proofs.Answered.{met_none}
use Rattle.graph_runs.proofs.StepsLemmas.{has_inputs}
use Rattle.graph_runs.proofs.Turning.{turn_makes_next}
use Rattle.graph_runs.specs.NextBlocks.{MaySize}
use Rattle.stream_job.specs.Stepping.{with_more}
use Rattle.stream_job.specs.Machines.{IsMachineAt}
use Rattle.stream_job.specs.SinkLines.{kept_by, kept_of, kept_on}
use Rattle.stream_job.specs.declared.machine.Machine.{Machine}
use Rattle.stream_job.proofs.SinkLines.{one_line}

-- ---- what is kept of outcomes

-- one in range is kept, and then those behind it
pub kept_first : (x : Outcome) (xs : List Outcome) → is_too_big x ≡ false
    → kept_of (x ∷ xs) ≡ number x ∷ kept_of xs
kept_first x xs e =
    let test : Outcome → Bool = λ outcome. not (is_too_big outcome) in
    ap (map number) (take_while-cons test x xs)
    ∙ ap (λ b. map number (cond (not b) (x ∷ take_while test xs) [])) e

-- from one that is too big on nothing is
pub kept_over : (x : Outcome) (xs : List Outcome) → is_too_big x ≡ true → kept_of (x ∷ xs) ≡ []
kept_over x xs e =
    let test : Outcome → Bool = λ outcome. not (is_too_big outcome) in
    ap (map number) (take_while-cons test x xs)
    ∙ ap (λ b. map number (cond (not b) (x ∷ take_while test xs) [])) e

-- behind those in range the others are kept as they would be alone
pub kept_of-append : (xs ys : List Outcome) → All (λ outcome. is_too_big outcome ≡ false) xs
    → kept_of (xs ++ ys) ≡ kept_of xs ++ kept_of ys
kept_of-append [] ys all = refl
kept_of-append (x ∷ xs) ys all =
    let first : is_too_big x ≡ false = all 0 x (omega arith) in
    kept_first x (xs ++ ys) first
    ∙ ap (λ l. number x ∷ l) (kept_of-append xs ys (λ i d lt. all (suc i) d (omega arith)))
    ∙ ap (λ l. l ++ kept_of ys) (sym (kept_first x xs first))

-- what is kept begins what was received
pub kept_begins : (outcomes : List Outcome) → IsPrefix (kept_of outcomes) (map number outcomes)
kept_begins [] = ([], refl)
kept_begins (x ∷ xs) = by (is_too_big x) refl (kept_begins xs)
  where
    by : (b : Bool) → is_too_big x ≡ b → IsPrefix (kept_of xs) (map number xs)
        → IsPrefix (kept_of (x ∷ xs)) (number x ∷ map number xs)
    by true e rest = (
      number x ∷ map number xs,
      ap (λ l. l ++ number x ∷ map number xs) (kept_over x xs e),
    )
    by false e rest = (
      rest.0,
      ap (λ l. l ++ rest.0) (kept_first x xs e) ∙ ap (λ l. number x ∷ l) rest.1,
    )

-- no more than was received
pub kept_few : (outcomes : List Outcome) → length (kept_of outcomes) ≤ length (map number outcomes)
kept_few outcomes =
    let begins = kept_begins outcomes in
    let all = length-append (kept_of outcomes) begins.0 in
    let same = ap length begins.1 in
    omega arith

-- ---- one task over one event

-- it keeps what it did, where it has received nothing more and has the same number
kept_same : (job : Job) (before after : Moment) (u : ℕ)
    → after.number (input_at (task_at job.graph u) 0) u
    ≡ before.number (input_at (task_at job.graph u) 0) u
    → ((n : ℕ) → before.number (input_at (task_at job.graph u) 0) u ≡ Some n
    → received_by (value_at job (input_at (task_at job.graph u) 0))
    (after.history (input_at (task_at job.graph u) 0)) n
    ≡ received_by (value_at job (input_at (task_at job.graph u) 0))
    (before.history (input_at (task_at job.graph u) 0)) n)
    → kept_by job before u ≡ kept_by job after u
kept_same job before after u numbers received =
    sym (ap (kept_on job after (input_at (task_at job.graph u) 0)) numbers
    ∙ by (before.number (input_at (task_at job.graph u) 0) u) refl)
  where
    by : (o : Option ℕ) → before.number (input_at (task_at job.graph u) 0) u ≡ o
        → kept_on job after (input_at (task_at job.graph u) 0) o
        ≡ kept_on job before (input_at (task_at job.graph u) 0) o
    by None e = refl
    by (Some n) e = ap kept_of (received n e)

-- an event that is no wait of its
kept_moved : (job : Job) (before after : Moment) (t p u : ℕ) (event : Event)
    → HasMoved job before after t p event
    → ((n : ℕ) → before.number p u ≡ Some n
    → received_by (value_at job p) (event ∷ before.history p) n
    ≡ received_by (value_at job p) (before.history p) n)
    → kept_by job before u ≡ kept_by job after u
kept_moved job before after t p u event moved quiet =
    kept_same job before after u (moved.numbers q u) (by (eqb q p) refl)
  where
    q : ℕ
    q = input_at (task_at job.graph u) 0

    by : (b : Bool) → eqb q p ≡ b → (n : ℕ) → before.number q u ≡ Some n
        → received_by (value_at job q) (after.history q) n
        ≡ received_by (value_at job q) (before.history q) n
    by true e =
        let S : ℕ → Type 0 = λ r. (n : ℕ) → before.number r u ≡ Some n
        → received_by (value_at job r) (after.history r) n
        ≡ received_by (value_at job r) (before.history r) n in
        subst S (sym (eqb-true q p e)) (λ n has.
        ap (λ h. received_by (value_at job p) h n) moved.here ∙ quiet n has)
    by false e = λ n has.
        ap (λ h. received_by (value_at job q) h n)
        (moved.elsewhere q (λ same. (let no = sym (eq-eqb q p same) ∙ e in cc)))

-- task c is registered as number a on phaser p by this event, which is no wait
record Joins (job : Job) (before after : Moment) (p c a : ℕ) (event : Event) : Type 0 where
  pub here : after.history p ≡ event ∷ before.history p
  pub elsewhere : (q : ℕ) → q ≢ p → after.history q ≡ before.history q
  pub absent : before.number p c ≡ None
  pub number : after.number p c ≡ Some a
  pub other_numbers : (q x : ℕ) → (q ≢ p) ⊎ (x ≢ c) → after.number q x ≡ before.number q x
  pub quiet : (x : ℕ) → received_by (value_at job p) (event ∷ before.history p) x
      ≡ received_by (value_at job p) (before.history p) x
  pub fresh : received_by (value_at job p) (before.history p) a ≡ []

-- a child that is registered has received nothing
kept_joined : (job : Job) (before after : Moment) (p c a u : ℕ) (event : Event)
    → Joins job before after p c a event → kept_by job before u ≡ kept_by job after u
kept_joined job before after p c a u event s = by (eqb q p) refl (eqb u c) refl
  where
    q : ℕ
    q = input_at (task_at job.graph u) 0

    histories : (r x : ℕ) (b : Bool) → eqb r p ≡ b
        → received_by (value_at job r) (after.history r) x
        ≡ received_by (value_at job r) (before.history r) x
    histories r x true e =
        let S : ℕ → Type 0 = λ y. received_by (value_at job y) (after.history y) x
        ≡ received_by (value_at job y) (before.history y) x in
        subst S (sym (eqb-true r p e))
        (ap (λ h. received_by (value_at job p) h x) s.here ∙ s.quiet x)
    histories r x false e =
        ap (λ h. received_by (value_at job r) h x)
        (s.elsewhere r (λ same. (let no = sym (eq-eqb r p same) ∙ e in cc)))

    as_was : (q ≢ p) ⊎ (u ≢ c) → kept_by job before u ≡ kept_by job after u
    as_was apart =
        kept_same job before after u (s.other_numbers q u apart)
        (λ x has. histories q x (eqb q p) refl)

    of_child : q ≡ p → u ≡ c → kept_by job before u ≡ kept_by job after u
    of_child here same =
        let none : before.number q u ≡ None =
        ap (λ r. before.number r u) here ∙ ap (before.number p) same ∙ s.absent in
        let some : after.number q u ≡ Some a =
        ap (λ r. after.number r u) here ∙ ap (after.number p) same ∙ s.number in
        let nothing : received_by (value_at job q) (after.history q) a ≡ [] =
        histories q a (eqb q p) refl
        ∙ ap (λ r. received_by (value_at job r) (before.history r) a) here ∙ s.fresh in
        ap (kept_on job before q) none ∙ ap kept_of (sym nothing)
        ∙ sym (ap (kept_on job after q) some)

    by : (b : Bool) → eqb q p ≡ b → (d : Bool) → eqb u c ≡ d
        → kept_by job before u ≡ kept_by job after u
    by true e true f = of_child (eqb-true q p e) (eqb-true u c f)
    by true e false f = as_was (inr (λ same. (let no = sym (eq-eqb u c same) ∙ f in cc)))
    by false e d f = as_was (inl (λ same. (let no = sym (eq-eqb q p same) ∙ e in cc)))

-- task u does not wait by this event
abbrev pub DoesNotWait : ℕ → TaskEvent → Type 0
DoesNotWait u (first_wait t k p n outcomes) = u ≢ t
DoesNotWait u (exchange_wait t p n outcome) = u ≢ t
DoesNotWait u event = Unit {0}

pub kept_other : (job : Job) (m : Moment) (event : TaskEvent) (u : ℕ) → HasRun job m
    → IsNext job m event → u < length job.graph.tasks → DoesNotWait u event
    → kept_by job m u ≡ kept_by job (after_turn job event m) u
kept_other job m event u ran next there apart = by event next apart
  where
    another : (t p n k : ℕ) → t < length job.graph.tasks → p < length job.graph.phasers
        → m.number p t ≡ Some n → u ≢ t → (x : ℕ) → m.number p u ≡ Some x
        → received_by (value_at job p) (Waited n k ∷ m.history p) x
        ≡ received_by (value_at job p) (m.history p) x
    another t p n k lt pp its apart x has =
        let other : eqb n x ≡ false = ne_eqb n x (λ same.
        apart ((ran.phasers p pp).distinct u t x there lt has (its ∙ ap (λ y. Some y) same))) in
        rw other refl

    by : (event : TaskEvent) → IsNext job m event → DoesNotWait u event
        → kept_by job m u ≡ kept_by job (after_turn job event m) u
    by (sample t j p n vs) next apart =
        let s = next_samples_are job m t j p n vs next.1 (ran.tasks t next.0.task) in
        kept_moved job m (after_turn job (sample t j p n vs) m) t p u
        (Signalled n (map one vs) (phaser_at job.graph p).single) s.moved (λ x has. refl)
    by (signal t j p n vs) next apart =
        let s = next_signals_are job m t j p n vs next.1 (ran.tasks t next.0.task) in
        kept_moved job m (after_turn job (signal t j p n vs) m) t p u
        (Signalled n (map one vs) (phaser_at job.graph p).single) s.moved (λ x has. refl)
    by (first_wait t k p n outcomes) next apart =
        let s = first_waits_are job m t k p n outcomes next.1 in
        kept_moved job m (after_turn job (first_wait t k p n outcomes) m) t p u
        (Waited n (length outcomes)) s.moved
        (another t p n (length outcomes) next.0.task next.0.phaser s.numbered apart)
    by (exchange_wait t p n outcome) next apart =
        let s = exchange_wait_is job m t p n outcome next.1 in
        kept_moved job m (after_turn job (exchange_wait t p n outcome) m) t p u (Waited n 1) s.moved
        (another t p n 1 next.0.task next.0.phaser s.numbered apart)
    by (leave t p n) next apart =
        let s = next_leave_is job m t p n next.1 in
        kept_moved job m (after_turn job (leave t p n) m) t p u (Dropped n) s.moved (λ x has. refl)
    by (child t p n c a mode) next apart =
        let s = next_child_is job m t p n c a mode next.1.0 next.1.1 in
        let r = registers_from (m.history p) n a mode s.accepted in
        kept_joined job m (after_turn job (child t p n c a mode) m) p c a u (Registered n a mode)
        record {
          here = s.here;
          elsewhere = s.elsewhere;
          absent = s.absent;
          number = s.number;
          other_numbers = s.other_numbers;
          quiet = λ x. refl;
          fresh = (above_law (value_at job p) (limits_at job p) (m.history p) a
              (ran.phasers p next.0.phaser).legal r.new_number).received;
        }
    by (child_now t p n c a) next apart =
        let s = next_child_now_is job m t p n c a next.1.0 next.1.1 in
        let r = registers_from (m.history p) n a Wait s.accepted in
        kept_joined job m (after_turn job (child_now t p n c a) m) p c a u (RegisteredNow n a)
        record {
          here = s.here;
          elsewhere = s.elsewhere;
          absent = s.absent;
          number = s.number;
          other_numbers = s.other_numbers;
          quiet = λ x. refl;
          fresh = (above_law (value_at job p) (limits_at job p) (m.history p) a
              (ran.phasers p next.0.phaser).legal r.new_number).received;
        }

-- where no wait was answered a value that is too big, a task that waits keeps what it got, before
-- the first that is too big
pub kept_wait : (job : Job) (m : Moment) (t k p n : ℕ) (outcomes : List Outcome)
    → HasAnsweredNone job m → IsNext job m (first_wait t k p n outcomes) → k ≡ 0
    → kept_by job (after_turn job (first_wait t k p n outcomes) m) t
    ≡ kept_by job m t ++ kept_of outcomes
kept_wait job m t k p n outcomes none next first =
    let after = after_turn job (first_wait t k p n outcomes) m in
    let s = first_waits_are job m t k p n outcomes next.1 in
    let place : p ≡ input_at (task_at job.graph t) 0 =
    sym s.place ∙ ap (input_at (task_at job.graph t)) first in
    let Keeps : ℕ → Type 0 = λ q. kept_on job after q (after.number q t)
    ≡ kept_on job m q (m.number q t) ++ kept_of outcomes in
    subst Keeps place (
    ap (kept_on job after p) (s.moved.numbers p t ∙ s.numbered)
    ∙ ap kept_of (ap (λ h. received_by (value_at job p) h n) s.moved.here ∙ s.answered)
    ∙ kept_of-append (received_by (value_at job p) (m.history p) n) outcomes
    (met_none job m none p t n next.0.phaser next.0.task s.numbered)
    ∙ ap (λ l. l ++ kept_of outcomes) (sym (ap (kept_on job m p) s.numbered)))

-- ---- all sinks

-- what is the same of each task that is found is the same of all
map_found : {Y : Type 0} (test : ℕ → Bool) (f g : ℕ → Y) (from n : ℕ)
    → ((u : ℕ) → u < from + n → test u ≡ true → f u ≡ g u)
    → map f (filter test (range_with_len from n)) ≡ map g (filter test (range_with_len from n))
map_found test f g from zero same = refl
map_found test f g from (suc n) same =
    by (test from) refl
    (map_found test f g (from + 1) n (λ u lt is. same u (omega arith) is))
  where
    by : (b : Bool) → test from ≡ b
        → map f (filter test (range_with_len (from + 1) n))
        ≡ map g (filter test (range_with_len (from + 1) n))
        → map f (cond b (from ∷ filter test (range_with_len (from + 1) n))
        (filter test (range_with_len (from + 1) n)))
        ≡ map g (cond b (from ∷ filter test (range_with_len (from + 1) n))
        (filter test (range_with_len (from + 1) n)))
    by true e rest =
        ap (λ y. y ∷ map f (filter test (range_with_len (from + 1) n))) (same from (omega arith) e)
        ∙ ap (λ ys. g from ∷ ys) rest
    by false e rest = rest

-- no sink waits by this event
abbrev pub NoSinkWaits : Job → TaskEvent → Type 0
NoSinkWaits job (first_wait t k p n outcomes) = is_sink_at job t ≡ false
NoSinkWaits job event = Unit {0}

pub lines_stay : {steps most : ℕ} (job : Job) (m : Moment) (t : ℕ) (event : TaskEvent)
    → MaySize job.graph t steps most → IsGraph job.graph → IsReachable job m
    → turn_up_to steps most job m t ≡ makes event → NoSinkWaits job event
    → map {B = ℕ × List ℤ} (λ u. (u, kept_by job m u)) (sinks_of job)
    ≡ map {B = ℕ × List ℤ} (λ u. (u, kept_by job (after_turn job event m) u)) (sinks_of job)
lines_stay {steps} {most} job m t event sized is reached answer no_sink =
    map_found (is_sink_at job) (λ u. (u, kept_by job m u))
    (λ u. (u, kept_by job (after_turn job event m) u)) 0 (length job.graph.tasks)
    (λ u lt sink. ap (λ l. (u, l)) (kept_other job m event u reached.ran next (omega arith)
    (quiet event next no_sink u sink)))
  where
    next : IsNext job m event
    next =
        turn_makes_next steps most job m t event sized is reached.ran (λ c due. reached.to_come) answer

    quiet : (event : TaskEvent) → IsNext job m event → NoSinkWaits job event → (u : ℕ)
        → is_sink_at job u ≡ true → DoesNotWait u event
    quiet (sample t j p n vs) next none u sink = tt
    quiet (signal t j p n vs) next none u sink = tt
    quiet (first_wait t k p n outcomes) next none u sink = λ same.
        (let wrong : true ≡ false = sym sink ∙ ap (is_sink_at job) same ∙ none in cc)
    quiet (exchange_wait t p n outcome) next none u sink = λ same.
        (let peer : is_sink_at job t ≡ false = ap is_sink next.1.peer in
        let wrong : true ≡ false = sym sink ∙ ap (is_sink_at job) same ∙ peer in cc)
    quiet (leave t p n) next none u sink = tt
    quiet (child t p n c a mode) next none u sink = tt
    quiet (child_now t p n c a) next none u sink = tt

-- a sink that waits keeps what it got, before the first that is too big
pub lines_keep : {steps most : ℕ} (job : Job) (m : Moment) (machine : Machine) (t k p n i : ℕ)
    (outcomes : List Outcome) → MaySize job.graph t steps most → IsMachineAt job m machine → HasAnsweredNone job m
    → turn_up_to steps most job m t ≡ makes (first_wait t k p n outcomes) → k ≡ 0
    → slice_get (sinks_of job) i ≡ Some t
    → with_more (Some i) (kept_of outcomes) (map (λ u. (u, kept_by job m u)) (sinks_of job))
    ≡ map (λ u. (u, kept_by job (after_turn job (first_wait t k p n outcomes) m) u)) (sinks_of job)
lines_keep {steps} {most} job m machine t k p n i outcomes sized at none answer first sink =
    let f : ℕ → List ℤ = λ u. cond (eqb u t) (kept_by job after u) (kept_by job m u) in
    let own : f t ≡ kept_by job after t =
    ap (λ b. cond b (kept_by job after t) (kept_by job m t)) (eq-eqb t t refl) in
    let rest : (u : ℕ) → u ≢ t → f u ≡ kept_by job m u =
    λ u apart. ap (λ b. cond b (kept_by job after u) (kept_by job m u)) (ne_eqb u t apart) in
    one_line (is_sink_at job) (length job.graph.tasks) i t (kept_of outcomes) (kept_by job m) f sink
    (own ∙ kept_wait job m t k p n outcomes none next first) (λ u apart. sym (rest u apart))
    ∙ map_found (is_sink_at job) (λ u. (u, f u)) (λ u. (u, kept_by job after u)) 0
    (length job.graph.tasks)
    (λ u lt is. ap (λ l. (u, l)) (one u lt (eqb u t) refl))
  where
    after : Moment
    after = after_turn job (first_wait t k p n outcomes) m

    next : IsNext job m (first_wait t k p n outcomes)
    next =
        turn_makes_next steps most job m t (first_wait t k p n outcomes) sized
        at.graph at.reached.ran
        (λ c due. at.reached.to_come) answer

    one : (u : ℕ) → u < 0 + length job.graph.tasks → (b : Bool) → eqb u t ≡ b
        → cond (eqb u t) (kept_by job after u) (kept_by job m u) ≡ kept_by job after u
    one u lt true e = ap (λ b. cond b (kept_by job after u) (kept_by job m u)) e
    one u lt false e =
        let apart : u ≢ t = λ same. (let no = sym (eq-eqb u t same) ∙ e in cc) in
        ap (λ b. cond b (kept_by job after u) (kept_by job m u)) e
        ∙ kept_other job m (first_wait t k p n outcomes) u at.reached.ran next (omega arith) apart

-- ---- how much is kept

-- no more than was taken
pub kept_within : (job : Job) (m : Moment) (t : ℕ) → HasRun job m → t < length job.graph.tasks
    → 0 < length (task_at job.graph t).inputs
    → length (kept_by job m t) ≤ length (m.taken t 0)
kept_within job m t ran there some =
    by (m.number (input_at (task_at job.graph t) 0) t) ((ran.tasks t there).inputs 0 some)
  where
    by : (o : Option ℕ) → TakenOn job m t 0 (input_at (task_at job.graph t) 0) o
        → length (kept_on job m (input_at (task_at job.graph t) 0) o) ≤ length (m.taken t 0)
    by None on = omega arith
    by (Some n) on =
        let q = input_at (task_at job.graph t) 0 in
        let same = ap length on.taken in
        let few = kept_few (received_by (value_at job q) (m.history q) n) in
        omega arith

-- ---- the opening

pub opened_kept : (job : Job) (t : ℕ) → kept_by job (opening job) t ≡ []
opened_kept job t = by (root_number job q t)
  where
    q : ℕ
    q = input_at (task_at job.graph t) 0

    with_one : (n x : ℕ) (o : Option Mode)
        → received_by (value_at job q) (roots_joined job q n) x ≡ []
        → received_by (value_at job q) (with_root (roots_joined job q n) o) x ≡ []
    with_one n x None e = e
    with_one n x (Some mode) e = e

    none : (n x : ℕ) → received_by (value_at job q) (roots_joined job q n) x ≡ []
    none zero x = refl
    none (suc n) x = with_one n x (root_mode job n q) (none n x)

    by : (o : Option ℕ) → kept_on job (opening job) q o ≡ []
    by None = refl
    by (Some x) = ap kept_of (none (length job.graph.tasks) x)

-- ---- where no wait was answered a value that is too big

pub all_in_range : (outcomes : List Outcome) → All (λ outcome. is_too_big outcome ≡ false) outcomes
    → kept_of outcomes ≡ map number outcomes
all_in_range [] all = refl
all_in_range (outcome ∷ rest) all =
    kept_first outcome rest (all 0 outcome (omega arith))
    ∙ ap (λ l. number outcome ∷ l)
    (all_in_range rest (λ i d lt. all (suc i) d (omega arith)))

-- a task keeps all that it has taken
pub all_kept : (job : Job) (m : Moment) (t : ℕ) → IsGraph job.graph → HasRun job m
    → HasAnsweredNone job m → t < length job.graph.tasks
    → 0 < length (task_at job.graph t).inputs → kept_by job m t ≡ m.taken t 0
all_kept job m t is ran none there some =
    by (m.number q t) refl ((ran.tasks t there).inputs 0 some)
  where
    q : ℕ
    q = input_at (task_at job.graph t) 0

    by : (o : Option ℕ) → m.number q t ≡ o → TakenOn job m t 0 q o
        → kept_on job m q o ≡ m.taken t 0
    by None e on = sym on.0
    by (Some n) e on =
        let pp : q < length job.graph.phasers = (is.tasks t there).inputs 0 0 some in
        all_in_range (received_by (value_at job q) (m.history q) n)
        (met_none job m none q t n pp there e) ∙ sym on.taken

-- a sink has an input
pub sink_reads : (job : Job) (t : ℕ) → IsGraph job.graph → t < length job.graph.tasks
    → is_sink_at job t ≡ true → 0 < length (task_at job.graph t).inputs
sink_reads job t is there sink =
    has_inputs (task_at job.graph t).kind (length (task_at job.graph t).inputs)
    (length (task_at job.graph t).outputs) (is.tasks t there).ends
    (λ source. (let no : is_sink_at job t ≡ false = ap is_sink source in
    let wrong : true ≡ false = sym sink ∙ no in cc))

pub lines_taken : (job : Job) (m : Moment) → IsGraph job.graph → HasRun job m
    → HasAnsweredNone job m
    → map {B = ℕ × List ℤ} (λ u. (u, kept_by job m u)) (sinks_of job)
    ≡ map {B = ℕ × List ℤ} (λ u. (u, m.taken u 0)) (sinks_of job)
lines_taken job m is ran none =
    map_found (is_sink_at job) (λ u. (u, kept_by job m u)) (λ u. (u, m.taken u 0)) 0
    (length job.graph.tasks) (λ u lt sink.
    (let there : u < length job.graph.tasks = omega arith in
    ap (λ l. (u, l)) (all_kept job m u is ran none there (sink_reads job u is there sink))))
