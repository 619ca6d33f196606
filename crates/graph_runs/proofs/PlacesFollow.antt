-- The places of the tasks after a turn's event.
use Rattle.std.proofs.Common.{◌≡◌, ◌≢◌, ℕ, suc, ◌+◌, ◌<◌, ◌≤◌, true, eqb, ◌∷◌, Some, None, length, map, slice_get, refl, sym, ap, ◌∙◌, arith, ◌⊎◌, inl, inr}
use Rattle.std.specs.Prelude.{nat_lt, unwrap_or}
use Rattle.std.proofs.lemmas.Bool.{eq-eqb, cases_lt, le-ltb, lt-ltb}
use Rattle.std.proofs.lemmas.Option.{same_Some, slice_get-get_or, slice_get_past}
use Rattle.phase_history.specs.declared.event.Event.TheVariants.{Signalled, Waited, Dropped}
use Rattle.phase_history.specs.Histories.{has_dropped, greatest_used}
use Rattle.graph_base.specs.declared.registration.Registration.{Registration}
use Rattle.graph_base.specs.Graphs.{phaser_at}
use Rattle.graph_base.specs.Registrations.{no_registration}
use Rattle.graph_base.specs.TaskLines.{IsGraph}
use Rattle.stream_lists.specs.Jobs.{Job}
use Rattle.phase_history.specs.Legal.{IsLegal}
use Rattle.graph_runs.specs.Moments.{one, Moment, HasRun, limits_at}
use Rattle.graph_runs.specs.Moves.{SameTask}
use Rattle.graph_runs.proofs.InBlocks.{next_samples_are, next_signals_are, first_waits_are}
use Rattle.graph_runs.proofs.JoinsNow.{next_child_now_is}
use Rattle.graph_runs.proofs.Turned.{exchange_wait_is, next_leave_is, next_child_is}
use Rattle.graph_runs.specs.TaskEvents.{TaskEvent, IsNext, sample, signal, first_wait, exchange_wait, leave, child, child_now, after_turn}
use Rattle.graph_runs.specs.Nexts.{has_left, number_on, registrations_at, first_missing}
use Rattle.graph_runs.specs.TaskPlaces.{TaskPlace, StandsUpTo, registration_at, own_place, child_place, child_of, number_given}
use Rattle.graph_runs.proofs.Signalling.{Live}
use Rattle.graph_runs.proofs.Whose.{task_of, IsInOrder}
use Rattle.graph_runs.proofs.Reaching.{one_registration}
use Rattle.graph_runs.proofs.Standing.{missing, kept}
use Rattle.graph_runs.proofs.Following.{SameSteps, same_steps, StepsAt, steps_stay, stays_same, keeps_moved, dropped_other, GivesNumber, gives, gives_now, keeps_registered, child_stands}

-- ---- other tasks

pub others_follow : {most : ℕ} (job : Job) (m : Moment) (u : ℕ) (event : TaskEvent) (at : TaskPlace)
    → IsGraph job.graph → HasRun job m → IsNext job m event → u < length job.graph.tasks
    → u ≢ task_of event → child_of event ≢ Some u → StandsUpTo most job m u at
    → StandsUpTo most job (after_turn job event m) u at
others_follow job m u (sample t j p n vs) at is ran next there apart another stands =
    let after = after_turn job (sample t j p n vs) m in
    let s = next_samples_are job m t j p n vs next.1 (ran.tasks t next.0.task) in
    stays_same job m after u at stands (keeps_moved job m after t p
    (Signalled n (map one vs) (phaser_at job.graph p).single) u s.moved (λ b at. refl))
    (s.moved.others u apart)
others_follow job m u (signal t j p n vs) at is ran next there apart another stands =
    let after = after_turn job (signal t j p n vs) m in
    let s = next_signals_are job m t j p n vs next.1 (ran.tasks t next.0.task) in
    stays_same job m after u at stands (keeps_moved job m after t p
    (Signalled n (map one vs) (phaser_at job.graph p).single) u s.moved (λ b at. refl))
    (s.moved.others u apart)
others_follow job m u (first_wait t k p n outcomes) at is ran next there apart another stands =
    let after = after_turn job (first_wait t k p n outcomes) m in
    let s = first_waits_are job m t k p n outcomes next.1 in
    stays_same job m after u at stands
    (keeps_moved job m after t p (Waited n (length outcomes)) u s.moved (λ b at. refl))
    (s.moved.others u apart)
others_follow job m u (exchange_wait t p n outcome) at is ran next there apart another stands =
    let after = after_turn job (exchange_wait t p n outcome) m in
    let s = exchange_wait_is job m t p n outcome next.1 in
    stays_same job m after u at stands
    (keeps_moved job m after t p (Waited n 1) u s.moved (λ b at. refl)) (s.moved.others u apart)
others_follow job m u (leave t p n) at is ran next there apart another stands =
    let after = after_turn job (leave t p n) m in
    let s = next_leave_is job m t p n next.1 in
    stays_same job m after u at stands
    (keeps_moved job m after t p (Dropped n) u s.moved
    (λ b number. dropped_other (m.history p) n b
    (λ same. apart ((ran.phasers p next.0.phaser).distinct u t b there next.0.task number
    (s.numbered ∙ ap (λ x. Some x) same)))))
    (s.moved.others u apart)
others_follow job m u (child t p n c a mode) at is ran next there apart another stands =
    let after = after_turn job (child t p n c a mode) m in
    let s = next_child_is job m t p n c a mode next.1.0 next.1.1 in
    let other : u ≢ c = λ same. another (ap (λ x. Some x) (sym same)) in
    stays_same job m after u at stands
    (keeps_registered m after p c a u (gives job m after t p n c a mode next.1.0 s) other)
    (s.same u)
others_follow job m u (child_now t p n c a) at is ran next there apart another stands =
    let after = after_turn job (child_now t p n c a) m in
    let s = next_child_now_is job m t p n c a next.1.0 next.1.1 in
    let other : u ≢ c = λ same. another (ap (λ x. Some x) (sym same)) in
    stays_same job m after u at stands
    (keeps_registered m after p c a u (gives_now job m after t p n c a next.1.0 s) other)
    (s.same u other)

-- ---- the child that is registered, and its parent

-- a registration is for the first that the child misses
first_for : {most : ℕ} (job : Job) (m after : Moment) (p c a : ℕ) (r : Registration) (at : TaskPlace)
    → IsGraph job.graph → c < length job.graph.tasks → IsLegal (limits_at job p) (m.history p)
    → GivesNumber m after p c a → SameSteps m after c → first_missing job m c ≡ Some r
    → r.phaser ≡ p → greatest_used (m.history p) + 1 ≡ a → StandsUpTo most job m c at
    → StandsUpTo most job after c (child_place a at)
first_for job m after p c a r at is there legal given same first on above stands =
    let found : slice_get (registrations_at job c) (length at.numbers) ≡ Some r =
    sym (missing job m c at stands) ∙ first in
    let room : length at.numbers < length (registrations_at job c) =
    within (cases_lt (length at.numbers) (length (registrations_at job c))) found in
    let here : registration_at job c (length at.numbers) ≡ r =
    same_Some (registration_at job c (length at.numbers)) r
    (sym (slice_get-get_or (registrations_at job c) (length at.numbers) no_registration room)
    ∙ found) in
    child_stands job m after p c a at is there legal given same stands room
    (ap (λ x. x.phaser) here ∙ on) (omega arith)
  where
    within : (length at.numbers < length (registrations_at job c))
        ⊎ (length (registrations_at job c) ≤ length at.numbers)
        → slice_get (registrations_at job c) (length at.numbers) ≡ Some r
        → length at.numbers < length (registrations_at job c)
    within (inl room) found = room
    within (inr past) found =
        absurd (let no : None ≡ Some r =
        sym (slice_get_past (registrations_at job c) (length at.numbers) past) ∙ found in cc)

-- of the child and the number that the event names
child_is : {most : ℕ} (job : Job) (m after : Moment) (c d a b : ℕ) (at : TaskPlace) → d ≡ c → b ≡ a
    → StandsUpTo most job m c at
    → (StandsUpTo most job m d at → StandsUpTo most job after d (child_place b at))
    → StandsUpTo most job after c (child_place a at)
child_is job m after c d a b at same number stands follows =
    rw number at (rw same at (follows (rw same stands)))

pub child_follows : {most : ℕ} (job : Job) (m : Moment) (c a : ℕ) (event : TaskEvent) (at : TaskPlace)
    → IsGraph job.graph → HasRun job m → IsNext job m event → IsInOrder job m event
    → child_of event ≡ Some c → number_given event ≡ Some a → StandsUpTo most job m c at
    → StandsUpTo most job (after_turn job event m) c (child_place a at)
child_follows job m c a (child t p n d b mode) at is ran next order of_c number stands =
    let after = after_turn job (child t p n d b mode) m in
    let s = next_child_is job m t p n d b mode next.1.0 next.1.1 in
    child_is job m after c d a b at (same_Some d c of_c) (same_Some b a number) stands
    (first_for job m after p d b order.0 at is s.child (ran.phasers p next.0.phaser).legal
    (gives job m after t p n d b mode next.1.0 s) (same_steps m after d (s.same d)) order.1 order.2
    order.4)
child_follows job m c a (child_now t p n d b) at is ran next order of_c number stands =
    let after = after_turn job (child_now t p n d b) m in
    let s = next_child_now_is job m t p n d b next.1.0 next.1.1 in
    child_is job m after c d a b at (same_Some d c of_c) (same_Some b a number) stands
    (first_for job m after p d b order.0 at is s.child (ran.phasers p next.0.phaser).legal
    (gives_now job m after t p n d b next.1.0 s)
    (record { begun = refl; taken = λ k. refl; put = λ j. refl }) order.1 order.2 order.3)
child_follows job m c a (sample t j p n vs) at is ran next order of_c number stands = absurd (cc)
child_follows job m c a (signal t j p n vs) at is ran next order of_c number stands = absurd (cc)
child_follows job m c a (first_wait t k p n os) at is ran next order of_c number stands =
    absurd (cc)
child_follows job m c a (exchange_wait t p n o) at is ran next order of_c number stands =
    absurd (cc)
child_follows job m c a (leave t p n) at is ran next order of_c number stands = absurd (cc)

pub parent_follows : {most : ℕ} (job : Job) (m : Moment) (t c : ℕ) (event : TaskEvent) (at : TaskPlace)
    → IsNext job m event → task_of event ≡ t → child_of event ≡ Some c → StandsUpTo most job m t at
    → StandsUpTo most job (after_turn job event m) t (own_place job m event at)
parent_follows job m t c (child u p n d a mode) at next own of_c stands =
    let after = after_turn job (child u p n d a mode) m in
    let s = next_child_is job m u p n d a mode next.1.0 next.1.1 in
    let apart : t ≢ d = λ same.
    (let wrong : Some n ≡ None =
    sym s.numbered ∙ ap (λ x. m.number p x) (own ∙ same) ∙ s.absent in cc) in
    stays_same job m after t at stands
    (keeps_registered m after p d a t (gives job m after u p n d a mode next.1.0 s) apart)
    (s.same t)
parent_follows job m t c (child_now u p n d a) at next own of_c stands =
    let after = after_turn job (child_now u p n d a) m in
    let s = next_child_now_is job m u p n d a next.1.0 next.1.1 in
    let apart : t ≢ d = λ same.
    (let wrong : Some n ≡ None =
    sym s.numbered ∙ ap (λ x. m.number p x) (own ∙ same) ∙ s.absent in cc) in
    stays_same job m after t at stands
    (keeps_registered m after p d a t (gives_now job m after u p n d a next.1.0 s) apart)
    (s.same t apart)
parent_follows job m t c (sample u j p n vs) at next own of_c stands = absurd (cc)
parent_follows job m t c (signal u j p n vs) at next own of_c stands = absurd (cc)
parent_follows job m t c (first_wait u k p n os) at next own of_c stands = absurd (cc)
parent_follows job m t c (exchange_wait u p n o) at next own of_c stands = absurd (cc)
parent_follows job m t c (leave u p n) at next own of_c stands = absurd (cc)

-- ---- a task that leaves

-- task t, as number n on phaser p, has left it
pub record LeavesOne (before after : Moment) (t p n : ℕ) : Type 0 where
  pub numbered : before.number p t ≡ Some n
  pub numbers : (q : ℕ) → after.number q t ≡ before.number q t
  pub gone : has_dropped (after.history p) n ≡ true
  pub elsewhere : (q : ℕ) → q ≢ p → after.history q ≡ before.history q
  pub same : SameTask before after t

-- a task leaves the phaser of its next registration
pub leave_stands : {most : ℕ} (job : Job) (m after : Moment) (t p n : ℕ) (at : TaskPlace)
    → IsGraph job.graph → t < length job.graph.tasks → LeavesOne m after t p n
    → StandsUpTo most job m t at → at.left < length at.numbers
    → (registration_at job t at.left).phaser ≡ p
    → StandsUpTo most job after t (record at { left = suc at.left })
leave_stands {most} job m after t p n at is there s stands room here = record {
  few = stands.few;
  few_left = omega arith;
  numbered = λ i lt. s.numbers (registration_at job t i).phaser ∙ stands.numbered i lt;
  leaves = λ i lt. leaves i lt (cases_lt i at.left) (cases_lt at.left i);
  begun = steps.begun;
  owes = steps.owes;
  lacks = steps.lacks;
}
  where
    steps : StepsAt most job after t at
    steps = steps_stay job m after t at (same_steps m after t s.same) stands

    all : length at.numbers ≤ length (registrations_at job t)
    all = stands.few

    -- what was left, and what was not, on another phaser
    as_before : (i : ℕ) → i < length at.numbers → i ≢ at.left
        → has_left after t (registration_at job t i) ≡ has_left m t (registration_at job t i)
    as_before i lt other =
        let q = (registration_at job t i).phaser in
        let le : length at.numbers ≤ length (registrations_at job t) = all in
        ap (λ o. has_dropped (after.history q) (unwrap_or o 0)) (s.numbers q)
        ∙ ap (λ h. has_dropped h (number_on m t q))
        (s.elsewhere q (λ same. other
        (one_registration job t i at.left is there (omega arith) (omega arith)
        (same ∙ sym here))))

    leaves : (i : ℕ) → i < length at.numbers → (i < at.left) ⊎ (at.left ≤ i)
        → (at.left < i) ⊎ (i ≤ at.left)
        → has_left after t (registration_at job t i) ≡ nat_lt i (suc at.left)
    leaves i lt (inl low) d =
        as_before i lt (λ e. omega arith) ∙ stands.leaves i lt ∙ lt-ltb i at.left low
        ∙ sym (lt-ltb i (suc at.left) (omega arith))
    leaves i lt (inr le) (inl high) =
        as_before i lt (λ e. omega arith) ∙ stands.leaves i lt ∙ le-ltb i at.left le
        ∙ sym (le-ltb i (suc at.left) (omega arith))
    leaves i lt (inr le) (inr ge) =
        let same : i ≡ at.left = omega arith in
        let q = (registration_at job t i).phaser in
        let at_p : q ≡ p = ap (λ x. (registration_at job t x).phaser) same ∙ here in
        ap (λ x. has_dropped (after.history x) (unwrap_or (after.number x t) 0)) at_p
        ∙ ap (λ o. has_dropped (after.history p) (unwrap_or o 0)) (s.numbers p ∙ s.numbered)
        ∙ s.gone ∙ sym (lt-ltb i (suc at.left) (omega arith))

pub leave_follows : {most : ℕ} (job : Job) (m : Moment) (t p n : ℕ) (at : TaskPlace) → IsGraph job.graph
    → Live job m t → IsNext job m (leave t p n) → IsInOrder job m (leave t p n)
    → StandsUpTo most job m t at
    → StandsUpTo most job (after_turn job (leave t p n) m) t (record at { left = suc at.left })
leave_follows job m t p n at is live next made stands =
    let event = leave t p n in
    let s = next_leave_is job m t p n next.1 in
    let none : slice_get (registrations_at job t) (length at.numbers) ≡ None =
    sym (missing job m t at stands) ∙ live.all in
    let all : length at.numbers ≡ length (registrations_at job t) =
    full (cases_lt (length at.numbers) (length (registrations_at job t))) none stands.few in
    let found : slice_get (registrations_at job t) at.left ≡ Some made.0 =
    sym (kept job m t at stands all) ∙ made.1 in
    let room : at.left < length (registrations_at job t) =
    within made.0 (cases_lt at.left (length (registrations_at job t))) found in
    let here : registration_at job t at.left ≡ made.0 =
    same_Some (registration_at job t at.left) made.0
    (sym (slice_get-get_or (registrations_at job t) at.left no_registration room) ∙ found) in
    let first : eqb n n ≡ true = eq-eqb n n refl in
    let dropped : has_dropped (Dropped n ∷ m.history p) n ≡ true = rw first refl in
    let one : LeavesOne m (after_turn job event m) t p n = record {
      numbered = s.numbered;
      numbers = λ q. refl;
      gone = ap (λ h. has_dropped h n) s.moved.here ∙ dropped;
      elsewhere = s.moved.elsewhere;
      same = s.same;
    } in
    leave_stands job m (after_turn job event m) t p n at is next.0.task one stands (omega arith)
    (ap (λ r. r.phaser) here ∙ made.2)
  where
    full : (length at.numbers < length (registrations_at job t))
        ⊎ (length (registrations_at job t) ≤ length at.numbers)
        → slice_get (registrations_at job t) (length at.numbers) ≡ None
        → length at.numbers ≤ length (registrations_at job t)
        → length at.numbers ≡ length (registrations_at job t)
    full (inl room) none few =
        absurd (let some : slice_get (registrations_at job t) (length at.numbers)
        ≡ Some (registration_at job t (length at.numbers)) =
        slice_get-get_or (registrations_at job t) (length at.numbers) no_registration room in
        let no : Some (registration_at job t (length at.numbers)) ≡ None = sym some ∙ none in cc)
    full (inr past) none few = omega arith

    within : (r : Registration) → (at.left < length (registrations_at job t))
        ⊎ (length (registrations_at job t) ≤ at.left)
        → slice_get (registrations_at job t) at.left ≡ Some r
        → at.left < length (registrations_at job t)
    within r (inl room) found = room
    within r (inr past) found =
        absurd (let no : None ≡ Some r =
        sym (slice_get_past (registrations_at job t) at.left past) ∙ found in cc)
