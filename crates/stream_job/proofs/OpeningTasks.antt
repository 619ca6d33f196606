-- The opening of a run, as the code has its tasks.
use Rattle.std.proofs.Common.{◌≡◌, ℕ, zero, suc, ◌+◌, ◌-◌, ◌<◌, ◌≤◌, true, false, eqb, List, [], ◌∷◌, ◌++◌, Option, Some, None, length, get_or, refl, sym, ap, ◌∙◌, arith, ◌⊎◌, inl, inr}
use Rattle.std.specs.Prelude.{slice_get, nat_lt, unwrap_or, option_map}
use Rattle.std.specs.List.{find, filter, range_with_len}
use Rattle.std.proofs.lemmas.Bool.{cases_lt, lt-leb, eq-eqb}
use Rattle.std.proofs.lemmas.Option.{slice_get-get_or}
use Rattle.phase_history.specs.Histories.{greatest_used, has_dropped}
use Rattle.graph_base.specs.declared.registration.Registration.{Registration}
use Rattle.graph_base.specs.Graphs.{task_at}
use Rattle.graph_base.specs.Registrations.{no_registration}
use Rattle.graph_base.specs.TaskLines.{IsGraph}
use Rattle.stream_lists.specs.Jobs.{Job}
use Rattle.stream_lists.specs.Lists.{is_sink_at, sinks_of}
use Rattle.stream_lists.specs.Spans.{signalled_by, puts_on}
use Rattle.stream_lists.proofs.Basics.{find_none_in_range, passes-at}
use Rattle.graph_runs.specs.Moments.{HasRun, made_now}
use Rattle.graph_runs.proofs.OnLines.{on_phaser}
use Rattle.graph_runs.specs.Openings.{PhaserOpened}
use Rattle.graph_runs.proofs.Opened.{none_dropped}
use Rattle.graph_runs.proofs.Lacking.{none_put, nothing_lacks}
use Rattle.graph_runs.specs.Beginnings.{mode_on, root_mode, root_number, number_after_founder, roots_joined, opening}
use Rattle.graph_runs.specs.Nexts.{registrations_at, number_on, has_left, is_owed, first_owed}
use Rattle.graph_runs.specs.TaskPlaces.{registration_at, StandsUpTo, at_start}
use Rattle.graph_runs.proofs.AtOpening.{phaser_opened, opening_has_begun}
use Rattle.graph_runs.proofs.Boundaries.{made_many}
use Rattle.graph_runs.proofs.PlacesLemmas.{find-none}
use Rattle.graph_runs.proofs.Reaching.{begun_reached}
use Rattle.graph_runs.proofs.TurnRegistering.{is_for}

-- ---- numbers

-- a root has the next number of each phaser of its line
pub root_numbered : (job : Job) (t k : ℕ) → (task_at job.graph t).parent ≡ None
    → k < length (registrations_at job t)
    → root_number job (registration_at job t k).phaser t
    ≡ Some (greatest_used (roots_joined job (registration_at job t k).phaser t) + 1)
root_numbered job t k root lt =
    by (find (λ r. eqb r.phaser (registration_at job t k).phaser) (registrations_at job t)) refl
  where
    p : ℕ
    p = (registration_at job t k).phaser

    by : (o : Option Registration)
        → find (λ r. eqb r.phaser (registration_at job t k).phaser) (registrations_at job t) ≡ o
        → root_number job (registration_at job t k).phaser t
        ≡ Some (greatest_used (roots_joined job (registration_at job t k).phaser t) + 1)
    by (Some r) f =
        let on : root_mode job t p ≡ mode_on job t p = rw root refl in
        ap (number_after_founder (roots_joined job p t)) (on ∙ ap (option_map (λ s. s.mode)) f)
    by None f =
        let no : eqb p p ≡ false =
        find-none (λ r. eqb r.phaser p) (registrations_at job t) k no_registration f lt in
        let yes : eqb p p ≡ true = eq-eqb p p refl in
        absurd (let both = sym yes ∙ no in cc)

-- ---- lists that grow at their end

pub push-before : {X : Type 0} (xs : List X) (x : X) (i : ℕ) → i < length xs
    → slice_get (xs ++ x ∷ []) i ≡ slice_get xs i
push-before [] x i lt = absurd (omega arith)
push-before (y ∷ ys) x zero lt = refl
push-before (y ∷ ys) x (suc i) lt = push-before ys x i (omega arith)

pub push-last : {X : Type 0} (xs : List X) (x : X) → slice_get (xs ++ x ∷ []) (length xs) ≡ Some x
push-last [] x = refl
push-last (y ∷ ys) x = push-last ys x

-- what holds of the places of a list holds of one more
pub each-next : (f : ℕ → Option ℕ) (xs ys : List ℕ) (x k : ℕ) → length xs ≡ k
    → ((i : ℕ) → i < k → f i ≡ slice_get xs i) → f k ≡ Some x → ys ≡ xs ++ x ∷ []
    → (i : ℕ) → i < k + 1 → f i ≡ slice_get ys i
each-next f xs ys x k long each next is i lt = by (cases_lt i k)
  where
    by : (i < k) ⊎ (k ≤ i) → f i ≡ slice_get ys i
    by (inl less) =
        each i less ∙ sym (ap (λ l. slice_get l i) is ∙ push-before xs x i (omega arith))
    by (inr most) =
        let same : i ≡ length xs = omega arith in
        let last : k ≡ i = omega arith in
        ap f (sym last) ∙ next
        ∙ sym (ap (λ l. slice_get l i) is ∙ ap (slice_get (xs ++ x ∷ [])) same ∙ push-last xs x)

-- ---- a task

owes_nothing : (job : Job) (t : ℕ) → IsGraph job.graph → t < length job.graph.tasks
    → first_owed job (opening job) t ≡ None
owes_nothing job t is there =
    find_none_in_range (is_owed job (opening job) t)
    (length (signalled_by (task_at job.graph t))) none
  where
    ran : HasRun job (opening job)
    ran = (begun_reached job (opening job) is (opening_has_begun job is)).ran

    none : (j : ℕ) → j < length (signalled_by (task_at job.graph t))
        → is_owed job (opening job) t j ≡ false
    none j lt =
        let many : length (made_now job (opening job) t j) ≡ puts_on (task_at job.graph t) 0 j =
        made_many job (opening job) t j is (ran.tasks t there) there lt in
        let zero_many = none_put (task_at job.graph t) j lt in
        lt-leb (0 + 1) (length (made_now job (opening job) t j)) (omega arith)

-- no task has left
stays : (job : Job) (t i : ℕ) (numbers : List ℕ) → IsGraph job.graph
    → t < length job.graph.tasks → i < length (registrations_at job t)
    → root_number job (registration_at job t i).phaser t ≡ slice_get numbers i
    → i < length numbers → has_left (opening job) t (registration_at job t i) ≡ false
stays job t i numbers is there few at lt =
    ap (has_dropped ((opening job).history p)) on
    ∙ none_dropped q.founder ((opening job).history p) n q.opening (q.apart t n numbered)
  where
    p : ℕ
    p = (registration_at job t i).phaser

    n : ℕ
    n = get_or numbers i 0

    numbered : root_number job (registration_at job t i).phaser t ≡ Some (get_or numbers i 0)
    numbered = at ∙ slice_get-get_or numbers i 0 lt

    on : number_on (opening job) t (registration_at job t i).phaser ≡ get_or numbers i 0
    on = ap (λ o. unwrap_or o 0) numbered

    q : PhaserOpened job (opening job) (registration_at job t i).phaser
    q = phaser_opened job (registration_at job t i).phaser is
        (on_phaser job t (registration_at job t i).phaser is there
        (is_for job t i is there few).on_line)

pub opening_stands : (most : ℕ) (job : Job) (t : ℕ) (numbers : List ℕ) → IsGraph job.graph
    → t < length job.graph.tasks → length numbers ≤ length (registrations_at job t)
    → ((i : ℕ) → i < length (registrations_at job t)
    → root_number job (registration_at job t i).phaser t ≡ slice_get numbers i)
    → StandsUpTo most job (opening job) t (at_start numbers)
opening_stands most job t numbers is there few at = record {
  few = few;
  few_left = omega arith;
  numbered = at;
  leaves = λ i lt.
      (let never : nat_lt i 0 ≡ false = lt-leb (suc i) 0 (omega arith) in
      stays job t i numbers is there (omega arith) (at i (omega arith)) lt ∙ sym never);
  begun = refl;
  owes = owes_nothing job t is there;
  lacks = nothing_lacks job (opening job) t is
      ((begun_reached job (opening job) is (opening_has_begun job is)).ran.tasks t there) there refl
      (λ j. refl);
}

-- ---- sinks

pub sink_is : (job : Job) (t : ℕ) → t < length job.graph.tasks → is_sink_at job t ≡ true
    → slice_get (sinks_of job) (length (filter (is_sink_at job) (range_with_len 0 t))) ≡ Some t
sink_is job t there e =
    let all : length job.graph.tasks ≡ t + suc (length job.graph.tasks - t - 1) = omega arith in
    let here : 0 + t ≡ t = omega arith in
    ap (λ n. slice_get (filter (is_sink_at job) (range_with_len 0 n))
    (length (filter (is_sink_at job) (range_with_len 0 t)))) all
    ∙ passes-at (is_sink_at job) 0 t (length job.graph.tasks - t - 1)
    (ap (is_sink_at job) here ∙ e)
    ∙ ap (λ n. Some n) here
