-- The tasks in the lists of a run are blocked.
use Rattle.std.proofs.Common.{◌≡◌, ◌≢◌, ℕ, zero, suc, ◌<◌, ◌≤◌, Bool, true, false, ◌||◌, eqb, cond, List, [], ◌∷◌, ◌++◌, length, get_or, set, refl, sym, ap, subst, ◌∙◌, ◌⊎◌, inl, inr}
use Rattle.std.specs.List.{list_any}
use Rattle.std.proofs.Math.Bool.{or-false}
use Rattle.std.proofs.lemmas.Bool.{eqb-true, eq-eqb, cases_lt, or_cases}
use Rattle.std.proofs.lemmas.List.{get_or-set_same, get_or-set_other, set_past}
use Rattle.std.proofs.lemmas.List.Folds.{list_any-append}
use Rattle.stream_lists.specs.Jobs.{Job}
use Rattle.graph_runs.specs.Moments.{Moment}
use Rattle.graph_runs.specs.TaskEvents.{TaskEvent, after_turn}
use Rattle.graph_runs.specs.Nexts.{next_of}
use Rattle.graph_runs.specs.Answers.{Answer, makes, is_blocked, is_gone, has_made, is_refused, after_answer, answer_of_turn, answer_to, is_still, was_blocked}
use Rattle.stream_job.specs.Blocking.{called_on, AreBlocked, IsBlockedOn}
use Rattle.stream_job.specs.Machines.{IsMachineAt}
use Rattle.stream_job.specs.Parking.{StandsIn, with_task}
use Rattle.stream_job.specs.Turning.{parked_after, phaser_of}
use Rattle.stream_job.specs.declared.machine.Machine.{Machine}
use Rattle.stream_job.proofs.Lively.{live_next}
use Rattle.stream_job.proofs.Staying.{blocked_still}

-- ---- where a task stands in the lists after a change

-- the list that was emptied
emptied : (lists : List (List ℕ)) (q : ℕ) → get_or (set lists q []) q [] ≡ []
emptied [] zero = refl
emptied [] (suc q) = refl
emptied (list ∷ lists) zero = refl
emptied (list ∷ lists) (suc q) = emptied lists q

-- the list that task t was put behind
in_list : (t u : ℕ) (list : List ℕ) → list_any (λ x. eqb x u) (with_task t list) ≡ true
    → (list_any (λ x. eqb x u) list ≡ true) ⊎ (t ≡ u)
in_list t u list stands = by (list_any (λ x. eqb x t) list) stands
  where
    last : (list_any (λ x. eqb x u) list ≡ true) ⊎ ((eqb t u || false) ≡ true)
        → (list_any (λ x. eqb x u) list ≡ true) ⊎ (t ≡ u)
    last (inl old) = inl old
    last (inr new) = inr (eqb-true t u (sym (or-false (eqb t u)) ∙ new))

    by : (b : Bool) → list_any (λ x. eqb x u) (cond b list (list ++ t ∷ [])) ≡ true
        → (list_any (λ x. eqb x u) list ≡ true) ⊎ (t ≡ u)
    by true stands = inl stands
    by false stands =
        last (or_cases (list_any (λ x. eqb x u) list) (eqb t u || false)
        (sym (list_any-append (λ x. eqb x u) list (t ∷ [])) ∙ stands))

-- task u stands in the list of p, where task t was put behind that of q
in_lists : (parked : List (List ℕ)) (q p t u : ℕ)
    → list_any (λ x. eqb x u) (get_or (set parked q (with_task t (get_or parked q []))) p []) ≡ true
    → (list_any (λ x. eqb x u) (get_or parked p []) ≡ true) ⊎ ((q ≡ p) × (t ≡ u))
in_lists parked q p t u stands = by (eqb p q) refl
  where
    list : List ℕ
    list = with_task t (get_or parked q [])

    same : p ≡ q → (q < length parked) ⊎ (length parked ≤ q)
        → (list_any (λ x. eqb x u) (get_or parked p []) ≡ true) ⊎ ((q ≡ p) × (t ≡ u))
    same is (inl lt) =
        of (in_list t u (get_or parked q [])
        (sym (ap (list_any (λ x. eqb x u))
        (ap (λ r. get_or (set parked q list) r []) is ∙ get_or-set_same parked q list [] lt))
        ∙ stands))
      where
        of : (list_any (λ x. eqb x u) (get_or parked q []) ≡ true) ⊎ (t ≡ u)
            → (list_any (λ x. eqb x u) (get_or parked p []) ≡ true) ⊎ ((q ≡ p) × (t ≡ u))
        of (inl old) = inl (ap (λ r. list_any (λ x. eqb x u) (get_or parked r [])) is ∙ old)
        of (inr new) = inr (sym is, new)
    same is (inr past) =
        inl (ap (λ l. list_any (λ x. eqb x u) (get_or l p [])) (sym (set_past parked q list past))
        ∙ stands)

    by : (b : Bool) → eqb p q ≡ b
        → (list_any (λ x. eqb x u) (get_or parked p []) ≡ true) ⊎ ((q ≡ p) × (t ≡ u))
    by true e = same (eqb-true p q e) (cases_lt q (length parked))
    by false e =
        inl (ap (list_any (λ x. eqb x u)) (sym (get_or-set_other parked q p list []
        (λ is. (let no = sym (eq-eqb p q is) ∙ e in cc)))) ∙ stands)

-- ---- the tasks in the lists are blocked

-- an event empties the list of its phaser
after_event : (job : Job) (m : Moment) (machine : Machine) (t : ℕ) (event : TaskEvent)
    (parked : List (List ℕ)) → IsMachineAt job m machine → answer_of_turn job m t ≡ makes event
    → AreBlocked job m parked
    → AreBlocked job (after_turn job event m) (set parked (phaser_of event) [])
after_event job m machine t event parked at answer were p u stands = by (eqb p (phaser_of event)) refl
  where
    by : (b : Bool) → eqb p (phaser_of event) ≡ b → IsBlockedOn job (after_turn job event m) u p
    by true e =
        let q = phaser_of event in
        absurd (let wrong : false ≡ true =
        sym (ap (list_any (λ x. eqb x u))
        (ap (λ r. get_or (set parked q []) r []) (eqb-true p q e) ∙ emptied parked q)) ∙ stands in cc)
    by false e =
        let q = phaser_of event in
        let apart : p ≢ q = λ is. (let no = sym (eq-eqb p q is) ∙ e in cc) in
        blocked_still job m machine t u p event at answer
        (were p u (ap (list_any (λ x. eqb x u)) (sym (get_or-set_other parked q p [] [] apart))
        ∙ stands)) apart

-- a task that is blocked joins the list of the phaser of its call
after_blocked : (job : Job) (m : Moment) (t : ℕ) (parked : List (List ℕ))
    → answer_of_turn job m t ≡ is_blocked → AreBlocked job m parked
    → AreBlocked job m (parked_after job t (next_of job m t) is_blocked parked)
after_blocked job m t parked answer were p u stands =
    by (in_lists parked (called_on job t (next_of job m t)) p t u stands)
  where
    q : ℕ
    q = called_on job t (next_of job m t)

    here : IsBlockedOn job m t q
    here = record {
      live = live_next job m t (next_of job m t) refl
          (λ none. (let wrong : is_gone ≡ is_blocked =
          sym (ap (answer_to job m t) none) ∙ answer in cc));
      blocked = answer;
      called = refl;
    }

    by : (list_any (λ x. eqb x u) (get_or parked p []) ≡ true) ⊎ ((q ≡ p) × (t ≡ u))
        → IsBlockedOn job m u p
    by (inl old) = were p u old
    by (inr new) =
        subst (λ x. IsBlockedOn job m x p) new.1 (subst (IsBlockedOn job m t) new.0 here)

-- after a turn
pub blocked_after : (job : Job) (m : Moment) (machine : Machine) (t : ℕ) (parked : List (List ℕ))
    → IsMachineAt job m machine → AreBlocked job m parked
    → AreBlocked job (after_answer job (answer_of_turn job m t) m)
    (parked_after job t (next_of job m t) (answer_of_turn job m t) parked)
blocked_after job m machine t parked at were = by (answer_of_turn job m t) refl
  where
    by : (answer : Answer) → answer_of_turn job m t ≡ answer
        → AreBlocked job (after_answer job answer m)
        (parked_after job t (next_of job m t) answer parked)
    by (makes event) e = after_event job m machine t event parked at e were
    by is_blocked e = after_blocked job m t parked e were
    by is_gone e = were
    by (has_made at) e = were
    by is_refused e = were

-- a task in a list cannot move
pub listed_still : (job : Job) (m : Moment) (parked : List (List ℕ)) (t : ℕ)
    → AreBlocked job m parked → StandsIn parked t → is_still job m t ≡ true
listed_still job m parked t are stands =
    let it = are stands.0 t stands.1 in
    ap (λ b. cond b (was_blocked (answer_of_turn job m t)) true) it.live
    ∙ ap was_blocked it.blocked
