-- Tasks that waited for events may go on, one after the other.
use Rattle.std.proofs.Common.{◌≡◌, ◌≢◌, ◌∙◌, ◌%◌, ℕ, ◌<◌, Bool, true, false, get_or, Option, Some, None, ◌==◌, ◌&&◌, not, refl, ap, sym, inl, inr, arith, if◌then◌else◌}
use Rattle.std.proofs.lemmas.Bool.{eq-eqb, ne_eqb, cond-true, cond-false, false≢true}
use Rattle.worker_pool.specs.declared.number_set.NumberSet.{NumberSet}
use Rattle.worker_pool.specs.declared.places.Place.{Place}
use Rattle.worker_pool.specs.declared.places.Place.TheVariants.{Ready, Waiting, Working}
use Rattle.worker_pool.specs.NumberSets.{has, IsEmpty}
use Rattle.worker_pool.specs.Places.{Tasks, place_of_task, freed, AreApart, IsPut}
use Rattle.worker_pool.proofs.Sets.{left_is, gone_is}

-- those that are left wait as before, and the others are where the events put them
pub record HasFreed (events rest : NumberSet) (old new : Tasks) : Type 0 where
  pub left : (t : ℕ) → t < 64 → has rest t ≡ true
      → (has old.waiting t ≡ true) × (place_of_task new t ≡ place_of_task old t)
  pub others : (t : ℕ) → t < 64 → has rest t ≡ false
      → place_of_task new t ≡ freed events (place_of_task old t)

-- ---- one task

-- a task that was put is at its place
pub put_here : (old new : Tasks) (task : ℕ) (place : Option Place) → task < 64
    → IsPut task place old new → place_of_task new task ≡ place
put_here old new task place small put =
    put task small
    ∙ cond-true (task == task % 64) place (place_of_task old task) (eq-eqb _ _ (omega arith))

-- the same of the remainder of a greater number
pub put_at : (old new : Tasks) (task : ℕ) (place : Option Place) → IsPut task place old new
    → place_of_task new (task % 64) ≡ place
put_at old new task place put =
    put (task % 64) (omega arith)
    ∙ cond-true (task % 64 == task % 64) place (place_of_task old (task % 64)) (eq-eqb _ _ refl)

-- another is where it was
pub put_elsewhere : (old new : Tasks) (task : ℕ) (place : Option Place) → IsPut task place old new
    → (t : ℕ) → t < 64 → t ≢ task % 64 → place_of_task new t ≡ place_of_task old t
put_elsewhere old new task place put t within other =
    put t within ∙ cond-false (t == task % 64) place (place_of_task old t) (ne_eqb _ _ other)

-- a task that waits is at that place
pub waits_at : (tasks : Tasks) (t : ℕ) → t < 64 → AreApart tasks.ready tasks.waiting tasks.working
    → has tasks.waiting t ≡ true → place_of_task tasks t ≡ Some (Waiting (get_or tasks.waits_on t 0))
waits_at tasks t small apart waits = at (has tasks.ready t) refl
  where
    at : (ready : Bool) → has tasks.ready t ≡ ready
        → (if ready then Some Ready
        else (if has tasks.waiting t then Some (Waiting (get_or tasks.waits_on t 0))
        else (if has tasks.working t then Some Working else None)))
        ≡ Some (Waiting (get_or tasks.waits_on t 0))
    at true is = absurd (false≢true (sym (apart.ready_waiting t small is) ∙ waits))
    at false is = rw waits refl

-- the phaser on which a task waits that is at this place
pub phaser_at : (tasks : Tasks) (t phaser : ℕ) → place_of_task tasks t ≡ Some (Waiting phaser)
    → get_or tasks.waits_on t 0 ≡ phaser
phaser_at tasks t phaser e = at (has tasks.ready t) (has tasks.waiting t) (has tasks.working t) e
  where
    is_waiting : Option Place → Bool
    is_waiting (Some (Waiting q)) = true
    is_waiting (Some Ready) = false
    is_waiting (Some Working) = false
    is_waiting None = false

    phaser_of : Option Place → ℕ
    phaser_of (Some (Waiting q)) = q
    phaser_of (Some Ready) = 0
    phaser_of (Some Working) = 0
    phaser_of None = 0

    at : (ready waiting working : Bool) → (if ready then Some Ready
        else (if waiting then Some (Waiting (get_or tasks.waits_on t 0))
        else (if working then Some Working else None))) ≡ Some (Waiting phaser)
        → get_or tasks.waits_on t 0 ≡ phaser
    at true waiting working is = absurd (false≢true (ap is_waiting is))
    at false true working is = ap phaser_of is
    at false false true is = absurd (false≢true (ap is_waiting is))
    at false false false is = absurd (false≢true (ap is_waiting is))

-- without events each is where it was
pub none_freed : (events : NumberSet) → IsEmpty events → (place : Option Place)
    → place ≡ freed events place
none_freed events none (Some (Waiting phaser)) = rw (none (phaser % 64) (omega arith)) refl
none_freed events none (Some Ready) = refl
none_freed events none (Some Working) = refl
none_freed events none None = refl

-- ---- one after the other

module _ (events rest less : NumberSet) (old now : Tasks) (task : ℕ)
    (apart : AreApart old.ready old.waiting old.working) (small : task < 64)
    (here : has rest task ≡ true) (so_far : HasFreed events rest old now)
    (out : (m : ℕ) → m < 64 → has less m ≡ (has rest m && not (m == task % 64))) where
  -- the task waits, and on the phaser that stands there now
  waits : place_of_task old task ≡ Some (Waiting (get_or now.waits_on task 0))
  waits =
      let was = so_far.left task small here in
      let is = waits_at old task small apart was.0 in
      is ∙ ap (λ p. Some (Waiting p)) (sym (phaser_at now task _ (was.1 ∙ is)))

  -- a task that waits for one of the events may go on
  pub frees : (new : Tasks) → has events (get_or now.waits_on task 0 % 64) ≡ true
      → IsPut task (Some Ready) now new → HasFreed events less old new
  frees new found put =
      let here_now : place_of_task new task ≡ freed events (place_of_task old task) =
      put_here now new task (Some Ready) small put ∙ rw (waits, found) refl in
      let elsewhere : (t : ℕ) → t < 64 → t ≢ task → place_of_task new t ≡ place_of_task now t =
      λ t within other.
      put_elsewhere now new task (Some Ready) put t within (λ same. other (omega arith)) in
      record {
        left = λ t within is.
            let still = left_is rest less task t small within out is in
            let was = so_far.left t within still.0 in
            (was.0, elsewhere t within still.1 ∙ was.1);
        others = λ t within is.
            elim (gone_is rest less task t small within out is) [
              | inl same ↦ rw same here_now
              | inr other ↦ elsewhere t within other.0 ∙ so_far.others t within other.1
            ];
      }

  -- a task that waits for others goes on waiting
  pub keeps : has events (get_or now.waits_on task 0 % 64) ≡ false → HasFreed events less old now
  keeps none =
      let here_now : place_of_task now task ≡ freed events (place_of_task old task) =
      (so_far.left task small here).1 ∙ rw (waits, none) refl in
      record {
        left = λ t within is. so_far.left t within (left_is rest less task t small within out is).0;
        others = λ t within is.
            elim (gone_is rest less task t small within out is) [
              | inl same ↦ rw same here_now
              | inr other ↦ so_far.others t within other.1
            ];
      }
