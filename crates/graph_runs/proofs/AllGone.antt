-- Where no task is live at a reached moment, the run is over.
use Rattle.std.proofs.Common.{◌≡◌, ℕ, zero, suc, ◌<◌, ◌≤◌, Bool, true, false, not, ◌&&◌, ◌++◌, Option, Some, None, is_some, length, get_or, refl, sym, ap, ◌∙◌, arith, inl, inr}
use Rattle.std.specs.Prelude.{unwrap_or}
use Rattle.std.proofs.lemmas.Bool.{lt-ltb, not-true}
use Rattle.std.proofs.lemmas.Option.{same_Some}
use Rattle.std.proofs.lemmas.List.{length-map, get_or-map}
use Rattle.phase_history.specs.Histories.{has_dropped, HasNoSignaller}
use Rattle.phase_history.specs.Others.{IsUsed}
use Rattle.phase_history.proofs.Signallers.{quiet_from}
use Rattle.phase_history.proofs.Received.{none_from}
use Rattle.graph_base.specs.declared.line.Parent.{Parent}
use Rattle.graph_base.specs.declared.registration.Registration.{Registration}
use Rattle.graph_base.specs.Graphs.{task_at}
use Rattle.graph_base.specs.Registrations.{no_registration}
use Rattle.graph_base.specs.TaskLines.{IsGraph, IsParent}
use Rattle.graph_base.proofs.Registered.{registrations-phasers}
use Rattle.stream_lists.specs.Jobs.{Job}
use Rattle.stream_lists.proofs.SpansAbove.{parent-is}
use Rattle.graph_runs.specs.Moments.{Moment, HasRun, HasNotPassed, IsChild, IsOver, IsRegistered, Joined, OnLine, limits_at}
use Rattle.graph_runs.proofs.OnLines.{on_phaser}
use Rattle.graph_runs.specs.Nexts.{first_kept, first_missing, has_left, has_registered, is_live, number_on, registrations_at}
use Rattle.graph_runs.specs.Reached.{IsReachable}
use Rattle.graph_runs.proofs.PlacesLemmas.{find-none, find-some, numbered, on_ends}
use Rattle.graph_runs.proofs.Reaching.{by_numbers}
use Rattle.graph_runs.proofs.TurnRegistering.{is_for, on_parent}

-- ---- a task that is registered on all its phasers

-- where it is not live, it has none left
none_kept : (job : Job) (m : Moment) (t : ℕ) → t < length job.graph.tasks
    → first_missing job m t ≡ None → is_live job m t ≡ false → first_kept job m t ≡ None
none_kept job m t there all dead =
    let is : is_live job m t ≡ is_some (first_kept job m t) =
    ap (λ b. b && not (is_some (first_missing job m t)) && is_some (first_kept job m t))
    (lt-ltb t (length job.graph.tasks) there)
    ∙ ap (λ o. not (is_some o) && is_some (first_kept job m t)) all in
    none_from (first_kept job m t) (sym is ∙ dead)

-- where it has none left, it has left each
left_each : (job : Job) (m : Moment) (t p n : ℕ) → IsGraph job.graph → t < length job.graph.tasks
    → first_kept job m t ≡ None → OnLine (task_at job.graph t) p → m.number p t ≡ Some n
    → has_dropped (m.history p) n ≡ true
left_each job m t p n is there none on number =
    let line = is.tasks t there in
    let rs = registrations_at job t in
    let phasers = registrations-phasers job.graph t (task_at job.graph t) line in
    let at = on_ends job.graph t (task_at job.graph t) p line on in
    let long : length rs ≡ length ((task_at job.graph t).inputs ++ (task_at job.graph t).outputs) =
    sym (length-map rs (λ r. r.phaser)) ∙ ap length phasers in
    let lt : at.0 < length rs = omega arith in
    let here : (get_or rs at.0 no_registration).phaser ≡ p =
    sym (get_or-map (λ r. r.phaser) rs at.0 no_registration 0 lt)
    ∙ ap (λ ps. get_or ps at.0 0) phasers ∙ at.2 in
    let gone : has_left m t (get_or rs at.0 no_registration) ≡ true =
    not-false (has_left m t (get_or rs at.0 no_registration))
    (find-none (λ r. not (has_left m t r)) rs at.0 no_registration none lt) in
    let its : number_on m t p ≡ n = ap (λ o. unwrap_or o 0) number in
    sym (ap (λ x. has_dropped (m.history p) x) its)
    ∙ sym (ap (λ q. has_dropped (m.history q) (number_on m t q)) here) ∙ gone
  where
    not-false : (b : Bool) → not b ≡ false → b ≡ true
    not-false true e = refl
    not-false false e = absurd (cc)

-- ---- a task that misses a registration has a parent

absent_child : (job : Job) (m : Moment) (t p : ℕ) → IsGraph job.graph → HasRun job m
    → t < length job.graph.tasks → OnLine (task_at job.graph t) p → m.number p t ≡ None
    → IsChild (task_at job.graph t).parent
absent_child job m t p is ran there (inl out) absent =
    rw absent at (rw out.1 at ((ran.tasks t there).outputs p (on_phaser job t p is there (inl out))))
absent_child job m t p is ran there (inr into) absent =
    (rw absent at (rw into.2 at ((ran.tasks t there).inputs into.0 into.1))).1

has_parent : (o : Option Parent) → IsChild o → (u : Parent) × (o ≡ Some u)
has_parent None is = absurd is
has_parent (Some u) is = (u, refl)

-- the first registration that it misses
record Misses (job : Job) (m : Moment) (t : ℕ) : Type 0 where
  p : ℕ
  on : OnLine (task_at job.graph t) p
  absent : m.number p t ≡ None

misses : (job : Job) (m : Moment) (t : ℕ) (r : Registration) → IsGraph job.graph
    → t < length job.graph.tasks → first_missing job m t ≡ Some r → Misses job m t
misses job m t r is there found =
    let f = find-some (λ x. not (has_registered m t x)) (registrations_at job t) r no_registration
    found in
    record {
      p = r.phaser;
      on = rw f.1.2 at (is_for job t f.1.0 is there f.1.1).on_line;
      absent = none_from (m.number r.phaser t) (not-true (has_registered m t r) f.0);
    }

-- its parent has begun the steps after which it comes
record AboveIt (m : Moment) (u : Parent) : Type 0 where
  low : u.at ≤ m.begun u.task
  registered : IsRegistered m u.task

above_it : (m : Moment) (t : ℕ) (now : Bool) (o : Option Parent) (u : Parent) → Joined m t now o
    → o ≡ Some u → AboveIt m u
above_it m t now None u j e = absurd (cc)
above_it m t now (Some v) u j e =
    rw (← (same_Some v u e)) record { low = j.1; registered = j.2 }

-- ---- no task is left halfway

-- a child that misses a registration has a parent that is live
waits_for_parent : (job : Job) (m : Moment) (t : ℕ) (r : Registration) (u : Parent)
    → IsGraph job.graph → HasRun job m → t < length job.graph.tasks
    → first_missing job m t ≡ Some r → (task_at job.graph t).parent ≡ Some u → AboveIt m u
    → u.task < length job.graph.tasks → first_missing job m u.task ≡ None
    → is_live job m u.task ≡ false → ⊥
waits_for_parent job m t r u is ran there found parent joined above all dead =
    let it = misses job m t r is there found in
    let on = on_parent job t it.p u is there parent it.on in
    let line = is.tasks u.task above in
    let number : m.number it.p u.task ≡ Some (number_on m u.task it.p) =
    numbered job m u.task it.p line
    (registrations-phasers job.graph u.task (task_at job.graph u.task) line) all on in
    let gone = left_each job m u.task it.p (number_on m u.task it.p) is above
    (none_kept job m u.task above all dead) on number in
    let passed : HasNotPassed m it.p (number_on m u.task it.p) u =
    (ran.tasks u.task above).children t it.p (number_on m u.task it.p) u there parent refl number
    it.absent it.on in
    omega (arith, passed.ended gone, joined.low)

-- where no task is live, each that is registered somewhere is so on all its phasers
all_there : (job : Job) (m : Moment) → IsGraph job.graph → HasRun job m
    → ((t : ℕ) → is_live job m t ≡ false) → (fuel t : ℕ) → t < fuel → t < length job.graph.tasks
    → IsRegistered m t → first_missing job m t ≡ None
all_there job m is ran dead zero t below there registered = absurd (omega arith)
all_there job m is ran dead (suc fuel) t below there registered =
    by (first_missing job m t) refl
    (λ u less known. all_there job m is ran dead fuel u (omega arith) (omega arith) known)
  where
    by : (o : Option Registration) → first_missing job m t ≡ o
        → ((u : ℕ) → u < t → IsRegistered m u → first_missing job m u ≡ None)
        → first_missing job m t ≡ None
    by None found rec = found
    by (Some r) found rec =
        let it = misses job m t r is there found in
        let of = has_parent (task_at job.graph t).parent
        (absent_child job m t it.p is ran there it.on it.absent) in
        let u = of.0 in
        let line : IsParent job.graph t (task_at job.graph t) u =
        parent-is job.graph t (task_at job.graph t) u (is.tasks t there) of.1 in
        let less : u.task < t = line.above in
        let joined = above_it m t (task_at job.graph t).joins_now (task_at job.graph t).parent u
        ((ran.tasks t there).joined registered.0 registered.1 registered.2) of.1 in
        absurd (waits_for_parent job m t r u is ran there found of.1 joined (omega arith)
        (rec u.task less joined.registered) (dead u.task))

-- ---- the run is over

pub gone_over : (job : Job) (m : Moment) → IsGraph job.graph → IsReachable job m
    → ((t : ℕ) → is_live job m t ≡ false) → IsOver job m
gone_over job m is reached dead = record { quiet = quiet; gone = gone }
  where
    gone : (p t n : ℕ) → t < length job.graph.tasks → m.number p t ≡ Some n
        → has_dropped (m.history p) n ≡ true
    gone p t n there number =
        let all = all_there job m is reached.ran dead (suc t) t (omega arith) there (p, n, number) in
        left_each job m t p n is there (none_kept job m t there all (dead t))
        ((reached.ran.tasks t there).lines p n number) number

    quiet : (p : ℕ) → p < length job.graph.phasers → HasNoSignaller (m.history p)
    quiet p pp =
        quiet_from (limits_at job p) (m.history p) (reached.ran.phasers p pp).legal
        (λ n used. by n used (has_dropped (m.history p) n) refl)
      where
        by : (n : ℕ) → IsUsed (m.history p) n → (b : Bool) → has_dropped (m.history p) n ≡ b
            → has_dropped (m.history p) n ≡ true
        by n used true e = e
        by n used false e =
            let it = by_numbers job m reached.ran reached.members p n pp used e in
            gone p it.0 n it.1 it.2
