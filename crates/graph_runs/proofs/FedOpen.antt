-- A turn that does not let a starved source leave keeps it open.
use Rattle.std.proofs.Common.{◌≡◌, ◌≢◌, ℕ, ◌<◌, ◌≤◌, Bool, true, false, not, ◌&&◌, cond, ◌∷◌, Option, Some, None, length, refl, sym, ap, subst, ◌∙◌, ◌⊎◌, inl, inr}
use Rattle.std.specs.Prelude.{nat_le}
use Rattle.std.proofs.lemmas.Bool.{ne_eqb, eqb-true, le-leb}
use Rattle.std.proofs.lemmas.Option.{same_Some}
use Rattle.phase_history.specs.declared.event.Event.{Event}
use Rattle.phase_history.specs.declared.event.Event.TheVariants.{Registered, RegisteredNow, Dropped}
use Rattle.phase_history.specs.Histories.{History, has_dropped}
use Rattle.graph_base.specs.Graphs.{task_at, is_source}
use Rattle.graph_base.specs.TaskLines.{IsGraph}
use Rattle.graph_base.specs.declared.line.Kind.TheVariants.{Source, Sink}
use Rattle.stream_lists.specs.Jobs.{Job, samples_at}
use Rattle.graph_runs.specs.Moments.{Moment, HasRun, HasEnded, MayStop, at_until, no_sample, no_input, value_at, limits_at}
use Rattle.graph_runs.specs.Moves.{IsStaying, further}
use Rattle.graph_runs.specs.Nexts.{is_cut}
use Rattle.graph_runs.specs.Turned.{with_at, IsNextLeave}
use Rattle.graph_runs.specs.TaskEvents.{TaskEvent, sample, signal, first_wait, exchange_wait, leave, child, child_now, after_turn, IsNext}
use Rattle.graph_runs.proofs.OwnEvents.{eq_case}
use Rattle.graph_runs.proofs.Turned.{at_same, at_other}
use Rattle.phase_history.proofs.LawProofs.{above_law}
use Rattle.phase_history.proofs.Refused.{registers_from}
use Rattle.graph_runs.specs.Feeds.{IsOpenAt, NotStarved, is_starved}

-- an event on phaser p that lets nobody leave
dropped_same : (f : ℕ → History) (p q n : ℕ) (event : Event)
    → ((h : History) → has_dropped (event ∷ h) n ≡ has_dropped h n)
    → has_dropped (with_at p (event ∷ f p) f q) n ≡ has_dropped (f q) n
dropped_same f p q n event quiet = by (eq_case q p)
  where
    by : (q ≡ p) ⊎ (q ≢ p) → has_dropped (with_at p (event ∷ f p) f q) n ≡ has_dropped (f q) n
    by (inl same) =
        ap (λ x. has_dropped (with_at p (event ∷ f p) f x) n) same
        ∙ ap (λ h. has_dropped h n) (at_same p (event ∷ f p) f)
        ∙ quiet (f p) ∙ ap (λ x. has_dropped (f x) n) (sym same)
    by (inr apart) = ap (λ h. has_dropped h n) (at_other p (event ∷ f p) f q apart)

-- it stays open where steps are begun by a task that has left no phaser
steps_open : (job : Job) (ended : ℕ → Bool) (m after : Moment) (t p : ℕ) (event : Event) (begun : ℕ)
    → ((h : History) (n : ℕ) → has_dropped (event ∷ h) n ≡ has_dropped h n)
    → IsStaying m t → after.history ≡ with_at p (event ∷ m.history p) m.history
    → after.begun ≡ with_at t begun m.begun → after.number ≡ m.number
    → IsOpenAt job ended m → IsOpenAt job ended after
steps_open job ended m after t p event begun quiet staying history begins numbers opens
    s q n there qq source some is gone =
    by (eq_case s t)
  where
    was : m.number q s ≡ Some n
    was = ap (λ f. f q s) (sym numbers) ∙ is

    left : has_dropped (m.history q) n ≡ true
    left =
        sym (ap (λ f. has_dropped (f q) n) history
        ∙ dropped_same m.history p q n event (λ h. quiet h n)) ∙ gone

    by : (s ≡ t) ⊎ (s ≢ t) → (task_at job.graph s).until ≡ Some (after.begun s)
    by (inl same) =
        absurd (let kept : has_dropped (m.history q) n ≡ false =
        staying q n (ap (λ x. m.number q x) (sym same) ∙ was) in
        let f : true ≡ false = sym left ∙ kept in cc)
    by (inr apart) =
        opens s q n there qq source some was left
        ∙ ap (λ b. Some b) (sym (ap (λ f. f s) begins ∙ at_other t begun m.begun s apart))

-- the same where no steps are begun
rest_open : (job : Job) (ended : ℕ → Bool) (m after : Moment) (p : ℕ) (event : Event)
    → ((h : History) (n : ℕ) → has_dropped (event ∷ h) n ≡ has_dropped h n)
    → after.history ≡ with_at p (event ∷ m.history p) m.history
    → ((s : ℕ) → after.begun s ≡ m.begun s) → after.number ≡ m.number
    → IsOpenAt job ended m → IsOpenAt job ended after
rest_open job ended m after p event quiet history begins numbers opens s q n there qq source some is gone =
    let was : m.number q s ≡ Some n = ap (λ f. f q s) (sym numbers) ∙ is in
    let left : has_dropped (m.history q) n ≡ true =
    sym (ap (λ f. has_dropped (f q) n) history
    ∙ dropped_same m.history p q n event (λ h. quiet h n)) ∙ gone in
    opens s q n there qq source some was left ∙ ap (λ b. Some b) (sym (begins s))

still : (t : ℕ) (f : ℕ → ℕ) (s : ℕ) → with_at t (f t) f s ≡ f s
still t f s = by (eq_case s t)
  where
    by : (s ≡ t) ⊎ (s ≢ t) → with_at t (f t) f s ≡ f s
    by (inl same) =
        ap (λ x. with_at t (f t) f x) same ∙ at_same t (f t) f ∙ ap f (sym same)
    by (inr apart) = at_other t (f t) f s apart

-- a source that leaves, and is not starved, has come to its until
at_its_until : (job : Job) (m : Moment) (t : ℕ) → (task_at job.graph t).kind ≡ Source
    → HasEnded job m t → is_starved job m t ≡ false
    → (task_at job.graph t).until ≡ Some (m.begun t)
at_its_until job m t source ended fed = by ended.may_end
  where
    cut : (until : Option ℕ) → is_cut until (m.begun t) ≡ true → until ≡ Some (m.begun t)
    cut None e = absurd (cc)
    cut (Some limit) e = ap (λ n. Some n) (eqb-true limit (m.begun t) e)

    by_cut : (b : Bool) → is_cut (task_at job.graph t).until (m.begun t) ≡ b
        → length (samples_at job t) ≤ m.begun t → (task_at job.graph t).until ≡ Some (m.begun t)
    by_cut true e few = cut (task_at job.graph t).until e
    by_cut false e few =
        absurd (let le : nat_le (length (samples_at job t)) (m.begun t) ≡ true =
        le-leb (length (samples_at job t)) (m.begun t) few in
        let is : is_source (task_at job.graph t).kind ≡ true = ap is_source source in
        let starved : is_starved job m t ≡ true =
        ap (λ b. b && not (is_cut (task_at job.graph t).until (m.begun t))
        && nat_le (length (samples_at job t)) (m.begun t)) is
        ∙ ap (λ b. not b && nat_le (length (samples_at job t)) (m.begun t)) e ∙ le in
        let f : true ≡ false = sym starved ∙ fed in cc)

    by : MayStop m (task_at job.graph t) t (length (samples_at job t))
        → (task_at job.graph t).until ≡ Some (m.begun t)
    by (at_until e) = e
    by (no_sample is few) = by_cut (is_cut (task_at job.graph t).until (m.begun t)) refl few
    by (no_input not_source out) = absurd (not_source source)

leave_open : (job : Job) (ended : ℕ → Bool) (m : Moment) (t p n : ℕ) → HasRun job m
    → t < length job.graph.tasks → p < length job.graph.phasers
    → IsNextLeave job m t p n → (ended t ≡ false → is_starved job m t ≡ false)
    → IsOpenAt job ended m → IsOpenAt job ended (after_turn job (leave t p n) m)
leave_open job ended m t p n ran there pp next fed opens s q x there_s qq source some is gone =
    by (eq_case q p) (eq_case n x)
  where
    by : (q ≡ p) ⊎ (q ≢ p) → (n ≡ x) ⊎ (n ≢ x) → (task_at job.graph s).until ≡ Some (m.begun s)
    by (inr apart) either =
        opens s q x there_s qq source some is
        (sym (ap (λ h. has_dropped h x) (at_other p (Dropped n ∷ m.history p) m.history q apart)) ∙ gone)
    by (inl here) (inr other) =
        let quiet : has_dropped (Dropped n ∷ m.history p) x ≡ has_dropped (m.history p) x =
        ap (λ b. cond b true (has_dropped (m.history p) x)) (ne_eqb n x (λ e. other e)) in
        let at : has_dropped (with_at p (Dropped n ∷ m.history p) m.history q) x
        ≡ has_dropped (m.history q) x =
        ap (λ y. has_dropped (with_at p (Dropped n ∷ m.history p) m.history y) x) here
        ∙ ap (λ h. has_dropped h x) (at_same p (Dropped n ∷ m.history p) m.history)
        ∙ quiet ∙ ap (λ y. has_dropped (m.history y) x) (sym here) in
        opens s q x there_s qq source some is (sym at ∙ gone)
    by (inl here) (inl me) =
        let mine : m.number p s ≡ Some n =
        ap (λ y. m.number y s) (sym here) ∙ is ∙ ap (λ y. Some y) (sym me) in
        let same : s ≡ t = (ran.phasers p pp).distinct s t n there_s there mine next.numbered in
        let S : ℕ → Type 0 = λ y. (task_at job.graph y).until ≡ Some (m.begun y) in
        subst S (sym same)
        (at_its_until job m t (ap (λ y. (task_at job.graph y).kind) (sym same) ∙ source) next.ended
        (fed (ap ended (sym same) ∙ some)))

child_open : (job : Job) (ended : ℕ → Bool) (m after : Moment) (p c a : ℕ) (event : Event)
    → ((h : History) (n : ℕ) → has_dropped (event ∷ h) n ≡ has_dropped h n)
    → after.history ≡ with_at p (event ∷ m.history p) m.history
    → after.begun ≡ m.begun
    → after.number ≡ with_at p (with_at c (Some a) (m.number p)) m.number
    → ((task_at job.graph c).kind ≡ Source → has_dropped (m.history p) a ≡ false)
    → IsOpenAt job ended m → IsOpenAt job ended after
child_open job ended m after p c a event quiet history begins numbers new opens
    s q n there qq source some is gone =
    by (eq_case q p) (eq_case s c)
  where
    left : has_dropped (m.history q) n ≡ true
    left =
        sym (ap (λ f. has_dropped (f q) n) history
        ∙ dropped_same m.history p q n event (λ h. quiet h n)) ∙ gone

    number_is : (q ≢ p) ⊎ (s ≢ c) → (q ≡ p) ⊎ (q ≢ p) → after.number q s ≡ m.number q s
    number_is either (inr apart) =
        ap (λ f. f q s) numbers
        ∙ ap (λ f. f s) (at_other p (with_at c (Some a) (m.number p)) m.number q apart)
    number_is (inl apart) (inl same) = absurd (apart same)
    number_is (inr apart) (inl same) =
        ap (λ f. f q s) numbers
        ∙ ap (λ y. with_at p (with_at c (Some a) (m.number p)) m.number y s) same
        ∙ ap (λ f. f s) (at_same p (with_at c (Some a) (m.number p)) m.number)
        ∙ at_other c (Some a) (m.number p) s apart
        ∙ ap (λ y. m.number y s) (sym same)

    old : (q ≢ p) ⊎ (s ≢ c) → (task_at job.graph s).until ≡ Some (after.begun s)
    old apart =
        opens s q n there qq source some (sym (number_is apart (eq_case q p)) ∙ is) left
        ∙ ap (λ f. Some (f s)) (sym begins)

    by : (q ≡ p) ⊎ (q ≢ p) → (s ≡ c) ⊎ (s ≢ c) → (task_at job.graph s).until ≡ Some (after.begun s)
    by (inr apart) either = old (inl apart)
    by (inl here) (inr apart) = old (inr apart)
    by (inl here) (inl me) =
        absurd (let number : after.number q s ≡ Some a =
        ap (λ f. f q s) numbers
        ∙ ap (λ y. with_at p (with_at c (Some a) (m.number p)) m.number y s) here
        ∙ ap (λ f. f s) (at_same p (with_at c (Some a) (m.number p)) m.number)
        ∙ ap (λ y. with_at c (Some a) (m.number p) y) me
        ∙ at_same c (Some a) (m.number p) in
        let n_is : n ≡ a = same_Some n a (sym is ∙ number) in
        let kept : has_dropped (m.history p) a ≡ false =
        new (ap (λ y. (task_at job.graph y).kind) (sym me) ∙ source) in
        let f : true ≡ false =
        sym left ∙ ap (λ y. has_dropped (m.history y) n) here
        ∙ ap (λ y. has_dropped (m.history p) y) n_is ∙ kept in cc)

pub open_stays : (job : Job) (ended : ℕ → Bool) (m : Moment) (event : TaskEvent)
    → IsGraph job.graph → HasRun job m → IsNext job m event → NotStarved job ended m event
    → IsOpenAt job ended m → IsOpenAt job ended (after_turn job event m)
open_stays job ended m (sample t j p n vs) is ran next fed opens =
    steps_open job ended m (after_turn job (sample t j p n vs) m) t p _ (further (m.begun t) vs)
    (λ h x. refl) next.1.signal.staying refl refl refl opens
open_stays job ended m (signal t j p n vs) is ran next fed opens =
    rest_open job ended m (after_turn job (signal t j p n vs) m) p _ (λ h x. refl) refl
    (still t m.begun) refl opens
open_stays job ended m (first_wait t k p n outcomes) is ran next fed opens =
    steps_open job ended m (after_turn job (first_wait t k p n outcomes) m) t p _
    (further (m.begun t) outcomes) (λ h x. refl) next.1.wait.staying refl refl refl opens
open_stays job ended m (exchange_wait t p n outcome) is ran next fed opens =
    rest_open job ended m (after_turn job (exchange_wait t p n outcome) m) p _ (λ h x. refl) refl
    (still t m.begun) refl opens
open_stays job ended m (leave t p n) is ran next fed opens =
    leave_open job ended m t p n ran next.0.task next.0.phaser next.1 fed opens
open_stays job ended m (child t p n c a mode) is ran next fed opens =
    let it = next.1.1 in
    child_open job ended m (after_turn job (child t p n c a mode) m) p c a (Registered n a mode)
    (λ h x. refl) refl refl refl
    (λ source. (above_law (value_at job p) (limits_at job p) (m.history p) a
    (ran.phasers p next.0.phaser).legal (registers_from (m.history p) n a mode it.accepted).new_number).stays)
    opens
open_stays job ended m (child_now t p n c a) is ran next fed opens =
    let it = next.1.1 in
    child_open job ended m (after_turn job (child_now t p n c a) m) p c a (RegisteredNow n a)
    (λ h x. refl) refl refl refl
    (λ source. absurd (let sink : (task_at job.graph c).kind ≡ Sink =
    ((is.tasks c it.child.child).now it.now).0 in no_both (sym source ∙ sink))) opens
  where
    no_both : Source ≡ Sink → ⊥
    no_both e = let b : true ≡ false = ap is_source e in cc
