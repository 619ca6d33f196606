-- What of a session stays while its run goes on.
use Rattle.std.proofs.Common.{◌≡◌, ◌≢◌, ◌⊎◌, inl, inr, ◌<◌, ◌≤◌, ◌+◌, cond, length, ℕ, ℤ, Bool, true, false, List, [], ◌∷◌, Option, Some, None, Ok, Err, get_or, map, slice_get, set, zero, suc, refl, sym, ap, subst, ◌∙◌, rules, arith}
use Rattle.std.proofs.lemmas.Bool.{cases_lt}
use Rattle.std.proofs.lemmas.Option.{same_Some}
use Rattle.std.specs.Prelude.{◌||◌, IfOk}
use Rattle.std.specs.List.{find, list_all, range_with_len}
use Rattle.std.specs.declared.result.Result.{Result}
use Rattle.graph_commands.specs.FileJobs.{Known}
use Rattle.stream_job.specs.Machines.{kept_behind}
use Rattle.stream_job.specs.SinkLines.{kept_by}
use Rattle.stream_job.specs.InRange.{is_held_up}
use Rattle.stream_job.specs.Streams.{IsSourceAt, IsStreamAt, Meets, StreamState, StreamStopsAt, all_tasks, ended_at, first_full, first_hungry, has_ended, is_full, is_hungry, is_some_live, rests, stop_by}
use Rattle.stream_job.specs.declared.input.Input.{Input}
use Rattle.stream_job.specs.declared.stopped.Stopped.{Stopped}
use Rattle.stream_job.specs.declared.stopped.Stopped.TheVariants as stopped
use Rattle.graph_base.specs.Graphs.{file_at, sources_of}
use Rattle.graph_base.specs.declared.place.Place.{Place}
use Rattle.graph_runs.specs.Feeds.{IsFed}
use Rattle.graph_runs.specs.InTime.{BeginsInTime}
use Rattle.graph_runs.specs.Moments.{Moment, started}
use Rattle.graph_runs.specs.Settled.{IsFaultAt, IsReady}
use Rattle.stream_lists.specs.Jobs.{Job, with_samples}
use Rattle.stream_lists.specs.Lists.{sinks_of}
use Rattle.stream_lists.specs.Ranges.{Where, answer_of}
use Rattle.phase_stream.specs.Sessions.{AllWait, AreCome, AreSources, HasStopped, IsSameSession, StandsBefore, waits_now}
use Rattle.phase_stream.specs.Sources.{HasComeOf, IsSource}
use Rattle.phase_stream.specs.declared.session.Session.{Session}
use Rattle.phase_stream.specs.declared.source.Source.{Source}

-- ---- samples and sources

pub came_same : (held : Known) (old new : StreamState) (s : List (List ℤ)) → new.job ≡ old.job
    → new.inputs ≡ old.inputs → AreCome held old s → AreCome held new s
came_same held old new s job inputs came k lt =
    subst (λ i. HasComeOf (has_ended i k) (held (file_at new.job.graph k)) (get_or s k [])) (sym inputs)
    (subst (λ (j : Job). HasComeOf (has_ended old.inputs k) (held (file_at j.graph k)) (get_or s k []))
    (sym job) (came k (subst (λ (j : Job). k < sources_of j.graph) job lt)))

pub sources_same : {R : Type 0} (remaining : R → Option (List ℕ)) (held : Known)
    (old new : Session R) (s : List (List ℤ)) → new.stream.job ≡ old.stream.job
    → new.sources.items ≡ old.sources.items → AreSources remaining held old s
    → AreSources remaining held new s
sources_same {R} remaining held old new s job items are k source there =
    let it = are k source (ap (λ l. slice_get l k) (sym items) ∙ there) in (
      subst (λ j. IsSourceAt j source.task k) (sym job) it.0,
      subst (λ (j : Job). IsSource remaining (held (file_at j.graph k)) (get_or s k []) source)
          (sym job) it.1,
    )

-- ---- stops

-- where each rests, and none is of two kinds, each is of the third
still : (a b c : ℕ → Bool) (ts : List ℕ) → list_all (λ t. a t || b t || c t) ts ≡ true
    → find b ts ≡ None → find c ts ≡ None → list_all a ts ≡ true
still a b c [] all none free = refl
still a b c (t ∷ ts) all none free = by (a t) (b t) (c t) refl refl refl (still a b c ts)
  where
    by : (x y z : Bool) → a t ≡ x → b t ≡ y → c t ≡ z
        → (list_all (λ t. a t || b t || c t) ts ≡ true → find b ts ≡ None → find c ts ≡ None
        → list_all a ts ≡ true) → list_all a (t ∷ ts) ≡ true
    by x true z ea eb ec rest = let bad : Some t ≡ None = rw eb at none in search rules
    by x false true ea eb ec rest = let bad : Some t ≡ None = rw ec at free in search rules
    by false false false ea eb ec rest =
        let bad : false ≡ true = rw (ea, eb, ec) at all in search rules
    by true false false ea eb ec rest =
        rw ea (rest (rw ea at all) (rw eb at none) (rw ec at free))

-- where each rests, and none is of the third kind, each is of one of the others
waiting : (a b c : ℕ → Bool) (ts : List ℕ) → list_all (λ t. a t || b t || c t) ts ≡ true
    → find c ts ≡ None → list_all (λ t. a t || b t) ts ≡ true
waiting a b c [] all free = refl
waiting a b c (t ∷ ts) all free = by (a t) (b t) (c t) refl refl refl (waiting a b c ts)
  where
    by : (x y z : Bool) → a t ≡ x → b t ≡ y → c t ≡ z
        → (list_all (λ t. a t || b t || c t) ts ≡ true → find c ts ≡ None
        → list_all (λ t. a t || b t) ts ≡ true)
        → list_all (λ t. a t || b t) (t ∷ ts) ≡ true
    by x y true ea eb ec rest = let bad : Some t ≡ None = rw ec at free in search rules
    by false false false ea eb ec rest =
        let bad : false ≡ true = rw (ea, eb, ec) at all in search rules
    by true y false ea eb ec rest = rw ea (rest (rw ea at all) (rw ec at free))
    by false true false ea eb ec rest = rw (ea, eb) (rest (rw (ea, eb) at all) (rw ec at free))

-- where a source is hungry, no sink is without room
hungry_so : (job : Job) (full hungry : Option ℕ) (live : Bool) (source : ℕ)
    → stop_by job full hungry live (stopped.Hungry source) → full ≡ None
hungry_so job (Some t) hungry live source e = absurd e
hungry_so job None hungry live source e = refl

-- a stall has a live task, and no sink without room and no hungry source
stalled_so : (job : Job) (full hungry : Option ℕ) (live : Bool)
    → stop_by job full hungry live stopped.Stalled
    → (full ≡ None) × (hungry ≡ None) × (live ≡ true)
stalled_so job (Some t) hungry live e = absurd e
stalled_so job None (Some t) live e = absurd e
stalled_so job None None false e = absurd e
stalled_so job None None true e = (refl, refl, refl)

-- where no sink is without room, a task waits that rests
room_free : (test : ℕ → Bool) (from n t : ℕ) → find test (range_with_len from n) ≡ None
    → from ≤ t → t < from + n → test t ≡ false
room_free test from zero t none low high = absurd (omega arith)
room_free test from (suc n) t none low high =
    by (test from) refl none (room_free test (from + 1) n t) (cases_lt from t)
  where
    by : (b : Bool) → test from ≡ b
        → cond b (Some from) (find test (range_with_len (from + 1) n)) ≡ None
        → (find test (range_with_len (from + 1) n) ≡ None → from + 1 ≤ t → t < from + 1 + n
        → test t ≡ false)
        → (from < t) ⊎ (t ≤ from) → test t ≡ false
    by true is none rest same = absurd (cc)
    by false is none rest (inl less) = rest none (omega arith) (omega arith)
    by false is none rest (inr past) =
        let same : t ≡ from = omega arith in ap test same ∙ is

stands_so : (stream : StreamState) (s : List (List ℤ)) (m : Moment) (given : ℕ → List ℤ)
    (at : Where) → Meets (with_samples s stream.job) (ended_at stream) m given at
    → StandsBefore stream.job (has_ended stream.inputs) s m at
stands_so stream s m given at meets =
    let job = with_samples s stream.job in
    let n = length stream.job.graph.tasks in
    let f = meets.first in
    record {
      each = λ t lt not. meets.each t lt (waits t lt ∙ not);
      first = record {
        task = f.task;
        there = f.there;
        first = λ t less. (let there : f.task < n = f.there in
            sym (waits t (omega arith)) ∙ f.first t less);
        is = f.is;
      };
    }
  where
    or_none : (a b : Bool) → b ≡ false → (a || b) ≡ a
    or_none true b e = refl
    or_none false b e = e

    waits : (t : ℕ) → t < length stream.job.graph.tasks
        → rests (with_samples s stream.job) (ended_at stream) m given t
        ≡ waits_now stream.job (has_ended stream.inputs) s m t
    waits t lt =
        let job = with_samples s stream.job in
        or_none (waits_now stream.job (has_ended stream.inputs) s m t) (is_full job m given t)
        (room_free (is_full job m given) 0 (length stream.job.graph.tasks) t meets.room (omega arith)
        (omega arith))

pub stop_means : (stream : StreamState) (s : List (List ℤ)) (m : Moment) (given : ℕ → List ℤ)
    (stop : Stopped) → IsStreamAt stream s m given → StreamStopsAt stream s m given stop
    → (stop ≡ stopped.Done → (more : List (List ℤ))
    → IsFed (with_samples s stream.job) (ended_at stream) more
    → IsReady (with_samples more stream.job)
    → answer_of (started (with_samples more stream.job) m)
    ≡ Ok (map (kept_behind given) stream.machine.lines.items))
    → (stop ≡ stopped.Done → (more : List (List ℤ)) (t : ℕ)
    → IsFed (with_samples s stream.job) (ended_at stream) more
    → IsReady (with_samples more stream.job) → t < length stream.job.graph.tasks
    → BeginsInTime (started (with_samples more stream.job) m) t)
    → ((place : Place) (n : ℕ) → stop ≡ stopped.TooBig place n → (more : List (List ℤ))
    → IsFed (with_samples s stream.job) (ended_at stream) more
    → IsReady (with_samples more stream.job)
    → IsFaultAt (started (with_samples more stream.job) m) (place, n))
    → ((place : Place) (n : ℕ) → stop ≡ stopped.TooBig place n
    → Meets (with_samples s stream.job) (ended_at stream) m given (place, n))
    → HasStopped stream s m stop
stop_means stream s m given stopped.Done at stops done begins big meets = λ more fed ready. (
  done refl more fed ready ∙ ap (λ l. Ok l) at.lines.values,
  λ t there. begins refl more t fed ready there,
)
stop_means stream s m given (stopped.TooBig place n) at stops done begins big meets =
    (big place n refl, stands_so stream s m given (place, n) (meets place n refl))
stop_means stream s m given stopped.Stalled at stops done begins big meets =
    let job = with_samples s stream.job in
    let so = stalled_so job (first_full job m given) (first_hungry job (ended_at stream) m)
    (is_some_live job m) stops.1 in (
      so.2,
      still (is_held_up job m) (is_hungry job (ended_at stream) m) (is_full job m given)
          (all_tasks job) stops.0.rest so.1 so.0,
    )
stop_means stream s m given (stopped.Hungry source) at stops done begins big meets =
    let job = with_samples s stream.job in
    waiting (is_held_up job m) (is_hungry job (ended_at stream) m) (is_full job m given)
    (all_tasks job) stops.0.rest
    (hungry_so job (first_full job m given) (first_hungry job (ended_at stream) m)
    (is_some_live job m) source stops.1)
stop_means stream s m given (stopped.Full sink) at stops done begins big meets = tt
stop_means stream s m given stopped.Paused at stops done begins big meets = tt

-- four facts of a good answer give a fifth
pub with_four : {X E : Type 0} (r : Result X E) (A B C D F : X → Type 0)
    → ((x : X) → A x → B x → C x → D x → F x) → IfOk r A → IfOk r B → IfOk r C → IfOk r D
    → IfOk r F
with_four (Ok x) A B C D F f a b c d = f x a b c d
with_four (Err e) A B C D F f a b c d = tt

-- samples that go on behind those of a stream do so behind those of one with the same inputs
fed_same : (old new : StreamState) (s more : List (List ℤ)) → new.job ≡ old.job
    → new.inputs ≡ old.inputs → IsFed (with_samples s new.job) (ended_at new) more
    → IsFed (with_samples s old.job) (ended_at old) more
fed_same old new s more job inputs fed = rw (job, inputs) at fed

pub stopped_same : (old new : StreamState) (s : List (List ℤ)) (m : Moment) (stop : Stopped)
    → new.job ≡ old.job → new.inputs ≡ old.inputs → HasStopped old s m stop
    → HasStopped new s m stop
stopped_same old new s m stopped.Done job inputs is = λ more fed ready.
    subst (λ (j : Job). (answer_of (started (with_samples more j) m)
    ≡ Ok (map (λ t. (t, kept_by j m t)) (sinks_of j)))
    × ((t : ℕ) → t < length j.graph.tasks → BeginsInTime (started (with_samples more j) m) t))
    (sym job)
    (is more (fed_same old new s more job inputs fed)
    (subst (λ (j : Job). IsReady (with_samples more j)) job ready))
stopped_same old new s m (stopped.TooBig place n) job inputs is = (
  λ more fed ready.
      subst (λ (j : Job). IsFaultAt (started (with_samples more j) m) (place, n)) (sym job)
      (is.0 more (fed_same old new s more job inputs fed)
      (subst (λ (j : Job). IsReady (with_samples more j)) job ready)),
  subst (λ (i : List Input). StandsBefore new.job (has_ended i) s m (place, n)) (sym inputs)
      (subst (λ j. StandsBefore j (has_ended old.inputs) s m (place, n)) (sym job) is.1),
)
stopped_same old new s m stopped.Stalled job inputs is =
    subst (λ (j : Job). (is_some_live j m ≡ true)
    × (list_all (is_held_up (with_samples s j) m) (all_tasks j) ≡ true)) (sym job) is
stopped_same old new s m (stopped.Hungry source) job inputs is =
    subst (λ (i : List Input). AllWait new.job (has_ended i) s m) (sym inputs)
    (subst (λ j. AllWait j (has_ended old.inputs) s m) (sym job) is)
stopped_same old new s m (stopped.Full sink) job inputs is = tt
stopped_same old new s m stopped.Paused job inputs is = tt

-- ---- one source

-- the place of a list that was set, or another
pub set_get : {X : Type 0} (xs : List X) (k j : ℕ) (y z : X) → slice_get (set xs k y) j ≡ Some z
    → ((j ≡ k) × (z ≡ y)) ⊎ ((j ≢ k) × (slice_get xs j ≡ Some z))
set_get [] k j y z got = let bad : None ≡ Some z = got in search rules
set_get (x ∷ xs) zero zero y z got = inl (refl, sym (same_Some y z got))
set_get (x ∷ xs) zero (suc j) y z got = inr ((λ e. search rules), got)
set_get (x ∷ xs) (suc k) zero y z got = inr ((λ e. search rules), got)
set_get (x ∷ xs) (suc k) (suc j) y z got = elim (set_get xs k j y z got) [
  | inl here ↦ inl (ap suc here.0, here.1)
  | inr other ↦ inr ((λ e. other.0 (omega (arith, e))), other.1)
]

-- source number k stands so now, behind these samples, and the others as they did
pub sources_set : {R : Type 0} (remaining : R → Option (List ℕ)) (held : Known)
    (old new : Session R) (s later : List (List ℤ)) (k : ℕ) (one other : Source R)
    → AreSources remaining held old s → new.stream.job ≡ old.stream.job
    → new.sources.items ≡ set old.sources.items k one → slice_get old.sources.items k ≡ Some other
    → one.task ≡ other.task
    → ((j : ℕ) → j ≢ k → get_or later j [] ≡ get_or s j [])
    → IsSource remaining (held (file_at old.stream.job.graph k)) (get_or later k []) one
    → AreSources remaining held new later
sources_set {R} remaining held old new s later k one other are job items there task same is j source got =
    by (set_get old.sources.items k j one source (ap (λ l. slice_get l j) (sym items) ∙ got))
  where
    At : Job → ℕ → Source R → Type 0
    At job i it = IsSourceAt job it.task i
        × IsSource remaining (held (file_at job.graph i)) (get_or later i []) it

    by : ((j ≡ k) × (source ≡ one)) ⊎ ((j ≢ k) × (slice_get old.sources.items j ≡ Some source))
        → At new.stream.job j source
    by (inl here) =
        subst (At new.stream.job j) (sym here.1) (subst (λ i. At new.stream.job i one) (sym here.0)
        (subst (λ jb. At jb k one) (sym job) (
          subst (λ t. IsSourceAt old.stream.job t k) (sym task) (are k other there).0,
          is,
        )))
    by (inr apart) =
        let it = are j source apart.1 in
        subst (λ jb. At jb j source) (sym job) (
          it.0,
          subst (λ values. IsSource remaining (held (file_at old.stream.job.graph j)) values source)
              (sym (same j apart.0)) it.1,
        )

-- the same graph and sinks twice
pub same_session : {R : Type 0} (old now new : Session R) → IsSameSession old now
    → IsSameSession now new → IsSameSession old new
same_session old now new first then = record {
  job = then.job ∙ first.job;
  targets = then.targets ∙ first.targets;
}
