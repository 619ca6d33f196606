-- Values that were handed over are forgotten.
use Rattle.std.proofs.Common.{◌≡◌, ◌≢◌, ◌<◌, ◌+◌, ℕ, ℤ, Bool, true, false, eqb, List, get_or, refl, sym, ap, subst, ◌∙◌, arith}
use Rattle.std.proofs.lemmas.Bool.{eq-eqb, eqb-true}
use Rattle.stream_job.specs.SinkLines.{kept_by}
use Rattle.stream_job.specs.Streams.{IsStreamAt, StreamState}
use Rattle.graph_runs.specs.Moments.{Moment}
use Rattle.graph_runs.specs.Turned.{with_at}
use Rattle.stream_lists.specs.Jobs.{Job}
use Rattle.stream_lists.specs.Lists.{sinks_of}
use Rattle.phase_stream.specs.Sessions.{Forgets}

pub forgets_none : (stream : StreamState) → Forgets 0 stream stream
forgets_none stream = record {
  stands = λ s m given at. (given, at, (λ sink lt. absurd (omega (arith, lt))));
  job = refl;
  inputs = refl;
}

-- what a sink has kept stays so, and of one more it is handed over
kept_still : (job : Job) (m : Moment) (later : ℕ → List ℤ) (i sink : ℕ)
    → (i < sink → later (get_or (sinks_of job) i 0) ≡ kept_by job m (get_or (sinks_of job) i 0))
    → i < sink + 1
    → with_at (get_or (sinks_of job) sink 0) (kept_by job m (get_or (sinks_of job) sink 0)) later
    (get_or (sinks_of job) i 0) ≡ kept_by job m (get_or (sinks_of job) i 0)
kept_still job m later i sink is lt =
    by (eqb (get_or (sinks_of job) i 0) (get_or (sinks_of job) sink 0)) refl
  where
    by : (b : Bool) → eqb (get_or (sinks_of job) i 0) (get_or (sinks_of job) sink 0) ≡ b
        → with_at (get_or (sinks_of job) sink 0) (kept_by job m (get_or (sinks_of job) sink 0)) later
        (get_or (sinks_of job) i 0) ≡ kept_by job m (get_or (sinks_of job) i 0)
    by true e = rw e (ap (kept_by job m) (sym (eqb-true (get_or (sinks_of job) i 0)
        (get_or (sinks_of job) sink 0) e)))
    by false e =
        let apart : i ≢ sink = λ same. (let yes : true ≡ false =
        sym (eq-eqb (get_or (sinks_of job) i 0) (get_or (sinks_of job) sink 0)
        (ap (λ n. get_or (sinks_of job) n 0) same)) ∙ e in cc) in
        rw e (is (omega (arith, lt, apart)))

pub forgets_more : (old now new : StreamState) (sink : ℕ) → Forgets sink old now
    → ((s : List (List ℤ)) (m : Moment) (given : ℕ → List ℤ) → IsStreamAt now s m given
    → let t = get_or (sinks_of now.job) sink 0 in
    IsStreamAt new s m (with_at t (kept_by now.job m t) given))
    → new.job ≡ now.job → new.inputs ≡ now.inputs → Forgets (sink + 1) old new
forgets_more old now new sink before forgets job inputs = record {
  stands = λ s m given at.
      let it = before.stands s m given at in
      let u = get_or (sinks_of now.job) sink 0 in (
        with_at u (kept_by now.job m u) it.0,
        forgets s m it.0 it.1,
        λ i lt. subst (λ (j : Job). with_at (get_or (sinks_of j) sink 0)
            (kept_by j m (get_or (sinks_of j) sink 0)) it.0 (get_or (sinks_of old.job) i 0)
            ≡ kept_by old.job m (get_or (sinks_of old.job) i 0)) (sym before.job)
            (kept_still old.job m it.0 i sink (it.2 i) lt),
      );
  job = job ∙ before.job;
  inputs = inputs ∙ before.inputs;
}
