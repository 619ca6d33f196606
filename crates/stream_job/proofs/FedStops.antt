-- Why a run that is fed stops.
use Rattle.std.proofs.Common.{◌≡◌, ℕ, zero, suc, ℤ, List, ◌+◌, ◌-◌, ◌<◌, ◌&&◌, Bool, true, false, cond, Option, Some, None, length, refl, sym, subst, ◌∙◌, arith}
use Rattle.std.specs.Prelude.{nat_lt}
use Rattle.std.specs.List.{find, list_all, range_with_len}
use Rattle.stream_job.specs.InRange.{stands_before}
use Rattle.stream_job.specs.Rounds.{FirstOrRest, LooksSo}
use Rattle.stream_lists.specs.Ranges.{Where}
use Rattle.std.proofs.lemmas.Bool.{and_parts}
use Rattle.std.proofs.lemmas.Option.{none-some, same_Some}
use Rattle.stream_lists.specs.Jobs.{Job, with_samples}
use Rattle.stream_lists.specs.Lists.{is_sink_at}
use Rattle.graph_runs.specs.Moments.{Moment}
use Rattle.graph_runs.specs.NextBlocks.{block_of}
use Rattle.graph_runs.specs.Nexts as nexts
use Rattle.graph_runs.specs.Nexts.{Next, is_live, next_of}
use Rattle.graph_runs.proofs.Signalling.{live-is}
use Rattle.stream_job.specs.SinkLines.{kept_by}
use Rattle.stream_job.specs.Streams.{IsStreamAt, Rests, StreamState, all_tasks, ended_at, is_full, is_some_live, line_room, rests, stop_by}
use Rattle.stream_job.specs.declared.stopped.Stopped.TheVariants as stopped
use Rattle.stream_job.proofs.Searching.{all_in_range, any_in_range, not_all_in_range}

-- the first that passes a test is one of those that were looked at, and passes
found_from : (test : ℕ → Bool) (from n t : ℕ) → find test (range_with_len from n) ≡ Some t
    → (t < from + n) × (test t ≡ true)
found_from test from zero t e = absurd (none-some t e)
found_from test from (suc n) t e = by (test from) refl e (found_from test (from + 1) n t)
  where
    by : (b : Bool) → test from ≡ b
        → cond b (Some from) (find test (range_with_len (from + 1) n)) ≡ Some t
        → (find test (range_with_len (from + 1) n) ≡ Some t
        → (t < from + 1 + n) × (test t ≡ true))
        → (t < from + suc n) × (test t ≡ true)
    by true is e rest =
        let same : from ≡ t = same_Some from t e in
        (omega arith, subst (λ x. test x ≡ true) same is)
    by false is e rest =
        let r = rest e in
        let lt : t < from + 1 + n = r.0 in
        (omega arith, r.1)

pub found_in : (test : ℕ → Bool) (n t : ℕ) → find test (range_with_len 0 n) ≡ Some t
    → (t < n) × (test t ≡ true)
found_in test n t e =
    let r = found_from test 0 n t e in
    let lt : t < 0 + n = r.0 in
    (omega arith, r.1)

-- a task that is full is a sink
pub full_sink : (job : Job) (m : Moment) (given : ℕ → List ℤ) (t : ℕ)
    → is_full job m given t ≡ true → is_sink_at job t ≡ true
full_sink job m given t full = by (next_of job m t) refl
  where
    by : (next : Next) → next_of job m t ≡ next → is_sink_at job t ≡ true
    by (nexts.waits k) e =
        let lacks = nat_lt (line_room job t)
        (length (kept_by job m t) - length (given t) + block_of job m t) in
        let now : (is_sink_at job t && lacks) ≡ true = rw e at full in
        (and_parts (is_sink_at job t) lacks now).0
    by nexts.is_not_live e = absurd (let wrong : false ≡ true = rw e at full in cc)
    by (nexts.registers c) e = absurd (let wrong : false ≡ true = rw e at full in cc)
    by nexts.leaves e = absurd (let wrong : false ≡ true = rw e at full in cc)
    by nexts.samples e = absurd (let wrong : false ≡ true = rw e at full in cc)
    by (nexts.signals j) e = absurd (let wrong : false ≡ true = rw e at full in cc)
    by nexts.exchanges e = absurd (let wrong : false ≡ true = rw e at full in cc)

-- where it is done nobody is live
pub done_dead : (job : Job) (full hungry : Option ℕ) (live : Bool)
    → stop_by job full hungry live stopped.Done → live ≡ false
done_dead job (Some t) hungry live stop = absurd stop
done_dead job None (Some t) live stop = absurd stop
done_dead job None None true stop = absurd stop
done_dead job None None false stop = refl

pub none_live : (job : Job) (m : Moment) → is_some_live job m ≡ false
    → (t : ℕ) → is_live job m t ≡ false
none_live job m none t = by (is_live job m t) refl
  where
    by : (b : Bool) → is_live job m t ≡ b → is_live job m t ≡ false
    by false e = e
    by true e =
        let some = any_in_range (is_live job m) (length job.graph.tasks) t
        (live-is job m t e).there e in
        absurd (let wrong : true ≡ false = sym some ∙ none in cc)

-- ---- what it stops by

pub stalled_by : (job : Job) (full hungry : Option ℕ) (live : Bool) → full ≡ None → hungry ≡ None
    → live ≡ true → stop_by job full hungry live stopped.Stalled
stalled_by job full hungry live none fed some = rw none (rw fed (rw some tt))

pub done_by : (job : Job) (full hungry : Option ℕ) (live : Bool) → full ≡ None → hungry ≡ None
    → live ≡ false → stop_by job full hungry live stopped.Done
done_by job full hungry live none fed gone = rw none (rw fed (rw gone tt))

-- where no task stands before a value out of range, all rest
pub rests_so : (stream : StreamState) (before : Option Where) → stream.met ≡ None
    → before ≡ None → LooksSo stream (length stream.job.graph.tasks) before
    → (s : List (List ℤ)) (m : Moment) (given : ℕ → List ℤ) → IsStreamAt stream s m given
    → Rests stream s m given
rests_so stream before none is looked s m given at =
    let job = with_samples s stream.job in
    let n = length stream.job.graph.tasks in
    record {
      none = none;
      rest = all_in_range (rests job (ended_at stream) m given) n
          (subst (FirstOrRest (rests job (ended_at stream) m given) (stands_before job m) n) is
          (looked s m given at).first);
    }

pub below_all : (test : ℕ → Bool) (n : ℕ) → list_all test (range_with_len 0 n) ≡ true
    → (d : ℕ) → d < n → test d ≡ true
below_all test n all d lt = by (test d) refl
  where
    by : (b : Bool) → test d ≡ b → test d ≡ true
    by true e = e
    by false e =
        absurd (let wrong : true ≡ false = sym all ∙ not_all_in_range test n d lt e in cc)

-- where all rest, none stands
pub looks_rest : (stream : StreamState)
    → ((s : List (List ℤ)) (m : Moment) (given : ℕ → List ℤ) → IsStreamAt stream s m given
    → let job = with_samples s stream.job in
    list_all (rests job (ended_at stream) m given) (all_tasks job) ≡ true)
    → LooksSo stream (length stream.job.graph.tasks) None
looks_rest stream all s m given at =
    let job = with_samples s stream.job in
    let each = below_all (rests job (ended_at stream) m given) (length stream.job.graph.tasks)
    (all s m given at) in
    record {
      each = λ t lt not. absurd (let wrong : true ≡ false = sym (each t lt) ∙ not in cc);
      first = each;
    }
