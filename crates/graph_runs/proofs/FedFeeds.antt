-- A feed continues the run: samples that begin with those that were there, where no source that gets
-- more has left.
use Rattle.std.proofs.Common.{◌≡◌, ℕ, ℤ, ◌+◌, ◌<◌, ◌≤◌, Bool, true, false, List, Option, Some, length, refl, sym, ap, subst, ◌∙◌, arith, inl, inr}
use mathlib.Core.List.{IsPrefix}
use Rattle.std.proofs.lemmas.List.{length-append}
use Rattle.phase_history.specs.Histories.{has_dropped}
use Rattle.graph_base.specs.Graphs.{task_at}
use Rattle.graph_base.specs.declared.line.Kind.{Kind}
use Rattle.stream_lists.specs.Jobs.{Job, samples_at, samples_in}
use Rattle.graph_runs.specs.Moments.{Moment, HasRun, TaskRan, HasEnded, HasSamples, MayStop, at_until, OnOutput, OnInput, OnPhaser, PutOn, TakenOn, OnLine}
use Rattle.graph_runs.proofs.Entries.{take_of_prefix}
use Rattle.graph_runs.specs.Feeds.{Continues, IsFed, IsOpenAt}

-- who has left a phaser has come to its end
has_ended : (job : Job) (m : Moment) (t p n : ℕ) → p < length job.graph.phasers → TaskRan job m t
    → m.number p t ≡ Some n → has_dropped (m.history p) n ≡ true → HasEnded job m t
has_ended job m t p n pp r is gone = by_line (r.lines p n is)
  where
    by_line : OnLine (task_at job.graph t) p → HasEnded job m t
    by_line (inl out) =
        let O : Option ℕ → Type 0 = λ o. OnPhaser job m t p o in
        let N : Option ℕ → Type 0 = λ o. PutOn job m t out.0 p o in
        let on : OnOutput job m t out.0 p n = subst N is (subst O out.1 (r.outputs p pp)) in
        on.left gone
    by_line (inr from) =
        let k = from.0 in
        let Q : ℕ → Type 0 = λ q. TakenOn job m t k q (m.number q t) in
        let N : Option ℕ → Type 0 = λ o. TakenOn job m t k p o in
        let on : OnInput job m t k p n = subst N is (subst Q from.2 (r.inputs k from.1)) in
        on.left gone

long : (xs ys : List ℤ) → IsPrefix xs ys → length xs ≤ length ys
long xs ys a =
    let l : length xs + length a.0 ≡ length ys = sym (length-append xs a.0) ∙ ap length a.1 in
    omega arith

pub feed_continues : (job : Job) (ended : ℕ → Bool) (m : Moment) (samples : List (List ℤ))
    → HasRun job m → IsOpenAt job ended m → IsFed job ended samples → Continues job m samples
feed_continues job ended m samples ran opens fed t there source = record {
  enough = (let few = begun_few in let more = long old new (fed.begins t there source) in omega arith);
  same = take_of_prefix (m.begun t) old new (fed.begins t there source) begun_few;
  ended = λ p n pp is gone. by_end p n pp is gone (ended t) refl;
}
  where
    old : List ℤ
    old = samples_at job t

    new : List ℤ
    new = samples_in job samples t

    begun_few : m.begun t ≤ length (samples_at job t)
    begun_few =
        let H : Kind → Type 0 = λ kind. HasSamples kind (m.begun t) (length (samples_at job t)) in
        subst H source (ran.tasks t there).samples

    by_end : (p n : ℕ) → p < length job.graph.phasers → m.number p t ≡ Some n
        → has_dropped (m.history p) n ≡ true → (e : Bool) → ended t ≡ e
        → MayStop m (task_at job.graph t) t (length (samples_in job samples t))
    by_end p n pp is gone false e = at_until (opens t p n there pp source e is gone)
    by_end p n pp is gone true e =
        let S : List ℤ → Type 0 = λ xs. MayStop m (task_at job.graph t) t (length xs) in
        subst S (sym (fed.stays t there source e))
        (has_ended job m t p n pp (ran.tasks t there) is gone).may_end
