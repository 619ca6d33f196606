-- A phaser whose members are settled composes its list.
use Rattle.std.proofs.Common.{◌≡◌, ℕ, ◌<◌, ◌≤◌, Bool, true, false, ◌||◌, cond, eqb, List, [], ◌∷◌, Option, Some, None, ℤ, length, refl, sym, ap, ◌∙◌, arith}
use Rattle.std.specs.List.{range_with_len}
use Rattle.std.proofs.lemmas.Bool.{eq-eqb}
use Rattle.phase_accum.specs.Values.{applied}
use Rattle.phase_history.specs.Histories.{History, done_of, top_of}
use Rattle.phase_history.specs.Phases.{sends_of_phase, single_of_phase, value_of_phase}
use Rattle.phase_base.specs.Lists.{is_in}
use Rattle.phase_history.specs.Sent.{gathered, IsSilent}
use Rattle.phase_history.proofs.Steps.{done_below_top, sound_of}
use Rattle.phase_history.proofs.Sendings.{single_of_phase-all}
use Rattle.graph_base.specs.Graphs.{task_at, phaser_at}
use Rattle.graph_base.specs.TaskLines.{IsGraph}
use Rattle.stream_lists.specs.Jobs.{Job, index_in}
use Rattle.stream_lists.specs.Spans.{signalled_by, greatest, span_in, schedule_of}
use Rattle.stream_lists.specs.Lists.{Contribution, contributions_on, contribution_at, contribution_by, phase_in, numbers_of, output_on, ends_on}
use Rattle.stream_lists.proofs.ListLengths.{lengths_end}
use Rattle.graph_runs.specs.Moments.{Moment, numbers_on, limits_at, value_at, PhaserRan, OnOutput}
use Rattle.graph_runs.specs.Settled.{Stands, PutsOut}
use Rattle.graph_runs.proofs.Composed.{IsAwaited, Agrees, Composes}
use Rattle.graph_runs.proofs.Entries.{nothing_more}
use Rattle.graph_runs.proofs.Agreed.{AllAgree, gathered_is, done_within, done_whole}

-- ---- task by task

-- what a moment has of task t on phaser p, by its place among the phasers that the task signals and
-- its number there
abbrev pub At : Job → Moment → ℕ → ℕ → Option ℕ → Option ℕ → Type 0
At job m p t None None = Unit {0}
At job m p t None (Some n) = IsSilent (m.history p) n
At job m p t (Some j) None =
    (span_in job t).live ≡ true
    → IsAwaited (m.history p)
    ((span_in job t).offset, output_on job (schedule_of job) (numbers_of job) t j)
At job m p t (Some j) (Some n) = OnOutput job m t j p n × Stands job m t × PutsOut job m t j

pub agrees_from : (job : Job) (m : Moment) (p t : ℕ) (place number : Option ℕ)
    → At job m p t place number
    → Agrees (m.history p) number (contribution_by job (schedule_of job) (numbers_of job) t place)
agrees_from job m p t None None at = tt
agrees_from job m p t None (Some n) at = at
agrees_from job m p t (Some j) None at =
    let out : ℕ × List ℤ =
    ((span_in job t).offset, output_on job (schedule_of job) (numbers_of job) t j) in
    elim ((span_in job t).live) as (λ b. ((span_in job t).live ≡ b)
    → Agrees (m.history p) None (cond b (Some out) None)) [
      | true ↦ λ live. at live
      | false ↦ λ dead. tt
    ] refl
agrees_from job m p t (Some j) (Some n) at =
    let on = at.0 in
    let s = at.1 in
    let o = at.2 in
    let out : ℕ × List ℤ =
    ((span_in job t).offset, output_on job (schedule_of job) (numbers_of job) t j) in
    rw s.live (record {
      start = on.start;
      start_is = on.start_is;
      signals = on.signals;
      at = on.at ∙ sym s.offset;
      put = m.put t j;
      sent = on.sent;
      rest = o.begins.0;
      first = o.begins.1;
      whole = λ left.
          nothing_more (m.put t j) o.begins.0 (output_on job (schedule_of job) (numbers_of job) t j)
          o.begins.1 (o.ended (on.left left));
    })

-- what a moment has of each of these tasks on phaser p
abbrev pub EachAt : Job → Moment → ℕ → List ℕ → Type 0
EachAt job m p ts =
    (t : ℕ) → is_in t ts ≡ true
    → At job m p t (index_in (signalled_by (task_at job.graph t)) p) (m.number p t)

pub all_agree : (job : Job) (m : Moment) (p : ℕ) (ts : List ℕ) → EachAt job m p ts
    → AllAgree (m.history p) (m.number p) (contribution_at job (schedule_of job) (numbers_of job) p) ts
all_agree job m p [] each = tt
all_agree job m p (t ∷ ts) each =
    let here : eqb t t ≡ true = eq-eqb t t refl in (
      agrees_from job m p t (index_in (signalled_by (task_at job.graph t)) p) (m.number p t)
          (each t (rw here refl)),
      all_agree job m p ts (λ u f. each u (rw f (or_true (eqb t u)))),
    )
  where
    or_true : (b : Bool) → (b || true) ≡ true
    or_true true = refl
    or_true false = refl

-- ---- the phaser

-- the value of a complete phase is that of what the tasks have sent in it, put together
abbrev pub AreGathered : Job → Moment → ℕ → Type 0
AreGathered job m p = (n : ℕ) → n < done_of (m.history p)
    → value_at job p (sends_of_phase (m.history p) n)
    ≡ value_at job p (gathered (m.history p) (numbers_on job m p) n)

pub composes_from : (job : Job) (m : Moment) (p : ℕ) → IsGraph job.graph
    → p < length job.graph.phasers → PhaserRan job m p
    → AreGathered job m p → EachAt job m p (range_with_len 0 (length job.graph.tasks))
    → Composes job m p
composes_from job m p is pp ran same each = record {
  values = λ n below. values n below;
  within = (let w : done_of h ≤ greatest (ends_on job p) =
      done_within (limits_at job p) h (m.number p) member ts ran.legal ran.strangers agree in
      omega (arith, lengths_end job p is pp));
  whole = λ quiet.
      (let w : greatest (ends_on job p) ≤ done_of h =
      done_whole (limits_at job p) h (m.number p) member ts ran.legal quiet agree in
      omega (arith, lengths_end job p is pp));
}
  where
    h : History
    h = m.history p

    ts : List ℕ
    ts = range_with_len 0 (length job.graph.tasks)

    member : ℕ → Option Contribution
    member t = contribution_at job (schedule_of job) (numbers_of job) p t

    agree : AllAgree (m.history p) (m.number p) (contribution_at job (schedule_of job) (numbers_of job) p)
        (range_with_len 0 (length job.graph.tasks))
    agree = all_agree job m p (range_with_len 0 (length job.graph.tasks)) each

    values : (n : ℕ) → n < done_of (m.history p)
        → value_of_phase (value_at job p) (m.history p) n
        ≡ phase_in (value_at job p) job p (contributions_on job (schedule_of job) (numbers_of job) p) n
    values n below =
        let value = value_at job p in
        let top : done_of (m.history p) ≤ top_of (m.history p) =
        done_below_top (m.history p) (sound_of (limits_at job p) (m.history p) ran.legal) in
        let low : n < top_of (m.history p) = omega arith in
        let named : single_of_phase (m.history p) n ≡ (phaser_at job.graph p).single =
        single_of_phase-all (limits_at job p) (m.history p) n (phaser_at job.graph p).single
        ran.legal low ran.names in
        ap (λ s. applied s (value (sends_of_phase (m.history p) n))) named
        ∙ ap (λ o. applied (phaser_at job.graph p).single o)
        (same n below
        ∙ ap value
        (gathered_is (limits_at job p) (m.history p) (m.number p)
        (contribution_at job (schedule_of job) (numbers_of job) p)
        (range_with_len 0 (length job.graph.tasks)) n ran.legal below agree))
