-- A task that waits for its next step has begun no more steps than a phaser has phases.
use Rattle.std.proofs.Common.{◌≡◌, ℕ, ◌+◌, ◌<◌, ◌≤◌, Some, length, refl, ap, subst, ◌∙◌, arith, inl, inr}
use Rattle.std.proofs.lemmas.List.{length-map}
use Rattle.phase_base.specs.declared.limits.TheConstants.{PHASES_MAX}
use Rattle.phase_history.specs.Histories.{done_of, top_of, phases_signalled}
use Rattle.phase_history.specs.Phases.{received_by}
use Rattle.phase_history.specs.Laws.{HasReceivedFrom}
use Rattle.phase_history.specs.Sent.{sent_by}
use Rattle.phase_history.proofs.Left.{length-received, received_law}
use Rattle.phase_history.proofs.Sendings.{length-sent_by}
use Rattle.phase_history.proofs.Signallers.{below_top}
use Rattle.phase_history.proofs.Steps.{done_below_top, sound_of}
use Rattle.phase_history.proofs.Tops.{top_within}
use Rattle.graph_base.specs.declared.line.Kind.{Kind}
use Rattle.graph_base.specs.declared.line.Kind.TheVariants.{Source, Fir, Split, Decimate, Join, Peer, Sink}
use Rattle.graph_base.specs.Graphs.{task_at}
use Rattle.graph_base.specs.TaskLines.{IsGraph}
use Rattle.stream_lists.specs.Jobs.{Job, index_in}
use Rattle.stream_lists.specs.Lists.{number}
use Rattle.stream_lists.specs.Spans.{signalled_by, takes_from, puts_on}
use Rattle.graph_runs.specs.Moments.{one, Moment, HasRun, OnInput, OnOutput, PutOn, OnPhaser, TakenOn, input_at, limits_at, value_at}
use Rattle.graph_runs.proofs.OnLines.{on_phaser}
use Rattle.graph_runs.proofs.StepsLemmas.{has_inputs}
use Rattle.graph_runs.specs.Nexts.{next_of, samples, waits, number_on}
use Rattle.graph_runs.specs.Answers.{output_at}
use Rattle.graph_runs.proofs.Boundaries.{all_put, made_many, all_taken}
use Rattle.graph_runs.proofs.PlacesLemmas.{place_of_output}
use Rattle.graph_runs.proofs.Signalling.{Live, live-is, number_there}
use Rattle.stream_job.proofs.Lively.{live_next}
use Rattle.stream_job.proofs.WhatNext.{Begins, samples_begins, waits_begins}

-- ---- what one task has on one phaser

-- what a task has taken from a phaser is no more than the phaser has phases
taken_few : (job : Job) (m : Moment) (t k p n : ℕ) → IsGraph job.graph → HasRun job m
    → p < length job.graph.phasers → OnInput job m t k p n → length (m.taken t k) ≤ PHASES_MAX
taken_few job m t k p n is ran there on =
    let h = m.history p in
    let legal = (ran.phasers p there).legal in
    let value = value_at job p in
    let limits = limits_at job p in
    let got : HasReceivedFrom value h n on.start =
    received_law value limits h n on.start legal on.start_is on.waits in
    let long : length (m.taken t k) ≡ length (received_by value h n) =
    ap length on.taken ∙ length-map (received_by value h n) number in
    let below : done_of h ≤ top_of h = done_below_top h (sound_of limits h legal) in
    omega (arith, length-received value limits h n legal, got.complete, top_within limits h legal)

-- and so is what it has put on one
put_few : (job : Job) (m : Moment) (t j p n : ℕ) → IsGraph job.graph → HasRun job m
    → p < length job.graph.phasers → OnOutput job m t j p n → length (m.put t j) ≤ PHASES_MAX
put_few job m t j p n is ran there on =
    let h = m.history p in
    let legal = (ran.phasers p there).legal in
    let limits = limits_at job p in
    let long : length (sent_by h n) ≡ length (m.put t j) =
    ap length on.sent ∙ length-map (m.put t j) one in
    let below : on.start.signal_phase + phases_signalled h n ≤ top_of h =
    below_top limits h n on.start legal on.start_is in
    omega (arith, length-sent_by h n, top_within limits h legal)

-- ---- a live task

inputs_few : (job : Job) (m : Moment) (t k : ℕ) → IsGraph job.graph → HasRun job m → Live job m t
    → k < length (task_at job.graph t).inputs → length (m.taken t k) ≤ PHASES_MAX
inputs_few job m t k is ran live lt =
    let p = input_at (task_at job.graph t) k in
    let n = number_on m t p in
    let number : m.number p t ≡ Some n = number_there job m t p is live (inr (k, lt, refl)) in
    let there = on_phaser job t p is live.there (inr (k, lt, refl)) in
    taken_few job m t k p n is ran there
    (subst (λ o. TakenOn job m t k p o) number ((ran.tasks t live.there).inputs k lt))

pub outputs_few : (job : Job) (m : Moment) (t j : ℕ) → IsGraph job.graph → HasRun job m
    → Live job m t → j < length (signalled_by (task_at job.graph t))
    → length (m.put t j) ≤ PHASES_MAX
outputs_few job m t j is ran live lt =
    let p = output_at job t j in
    let n = number_on m t p in
    let place : index_in (signalled_by (task_at job.graph t)) p ≡ Some j =
    place_of_output job.graph t (task_at job.graph t) j (is.tasks t live.there) lt in
    let number : m.number p t ≡ Some n = number_there job m t p is live (inl (j, place)) in
    let there = on_phaser job t p is live.there (inl (j, place)) in
    let on : PutOn job m t j p (m.number p t) =
    subst (λ o. OnPhaser job m t p o) place ((ran.tasks t live.there).outputs p there) in
    put_few job m t j p n is ran there (subst (λ o. PutOn job m t j p o) number on)

-- a joiner has put a value for each of its steps, and each other task has taken one
pub begun_few : (job : Job) (m : Moment) (t k : ℕ) → IsGraph job.graph → HasRun job m
    → next_of job m t ≡ waits k → m.begun t ≤ PHASES_MAX
begun_few job m t k is ran next =
    by (task_at job.graph t).kind refl
  where
    b : Begins job m t k
    b = waits_begins job m t k next

    live : Live job m t
    live = live-is job m t (live_next job m t (waits k) next (λ e. absurd (cc)))

    some : 0 < length (task_at job.graph t).inputs
    some =
        has_inputs (task_at job.graph t).kind (length (task_at job.graph t).inputs)
        (length (task_at job.graph t).outputs) (is.tasks t live.there).ends b.kind

    took : takes_from (task_at job.graph t) (m.begun t) 0 ≡ m.begun t → m.begun t ≤ PHASES_MAX
    took plain =
        let all : length (m.taken t 0) ≡ takes_from (task_at job.graph t) (m.begun t) 0 =
        all_taken job m t is (ran.tasks t live.there) live.there b.step.none 0 some in
        omega (arith, inputs_few job m t 0 is ran live some)

    joined : (task_at job.graph t).kind ≡ Join → m.begun t ≤ PHASES_MAX
    joined e =
        let ends = rw e at (is.tasks t live.there).ends in
        let one : length (task_at job.graph t).outputs ≡ 1 = ends.2 in
        let out : signalled_by (task_at job.graph t) ≡ (task_at job.graph t).outputs = rw e refl in
        let many : length (signalled_by (task_at job.graph t))
        ≡ length (task_at job.graph t).outputs = ap length out in
        let lt : 0 < length (signalled_by (task_at job.graph t)) = omega arith in
        let plain : puts_on (task_at job.graph t) (m.begun t) 0 ≡ m.begun t = rw e refl in
        let put : length (m.put t 0) ≡ m.begun t =
        ap length (all_put job m t (ran.tasks t live.there) live.there b.step.none 0 lt)
        ∙ made_many job m t 0 is (ran.tasks t live.there) live.there lt ∙ plain in
        omega (arith, outputs_few job m t 0 is ran live lt)

    by : (kind : Kind) → (task_at job.graph t).kind ≡ kind → m.begun t ≤ PHASES_MAX
    by Source e = absurd (b.kind e)
    by Fir e = took (rw e refl)
    by Split e = took (rw e refl)
    by Decimate e = took (rw e refl)
    by Join e = joined e
    by Peer e = took (rw e refl)
    by Sink e = took (rw e refl)

-- a source has put a value for each of its steps
pub samples_few : (job : Job) (m : Moment) (t : ℕ) → IsGraph job.graph → HasRun job m
    → next_of job m t ≡ samples → m.begun t ≤ PHASES_MAX
samples_few job m t is ran next =
    let live = live-is job m t (live_next job m t samples next (λ e. absurd (cc))) in
    let s = samples_begins job m t next in
    let ends = rw s.kind at (is.tasks t live.there).ends in
    let one : length (task_at job.graph t).outputs ≡ 1 = ends.1 in
    let out : signalled_by (task_at job.graph t) ≡ (task_at job.graph t).outputs = rw s.kind refl in
    let many : length (signalled_by (task_at job.graph t)) ≡ length (task_at job.graph t).outputs =
    ap length out in
    let lt : 0 < length (signalled_by (task_at job.graph t)) = omega arith in
    let plain : puts_on (task_at job.graph t) (m.begun t) 0 ≡ m.begun t = rw s.kind refl in
    let put : length (m.put t 0) ≡ m.begun t =
    ap length (all_put job m t (ran.tasks t live.there) live.there s.step.none 0 lt)
    ∙ made_many job m t 0 is (ran.tasks t live.there) live.there lt ∙ plain in
    omega (arith, outputs_few job m t 0 is ran live lt)
