-- With a value that is out of range and counts, a job does not fit.
use Rattle.std.proofs.Common.{◌≡◌, ◌≢◌, ℕ, zero, suc, ◌+◌, ◌<◌, true, false, List, [], ◌∷◌, Some, None, ℤ, pos, length, get_or, refl, sym, ◌∙◌, arith}
use Rattle.std.proofs.lemmas.Bool.{and_parts}
use Rattle.phase_accum.specs.declared.outcome.Outcome.{Outcome}
use Rattle.phase_accum.specs.declared.outcome.Outcome.TheVariants.{Value, Empty, TooBig}
use Rattle.phase_accum.specs.Sends.{IsSend, AreSends}
use Rattle.graph_base.specs.Graphs.{task_at}
use Rattle.graph_base.specs.TaskLines.{IsGraph}
use Rattle.stream_lists.specs.Jobs.{Job, index_in}
use Rattle.stream_lists.specs.Spans.{lengths_of, span_in, signalled_by, schedule_of}
use Rattle.stream_lists.specs.Lists.{contributions_on, sends_in, numbers_of, output_on, list_of_phaser}
use Rattle.stream_lists.specs.Ranges.{is_out_of_range, are_made, task_takes, is_taken, is_too_big, is_fault, first_too_big}
use Rattle.stream_lists.specs.Entries.{AreInRange}
use Rattle.stream_lists.proofs.EachPhase.{length-list}
use Rattle.stream_lists.proofs.Fitting.{any-from, takes_parts, in_range, send-fits}
use Rattle.stream_lists.proofs.Ordered.{place-at}
use Rattle.graph_runs.specs.Moments.{value_at}

too_big_is : (o : Outcome) → is_too_big o ≡ true → o ≡ TooBig
too_big_is TooBig e = refl
too_big_is Empty e = absurd (cc)
too_big_is (Value v) e = absurd (cc)

send_at : (xs : List ℤ) (i : ℕ) → AreSends xs → i < length xs → IsSend (get_or xs i (pos 0))
send_at [] i are lt = absurd (omega arith)
send_at (x ∷ xs) zero are lt = are.0
send_at (x ∷ xs) (suc i) are lt = send_at xs i are.1 (omega arith)

-- a phase of phaser p that is too big and that some task takes
pub phase_faults : (job : Job) (p n : ℕ) → IsGraph job.graph → p < length job.graph.phasers
    → n < get_or (lengths_of job) p 0
    → is_fault (value_at job p) job (schedule_of job)
    (contributions_on job (schedule_of job) (numbers_of job) p) p n ≡ true
    → first_too_big job ≢ None
phase_faults job p n is pp lt e fits =
    let value =
    value_at job p (sends_in (contributions_on job (schedule_of job) (numbers_of job) p) n) in
    let all : AreInRange job = in_range job is fits in
    let parts = and_parts (is_too_big value) (is_taken job (schedule_of job) p n) e in
    let taker =
    any-from (task_takes job (schedule_of job) p n) 0 (length job.graph.tasks) parts.1 in
    let there : taker.0 < 0 + length job.graph.tasks = taker.1 in
    let long : length (list_of_phaser job p) ≡ get_or (lengths_of job) p 0 = length-list job p in
    all.phases p n taker.0 pp (omega arith) (takes_parts job p n taker.0 (omega arith) taker.2)
    (too_big_is value parts.0)

-- an output of task t on phaser p that is out of range
pub output_faults_at : (job : Job) (p t j i : ℕ) → IsGraph job.graph
    → p < length job.graph.phasers → t < length job.graph.tasks
    → index_in (signalled_by (task_at job.graph t)) p ≡ Some j → (span_in job t).live ≡ true
    → are_made (task_at job.graph t).kind j ≡ true
    → i < length (output_on job (schedule_of job) (numbers_of job) t j)
    → is_out_of_range (get_or (output_on job (schedule_of job) (numbers_of job) t j) i (pos 0))
    ≡ true
    → first_too_big job ≢ None
output_faults_at job p t j i is pp there place live made lt e fits =
    let list = output_on job (schedule_of job) (numbers_of job) t j in
    let all : AreInRange job = in_range job is fits in
    let sends : AreSends list = all.outputs t j (record {
      there = there;
      live = live;
      output = (place-at (signalled_by (task_at job.graph t)) p j place).0;
      made = made;
    }) in
    let fine : is_out_of_range (get_or list i (pos 0)) ≡ false =
    send-fits (get_or list i (pos 0)) (send_at list i sends lt) in
    (let clash : true ≡ false = sym e ∙ fine in cc)
