-- A run is tested event by event.
use Rattle.std.proofs.Common.{◌≡◌, ℕ, ◌<◌, true, false, List, [], ◌∷◌, ℤ, Some, length, take, drop}
use Rattle.phase_base.specs.Members.{signal_phases}
use Rattle.phase_accum.specs.declared.outcome.Outcome.{Outcome}
use Rattle.phase_history.specs.declared.event.Event.TheVariants.{Made, Registered, RegisteredNow, Signalled, Waited, Dropped}
use Rattle.phase_history.specs.Histories.{History, members_of, wait_phase, has_dropped, HasNoSignaller}
use Rattle.phase_history.specs.Phases.{stream_of}
use Rattle.graph_base.specs.TaskLines.{IsGraph}
use Rattle.stream_lists.specs.Jobs.{Job}
use Rattle.stream_lists.specs.Ranges.{is_too_big}
use Rattle.graph_runs.specs.Moments.{Moment, HasRun, IsOver, AnsweredNone, value_at}
use Rattle.graph_runs.proofs.OnLines.{on_phaser}
use Rattle.worked_runs.specs.Runs.{TaskEvent, after_turn, after_all, IsNext, AreNext, HasRunThrough}
use Rattle.worked_runs.proofs.Tests as test
use Rattle.worked_runs.proofs.Tests.{Test, Both, never, always, giving, both, either, each, when_some}
use Rattle.worked_runs.proofs.GraphTests.{all_of}
use Rattle.worked_runs.proofs.BlockTests.{is_next}

abbrev pub are_next : (job : Job) (m : Moment) (turns : List TaskEvent)
    → Test (IsGraph job.graph → AreNext job m turns)
are_next job m [] = always (λ is. tt)
are_next job m (turn ∷ turns) =
    giving (λ b is. (λ ran. b.left is ran, b.right is))
    (both (is_next job m turn) (are_next job (after_turn job turn m) turns))

-- where each next event keeps what a run has, all do
pub run_through : (job : Job) (m : Moment) (turns : List TaskEvent)
    → ((m : Moment) (turn : TaskEvent) → IsNext job m turn → HasRun job m
    → HasRun job (after_turn job turn m))
    → AreNext job m turns → HasRun job m → HasRunThrough job m turns
run_through job m [] keeps next ran = ran
run_through job m (turn ∷ turns) keeps next ran = (
  ran,
  run_through job (after_turn job turn m) turns keeps next.1
      (keeps m turn (next.0 ran) ran),
)

pub run_to_the_end : (job : Job) (m : Moment) (turns : List TaskEvent) → HasRunThrough job m turns
    → HasRun job (after_all job m turns)
run_to_the_end job m [] ran = ran
run_to_the_end job m (turn ∷ turns) ran =
    run_to_the_end job (after_turn job turn m) turns ran.1

-- ---- the end

abbrev pub is_over : (job : Job) (m : Moment)
    → Test (IsGraph job.graph → HasRun job m → IsOver job m)
is_over job m =
    let Gone : ℕ → Type 0 = λ p. (t : ℕ) → t < length job.graph.tasks → (n : ℕ)
    → m.number p t ≡ Some n → has_dropped (m.history p) n ≡ true in
    giving (λ b is ran. record {
      quiet = b.left;
      gone = λ p t n there at.
          b.right p (on_phaser job t p is there ((ran.tasks t there).lines p n at)) t there n at;
    })
    (both (each (length job.graph.phasers) (λ p. HasNoSignaller (m.history p))
    (λ p. test.is_empty (signal_phases (members_of (m.history p)))))
    (each (length job.graph.phasers) Gone
    (λ p. each (length job.graph.tasks)
    (λ t. (n : ℕ) → m.number p t ≡ Some n → has_dropped (m.history p) n ≡ true)
    (λ t. when_some (m.number p t) (λ n. has_dropped (m.history p) n ≡ true)
    (λ n. test.is_true (has_dropped (m.history p) n))))))

abbrev pub answered_none : (value : List ℤ → Outcome) (h : History) → Test (AnsweredNone value h)
answered_none value [] = always tt
answered_none value (Made task ∷ before) = answered_none value before
answered_none value (Registered parent child mode ∷ before) = answered_none value before
answered_none value (RegisteredNow parent child ∷ before) = answered_none value before
answered_none value (Signalled task lists single ∷ before) = answered_none value before
answered_none value (Dropped task ∷ before) = answered_none value before
answered_none value (Waited task phases ∷ before) =
    let answer = take phases (drop (wait_phase before task) (stream_of value before)) in
    giving (λ b. (b.left, b.right))
    (both (all_of (λ outcome. is_too_big outcome ≡ false) answer
    (λ outcome. test.is_false (is_too_big outcome))) (answered_none value before))

abbrev pub nowhere_answered : (job : Job) (m : Moment)
    → Test ((p : ℕ) → p < length job.graph.phasers → AnsweredNone (value_at job p) (m.history p))
nowhere_answered job m =
    each (length job.graph.phasers) (λ p. AnsweredNone (value_at job p) (m.history p))
    (λ p. answered_none (value_at job p) (m.history p))
