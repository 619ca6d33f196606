-- By the event, which is the task's next one.
use Rattle.std.proofs.Common.{◌≡◌, ℕ, ◌∙◌}
use Rattle.graph_base.specs.Graphs.{task_at}
use Rattle.stream_lists.specs.Jobs.{Job}
use Rattle.graph_runs.specs.Moments.{Moment}
use Rattle.graph_runs.specs.Answers.{makes, answer_of_turn}
use Rattle.graph_runs.proofs.PlacesFollow.{others_follow, child_follows, parent_follows, leave_follows}
use Rattle.graph_runs.specs.TaskEvents.{TaskEvent, sample, signal, first_wait, exchange_wait, leave}
use Rattle.graph_runs.proofs.InOrder.{OwesFor, event_owes}
use Rattle.graph_runs.proofs.Signalling.{Live}
use Rattle.graph_runs.proofs.Whose.{IsMadeBy, made_by}
use Rattle.graph_runs.proofs.Stepping.{line_sizes, sample_follows, signal_follows}
use Rattle.graph_runs.proofs.FirstWaits.{first_wait_follows}
use Rattle.graph_runs.proofs.Exchanging.{exchange_follows}
use Rattle.graph_runs.proofs.turns.places_follow.Goals as goal

-- of a turn by the line's block
made_at : (job : Job) (m : Moment) (t : ℕ) (event : TaskEvent)
    → answer_of_turn job m t ≡ makes event → Live job m t × IsMadeBy job m t event
made_at job m t event answer =
    let block = (task_at job.graph t).block in made_by block block job m t event answer

owes_at : (job : Job) (m : Moment) (t : ℕ) (event : TaskEvent)
    → answer_of_turn job m t ≡ makes event
    → OwesFor (task_at job.graph t).block (task_at job.graph t).block job m event
owes_at job m t event answer =
    let block = (task_at job.graph t).block in event_owes block block job m t event answer

pub returns-clause-others : goal.returns-clause-others
returns-clause-others c = λ job m t u event at is reached answer there apart another stands.
    others_follow job m u event at is reached.ran
    (c.turns_make_next_events.ensures.next job m t event is reached.ran reached.to_come answer)
    there (λ same. apart (same ∙ (made_at job m t event answer).1.own)) another stands

pub returns-clause-child : goal.returns-clause-child
returns-clause-child c = λ job m t d a event at is reached answer of_d number stands.
    child_follows job m d a event at is reached.ran
    (c.turns_make_next_events.ensures.next job m t event is reached.ran reached.to_come answer)
    (made_at job m t event answer).1.missing of_d number stands

pub returns-clause-parent : goal.returns-clause-parent
returns-clause-parent c = λ job m t d event at is reached answer of_d stands.
    parent_follows job m t d event at
    (c.turns_make_next_events.ensures.next job m t event is reached.ran reached.to_come answer)
    (made_at job m t event answer).1.own of_d stands

pub returns-clause-leave : goal.returns-clause-leave
returns-clause-leave c = λ job m t p n at is reached answer stands.
    (let event = leave t p n in
    leave_follows job m t p n at is (made_at job m t event answer).0
    (c.turns_make_next_events.ensures.next job m t event is reached.ran reached.to_come answer)
    (made_at job m t event answer).1.missing stands)

pub returns-clause-sample : goal.returns-clause-sample
returns-clause-sample c = λ job m t j p n vs at is reached answer stands.
    (let event = sample t j p n vs in
    sample_follows job m t j p n vs at is reached.ran
    (c.turns_make_next_events.ensures.next job m t event is reached.ran reached.to_come answer)
    (c.turns_make_next_events.ensures.keeps job m t event is reached.ran reached.to_come answer)
    (owes_at job m t event answer) stands)

pub returns-clause-signal : goal.returns-clause-signal
returns-clause-signal c = λ job m t j p n vs at is reached answer stands.
    (let event = signal t j p n vs in
    signal_follows (task_at job.graph t).block job m t j p n vs at (line_sizes job t is (made_at job m t event answer).0.there) is reached.ran (made_at job m t event answer).0
    (c.turns_make_next_events.ensures.next job m t event is reached.ran reached.to_come answer)
    (owes_at job m t event answer) stands)

pub returns-clause-first_wait : goal.returns-clause-first_wait
returns-clause-first_wait c = λ job m t k p n outcomes at is reached answer stands.
    (let event = first_wait t k p n outcomes in
    first_wait_follows (task_at job.graph t).block (task_at job.graph t).block job m t k p n outcomes
    at (line_sizes job t is (made_at job m t event answer).0.there) is reached.ran
    (c.turns_make_next_events.ensures.next job m t event is reached.ran reached.to_come answer)
    (c.turns_make_next_events.ensures.keeps job m t event is reached.ran reached.to_come answer)
    (owes_at job m t event answer) stands)

pub returns-clause-exchange_wait : goal.returns-clause-exchange_wait
returns-clause-exchange_wait c = λ job m t p n outcome at is reached answer stands.
    (let event = exchange_wait t p n outcome in
    exchange_follows (task_at job.graph t).block (task_at job.graph t).block job m t p n outcome at
    (is.tasks t (made_at job m t event answer).0.there).block.some is reached.ran
    (c.turns_make_next_events.ensures.next job m t event is reached.ran reached.to_come answer)
    (c.turns_make_next_events.ensures.keeps job m t event is reached.ran reached.to_come answer)
    (owes_at job m t event answer) stands)
