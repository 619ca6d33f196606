-- A task that is registered on all its phasers is live until it has left them all.
use Rattle.std.proofs.Common.{◌≡◌, ◌&&◌, length, is_some, nat_lt, not, true, ap, ◌∙◌, sym}
use Rattle.std.proofs.Math.Bool.{and-false}
use Rattle.stream_lists.specs.Jobs.{with_samples}
use Rattle.graph_runs.specs.Nexts.{first_missing, first_kept}
use Rattle.stream_job.specs.Places.{place_in_state}
use Rattle.stream_job.proofs.Reading.{live_by, complete}
use Rattle.stream_job.proofs.task_state.TaskState.is_live.Goals as goal

pub returns-then-is_registered : goal.returns-then-is_registered
returns-then-is_registered c = λ s m stands.
    live_by (with_samples s c.args.job.now) m c.args.t (place_in_state c.args.self.now) stands c.requires
    (complete (with_samples s c.args.job.now) m c.args.t (place_in_state c.args.self.now) stands
    (c.is_registered.ensures s m stands ∙ ap not c.if-is_registered.true))
    ∙ ap (nat_lt c.args.self.now.left) (sym c.len.ensures.value)

pub returns-else-is_registered : goal.returns-else-is_registered
returns-else-is_registered c = λ s m stands.
    let job = c.args.job.now in
    let there = nat_lt c.args.t (length job.graph.tasks) in
    let kept = is_some (first_kept job m c.args.t) in
    let missing : is_some (first_missing job m c.args.t) ≡ true =
    c.is_registered.ensures s m stands ∙ ap not c.if-is_registered.false in
    ap (λ b. there && not b && kept) missing ∙ ap (λ b. b && kept) (and-false there)
    ∙ sym c.if-is_registered.false
