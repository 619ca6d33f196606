-- A task that signals is held up before a value out of range, too.
use Rattle.std.proofs.Common.{◌||◌, ℤ, List, ap, ◌∙◌}
use Rattle.stream_lists.specs.Jobs.{with_samples}
use Rattle.graph_runs.specs.Nexts.{signals}
use Rattle.stream_job.specs.InRange.{is_blocked_before}
use Rattle.stream_job.specs.Machines.{MayHaveCome, next_by}
use Rattle.stream_job.specs.Stalls.{MakesNext}
use Rattle.stream_job.proofs.Lively.{live_next}
use Rattle.stream_job.proofs.machine.Machine.is_held_up.Goals as goal
use Rattle.stream_job.proofs.machine.Machine.is_held_up.Goals.{In-Signal}

-- it is live, and signals next
makes : (c : In-Signal) → (s : List (List ℤ))
    → MayHaveCome c.args.job.now c.args.self.now c.args.t c.args.awaits.now s
    → MakesNext (with_samples s c.args.job.now) c.args.self.now c.args.t
    (signals c.in-Signal.output)
makes c s came =
    let job = with_samples s c.args.job.now in
    record {
      some = came.stands;
      there = c.requires.task;
      live = λ m at. live_next job m c.args.t (signals c.in-Signal.output)
          (c.next.ensures s m at (came.awaits m at) ∙ ap next_by c.in-Signal.is)
          (λ e. absurd (cc));
      is = λ m at. c.next.ensures s m at (came.awaits m at) ∙ ap next_by c.in-Signal.is;
      sends = came.sends c.requires.task;
    }

pub is_blocked_before-requires : goal.is_blocked_before-requires
is_blocked_before-requires c =
    let came = c.requires.came in
    (came.0, makes (goal.at.is_blocked_before-requires c).In-Signal came.0 came.1)

pub returns-in-Signal : goal.returns-in-Signal
returns-in-Signal c = λ s m came at.
    let job = with_samples s c.args.job.now in
    ap (λ b. b || is_blocked_before job m c.args.t)
    (c.is_still.ensures s m came at ∙ c.if-is_still.false)
    ∙ c.is_blocked_before.ensures s m (makes (goal.at.returns-in-Signal c).In-Signal s came) at
