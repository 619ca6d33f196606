-- A live task's turn is blocked where its next call is.
use Rattle.std.proofs.Common.{ℤ, List, true, cond, ap, ◌∙◌}
use Rattle.stream_lists.specs.Jobs.{with_samples}
use Rattle.graph_runs.specs.Nexts.{next_of}
use Rattle.stream_job.specs.Stepping.{would_block}
use Rattle.stream_job.specs.Machines.{MayHaveCome, next_by}
use Rattle.stream_job.specs.Stalls.{MakesNext}
use Rattle.stream_job.proofs.machine.Machine.is_still.Goals as goal
use Rattle.stream_job.proofs.machine.Machine.is_still.Goals.{After-next}

pub returns-then-not-is_live : goal.returns-then-not-is_live
returns-then-not-is_live c = λ s m came at.
    let job = with_samples s c.args.job.now in
    ap (λ b. cond b (would_block job m c.args.t (next_of job m c.args.t)) true)
    (c.is_live.ensures s m (c.state.ensures s m at).stands ∙ c.if-not-is_live.true)

makes : (c : After-next) → (s : List (List ℤ))
    → MayHaveCome c.args.job.now c.args.self.now c.args.t c.args.awaits.now s
    → MakesNext (with_samples s c.args.job.now) c.args.self.now c.args.t (next_by c.next.result)
makes c s came = record {
  some = came.stands;
  there = c.requires.task;
  live = λ m at. c.is_live.ensures s m (c.state.ensures s m at).stands ∙ c.if-not-is_live.false;
  is = λ m at. c.next.ensures s m at (came.awaits m at);
  sends = came.sends c.requires.task;
}

pub step_blocks-requires-clause-next : goal.step_blocks-requires-clause-next
step_blocks-requires-clause-next c =
    let s = c.requires.came.0 in
    let came = c.requires.came.1 in
    (s, came, makes (goal.at.step_blocks-requires-clause-next c).After-next s came)

pub returns : goal.returns
returns c = λ s m came at.
    let job = with_samples s c.args.job.now in
    let made = makes (goal.at.returns c).After-next s came in
    ap (λ b. cond b (would_block job m c.args.t (next_of job m c.args.t)) true) (made.live m at)
    ∙ ap (would_block job m c.args.t) (made.is m at)
    ∙ c.step_blocks.ensures s m came made at
