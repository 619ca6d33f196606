-- By the state of the task, which was read at each look.
use Rattle.std.proofs.Common.{◌≡◌, ℤ, List, ◌<◌, length, true, ap, ◌∙◌, sym, arith}
use Rattle.std.proofs.lemmas.Bool.{eqb-true, eqb-false}
use Rattle.stream_lists.specs.Jobs.{with_samples}
use Rattle.graph_runs.specs.Moments.{Moment}
use Rattle.graph_runs.specs.Nexts.{is_live, next_of}
use Rattle.graph_runs.specs.Steps.{owed_of}
use Rattle.stream_job.specs.Machines.{IsMachineAt}
use Rattle.stream_job.proofs.NextSteps.{state_at, not_live_next, past_next, made_next, owed_next, next_for}
use Rattle.stream_job.proofs.Setting.{read_same}
use Rattle.stream_job.proofs.machine.Machine.next.Goals as goal
use Rattle.stream_job.proofs.machine.Machine.next.Goals.{After-is_empty, After-index-3, then-t-len-via-then-t-len, then-t-len-via-else-t-len+then-not-is_live}

pub returns-then-t-len : goal.returns-then-t-len
returns-then-t-len c = λ s m at awaits.
    let job = with_samples s c.args.job.now in
    let self = c.args.self.now in
    elim c.then-t-len.branch [
      | then-t-len-via-then-t-len w ↦ past_next job m c.args.t
          (let many : length self.tasks.items ≡ length job.graph.tasks = at.tasks_many in
          omega (arith, w.if-t-len.true))
      | then-t-len-via-else-t-len+then-not-is_live w ↦ not_live_next job m c.args.t
          (w.is_live.ensures s m (state_at job m self c.args.t w.index.result.now at
          (omega (arith, w.if-t-len.false)) w.index.ensures).stands
          ∙ w.if-not-is_live.true)
    ]

-- the task is live
lives : (c : After-is_empty) → (s : List (List ℤ)) (m : Moment)
    → IsMachineAt (with_samples s c.args.job.now) m c.args.self.now
    → is_live c.args.job.now m c.args.t ≡ true
lives c s m at =
    c.is_live.ensures s m (state_at (with_samples s c.args.job.now) m c.args.self.now c.args.t
    c.index.result.now at (omega (arith, c.if-t-len.false)) c.index.ensures).stands
    ∙ c.if-not-is_live.false

pub returns-then-not-is_empty : goal.returns-then-not-is_empty
returns-then-not-is_empty c = λ s m at awaits.
    let job = with_samples s c.args.job.now in
    let state = c.index-2.result.now in
    let some = eqb-false state.made.len 0 (sym c.is_empty.ensures ∙ c.if-not-is_empty.true) in
    made_next job m c.args.t state
    (state_at job m c.args.self.now c.args.t state at (omega (arith, c.if-t-len.false))
    c.index-2.ensures).stands
    (lives (goal.at.returns-then-not-is_empty c).After-is_empty s m at)
    (λ none. some (state.made.ok.0 ∙ none))

-- it has made nothing, and does what it owes
owes : (c : After-index-3) → (s : List (List ℤ)) (m : Moment)
    → is_live c.args.job.now m c.args.t ≡ true
    → IsMachineAt (with_samples s c.args.job.now) m c.args.self.now
    → next_of (with_samples s c.args.job.now) m c.args.t
    ≡ next_for (with_samples s c.args.job.now) m c.args.t (owed_of c.index-3.result.now.owed)
owes c s m live at =
    let job = with_samples s c.args.job.now in
    let tasks = c.args.self.now.tasks.items in
    let state = c.index-3.result.now in
    let none = eqb-true c.index-2.result.now.made.len 0
    (sym c.is_empty.ensures ∙ c.if-not-is_empty.false) in
    let there : c.args.t < length tasks = omega (arith, c.if-t-len.false) in
    let same = read_same tasks c.args.t c.index-2.result.now state there c.index-2.ensures
    c.index-3.ensures in
    owed_next job m c.args.t state
    (state_at job m c.args.self.now c.args.t state at there c.index-3.ensures).stands live
    (sym state.made.ok.0 ∙ sym (ap (λ x. x.made.len) same) ∙ none)

pub at_boundary-requires-clause-live : goal.at_boundary-requires-clause-live
at_boundary-requires-clause-live c =
    let s = c.requires.machine.0 in
    let m = c.requires.machine.1.0 in
    let at = c.requires.machine.1.1 in
    (s, (m, at, lives (goal.at.at_boundary-requires-clause-live c).After-is_empty s m at))

pub returns-in-Value : goal.returns-in-Value
returns-in-Value c = λ s m at awaits.
    let job = with_samples s c.args.job.now in
    let live = lives (goal.at.returns-in-Value c).After-is_empty s m at in
    owes (goal.at.returns-in-Value c).After-index-3 s m live at
    ∙ ap (λ o. next_for job m c.args.t (owed_of o)) c.in-Value.is

pub returns-in-Exchange : goal.returns-in-Exchange
returns-in-Exchange c = λ s m at awaits.
    let job = with_samples s c.args.job.now in
    let live = lives (goal.at.returns-in-Exchange c).After-is_empty s m at in
    owes (goal.at.returns-in-Exchange c).After-index-3 s m live at
    ∙ ap (λ o. next_for job m c.args.t (owed_of o)) c.in-Exchange.is

pub returns-in-Nothing : goal.returns-in-Nothing
returns-in-Nothing c = λ s m at awaits.
    let job = with_samples s c.args.job.now in
    let live = lives (goal.at.returns-in-Nothing c).After-is_empty s m at in
    owes (goal.at.returns-in-Nothing c).After-index-3 s m live at
    ∙ ap (λ o. next_for job m c.args.t (owed_of o)) c.in-Nothing.is
    ∙ c.at_boundary.ensures s m at awaits live
