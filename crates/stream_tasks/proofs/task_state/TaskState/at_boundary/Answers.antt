-- `until` allows a step or not.
use Rattle.std.proofs.Common.{◌≡◌, true, sym, ap, ◌∙◌}
use Rattle.graph_base.specs.Graphs.{task_at}
use Rattle.graph_runs.specs.Nexts.{is_cut}
use Rattle.graph_runs.proofs.TellsNext.{ended_cut}
use Rattle.stream_tasks.specs.Tasks.{place_of_state}
use Rattle.stream_tasks.specs.Children.{MayStep}
use Rattle.stream_tasks.proofs.EndingLemmas.{at_end, all_now}
use Rattle.stream_tasks.proofs.Keeping.{owed_none}
use Rattle.stream_tasks.proofs.task_state.TaskState.at_boundary.Goals as goal

pub returns-then-is_cut : goal.returns-then-is_cut
returns-then-is_cut g c = λ spots task.
    let s = c.args.self.now in
    let job = c.args.job.now in
    let cut : is_cut (task_at job.graph s.number).until s.begun ≡ true =
    ap (λ u. is_cut u s.begun) (sym c.until_of.ensures) ∙ sym c.is_cut.ensures ∙ c.if-is_cut.true in
    at_end job spots s c.requires.met c.requires.owed
    (all_now job s task.whole c.requires.children)
    (λ m at. ended_cut job m s.number (place_of_state s) task.whole.there at.part (at.place c.requires.owed.2)
    (owed_none s c.requires.owed) cut) task

pub put_samples-requires-clause-step : goal.put_samples-requires-clause-step
put_samples-requires-clause-step g c =
    let s = c.args.self.now in
    let job = c.args.job.now in
    let step : MayStep job s = record {
      spots = c.requires.task.0;
      task = c.requires.task.1;
      met = c.requires.met;
      over = c.requires.over;
      owed = c.requires.owed;
      uncut = ap (λ u. is_cut u s.begun) (sym c.until_of.ensures) ∙ sym c.is_cut.ensures ∙ c.if-is_cut.false;
      children = all_now job s c.requires.task.1.whole c.requires.children;
    } in
    step

pub first_wait-requires-clause-step : goal.first_wait-requires-clause-step
first_wait-requires-clause-step g c =
    let s = c.args.self.now in
    let job = c.args.job.now in
    let step : MayStep job s = record {
      spots = c.requires.task.0;
      task = c.requires.task.1;
      met = c.requires.met;
      over = c.requires.over;
      owed = c.requires.owed;
      uncut = ap (λ u. is_cut u s.begun) (sym c.until_of.ensures) ∙ sym c.is_cut.ensures ∙ c.if-is_cut.false;
      children = all_now job s c.requires.task.1.whole c.requires.children;
    } in
    step

pub take_deal-requires-clause-step : goal.take_deal-requires-clause-step
take_deal-requires-clause-step g c =
    let s = c.args.self.now in
    let job = c.args.job.now in
    let step : MayStep job s = record {
      spots = c.requires.task.0;
      task = c.requires.task.1;
      met = c.requires.met;
      over = c.requires.over;
      owed = c.requires.owed;
      uncut = ap (λ u. is_cut u s.begun) (sym c.until_of.ensures) ∙ sym c.is_cut.ensures ∙ c.if-is_cut.false;
      children = all_now job s c.requires.task.1.whole c.requires.children;
    } in
    step

pub take_kept-requires-clause-step : goal.take_kept-requires-clause-step
take_kept-requires-clause-step g c =
    let s = c.args.self.now in
    let job = c.args.job.now in
    let step : MayStep job s = record {
      spots = c.requires.task.0;
      task = c.requires.task.1;
      met = c.requires.met;
      over = c.requires.over;
      owed = c.requires.owed;
      uncut = ap (λ u. is_cut u s.begun) (sym c.until_of.ensures) ∙ sym c.is_cut.ensures ∙ c.if-is_cut.false;
      children = all_now job s c.requires.task.1.whole c.requires.children;
    } in
    step

pub begin_join-requires-clause-step : goal.begin_join-requires-clause-step
begin_join-requires-clause-step g c =
    let s = c.args.self.now in
    let job = c.args.job.now in
    let step : MayStep job s = record {
      spots = c.requires.task.0;
      task = c.requires.task.1;
      met = c.requires.met;
      over = c.requires.over;
      owed = c.requires.owed;
      uncut = ap (λ u. is_cut u s.begun) (sym c.until_of.ensures) ∙ sym c.is_cut.ensures ∙ c.if-is_cut.false;
      children = all_now job s c.requires.task.1.whole c.requires.children;
    } in
    step
