-- By the state that was read.
use Rattle.std.proofs.Common.{◌≡◌, Some, slice_get, sym, ap, subst, ◌∙◌, arith}
use Rattle.std.proofs.lemmas.Option.{same_Some}
use Rattle.stream_lists.specs.Jobs.{with_samples}
use Rattle.graph_base.specs.Graphs.{task_at}
use Rattle.graph_runs.specs.Moments.{first_input}
use Rattle.graph_runs.specs.Steps.{owed_of}
use Rattle.graph_runs.specs.TaskPlaces.{nothing}
use Rattle.stream_job.specs.Passing.{goes_by_steps}
use Rattle.stream_job.specs.Places.{owed_in, place_in_state}
use Rattle.stream_job.specs.declared.task_state.TaskState.{TaskState}
use Rattle.stream_job.proofs.BareSteps.{read_at}
use Rattle.stream_job.proofs.ChildLists.{none_due_at}
use Rattle.stream_job.proofs.Ending.{cut_is}
use Rattle.stream_job.proofs.Signals.{none_items}
use Rattle.stream_job.proofs.machine.Machine.passes_from.Goals as goal

pub returns : goal.returns
returns c = λ s m at.
    let job = with_samples s c.args.job.now in
    let t = c.args.t in
    let tasks = c.args.self.now.tasks.items in
    let state = c.index-state.result.now in
    let found = read_at job m c.args.self.now t state at c.requires.task c.index-state.ensures in
    let it = at.tasks t state found in
    let none = none_items state.made (sym c.is_empty.ensures ∙ c.if-not-is_empty.false) in
    let one : (other : TaskState) → slice_get tasks t ≡ Some other → state ≡ other =
    λ other there. same_Some state other (sym found ∙ there) in
    let stays : state.left ≡ 0 = (let left = c.if-state-gt0.false in omega arith) in
    record {
      by_steps = ap goes_by_steps (sym c.kind_of.ensures) ∙ sym c.goes_by_steps.ensures
          ∙ c.if-not-goes_by_steps.false;
      live = c.is_live.ensures s m it.stands ∙ c.if-not-is_live.false;
      staying = λ other there. ap (λ x. x.left) (sym (one other there)) ∙ stays;
      nothing = λ other there. subst (λ x. owed_in x.owed x.made.items ≡ nothing)
          (one other there) (ap (owed_in state.owed) none ∙ ap owed_of c.in-Nothing.is);
      none_due = none_due_at c.args.job.now m t state.begun it.stands.begun
          (c.is_quiet.ensures c.if-not-is_quiet.false);
      uncut = cut_is job m t (place_in_state state) it.stands c.until_of.result c.until_of.ensures
          ∙ sym c.is_cut.ensures ∙ c.if-is_cut.false;
      first = c.first_input_of.ensures.input
          ∙ ap (first_input (task_at job.graph t)) (sym it.stands.begun);
    }
