-- `until` allows the steps, and each child that comes later does.
use Rattle.std.proofs.Common.{◌≡◌, ℕ, ◌+◌, ◌<◌, ◌≤◌, false, Some, None, sym, ap, subst, ◌∙◌, arith}
use Rattle.std.specs.Prelude.{Option, slice_get}
use Rattle.graph_runs.specs.Moments.{AtMost}
use Rattle.graph_runs.specs.Nexts.{is_cut}
use Rattle.graph_base.specs.Graphs.{task_at}
use Rattle.graph_runs.specs.NextBlocks.{until_allows}
use Rattle.stream_tasks.proofs.Allowing.{within}
use Rattle.stream_tasks.proofs.task_state.TaskState.steps.Goals as goal

-- a step is left where `until` is not reached
left_some : (until : Option ℕ) (begun wanted : ℕ) → AtMost begun until
    → is_cut until begun ≡ false → 1 ≤ wanted → 1 ≤ until_allows until begun wanted
left_some None begun wanted high uncut some = some
left_some (Some until) begun wanted high uncut some =
    let most : begun ≤ until = high in
    let apart = uncut in
    grind (arith)

pub returns-clause-may : goal.returns-clause-may
returns-clause-may g c =
    let s = c.args.self.now in
    let job = c.args.job.now in
    let step = c.requires in
    let whole = step.task.whole in
    let at = (step.task.stands step.met).1 in
    let until = (task_at job.graph s.number).until in
    let cut : AtMost s.begun until =
    subst (λ n. AtMost n until) (at.place step.owed.2).begun at.part.ran.cut in
    let allowed : c.until_allows-steps.result ≡ until_allows until s.begun c.wanted.result =
    c.until_allows-steps.ensures ∙ ap (λ u. until_allows u s.begun c.wanted.result) c.until_of.ensures in
    let left = left_some until s.begun c.wanted.result cut step.uncut c.wanted.ensures.some in
    let some : 1 ≤ c.children_allow.result = c.children_allow.ensures.some (subst (λ n. 1 ≤ n) (sym allowed) left) in
    let few : c.children_allow.result ≤ until_allows until s.begun c.wanted.result =
    subst (λ n. c.children_allow.result ≤ n) allowed c.children_allow.ensures.few in
    record {
      cut = within until s.begun c.wanted.result c.children_allow.result few some;
      children = λ d u there parent by later.
          (let known = whole.children.all d u there parent by in
          let child = known.1.0 in
          let found = subst (λ l. slice_get l known.0 ≡ Some child) (sym c.deref.ensures.value) known.1.1 in
          subst (λ n. s.begun + c.children_allow.result ≤ n) known.1.3
          (c.children_allow.ensures.children known.0 child found (subst (λ n. s.begun < n) (sym known.1.3) later)));
    }
