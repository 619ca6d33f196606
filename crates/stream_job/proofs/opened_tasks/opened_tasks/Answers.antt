-- The state that was made stands behind those before it.
use Rattle.std.proofs.Common.{◌≡◌, ℕ, ◌+◌, ◌≤◌, [], ◌∷◌, ◌++◌, length, sym, ap, subst, ◌∙◌, arith}
use Rattle.std.specs.Prelude.{slice_get}
use Rattle.std.specs.List.{filter, range_with_len}
use Rattle.std.proofs.lemmas.List.{length-append}
use Rattle.stream_lists.specs.Lists.{is_sink_at}
use Rattle.stream_lists.proofs.Firsts.{filter-skip, filter-take}
use Rattle.stream_lists.proofs.Basics.{each-push}
use Rattle.graph_base.specs.Graphs.{is_sink, task_at}
use Rattle.stream_job.specs.Places.{IsOpened}
use Rattle.stream_job.proofs.opened_tasks.opened_tasks.Goals as goal
use Rattle.stream_job.proofs.opened_tasks.opened_tasks.Goals.{then-is_sink, else-is_sink}

pub loop-t-preserved : goal.loop-t-preserved
loop-t-preserved c =
    let job = c.args.job.now in
    let t : ℕ = c.loop-t.t in
    let tasks = c.loop-t.tasks.items in
    let one = c.in_ok-opened_task.field-0 in
    let items : c.push.new.self.items ≡ tasks ++ one ∷ [] = c.in_ok-push.ensures.items in
    let many : length tasks ≡ t = c.loop-t.invariant.0 in
    let more = length-append tasks (one ∷ []) in
    let long : length c.push.new.self.items ≡ length (tasks ++ one ∷ []) = ap length items in
    let here : IsOpened c.args.own job (length tasks) one =
    subst (λ u. IsOpened c.args.own job u one) (sym many) c.in_ok-opened_task.ensures in
    let all = each-push (IsOpened c.args.own job) tasks one c.loop-t.invariant.1 here in
    let count = c.loop-t.invariant.2 in
    let few = c.loop-t.invariant.3 in
    let same = ap (λ graph. is_sink (task_at graph t).kind) (sym c.graph-in-loop-t.ensures.graph) in
    let sinks : (c.if-is_sink.sinks
    ≡ length (filter (is_sink_at job) (range_with_len 0 (t + 1))))
    × (c.if-is_sink.sinks ≤ t + 1) =
    elim c.if-is_sink.branch [
      | then-is_sink w ↦
          (let taken = ap length
          (filter-take (is_sink_at job) t (same ∙ sym c.is_sink.ensures ∙ w.if-is_sink.true)) in
          let longer = length-append (filter (is_sink_at job) (range_with_len 0 t)) (t ∷ []) in
          let is = w.sinks-is in
          (omega arith, omega arith))
      | else-is_sink w ↦
          (let taken = ap length
          (filter-skip (is_sink_at job) t (same ∙ sym c.is_sink.ensures ∙ w.if-is_sink.false)) in
          let is = w.sinks-is in
          (omega arith, omega arith))
    ] in (
      omega arith,
      λ u state e. all u state (ap (λ l. slice_get l u) (sym items) ∙ e),
      sinks.0,
      sinks.1,
    )
