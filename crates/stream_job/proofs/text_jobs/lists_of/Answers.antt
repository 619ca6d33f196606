use Rattle.std.proofs.Common.{arith, ◌≤◌, length, ap}
use Rattle.std.proofs.lemmas.List.Elements.{All-push}
use Rattle.phase_accum.specs.Sends.{AreSends}
use Rattle.graph_lang.specs.declared.sample.TheConstants.{TEXT_MAX}
use Rattle.stream_job.proofs.text_jobs.lists_of.Goals as goal

-- one more list
pub loop-text-preserved : goal.loop-text-preserved
loop-text-preserved c =
    let lists = c.loop-text.lists.items in
    let list = c.in_ok-samples_of.field-0 in
    let values = c.in_ok-samples_of.ensures.values in
    let few : length list.items ≤ TEXT_MAX =
    omega (arith, values.1, ap length c.as_bytes.ensures.value) in
    rw c.in_ok-push.ensures.items (
      All-push (λ l. AreSends l.items) lists list c.loop-text.invariant.0 values.0,
      All-push (λ l. length l.items ≤ TEXT_MAX) lists list c.loop-text.invariant.1 few,
    )
