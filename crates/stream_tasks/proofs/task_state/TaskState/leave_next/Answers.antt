-- It has ended, and its children are all there.
use Rattle.std.proofs.Common.{◌≡◌, ◌<◌, length, sym, subst, ap, ◌∙◌, arith, get_or}
use Rattle.std.specs.Vec.{with_item}
use Rattle.std.specs.Prelude.{set}
use Rattle.std.proofs.lemmas.List.{set-get_or}
use Rattle.graph_base.specs.Graphs.{task_at}
use Rattle.graph_base.specs.Registrations.{registrations_of, no_registration}
use Rattle.graph_runs.specs.TaskPlaces.{registration_at}
use Rattle.stream_tasks.specs.Tasks.{IsTask}
use Rattle.graph_runs.specs.Nexts.{registrations_at}
use Rattle.stream_tasks.proofs.EndingLemmas.{task_held, task_leaves}
use Rattle.stream_tasks.proofs.task_state.TaskState.leave_next.Goals as goal

pub returns-in-Ok : goal.returns-in-Ok
returns-in-Ok c = λ spots task.
    let s = c.args.self.now in
    let job = c.args.job.now in
    let t = s.number in
    let k = length s.lefts.items in
    let is : c.len-k.result ≡ k = c.len-k.ensures ∙ s.lefts.ok.0 in
    let long : s.holds.len ≡ length s.holds.items = s.holds.ok.0 in
    let many : length s.holds.items ≡ length (registrations_at job t) = task.whole.holds in
    let count : c.len.result ≡ s.holds.len = c.len.ensures in
    let past = c.if-k-len.false in
    let less : k < length (registrations_at job t) = omega arith in
    let here : (registration_at job t c.len-k.result).phaser ≡ c.registration-p.result.phaser =
    sym (ap (λ r. r.phaser) (c.registration-p.ensures
    ∙ ap (λ g. get_or (registrations_of g (task_at g t)) c.len-k.result no_registration) c.graph.ensures.graph)) in
    subst (λ i. IsTask job spots (record s { holds = with_item s.holds i c.leave.new.self; lefts = c.push_reserved.new.self }))
    (sym is)
    (task_leaves job spots s c.registration-p.result.phaser c.index_mut.result.now c.leave.new.self c.in-Ok.left
    c.push_reserved.new.self c.requires.met c.requires.over less
    (subst (λ i. (registration_at job t i).phaser ≡ c.registration-p.result.phaser) is here)
    (subst (λ i. c.index_mut.result.now ≡ get_or s.holds.items i c.index_mut.result.now) is c.index_mut.ensures.value)
    c.in-Ok.ensures.ok c.push_reserved.ensures.items
    (let cap : c.push_reserved.new.self.cap ≡ s.lefts.cap = c.push_reserved.ensures.capacity in omega arith) task)

-- it has left none
pub returns-in-Err : goal.returns-in-Err
returns-in-Err c = λ spots task.
    let s = c.args.self.now in
    let k = c.len-k.result in
    let old = c.index_mut.result.now in
    let same : c.leave.new.self ≡ get_or s.holds.items k old =
    c.in-Err.ensures.err ∙ c.index_mut.ensures.value in
    task_held c.args.job.now spots s (with_item s.holds k c.leave.new.self)
    (ap (λ h. set s.holds.items k h) same ∙ set-get_or s.holds.items k old) task
