-- The values are the next samples.
use Rattle.std.proofs.Common.{◌≡◌, ◌<◌, ◌≤◌, ◌+◌, ◌-◌, inl, false, length, refl, sym, subst, ap, ◌∙◌, arith, rules}
use Rattle.std.specs.Prelude.{take, drop, min}
use Rattle.std.proofs.lemmas.List.{length-take-le, length-drop}
use Rattle.graph_base.specs.Graphs.{task_at, phaser_at}
use Rattle.graph_base.specs.Registrations.{signalled_by}
use Rattle.stream_lists.specs.Jobs.{samples_at}
use Rattle.graph_runs.proofs.TellsNext.{ended_no_sample}
use Rattle.stream_tasks.specs.Holds.{HoldGoesOn, MemberHasSignalled}
use Rattle.stream_tasks.specs.Tasks.{place_of_state}
use Rattle.stream_tasks.proofs.Keeping.{owed_none}
use Rattle.stream_tasks.proofs.Turning.{task_sees, has_send_places, held, output_on}
use Rattle.stream_tasks.proofs.Waiting.{task_samples, makes_fewer}
use Rattle.stream_tasks.proofs.EndingLemmas.{at_end}
use Rattle.stream_tasks.proofs.task_state.TaskState.put_samples.Goals as goal

pub returns-then-begun-samples : goal.returns-then-begun-samples
returns-then-begun-samples g c = λ spots task.
    let s = c.args.self.now in
    let job = c.args.job.now in
    let step = c.requires.step in
    let past : length (samples_at job s.number) ≤ s.begun =
    subst (λ l. length l ≤ s.begun) task.whole.samples c.if-begun-samples.true in
    at_end job spots s step.met step.owed step.children
    (λ m at. ended_no_sample job m s.number (place_of_state s) task.whole.there at.part (at.place step.owed.2)
    (owed_none s step.owed) c.requires.kind past) task

-- there are places for the next samples
pub put_all-requires : goal.put_all-requires
put_all-requires g c =
    let s = c.args.self.now in
    let job = c.args.job.now in
    let step = c.requires.step in
    let task = step.task in
    let hold = c.index_mut.result.now in
    let k = c.output_of-k.result.0 in
    let p = c.output_of-k.result.1 in
    let n = c.min-steps.result in
    let xs = s.samples.now in
    let vs = take (s.begun + n - s.begun) (drop s.begun xs) in
    let m = (task.stands step.met).0 in
    let at = (task.stands step.met).1 in
    let some : 0 < length (signalled_by (task_at job.graph s.number)) = search rules in
    let on = output_on job s 0 k p task.whole some c.output_of-k.ensures.registration c.output_of-k.ensures.phaser in
    let none : length s.lefts.items ≡ 0 = task.whole.staying step.over in
    let least : n ≡ min c.steps.result (length xs - s.begun) = c.min-steps.ensures in
    let rest = length-drop s.begun xs in
    let long : length vs ≡ s.begun + n - s.begun =
    length-take-le (s.begun + n - s.begun) (drop s.begun xs) (omega arith) in
    let few : c.steps.result ≤ s.most = c.steps.ensures.few in
    has_send_places job step.spots m s p (length vs) hold
    (held job step.spots m s k p hold task.whole at on.0 on.1 (omega arith) c.index_mut.ensures.value)
    c.output_of-k.ensures.phaser (inl c.requires.kind) task.whole.places (omega arith)

pub returns-in-Ok : goal.returns-in-Ok
returns-in-Ok g c = λ spots task.
    let s = c.args.self.now in
    let job = c.args.job.now in
    let step = c.requires.step in
    let k = c.output_of-k.result.0 in
    let p = c.output_of-k.result.1 in
    let n = c.min-steps.result in
    let xs = s.samples.now in
    let vs = take (s.begun + n - s.begun) (drop s.begun xs) in
    let left : s.begun < length xs = c.if-begun-samples.false in
    let least : n ≡ min c.steps.result (length xs - s.begun) = c.min-steps.ensures in
    let rest = length-drop s.begun xs in
    let steps : s.begun + n - s.begun ≡ n = omega arith in
    let long : length vs ≡ s.begun + n - s.begun =
    length-take-le (s.begun + n - s.begun) (drop s.begun xs) (omega arith) in
    let some : 0 < length (signalled_by (task_at job.graph s.number)) = search rules in
    let on = output_on job s 0 k p task.whole some c.output_of-k.ensures.registration c.output_of-k.ensures.phaser in
    task_samples job spots s k p (s.begun + n) vs c.index_mut.result.now c.put_all.new.self false
    c.put_all.new.places c.put_all.ensures.places on.0 on.1 (sym c.output_of-k.ensures.phaser) step c.requires.kind (omega arith)
    (ap (λ l. take l (drop s.begun xs)) (sym long)
    ∙ ap (λ l. take (length vs) (drop s.begun l)) task.whole.samples)
    (makes_fewer job s.number s.begun c.steps.result (length vs) (omega arith) c.steps.ensures.may)
    c.index_mut.ensures.value
    (subst (λ o. HoldGoesOn (MemberHasSignalled vs o) c.index_mut.result.now c.put_all.new.self)
    (ap (λ l. l.single) (c.phaser.ensures.phaser ∙ ap (λ x. phaser_at x p) c.graph.ensures.graph)) c.in-Ok.ensures.ok)
    task

pub returns-in-Err : goal.returns-in-Err
returns-in-Err g c = λ spots task.
    let s = c.args.self.now in
    let job = c.args.job.now in
    let k = c.output_of-k.result.0 in
    let p = c.output_of-k.result.1 in
    let some : 0 < length (signalled_by (task_at job.graph s.number)) = search rules in
    let on = output_on job s 0 k p task.whole some c.output_of-k.ensures.registration c.output_of-k.ensures.phaser in
    let none : length s.lefts.items ≡ 0 = task.whole.staying c.requires.step.over in
    task_sees job spots s k p c.index_mut.result.now c.put_all.new.self s.lines c.enter.new.entered
    s.outcomes c.put_all.new.places refl c.put_all.ensures.places
    on.0 on.1 (omega arith) c.index_mut.ensures.value refl c.in-Err.ensures.err task
