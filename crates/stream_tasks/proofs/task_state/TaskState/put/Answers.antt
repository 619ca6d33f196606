-- The value is that which is owed.
use Rattle.std.proofs.Common.{◌≡◌, length, sym, refl, subst, ap, ◌∙◌, arith, to_z-of_z, to_z, of_z, w64}
use Rattle.std.specs.Prelude.{[], ◌∷◌}
use Rattle.graph_runs.specs.TaskPlaces.{owed_after_signal}
use Rattle.graph_runs.specs.Steps.{owed_of}
use Rattle.graph_base.specs.Graphs.{task_at, phaser_at}
use Rattle.stream_tasks.specs.Holds.{HoldGoesOn, MemberHasSignalled}
use Rattle.stream_tasks.specs.Tasks.{owed_by}
use Rattle.stream_tasks.proofs.Turning.{task_sees, task_puts, owed_output, output_on, owes_value, value_fits}
use Rattle.stream_tasks.proofs.task_state.TaskState.put.Goals as goal

pub output_of-k-requires-clause-output : goal.output_of-k-requires-clause-output
output_of-k-requires-clause-output c =
    let task = c.requires.task in
    let s = c.args.self.now in
    owed_output c.args.job.now task.0 s c.args.output (c.args.value ∷ []) c.requires.met
    (owes_value s c.args.output c.args.value c.requires.owed c.requires.none_made) task.1

pub index_mut-requires : goal.index_mut-requires
index_mut-requires c =
    let task = c.requires.task in
    let s = c.args.self.now in
    let less = owed_output c.args.job.now task.0 s c.args.output (c.args.value ∷ []) c.requires.met
    (owes_value s c.args.output c.args.value c.requires.owed c.requires.none_made) task.1 in
    let on = output_on c.args.job.now s c.args.output c.output_of-k.result.0 c.output_of-k.result.1 task.1.whole less
    c.output_of-k.ensures.registration c.output_of-k.ensures.phaser in
    omega (arith, task.1.whole.holds, s.holds.ok.0, on.0)

pub returns-in-Ok : goal.returns-in-Ok
returns-in-Ok c = λ spots task.
    let job = c.args.job.now in
    let s = c.args.self.now in
    let j = c.args.output in
    let v = c.args.value in
    let k = c.output_of-k.result.0 in
    let p = c.output_of-k.result.1 in
    let owes = owes_value s j v c.requires.owed c.requires.none_made in
    let less = owed_output job spots s j (v ∷ []) c.requires.met owes task in
    let on = output_on job s j k p task.whole less c.output_of-k.ensures.registration c.output_of-k.ensures.phaser in
    task_puts job spots s j k p (v ∷ []) c.index_mut.result.now c.put.new.self c.owed_after_signal-self.result
    s.made s.places on.0 on.1 (sym c.output_of-k.ensures.phaser) c.requires.over owes
    (ap (λ l. owed_by c.owed_after_signal-self.result l) c.requires.none_made
    ∙ subst (λ y. owed_of c.owed_after_signal-self.result ≡ owed_after_signal (task_at job.graph s.number) j (y ∷ []))
    (to_z-of_z c.ranges.value) c.owed_after_signal-self.ensures)
    (value_fits job s j v c.owed_after_signal-self.result task.whole c.requires.owed)
    c.index_mut.ensures.value
    (subst (λ y. HoldGoesOn (MemberHasSignalled (y ∷ []) (phaser_at job.graph p).single) c.index_mut.result.now c.put.new.self)
    (to_z-of_z c.ranges.value)
    (subst (λ o. HoldGoesOn (MemberHasSignalled (to_z w64 (of_z w64 v) ∷ []) o) c.index_mut.result.now c.put.new.self)
    (ap (λ l. l.single) (c.phaser.ensures.phaser ∙ ap (λ g. phaser_at g p) c.graph.ensures.graph)) c.in-Ok.ensures.ok))
    task

pub returns-in-Err : goal.returns-in-Err
returns-in-Err c = λ spots task.
    let job = c.args.job.now in
    let s = c.args.self.now in
    let j = c.args.output in
    let v = c.args.value in
    let k = c.output_of-k.result.0 in
    let p = c.output_of-k.result.1 in
    let less = owed_output job spots s j (v ∷ []) c.requires.met
    (owes_value s j v c.requires.owed c.requires.none_made) task in
    let on = output_on job s j k p task.whole less c.output_of-k.ensures.registration c.output_of-k.ensures.phaser in
    let none : length s.lefts.items ≡ 0 = task.whole.staying c.requires.over in
    task_sees job spots s k p c.index_mut.result.now c.put.new.self s.lines s.entered s.outcomes s.places
    refl (λ op. refl) on.0 on.1 (omega arith) c.index_mut.ensures.value refl c.in-Err.ensures.err task
