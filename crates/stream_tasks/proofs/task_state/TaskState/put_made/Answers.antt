-- The values are those that it has made.
use Rattle.std.proofs.Common.{◌≡◌, inr, length, sym, refl, subst, ap, ◌∙◌, arith}
use Rattle.graph_base.specs.Graphs.{phaser_at}
use Rattle.stream_tasks.specs.Holds.{HoldGoesOn, MemberHasSignalled}
use Rattle.stream_tasks.proofs.Turning.{task_sees, task_puts, has_send_places, held, makes_many, owed_output, output_on, owes_made, put_all_owes, made_fits}
use Rattle.stream_tasks.proofs.task_state.TaskState.put_made.Goals as goal

pub output_of-k-requires-clause-output : goal.output_of-k-requires-clause-output
output_of-k-requires-clause-output c =
    let task = c.requires.task in
    let s = c.args.self.now in
    owed_output c.args.job.now task.0 s 0 s.made.items c.requires.met (owes_made s c.requires.made) task.1

pub index_mut-requires : goal.index_mut-requires
index_mut-requires c =
    let task = c.requires.task in
    let s = c.args.self.now in
    let less = owed_output c.args.job.now task.0 s 0 s.made.items c.requires.met (owes_made s c.requires.made) task.1 in
    let on = output_on c.args.job.now s 0 c.output_of-k.result.0 c.output_of-k.result.1 task.1.whole less
    c.output_of-k.ensures.registration c.output_of-k.ensures.phaser in
    omega (arith, task.1.whole.holds, s.holds.ok.0, on.0)

-- there are places for what was made
pub put_all-requires : goal.put_all-requires
put_all-requires c =
    let spots = c.requires.task.0 in
    let task = c.requires.task.1 in
    let job = c.args.job.now in
    let s = c.args.self.now in
    let hold = c.index_mut.result.now in
    let made = c.deref.result.now in
    let k = c.output_of-k.result.0 in
    let p = c.output_of-k.result.1 in
    let m = (task.stands c.requires.met).0 in
    let at = (task.stands c.requires.met).1 in
    let less = owed_output job spots s 0 s.made.items c.requires.met (owes_made s c.requires.made) task in
    let on = output_on job s 0 k p task.whole less c.output_of-k.ensures.registration c.output_of-k.ensures.phaser in
    let none : length s.lefts.items ≡ 0 = task.whole.staying c.requires.over in
    let same : length made ≡ length s.made.items = ap length c.deref.ensures.value in
    let few = task.whole.places.few_made in
    has_send_places job spots m s p (length made) hold
    (held job spots m s k p hold task.whole at on.0 on.1 (omega arith) c.index_mut.ensures.value)
    c.output_of-k.ensures.phaser (inr (makes_many job s task.whole c.requires.made)) task.whole.places
    (omega arith)

pub returns-in-Ok : goal.returns-in-Ok
returns-in-Ok c = λ spots task.
    let job = c.args.job.now in
    let s = c.args.self.now in
    let k = c.output_of-k.result.0 in
    let p = c.output_of-k.result.1 in
    let made = c.clear.new.self in
    let owes = owes_made s c.requires.made in
    let less = owed_output job spots s 0 s.made.items c.requires.met owes task in
    let on = output_on job s 0 k p task.whole less c.output_of-k.ensures.registration c.output_of-k.ensures.phaser in
    task_puts job spots s 0 k p s.made.items c.index_mut.result.now c.put_all.new.self s.owed made
    c.put_all.new.places on.0 on.1 (sym c.output_of-k.ensures.phaser) c.requires.over owes
    (put_all_owes job s made task.whole c.requires.made c.clear.ensures.items)
    (made_fits job s made c.put_all.new.places task.whole c.clear.ensures.items c.clear.ensures.capacity
    c.put_all.ensures.places)
    c.index_mut.ensures.value
    (subst (λ l. HoldGoesOn (MemberHasSignalled l (phaser_at job.graph p).single) c.index_mut.result.now c.put_all.new.self)
    c.deref.ensures.value
    (subst (λ o. HoldGoesOn (MemberHasSignalled c.deref.result.now o) c.index_mut.result.now c.put_all.new.self)
    (ap (λ l. l.single) (c.phaser.ensures.phaser ∙ ap (λ g. phaser_at g p) c.graph.ensures.graph)) c.in-Ok.ensures.ok))
    task

pub returns-in-Err : goal.returns-in-Err
returns-in-Err c = λ spots task.
    let job = c.args.job.now in
    let s = c.args.self.now in
    let k = c.output_of-k.result.0 in
    let p = c.output_of-k.result.1 in
    let less = owed_output job spots s 0 s.made.items c.requires.met (owes_made s c.requires.made) task in
    let on = output_on job s 0 k p task.whole less c.output_of-k.ensures.registration c.output_of-k.ensures.phaser in
    let none : length s.lefts.items ≡ 0 = task.whole.staying c.requires.over in
    task_sees job spots s k p c.index_mut.result.now c.put_all.new.self s.lines s.entered s.outcomes c.put_all.new.places
    refl c.put_all.ensures.places on.0 on.1 (omega arith) c.index_mut.ensures.value refl c.in-Err.ensures.err task
