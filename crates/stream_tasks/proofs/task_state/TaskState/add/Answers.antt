-- The parent's moment serves the child after each answer.
use Rattle.std.proofs.Common.{◌≡◌, ◌<◌, ℕ, Bool, Some, [], ◌∷◌, ◌++◌, length, get_or, sym, subst, ap, ◌∙◌, arith}
use Rattle.std.specs.Prelude.{slice_get}
use Rattle.std.proofs.lemmas.Option.{slice_get_within, slice_get-get_or, same_Some}
use Rattle.graph_base.specs.Graphs.{Graph, Task, task_at}
use Rattle.stream_lists.specs.Jobs.{Job}
use Rattle.stream_members.specs.AnyMembers.{member_in}
use Rattle.graph_runs.specs.TaskPlaces.{registration_at}
use Rattle.stream_tasks.specs.declared.child.Child.{Child}
use Rattle.stream_tasks.specs.declared.task_state.TaskState.{TaskState}
use Rattle.stream_tasks.proofs.StillRegistering.{registering_waits, registering_adds, next_now, whole_keeps, adds_goes}
use Rattle.stream_tasks.proofs.task_state.TaskState.add.Goals as goal

-- the child that stands at its place
child_is : (s : TaskState) (i : ℕ) (kid x : Child) → slice_get s.children.items i ≡ Some kid
    → x ≡ get_or s.children.items i x → x ≡ kid
child_is s i kid x found looked =
    let few = slice_get_within s.children.items i kid found in
    same_Some x kid
    (ap Some looked ∙ sym (slice_get-get_or s.children.items i x few) ∙ found)

-- whether it joins now, as the code reads it
joins_as : (job : Job) (kid x : Child) (g : Graph) (task : Task) (joins : Bool) → x ≡ kid
    → g ≡ job.graph → task ≡ task_at g x.task → task.joins_now ≡ joins
    → (task_at job.graph kid.task).joins_now ≡ joins
joins_as job kid x g task joins is graph read e =
    ap (λ (y : Child). (task_at job.graph y.task).joins_now) (sym is)
    ∙ ap (λ (h : Graph). (task_at h x.task).joins_now) (sym graph)
    ∙ ap (λ (y : Task). y.joins_now) (sym read) ∙ e

pub index-requires : goal.index-requires
index-requires c =
    let s = c.args.self.now in
    let n = c.requires.next.1.registering in
    omega (arith, slice_get_within s.children.items c.args.i n.kid n.found, s.children.ok.0)

pub task-requires : goal.task-requires
task-requires c =
    let n = c.requires.next.1.registering in
    let is = child_is c.args.self.now c.args.i n.kid c.index.result.now n.found c.index.ensures in
    subst (λ (g : Graph). c.index.result.now.task < length g.tasks) (sym c.graph.ensures.graph)
    (subst (λ (x : Child). x.task < length c.args.job.now.graph.tasks) (sym is) n.child.there)

pub add_now-requires-clause-next : goal.add_now-requires-clause-next
add_now-requires-clause-next c =
    let job = c.args.job.now in
    let s = c.args.self.now in
    let next = c.requires.next.1 in
    let n = next.registering in
    let is = child_is s c.args.i n.kid c.index.result.now n.found c.index.ensures in
    let joins = joins_as job n.kid c.index.result.now c.graph.result.now _ _ is
    c.graph.ensures.graph c.task.ensures.task c.if-task.true in (
      job,
      c.requires.next.0,
      c.requires.whole,
      next_now job c.requires.next.0 s c.args.i c.args.k c.args.registration c.requires.whole next
          joins,
    )

pub returns-then-task-clause-registering : goal.returns-then-task-clause-registering
returns-then-task-clause-registering c = λ spots next.
    let job = c.args.job.now in
    let s = c.args.self.now in
    let n = next.registering in
    let is = child_is s c.args.i n.kid c.index.result.now n.found c.index.ensures in
    let joins = joins_as job n.kid c.index.result.now c.graph.result.now _ _ is
    c.graph.ensures.graph c.task.ensures.task c.if-task.true in
    c.add_now.ensures.registering job spots c.requires.whole
    (next_now job spots s c.args.i c.args.k c.args.registration c.requires.whole next joins)

pub keep-requires-clause-child : goal.keep-requires-clause-child
keep-requires-clause-child c =
    let n = c.requires.next.1.registering in
    slice_get_within c.args.self.now.children.items c.args.i n.kid n.found

pub returns-in-Ok-clause-whole : goal.returns-in-Ok-clause-whole
returns-in-Ok-clause-whole c =
    let job = c.args.job.now in
    rw c.keep.ensures.rest
    (whole_keeps job c.args.self.now c.args.i c.args.k c.add.new.self c.keep.new.self.children
    c.keep.new.self.child_holds c.keep.ensures.before c.keep.ensures.kid c.requires.whole
    c.keep.ensures.found c.keep.ensures.kids c.keep.ensures.task c.keep.ensures.at)

pub returns-in-Ok-clause-registering : goal.returns-in-Ok-clause-registering
returns-in-Ok-clause-registering c = λ spots next.
    let job = c.args.job.now in
    let s = c.args.self.now in
    let n = next.registering in
    let r = registration_at job n.kid.task (length n.kid.numbers.items) in
    let same : c.keep.ensures.before ≡ n.kid =
    same_Some c.keep.ensures.before n.kid (sym c.keep.ensures.found ∙ n.found) in
    let is = child_is s c.args.i n.kid c.index.result.now n.found c.index.ensures in
    let stays = joins_as job n.kid c.index.result.now c.graph.result.now _ _ is
    c.graph.ensures.graph c.task.ensures.task c.if-task.false in
    let goes = adds_goes c.args.registration.mode c.index_mut.result.now c.add.new.self
    c.in-Ok.member c.in-Ok.ensures.ok in
    rw c.keep.ensures.rest
    (registering_adds job spots s c.args.i c.args.k c.index_mut.result.now c.add.new.self
    c.in-Ok.member c.keep.ensures.kid c.keep.new.self.children c.keep.new.self.child_holds
    c.requires.whole n stays next.room next.on.few (next.on.here ∙ ap (λ x. x.phaser) next.is)
    c.index_mut.ensures.value (rw (ap (λ x. x.mode) next.is) at goes) c.keep.ensures.kids
    (c.keep.ensures.task ∙ ap (λ (x : Child). x.task) same)
    (c.keep.ensures.numbers
    ∙ ap (λ (x : Child). x.numbers.items ++ (member_in c.in-Ok.member).number ∷ []) same)
    c.keep.ensures.child_holds)

pub returns-in-Err-clause-registering : goal.returns-in-Err-clause-registering
returns-in-Err-clause-registering c = λ spots next.
    registering_waits c.args.job.now spots c.args.self.now c.args.i c.args.k c.index_mut.result.now
    c.add.new.self c.requires.whole next.registering next.room next.on.few
    (next.on.here ∙ ap (λ x. x.phaser) next.is) c.index_mut.ensures.value c.in-Err.ensures.err
