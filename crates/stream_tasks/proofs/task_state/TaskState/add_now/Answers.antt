-- The parent's moment serves the child after each answer, and tells where it begins.
use Rattle.std.proofs.Common.{◌≡◌, [], ◌∷◌, ◌++◌, sym, ap, ◌∙◌}
use Rattle.std.proofs.lemmas.Option.{same_Some}
use Rattle.stream_members.specs.AnyMembers.{member_in}
use Rattle.stream_tasks.specs.declared.child.Child.{Child}
use Rattle.stream_tasks.proofs.StillRegistering.{registering_waits_now, registering_adds_now, whole_keeps, adds_now_goes}
use Rattle.stream_tasks.proofs.task_state.TaskState.add_now.Goals as goal

pub returns-in-Ok-clause-whole : goal.returns-in-Ok-clause-whole
returns-in-Ok-clause-whole c = λ job whole.
    rw c.keep.ensures.rest
    (whole_keeps job c.args.self.now c.args.i c.args.k c.add_now.new.self c.keep.new.self.children
    c.keep.new.self.child_holds c.keep.ensures.before c.keep.ensures.kid whole
    c.keep.ensures.found c.keep.ensures.kids c.keep.ensures.task c.keep.ensures.at)

pub returns-in-Ok-clause-registering : goal.returns-in-Ok-clause-registering
returns-in-Ok-clause-registering c = λ job spots whole next.
    let s = c.args.self.now in
    let n = next.registering in
    let same : c.keep.ensures.before ≡ n.kid =
    same_Some c.keep.ensures.before n.kid (sym c.keep.ensures.found ∙ n.found) in
    let goes = adds_now_goes c.index_mut.result.now c.add_now.new.self c.in-Ok.member c.in-Ok.start
    c.in-Ok.ensures.ok in
    rw c.keep.ensures.rest
    (registering_adds_now job spots s c.args.i c.args.k c.args.p c.index_mut.result.now
    c.add_now.new.self c.in-Ok.member c.in-Ok.start c.keep.ensures.kid c.keep.new.self.children
    c.keep.new.self.child_holds whole next c.index_mut.ensures.value goes c.keep.ensures.kids
    (c.keep.ensures.task ∙ ap (λ (x : Child). x.task) same)
    (c.keep.ensures.numbers
    ∙ ap (λ (x : Child). x.numbers.items ++ (member_in c.in-Ok.member).number ∷ []) same)
    c.keep.ensures.start_is c.keep.ensures.child_holds)

pub returns-in-Err-clause-registering : goal.returns-in-Err-clause-registering
returns-in-Err-clause-registering c = λ job spots whole next.
    registering_waits_now job spots c.args.self.now c.args.i c.args.k c.args.p
    c.index_mut.result.now c.add_now.new.self whole next c.index_mut.ensures.value
    c.in-Err.ensures.err
