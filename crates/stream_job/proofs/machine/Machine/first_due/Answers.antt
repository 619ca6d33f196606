-- The loop goes through the children in their order, and stops at the first that is due.
use Rattle.std.proofs.Common.{◌≡◌, ◌<◌, length, get_or, Some, ap, sym, subst, ◌∙◌, arith, true, false}
use Rattle.stream_lists.proofs.Basics.{one_more}
use Rattle.graph_runs.specs.Nexts.{is_due}
use Rattle.stream_job.specs.Plans.{children_of}
use Rattle.stream_job.proofs.ChildLists.{first_of_children, no_child_due, child_there, none_due_at}
use Rattle.stream_job.proofs.machine.Machine.first_due.Goals as goal

pub is_due-requires-clause-child : goal.is_due-requires-clause-child
is_due-requires-clause-child c =
    let job = c.args.job.now in
    let same = c.children-c-items.ensures in
    let long = ap length same in
    let test = c.loop-c-test.true in
    subst (λ xs. get_or xs c.loop-c.c-index 0 < length job.graph.tasks) (sym same)
    (child_there job c.args.t c.loop-c.c-index (omega arith))

pub returns-then-is_due : goal.returns-then-is_due
returns-then-is_due c = λ s m stands.
    let job = c.args.job.now in
    let i = c.loop-c.c-index in
    let same = c.children-c-items.ensures in
    let long = ap length same in
    let test = c.loop-c-test.true in
    let here : is_due job m c.args.t (get_or (children_of job c.args.t) i 0) ≡ true =
    subst (λ xs. is_due job m c.args.t (get_or xs i 0) ≡ true) same
    (c.is_due.ensures s m stands ∙ c.if-is_due.true) in
    first_of_children job m c.args.t i (omega arith) (c.loop-c.invariant s m stands) here
    ∙ ap (λ xs. Some (get_or xs i 0)) (sym same)

pub loop-c-preserved : goal.loop-c-preserved
loop-c-preserved c = λ s m stands d lt.
    let job = c.args.job.now in
    let i = c.loop-c.c-index in
    let here : is_due job m c.args.t (get_or (children_of job c.args.t) i 0) ≡ false =
    subst (λ xs. is_due job m c.args.t (get_or xs i 0) ≡ false) c.children-c-items.ensures
    (c.is_due.ensures s m stands ∙ c.if-is_due.false) in
    one_more (λ x. is_due job m c.args.t (get_or (children_of job c.args.t) x 0) ≡ false) i
    (c.loop-c.invariant s m stands) here d lt

pub returns : goal.returns
returns c = λ s m stands.
    let long = ap length c.children-c-items.ensures in
    let past = c.loop-c-test.false in
    no_child_due c.args.job.now m c.args.t
    (λ d lt. c.loop-c.invariant s m stands d (omega arith))

pub returns-then-is_quiet : goal.returns-then-is_quiet
returns-then-is_quiet c = λ s m stands.
    none_due_at c.args.job.now m c.args.t c.state.result.now.begun
    (c.state.ensures s m stands).stands.begun (c.is_quiet.ensures c.if-is_quiet.true)
