use Rattle.std.proofs.Common.{◌≡◌, ◌∙◌, sym, ap, Ok, is_some, subst, IfSome, not, ◌||◌}
use Rattle.graph_text.specs.Plain.{plain}
use Rattle.graph_text.specs.Decls.{task}
use Rattle.graph_text.specs.Lines.{body_of, ends_of}
use Rattle.graph_base.specs.GraphFields.{task_of}
use Rattle.graph_base.specs.Names.{place_of}
use Rattle.graph_lang.specs.WordValues.{task_line}
use Rattle.graph_lang.specs.Faults.{is_past_limit, are_distinct}
use Rattle.graph_lang.specs.Reads.{line_outcome}
use Rattle.graph_lang.proofs.Sound.{not-past, past, task-limit, task-twice, task-unknown, task-last, with-task}
use Rattle.graph_lang.proofs.draft.Draft.declare_task.Goals as goal

-- the name is there already, or a phaser stands twice in the line
pub returns-then-is_twice-clause-fault : goal.returns-then-is_twice-clause-fault
returns-then-is_twice-clause-fault c =
    let before = c.args.self.now in
    let name = c.args.words.name.now in
    let body = body_of c.args.words.body in
    let ends = ends_of c.args.words.ends in
    let d = task name body ends in
    let within = not-past (is_past_limit c.args.version before d)
    (sym c.in_ok-numbers.ensures.within ∙ ap is_some c.in-Some.is) in
    let words = ap plain c.deref.ensures.value ∙ c.in_ok-phasers.ensures in
    let twice = ap (λ ws. is_some (place_of before.names name) || not (are_distinct ws)) (sym words)
    ∙ sym c.is_twice.ensures in
    rw c.fault-then-is_twice.ensures
    (ap (line_outcome c.args.number before d)
    (sym (task-twice c.args.version before name body ends c.args.number within (twice ∙ c.if-is_twice.true))))

-- a name is unknown
pub returns-in_default-2-clause-fault : goal.returns-in_default-2-clause-fault
returns-in_default-2-clause-fault c =
    let before = c.args.self.now in
    let name = c.args.words.name.now in
    let body = body_of c.args.words.body in
    let ends = ends_of c.args.words.ends in
    let d = task name body ends in
    let within = not-past (is_past_limit c.args.version before d)
    (sym c.in_ok-numbers.ensures.within ∙ ap is_some c.in-Some.is) in
    let words = ap plain c.deref.ensures.value ∙ c.in_ok-phasers.ensures in
    let twice = ap (λ ws. is_some (place_of before.names name) || not (are_distinct ws)) (sym words)
    ∙ sym c.is_twice.ensures in
    let none = sym c.in_ok-task.ensures.known ∙ ap is_some c.in_default-2.is in
    rw c.fault-in_default-2.ensures
    (ap (line_outcome c.args.number before d)
    (sym (task-unknown c.args.version before name body ends c.args.number within (twice ∙ c.if-is_twice.false) none)))

-- the task has a fault
pub returns-in-Some-last_kind-clause-fault : goal.returns-in-Some-last_kind-clause-fault
returns-in-Some-last_kind-clause-fault c =
    let before = c.args.self.now in
    let name = c.args.words.name.now in
    let body = body_of c.args.words.body in
    let ends = ends_of c.args.words.ends in
    let d = task name body ends in
    let within = not-past (is_past_limit c.args.version before d)
    (sym c.in_ok-numbers.ensures.within ∙ ap is_some c.in-Some.is) in
    let words = ap plain c.deref.ensures.value ∙ c.in_ok-phasers.ensures in
    let twice = ap (λ ws. is_some (place_of before.names name) || not (are_distinct ws)) (sym words)
    ∙ sym c.is_twice.ensures in
    let read = subst (λ o. IfSome o (λ t. task_of t ≡ task_line before.names c.args.number body ends))
    c.in-Some-2.is c.in_ok-task.ensures.line in
    let known = sym c.in_ok-task.ensures.known ∙ ap is_some c.in-Some-2.is in
    let last = c.last_kind.ensures
    ∙ sym (task-last c.args.version before name body ends c.args.number within (twice ∙ c.if-is_twice.false) known
    (task_of c.in-Some-2.task) read) in
    rw c.fault-in-Some-last_kind.ensures
    (ap (line_outcome c.args.number before d) (sym c.in-Some-last_kind.is ∙ last))

-- there is none, and the task is the line's
pub returns-clause-ok : goal.returns-clause-ok
returns-clause-ok c =
    let before = c.args.self.now in
    let name = c.args.words.name.now in
    let body = body_of c.args.words.body in
    let ends = ends_of c.args.words.ends in
    let d = task name body ends in
    let within = not-past (is_past_limit c.args.version before d)
    (sym c.in_ok-numbers.ensures.within ∙ ap is_some c.in-Some.is) in
    let words = ap plain c.deref.ensures.value ∙ c.in_ok-phasers.ensures in
    let twice = ap (λ ws. is_some (place_of before.names name) || not (are_distinct ws)) (sym words)
    ∙ sym c.is_twice.ensures in
    let read = subst (λ o. IfSome o (λ t. task_of t ≡ task_line before.names c.args.number body ends))
    c.in-Some-2.is c.in_ok-task.ensures.line in
    let known = sym c.in_ok-task.ensures.known ∙ ap is_some c.in-Some-2.is in
    let last = c.last_kind.ensures
    ∙ sym (task-last c.args.version before name body ends c.args.number within (twice ∙ c.if-is_twice.false) known
    (task_of c.in-Some-2.task) read) in
    ap Ok (c.in_ok-add_task.ensures ∙ with-task before name body ends c.args.number
    (task_of c.in-Some-2.task) read)
    ∙ ap (line_outcome c.args.number before d) (sym c.in_default-last_kind.is ∙ last)

-- a number is past its limit
pub returns-in_default-clause-fault : goal.returns-in_default-clause-fault
returns-in_default-clause-fault c =
    let before = c.args.self.now in
    let name = c.args.words.name.now in
    let body = body_of c.args.words.body in
    let ends = ends_of c.args.words.ends in
    let d = task name body ends in
    let beyond = past (is_past_limit c.args.version before d)
    (sym c.in_ok-numbers.ensures.within ∙ ap is_some c.in_default.is) in
    rw c.fault.ensures
    (ap (line_outcome c.args.number before d) (sym (task-limit c.args.version before name body ends beyond)))
