-- Nothing of the child or of another has been registered.
use Rattle.std.proofs.Common.{◌≡◌, Some, length, sym, ap, ◌∙◌}
use Rattle.std.proofs.lemmas.Bool.{eqb-true}
use Rattle.std.proofs.lemmas.List.{nil_from_length}
use Rattle.std.proofs.lemmas.Option.{slice_get_within, slice_get-get_or, same_Some}
use Rattle.stream_tasks.specs.declared.child.Child.{Child}
use Rattle.stream_tasks.proofs.StillRegistering.{registering_begins}
use Rattle.stream_tasks.proofs.task_state.TaskState.begin.Goals as goal

pub returns-then-is_empty-2-clause-with : goal.returns-then-is_empty-2-clause-with
returns-then-is_empty-2-clause-with c = λ job spots task due met.
    let s = c.args.self.now in
    let kid = due.missing.kid in
    let few = slice_get_within s.children.items c.args.i kid due.missing.found in
    let is : c.index.result.now ≡ kid =
    same_Some c.index.result.now kid
    (ap Some c.index.ensures
    ∙ sym (slice_get-get_or s.children.items c.args.i c.index.result.now few) ∙ due.missing.found) in
    let long : length c.index.result.now.numbers.items ≡ 0 =
    eqb-true (length c.index.result.now.numbers.items) 0 (sym c.is_empty.ensures ∙ c.if-is_empty.true) in
    let none : length kid.numbers.items ≡ 0 = ap (λ (x : Child). length x.numbers.items) (sym is) ∙ long in
    let empty : length s.child_holds.items ≡ 0 =
    sym s.child_holds.ok.0
    ∙ eqb-true s.child_holds.len 0 (sym c.is_empty-then-is_empty.ensures ∙ c.if-is_empty-2.true) in
    registering_begins job spots s c.args.i met due (nil_from_length kid.numbers.items none)
    (nil_from_length s.child_holds.items empty) task
