-- C is told what the member answered.
use Rattle.std.proofs.Common.{◌≡◌, inr, sym, ap, subst, ◌∙◌, w32, to_z, of_z}
use Rattle.phase_base.specs.declared.mode.Mode.{Mode}
use Rattle.shared_handle.specs.AnyMembers.{held_in, StillHas}
use Rattle.shared_handle.specs.Calls.{AddCall}
use Rattle.shared_handle.specs.Told.{TellsRegister, tried_status, register_status}
use Rattle.shared_handle.proofs.Children.{child_told}
use Rattle.shared_handle.proofs.Statuses.{register_told, register_unwritten}
use Rattle.shared_handle.proofs.member_exports.phase_member_register.Goals as goal

pub returns-clause-call : goal.returns-clause-call
returns-clause-call c = λ m named is none named_is.
    let answer = c.in-Ok-register.answer in
    let after = held_in c.register.new.self.place.kept in
    let before = c.args.child.now.place.kept in
    let now = c.give.new.child.place.kept in
    let status = to_z w32 (of_z w32 c.give.result) in
    let e : c.in-Some.named ≡ named =
    let z = sym c.in-Some.is ∙ (c.mode_of.ensures ∙ named_is) in cc in
    inr (subst (λ (mode : Mode).
    StillHas after (λ n. TellsRegister (AddCall mode) m n status before now)) e
    (child_told (AddCall c.in-Some.named) m after before now answer status
    (register_told answer c.give.result c.give.ensures.status) c.give.ensures.child
    c.give.ensures.none (c.in-Ok-register.ensures.call m is)))

pub returns-clause-none : goal.returns-clause-none
returns-clause-none c = λ none.
    let answer = c.in-Ok-register.answer in
    let told = register_told answer c.give.result c.give.ensures.status in
    register_unwritten answer c.args.child.now.place.kept c.give.new.child.place.kept
    (λ good. none (told ∙ good)) c.give.ensures.none

-- it asks
pub returns-clause-asks : goal.returns-clause-asks
returns-clause-asks c = λ a named is none named_is.
    let busy = c.in-Ok-register.ensures.asks a is in
    inr (
      register_told c.in-Ok-register.answer c.give.result c.give.ensures.status
          ∙ ap (tried_status register_status) busy.0,
      busy.1,
    )
