-- C is told what the member answered.
use Rattle.std.proofs.Common.{inr, sym, ap, ◌∙◌, w32, to_z, of_z}
use Rattle.shared_handle.specs.AnyMembers.{held_in}
use Rattle.shared_handle.specs.Calls.{AddNowCall}
use Rattle.shared_handle.specs.Told.{tried_status, register_status}
use Rattle.shared_handle.proofs.Children.{child_told, start_told}
use Rattle.shared_handle.proofs.Statuses.{register_told, register_unwritten, start_unwritten}
use Rattle.shared_handle.proofs.member_exports.phase_member_register_now.Goals as goal

pub returns-clause-call : goal.returns-clause-call
returns-clause-call c = λ m is none.
    let answer = c.in-Ok-register_now.answer in
    inr (child_told AddNowCall m (held_in c.register_now.new.self.place.kept)
    c.args.child.now.place.kept c.give.new.child.place.kept answer
    (to_z w32 (of_z w32 c.give.result))
    (register_told answer c.give.result c.give.ensures.status) c.give.ensures.child
    c.give.ensures.none (c.in-Ok-register_now.ensures.call m is))

pub returns-clause-good : goal.returns-clause-good
returns-clause-good c = λ good.
    let answer = c.in-Ok-register_now.answer in
    let told = register_told answer c.give.result c.give.ensures.status in
    start_told answer c.give.new.child.place.kept c.args.phase.now c.write_start.new.phase
    (sym told ∙ good) c.give.ensures.child c.write_start.ensures

pub returns-clause-none : goal.returns-clause-none
returns-clause-none c = λ none.
    let answer = c.in-Ok-register_now.answer in
    let told = register_told answer c.give.result c.give.ensures.status in (
      register_unwritten answer c.args.child.now.place.kept c.give.new.child.place.kept
          (λ good. none (told ∙ good)) c.give.ensures.none,
      c.write_start.ensures
          ∙ start_unwritten answer c.args.phase.now (λ good. none (told ∙ good)),
    )

-- it asks
pub returns-clause-asks : goal.returns-clause-asks
returns-clause-asks c = λ a is none.
    let busy = c.in-Ok-register_now.ensures.asks a is in
    inr (
      register_told c.in-Ok-register_now.answer c.give.result c.give.ensures.status
          ∙ ap (tried_status register_status) busy.0,
      busy.1,
    )
