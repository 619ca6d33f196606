-- The founder after a call, and the task that it registered.
use Rattle.std.proofs.Common.{subst, sym, ap, ◌∙◌, List, ℕ, [], ◌∷◌, ◌++◌}
use Rattle.stream_members.specs.AnyMembers.{member_in}
use Rattle.stream_tasks.specs.Founders.{IsFounder}
use Rattle.stream_tasks.proofs.FoundingLemmas.{refused, added, is_root}
use Rattle.stream_tasks.proofs.opening.founder.Founder.register.Goals as goal

pub invariant_of-self-in_err-child : goal.invariant_of-self-in_err-child
invariant_of-self-in_err-child g c =
    subst (IsFounder (member_in c.add.new.self)) (sym c.reserve.ensures.items)
    (refused (member_in c.self.inside.member) (member_in c.add.new.self) c.self.inside.gave.items
    c.args.mode c.in_err-child.field-0.0 c.self.invariant c.in_err-child.ensures.call
    c.add.ensures.stays)

pub invariant_of-self-2 : goal.invariant_of-self-2
invariant_of-self-2 g c =
    subst (IsFounder (member_in c.add.new.self))
    (sym (c.push_reserved.ensures.items
    ∙ ap (λ (gave : List ℕ). gave ++ c.number.result ∷ []) c.reserve.ensures.items
    ∙ ap (λ (n : ℕ). c.self.inside.gave.items ++ n ∷ []) c.number.ensures))
    (added (member_in c.self.inside.member) (member_in c.add.new.self)
    (member_in c.in_ok-child.child) c.self.inside.gave.items c.args.mode c.self.invariant
    c.in_ok-child.ensures.call.0 c.add.ensures.stays)

pub returns-clause-root : goal.returns-clause-root
returns-clause-root g c =
    is_root c.self.inside.member c.add.new.self c.in_ok-child.child c.self.inside.gave.items
    c.push_reserved.new.self.items c.args.mode c.self.invariant c.in_ok-child.ensures.call.0
    c.add.ensures.stays c.add.ensures.op c.in_ok-child.ensures.call.1 c.look.ensures
