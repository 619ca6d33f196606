-- The founder of a registration is there, and stays so.
use Rattle.std.proofs.Common.{sym, ap, ◌∙◌, ℕ, arith}
use Rattle.stream_members.specs.Members.{Spot}
use Rattle.stream_members.specs.declared.any_member.AnyMember.{AnyMember}
use Rattle.stream_tasks.specs.Founders.{FounderState, IsRoot}
use Rattle.stream_tasks.specs.Openings.{AreFounders, IsRootMember}
use Rattle.stream_tasks.proofs.Rows.{stands_at, founders_stay, root_member, if_ok}
use Rattle.stream_tasks.proofs.opening.founders.register_root.Goals as goal

pub returns-clause-root : goal.returns-clause-root
returns-clause-root g c =
    let below = c.registration_of-registration.ensures.phaser in
    let many = c.requires.many in
    if_ok (IsRoot c.registration_of-registration.result.mode c.register.new.self)
    (λ (member : AnyMember). (spots : ℕ → Spot) → AreFounders c.args.job.now spots c.args.founders.now
    → IsRootMember c.args.job.now spots c.args.t c.args.i member)
    c.register.result
    (λ member root spots are. root_member c.args.job.now spots c.args.t c.args.i
    c.registration_of-registration.result.phaser c.registration_of-registration.result.mode
    c.args.founders.now c.index-founders-registration.result c.register.new.self member
    (ap (λ r. r.phaser) c.registration_of-registration.ensures.registration)
    (ap (λ r. r.mode) c.registration_of-registration.ensures.registration)
    (stands_at c.args.founders.now c.registration_of-registration.result.phaser
    c.index-founders-registration.result (omega arith) c.index-founders-registration.is)
    (c.register.ensures.same.0 ∙ ap (λ (f : FounderState). f.op) (sym c.index-founders-registration.is))
    (c.register.ensures.same.1 ∙ ap (λ (f : FounderState). f.at) (sym c.index-founders-registration.is)) root are)
    c.register.ensures.root

pub returns-clause-founders : goal.returns-clause-founders
returns-clause-founders g c =
    let below = c.registration_of-registration.ensures.phaser in
    let many = c.requires.many in
    λ spots are. founders_stay c.args.job.now spots c.args.founders.now
    c.registration_of-registration.result.phaser c.index-founders-registration.result
    c.register.new.self
    (stands_at c.args.founders.now c.registration_of-registration.result.phaser
    c.index-founders-registration.result (omega arith) c.index-founders-registration.is)
    (c.register.ensures.same.0 ∙ ap (λ (f : FounderState). f.op) (sym c.index-founders-registration.is))
    (c.register.ensures.same.1 ∙ ap (λ (f : FounderState). f.at) (sym c.index-founders-registration.is)) are
