-- The members are those of the history, and so is their least wait phase.
use Rattle.std.proofs.Common.{◌≡◌, refl, ap, ◌∙◌}
use Rattle.std.specs.Prelude.{unwrap_or}
use Rattle.phase_base.specs.Members.{least, wait_phases}
use Rattle.phase_history.specs.Histories.{members_of}
use Rattle.phase_core.specs.Cores.{CoreState}
use Rattle.phase_core.proofs.phaser_core.PhaserCore.slowest.Goals as goal

pub returns : goal.returns
returns g c h stands =
    let members : c.members.result.now ≡ members_of h =
    c.members.ensures.members ∙ ap (λ (x : CoreState g.row.A.Denot). x.members) c.self.view_is
    ∙ stands.members_are in
    let phase : c.unwrap_or.result ≡ unwrap_or (least (wait_phases (members_of h))) 0 =
    c.unwrap_or.ensures ∙ ap (λ o. unwrap_or o 0) (c.least_wait.ensures ∙ ap (λ ms. least (wait_phases ms)) stands.members_are) in
    rw (members, phase) refl
