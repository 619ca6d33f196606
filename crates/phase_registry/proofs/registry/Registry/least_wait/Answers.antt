-- the fold over the members is the least of their phases
use Rattle.std.proofs.Common.{◌≡◌, get_or, None, rules, ap, sym, ◌∙◌}
use Rattle.std.specs.List.{fold}
use Rattle.std.proofs.lemmas.List.{take_all}
use Rattle.std.proofs.lemmas.List.Sums.{fold_more}
use Rattle.phase_base.specs.Modes.{mode_waits}
use Rattle.phase_base.specs.Members.{member, least, wait_phases}
use Rattle.phase_registry.specs.Rosters.{Roster, nobody}
use Rattle.phase_registry.proofs.Leasts.{lower, least-folded}
use Rattle.phase_registry.proofs.registry.Registry.least_wait.Goals as goal

pub loop-member-preserved : goal.loop-member-preserved
loop-member-preserved c =
    let members = c.deref-member-items.result.now in
    let i = c.loop-member.member-index in
    let so_far = c.loop-member.least in
    let step : c.lower-least.result ≡ lower (λ e. mode_waits e.mode) (λ e. e.wait_phase) so_far (get_or members i (member 0 nobody)) = search rules in
    step ∙ ap (λ o. lower (λ e. mode_waits e.mode) (λ e. e.wait_phase) o (get_or members i (member 0 nobody))) c.loop-member.invariant
    ∙ sym (fold_more (lower (λ e. mode_waits e.mode) (λ e. e.wait_phase)) None members i (member 0 nobody) c.loop-member-test.true)

pub returns : goal.returns
returns c =
    let members = c.deref-member-items.result.now in
    let F = fold (lower (λ e. mode_waits e.mode) (λ e. e.wait_phase)) None in
    c.loop-member.invariant ∙ ap F (take_all c.loop-member.member-index members c.loop-member-test.false)
    ∙ least-folded (λ e. mode_waits e.mode) (λ e. e.wait_phase) members
    ∙ ap (λ ms. least (wait_phases ms)) (c.deref-member-items.ensures.value ∙ ap (λ (r : Roster). r.members) c.self.view_is)
