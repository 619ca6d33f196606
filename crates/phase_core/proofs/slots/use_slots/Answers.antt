-- The slots of the values, at which the members stand.
use Rattle.std.proofs.Common.{◌≡◌, true, ◌++◌, sym, ap, subst, ◌∙◌}
use Rattle.std.specs.List.{All}
use Rattle.phase_accum.specs.Sends.{AreSends}
use Rattle.phase_accum.proofs.Parts.{AreSends-append_left, AreSends-append_right}
use Rattle.phase_base.specs.declared.member.Member.{Member}
use Rattle.phase_base.specs.Limits.{Limits}
use Rattle.phase_base.specs.Members.{Members, signal_phases, wait_phases}
use Rattle.phase_ring.specs.declared.role.Role.{Role}
use Rattle.phase_ring.specs.Restarts.{MayBePlaced, ring_of_ones}
use Rattle.phase_ring.specs.Rings.{sents}
use Rattle.phase_ring.specs.Standings.{count_of, phase_for, takes_part}
use Rattle.phase_core.specs.Cores.{core_of}
use Rattle.phase_core.specs.Plain.{IsPlain, plain_core}
use Rattle.phase_core.specs.PlainCores.{core_shown}
use Rattle.phase_core.proofs.Phasers.{shown_plain}
use Rattle.phase_core.proofs.Switching.{HasResumed, members_stand, resumed_core, resumed_view}
use Rattle.phase_core.proofs.slots.use_slots.Given.{Over}
use Rattle.phase_core.proofs.slots.use_slots.Goals as goal
use Rattle.phase_core.proofs.slots.use_slots.Goals.{After-members, After-place_all}

pub restart-requires-clause-sends : goal.restart-requires-clause-sends
restart-requires-clause-sends g c =
    let front = c.as_slices.result.0.now in
    let back = c.as_slices.result.1.now in
    let sends : AreSends (front ++ back) =
    subst AreSends (sym c.as_slices.ensures) (c.requires.values c.if-not-store.false).keeps.sends in
    (AreSends-append_left front back sends, AreSends-append_right front back sends)

-- the values, in two slices
plain : (g : Over) (c : After-members g)
    → IsPlain g.A.Accumulate.operation c.args.registry.now c.args.store.now.board.limits
    c.args.store.now.values.base (c.as_slices.result.0.now ++ c.as_slices.result.1.now)
plain g c =
    subst (IsPlain g.A.Accumulate.operation c.args.registry.now c.args.store.now.board.limits
    c.args.store.now.values.base) (sym c.as_slices.ensures) (c.requires.values c.if-not-store.false).plain

pub place_all-requires-clause-places : goal.place_all-requires-clause-places
place_all-requires-clause-places g c =
    let here = (goal.at.place_all-requires-clause-places g c).After-members in
    let op = g.A.Accumulate.operation in
    let r = c.args.registry.now in
    let base = c.args.store.now.values.base in
    let values = c.as_slices.result.0.now ++ c.as_slices.result.1.now in
    let b = c.restart.new.self in
    let is : IsPlain op r b.limits base values =
    subst (λ (l : Limits). IsPlain op r l base values) (sym c.restart.ensures.limits) (plain g here) in
    subst (λ (ms : Members). All (λ (m : Member). (role : Role) → takes_part role m.entry ≡ true
    → MayBePlaced role (phase_for role m.entry) b) ms) (sym c.members.ensures.members)
    (members_stand op r b base values is (ap (λ x. x.base) c.restart.ensures.ring)
    c.restart.ensures.top.0 c.restart.ensures.top.1)

resumed : (g : Over) (c : After-place_all g)
    → HasResumed g.A.Accumulate.operation c.args.registry.now c.args.store.now.board.limits
    c.args.store.now.values.base (c.as_slices.result.0.now ++ c.as_slices.result.1.now)
    c.place_all.new.board
resumed g c =
    let op = g.A.Accumulate.operation in
    let base = c.args.store.now.values.base in
    let values = c.as_slices.result.0.now ++ c.as_slices.result.1.now in
    let keeps = c.place_all.ensures.keeps in
    record {
      kept = c.place_all.ensures.invariant;
      limits_are = keeps.limits ∙ c.restart.ensures.limits;
      top_is = keeps.top ∙ c.restart.ensures.top.0;
      done_is = keeps.done ∙ (c.restart.ensures.top.1 ∙ sym keeps.top);
      slots_are = c.place_all.ensures.same ∙ ap sents (c.restart.ensures.ring
          ∙ ap (λ n. ring_of_ones op n base values) (c.requires.values c.if-not-store.false).long);
      stand = λ p. let stand = c.place_all.ensures.stand p in (
        stand.0 ∙ ap (λ ms. count_of p (signal_phases ms)) c.members.ensures.members,
        stand.1 ∙ ap (λ ms. count_of p (wait_phases ms)) c.members.ensures.members,
      );
    }

pub returns-clause-core : goal.returns-clause-core
returns-clause-core g c =
    let a = goal.at.returns-clause-core g c in
    resumed_core g.A.Accumulate.operation c.args.registry.now c.args.store.now.board.limits
    c.args.store.now.values.base (c.as_slices.result.0.now ++ c.as_slices.result.1.now)
    c.place_all.new.board (resumed g a.After-place_all) (plain g a.After-members)

-- it shows the same
shows : (g : Over) (c : After-place_all g) → core_of c.args.registry.now c.place_all.new.board
    ≡ core_shown g.A.Accumulate.operation c.args.registry.now c.args.store.now
shows g c =
    let op = g.A.Accumulate.operation in
    let r = c.args.registry.now in
    let store = c.args.store.now in
    resumed_view op r store.board.limits store.values.base
    (c.as_slices.result.0.now ++ c.as_slices.result.1.now) c.place_all.new.board
    (resumed g c)
    ∙ ap (plain_core op r store.board.limits store.values.base) c.as_slices.ensures
    ∙ sym (shown_plain op store r c.if-not-store.false (c.requires.values c.if-not-store.false).keeps)

pub returns-clause-shows : goal.returns-clause-shows
returns-clause-shows g c = shows g (goal.at.returns-clause-shows g c).After-place_all

pub returns-clause-same : goal.returns-clause-same
returns-clause-same g c = shows g (goal.at.returns-clause-same g c).After-place_all
