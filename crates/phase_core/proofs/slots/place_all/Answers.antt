-- One more stands at its phases.
use Rattle.std.proofs.Common.{◌≡◌, ◌+◌, ◌≤◌, length, get_or, sym, ap, ◌∙◌, arith}
use Rattle.std.specs.Prelude.{take}
use Rattle.std.proofs.lemmas.List.{length-take-le, take_more}
use Rattle.phase_base.specs.Members.{Members, member}
use Rattle.phase_registry.specs.Rosters.{nobody}
use Rattle.phase_ring.specs.declared.role.Role.{Role}
use Rattle.phase_ring.specs.declared.role.Role.TheVariants.{Signaller, Waiter}
use Rattle.phase_ring.specs.Standings.{count_of, counted}
use Rattle.phase_core.proofs.LeastCounts.{signal_phases-few, wait_phases-few}
use Rattle.phase_core.proofs.MemberCounts.{count_of-few, counts-push, phases_of}
use Rattle.phase_core.proofs.slots.place_all.Goals as goal

phases_of-few : (role : Role) (ms : Members) → length (phases_of role ms) ≤ length ms
phases_of-few Signaller ms = signal_phases-few ms
phases_of-few Waiter ms = wait_phases-few ms

pub place-requires-clause-few : goal.place-requires-clause-few
place-requires-clause-few g c role p =
    let ms = take c.loop-member.member-index c.args.members.now in
    let many : length ms ≡ c.loop-member.member-index =
    length-take-le c.loop-member.member-index c.args.members.now (omega (arith, c.loop-member-test.true)) in
    omega (
      arith,
      c.loop-member.invariant.3 role p,
      count_of-few p (phases_of role ms),
      phases_of-few role ms,
      many,
      c.loop-member-test.true,
      c.requires.few,
    )

pub loop-member-preserved : goal.loop-member-preserved
loop-member-preserved g c =
    let i = c.loop-member.member-index in
    let members = c.args.members.now in
    let keeps = c.loop-member.invariant.1 in (
      c.place.ensures.invariant,
      record {
        limits = c.place.ensures.keeps.limits ∙ keeps.limits;
        done = c.place.ensures.keeps.done ∙ keeps.done;
        top = c.place.ensures.keeps.top ∙ keeps.top;
      },
      c.place.ensures.same ∙ c.loop-member.invariant.2,
      λ role p. c.place.ensures.standing role p
          ∙ (ap (λ n. n + counted role (get_or members i (member 0 nobody)).entry p) (c.loop-member.invariant.3 role p)
          ∙ (sym (counts-push role p (take i members) (get_or members i (member 0 nobody)).task (get_or members i (member 0 nobody)).entry)
          ∙ ap (λ l. count_of p (phases_of role l)) (sym (take_more members i (member 0 nobody) c.loop-member-test.true)))),
    )
