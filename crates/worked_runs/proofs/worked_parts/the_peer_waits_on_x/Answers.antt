-- As its place tells.
use Rattle.std.proofs.Common.{leb-true, pos, [], ◌∷◌, refl, ◌∙◌, arith}
use Rattle.phase_accum.specs.declared.outcome.Outcome.TheVariants.{Value}
use Rattle.phase_history.specs.declared.event.Event.TheVariants.{Waited}
use Rattle.worked_runs.specs.Worked.{worked}
use Rattle.worked_runs.specs.WorkedParts.{x_before, peer_begins}
use Rattle.worked_runs.proofs.PeerAlone.{childless, one_by_one, may_make, sees_x}
use Rattle.worked_runs.proofs.WorkedRun.{worked-is}
use Rattle.worked_runs.proofs.worked_parts.the_peer_waits_on_x.Goals as goal

pub returns : goal.returns
returns c = λ m k.
    let one = leb-true 1 1 refl in
    let next = c.tells_next.ensures.wait worked m 1 1 1 1 peer_begins worked-is (omega arith) k.part
    one_by_one k.place refl refl (λ source. (cc)) may_make (childless m) one one one in
    let got = c.gets.ensures.first worked m 1 0 0 2 (Value (pos 5) ∷ []) x_before worked-is
    (omega arith) k.part (sees_x m k) refl next in
    let after = got.0 in
    let moved = got.1.moved in (
      after,
      record {
        part = moved.part;
        place = c.follow.ensures.first_wait worked m after 1 0 0 1 (Value (pos 5) ∷ []) peer_begins
            (Waited 2 1 ∷ x_before) worked-is (omega arith) k.part k.place refl refl next one one
            got.1;
        x = moved.here;
        e = moved.elsewhere 1 (λ same. omega arith) ∙ k.e;
        number_x = moved.numbers 0 1 ∙ k.number_x;
        number_e = moved.numbers 1 1 ∙ k.number_e;
      },
    )
