-- As its place tells.
use Rattle.std.proofs.Common.{[], ◌∷◌, pos, refl, ◌∙◌, arith}
use Rattle.worked_runs.specs.Worked.{worked}
use Rattle.worked_runs.specs.WorkedParts.{e_before, e_signalled, peer_owes_e}
use Rattle.worked_runs.proofs.PeerAlone.{one_by_one, sees_e}
use Rattle.worked_runs.proofs.WorkedRun.{worked-is}
use Rattle.worked_runs.proofs.worked_parts.the_peer_signals_e.Goals as goal

pub returns : goal.returns
returns c = λ m k.
    let next = c.tells_next.ensures.values worked m 1 0 1 (pos 5 ∷ []) peer_owes_e worked-is
    (omega arith) k.part one_by_one k.place refl refl in
    let put = c.puts.ensures.values worked m 1 0 1 1 (pos 5 ∷ []) e_before worked-is (omega arith)
    k.part (sees_e m k) next in
    let after = put.0 in
    let moved = put.1.moved in (
      after,
      record {
        part = moved.part;
        place = c.follow.ensures.put worked m after 1 0 1 1 (pos 5 ∷ []) peer_owes_e e_signalled
            worked-is (omega arith) k.part one_by_one k.place refl refl put.1;
        x = moved.elsewhere 0 (λ same. omega arith) ∙ k.x;
        e = moved.here;
        number_x = moved.numbers 0 1 ∙ k.number_x;
        number_e = moved.numbers 1 1 ∙ k.number_e;
      },
    )
