-- As its place tells.
use Rattle.std.proofs.Common.{pos, [], ◌∷◌, refl, ◌∙◌, arith}
use Rattle.phase_accum.specs.declared.outcome.Outcome.TheVariants.{Value}
use Rattle.phase_history.specs.declared.event.Event.TheVariants.{Waited}
use Rattle.worked_runs.specs.Worked.{worked}
use Rattle.worked_runs.specs.WorkedParts.{e_signalled, peer_exchanges, peer_owes_y}
use Rattle.worked_runs.proofs.PeerAlone.{one_by_one, sees_own_e}
use Rattle.worked_runs.proofs.WorkedRun.{worked-is}
use Rattle.worked_runs.proofs.worked_parts.the_peer_waits_on_e.Goals as goal

pub returns-clause-place : goal.returns-clause-place
returns-clause-place c = λ m k.
    let next = c.tells_next.ensures.exchange worked m 1 1 (pos 5) peer_exchanges worked-is
    (omega arith) k.part k.place refl refl in
    let got = c.gets.ensures.exchange worked m 1 1 1 (Value (pos 5)) e_signalled worked-is
    (omega arith) k.part (sees_own_e m k) refl next in
    let after = got.0 in
    let moved = got.1.moved in (
      after,
      record {
        part = moved.part;
        place = c.follow.ensures.exchange worked m after 1 1 1 (pos 5) (Value (pos 5)) peer_exchanges
            (Waited 1 1 ∷ e_signalled) worked-is (omega arith) k.part one_by_one k.place refl
            refl got.1;
        x = moved.elsewhere 0 (λ same. omega arith) ∙ k.x;
        e = moved.here;
        number_x = moved.numbers 0 1 ∙ k.number_x;
        number_e = moved.numbers 1 1 ∙ k.number_e;
      },
    )

pub returns-clause-next : goal.returns-clause-next
returns-clause-next c = λ m k.
    c.tells_next.ensures.values worked m 1 1 1 (pos 10 ∷ []) peer_owes_y worked-is (omega arith)
    k.part one_by_one k.place refl refl
