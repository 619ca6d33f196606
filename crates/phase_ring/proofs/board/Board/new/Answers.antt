-- The task enters a ring of empty slots twice.
use Rattle.std.proofs.Common.{◌≡◌, ◌+◌, ap, ◌∙◌, arith}
use Rattle.phase_ring.specs.declared.role.Role.TheVariants.{Waiter}
use Rattle.phase_ring.specs.Rings.{fresh_ring}
use Rattle.phase_ring.proofs.Founded.{fresh_few, first_entered, next_within, founded}
use Rattle.phase_ring.proofs.board.Board.new.Goals as goal

pub enter-requires-2-clause-within : goal.enter-requires-2-clause-within
enter-requires-2-clause-within g c =
    let op = g.A.Accumulate.operation in
    let bound = c.args.limits.bound in
    let fresh : c.in_ok-ring.ring ≡ fresh_ring op (bound + 1) = c.in_ok-ring.ensures ∙ ap (λ n. fresh_ring op (n + 1)) c.bound.ensures.value in
    next_within op bound c.in_ok-ring.ring c.enter.new.self fresh (first_entered op bound c.in_ok-ring.ring c.enter.new.self fresh c.enter.ensures)

pub enter-requires-2-clause-few : goal.enter-requires-2-clause-few
enter-requires-2-clause-few g c =
    let op = g.A.Accumulate.operation in
    let bound = c.args.limits.bound in
    let fresh : c.in_ok-ring.ring ≡ fresh_ring op (bound + 1) = c.in_ok-ring.ensures ∙ ap (λ n. fresh_ring op (n + 1)) c.bound.ensures.value in
    let m = first_entered op bound c.in_ok-ring.ring c.enter.new.self fresh c.enter.ensures in
    omega (arith, m.others 0, fresh_few op bound c.in_ok-ring.ring Waiter 0 fresh)

pub returns-clause-invariant : goal.returns-clause-invariant
returns-clause-invariant g c =
    let op = g.A.Accumulate.operation in
    let bound = c.args.limits.bound in
    let fresh : c.in_ok-ring.ring ≡ fresh_ring op (bound + 1) = c.in_ok-ring.ensures ∙ ap (λ n. fresh_ring op (n + 1)) c.bound.ensures.value in
    (founded op bound c.in_ok-ring.ring c.enter.new.self c.enter-2.new.self fresh c.enter.ensures c.enter-2.ensures).kept

pub returns-clause-base : goal.returns-clause-base
returns-clause-base g c =
    let op = g.A.Accumulate.operation in
    let bound = c.args.limits.bound in
    let fresh : c.in_ok-ring.ring ≡ fresh_ring op (bound + 1) = c.in_ok-ring.ensures ∙ ap (λ n. fresh_ring op (n + 1)) c.bound.ensures.value in
    (founded op bound c.in_ok-ring.ring c.enter.new.self c.enter-2.new.self fresh c.enter.ensures c.enter-2.ensures).base

pub returns-clause-standing : goal.returns-clause-standing
returns-clause-standing g c =
    let op = g.A.Accumulate.operation in
    let bound = c.args.limits.bound in
    let fresh : c.in_ok-ring.ring ≡ fresh_ring op (bound + 1) = c.in_ok-ring.ensures ∙ ap (λ n. fresh_ring op (n + 1)) c.bound.ensures.value in
    (founded op bound c.in_ok-ring.ring c.enter.new.self c.enter-2.new.self fresh c.enter.ensures c.enter-2.ensures).stands
