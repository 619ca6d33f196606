use Rattle.std.proofs.Common.{arith, ap, ◌∙◌}
use Rattle.turn_lock.proofs.WordKeeping.{sees, tries_after}
use Rattle.turn_lock.proofs.words.WordLock.try_take.Goals as goal

-- the seat rests, so it may look
pub load-seen-requires : goal.load-seen-requires
load-seen-requires g c = (
  ap (λ p. p.0) c.requires.seat,
  (let sized = c.args.self.now.sized in omega arith),
  sees g.R.WordRule.holds c.args.self.now.table.shared.key c.args.self.now.table.shared.table_id.slots c.args.seat.inner.id c.args.seat.inner.me
      c.args.seat.rests.0 (ap (λ p. p.1) c.requires.seat),
)

-- and try after that, since it is as it was
pub fetch_or-found-requires : goal.fetch_or-found-requires
fetch_or-found-requires g c = (
  c.load-seen.ensures.0 ∙ ap (λ p. p.0) c.requires.seat,
  (let sized = c.args.self.now.sized in omega arith),
  tries_after g.R.WordRule.holds c.args.self.now.table.shared.key c.args.self.now.table.shared.table_id.slots c.load-seen.new.seat.id c.args.seat.inner.id
      c.load-seen.new.seat.me c.args.seat.inner.me g.M.Tells.then c.load-seen.ensures.1 c.load-seen.ensures.2.0
      c.args.seat.rests.0 c.args.seat.rests.1 (ap (λ p. p.1) c.requires.seat) c.requires.rule,
)
