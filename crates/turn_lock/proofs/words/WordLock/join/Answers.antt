use Rattle.std.proofs.Common.{false, arith, ap, ◌∙◌}
use Rattle.turn_lock.specs.Seats.{word_lock_name, seat_number, seat_view}
use Rattle.turn_lock.specs.Word.{doing}
use Rattle.turn_lock.proofs.WordKeeping.{joins, joined_looks}
use Rattle.turn_lock.proofs.words.WordLock.join.Goals as goal

-- both seats rest, so the turn stays where it is
pub join_seat-requires : goal.join_seat-requires
join_seat-requires g c = (
  ap (λ p. p.0) c.requires.seats.0,
  ap (λ p. p.0) c.requires.seats.1,
  c.args.other.rests.1,
  (let sized = c.args.self.now.sized in omega arith),
  joins g.R.WordRule.holds c.args.self.now.table.shared.key c.args.seat.inner.id c.args.other.inner.id c.args.seat.inner.me.0 c.args.other.inner.me.0 _ _
      c.args.seat.rests.0 c.args.other.rests.0 c.requires.merges,
)

-- the joined seat looks
pub load-requires : goal.load-requires
load-requires g c = (
  c.join_seat.ensures.0 ∙ ap (λ p. p.0) c.requires.seats.0,
  (let sized = c.args.self.now.sized in omega arith),
  joined_looks g.R.WordRule.holds (word_lock_name c.args.self.now) c.args.self.now.table.shared.table_id.slots c.join_seat.new.seat.id (seat_number c.args.seat)
      c.join_seat.new.seat.me (doing c.args.seat.inner.me.0.name false (g.M.Join.both (seat_view c.args.seat) (seat_view c.args.other)))
      c.args.seat.inner.me.1 g.L.Learns.then c.join_seat.ensures.1 c.join_seat.ensures.2 (ap (λ p. p.1) c.requires.seats.0)
      c.requires.looks,
)
