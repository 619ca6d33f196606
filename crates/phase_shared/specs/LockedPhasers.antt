-- What contracts see of a phaser under a lock.
use Rattle.std.specs.Prelude.{Option, Some, None, []}
use Rattle.turn_lock.specs.declared.seat.Seat.{Seat}
use Rattle.turn_lock.specs.declared.seat.Turn.{Turn}
use Rattle.turn_lock.specs.Seats.{Place, IsSeatAt, IsTurnAt, seat_view, turn_value, turn_view, word_lock_name, word_lock_place}
use Rattle.phase_base.specs.Limits.{Limits}
use Rattle.phase_shared.specs.declared.rule.Terms.{Terms}
use Rattle.phase_shared.specs.declared.seats.locked.LockedPhaser.{LockedPhaser}

-- for the code: the place of no lock, and terms without a rule
abbrev pub no_place : {N : Type 0} → Place N
no_place = (
  record {
    words = 0;
    slots = 0;
    views_name = 0;
    atom = 0;
    block = 0;
    offset = 0;
    slot_names = [];
  },
  None,
)

abbrev pub no_terms : {K : Type 0} → Terms (Option K)
no_terms = record {
  limits = record { bound = 0; phases_max = 0 };
  rule = None;
}

-- the same terms, with the rule that there is
abbrev pub some_terms : {K : Type 0} → Terms K → Terms (Option K)
some_terms terms = record { limits = terms.limits; rule = Some terms.rule }

module _ {T N V : Type 0} (place : Place N) where
  -- a seat of the lock at this place, which knows this
  pub record RestsOn (seat : Seat T N V) (Knows : V → Type 0) : Type 0 where
    pub here : IsSeatAt place seat
    pub knows : Knows (seat_view seat)

  -- a turn of it, which knows this of the value
  pub record IsTurnOn (turn : Turn T N V) (Knows : T → V → Type 0) : Type 0 where
    pub here : IsTurnAt place turn
    pub knows : Knows (turn_value turn) (turn_view turn)

module _ {A K : Type 0} where
  -- which phaser it is
  abbrev pub locked_place : LockedPhaser A K → Place (Terms K)
  locked_place p = word_lock_place p.lock

  -- the limits and the rule that it was made with
  abbrev pub locked_terms : LockedPhaser A K → Terms K
  locked_terms p = word_lock_name p.lock

  -- the limits alone
  abbrev pub locked_limits : LockedPhaser A K → Limits
  locked_limits p = (locked_terms p).limits
