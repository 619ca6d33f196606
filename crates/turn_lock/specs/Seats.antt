-- What a clause says of a lock, its seats and its turns.
-- A place says which lock it is, as plain data: its table, which no other lock has, and its name.
use Rattle.std.specs.Prelude.{◌≡◌, ℕ, Option, Some}
use Rattle.atomic_table.specs.Lent.{seat_with}
use Rattle.atomic_table.specs.Seated.{TableId}
use Rattle.turn_lock.specs.Held.{alone_value, alone_with}
use Rattle.turn_lock.specs.declared.seat.Seat.{Seat}
use Rattle.turn_lock.specs.declared.seat.Turn.{Turn}
use Rattle.turn_lock.specs.declared.lock.TurnLock.{TurnLock}
use Rattle.turn_lock.specs.declared.words.WordLock.{WordLock}

-- a lock's place, with names of type N
abbrev pub Place : Type 0 → Type 0
Place N = TableId × Option N

module _ {T N V : Type 0} where
  -- the lock that the seat belongs to
  abbrev pub seat_place : Seat T N V → Place N
  seat_place s = (s.inner.table_id, s.inner.me.0.name)

  -- the place of the seat's view among all views
  abbrev pub seat_number : Seat T N V → ℕ
  seat_number s = s.inner.id

  -- what the seat knows
  abbrev pub seat_view : Seat T N V → V
  seat_view s = s.inner.me.0.client

  -- the lock that the turn belongs to
  abbrev pub turn_place : Turn T N V → Place N
  turn_place t = (t.inner.table_id, t.inner.me.0.name)

  -- the number of the seat that the turn was made of
  abbrev pub turn_number : Turn T N V → ℕ
  turn_number t = t.inner.id

  -- what the seat that has the turn knows
  abbrev pub turn_view : Turn T N V → V
  turn_view t = t.inner.me.0.client

  -- the value that is out with the turn
  abbrev pub turn_value : Turn T N V → T
  turn_value t = alone_value t.inner.me.1 t.out

  -- what the lock tells while the turn lasts, where it is a lock with words
  abbrev pub turn_told : Turn T N V → ℕ
  turn_told t = t.inner.me.0.told

  -- the turn, with another value
  abbrev pub turn_with : Turn T N V → T → Turn T N V
  turn_with t x = record {
    inner = seat_with t.inner 0 x;
    turns = t.turns;
    out = alone_with x t.inner.me.1 t.out;
  }

  -- the seat belongs to the lock at the place
  abbrev pub IsSeatAt : Place N → Seat T N V → Type 0
  IsSeatAt place s = seat_place s ≡ place

  -- the turn belongs to the lock at the place
  abbrev pub IsTurnAt : Place N → Turn T N V → Type 0
  IsTurnAt place t = turn_place t ≡ place

  -- a seat of the same lock, with the same number and view
  abbrev pub IsSameSeat : Seat T N V → Seat T N V → Type 0
  IsSameSeat old new =
      (seat_place new ≡ seat_place old) × (seat_number new ≡ seat_number old)
      × (seat_view new ≡ seat_view old)

module _ {T R N V : Type 0} where
  -- what the lock was told when it was made
  abbrev pub lock_name : TurnLock T R N V → N
  lock_name l = l.words.table.shared.key

  -- which lock it is
  abbrev pub lock_place : TurnLock T R N V → Place N
  lock_place l = (l.words.table.shared.table_id, Some (lock_name l))

  -- the seat belongs to the lock
  abbrev pub IsSeatOf : TurnLock T R N V → Seat T N V → Type 0
  IsSeatOf l s = IsSeatAt (lock_place l) s

  -- the turn belongs to the lock
  abbrev pub IsTurnOf : TurnLock T R N V → Turn T N V → Type 0
  IsTurnOf l t = IsTurnAt (lock_place l) t

  -- what the lock with words was told when it was made
  abbrev pub word_lock_name : WordLock T R N V → N
  word_lock_name l = l.table.shared.key

  -- which lock it is
  abbrev pub word_lock_place : WordLock T R N V → Place N
  word_lock_place l = (l.table.shared.table_id, Some (word_lock_name l))
