-- Turns that stay as they are but for what they know.
use Rattle.std.specs.Prelude.{◌≡◌}
use Rattle.turn_lock.specs.declared.seat.Turn.{Turn}
use Rattle.turn_lock.specs.Seats.{turn_place, turn_number, turn_view, turn_value, turn_told}

module _ {T N V : Type 0} where
  -- the same turn, with the same value, which knows this
  pub record IsSameTurn (old new : Turn T N V) (Knows : V → Type 0) : Type 0 where
    pub place : turn_place new ≡ turn_place old
    pub number : turn_number new ≡ turn_number old
    pub value : turn_value new ≡ turn_value old
    pub told : turn_told new ≡ turn_told old
    pub knows : Knows (turn_view new)

  -- what it knows is what another does
  abbrev pub KnowsOfTurn : Turn T N V → V → Type 0
  KnowsOfTurn old v = v ≡ turn_view old
