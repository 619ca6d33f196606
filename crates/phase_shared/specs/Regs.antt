-- What contracts see of a phaser, a registration and a past.
use Rattle.std.specs.Prelude.{◌≡◌, ℕ, List, Option, Some, None, true, is_some}
use Rattle.turn_lock.specs.declared.seat.Seat.{Seat}
use Rattle.turn_lock.specs.Seats.{Place, seat_place, seat_view}
use Rattle.phase_shared.specs.Phasers.{Limits, Entry, Parcel, History, is_distinct}
use Rattle.phase_shared.specs.declared.seats.view.View.{View}
use Rattle.phase_shared.specs.declared.seats.view.View.TheVariants.{Spent}
use Rattle.phase_shared.specs.Views.{resting, known_of}
use Rattle.phase_shared.specs.declared.rule.Terms.{Terms}
use Rattle.phase_shared.specs.Rule.{Allows, IsGoodAt, IsSeatOfTask}
use Rattle.phase_shared.specs.LockedPhasers.{locked_place, locked_terms, no_place}
use Rattle.phase_shared.specs.declared.phaser.Phaser.{Phaser}

-- a registration: its phaser, its number, its mode and phases, the sends that it holds, and the
-- history that it has seen
pub record RegState (A K : Type 0) : Type 0 where
  pub at : Place (Terms K)
  pub number : ℕ
  pub entry : Entry
  pub held : Parcel A
  pub seen : History

-- a past: its phaser, the numbers of the registrations that went into it, and the history that was
-- seen. It is of one type for every accumulator
pub record PastState (K : Type 0) : Type 0 where
  pub at : Place (Terms K)
  pub numbers : List ℕ
  pub seen : History

-- what was seen is legal and keeps the rule, by the terms of the phaser at this place
abbrev pub IsGoodOn : {K : Type 0} → (K → Allows) → Place (Terms K) → History → Type 0
IsGoodOn {K} allows at seen = (terms : Terms K) → at.1 ≡ Some terms → IsGoodAt allows terms seen

module _ {A K : Type 0} where
  -- which phaser it is
  abbrev pub phaser_lock : Phaser A K → Place (Terms K)
  phaser_lock p = locked_place p.locked

  -- the limits and the rule that it was made with
  abbrev pub phaser_terms : Phaser A K → Terms K
  phaser_terms p = locked_terms p.locked

  -- the limits alone
  abbrev pub phaser_limits : Phaser A K → Limits
  phaser_limits p = (phaser_terms p).limits

module _ {T K : Type 0} where
  -- for the code: the place of a seat that is there
  abbrev pub index_in : Option (Seat T (Terms K) View) → Place (Terms K)
  index_in None = no_place
  index_in (Some s) = seat_place s

  -- for the code: the view of a seat that is there
  abbrev pub view_in : Option (Seat T (Terms K) View) → View
  view_in None = Spent
  view_in (Some s) = seat_view s

  -- for the code: what holds of the parts of a registration
  pub record IsReg (allows : K → Allows) (seat : Option (Seat T (Terms K) View)) (me : ℕ)
      (entry : Entry) : Type 0 where
    pub terms : Terms K
    pub named : (index_in seat).1 ≡ Some terms
    pub there : is_some seat ≡ true
    pub station : IsSeatOfTask allows terms me entry (view_in seat)

  -- the parts of a registration, as contracts see it
  abbrev pub reg_state : {A : Type 0} → Option (Seat T (Terms K) View) → ℕ → Entry → Parcel A
      → RegState A K
  reg_state seat me entry held = record {
    at = index_in seat;
    number = me;
    entry = entry;
    held = held;
    seen = (known_of (view_in seat)).seen;
  }

  -- for the code: what holds of a past's seat
  pub record IsPast (allows : K → Allows) (seat : Seat T (Terms K) View) : Type 0 where
    pub terms : Terms K
    pub named : (seat_place seat).1 ≡ Some terms
    pub rests : seat_view seat
        ≡ resting (known_of (seat_view seat)).seen (known_of (seat_view seat)).speaks
    pub distinct : is_distinct (known_of (seat_view seat)).speaks ≡ true
    pub good : IsGoodAt allows terms (known_of (seat_view seat)).seen

  -- a past's seat, as contracts see it
  abbrev pub past_state : Seat T (Terms K) View → PastState K
  past_state seat = record {
    at = seat_place seat;
    numbers = (known_of (seat_view seat)).speaks;
    seen = (known_of (seat_view seat)).seen;
  }
