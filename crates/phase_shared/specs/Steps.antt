-- What holds of every step of a seat that speaks for one task.
use Rattle.std.specs.Prelude.{◌≡◌, ◌≢◌, ℕ, ◌%◌, List, [], ◌∷◌, ◌++◌, true, Option, Result, Ok, Err}
use Rattle.std.specs.Result.{result_ok}
use Rattle.turn_lock.specs.declared.seat.Seat.{Seat}
use Rattle.turn_lock.specs.WordSteps.{GivesOf}
use Rattle.turn_lock.specs.Seats.{seat_view}
use Rattle.phase_shared.specs.Phasers.{is_distinct, Entry, Mode, RegisterRefusal, History, entry_at, OnlyUsed, OthersCame}
use Rattle.phase_base.specs.declared.mode.Mode.TheVariants.{Wait}
use Rattle.phase_shared.specs.declared.seats.locked.LockedPhaser.{LockedPhaser}
use Rattle.phase_shared.specs.declared.seats.view.View.{View}
use Rattle.phase_shared.specs.declared.rule.Terms.{Terms}
use Rattle.phase_shared.specs.declared.tried.Tried.{Tried}
use Rattle.phase_shared.specs.declared.tried.Tried.TheVariants.{Busy, Refused}
use Rattle.phase_shared.specs.LockedPhasers.{locked_place, locked_terms, RestsOn}
use Rattle.phase_shared.specs.Views.{known_of, resting}
use Rattle.phase_shared.specs.Rule.{Allows, IsGoodAt, IsSeatOfTask}
use Rattle.phase_shared.specs.Calls.{HasRegistered, RefusesRegister}
use Rattle.phase_shared.specs.Joins.{HasRegisteredNow}

-- a give that answers no ask: it tells any even number, or what was told
abbrev pub GivesNoAnswer : {N T V : Type 0} → (N → Option T → ℕ → List ℕ → List V → Type 0) → N
    → ℕ → V → T → ℕ → (V → T → V → Type 0) → Type 0
GivesNoAnswer holds name number v y told then =
    (next : ℕ) → (next % 2 ≡ 1 → next ≡ told) → GivesOf holds name number v y told next then

module _ {T A K : Type 0} (allows : K → Allows) (phaser : LockedPhaser A K) where
  -- a seat of the phaser, at rest, that speaks for one registered task
  abbrev pub IsSeatOn : ℕ → Entry → Seat T (Terms K) View → Type 0
  IsSeatOn me entry seat = RestsOn (locked_place phaser) seat
      (IsSeatOfTask allows (locked_terms phaser) me entry)

  -- a step of a seat, of which `answered` says what it answered and what was seen by it. The task
  -- stands where `after` says; it is never answered that it is no member, nor, where it is the
  -- only one that its seat has seen, that the turn was another's
  pub record IsStep {X R : Type 0} (me : ℕ) (no_task : R) (after : Option X → Entry → Entry)
      (answered : Type 0) (entry new_entry : Entry) (old new : Seat T (Terms K) View)
      (result : Result X (Tried R)) : Type 0 where
    pub call : answered
    pub at : IsSeatOn me new_entry new
    pub entry_is : new_entry ≡ after (result_ok result) entry
    pub known : result ≢ Err (Refused no_task)
    pub alone : OnlyUsed (me ∷ []) (known_of (seat_view old)).seen → result ≢ Err Busy

  -- two seats at rest that met have seen one good history, and each speaks for what it spoke for
  pub record HaveMet (v w : View) (first other : Seat T (Terms K) View) : Type 0 where
    pub now : History
    pub left : RestsOn (locked_place phaser) first (λ u. u ≡ resting now (known_of v).speaks)
    pub right : RestsOn (locked_place phaser) other (λ u. u ≡ resting now (known_of w).speaks)
    pub begins : OthersCame (known_of v).speaks (known_of v).seen now
        × OthersCame (known_of w).speaks (known_of w).seen now
    pub distinct : is_distinct ((known_of v).speaks ++ (known_of w).speaks) ≡ true
    pub good : IsGoodAt allows (locked_terms phaser) now

  -- an accepted registration: the child's seat stands where the parent's does, in its own mode, and
  -- has seen what the parent's has
  pub record HasChild (me child : ℕ) (mode : Mode) (entry start : Entry) (old new : History)
      (made : Seat T (Terms K) View) : Type 0 where
    pub registered : HasRegistered me child mode old new
    pub at : IsSeatOn child start made
    pub seen : (known_of (seat_view made)).seen ≡ new
    pub start_is : start ≡ entry_at mode entry.signal_phase entry.wait_phase

  -- an accepted registration of a waiter that joins now: its seat has seen what the parent's has
  pub record HasChildNow (me child : ℕ) (entry start : Entry) (old new : History)
      (made : Seat T (Terms K) View) : Type 0 where
    pub registered : HasRegisteredNow me child entry start old new
    pub at : IsSeatOn child start made
    pub seen : (known_of (seat_view made)).seen ≡ new

  -- for the code: a registration under the turn, by the number, the seat and the entry of the
  -- child, or by the refusal
  abbrev pub RegistersSeat : ℕ → Mode → Entry → History → History
      → Result (ℕ × Seat T (Terms K) View × Entry) RegisterRefusal → Type 0
  RegistersSeat me mode entry old new (Ok made) =
      HasChild me made.0 mode entry made.2 old new made.1
  RegistersSeat me mode entry old new (Err refusal) = RefusesRegister me mode old new refusal

  -- for the code: the same of a waiter that joins now
  abbrev pub RegistersSeatNow : ℕ → Entry → History → History
      → Result (ℕ × Seat T (Terms K) View × Entry) RegisterRefusal → Type 0
  RegistersSeatNow me entry old new (Ok made) = HasChildNow me made.0 entry made.2 old new made.1
  RegistersSeatNow me entry old new (Err refusal) = RefusesRegister me Wait old new refusal
