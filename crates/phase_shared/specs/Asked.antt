-- A registration that has asked for its next phase, between two calls.
use Rattle.std.specs.Prelude.{◌≡◌, ℕ, ◌+◌, true, Option, Some, None, is_ok, Result}
use Rattle.turn_lock.specs.declared.seat.Seat.{Seat}
use Rattle.turn_lock.specs.Seats.{seat_place, seat_view}
use Rattle.phase_shared.specs.Phasers.{Entry, Got, Operation, Outcome, Parcel, SignalRefusal, entry_of, members_of, mode_signals, mode_waits}
use Rattle.phase_history.specs.declared.got.Got.TheVariants.{Value}
use Rattle.phase_history.specs.declared.refusal.SignalRefusal.TheVariants.{NoTask}
use Rattle.phase_shared.specs.Calls.{IsCall, HeldAfter, SignalsAndMayWait}
use Rattle.phase_shared.specs.Entries.{entry_after_both, entry_after_next}
use Rattle.phase_shared.specs.Nexts.{GoesOrRefuses}
use Rattle.phase_shared.specs.Regs.{RegState, reg_state}
use Rattle.phase_shared.specs.Rule.{Allows, IsGoodAt}
use Rattle.phase_shared.specs.Servings.{ask_of, AsksAt, IsRequestOf}
use Rattle.phase_shared.specs.Views.{known_of}
use Rattle.phase_shared.specs.declared.next.Next.{Next}
use Rattle.phase_shared.specs.declared.rule.Terms.{Terms}
use Rattle.phase_shared.specs.declared.seats.request.Request.{Request}
use Rattle.phase_shared.specs.declared.seats.view.View.{View}

-- for the code: where a registration stands after the phase that it asked for, and after its
-- signal alone
abbrev pub entry_gone : Entry → Request → Entry
entry_gone entry r =
    record entry { signal_phase = r.phase + 1; wait_phase = r.phase + 1 }

abbrev pub entry_signalled : Entry → Request → Entry
entry_signalled entry r = record entry { signal_phase = r.phase + 1 }

module _ {A K : Type 0} (op : Operation A) (allows : K → Allows) where
  -- for the code: what holds of a seat that asks, whose task had this entry and held this when it
  -- asked
  pub record IsAsked {T : Type 0} (seat : Seat T (Terms K) View) (entry : Entry) (held : Parcel A)
      (r : Request) : Type 0 where
    pub terms : Terms K
    pub named : (seat_place seat).1 ≡ Some terms
    pub asks : AsksAt terms.limits (allows terms.rule) (ask_of r) (known_of (seat_view seat)).seen
        (seat_view seat)
    pub request : IsRequestOf op r (reg_state {T = T} {K = K} (Some seat) r.task entry held)
    pub signals : mode_signals entry.mode ≡ true
    pub waits : mode_waits entry.mode ≡ true
    pub member : entry_of (members_of (known_of (seat_view seat)).seen) r.task ≡ Some entry
    pub good : IsGoodAt allows terms (known_of (seat_view seat)).seen

  -- what an ask ends with: what `Reg::next` answers, since the registration asked
  abbrev pub IsGone : Terms K → RegState A K → RegState A K → Result Next SignalRefusal → Type 0
  IsGone terms old new result =
      IsCall allows terms NoTask entry_after_next
      (GoesOrRefuses op terms.limits None old new.seen result) old new result

  pub record HasGone (terms : Terms K) (old new : RegState A K) (result : Result Next SignalRefusal)
      : Type 0 where
    pub call : IsGone terms old new result
    pub held : HeldAfter op (is_ok result) old.held new.held

  -- what an ask ends with that is taken back: what `Reg::try_signal_and_wait` answers, since the
  -- registration asked
  abbrev pub IsTakenBack : Terms K → RegState A K → RegState A K
      → Result (ℕ × Option Got) SignalRefusal → Type 0
  IsTakenBack terms old new result =
      IsCall allows terms NoTask entry_after_both
      (SignalsAndMayWait true op terms.limits old.number old.held None old.seen new.seen result)
      old new result

  pub record HasTakenBack (terms : Terms K) (old new : RegState A K)
      (result : Result (ℕ × Option Got) SignalRefusal) : Type 0 where
    pub call : IsTakenBack terms old new result
    pub held : HeldAfter op (is_ok result) old.held new.held

-- what was got is a value: a phase that was asked for never ends as one that no signaller has
pub record IsValue (got : Option Got) : Type 0 where
  pub phase : ℕ
  pub outcome : Outcome
  pub is : got ≡ Some (Value phase outcome)
