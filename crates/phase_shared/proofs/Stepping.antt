-- A step of a seat, from its take to its give, whichever call of the core it makes.
use Rattle.std.proofs.Common.{◌≡◌, ◌≢◌, ℕ, true, false, [], ◌∷◌, Option, Some, None, sym, ap, subst, ◌∙◌}
use Rattle.std.specs.Prelude.{Result, Err, is_some}
use Rattle.std.specs.Result.{result_ok}
use Rattle.turn_lock.specs.declared.seat.Seat.{Seat}
use Rattle.turn_lock.specs.Seats.{IsSeatAt, seat_view}
use Rattle.phase_shared.specs.Phasers.{entry_of, Entry, Operation, History, members_of, OnlyUsed, CoreState, StandsFor}
use Rattle.phase_shared.specs.declared.seats.locked.LockedPhaser.{LockedPhaser}
use Rattle.phase_shared.specs.declared.seats.view.View.{View}
use Rattle.phase_shared.specs.declared.rule.Terms.{Terms}
use Rattle.phase_shared.specs.declared.tried.Tried.{Tried}
use Rattle.phase_shared.specs.declared.tried.Tried.TheVariants.{Busy}
use Rattle.phase_shared.specs.LockedPhasers.{locked_place, locked_terms}
use Rattle.phase_shared.specs.Views.{Unknown, resting, turning, known_of}
use Rattle.phase_shared.specs.Rule.{Allows, IsGoodAt, HasOneHistory, StandsWithin, AfterTake, Keeps}
use Rattle.phase_shared.specs.Calls.{Tries, tried}
use Rattle.phase_shared.specs.Steps.{IsStep, IsSeatOn, GivesNoAnswer}
use Rattle.phase_shared.proofs.Answering.{tries, result_ok-tried, tried_never_busy, refused_as}
use Rattle.phase_shared.proofs.Giving.{OwnCame, AfterCall, after_call, gives_own, station, told_entry}

-- what the give told of the turn's view, in other words
pub told_at : (f : View → View) (u w v : View) → u ≡ f w → w ≡ v → u ≡ f v
told_at f u w v told is = told ∙ ap f is

module _ {A K : Type 0} (op : Operation A) (allows : K → Allows) (terms : Terms K) (me : ℕ) where
  -- what a call of the core leaves: the task's own events came, the core stands for the history with
  -- them, and the task stands here
  pub record Called (now new : History) (x : CoreState A) (expected : Entry) : Type 0 where
    pub own : OwnCame me now new
    pub good : IsGoodAt allows terms new
    pub stands : StandsWithin op terms.limits x new
    pub member : entry_of (members_of new) me ≡ Some expected

  pub called : (now new : History) (old x : CoreState A) (expected : Entry) → StandsWithin op terms.limits old now → x.limits ≡ old.limits
      → StandsFor op x new → Keeps (allows terms.rule) new → OwnCame me now new → entry_of (members_of new) me ≡ Some expected → Called now new x expected
  called now new old x expected before same after keeps own member =
      let s : AfterCall op allows terms me new x = after_call op allows terms me now new old x before same after keeps in
      record { own = own; good = s.good; stands = s.stands; member = member }

  -- so the task is one of the core's members
  pub is_found : (now new : History) (x : CoreState A) (expected : Entry) (o : Option Entry) → Called now new x expected
      → o ≡ entry_of x.members me → o ≡ None → ⊥
  is_found now new x expected o c viewed none =
      let there : is_some o ≡ true =
      ap is_some viewed ∙ ap (λ ms. is_some (entry_of ms me)) c.stands.stands.members_are ∙ ap is_some c.member in
      let z : false ≡ true = sym (ap is_some none) ∙ there in
      cc

  -- the give
  pub gives_called : (goes : View → View → Type 0) (number told : ℕ) (entry : Entry) (v : View) (w : View) (y x : CoreState A) (new : History) (expected : Entry)
      → (e : AfterTake op allows terms me entry v y w) → Called e.now new x expected
      → goes (turning e.now (me ∷ []) e.claims e.said Unknown) (resting new (me ∷ []))
      → GivesNoAnswer (HasOneHistory op allows) terms number w x told (λ p q r. goes p r)
  gives_called goes number told entry v w y x new expected e c goes_on =
      gives_own op allows terms me goes number told x w e.now new e.claims e.said e.is e.used c.own c.good c.stands goes_on

module _ {A K : Type 0} (op : Operation A) (allows : K → Allows) (phaser : LockedPhaser A K) (me : ℕ) where
  abbrev terms : Terms K
  terms = locked_terms phaser

  abbrev PhaserSeat : Type 0
  PhaserSeat = Seat (CoreState A) (Terms K) View

  -- the step, once its seat rests again
  pub stepped : {X R : Type 0} (no_task : R) (after : Option X → Entry → Entry) (same : Type 0) (call : Result X R → Type 0) (entry new_entry : Entry)
      (old u : PhaserSeat) (now new : History) (x : CoreState A) (o : Option Entry) (answer : Result X R) (result : Result X (Tried R)) → result ≡ tried answer
      → Called op allows terms me now new x (after (result_ok answer) entry) → IsSeatAt (locked_place phaser) u → seat_view u ≡ resting new (me ∷ [])
      → o ≡ entry_of x.members me → o ≡ Some new_entry
      → call answer → answer ≢ Err no_task → IsStep allows phaser me no_task after (Tries same call result) entry new_entry old u result
  stepped {X} {R} no_task after same call entry new_entry old u now new x o answer result is c here rests viewed some answered known = record {
    call = subst (Tries same call) (sym is) (tries same call answer answered);
    at = record { here = here; knows = station op allows terms me new_entry (seat_view u) new x o rests c.good c.stands viewed some };
    entry_is = told_entry op allows terms me new_entry (after (result_ok answer) entry) new x o c.stands viewed some c.member
        ∙ ap (λ (r : Option X). after r entry) (sym (result_ok-tried answer) ∙ sym (ap result_ok is));
    known = λ none. known (refused_as answer no_task (sym is ∙ none));
    alone = λ only busy. tried_never_busy answer (sym is ∙ busy);
  }

  -- a step whose turn was another's
  pub kept_out : {X R : Type 0} (no_task : R) (after : Option X → Entry → Entry) (answered : Type 0) (entry : Entry) (old u : PhaserSeat)
      → entry ≡ after None entry → answered → IsSeatOn allows phaser me entry u → (OnlyUsed (me ∷ []) (known_of (seat_view old)).seen → ⊥)
      → IsStep allows phaser me no_task after answered entry entry old u (Err Busy)
  kept_out no_task after answered entry old u stood answer still never = record {
    call = answer;
    at = still;
    entry_is = stood;
    known = λ none. cc;
    alone = λ only. absurd (never only);
  }
