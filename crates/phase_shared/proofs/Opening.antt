-- A registration is taken apart and put together.
use Rattle.turn_lock.specs.Seats.{IsSameSeat, seat_place, seat_view}
use Rattle.phase_shared.specs.Phasers.{Parcel, Entry, History, OnlyUsed}
use Rattle.phase_shared.specs.Views.{known_of}
use Rattle.phase_shared.specs.Regs.{RegState, reg_state, IsReg, index_in, view_in}
use Rattle.std.proofs.Common.{◌≡◌, ℕ, [], ◌∷◌, Option, Some, refl, sym, ap, subst, ◌∙◌}
use Rattle.turn_lock.specs.declared.seat.Seat.{Seat}
use Rattle.phase_shared.specs.declared.seats.locked.LockedPhaser.{LockedPhaser}
use Rattle.phase_shared.specs.LockedPhasers.{locked_place, locked_terms}
use Rattle.phase_shared.specs.declared.seats.view.View.{View}
use Rattle.phase_shared.specs.declared.rule.Terms.{Terms}
use Rattle.phase_shared.specs.Rule.{Allows, IsSeatOfTask}
use Rattle.std.specs.Prelude.{Result, Ok, Err, IsErr}
use Rattle.std.specs.Result.{result_ok}
use Rattle.std.proofs.lemmas.Option.{same_Some}
use Rattle.phase_shared.specs.declared.tried.Tried.{Tried}
use Rattle.phase_shared.specs.declared.tried.Tried.TheVariants.{Busy, Refused}
use Rattle.phase_shared.specs.Steps.{IsStep, IsSeatOn}
use Rattle.phase_shared.specs.Calls.{IsTry, Tries}
use Rattle.phase_shared.specs.Entries.{entry_stays}

module _ {T A K : Type 0} (allows : K → Allows) (phaser : LockedPhaser A K) (me : ℕ) where
  -- the seat of a registration on this phaser, and the registration as contracts see it
  pub record Opened (entry : Entry) (held : Parcel A) (s : Seat T (Terms K) View) (reg : RegState A K) : Type 0 where
    pub seat : IsSeatOn allows phaser me entry s
    pub is : reg_state (Some s) me entry held ≡ reg
    pub at : reg.at ≡ locked_place phaser

  pub opened : (entry : Entry) (held : Parcel A) (o : Option (Seat T (Terms K) View)) (s : Seat T (Terms K) View) (reg : RegState A K) → o ≡ Some s
      → IsReg allows o me entry → reg_state o me entry held ≡ reg → reg.at ≡ locked_place phaser → Opened entry held s reg
  opened entry held o s reg is r seen at =
      let here : index_in o ≡ locked_place phaser = ap (λ r. r.at) seen ∙ at in
      let same : r.terms ≡ locked_terms phaser = same_Some r.terms (locked_terms phaser) (sym r.named ∙ ap (λ p. p.1) here) in
      let station : IsSeatOfTask allows (locked_terms phaser) me entry (view_in o) = subst (λ (t : Terms K). IsSeatOfTask allows t me entry (view_in o)) same r.station in
      record {
        seat = record { here = sym (ap index_in is) ∙ here; knows = subst (λ (v : View). IsSeatOfTask allows (locked_terms phaser) me entry v) (ap view_in is) station };
        is = ap (λ p. reg_state p me entry held) (sym is) ∙ seen;
        at = at;
      }

  pub closed : (entry : Entry) (s : Seat T (Terms K) View) → IsSeatOn allows phaser me entry s → IsReg allows (Some s) me entry
  closed entry s seat = record { terms = locked_terms phaser; named = ap (λ p. p.1) seat.here; there = refl; station = seat.knows }

  -- a registration whose seat came back, with the entry and the sends that it had
  pub same_reg : (entry entry' : Entry) (held held' : Parcel A) (s s' : Seat T (Terms K) View) → IsSameSeat s s' → entry' ≡ entry → held' ≡ held
      → reg_state (Some s') me entry' held' ≡ reg_state (Some s) me entry held
  same_reg entry entry' held held' s s' same is held_is = λ i. record {
    at = same.0 i;
    number = me;
    entry = is i;
    held = held_is i;
    seen = (known_of (same.2 i)).seen;
  }

  -- a registration whose seat came back at its place, with what it knew
  pub same_place : (entry : Entry) (held : Parcel A) (s s' : Seat T (Terms K) View) → seat_place s' ≡ seat_place s → seat_view s' ≡ seat_view s
      → reg_state (Some s') me entry held ≡ reg_state (Some s) me entry held
  same_place entry held s s' place view = λ i. record { at = place i; number = me; entry = entry; held = held; seen = (known_of (view i)).seen }

  -- a step of a registration's seat is a try of the registration, where what stays of the one stays
  -- of the other
  pub is_try_as : {X R : Type 0} (no_task : R) (after : Option X → Entry → Entry) (same : Type 0) (same' : RegState A K → Type 0)
      (call : RegState A K → History → Result X R → Type 0)
      → (entry entry' : Entry) (held held' : Parcel A) (s s' : Seat T (Terms K) View) (reg : RegState A K) (result : Result X (Tried R))
      → Opened entry held s reg → ((answer : Option X) (e : Entry) → (after answer e).mode ≡ e.mode) → (IsErr result → same → same' (reg_state (Some s) me entry held))
      → IsStep allows phaser me no_task after (Tries same (call (reg_state (Some s) me entry held) (known_of (seat_view s')).seen) result) entry entry' s s' result
      → IsTry allows (locked_terms phaser) no_task after (Tries (same' reg) (call reg (known_of (seat_view s')).seen) result) reg (reg_state (Some s') me entry' held') result
  is_try_as {X} {R} no_task after same same' call entry entry' held held' s s' reg result o mode stays step =
      let old = reg_state (Some s) me entry held in
      let seen = (known_of (seat_view s')).seen in
      let P : RegState A K → Type 0 = λ r. Tries (same' r) (call r seen) result in
      let Q : RegState A K → Type 0 = λ r. OnlyUsed (r.number ∷ []) r.seen in
      let entry_is : entry' ≡ after (result_ok result) reg.entry = step.entry_is ∙ ap (λ (r : RegState A K). after (result_ok result) r.entry) o.is in
      record {
        call = subst P o.is (tried result stays step.call);
        entry = entry_is;
        mode = ap (λ (e : Entry). e.mode) entry_is ∙ mode (result_ok result) reg.entry;
        at = (step.at.here ∙ sym o.at, ap (λ (r : RegState A K). r.number) o.is);
        good = step.at.knows.good;
        known = step.known;
        alone = λ only. step.alone (subst Q (sym o.is) only);
      }
    where
      tried : (result : Result X (Tried R)) → (IsErr result → same → same' (reg_state (Some s) me entry held))
          → Tries same (call (reg_state (Some s) me entry held) (known_of (seat_view s')).seen) result
          → Tries (same' (reg_state (Some s) me entry held)) (call (reg_state (Some s) me entry held) (known_of (seat_view s')).seen) result
      tried (Ok answer) stays answered = answered
      tried (Err Busy) stays still = stays refl still
      tried (Err (Refused refusal)) stays answered = answered

  -- where nothing is lent beside it, it is as it was. What is held stays where the step is refused
  pub is_try : {X R : Type 0} (no_task : R) (after : Option X → Entry → Entry) (call : RegState A K → History → Result X R → Type 0)
      → (entry entry' : Entry) (held held' : Parcel A) (s s' : Seat T (Terms K) View) (reg : RegState A K) (result : Result X (Tried R))
      → Opened entry held s reg → ((answer : Option X) (e : Entry) → (after answer e).mode ≡ e.mode) → (IsErr result → held' ≡ held)
      → IsStep allows phaser me no_task after (Tries (IsSameSeat s s' × (entry' ≡ entry))
      (call (reg_state (Some s) me entry held) (known_of (seat_view s')).seen) result) entry entry' s s' result
      → IsTry allows (locked_terms phaser) no_task after (Tries (reg_state (Some s') me entry' held' ≡ reg) (call reg (known_of (seat_view s')).seen) result)
      reg (reg_state (Some s') me entry' held') result
  is_try no_task after call entry entry' held held' s s' reg result o mode stays step =
      is_try_as no_task after (IsSameSeat s s' × (entry' ≡ entry)) (λ r. reg_state (Some s') me entry' held' ≡ r) call entry entry' held held' s s' reg result
      o mode (λ err same. same_reg entry entry' held held' s s' same.0 same.1 (stays err)) step

module _ {A K X Y R : Type 0} (allows : K → Allows) (terms : Terms K) (no_task : R) (answered answered' : Type 0) (old new : RegState A K)
    (result : Result X (Tried R)) where
  -- an accepted try whose answer is told in another way
  pub told_as : (x : X) (y : Y) → result ≡ Ok x → IsTry {X = X} allows terms no_task entry_stays answered old new result → answered'
      → IsTry {X = Y} allows terms no_task entry_stays answered' old new (Ok y)
  told_as x y is t answer = record {
    call = answer;
    entry = t.entry;
    mode = t.mode;
    at = t.at;
    good = t.good;
    known = λ e. cc;
    alone = λ only e. cc;
  }

  -- a refused one
  pub refused_as : (tried : Tried R) → result ≡ Err tried → IsTry {X = X} allows terms no_task entry_stays answered old new result → answered'
      → IsTry {X = Y} allows terms no_task entry_stays answered' old new (Err tried)
  refused_as tried is t answer = record {
    call = answer;
    entry = t.entry;
    mode = t.mode;
    at = t.at;
    good = t.good;
    known = λ e. t.known (is ∙ ap Err (same_tried tried (Refused no_task) e));
    alone = λ only e. t.alone only (is ∙ ap Err (same_tried tried Busy e));
  }
    where
      same_tried : (x y : Tried R) → ◌≡◌ {A = Result Y (Tried R)} (Err x) (Err y) → x ≡ y
      same_tried x y e = cc

-- the refusal of a try whose accepted answer is told in another way
pub same_refusal : {X Y R : Type 0} (same : Type 0) (call : Result X R → Type 0) (call' : Result Y R → Type 0)
    → ((refusal : R) → call (Err refusal) → call' (Err refusal)) → (tried : Tried R) → Tries same call (Err tried) → Tries same call' (Err tried)
same_refusal same call call' told Busy still = still
same_refusal same call call' told (Refused refusal) answered = told refusal answered
