-- A founder's own events: it registers tasks and leaves. What they come to, seen from any later
-- history of the phaser.
use Rattle.std.proofs.Common.{◌≡◌, ℕ, Bool, true, false, cond, eqb, ◌||◌, List, [], ◌∷◌, Option, Some, refl, sym, ap, subst, ◌∙◌}
use Rattle.std.specs.List.{sum_by}
use Rattle.std.proofs.lemmas.Bool.{eq-eqb}
use Rattle.std.proofs.lemmas.Option.{same_Some}
use Rattle.phase_base.specs.Limits.{Limits}
use Rattle.phase_base.specs.declared.entry.Entry.{Entry}
use Rattle.phase_base.specs.declared.mode.Mode.{Mode}
use Rattle.phase_accum.specs.declared.single.Single.{Single}
use Rattle.phase_history.specs.declared.event.Event.TheVariants.{Made, Registered, RegisteredNow, Signalled, Waited, Dropped}
use Rattle.phase_history.specs.Histories.{History, IsBeginning, founder, has_dropped, start_of}
use Rattle.phase_history.specs.Legal.{IsLegal}
use Rattle.phase_history.specs.Others.{events_of, children_in, OthersCame, phases_of_signal}
use Rattle.phase_base.specs.Lists.{is_in}
use Rattle.phase_history.specs.Sent.{NamesAll, IsSilent}
use Rattle.phase_history.proofs.Beginnings.{IsBeginning-trans}
use Rattle.phase_history.proofs.OthersEvents.{IsBeginning-others, events_of-others, phases_signalled-events}
use Rattle.phase_history.proofs.Used.{start_of-longer}
use Rattle.graph_runs.specs.TaskEnds.{HasNoSignal, HasFounded}

pub in_one : (n : ℕ) → is_in n (n ∷ []) ≡ true
in_one n = let here : eqb n n ≡ true = eq-eqb n n refl in rw here refl

-- its own events are the same later
pub events_stay : (n : ℕ) (old new : History) → OthersCame (n ∷ []) old new
    → events_of n new ≡ events_of n old
events_stay n old new came =
    ap (events_of n) came.is ∙ events_of-others came.later old n (came.others n (in_one n))

-- ---- what it does

pub founds : (number : ℕ) → HasFounded number [] (Made number ∷ [])
founds number = record {
  made = record { later = []; is = refl };
  silent = tt;
  gave_these = λ a e. e;
}

-- others' events leave it
stays : (number : ℕ) (gave : List ℕ) (old before : History) → HasFounded number gave old
    → OthersCame (number ∷ []) old before → HasFounded number gave before
stays number gave old before is came =
    let same : events_of number before ≡ events_of number old = events_stay number old before came in
    record {
      made = IsBeginning-trans (Made number ∷ []) old before is.made
          (IsBeginning-others (number ∷ []) old before came);
      silent = subst HasNoSignal (sym same) is.silent;
      gave_these = λ a e. is.gave_these a (ap (λ h. is_in a (children_in h)) (sym same) ∙ e);
    }

pub founder_registers : (number a : ℕ) (mode : Mode) (gave more : List ℕ) (old before : History)
    → HasFounded number gave old → OthersCame (number ∷ []) old before
    → ((b : ℕ) → is_in b (a ∷ gave) ≡ true → is_in b more ≡ true)
    → HasFounded number more (Registered number a mode ∷ before)
founder_registers number a mode gave more old before is came within =
    let now : HasFounded number gave before = stays number gave old before is came in
    let by : eqb number number ≡ true = eq-eqb number number refl in
    let events : events_of number (Registered number a mode ∷ before)
    ≡ Registered number a mode ∷ events_of number before = rw by refl in
    record {
      made = IsBeginning-trans (Made number ∷ []) before (Registered number a mode ∷ before) now.made
          (record { later = Registered number a mode ∷ []; is = refl });
      silent = subst HasNoSignal (sym events) now.silent;
      gave_these = λ b e.
          within b (given b (eqb a b) now
          (ap (λ h. is_in b (children_in h)) (sym events) ∙ e));
    }
  where
    given : (b : ℕ) (here : Bool) → HasFounded number gave before
        → (here || is_in b (children_in (events_of number before))) ≡ true
        → (here || is_in b gave) ≡ true
    given b true now e = refl
    given b false now e = now.gave_these b e

pub founder_leaves : (number : ℕ) (gave : List ℕ) (old before : History)
    → HasFounded number gave old → OthersCame (number ∷ []) old before
    → HasFounded number gave (Dropped number ∷ before)
    × (has_dropped (Dropped number ∷ before) number ≡ true)
founder_leaves number gave old before is came =
    let now : HasFounded number gave before = stays number gave old before is came in
    let by : eqb number number ≡ true = eq-eqb number number refl in
    let events : events_of number (Dropped number ∷ before)
    ≡ Dropped number ∷ events_of number before = rw by refl in (
      record {
        made = IsBeginning-trans (Made number ∷ []) before (Dropped number ∷ before) now.made
            (record { later = Dropped number ∷ []; is = refl });
        silent = subst HasNoSignal (sym events) now.silent;
        gave_these = λ b e.
            now.gave_these b (ap (λ h. is_in b (children_in h)) (sym events) ∙ e);
      },
      rw by refl,
    )

-- ---- what it comes to

-- events that have no signal name whatever is asked
pub names_any : (single : Option Single) (h : History) → HasNoSignal h → NamesAll single h
names_any single [] none = tt
names_any single (Made task ∷ before) none = names_any single before none
names_any single (Registered parent child mode ∷ before) none = names_any single before none
names_any single (RegisteredNow parent child ∷ before) none = names_any single before none
names_any single (Signalled task lists named ∷ before) none = absurd none
names_any single (Waited task n ∷ before) none = names_any single before none
names_any single (Dropped task ∷ before) none = names_any single before none

-- and add up to no phase
no_phases : (h : History) → HasNoSignal h → sum_by phases_of_signal h ≡ 0
no_phases [] none = refl
no_phases (Made task ∷ before) none = no_phases before none
no_phases (Registered parent child mode ∷ before) none = no_phases before none
no_phases (RegisteredNow parent child ∷ before) none = no_phases before none
no_phases (Signalled task lists named ∷ before) none = absurd none
no_phases (Waited task n ∷ before) none = no_phases before none
no_phases (Dropped task ∷ before) none = no_phases before none

-- a founder is silent in any legal history that begins as its own does
pub founder_silent : (limits : Limits) (number : ℕ) (h : History) → IsLegal limits h
    → IsBeginning (Made number ∷ []) h → HasNoSignal (events_of number h) → IsSilent h number
founder_silent limits number h legal begins none = record {
  nothing = phases_signalled-events h number ∙ no_phases (events_of number h) none;
  from_0 = λ start is.
      (let by : eqb number number ≡ true = eq-eqb number number refl in
      let first : start_of (Made number ∷ []) number ≡ Some founder = rw by refl in
      let later : start_of h number ≡ Some founder =
      start_of-longer limits (Made number ∷ []) h number founder legal begins first in
      let same : founder ≡ start = same_Some founder start (sym later ∙ is) in
      sym (ap (λ (e : Entry). e.signal_phase) same));
}

-- ---- the singles that signals name

-- where each number's own signals name a single, all of them do
pub named_by_each : (single : Option Single) (h : History)
    → ((n : ℕ) → NamesAll single (events_of n h)) → NamesAll single h
named_by_each single [] each = tt
named_by_each single (Made task ∷ before) each = named_by_each single before each
named_by_each single (Registered parent child mode ∷ before) each =
    named_by_each single before (λ n. skip n (eqb parent n) (each n))
  where
    skip : (n : ℕ) (b : Bool)
        → NamesAll single (cond b (Registered parent child mode ∷ events_of n before) (events_of n before))
        → NamesAll single (events_of n before)
    skip n true names = names
    skip n false names = names
named_by_each single (RegisteredNow parent child ∷ before) each =
    named_by_each single before (λ n. skip n (eqb parent n) (each n))
  where
    skip : (n : ℕ) (b : Bool)
        → NamesAll single (cond b (RegisteredNow parent child ∷ events_of n before) (events_of n before))
        → NamesAll single (events_of n before)
    skip n true names = names
    skip n false names = names
named_by_each single (Signalled task lists named ∷ before) each =
    (own (eqb task task) (eq-eqb task task refl) (each task), named_by_each single before (λ n. skip n (eqb task n) (each n)))
  where
    own : (b : Bool) → b ≡ true
        → NamesAll single (cond b (Signalled task lists named ∷ events_of task before) (events_of task before))
        → named ≡ single
    own true e names = names.0
    own false e names = absurd (cc)

    skip : (n : ℕ) (b : Bool)
        → NamesAll single (cond b (Signalled task lists named ∷ events_of n before) (events_of n before))
        → NamesAll single (events_of n before)
    skip n true names = names.1
    skip n false names = names
named_by_each single (Waited task k ∷ before) each =
    named_by_each single before (λ n. skip n (eqb task n) (each n))
  where
    skip : (n : ℕ) (b : Bool)
        → NamesAll single (cond b (Waited task k ∷ events_of n before) (events_of n before))
        → NamesAll single (events_of n before)
    skip n true names = names
    skip n false names = names
named_by_each single (Dropped task ∷ before) each =
    named_by_each single before (λ n. skip n (eqb task n) (each n))
  where
    skip : (n : ℕ) (b : Bool)
        → NamesAll single (cond b (Dropped task ∷ events_of n before) (events_of n before))
        → NamesAll single (events_of n before)
    skip n true names = names
    skip n false names = names
