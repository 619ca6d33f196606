-- Whose an event is, computed on a script whose members come and go, and compared with what was
-- found by hand.
use Rattle.std.proofs.Common.{◌≡◌, ◌||◌, ℕ, ℤ, pos, List, [], ◌∷◌, ◌++◌, Bool, true, false, cond, eqb, Some, None, refl, subst}
use Rattle.std.specs.Prelude.{Ok, Err, Result, is_some}
use Rattle.std.specs.List.{sum_by}
use Rattle.std.proofs.lemmas.Bool.{eqb-true}
use Rattle.phase_base.specs.declared.mode.Mode.TheVariants.{Sig, Wait}
use Rattle.phase_history.specs.declared.event.Event.TheVariants.{Made, Registered, RegisteredNow, Signalled, Waited, Dropped}
use Rattle.phase_history.specs.declared.refusal.NoTask.{NoTask}
use Rattle.phase_history.specs.Histories.{History, founder, entry_at, phases_signalled, phases_waited}
use Rattle.phase_history.specs.Replies.{after_register, after_drop}
use Rattle.phase_history.specs.Others.{is_by, events_of, children_in, phases_of_signal, phases_of_wait, IsUsed, OnlyUsed, OthersCame}
use Rattle.phase_base.specs.Lists.{is_distinct, is_in}

-- a list of one send
abbrev pub one : ℕ → List ℤ
one n = pos n ∷ []

-- the founder registers a signaller and two waiters, and leaves; the signaller runs ahead, and
-- registers a signaller that joins at phase 2
abbrev pub first_events : History
first_events =
    Registered 1 4 Sig ∷ Signalled 1 ([] ∷ []) None ∷ Signalled 1 ([] ∷ []) None ∷ Dropped 0
    ∷ Registered 0 3 Wait ∷ Registered 0 2 Wait ∷ Registered 0 1 Sig ∷ Made 0 ∷ []

-- the waiters follow, and both signallers send in phase 2
abbrev pub later_events : History
later_events =
    Waited 3 1 ∷ Waited 3 1 ∷ Waited 2 1 ∷ Signalled 4 (one 6 ∷ []) None ∷ Signalled 1 (one 5 ∷ []) None
    ∷ Waited 3 1 ∷ Waited 2 1 ∷ Waited 2 1 ∷ []

abbrev pub events : History
events = later_events ++ first_events

-- the parent's registrations are its own, its child's are not, and the making is nobody's
events_of_founder : events_of 0 events ≡ Dropped 0 ∷ Registered 0 3 Wait ∷ Registered 0 2 Wait ∷ Registered 0 1 Sig ∷ []
events_of_founder = refl

events_of_signaller : events_of 1 events
    ≡ Signalled 1 (one 5 ∷ []) None ∷ Registered 1 4 Sig ∷ Signalled 1 ([] ∷ []) None ∷ Signalled 1 ([] ∷ []) None ∷ []
events_of_signaller = refl

events_of_child : events_of 4 events ≡ Signalled 4 (one 6 ∷ []) None ∷ []
events_of_child = refl

events_of_waiter : events_of 2 events ≡ Waited 2 1 ∷ Waited 2 1 ∷ Waited 2 1 ∷ []
events_of_waiter = refl

events_of_nobody : events_of 5 events ≡ []
events_of_nobody = refl

joining_now : is_by 2 (RegisteredNow 2 3) ∷ is_by 3 (RegisteredNow 2 3) ∷ is_by 0 (Made 0) ∷ []
    ≡ true ∷ false ∷ false ∷ []
joining_now = refl

-- a block signals as many phases as it has lists, and a wait may be for several
phases_of_events : phases_of_signal (Signalled 1 (one 5 ∷ [] ∷ []) None) ∷ phases_of_signal (Waited 1 3)
    ∷ phases_of_wait (Waited 1 3) ∷ phases_of_wait (Signalled 1 (one 5 ∷ []) None) ∷ []
    ≡ 2 ∷ 0 ∷ 3 ∷ 0 ∷ []
phases_of_events = refl

phases_by_events : sum_by phases_of_signal (events_of 1 events) ∷ phases_signalled events 1
    ∷ sum_by phases_of_wait (events_of 3 events) ∷ phases_waited events 3 ∷ []
    ≡ 3 ∷ 3 ∷ 3 ∷ 3 ∷ []
phases_by_events = refl

child_is_used : IsUsed events 4
child_is_used = refl

child_was_not_used : IsUsed (Dropped 0 ∷ Registered 0 1 Sig ∷ Made 0 ∷ []) 4 → ⊥
child_was_not_used used = cc

-- no number was used but those of the two tasks, and it is not so that none was but the founder's
only_two : OnlyUsed (0 ∷ 1 ∷ []) (Registered 0 1 Sig ∷ Made 0 ∷ [])
only_two task used = within (eqb 1 task) (eqb 0 task) refl used
  where
    within : (b c : Bool) → eqb 1 task ≡ b → is_some (cond b (Some (entry_at Sig 0 0)) (cond c (Some founder) None)) ≡ true
        → (c || (b || false)) ≡ true
    within true true here has = refl
    within true false here has = refl
    within false true here has = refl
    within false false here has = absurd (cc)

not_only_one : OnlyUsed (0 ∷ []) (Registered 0 1 Sig ∷ Made 0 ∷ []) → ⊥
not_only_one only = (let no : is_in 1 (0 ∷ []) ≡ true = only 1 refl in cc)

-- task 1 has no child, though it is one; the founder has two, and the later one stands first
children : children_in (events_of 0 (RegisteredNow 0 2 ∷ Signalled 0 (one 6 ∷ []) None ∷ Registered 1 4 Sig ∷ Registered 0 1 Sig ∷ Made 0 ∷ []))
    ∷ children_in (events_of 1 (Registered 0 1 Sig ∷ Made 0 ∷ [])) ∷ []
    ≡ (2 ∷ 1 ∷ []) ∷ [] ∷ []
children = refl

members_of_lists : is_in 3 (2 ∷ 3 ∷ []) ∷ is_in 1 (2 ∷ 3 ∷ []) ∷ is_in 1 [] ∷ []
    ≡ true ∷ false ∷ false ∷ []
members_of_lists = refl

distinct_lists : is_distinct [] ∷ is_distinct (2 ∷ 3 ∷ 1 ∷ []) ∷ is_distinct (2 ∷ 3 ∷ 2 ∷ []) ∷ is_distinct (3 ∷ 2 ∷ 2 ∷ []) ∷ []
    ≡ true ∷ true ∷ false ∷ false ∷ []
distinct_lists = refl

-- to the founder, which has left, all later events are others'
others_came : OthersCame (0 ∷ []) first_events events
others_came = record { later = later_events; is = refl; others = λ task has. none task (eqb 0 task) refl has }
  where
    none : (task : ℕ) (b : Bool) → eqb 0 task ≡ b → (b || false) ≡ true → events_of task later_events ≡ []
    none task true here has = (rw (← (eqb-true 0 task here)) refl)
    none task false here has = absurd (cc)

-- to the child they are not
own_came : events_of 4 later_events ≡ Signalled 4 (one 6 ∷ []) None ∷ []
own_came = refl

abbrev accepted : Result ℕ NoTask
accepted = Ok 5

abbrev refused : Result ℕ NoTask
refused = Err (record {})

registered : after_register accepted 1 5 Sig first_events ∷ after_register refused 1 5 Sig first_events ∷ []
    ≡ (Registered 1 5 Sig ∷ first_events) ∷ first_events ∷ []
registered = refl

dropped : after_drop accepted 4 first_events ∷ after_drop refused 4 first_events ∷ []
    ≡ (Dropped 4 ∷ first_events) ∷ first_events ∷ []
dropped = refl
