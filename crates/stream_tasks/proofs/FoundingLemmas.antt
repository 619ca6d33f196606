-- A founder's own events: it registers tasks and leaves, whatever the others do meanwhile.
use Rattle.std.proofs.Common.{◌≡◌, ℕ, Bool, true, false, eqb, ◌||◌, List, [], ◌∷◌, ◌++◌, refl, sym, ap, subst, ◌∙◌}
use Rattle.phase_base.specs.declared.mode.Mode.{Mode}
use Rattle.phase_history.specs.declared.event.Event.TheVariants.{Made, Registered, RegisteredNow, Signalled, Waited, Dropped}
use Rattle.phase_history.specs.declared.event.Event.{Event}
use Rattle.phase_history.specs.Histories.{History}
use Rattle.phase_history.specs.Others.{events_of, children_in, OthersCame}
use Rattle.phase_base.specs.Lists.{is_in}
use Rattle.phase_history.proofs.Beginnings.{IsBeginning-trans}
use Rattle.phase_history.proofs.OthersEvents.{IsBeginning-others, events_of-others}
use Rattle.phase_history.specs.declared.refusal.RegisterRefusal.{RegisterRefusal}
use Rattle.phase_history.specs.declared.refusal.RegisterRefusal.TheVariants as why
use Rattle.phase_history.specs.Legal.{IsLegal}
use Rattle.phase_shared.specs.Calls.{RefusesRegister}
use Rattle.stream_members.specs.Members.{MemberState, HasAdded, HasLeftPhaser, Stays, IsMember, limits_on}
use Rattle.stream_members.specs.AnyMembers.{member_in, member_op, left_in, left_op}
use Rattle.stream_members.specs.declared.any_member.AnyMember.{AnyMember}
use Rattle.stream_members.specs.declared.any_left.AnyLeft.{AnyLeft}
use Rattle.graph_runs.specs.Places.{AreRegistrations}
use Rattle.graph_runs.specs.TaskEnds.{HasNoSignal, HasFoundedAndLeft}
use Rattle.stream_tasks.specs.Founders.{founder_state, OnlyFounds, IsFounder, IsRoot, IsLeftOfFounder}

-- its own events are the same later
events_stay : (old new : History) → OthersCame (0 ∷ []) old new → events_of 0 new ≡ events_of 0 old
events_stay old new came =
    ap (events_of 0) came.is ∙ events_of-others came.later old 0 (came.others 0 refl)

-- the number that is put behind stands there, and so do those before it
step : (b : ℕ) (gave : List ℕ) (here last : Bool) (later : Bool)
    → ((last || is_in b gave) ≡ true → later ≡ true)
    → (last || (here || is_in b gave)) ≡ true → (here || later) ≡ true
step b gave true last later rest e = refl
step b gave false last later rest e = rest e

in_push : (b a : ℕ) (gave : List ℕ) → (eqb a b || is_in b gave) ≡ true
    → is_in b (gave ++ a ∷ []) ≡ true
in_push b a [] e = e
in_push b a (c ∷ gave) e =
    step b gave (eqb c b) (eqb a b) (is_in b (gave ++ a ∷ [])) (in_push b a gave) e

pub founds : OnlyFounds [] (Made 0 ∷ [])
founds = record {
  made = record { later = []; is = refl };
  registrations = tt;
  gave_these = λ a e. e;
}

-- others' events leave it
pub founded_stays : (gave : List ℕ) (old before : History) → OnlyFounds gave old
    → OthersCame (0 ∷ []) old before → OnlyFounds gave before
founded_stays gave old before is came =
    let same : events_of 0 before ≡ events_of 0 old = events_stay old before came in
    record {
      made = IsBeginning-trans (Made 0 ∷ []) old before is.made
          (IsBeginning-others (0 ∷ []) old before came);
      registrations = subst AreRegistrations (sym same) is.registrations;
      gave_these = λ a e. is.gave_these a (ap (λ h. is_in a (children_in h)) (sym same) ∙ e);
    }

pub registers : (a : ℕ) (mode : Mode) (gave : List ℕ) (before : History) → OnlyFounds gave before
    → OnlyFounds (gave ++ a ∷ []) (Registered 0 a mode ∷ before)
registers a mode gave before is = record {
  made = IsBeginning-trans (Made 0 ∷ []) before (Registered 0 a mode ∷ before) is.made
      (record { later = Registered 0 a mode ∷ []; is = refl });
  registrations = is.registrations;
  gave_these = λ b e. in_push b a gave (given b (eqb a b) e);
}
  where
    given : (b : ℕ) (here : Bool)
        → (here || is_in b (children_in (events_of 0 before))) ≡ true
        → (here || is_in b gave) ≡ true
    given b true e = refl
    given b false e = is.gave_these b e

-- ---- its calls

-- a founder whose call was refused
pub refused : (old new : MemberState) (gave : List ℕ) (mode : Mode) (refusal : RegisterRefusal)
    → IsFounder old gave → RefusesRegister old.number mode old.seen new.seen refusal
    → Stays old new → IsFounder new gave
refused old new gave mode refusal is call stays = record {
  number = stays.number ∙ is.number;
  founded = founded_stays gave old.seen new.seen is.founded
      (subst (λ n. OthersCame (n ∷ []) old.seen new.seen) is.number (came refusal call));
}
  where
    came : (refusal : RegisterRefusal) → RefusesRegister old.number mode old.seen new.seen refusal
        → OthersCame (old.number ∷ []) old.seen new.seen
    came why.OutOfMemory call = call.0
    came why.NoTask call = call.0
    came why.NotNew call = call.0
    came why.NotAllowed call = call.0
    came why.TooManyTasks call = call.0

-- what it has seen before its event
before_it : (old new child : MemberState) (gave : List ℕ) (mode : Mode) → IsFounder old gave
    → (adds : HasAdded mode old new child) → OnlyFounds gave adds.registered.before
before_it old new child gave mode is adds =
    founded_stays gave old.seen adds.registered.before is.founded
    (subst (λ n. OthersCame (n ∷ []) old.seen adds.registered.before) is.number
    adds.registered.others)

-- a founder that has registered a child
pub added : (old new child : MemberState) (gave : List ℕ) (mode : Mode) → IsFounder old gave
    → HasAdded mode old new child → Stays old new → IsFounder new (gave ++ child.number ∷ [])
added old new child gave mode is adds stays = record {
  number = stays.number ∙ is.number;
  founded = subst (OnlyFounds (gave ++ child.number ∷ []))
      (sym (adds.registered.seen
      ∙ ap (λ n. Registered n child.number mode ∷ adds.registered.before) is.number))
      (registers child.number mode gave adds.registered.before
      (before_it old new child gave mode is adds));
}

-- and the child
pub is_root : (old new child : AnyMember) (gave more : List ℕ) (mode : Mode)
    → IsFounder (member_in old) gave → HasAdded mode (member_in old) (member_in new) (member_in child)
    → Stays (member_in old) (member_in new) → member_op new ≡ member_op old
    → member_op child ≡ member_op old → IsMember (member_in child)
    → IsRoot mode (founder_state new more) child
is_root old new child gave more mode is adds stays op child_op member =
    let before =
    before_it (member_in old) (member_in new) (member_in child) gave mode is adds in
    record {
      op = child_op ∙ sym op;
      at = adds.at ∙ sym stays.at;
      mode_is = adds.mode_is;
      legal = subst (λ at. IsLegal (limits_on at) (member_in child).seen)
          (adds.at ∙ sym stays.at) member.legal;
      registered = record {
        before = adds.registered.before;
        is = adds.seen ∙ adds.registered.seen
            ∙ ap (λ n. Registered n (member_in child).number mode ∷ adds.registered.before) is.number;
        made = before.made;
        founder = before.registrations;
      };
    }

-- ---- a founder that has left

silent : (events : List Event) → AreRegistrations events → HasNoSignal events
silent [] are = tt
silent (Registered parent child mode ∷ events) are = silent events are
silent (Made founding ∷ events) are = absurd are
silent (RegisteredNow parent child ∷ events) are = absurd are
silent (Signalled task lists single ∷ events) are = absurd are
silent (Waited task n ∷ events) are = absurd are
silent (Dropped task ∷ events) are = absurd are

leaves_last : (gave : List ℕ) (before : History) → OnlyFounds gave before
    → HasFoundedAndLeft (record { number = 0; gave = gave; seen = Dropped 0 ∷ before })
leaves_last gave before is = record {
  founded = record {
    made = IsBeginning-trans (Made 0 ∷ []) before (Dropped 0 ∷ before) is.made
        (record { later = Dropped 0 ∷ []; is = refl });
    silent = silent (events_of 0 before) is.registrations;
    gave_these = is.gave_these;
  };
  left = refl;
}

pub leaves : (member : AnyMember) (left : AnyLeft) (gave : List ℕ)
    → IsFounder (member_in member) gave → HasLeftPhaser (member_in member) (left_in left)
    → left_op left ≡ member_op member → IsLeftOfFounder (founder_state member gave) left
leaves member left gave is has op =
    let before = has.leaves.before in
    let seen : (left_in left).seen ≡ Dropped 0 ∷ before =
    has.leaves.seen ∙ ap (λ n. Dropped n ∷ before) is.number in
    record {
      op = op;
      at = has.at;
      numbers = has.numbers ∙ ap (λ n. n ∷ []) is.number;
      legal = has.legal;
      founded = subst
          (λ h. HasFoundedAndLeft (record { number = 0; gave = gave; seen = h }))
          (sym seen)
          (leaves_last gave before
          (founded_stays gave (member_in member).seen before is.founded
          (subst (λ n. OthersCame (n ∷ []) (member_in member).seen before) is.number
          has.leaves.others)));
    }
