-- A registration under the turn.
use Rattle.std.proofs.Common.{◌≡◌, ◌≢◌, ℕ, ◌+◌, ◌<◌, true, false, cond, eqb, List, [], ◌∷◌, ◌⊎◌, inl, inr, Option, Some, None, refl, sym, ap, subst, ◌∙◌, arith}
use Rattle.std.specs.Prelude.{◌||◌, is_some, Result, Err}
use Rattle.std.proofs.lemmas.Bool.Decides.{nat_tests}
use Rattle.std.proofs.lemmas.Bool.{eqb-true, ne_eqb}
use Rattle.turn_lock.specs.WordSteps.{GivesOf, ForksOf}
use Rattle.phase_shared.specs.Phasers.{Limits, Mode, Entry, Operation, Event, RegisterRefusal, History, start_of, greatest_used, members_of, entry_at, signal_phase, wait_phase, entry_of, register_refusal, IsLegal, CoreState, StandsFor, IsUsed, is_by, OthersCame, is_in, Outcome}
use Rattle.phase_history.specs.declared.event.Event.TheVariants.{Registered}
use Rattle.phase_history.specs.declared.refusal.RegisterRefusal.TheVariants as register
use Rattle.phase_history.proofs.MemberLemmas.{entry_of-push_new, entry_of-push_old}
use Rattle.phase_history.proofs.Steps.{sound_of, member_entry_is}
use Rattle.phase_history.proofs.Refused.{registers_from}
use Rattle.phase_history.proofs.Answered.{register_refusal-never}
use Rattle.phase_shared.specs.declared.seats.view.View.{View}
use Rattle.phase_shared.specs.declared.rule.Terms.{Terms}
use Rattle.phase_shared.specs.declared.seats.view.Ask.{Ask}
use Rattle.phase_shared.specs.Views.{Unknown, knowledge, resting, turning, known_of, speaks_of, first_part, other_part, SpeaksForTwo}
use Rattle.phase_shared.specs.Rule.{Allows, IsGoodAt, HasOneHistory, StandsWithin, IsSeatOfTask, AfterTake}
use Rattle.phase_shared.specs.Calls.{Tries, number_after, next_child, RefusesRegister}
use Rattle.phase_shared.specs.Entries.{entry_stays}
use Rattle.phase_shared.specs.Steps.{IsStep, GivesNoAnswer}
use Rattle.phase_shared.specs.declared.seats.locked.LockedPhaser.{LockedPhaser}
use Rattle.phase_shared.specs.LockedPhasers.{locked_place, locked_terms, RestsOn}
use Rattle.turn_lock.specs.declared.seat.Seat.{Seat}
use Rattle.turn_lock.specs.Seats.{seat_view}
use Rattle.phase_shared.specs.declared.tried.Tried.{Tried}
use Rattle.phase_shared.specs.declared.tried.Tried.TheVariants.{Refused}
use Rattle.phase_history.proofs.Used.{IsUsed-longer}
use Rattle.phase_history.proofs.Received.{start_of-above, fresh}
use Rattle.phase_shared.proofs.Small.{or_false, is_in_self, eqb_refl}
use Rattle.phase_shared.proofs.GivingAsks as asks
use Rattle.phase_shared.proofs.Joining.{forks}
use Rattle.phase_shared.proofs.Giving.{AfterCall, after_call, gives_same, stays, station, told_entry}

in_two : (a b t : ℕ) → is_in t (a ∷ b ∷ []) ≡ true → (a ≡ t) ⊎ (b ≡ t)
in_two a b t has = elim (eqb a t) as (λ c. (eqb a t ≡ c) → (c || (eqb b t || false)) ≡ true → (a ≡ t) ⊎ (b ≡ t)) [
  | true ↦ λ e h. inl (eqb-true a t e)
  | false ↦ λ e h. elim (eqb b t) as (λ d. (eqb b t ≡ d) → (d || false) ≡ true → (a ≡ t) ⊎ (b ≡ t)) [
    | true ↦ λ f k. inr (eqb-true b t f)
    | false ↦ λ f k. absurd (cc)
  ] refl h
] refl has

none_some : {A : Type 0} (o : Option A) → o ≡ None → is_some o ≡ true → ⊥
none_some o none some = let z : false ≡ true = sym (ap is_some none) ∙ some in cc

pub child_used : (now : History) (me child : ℕ) (mode : Mode) → IsUsed (Registered me child mode ∷ now) child
child_used now me child mode = rw (eqb_refl child) refl

-- what an accepted registration says of the child's number
pub record NewChild (now : History) (me child : ℕ) : Type 0 where
  pub above : greatest_used now < child
  pub unused : IsUsed now child → ⊥
  pub apart : child ≢ me

pub new_child : (limits : Limits) (now : History) (me child : ℕ) (mode : Mode) (entry : Entry) → IsLegal limits now → IsUsed now me
    → register_refusal now me child mode ≡ None → NewChild now me child
new_child limits now me child mode entry legal used accepted =
    let r = registers_from now me child mode accepted in
    let none = start_of-above now child r.new_number in
    record {
      above = r.new_number;
      unused = λ some. none_some (start_of now child) none some;
      apart = λ same. none_some (start_of now child) none (subst (λ (n : ℕ). IsUsed now n) (sym same) used);
    }

-- where a child stands: in its mode, at its parent's phases
pub member_child : (limits : Limits) (now : History) (me child : ℕ) (mode : Mode) (entry : Entry) → IsLegal limits now → NewChild now me child
    → entry_of (members_of now) me ≡ Some entry
    → entry_of (members_of (Registered me child mode ∷ now)) child ≡ Some (entry_at mode entry.signal_phase entry.wait_phase)
member_child limits now me child mode entry legal new there =
    entry_of-push_new (members_of now) child (entry_at mode (signal_phase now me) (wait_phase now me)) (fresh now child (sound_of limits now legal) new.above)
    ∙ ap (λ (e : Entry). Some (entry_at mode e.signal_phase e.wait_phase)) (member_entry_is (members_of now) me entry there)

-- an accepted child has the number after the greatest one
pub child_is_next : (now : History) (child greatest : ℕ) → greatest ≡ greatest_used now → child ≡ number_after greatest → greatest_used now < child → child ≡ greatest_used now + 1
child_is_next now child greatest is next above = grind (arith, nat_tests)

module _ {A K : Type 0} (op : Operation A) (allows : K → Allows) (terms : Terms K) (me : ℕ) where
  -- a give after a call that registered a child by this event
  pub gives_child : (number told : ℕ) (y : CoreState A) (w : View) (now : History) (claims : List Ask) (said : Outcome) (event : Event) (child : ℕ) → ((task : ℕ) → is_by task event ≡ eqb me task)
      → IsUsed (event ∷ now) child → w ≡ turning now (me ∷ []) claims said Unknown → IsUsed now me → NewChild now me child
      → IsGoodAt allows terms (event ∷ now) → StandsWithin op terms.limits y (event ∷ now)
      → (goes : View → View → Type 0) → goes (turning now (me ∷ []) claims said Unknown) (resting (event ∷ now) (me ∷ child ∷ []))
      → GivesNoAnswer (HasOneHistory op allows) terms number w y told (λ v z u. goes v u)
  gives_child number told y w now claims said event child by joined is used new good stands goes goes_on next same =
      let out : eqb child me ≡ false = ne_eqb child me new.apart in
      subst (λ (z : View). GivesOf (HasOneHistory op allows) terms number z y told next (λ v q u. goes v u)) (sym is)
      (λ words views long k at. (
        resting (event ∷ now) (me ∷ child ∷ []),
        asks.gives_own op.value terms.limits (allows terms.rule) (StandsWithin op terms.limits) number (knowledge now (me ∷ [])) claims said y (event ∷ [])
            (me ∷ child ∷ []) told next same
            (λ task none. ap (λ b. cond b (event ∷ []) []) (by task ∙ or_false (eqb me task) none))
            good stands (rw out refl)
            (λ task has. elim (in_two me child task has) [
              | inl m ↦ subst (λ (n : ℕ). IsUsed (event ∷ now) n × ((is_in n (me ∷ []) ≡ true) ⊎ (IsUsed now n → ⊥))) m
                  (IsUsed-longer terms.limits now (event ∷ now) me good.legal (record { later = event ∷ []; is = refl }) used, inl (is_in_self me []))
              | inr m ↦ subst (λ (n : ℕ). IsUsed (event ∷ now) n × ((is_in n (me ∷ []) ≡ true) ⊎ (IsUsed now n → ⊥))) m
                  (joined, inr new.unused)
            ]) words views k at,
        goes_on,
      ))

  pub forks_child : (number : ℕ) (v : View) (h : History) (child : ℕ) → v ≡ resting h (me ∷ child ∷ [])
      → ForksOf {T = CoreState A} (HasOneHistory op allows) terms number v (first_part v) (other_part v)
  forks_child number v h child is =
      subst (λ (z : View). ForksOf {T = CoreState A} (HasOneHistory op allows) terms number z (first_part z) (other_part z)) (sym is)
      (λ home told words views long k at.
      forks op.value terms.limits (allows terms.rule) (StandsWithin op terms.limits) number h me child home told words views k at)

-- a refusal in the words of the definition
pub refuses : (refusal : RegisterRefusal) (me : ℕ) (mode : Mode) (old new : History) → OthersCame (me ∷ []) old new
    → (refusal ≢ register.OutOfMemory → register_refusal new me (next_child new) mode ≡ Some refusal)
    → (refusal ≡ register.OutOfMemory → register_refusal new me (next_child new) mode ≡ None) → RefusesRegister me mode old new refusal
refuses register.NoTask me mode old new others told memory = (others, told (λ e. cc))
refuses register.NotAllowed me mode old new others told memory = (others, told (λ e. cc))
refuses register.NotNew me mode old new others told memory = (others, told (λ e. cc))
refuses register.TooManyTasks me mode old new others told memory = (others, told (λ e. cc))
refuses register.OutOfMemory me mode old new others told memory = (others, memory refl)

-- the seat of both after the give, and its two parts
module _ (me : ℕ) (now : History) (event : Event) (child : ℕ) where
  pub for_both : (u w : View) (claims : List Ask) (said : Outcome) → u ≡ resting (event ∷ (known_of w).seen) (me ∷ child ∷ [])
      → w ≡ turning now (me ∷ []) claims said Unknown → u ≡ resting (event ∷ now) (me ∷ child ∷ [])
  for_both u w claims said told is = told ∙ ap (λ (v : View). resting (event ∷ (known_of v).seen) (me ∷ child ∷ [])) is

  pub speaks_for_both : (u : View) → u ≡ resting (event ∷ now) (me ∷ child ∷ []) → SpeaksForTwo u
  speaks_for_both u both = record {
    one = me;
    other = child;
    rests = both ∙ sym (ap (λ (v : View). resting (known_of v).seen (me ∷ child ∷ [])) both);
  }

  pub parent_rests : (u v : View) → v ≡ first_part u → u ≡ resting (event ∷ now) (me ∷ child ∷ []) → v ≡ resting (event ∷ now) (me ∷ [])
  parent_rests u v cut both = cut ∙ ap first_part both

  pub child_rests : (u v : View) → v ≡ other_part u → u ≡ resting (event ∷ now) (me ∷ child ∷ []) → v ≡ resting (event ∷ now) (child ∷ [])
  child_rests u v cut both = cut ∙ ap other_part both

module _ {A K : Type 0} (op : Operation A) (allows : K → Allows) (terms : Terms K) (me : ℕ) (entry : Entry) where
  -- what a call that registered a child by this event leaves: the core stands for the history with
  -- it, the parent stands where it stood, and the child stands here
  pub record NewMember (now : History) (event : Event) (child : ℕ) (start : Entry) (x : CoreState A) : Type 0 where
    pub own : (task : ℕ) → is_by task event ≡ eqb me task
    pub new : NewChild now me child
    pub joined : IsUsed (event ∷ now) child
    pub good : IsGoodAt allows terms (event ∷ now)
    pub stands : StandsWithin op terms.limits x (event ∷ now)
    pub member : entry_of (members_of (event ∷ now)) me ≡ Some entry
    pub there : entry_of (members_of (event ∷ now)) child ≡ Some start

  -- a call that was accepted, at the parent's phases
  pub new_member : (now : History) (child : ℕ) (mode : Mode) (old x : CoreState A) → StandsWithin op terms.limits old now → IsGoodAt allows terms now → IsUsed now me
      → entry_of (members_of now) me ≡ Some entry → register_refusal now me child mode ≡ None → x.limits ≡ old.limits
      → StandsFor op x (Registered me child mode ∷ now)
      → NewMember now (Registered me child mode) child (entry_at mode entry.signal_phase entry.wait_phase) x
  new_member now child mode old x before good used member accepted same after =
      let new : NewChild now me child = new_child terms.limits now me child mode entry good.legal used accepted in
      let s : AfterCall op allows terms me (Registered me child mode ∷ now) x =
      after_call op allows terms me now (Registered me child mode ∷ now) old x before same after good.keeps in
      record {
        own = λ task. refl;
        new = new;
        joined = child_used now me child mode;
        good = s.good;
        stands = s.stands;
        member = entry_of-push_old (members_of now) child me (entry_at mode (signal_phase now me) (wait_phase now me)) entry member;
        there = member_child terms.limits now me child mode entry good.legal new member;
      }

  module _ (now : History) (event : Event) (child : ℕ) (start : Entry) (x : CoreState A) (b : NewMember now event child start x) where
    -- so the core has the child as a member
    pub is_there : (o : Option Entry) → o ≡ entry_of x.members child → o ≡ Some start
    is_there o viewed = viewed ∙ ap (λ ms. entry_of ms child) b.stands.stands.members_are ∙ b.there

    -- the give
    pub gives_new_member : (number told : ℕ) (w : View) (claims : List Ask) (said : Outcome) → w ≡ turning now (me ∷ []) claims said Unknown → IsUsed now me
        → GivesNoAnswer (HasOneHistory op allows) terms number w x told (λ v z u. u ≡ resting (event ∷ (known_of v).seen) (me ∷ child ∷ []))
    gives_new_member number told w claims said is used =
        gives_child op allows terms me number told x w now claims said event child b.own b.joined is used b.new b.good b.stands
        (λ v u. u ≡ resting (event ∷ (known_of v).seen) (me ∷ child ∷ [])) refl

    -- the parent's seat
    pub parent_stays : (v : View) → v ≡ resting (event ∷ now) (me ∷ []) → IsSeatOfTask allows terms me entry v
    parent_stays v rests = stays op allows terms me entry v (event ∷ now) rests b.good b.member

    -- the child's seat
    pub child_stands : (found : Entry) (o : Option Entry) (v : View) → v ≡ resting (event ∷ now) (child ∷ []) → o ≡ entry_of x.members child → o ≡ Some found
        → IsSeatOfTask allows terms child found v × (found ≡ start)
    child_stands found o v rests viewed is = (
      station op allows terms child found v (event ∷ now) x o rests b.good b.stands viewed is,
      told_entry op allows terms child found start (event ∷ now) x o b.stands viewed is b.there,
    )

  -- a refused call left all as it was
  pub gives_refused : (number told : ℕ) (v w : View) (z old x : CoreState A) (e : AfterTake op allows terms me entry v z w)
      → StandsWithin op terms.limits old e.now → x ≡ old
      → GivesOf (HasOneHistory op allows) terms number w x told told (λ p q u. u ≡ resting (known_of p).seen (speaks_of p))
  gives_refused number told v w z old x e before same =
      gives_same op allows terms me number told entry v z x w e (subst (λ (q : CoreState A). StandsWithin op terms.limits q e.now) (sym same) before)

module _ {A K : Type 0} (op : Operation A) (allows : K → Allows) (phaser : LockedPhaser A K) (me : ℕ) (entry : Entry) where
  -- the step whose call was refused
  pub refused_step : {X : Type 0} (now : History) (child greatest : ℕ) (mode : Mode) (refusal : RegisterRefusal) (same : Type 0)
      (call : Result X RegisterRefusal → Type 0) (old u : Seat (CoreState A) (Terms K) View) (w : View) (claims : List Ask) (said : Outcome)
      → RestsOn (locked_place phaser) u (λ v. v ≡ resting (known_of w).seen (speaks_of w))
      → w ≡ turning now (me ∷ []) claims said Unknown
      → IsGoodAt allows (locked_terms phaser) now → entry_of (members_of now) me ≡ Some entry → OthersCame (me ∷ []) (known_of (seat_view old)).seen now
      → greatest ≡ greatest_used now → child ≡ number_after greatest
      → (refusal ≢ register.OutOfMemory → register_refusal now me child mode ≡ Some refusal)
      → (refusal ≡ register.OutOfMemory → register_refusal now me child mode ≡ None)
      → (RefusesRegister me mode (known_of (seat_view old)).seen (known_of (seat_view u)).seen refusal → call (Err refusal))
      → IsStep allows phaser {X = X} me register.NoTask entry_stays (Tries same call (Err (Refused refusal))) entry entry old u (Err (Refused refusal))
  refused_step {X} now child greatest mode refusal same call old u w claims said told is good member others greatest_is next refused memory answered =
      let rests : seat_view u ≡ resting now (me ∷ []) = told.knows ∙ ap (λ (v : View). resting (known_of v).seen (speaks_of v)) is in
      let next' : child ≡ number_after (greatest_used now) = next ∙ ap number_after greatest_is in
      record {
        call = answered (rw (ap (λ (v : View). (known_of v).seen) rests)
            (refuses refusal me mode (known_of (seat_view old)).seen now others
            (λ other. ap (λ n. register_refusal now me n mode) (sym next') ∙ refused other)
            (λ none. ap (λ n. register_refusal now me n mode) (sym next') ∙ memory none)));
        at = record { here = told.here; knows = stays op allows (locked_terms phaser) me entry (seat_view u) now rests good member };
        entry_is = refl;
        known = λ none. never_unknown now child mode refusal member refused (same_refusal refusal none);
        alone = λ only busy. cc;
      }
    where
      same_refusal : (x : RegisterRefusal) → ◌≡◌ {A = Result X (Tried RegisterRefusal)} (Err (Refused x)) (Err (Refused register.NoTask)) → x ≡ register.NoTask
      same_refusal x e = cc

      not_memory : ◌≡◌ {A = RegisterRefusal} register.NoTask register.OutOfMemory → ⊥
      not_memory e = cc

      -- the parent is registered
      never_unknown : (now : History) (child : ℕ) (mode : Mode) (refusal : RegisterRefusal) → entry_of (members_of now) me ≡ Some entry
          → (refusal ≢ register.OutOfMemory → register_refusal now me child mode ≡ Some refusal) → refusal ≡ register.NoTask → ⊥
      never_unknown now child mode refusal member refused is =
          register_refusal-never now me child mode (ap is_some member) (refused (λ memory. not_memory (sym is ∙ memory)) ∙ ap Some is)
