-- What a seat that speaks for one task owes at a give.
use Rattle.std.proofs.Common.{◌≡◌, ℕ, ◌+◌, false, cond, eqb, List, [], ◌∷◌, ◌++◌, Option, Some, refl, sym, ap, subst, ◌∙◌, inl}
use Rattle.std.specs.Prelude.{is_some}
use Rattle.std.proofs.lemmas.Option.{same_Some}
use Rattle.turn_lock.specs.WordSteps.{GivesOf}
use Rattle.phase_shared.specs.Phasers.{Limits, Entry, Operation, Event, entry_of, History, members_of, IsLegal, CoreState, StandsFor, IsUsed, is_by, events_of, OthersCame, is_in, Outcome}
use Rattle.phase_shared.specs.declared.seats.view.View.{View}
use Rattle.phase_shared.specs.declared.rule.Terms.{Terms}
use Rattle.phase_shared.specs.Views.{Unknown, lane_at_rest, knowledge, resting, turning, known_of, speaks_of}
use Rattle.phase_shared.specs.Rule.{Allows, IsGoodAt, IsOneHistory, HasOneHistory, StandsWithin, TookAt, IsSeatOfTask, AfterTake, Keeps}
use Rattle.phase_shared.specs.declared.seats.view.Ask.{Ask}
use Rattle.phase_shared.specs.Steps.{GivesNoAnswer}
use Rattle.phase_history.proofs.OthersEvents.{OthersCame-refl}
use Rattle.phase_history.proofs.Used.{IsUsed-member, IsUsed-longer, entry_of-others}
use Rattle.phase_shared.proofs.Small.{one_of, or_false, is_in_self, apart_phases}
use Rattle.phase_shared.proofs.Stages.{wait_is}
use Rattle.phase_shared.proofs.GivingAsks.{no_lane}
use Rattle.phase_shared.proofs.GivingAsks as asks

-- a give of the same turn, in other words
pub gives_told : {A : Type 0} (op : Operation A) (limits : Limits) (allows : Allows) (goes : View → View → Type 0) (n m : ℕ) (v u : View) (y z : CoreState A) (told other next last : ℕ)
    → m ≡ n → u ≡ v → z ≡ y → other ≡ told → last ≡ next
    → GivesOf (IsOneHistory op limits allows) tt n v y told next (λ p q r. goes p r) → GivesOf (IsOneHistory op limits allows) tt m u z other last (λ p q r. goes p r)
gives_told {A} op limits allows goes n m v u y z told other next last e1 e2 e3 e4 e5 gives =
    let rule : ℕ → View → CoreState A → ℕ → ℕ → Type 0 = λ j x c t s. GivesOf (IsOneHistory op limits allows) tt j x c t s (λ p q r. goes p r) in
    subst (λ (j : ℕ). rule j u z other last) (sym e1)
    (subst (λ (x : View). rule n x z other last) (sym e2)
    (subst (λ (c : CoreState A). rule n v c other last) (sym e3)
    (subst (λ (t : ℕ). rule n v y t last) (sym e4)
    (subst (λ (s : ℕ). rule n v y told s) (sym e5) gives))))

-- a longer history has come about by events of this task alone
pub record OwnCame (me : ℕ) (old new : History) : Type 0 where
  pub later : History
  pub is : new ≡ later ++ old
  pub own : (task : ℕ) → eqb me task ≡ false → events_of task later ≡ []

pub own_none : (me : ℕ) (h : History) → OwnCame me h h
own_none me h = record { later = []; is = refl; own = λ task none. refl }

pub own_event : (me : ℕ) (old new : History) (event : Event) → ((task : ℕ) → is_by task event ≡ eqb me task) → OwnCame me old new → OwnCame me old (event ∷ new)
own_event me old new event by came = record {
  later = event ∷ came.later;
  is = ap (λ h. event ∷ h) came.is;
  own = λ task none. ap (λ b. cond b (event ∷ events_of task came.later) (events_of task came.later)) (by task ∙ none) ∙ came.own task none;
}

-- a task stands where it stood while others' events came
pub member_after : (limits : Limits) (me : ℕ) (entry : Entry) (old now : History) → OthersCame (me ∷ []) old now → IsLegal limits now
    → entry_of (members_of old) me ≡ Some entry → entry_of (members_of now) me ≡ Some entry
member_after limits me entry old now came legal member =
    ap (λ h. entry_of (members_of h) me) came.is
    ∙ entry_of-others limits came.later old me entry (subst (λ (h : History). IsLegal limits h) came.is legal) (came.others me (is_in_self me [])) member

module _ {A K : Type 0} (op : Operation A) (allows : K → Allows) (terms : Terms K) (me : ℕ) where
  pub entered : (entry : Entry) (v : View) (x : CoreState A) (w : View) → IsSeatOfTask allows terms me entry v → TookAt op allows terms v x w → AfterTake op allows terms me entry v x w
  entered entry v x w s t =
      let speaks : speaks_of v ≡ me ∷ [] = ap speaks_of s.rests in
      let others : OthersCame (me ∷ []) (known_of v).seen t.now = subst (λ (l : List ℕ). OthersCame l (known_of v).seen t.now) speaks t.others in
      let member : entry_of (members_of t.now) me ≡ Some entry = member_after terms.limits me entry (known_of v).seen t.now others t.good.legal s.member in
      record {
        now = t.now;
        claims = t.claims;
        said = t.said;
        others = others;
        good = t.good;
        stands = t.stands;
        read = λ a one. let r = t.read a one in (r.0, subst (λ (l : List ℕ). is_in a.task l ≡ false) speaks r.1);
        is = t.is ∙ ap (λ l. turning t.now l t.claims t.said (lane_at_rest v)) speaks
            ∙ ap (λ l. turning t.now (me ∷ []) t.claims t.said l) (ap lane_at_rest s.rests);
        member = member;
        used = IsUsed-member t.now me (ap is_some member);
      }

  abbrev pub Goes : Type 1
  Goes = View → View → Type 0

  -- a give after a call that made events of the task's own, or none
  pub gives_own : (goes : Goes) (number told : ℕ) (y : CoreState A) (w : View) (now new : History) (claims : List Ask) (said : Outcome)
      → w ≡ turning now (me ∷ []) claims said Unknown → IsUsed now me
      → OwnCame me now new → IsGoodAt allows terms new → StandsWithin op terms.limits y new
      → goes (turning now (me ∷ []) claims said Unknown) (resting new (me ∷ []))
      → GivesNoAnswer (HasOneHistory op allows) terms number w y told (λ v z u. goes v u)
  gives_own goes number told y w now new claims said is used own good stands goes_on next same =
      let all : History = own.later ++ now in
      let good' : IsGoodAt allows terms all = subst (λ (h : History). IsGoodAt allows terms h) own.is good in
      let stands' : StandsWithin op terms.limits y all = subst (λ (h : History). StandsWithin op terms.limits y h) own.is stands in
      let used' : IsUsed all me = IsUsed-longer terms.limits now all me good'.legal (record { later = own.later; is = refl }) used in
      subst (λ (z : View). GivesOf (HasOneHistory op allows) terms number z y told next (λ v q u. goes v u)) (sym is)
      (λ words views long k at. (
        resting all (me ∷ []),
        asks.gives_own op.value terms.limits (allows terms.rule) (StandsWithin op terms.limits) number (knowledge now (me ∷ [])) claims said y own.later (me ∷ [])
            told next same
            (λ task none. own.own task (or_false (eqb me task) none)) good' stands' refl
            (λ task has. (subst (λ (n : ℕ). IsUsed all n) (one_of me task has) used', inl has)) words views k at,
        subst (λ (h : History). goes (turning now (me ∷ []) claims said Unknown) (resting h (me ∷ []))) own.is goes_on,
      ))

  -- a give after a call that made no event
  pub gives_same : (number told : ℕ) (entry : Entry) (v : View) (x y : CoreState A) (w : View) (e : AfterTake op allows terms me entry v x w)
      → StandsWithin op terms.limits y e.now
      → GivesOf (HasOneHistory op allows) terms number w y told told (λ p q u. u ≡ resting (known_of p).seen (speaks_of p))
  gives_same number told entry v x y w e stands =
      let then : View → CoreState A → View → Type 0 = λ p q u. u ≡ resting (known_of p).seen (speaks_of p) in
      let rests : View = resting e.now (me ∷ []) in
      subst (λ (z : View). GivesOf (HasOneHistory op allows) terms number z y told told then) (sym e.is)
      (λ words views long k at. (
        rests,
        asks.gives_same op.value terms.limits (allows terms.rule) (StandsWithin op terms.limits) number (knowledge e.now (me ∷ [])) e.claims e.said Unknown y []
            told rests tt e.good stands
            (λ a one low st. absurd (apart_phases a.phase (sym (wait_is e.now a.task (a.phase + 1) (a.phase + 1) st)
            ∙ wait_is e.now a.task (a.phase + 1) a.phase (e.read a one).0)))
            (inl (e.now, refl, OthersCame-refl (me ∷ []) e.now, tt))
            (λ s. absurd (no_lane s.ask.lane (s.ask.phase + 1) s.posts))
            words views k at,
        refl,
      ))

  -- a seat after a give
  pub stays : (entry : Entry) (v : View) (h : History) → v ≡ resting h (me ∷ []) → IsGoodAt allows terms h
      → entry_of (members_of h) me ≡ Some entry → IsSeatOfTask allows terms me entry v
  stays entry v h is good member = subst (λ (u : View). IsSeatOfTask allows terms me entry u) (sym is) (record { rests = refl; member = member; good = good })

  -- the same, with the entry that the core told
  pub station : (entry : Entry) (v : View) (h : History) (x : CoreState A) (o : Option Entry) → v ≡ resting h (me ∷ []) → IsGoodAt allows terms h
      → StandsWithin op terms.limits x h → o ≡ entry_of x.members me → o ≡ Some entry → IsSeatOfTask allows terms me entry v
  station entry v h x o is good stands viewed some =
      stays entry v h is good (ap (λ ms. entry_of ms me) (sym stands.stands.members_are) ∙ sym viewed ∙ some)

  -- the entry that the core told is the one that the history says
  pub told_entry : (entry expected : Entry) (h : History) (x : CoreState A) (o : Option Entry) → StandsWithin op terms.limits x h
      → o ≡ entry_of x.members me → o ≡ Some entry → entry_of (members_of h) me ≡ Some expected → entry ≡ expected
  told_entry entry expected h x o stands viewed some there =
      same_Some entry expected (sym some ∙ viewed ∙ ap (λ ms. entry_of ms me) stands.stands.members_are ∙ there)

  -- the core's own history is legal at the phaser's limits
  pub legal_at : (x : CoreState A) (h : History) → StandsWithin op terms.limits x h → IsLegal terms.limits h
  legal_at x h s = subst (λ (l : Limits). IsLegal l h) s.limits_are s.stands.legal

  -- the core before a call, which was lent at the value y
  pub lent : (x y : CoreState A) (h : History) → y ≡ x → StandsWithin op terms.limits x h → StandsWithin op terms.limits y h
  lent x y h is s = subst (λ (z : CoreState A). StandsWithin op terms.limits z h) (sym is) s

  -- what a call leaves
  pub record AfterCall (new : History) (x : CoreState A) : Type 0 where
    pub good : IsGoodAt allows terms new
    pub stands : StandsWithin op terms.limits x new

  pub after_call : (now new : History) (old x : CoreState A) → StandsWithin op terms.limits old now → x.limits ≡ old.limits
      → StandsFor op x new → Keeps (allows terms.rule) new → AfterCall new x
  after_call now new old x before same after keeps =
      let stands : StandsWithin op terms.limits x new = record { stands = after; limits_are = same ∙ before.limits_are } in
      record { good = record { legal = legal_at x new stands; keeps = keeps }; stands = stands }
