-- What a task's own calls were stays under others' events, and goes on by its own.
use Rattle.std.proofs.Common.{◌≡◌, ◌≢◌, ℕ, Bool, true, false, cond, eqb, ◌||◌, List, [], ◌∷◌, Option, Some, length, ℤ, refl, sym, ap, ◌∙◌, ◌⊎◌, inl, inr, All}
use Rattle.std.proofs.lemmas.Bool.{eq-eqb, eqb-true}
use Rattle.std.proofs.lemmas.List.{append-nil}
use Rattle.std.proofs.lemmas.List.Elements.{All-nil, All-append}
use Rattle.std.proofs.lemmas.Option.{same_Some}
use Rattle.phase_accum.specs.declared.outcome.Outcome.{Outcome}
use Rattle.phase_accum.specs.declared.single.Single.{Single}
use Rattle.phase_base.specs.declared.mode.Mode.{Mode}
use Rattle.phase_history.specs.declared.event.Event.{Event}
use Rattle.phase_history.specs.declared.event.Event.TheVariants.{Registered, RegisteredNow, Waited, Dropped}
use Rattle.phase_history.specs.Histories.{History}
use Rattle.phase_history.specs.Phases.{received_by}
use Rattle.phase_history.specs.Others.{events_of, children_in, OthersCame}
use Rattle.phase_base.specs.Lists.{is_in}
use Rattle.phase_history.specs.Sent.{NamesAll}
use Rattle.phase_history.proofs.OthersEvents.{received_by-others}
use Rattle.graph_base.specs.declared.line.Parent.{Parent}
use Rattle.graph_base.specs.Graphs.{task_at, phaser_at}
use Rattle.stream_lists.specs.Jobs.{Job}
use Rattle.stream_lists.specs.Ranges.{is_too_big}
use Rattle.graph_runs.specs.Moments.{Moment, value_at}
use Rattle.graph_runs.proofs.Framed.{part_came}
use Rattle.graph_runs.proofs.OwnEvents.{eq_case}
use Rattle.graph_runs.specs.Parts.{put_event, IsAnsweredBy}
use Rattle.graph_runs.specs.TaskEnds.{HasGiven, HasOwnCalls}
use Rattle.graph_runs.proofs.Founding.{events_stay}

-- ---- on one phaser

-- what task t did as number n on phaser p, by this history
pub record AreOwn (job : Job) (m : Moment) (t p n : ℕ) (h : History) : Type 0 where
  pub named : NamesAll (phaser_at job.graph p).single (events_of n h)
  pub met_none : All (λ outcome. is_too_big outcome ≡ false) (received_by (value_at job p) h n)
  pub children : (a : ℕ) → is_in a (children_in (events_of n h)) ≡ true → HasGiven job m t p a

pub own_on : (job : Job) (m : Moment) (t p n : ℕ) → HasOwnCalls job m t → m.number p t ≡ Some n
    → AreOwn job m t p n (m.history p)
own_on job m t p n own at = record {
  named = own.named p n at;
  met_none = own.met_none p n at;
  children = λ a e. own.children p n a at e;
}

-- others' events leave it
pub own_came : (job : Job) (m : Moment) (t p n : ℕ) (old new : History)
    → OthersCame (n ∷ []) old new → AreOwn job m t p n old → AreOwn job m t p n new
own_came job m t p n old new came own =
    let same : events_of n new ≡ events_of n old = events_stay n old new came in
    let part = part_came n old new came in
    record {
      named = rw same own.named;
      met_none = rw (part.received (value_at job p)) own.met_none;
      children = λ a e. own.children a (ap (λ h. is_in a (children_in h)) (sym same) ∙ e);
    }

-- the events of a number that makes one more
mine : (n : ℕ) (event : Event) (before : History) (b : Bool) → b ≡ true
    → cond b (event ∷ events_of n before) (events_of n before) ≡ event ∷ events_of n before
mine n event before b e = ap (λ c. cond c (event ∷ events_of n before) (events_of n before)) e

pub own_put : (job : Job) (m : Moment) (t p n : ℕ) (vs : List ℤ) (before : History)
    → AreOwn job m t p n before → AreOwn job m t p n (put_event job p n vs ∷ before)
own_put job m t p n vs before own =
    let event = put_event job p n vs in
    let events : events_of n (event ∷ before) ≡ event ∷ events_of n before =
    mine n event before (eqb n n) (eq-eqb n n refl) in
    record {
      named = rw events (refl, own.named);
      met_none = own.met_none;
      children = λ a e. own.children a (ap (λ h. is_in a (children_in h)) (sym events) ∙ e);
    }

pub own_got : (job : Job) (m : Moment) (t p n : ℕ) (outcomes : List Outcome) (before : History)
    → IsAnsweredBy job p n outcomes before → All (λ outcome. is_too_big outcome ≡ false) outcomes
    → AreOwn job m t p n before → AreOwn job m t p n (Waited n (length outcomes) ∷ before)
own_got job m t p n outcomes before answered fits own =
    let event : Event = Waited n (length outcomes) in
    let events : events_of n (event ∷ before) ≡ event ∷ events_of n before =
    mine n event before (eqb n n) (eq-eqb n n refl) in
    let Fit : Outcome → Type 0 = λ o. is_too_big o ≡ false in
    record {
      named = rw events own.named;
      met_none = rw answered
          (All-append Fit (received_by (value_at job p) before n) outcomes own.met_none fits);
      children = λ a e. own.children a (ap (λ h. is_in a (children_in h)) (sym events) ∙ e);
    }

pub own_left : (job : Job) (m : Moment) (t p n : ℕ) (before : History)
    → AreOwn job m t p n before → AreOwn job m t p n (Dropped n ∷ before)
own_left job m t p n before own =
    let event : Event = Dropped n in
    let events : events_of n (event ∷ before) ≡ event ∷ events_of n before =
    mine n event before (eqb n n) (eq-eqb n n refl) in
    record {
      named = rw events own.named;
      met_none = own.met_none;
      children = λ a e. own.children a (ap (λ h. is_in a (children_in h)) (sym events) ∙ e);
    }

-- an event of its own that is a registration, under number a
pub record IsRegistration (n a : ℕ) (event : Event) (before : History) : Type 0 where
  pub events : events_of n (event ∷ before) ≡ event ∷ events_of n before
  pub named : (single : Option Single) → NamesAll single (events_of n before)
      → NamesAll single (event ∷ events_of n before)
  pub received : (value : List ℤ → Outcome)
      → received_by value (event ∷ before) n ≡ received_by value before n
  pub children : children_in (event ∷ events_of n before) ≡ a ∷ children_in (events_of n before)

pub plain_registration : (n a : ℕ) (mode : Mode) (before : History)
    → IsRegistration n a (Registered n a mode) before
plain_registration n a mode before = record {
  events = mine n (Registered n a mode) before (eqb n n) (eq-eqb n n refl);
  named = λ single all. all;
  received = λ value. refl;
  children = refl;
}

pub registration_now : (n a : ℕ) (before : History)
    → IsRegistration n a (RegisteredNow n a) before
registration_now n a before = record {
  events = mine n (RegisteredNow n a) before (eqb n n) (eq-eqb n n refl);
  named = λ single all. all;
  received = λ value. refl;
  children = refl;
}

pub own_registered : (job : Job) (m : Moment) (t p n a : ℕ) (event : Event) (before : History)
    → IsRegistration n a event before → HasGiven job m t p a → AreOwn job m t p n before
    → AreOwn job m t p n (event ∷ before)
own_registered job m t p n a event before is given own =
    record {
      named = rw is.events (is.named (phaser_at job.graph p).single own.named);
      met_none = rw (is.received (value_at job p)) own.met_none;
      children = λ b e.
          by b (eqb a b) refl
          (ap (λ l. is_in b l) (sym is.children)
          ∙ ap (λ h. is_in b (children_in h)) (sym is.events) ∙ e);
    }
  where
    by : (b : ℕ) (c : Bool) → eqb a b ≡ c
        → (c || is_in b (children_in (events_of n before))) ≡ true → HasGiven job m t p b
    by b true same e =
        rw (eqb-true a b same) at given
    by b false same e = own.children b e

-- who has no events has done nothing
pub own_new : (job : Job) (m : Moment) (t p n : ℕ) (h : History) → events_of n h ≡ []
    → AreOwn job m t p n h
own_new job m t p n h none =
    let nothing : received_by (value_at job p) h n ≡ [] =
    ap (λ g. received_by (value_at job p) g n) (sym (append-nil h))
    ∙ received_by-others (value_at job p) h [] n none in
    record {
      named = rw none tt;
      met_none = rw nothing (All-nil (λ outcome. is_too_big outcome ≡ false));
      children = λ a e.
          absurd (let no : false ≡ true = ap (λ l. is_in a (children_in l)) (sym none) ∙ e in cc);
    }

-- ---- the whole

-- what a moment says of the beginning of a task, and of the numbers of all, is as it was, or more
pub record BeginsAsBefore (job : Job) (before after : Moment) (t : ℕ) : Type 0 where
  pub offset : (task_at job.graph t).joins_now ≡ false → after.offset t ≡ before.offset t
  pub above : (u : Parent) → (task_at job.graph t).parent ≡ Some u
      → after.offset u.task ≡ before.offset u.task
  pub parent : (u : Parent) → (task_at job.graph t).parent ≡ Some u
      → after.begun u.task ≡ before.begun u.task
  pub own_numbers : (q : ℕ) → after.number q t ≡ before.number q t
  pub numbers : (q c a : ℕ) → before.number q c ≡ Some a → after.number q c ≡ Some a

pub given_later : (job : Job) (before after : Moment) (t p a : ℕ)
    → BeginsAsBefore job before after t → HasGiven job before t p a → HasGiven job after t p a
given_later job before after t p a same given = record {
  child = given.child;
  is_child = given.is_child;
  numbered = same.numbers p given.child a given.numbered;
}

pub own_later : (job : Job) (before after : Moment) (t p n : ℕ) (h : History)
    → BeginsAsBefore job before after t → AreOwn job before t p n h → AreOwn job after t p n h
own_later job before after t p n h same own = record {
  named = own.named;
  met_none = own.met_none;
  children = λ a e. given_later job before after t p a same (own.children a e);
}

-- an event, or others' events, on phaser p, where task t has number n
pub calls_go_on : (job : Job) (before after : Moment) (t p n : ℕ)
    → BeginsAsBefore job before after t → HasOwnCalls job before t → before.number p t ≡ Some n
    → ((q : ℕ) → q ≢ p → after.history q ≡ before.history q)
    → AreOwn job after t p n (after.history p) → HasOwnCalls job after t
calls_go_on job before after t p n same own numbered elsewhere here = record {
  offset = λ stays. same.offset stays ∙ own.offset stays;
  above = λ u e. same.above u e ∙ own.above u e;
  parent = λ u e. same.parent u e ∙ own.parent u e;
  named = λ q k at. (all q k at).named;
  met_none = λ q k at. (all q k at).met_none;
  children = λ q k a at e. (all q k at).children a e;
}
  where
    all : (q k : ℕ) → after.number q t ≡ Some k → AreOwn job after t q k (after.history q)
    all q k at = by (eq_case q p)
      where
        by : (q ≡ p) ⊎ (q ≢ p) → AreOwn job after t q k (after.history q)
        by (inl e) =
            let was : before.number p t ≡ Some k =
            ap (λ x. before.number x t) (sym e) ∙ sym (same.own_numbers q) ∙ at in
            let one : n ≡ k = same_Some n k (sym numbered ∙ was) in
            rw e (rw one at here)
        by (inr apart) =
            rw (elsewhere q apart)
            (own_later job before after t q k (before.history q) same
            (own_on job before t q k own (sym (same.own_numbers q) ∙ at)))
