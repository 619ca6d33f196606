-- What a task's own calls were, by what each call leaves of its part, and of a task that begins.
use Rattle.std.proofs.Common.{◌≡◌, ◌≢◌, ℕ, ◌<◌, ◌≤◌, true, false, cond, eqb, List, [], ◌∷◌, Some, None, ℤ, length, get_or, sym, ap, subst, ◌∙◌, arith, ◌⊎◌, inl, inr, All}
use Rattle.std.specs.Prelude.{is_some}
use Rattle.std.proofs.lemmas.Bool.{ne_eqb}
use Rattle.std.proofs.lemmas.Option.{same_Some, slice_get-get_or}
use Rattle.phase_accum.specs.declared.outcome.Outcome.{Outcome}
use Rattle.phase_base.specs.Limits.{Limits}
use Rattle.phase_base.specs.declared.mode.Mode.{Mode}
use Rattle.phase_base.specs.declared.mode.Mode.TheVariants.{Wait}
use Rattle.phase_history.specs.declared.event.Event.{Event}
use Rattle.phase_history.specs.declared.event.Event.TheVariants.{Registered, RegisteredNow, Waited, Dropped}
use Rattle.phase_history.specs.Histories.{History, greatest_used, start_of}
use Rattle.phase_history.specs.Legal.{IsLegal}
use Rattle.phase_history.specs.Others.{events_of}
use Rattle.phase_history.proofs.Received.{start_of-above}
use Rattle.phase_history.proofs.Refused.{Registers, registers_from}
use Rattle.phase_history.proofs.Used.{events_of-unused, start_from, start_used, IsUsed-member}
use Rattle.graph_base.specs.declared.line.Parent.{Parent}
use Rattle.graph_base.specs.Graphs.{task_at}
use Rattle.graph_base.specs.TaskLines.{IsGraph}
use Rattle.stream_lists.specs.Jobs.{Job}
use Rattle.stream_lists.specs.Ranges.{is_too_big}
use Rattle.graph_runs.specs.Moments.{Moment, limits_at}
use Rattle.graph_runs.proofs.Whole.{parent_of}
use Rattle.graph_runs.proofs.OwnEvents.{eq_case}
use Rattle.graph_runs.specs.Parts.{SeesOthers, SeesOwn, HasMovedOn, HasSeen, HasPut, HasGot, LeavesPart, put_event, IsAnsweredBy}
use Rattle.graph_runs.specs.Places.{IsRootOn, IsFirstMoment, HasNewChild, HasSeenBoth, HasAddedChild, HasAddedNow}
use Rattle.graph_runs.specs.Beginnings.{opening}
use Rattle.graph_runs.specs.Nexts.{registrations_at}
use Rattle.graph_runs.specs.TaskPlaces.{registration_at}
use Rattle.graph_runs.specs.TaskEnds.{IsChildOf, HasOwnCalls}
use Rattle.graph_runs.proofs.Owns.{IsFound, found_on}
use Rattle.graph_runs.proofs.OwnCalls.{AreOwn, own_on, own_came, own_put, own_got, own_left, IsRegistration, plain_registration, registration_now, own_registered, own_new, own_later, BeginsAsBefore, calls_go_on}

-- a parent is another task
apart_from_parent : (job : Job) (c : ℕ) (u : Parent) → IsGraph job.graph
    → c < length job.graph.tasks → (task_at job.graph c).parent ≡ Some u → u.task ≢ c
apart_from_parent job c u is there e same =
    omega (arith, (parent_of job c u is there e).above, same)

-- ---- a task's own calls

module _ (job : Job) (before after : Moment) (t p : ℕ) (is : IsGraph job.graph)
    (there : t < length job.graph.tasks) where
  begins_same : (now : History) → HasMovedOn job before after t p now
      → BeginsAsBefore job before after t
  begins_same now moved = record {
    offset = λ stays. moved.offset t;
    above = λ u e. moved.offset u.task;
    parent = λ u e. moved.others_begun u.task (apart_from_parent job t u is there e);
    own_numbers = λ q. moved.numbers q t;
    numbers = λ q c a at. moved.numbers q c ∙ at;
  }

  -- after a call that moved the task on, by what it did on the phaser
  goes_on : (n : ℕ) (now : History) → HasMovedOn job before after t p now
      → before.number p t ≡ Some n → HasOwnCalls job before t
      → (AreOwn job before t p n (before.history p) → AreOwn job before t p n now)
      → HasOwnCalls job after t
  goes_on n now moved numbered own step =
      let same = begins_same now moved in
      let here : AreOwn job before t p n now = step (own_on job before t p n own numbered) in
      calls_go_on job before after t p n same own numbered moved.elsewhere
      (rw moved.here (own_later job before after t p n now same here))

  pub calls_seen : (n : ℕ) (now : History) → SeesOthers job before t p n now
      → HasSeen job before after t p now → HasOwnCalls job before t → HasOwnCalls job after t
  calls_seen n now sees seen own =
      goes_on n now seen.moved sees.numbered own
      (own_came job before t p n (before.history p) now sees.others)

  pub calls_put : (j n begun : ℕ) (vs : List ℤ) (last : History)
      → SeesOwn job before t p n (put_event job p n vs) last
      → HasPut job before after t j p vs begun (put_event job p n vs ∷ last)
      → HasOwnCalls job before t → HasOwnCalls job after t
  calls_put j n begun vs last sees put own =
      goes_on n (put_event job p n vs ∷ last) put.moved sees.numbered own
      (λ was. own_put job before t p n vs last
      (own_came job before t p n (before.history p) last sees.others was))

  pub calls_got : (k n begun : ℕ) (outcomes : List Outcome) (last : History)
      → SeesOwn job before t p n (Waited n (length outcomes)) last
      → IsAnsweredBy job p n outcomes last → All (λ outcome. is_too_big outcome ≡ false) outcomes
      → HasGot job before after t k p outcomes begun (Waited n (length outcomes) ∷ last)
      → HasOwnCalls job before t → HasOwnCalls job after t
  calls_got k n begun outcomes last sees answered fits got own =
      goes_on n (Waited n (length outcomes) ∷ last) got.moved sees.numbered own
      (λ was. own_got job before t p n outcomes last answered fits
      (own_came job before t p n (before.history p) last sees.others was))

  pub calls_left : (n : ℕ) (last : History) → SeesOwn job before t p n (Dropped n) last
      → LeavesPart job before after t p (Dropped n ∷ last)
      → HasOwnCalls job before t → HasOwnCalls job after t
  calls_left n last sees left own =
      goes_on n (Dropped n ∷ last) left.moved sees.numbered own
      (λ was. own_left job before t p n last
      (own_came job before t p n (before.history p) last sees.others was))

-- ---- a new number

-- a new number is not its parent's, and has no events
unused : (limits : Limits) (n a : ℕ) (mode : Mode) (h : History)
    → IsLegal limits (Registered n a mode ∷ h) → (eqb n a ≡ false) × (events_of a h ≡ [])
unused limits n a mode h legal =
    let r : Registers h n a mode = registers_from h n a mode legal.1 in
    let new : greatest_used h < a = r.new_number in
    let parent = start_from (start_of h n) (IsUsed-member h n (ap is_some r.is_member)) in
    let low : n ≤ greatest_used h = start_used h n parent.0 parent.1 in
    (ne_eqb n a (λ e. omega arith), events_of-unused limits h a legal.0 (start_of-above h a new))

-- who was registered last has no events yet
none_yet : (limits : Limits) (n a : ℕ) (mode : Mode) (h : History)
    → IsLegal limits (Registered n a mode ∷ h) → events_of a (Registered n a mode ∷ h) ≡ []
none_yet limits n a mode h legal =
    let new = unused limits n a mode h legal in
    ap (λ b. cond b (Registered n a mode ∷ events_of a h) (events_of a h)) new.0 ∙ new.1

-- and who was registered now
none_yet_now : (limits : Limits) (n a : ℕ) (h : History) → IsLegal limits (RegisteredNow n a ∷ h)
    → events_of a (RegisteredNow n a ∷ h) ≡ []
none_yet_now limits n a h legal =
    let new = unused limits n a Wait h legal in
    ap (λ b. cond b (RegisteredNow n a ∷ events_of a h) (events_of a h)) new.0 ∙ new.1

-- of a root
pub calls_root : (job : Job) (m : Moment) (t : ℕ) (numbers : List ℕ) (seen : ℕ → History)
    → IsGraph job.graph → t < length job.graph.tasks → (task_at job.graph t).parent ≡ None
    → length numbers ≡ length (registrations_at job t)
    → ((i : ℕ) → i < length (registrations_at job t)
    → IsRootOn job (registration_at job t i) (get_or numbers i 0) (seen i))
    → IsFirstMoment job m t numbers seen → HasOwnCalls job m t
calls_root job m t numbers seen is there root whole on first = record {
  offset = λ stays. first.offset t;
  above = λ u e. first.offset u.task;
  parent = λ u e. absurd (let no : None ≡ Some u = sym root ∙ e in cc);
  named = λ p n at. (own p n at).named;
  met_none = λ p n at. (own p n at).met_none;
  children = λ p n a at e. (own p n at).children a e;
}
  where
    own : (p n : ℕ) → m.number p t ≡ Some n → AreOwn job m t p n (m.history p)
    own p n at =
        let f : IsFound job t p = found_on job t p is there (first.part.ran.lines p n at) in
        let q = (registration_at job t f.i).phaser in
        let k = get_or numbers f.i 0 in
        let few : f.i < length (registrations_at job t) = f.few in
        let number : m.number q t ≡ Some k =
        (first.place 0).numbered f.i f.few ∙ slice_get-get_or numbers f.i 0 (omega arith) in
        let same : k ≡ n =
        same_Some k n (sym number ∙ ap (λ x. m.number x t) f.phaser ∙ at) in
        let r = on f.i f.few in
        let none : events_of k (Registered 0 k (registration_at job t f.i).mode ∷ r.before) ≡ [] =
        none_yet (limits_at job q) 0 k (registration_at job t f.i).mode r.before
        (rw r.is at r.legal) in
        own_new job m t p n (m.history p)
        (ap (λ x. events_of n (m.history x)) (sym f.phaser)
        ∙ ap (events_of n) (first.history f.i f.few)
        ∙ ap (events_of n) r.is
        ∙ ap (λ x. events_of x (Registered 0 k (registration_at job t f.i).mode ∷ r.before))
        (sym same) ∙ none)

-- ---- a child in the making

module _ (job : Job) (before after : Moment) (t c : ℕ) (is : IsGraph job.graph)
    (there : t < length job.graph.tasks) (child : IsChildOf job c t) where
  parent_apart : t ≢ c
  parent_apart same =
      apart_from_parent job c child.parent is child.there child.has (child.by ∙ same)

  -- a parent does not join now
  parent_stays : (task_at job.graph t).joins_now ≡ false
  parent_stays =
      ap (λ x. (task_at job.graph x).joins_now) (sym child.by)
      ∙ (parent_of job c child.parent is child.there child.has).stays

  -- the parent of the parent is not the child
  above_apart : (u : Parent) → (task_at job.graph t).parent ≡ Some u → u.task ≢ c
  above_apart u e same =
      let below : child.parent.task < c =
      (parent_of job c child.parent is child.there child.has).above in
      omega (arith, (parent_of job t u is there e).above, child.by, same)

  pub calls_begin : HasNewChild job before after t c [] → before.begun t ≡ child.parent.at
      → ((task_at job.graph c).joins_now ≡ false → before.offset c ≡ (opening job).offset c)
      → ((p : ℕ) → before.number p c ≡ None)
      → HasOwnCalls job before t → HasOwnCalls job after t × HasOwnCalls job after c
  calls_begin new boundary offset nowhere own = (
    record {
      offset = λ stays. new.offset t ∙ own.offset stays;
      above = λ u e. new.offset u.task ∙ own.above u e;
      parent = λ u e. new.others_begun u.task (above_apart u e) ∙ own.parent u e;
      named = λ p n at. (kept p n at).named;
      met_none = λ p n at. (kept p n at).met_none;
      children = λ p n a at e. (kept p n at).children a e;
    },
    record {
      offset = λ stays. new.offset c ∙ offset stays;
      above = λ u e.
          (let same : child.parent ≡ u = same_Some child.parent u (sym child.has ∙ e) in
          let at : u.task ≡ t = ap (λ (x : Parent). x.task) (sym same) ∙ child.by in
          ap (λ x. after.offset x) at ∙ new.offset t ∙ own.offset parent_stays
          ∙ ap (λ x. (opening job).offset x) (sym at));
      parent = λ u e.
          (let same : child.parent ≡ u = same_Some child.parent u (sym child.has ∙ e) in
          ap (λ (x : Parent). after.begun x.task) (sym same) ∙ ap (λ x. after.begun x) child.by
          ∙ new.same.begun ∙ boundary ∙ ap (λ (x : Parent). x.at) same);
      named = λ p n at. absurd (nobody p n at);
      met_none = λ p n at. absurd (nobody p n at);
      children = λ p n a at e. absurd (nobody p n at);
    },
  )
    where
      nobody : (p n : ℕ) → after.number p c ≡ Some n → ⊥
      nobody p n at =
          (let no : None ≡ Some n = sym (nowhere p) ∙ (sym (new.numbers_stay p c) ∙ at) in cc)

      same : BeginsAsBefore job before after t
      same = record {
        offset = λ stays. new.offset t;
        above = λ u e. new.offset u.task;
        parent = λ u e. new.others_begun u.task (above_apart u e);
        own_numbers = λ q. new.numbers_stay q t;
        numbers = λ q x a at. new.numbers_stay q x ∙ at;
      }

      kept : (p n : ℕ) → after.number p t ≡ Some n → AreOwn job after t p n (after.history p)
      kept p n at =
          rw (new.history p)
          (own_later job before after t p n (before.history p) same
          (own_on job before t p n own (sym (new.numbers_stay p t) ∙ at)))

  -- the child's, where nothing came on the phasers on which it has a number
  child_stays : BeginsAsBefore job before after c → HasOwnCalls job before c
      → ((q n : ℕ) → before.number q c ≡ Some n → after.history q ≡ before.history q)
      → HasOwnCalls job after c
  child_stays same own quiet = record {
    offset = λ stays. same.offset stays ∙ own.offset stays;
    above = λ u e. same.above u e ∙ own.above u e;
    parent = λ u e. same.parent u e ∙ own.parent u e;
    named = λ p n at. (kept p n at).named;
    met_none = λ p n at. (kept p n at).met_none;
    children = λ p n a at e. (kept p n at).children a e;
  }
    where
      kept : (p n : ℕ) → after.number p c ≡ Some n → AreOwn job after c p n (after.history p)
      kept p n at =
          let was : before.number p c ≡ Some n = sym (same.own_numbers p) ∙ at in
          rw (quiet p n was)
          (own_later job before after c p n (before.history p) same
          (own_on job before c p n own was))

  pub calls_wait : (p n : ℕ) (numbers : List ℕ) (now : History)
      → SeesOthers job before t p n now → before.number p c ≡ None
      → HasSeenBoth job before after t c p numbers now
      → HasOwnCalls job before t → HasOwnCalls job before c
      → HasOwnCalls job after t × HasOwnCalls job after c
  calls_wait p n numbers now sees nowhere both own own_c = (
    calls_seen job before after t p is there n now sees both.seen own,
    child_stays (record {
      offset = λ stays. both.seen.moved.offset c;
      above = λ u e. both.seen.moved.offset u.task;
      parent = λ u e.
          (let same : child.parent ≡ u = same_Some child.parent u (sym child.has ∙ e) in
          let at : u.task ≡ t = ap (λ (x : Parent). x.task) (sym same) ∙ child.by in
          ap (λ x. after.begun x) at ∙ both.seen.same.begun ∙ ap (λ x. before.begun x) (sym at));
      own_numbers = λ q. both.seen.moved.numbers q c;
      numbers = λ q x a at. both.seen.moved.numbers q x ∙ at;
    }) own_c
        (λ q k at. both.seen.moved.elsewhere q
        (λ e. (let no : None ≡ Some k =
        sym nowhere ∙ (ap (λ x. before.number x c) (sym e) ∙ at) in cc))),
  )

  -- the parent has registered it as number a on phaser p, by its last event there
  record IsAdded (p n a : ℕ) (event : Event) (last : History) : Type 0 where
    pub here : after.history p ≡ event ∷ last
    pub elsewhere : (q : ℕ) → q ≢ p → after.history q ≡ before.history q
    pub number : after.number p c ≡ Some a
    pub other_numbers : (q u : ℕ) → (q ≢ p) ⊎ (u ≢ c) → after.number q u ≡ before.number q u
    pub stays : (task_at job.graph c).joins_now ≡ false → after.offset c ≡ before.offset c
    pub offset : (u : ℕ) → u ≢ c → after.offset u ≡ before.offset u
    pub begun : (u : ℕ) → after.begun u ≡ before.begun u
    pub registers : IsRegistration n a event last
    -- the new number has no events
    pub new : events_of a (event ∷ last) ≡ []

  calls_added : (p n a : ℕ) (event : Event) (last : History)
      → SeesOwn job before t p n event last → before.number p c ≡ None
      → IsAdded p n a event last → HasOwnCalls job before t → HasOwnCalls job before c
      → HasOwnCalls job after t × HasOwnCalls job after c
  calls_added p n a event last sees nowhere added own own_c = (
    calls_go_on job before after t p n mine own sees.numbered added.elsewhere
        (subst (λ h. AreOwn job after t p n h) (sym added.here)
        (own_registered job after t p n a event last added.registers
        (record { child = c; is_child = child; numbered = added.number })
        (own_later job before after t p n last mine
        (own_came job before t p n (before.history p) last sees.others
        (own_on job before t p n own sees.numbered))))),
    record {
      offset = λ stays. added.stays stays ∙ own_c.offset stays;
      above = λ u e. added.offset u.task (apart_from_parent job c u is child.there e)
          ∙ own_c.above u e;
      parent = λ u e. added.begun u.task ∙ own_c.parent u e;
      named = λ q k at. (new q k at).named;
      met_none = λ q k at. (new q k at).met_none;
      children = λ q k b at e. (new q k at).children b e;
    },
  )
    where
      mine : BeginsAsBefore job before after t
      mine = record {
        offset = λ stays. added.offset t parent_apart;
        above = λ u e. added.offset u.task (above_apart u e);
        parent = λ u e. added.begun u.task;
        own_numbers = λ q. added.other_numbers q t (inr parent_apart);
        numbers = λ q x b at. numbers_stay q x b at (eq_case q p) (eq_case x c);
      }
        where
          numbers_stay : (q x b : ℕ) → before.number q x ≡ Some b → (q ≡ p) ⊎ (q ≢ p)
              → (x ≡ c) ⊎ (x ≢ c) → after.number q x ≡ Some b
          numbers_stay q x b at (inr other) f = added.other_numbers q x (inl other) ∙ at
          numbers_stay q x b at (inl e) (inr other) = added.other_numbers q x (inr other) ∙ at
          numbers_stay q x b at (inl e) (inl f) =
              absurd (let no : None ≡ Some b =
              sym nowhere ∙ (ap (λ y. before.number y c) (sym e)
              ∙ (ap (λ y. before.number q y) (sym f) ∙ at)) in cc)

      new : (q k : ℕ) → after.number q c ≡ Some k → AreOwn job after c q k (after.history q)
      new q k at = by (eq_case q p)
        where
          by : (q ≡ p) ⊎ (q ≢ p) → AreOwn job after c q k (after.history q)
          by (inr other) =
              let was : AreOwn job before c q k (before.history q) =
              own_on job before c q k own_c (sym (added.other_numbers q c (inl other)) ∙ at) in
              rw (added.elsewhere q other) (record {
                named = was.named;
                met_none = was.met_none;
                children = λ b e.
                    (let g = was.children b e in
                    record {
                      child = g.child;
                      is_child = g.is_child;
                      numbered = added.other_numbers q g.child (inl other) ∙ g.numbered;
                    });
              })
          by (inl e) =
              let same : a ≡ k =
              same_Some a k (sym added.number ∙ (ap (λ y. after.number y c) (sym e) ∙ at)) in
              own_new job after c q k (after.history q)
              (ap (λ y. events_of k (after.history y)) e ∙ ap (events_of k) added.here
              ∙ ap (λ y. events_of y (event ∷ last)) (sym same) ∙ added.new)

  pub calls_registered : (p n a : ℕ) (mode : Mode) (numbers : List ℕ) (last : History)
      → SeesOwn job before t p n (Registered n a mode) last → before.number p c ≡ None
      → HasAddedChild job before after t c p a numbers (Registered n a mode ∷ last)
      → HasOwnCalls job before t → HasOwnCalls job before c
      → HasOwnCalls job after t × HasOwnCalls job after c
  calls_registered p n a mode numbers last sees nowhere added own own_c =
      calls_added p n a (Registered n a mode) last sees nowhere (record {
        here = added.here;
        elsewhere = added.elsewhere;
        number = added.number;
        other_numbers = added.other_numbers;
        stays = λ stays. added.offset c;
        offset = λ u apart. added.offset u;
        begun = added.begun;
        registers = plain_registration n a mode last;
        new = none_yet (limits_at job p) n a mode last sees.legal;
      }) own own_c

  pub calls_registered_now : (p n a start : ℕ) (last : History)
      → (task_at job.graph c).joins_now ≡ true
      → SeesOwn job before t p n (RegisteredNow n a) last → before.number p c ≡ None
      → HasAddedNow job before after t c p a start (RegisteredNow n a ∷ last)
      → HasOwnCalls job before t → HasOwnCalls job before c
      → HasOwnCalls job after t × HasOwnCalls job after c
  calls_registered_now p n a start last now sees nowhere added own own_c =
      calls_added p n a (RegisteredNow n a) last sees nowhere (record {
        here = added.here;
        elsewhere = added.elsewhere;
        number = added.number;
        other_numbers = added.other_numbers;
        stays = λ stays. absurd (let no : true ≡ false = sym now ∙ stays in cc);
        offset = added.offset;
        begun = added.begun;
        registers = registration_now n a last;
        new = none_yet_now (limits_at job p) n a last sees.legal;
      }) own own_c
