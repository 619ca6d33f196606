-- The state of a joiner that has taken a share of each of its inputs.
use Rattle.std.proofs.Common.{◌≡◌, ℕ, ◌+◌, ◌*◌, ◌%◌, ◌<◌, ◌≤◌, ◌⊎◌, inl, inr, ℤ, false, List, [], ◌++◌, Option, Some, None, length, map, get_or, refl, sym, ap, subst, ◌∙◌, arith, All}
use Rattle.std.specs.Global.{Global}
use Rattle.std.specs.Prelude.{Bool, Vec, take}
use Rattle.std.proofs.lemmas.Bool.{cases_lt}
use Rattle.std.proofs.lemmas.Option.{same_Some, slice_get_within}
use Rattle.phase_accum.specs.declared.outcome.Outcome.{Outcome}
use Rattle.phase_history.specs.Histories.{History}
use Rattle.phase_history.specs.Legal.{IsLegal}
use Rattle.graph_base.specs.declared.line.Kind.TheVariants as kind
use Rattle.graph_base.specs.Graphs.{Task, task_at}
use Rattle.stream_lists.specs.Jobs.{Job, index_in}
use Rattle.stream_lists.specs.Lists.{in_turn, number}
use Rattle.stream_lists.specs.Ranges.{is_too_big}
use Rattle.graph_runs.specs.Moments.{AtMost, Moment, OnInput, OnLine, first_input, input_at, limits_at}
use Rattle.graph_runs.specs.Moves.{IsStaying}
use Rattle.graph_runs.specs.Nexts.{registrations_at}
use Rattle.graph_runs.specs.Parts.{SeesOwn}
use Rattle.graph_runs.specs.TaskPlaces.{StandsUpTo, registration_at}
use Rattle.graph_runs.specs.Turned.{with_at}
use Rattle.graph_runs.specs.declared.owed.Owed.TheVariants.{Nothing}
use Rattle.graph_runs.proofs.Reaching.{one_registration}
use Rattle.graph_runs.proofs.TellsNext.{staying_at}
use Rattle.graph_runs.proofs.Turned.{at_other, at_same}
use Rattle.stream_lists.proofs.Ordered.{place-at, place_of_input}
use Rattle.stream_members.specs.Members.{Spot}
use Rattle.stream_members.specs.AnyMembers.{member_in}
use Rattle.stream_members.specs.declared.any_member.AnyMember.{AnyMember}
use Rattle.stream_tasks.specs.Holds.{MemberHasWaited, wait_event}
use Rattle.stream_tasks.specs.Joiners.{HaveGiven, MayTakeShares, share_at, shares_in}
use Rattle.stream_tasks.specs.Tasks.{HasHolds, IsHeldOn, IsOn, IsOwnTaskAt, IsTask, IsWhole, owed_by, place_of_state}
use Rattle.stream_tasks.specs.declared.hold.Hold.{Hold}
use Rattle.stream_tasks.specs.declared.hold.Hold.TheVariants.{On, Gone}
use Rattle.stream_tasks.specs.declared.task_state.TaskState.{TaskState}
use Rattle.stream_tasks.proofs.Holding.{sees_own}
use Rattle.stream_tasks.proofs.JoinBlocks.{shares_stand}
use Rattle.stream_tasks.proofs.JoinMoments.{GetsShares, GoesOnBy, MayGetShares, nothing_came, shares_known, shares_own, shares_part, wait_came}
use Rattle.stream_tasks.proofs.JoinStates.{join_owes, join_undealt}
use Rattle.stream_tasks.proofs.JoinTurns.{share_all, share_long}
use Rattle.stream_tasks.proofs.Turning.{goes}
use Rattle.stream_tasks.proofs.Waiting.{answered_on, input_on}

-- ---- the moment after

-- what a hold has seen
abbrev seen_by : Hold → History
seen_by (On x) = (member_in x).seen
seen_by Gone = []

-- the history of a phaser, by the input that it is, where it is one
abbrev seen_on : List Hold → History → Option ℕ → History
seen_on holds before (Some k) = seen_by (get_or holds k Gone)
seen_on holds before None = before

-- each input has the history that its hold has seen, and the task has taken the shares
abbrev pub after_shares : Job → ℕ → ℕ → List Hold → List Outcome → Moment → Moment
after_shares job t each holds outcomes m = record m {
  history = λ q. seen_on holds (m.history q) (index_in (task_at job.graph t).inputs q);
  begun = with_at t (m.begun t + length (task_at job.graph t).inputs * each) m.begun;
  taken = with_at t (λ k. m.taken t k ++ map number (share_at each k outcomes)) m.taken;
}

-- a hold of a phaser whose history stays
held_still : (job : Job) (spots : ℕ → Spot) (m after : Moment) (t q : ℕ) (hold : Hold)
    → after.number q t ≡ m.number q t → after.history q ≡ m.history q
    → IsHeldOn job spots m t q hold → IsHeldOn job spots after t q hold
held_still job spots m after t q (On x) number history on = record {
  op = on.op;
  at = on.at;
  limits = on.limits;
  numbered = number ∙ on.numbered;
  seen = on.seen ∙ sym history;
}
held_still job spots m after t q Gone number history on = on

module _ (job : Job) (spots : ℕ → Spot) (m : Moment) (s : TaskState) (each : ℕ)
    (holds : List Hold) (outcomes : List Outcome) (whole : IsWhole job s)
    (at : IsOwnTaskAt job spots m s) (join : (task_at job.graph s.number).kind ≡ kind.Join)
    (going : s.over ≡ false) (none : s.made.items ≡ []) (shares : MayTakeShares job s each)
    (room : length (task_at job.graph s.number).inputs * each ≤ length outcomes)
    (given : HaveGiven (length (task_at job.graph s.number).inputs) each s.holds.items holds outcomes)
    (fit : All (λ outcome. is_too_big outcome ≡ false)
    (take (length (task_at job.graph s.number).inputs * each) outcomes)) where
  abbrev t : ℕ
  t = s.number

  abbrev task : Task
  task = task_at job.graph s.number

  abbrev n : ℕ
  n = length (task_at job.graph s.number).inputs

  abbrev after : Moment
  after = after_shares job s.number each holds outcomes m

  left : length s.lefts.items ≡ 0
  left = whole.staying going

  stands : StandsUpTo s.most job m t (place_of_state s)
  stands = at.place (join_undealt job s whole join)

  staying : IsStaying m t
  staying =
      staying_at job m t (place_of_state s) whole.graph whole.there at.part.ran stands left

  first : m.begun t % length (task_at job.graph s.number).inputs ≡ 0
  first =
      let plain : first_input task s.begun ≡ s.begun % n = rw join refl in
      ap (λ b. b % n) stands.begun ∙ sym plain ∙ shares.first

  may : MayGetShares job m t each
  may = record {
    graph = whole.graph;
    there = whole.there;
    kind = join;
    part = at.part;
    staying = staying;
    first = first;
    cut = subst (λ b. AtMost (b + n * each) task.until) (sym stands.begun) shares.cut;
  }

  -- what a wait for a share left of its registration
  share_on : (k : ℕ) → k < length (task_at job.graph s.number).inputs
      → (x : AnyMember) × ((y : AnyMember) × (get_or s.holds.items k Gone ≡ On x)
      × (get_or holds k Gone ≡ On y) × MemberHasWaited (share_at each k outcomes) x y
      × IsOn job spots m s.number (input_at (task_at job.graph s.number) k) x)
  share_on k lt =
      let place = input_on job s k (input_at task k) whole lt refl in
      goes (MemberHasWaited (share_at each k outcomes)) job spots m t (input_at task k)
      (get_or s.holds.items k Gone) (get_or holds k Gone) (given.given k lt)
      (subst (λ q. IsHeldOn job spots m t q (get_or s.holds.items k Gone)) place.1
      (at.holds.on k place.0 (omega (arith, left))))

  -- the history of an input is what its registration has seen, and that of another phaser stays
  history_in : (k : ℕ) (lt : k < length (task_at job.graph s.number).inputs)
      → after.history (input_at (task_at job.graph s.number) k)
      ≡ (member_in (share_on k lt).1.0).seen
  history_in k lt =
      ap (seen_on holds (m.history (input_at task k)))
      (place_of_input job.graph t k whole.graph whole.there lt)
      ∙ ap seen_by (share_on k lt).1.2

  history_out : (q : ℕ) → index_in (task_at job.graph s.number).inputs q ≡ None
      → after.history q ≡ m.history q
  history_out q e = ap (seen_on holds (m.history q)) e

  sees : (k : ℕ) (lt : k < length (task_at job.graph s.number).inputs)
      → SeesOwn job m s.number (input_at (task_at job.graph s.number) k)
      (member_in (share_on k lt).0).number
      (wait_event (length (share_at each k outcomes)) (member_in (share_on k lt).0).number)
      (share_on k lt).1.3.before
  sees k lt =
      let both = share_on k lt in
      sees_own job spots m t (input_at task k) (wait_event (length (share_at each k outcomes)))
      both.0 both.1.0 both.1.3.before both.1.4 both.1.3.made

  goes_by : (k : ℕ) (lt : k < length (task_at job.graph s.number).inputs)
      → GoesOnBy job m s.number (input_at (task_at job.graph s.number) k)
      (member_in (share_on k lt).0).number
      (m.history (input_at (task_at job.graph s.number) k))
      (after.history (input_at (task_at job.graph s.number) k)) (share_at each k outcomes)
  goes_by k lt =
      let both = share_on k lt in
      let q = input_at task k in
      let mine = (member_in both.0).number in
      let os = share_at each k outcomes in
      let was : OnInput job m t k q mine = rw both.1.4.numbered at (at.part.ran.inputs k lt) in
      subst (λ h. GoesOnBy job m t q mine (m.history q) h os)
      (sym (history_in k lt ∙ both.1.3.made.seen))
      (wait_came job m t q mine os both.1.3.before was.start was.start_is (sees k lt)
      (answered_on job spots m t q os both.0 both.1.0 both.1.4 both.1.3)
      (share_all (λ outcome. is_too_big outcome ≡ false) n k each outcomes lt room fit))

  gets : GetsShares job m after s.number each (λ k. share_at each k outcomes)
  gets = record {
    numbers = λ q u. refl;
    offset = λ u. refl;
    others_begun = λ u apart. at_other t (m.begun t + n * each) m.begun u apart;
    begun = at_same t (m.begun t + n * each) m.begun;
    put = λ j. refl;
    taken = λ k lt.
        ap (λ f. f k)
        (at_same t (λ i. m.taken t i ++ map number (share_at each i outcomes)) m.taken);
    many = λ k lt. share_long n k each outcomes lt room;
    legal = λ q on. legal q on (index_in task.inputs q) refl;
    inputs = λ k lt.
        ((member_in (share_on k lt).0).number, (share_on k lt).1.4.numbered, goes_by k lt);
    each_phaser = λ q u numbered. each_phaser q u numbered (index_in task.inputs q) refl;
  }
    where
      legal : (q : ℕ) → OnLine (task_at job.graph s.number) q → (place : Option ℕ)
          → index_in (task_at job.graph s.number).inputs q ≡ place
          → IsLegal (limits_at job q) (after.history q)
      legal q on None e =
          subst (λ h. IsLegal (limits_at job q) h) (sym (history_out q e)) (at.part.legal q on)
      legal q on (Some k) e =
          let here = place-at task.inputs q k e in
          let L : ℕ → Type 0 = λ x. IsLegal (limits_at job x) (after.history x) in
          subst L here.1
          (subst (λ h. IsLegal (limits_at job (input_at task k)) h)
          (sym (history_in k here.0 ∙ (share_on k here.0).1.3.made.seen)) (sees k here.0).legal)

      each_phaser : (q u : ℕ) → m.number q s.number ≡ Some u → (place : Option ℕ)
          → index_in (task_at job.graph s.number).inputs q ≡ place
          → (got : List Outcome)
          × GoesOnBy job m s.number q u (m.history q) (after.history q) got
      each_phaser q u numbered None e = (
        [],
        subst (λ h. GoesOnBy job m t q u (m.history q) h []) (sym (history_out q e))
            (nothing_came job m t q u (m.history q)),
      )
      each_phaser q u numbered (Some k) e =
          let here = place-at task.inputs q k e in
          let both = share_on k here.0 in
          let G : ℕ → ℕ → Type 0 =
          λ x y. GoesOnBy job m t x y (m.history x) (after.history x) (share_at each k outcomes) in
          let same : (member_in both.0).number ≡ u =
          same_Some (member_in both.0).number u
          (sym both.1.4.numbered ∙ ap (λ x. m.number x t) here.1 ∙ numbered) in (
            share_at each k outcomes,
            subst (λ y. G q y) same
                (subst (λ x. G x (member_in both.0).number) here.1 (goes_by k here.0)),
          )

  -- ---- what it holds

  held_input : (k : ℕ) → k < length (task_at job.graph s.number).inputs
      → IsHeldOn job spots after s.number (registration_at job s.number k).phaser
      (get_or holds k Gone)
  held_input k lt =
      let both = share_on k lt in
      let place = input_on job s k (input_at task k) whole lt refl in
      let same = both.1.3.made.same in
      let on : IsOn job spots after t (input_at task k) both.1.0 = record {
        op = same.op ∙ both.1.4.op;
        at = same.at ∙ both.1.4.at;
        limits = both.1.4.limits;
        numbered = both.1.4.numbered ∙ ap Some (sym same.number);
        seen = sym (history_in k lt);
      } in
      subst (λ q. IsHeldOn job spots after t q (get_or holds k Gone)) (sym place.1)
      (subst (λ h. IsHeldOn job spots after t (input_at task k) h) (sym both.1.2) on)

  -- a registration behind those of the inputs is on none of them
  not_input : (i : ℕ) → i < length (registrations_at job s.number)
      → length (task_at job.graph s.number).inputs ≤ i → (place : Option ℕ)
      → index_in (task_at job.graph s.number).inputs (registration_at job s.number i).phaser
      ≡ place
      → index_in (task_at job.graph s.number).inputs (registration_at job s.number i).phaser
      ≡ None
  not_input i lt behind None e = e
  not_input i lt behind (Some k) e =
      let here = place-at task.inputs (registration_at job t i).phaser k e in
      let place = input_on job s k (input_at task k) whole here.0 refl in
      let same : i ≡ k =
      one_registration job t i k whole.graph whole.there lt place.0
      (sym here.1 ∙ sym place.1) in
      absurd (omega (arith, same, here.0, behind))

  held_after : (i : ℕ) → i < length (registrations_at job s.number)
      → (i < length (task_at job.graph s.number).inputs)
      ⊎ (length (task_at job.graph s.number).inputs ≤ i)
      → IsHeldOn job spots after s.number (registration_at job s.number i).phaser
      (get_or holds i Gone)
  held_after i lt (inl low) = held_input i low
  held_after i lt (inr high) =
      let q = (registration_at job t i).phaser in
      subst (λ h. IsHeldOn job spots after t q h) (sym (given.others i high))
      (held_still job spots m after t q (get_or s.holds.items i Gone) refl
      (history_out q (not_input i lt high (index_in task.inputs q) refl))
      (at.holds.on i lt (omega (arith, left))))

  -- ---- the state

  pub state_shares : (begun telling : ℕ) (entered : Bool) (made : Vec ℤ Global)
      (places : Vec Outcome Global) (held : Vec Hold Global)
      → begun ≡ s.begun + length (task_at job.graph s.number).inputs * each
      → made.items ≡ in_turn (shares_in (length (task_at job.graph s.number).inputs) each outcomes)
      (length (task_at job.graph s.number).inputs * each) → held.items ≡ holds
      → IsOwnTaskAt job spots after
      (record s {
        begun = begun;
        made = made;
        entered = entered;
        telling = telling;
        outcomes = places;
        holds = held;
      })
  state_shares begun telling entered made places held more then same_holds =
      let undealt = join_undealt job s whole join in
      let nothing_owed = join_owes job s whole join ∙ ap (λ l. owed_by Nothing l) none in
      let block = in_turn (shares_in n each outcomes) (n * each) in
      let owed_is : owed_by s.owed made.items ≡ owed_by Nothing block =
      ap (λ o. owed_by o made.items) (whole.makers (rw join tt)) ∙ ap (owed_by Nothing) then in
      let stand : StandsUpTo s.most job after t (record {
        numbers = s.numbers.items;
        left = length s.lefts.items;
        begun = s.begun + n * each;
        owed = owed_by Nothing block;
      }) =
      shares_stand job m after t each s.most (λ k. share_at each k outcomes) (place_of_state s) may
      gets stands nothing_owed shares.some shares.room staying in
      record {
        part = shares_part job m after t each (λ k. share_at each k outcomes) may gets;
        own = shares_own job m after t each (λ k. share_at each k outcomes) may gets at.own;
        knows = shares_known job m after t each (λ k. share_at each k outcomes) may gets at.knows;
        place = λ undealt_now.
            subst (λ b. StandsUpTo s.most job after t (record { numbers = s.numbers.items; left = length s.lefts.items; begun = b; owed = owed_by s.owed made.items }))
            (sym more)
            (subst (λ o. StandsUpTo s.most job after t (record { numbers = s.numbers.items; left = length s.lefts.items; begun = s.begun + n * each; owed = o }))
            (sym owed_is) stand);
        deals = λ some. absurd (some undealt);
        start = λ joins. at.start joins;
        holds = subst (λ l. HasHolds job spots after t l s.lefts.items) (sym same_holds) (record {
          on = λ i lt le. held_after i lt (cases_lt i n);
          off = λ i gone found.
              absurd (omega (arith, left, slice_get_within s.lefts.items i gone found));
        });
        filter = λ fir. absurd (let no : kind.Join ≡ kind.Fir = sym join ∙ fir in cc);
        lines = λ sink. absurd (let no : kind.Join ≡ kind.Sink = sym join ∙ sink in cc);
        given = λ i child found.
            (let has = at.given i child found in
            record { few = has.few; numbered = has.numbered; lines = has.lines });
        at_end = λ over. absurd (let no = sym going ∙ over in cc);
      }

-- ---- the task

-- what holds always stays, with as many holds and places, and few values made
pub whole_shares : (job : Job) (s : TaskState) (begun telling : ℕ) (entered : Bool)
    (made : Vec ℤ Global) (outcomes : Vec Outcome Global) (holds : Vec Hold Global)
    → (task_at job.graph s.number).kind ≡ kind.Join → length made.items ≤ s.most
    → made.cap ≡ s.made.cap → length outcomes.items ≡ length s.outcomes.items
    → length holds.items ≡ length s.holds.items → IsWhole job s
    → IsWhole job
    (record s {
      begun = begun;
      made = made;
      entered = entered;
      telling = telling;
      outcomes = outcomes;
      holds = holds;
    })
whole_shares job s begun telling entered made outcomes holds join few cap many long whole = record {
  graph = whole.graph;
  there = whole.there;
  samples = whole.samples;
  numbers = whole.numbers;
  holds = long ∙ whole.holds;
  children = whole.children;
  staying = whole.staying;
  room = whole.room;
  places = record {
    most = whole.places.most;
    own = whole.places.own;
    own_few = whole.places.own_few;
    block = whole.places.block;
    made = subst (λ c. s.most ≤ c) (sym cap) whole.places.made;
    few_made = few;
    outcomes = subst (λ c. s.most ≤ c) (sym many) whole.places.outcomes;
    sends = whole.places.sends;
    few_dealt = whole.places.few_dealt;
    deal = whole.places.deal;
    served = whole.places.served;
  };
  makers = whole.makers;
  others = λ no. absurd (no (rw join tt));
  splitters = whole.splitters;
  dealers = whole.dealers;
}

-- a joiner has taken so many values from each of its inputs, and owes them in turn
pub task_shares : (job : Job) (spots : ℕ → Spot) (s : TaskState) (each begun telling : ℕ)
    (entered : Bool) (made : Vec ℤ Global) (outcomes : Vec Outcome Global)
    (holds : Vec Hold Global) → (task_at job.graph s.number).kind ≡ kind.Join → s.met ≡ false
    → s.over ≡ false → s.made.items ≡ [] → MayTakeShares job s each
    → begun ≡ s.begun + length (task_at job.graph s.number).inputs * each
    → made.items
    ≡ in_turn (shares_in (length (task_at job.graph s.number).inputs) each outcomes.items)
    (length (task_at job.graph s.number).inputs * each) → length made.items ≤ s.most
    → made.cap ≡ s.made.cap → length outcomes.items ≡ length s.outcomes.items
    → length holds.items ≡ length s.holds.items
    → HaveGiven (length (task_at job.graph s.number).inputs) each s.holds.items holds.items
    outcomes.items
    → All (λ outcome. is_too_big outcome ≡ false)
    (take (length (task_at job.graph s.number).inputs * each) outcomes.items)
    → IsTask job spots s
    → IsTask job spots
    (record s {
      begun = begun;
      made = made;
      entered = entered;
      telling = telling;
      outcomes = outcomes;
      holds = holds;
    })
task_shares job spots s each begun telling entered made outcomes holds join met going none shares more then few cap many long given fit task =
    record {
      whole = whole_shares job s begun telling entered made outcomes holds join few cap many long
          task.whole;
      stands = λ again.
          let m = (task.stands met).0 in
          let room : length (task_at job.graph s.number).inputs * each ≤ length outcomes.items =
          omega (arith, shares.room, task.whole.places.outcomes, many) in (
            after_shares job s.number each holds.items outcomes.items m,
            state_shares job spots m s each holds.items outcomes.items task.whole
                (task.stands met).1 join going none shares room given fit begun telling entered made
                outcomes holds more then refl,
          );
    }
