-- A task has registered a child: what its state and the child's holds are, by what either way of
-- registering leaves of the moment.
use Rattle.std.proofs.Common.{◌≡◌, ◌≢◌, ℕ, ◌+◌, ◌<◌, ◌≤◌, ◌-◌, true, false, List, [], ◌∷◌, ◌++◌, Some, None, length, get_or, set, refl, sym, ap, ◌∙◌, arith, ◌⊎◌, inl, inr}
use Rattle.std.specs.Prelude.{slice_get, Vec}
use Rattle.std.specs.Global.{Global}
use Rattle.std.specs.Vec.{with_item}
use Rattle.std.proofs.lemmas.Bool.{cases_lt}
use Rattle.std.proofs.lemmas.List.{length-append, get_or-append_right, get_or_append_left, get_or-set_same, get_or-set_other, length-set}
use Rattle.std.proofs.lemmas.Option.{slice_get-get_or, slice_get_past, same_Some}
use Rattle.phase_history.specs.declared.event.Event.{Event}
use Rattle.phase_history.specs.Histories.{History}
use Rattle.graph_base.specs.Graphs.{task_at}
use Rattle.graph_base.specs.TaskLines.{IsGraph}
use Rattle.stream_lists.specs.Jobs.{Job}
use Rattle.graph_runs.specs.Moments.{Moment}
use Rattle.graph_runs.proofs.Whole.{parent_of}
use Rattle.graph_runs.specs.Moves.{SameTask}
use Rattle.stream_members.specs.Members.{Spot}
use Rattle.stream_members.specs.AnyMembers.{member_in, member_op}
use Rattle.stream_members.specs.declared.any_member.AnyMember.{AnyMember}
use Rattle.graph_runs.specs.Nexts.{registrations_at}
use Rattle.graph_runs.specs.TaskPlaces as turns
use Rattle.graph_runs.specs.TaskPlaces.{StandsUpTo, registration_at}
use Rattle.graph_runs.proofs.Reaching.{one_registration}
use Rattle.graph_runs.specs.Parts.{HasPart}
use Rattle.graph_runs.specs.Places.{IsJoining, KnowsOthers}
use Rattle.graph_runs.specs.TaskEnds.{IsChildOf, HasNumbers, HasOwnCalls}
use Rattle.stream_tasks.specs.Holds.{HasMade}
use Rattle.stream_tasks.specs.Registering.{HasFirstHolds}
use Rattle.stream_tasks.specs.Tasks.{DealsNothing, IsOn, IsHeldOn, HasGivenNumbers, IsOwnTaskAt, IsWhole, place_of_state}
use Rattle.stream_tasks.specs.declared.child.Child.{Child}
use Rattle.stream_tasks.specs.declared.hold.Hold.{Hold}
use Rattle.stream_tasks.specs.declared.hold.Hold.TheVariants.{On, Gone}
use Rattle.stream_tasks.specs.declared.task_state.TaskState.{TaskState}
use Rattle.stream_tasks.proofs.Holding.{same_or_apart}
use Rattle.stream_tasks.proofs.ChildHolds.{held_same, numbers_same, holds_go}

-- the entry that was written, and the others
pub written : {X : Type 0} (xs : List X) (k : ℕ) (x : X) → k < length xs
    → slice_get (set xs k x) k ≡ Some x
written xs k x lt =
    let long : length (set xs k x) ≡ length xs = length-set xs k x in
    slice_get-get_or (set xs k x) k x (omega arith) ∙ ap Some (get_or-set_same xs k x x lt)

pub unwritten : {X : Type 0} (xs : List X) (k i : ℕ) (x : X) → i ≢ k
    → slice_get (set xs k x) i ≡ slice_get xs i
unwritten xs k i x apart = by (cases_lt i (length xs))
  where
    by : (i < length xs) ⊎ (length xs ≤ i) → slice_get (set xs k x) i ≡ slice_get xs i
    by (inl lt) =
        let long : length (set xs k x) ≡ length xs = length-set xs k x in
        slice_get-get_or (set xs k x) i x (omega arith)
        ∙ ap Some (get_or-set_other xs k i x x apart) ∙ sym (slice_get-get_or xs i x lt)
    by (inr past) =
        let long : length (set xs k x) ≡ length xs = length-set xs k x in
        slice_get_past (set xs k x) i (omega arith) ∙ sym (slice_get_past xs i past)

-- the child that another number was given to, among all children
pub record HasGivenOne (children kids : List Child) (c a : ℕ) (numbers : List ℕ) : Type 0 where
  pub place : ℕ
  pub kid : Child
  pub few : place < length children
  pub is : kids ≡ set children place kid
  pub task : kid.task ≡ c
  pub numbers_are : kid.numbers.items ≡ numbers ++ a ∷ []
  pub one : (i : ℕ) (other : Child) → slice_get children i ≡ Some other → other.task ≡ c
      → i ≡ place

-- a registration has made this event, and its child has seen what it has
pub record HasMadeChild (event : ℕ → Event) (old new child : AnyMember) (before : History) : Type
    0 where
  pub made : HasMade event old new before
  pub op : member_op child ≡ member_op old
  pub at : (member_in child).at ≡ (member_in old).at
  pub seen : (member_in child).seen ≡ (member_in new).seen

-- task t has registered its child c as number a on phaser p, whose history is this now: what either
-- way of registering leaves
pub record HasAddedOne (job : Job) (before after : Moment) (t c p a : ℕ) (numbers : List ℕ)
    (now : History) : Type 0 where
  pub part : HasPart job after t
  pub same : SameTask before after t
  pub place : (most : ℕ) (at : turns.TaskPlace) → StandsUpTo most job before t at
      → StandsUpTo most job after t at
  pub child : IsJoining job after c (numbers ++ a ∷ [])
  pub here : after.history p ≡ now
  pub elsewhere : (q : ℕ) → q ≢ p → after.history q ≡ before.history q
  pub number : after.number p c ≡ Some a
  pub other_numbers : (q u : ℕ) → (q ≢ p) ⊎ (u ≢ c) → after.number q u ≡ before.number q u
  pub knows : KnowsOthers job after t
  pub own : HasOwnCalls job after t × HasOwnCalls job after c

module _ (job : Job) (spots : ℕ → Spot) (m after : Moment) (s : TaskState) (c k p : ℕ)
    (numbers : List ℕ) (child_holds : List Hold) (event : ℕ → Event) (old new child : AnyMember)
    (before : History) (kids : Vec Child Global) (whole : IsWhole job s)
    (at : IsOwnTaskAt job spots m s) (first_holds : HasFirstHolds job spots m c numbers child_holds)
    (of_task : IsChildOf job c s.number) (going : s.over ≡ false) (undealt : DealsNothing s)
    (room : length numbers < length (registrations_at job c))
    (next : (registration_at job c (length numbers)).phaser ≡ p)
    (few : k < length (registrations_at job s.number))
    (here : (registration_at job s.number k).phaser ≡ p)
    (on : IsOn job spots m s.number p old) (made : HasMadeChild event old new child before)
    (has : HasAddedOne job m after s.number c p (member_in child).number numbers
    (event (member_in old).number ∷ before))
    (given : HasGivenOne s.children.items kids.items c (member_in child).number numbers) where
  abbrev t : ℕ
  t = s.number

  abbrev a : ℕ
  a = (member_in child).number

  nowhere : m.number p c ≡ None
  nowhere =
      ap (λ q. m.number q c) (sym next)
      ∙ (first_holds.joining.place s.most).numbered (length numbers) room
      ∙ slice_get_past numbers (length numbers) (omega arith)

  apart : t ≢ c
  apart = λ same. (let wrong : Some (member_in old).number ≡ None =
      sym on.numbered ∙ ap (λ x. m.number p x) same ∙ nowhere in cc)

  on_parent : IsOn job spots after t p new
  on_parent = record {
    op = made.made.same.op ∙ on.op;
    at = made.made.same.at ∙ on.at;
    limits = on.limits;
    numbered = has.other_numbers p t (inr apart) ∙ on.numbered
        ∙ ap Some (sym made.made.same.number);
    seen = made.made.seen ∙ sym has.here;
  }

  on_child : IsOn job spots after c p child
  on_child = record {
    op = made.op ∙ on.op;
    at = made.at ∙ on.at;
    limits = on.limits;
    numbered = has.number;
    seen = made.seen ∙ made.made.seen ∙ sym has.here;
  }

  -- the numbers of the child
  numbers_after : HasNumbers job after c (numbers ++ a ∷ [])
  numbers_after = record {
    few = (has.child.place s.most).few;
    numbered = λ i lt. (has.child.place s.most).numbered i lt;
    lines = λ q x found. has.child.part.ran.lines q x found;
  }

  -- and of all children
  given_after : HasGivenNumbers job after kids.items
  given_after i kid found =
      by (same_or_apart i given.place (cases_lt i given.place) (cases_lt given.place i))
    where
      looked : slice_get (set s.children.items given.place given.kid) i ≡ Some kid
      looked = ap (λ l. slice_get l i) (sym given.is) ∙ found

      by : (i ≡ given.place) ⊎ (i ≢ given.place)
          → HasNumbers job after kid.task kid.numbers.items
      by (inl same) =
          let is_kid : given.kid ≡ kid =
          same_Some given.kid kid
          (sym (written s.children.items given.place given.kid given.few)
          ∙ ap (λ x. slice_get (set s.children.items given.place given.kid) x) (sym same)
          ∙ looked) in
          let task : kid.task ≡ c = ap (λ (x : Child). x.task) (sym is_kid) ∙ given.task in
          let items : kid.numbers.items ≡ numbers ++ a ∷ [] =
          ap (λ (x : Child). x.numbers.items) (sym is_kid) ∙ given.numbers_are in
          rw task (rw items numbers_after)
      by (inr other) =
          let was : slice_get s.children.items i ≡ Some kid =
          sym (unwritten s.children.items given.place i given.kid other) ∙ looked in
          let task : kid.task ≢ c = λ same. other (given.one i kid was same) in
          numbers_same job m after kid.task kid.numbers.items
          (λ q. has.other_numbers q kid.task (inr task)) (at.given i kid was)

  pub first_holds_add : IsOwnTaskAt job spots after
      (record s { holds = with_item s.holds k (On new); children = kids })
      × HasFirstHolds job spots after c (numbers ++ a ∷ []) (child_holds ++ On child ∷ [])
  first_holds_add =
      let none : length s.lefts.items ≡ 0 = whole.staying going in (
        record {
          part = has.part;
          own = has.own.0;
          knows = has.knows;
          place = λ empty. has.place s.most (place_of_state s) (at.place empty);
          deals = λ some. absurd (some undealt);
          start = λ joins. has.same.offset ∙ at.start joins;
          holds = holds_go job spots m after t k p s.holds.items s.lefts.items (On new) whole.graph
              whole.there few here whole.holds (omega arith)
              (λ q. has.other_numbers q t (inr apart)) has.elsewhere at.holds on_parent;
          filter = rw (has.same.taken 0) at.filter;
          lines = λ sink. at.lines sink ∙ sym (has.same.taken 0);
          given = given_after;
          at_end = λ over. absurd (let no : false ≡ true = sym going ∙ over in cc);
        },
        record {
          joining = has.child;
          own = has.own.1;
          long = length-append child_holds (On child ∷ []) ∙ ap (λ x. x + 1) first_holds.long
              ∙ sym (length-append numbers (a ∷ []));
          on = λ i lt. held_of i lt (cases_lt i (length numbers));
        },
      )
    where
      held_of : (i : ℕ) → i < length (numbers ++ a ∷ [])
          → (i < length numbers) ⊎ (length numbers ≤ i)
          → IsHeldOn job spots after c (registration_at job c i).phaser
          (get_or (child_holds ++ On child ∷ []) i Gone)
      held_of i lt (inl low) =
          let q = (registration_at job c i).phaser in
          let long : length child_holds ≡ length numbers = first_holds.long in
          let other : q ≢ p =
          λ same. (let wrong : i ≡ length numbers =
          one_registration job c i (length numbers) whole.graph of_task.there (omega arith) room
          (same ∙ sym next) in omega arith) in
          rw (get_or_append_left child_holds (On child ∷ []) Gone i (omega arith))
          (held_same job spots m after c q (get_or child_holds i Gone)
          (has.other_numbers q c (inl other)) (has.elsewhere q other) (first_holds.on i low))
      held_of i lt (inr le) =
          let sum : length (numbers ++ a ∷ []) ≡ length numbers + 1 =
          length-append numbers (a ∷ []) in
          let long : length child_holds ≡ length numbers = first_holds.long in
          let same : i ≡ length numbers = omega arith in
          let low : length child_holds ≤ i = omega arith in
          let off : i - length child_holds ≡ 0 = omega arith in
          rw (get_or-append_right child_holds (On child ∷ []) (length child_holds) i Gone refl low
          ∙ ap (λ x. get_or (On child ∷ []) x Gone) off)
          (rw (ap (λ x. (registration_at job c x).phaser) same ∙ next) on_child)

-- a parent does not join now
pub parent_stays : (job : Job) (c t : ℕ) → IsGraph job.graph → IsChildOf job c t
    → (task_at job.graph t).joins_now ≡ false
parent_stays job c t is child =
    ap (λ x. (task_at job.graph x).joins_now) (sym child.by)
    ∙ (parent_of job c child.parent is child.there child.has).stays
