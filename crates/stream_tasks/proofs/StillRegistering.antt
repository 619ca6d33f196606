-- A task that registers a child goes on doing so after each call.
use Rattle.std.proofs.Common.{◌≡◌, ◌≢◌, ℕ, ◌<◌, ◌≤◌, true, false, List, [], ◌∷◌, ◌++◌, Some, None, length, get_or, set, refl, sym, ap, subst, ◌∙◌, arith, ◌⊎◌, inl, inr}
use Rattle.std.specs.Prelude.{slice_get, Vec}
use Rattle.std.specs.Global.{Global}
use Rattle.std.specs.Vec.{with_item}
use Rattle.std.proofs.lemmas.Bool.{cases_lt}
use Rattle.std.proofs.lemmas.List.{length-append, length-map, length-set, nil_from_length}
use Rattle.std.proofs.lemmas.Option.{slice_get_within, slice_get_past, same_Some}
use Rattle.phase_base.specs.declared.mode.Mode.{Mode}
use Rattle.graph_base.specs.declared.registration.Registration.{Registration}
use Rattle.graph_base.specs.Graphs.{task_at}
use Rattle.graph_base.specs.TaskLines.{IsGraph, HasEnds}
use Rattle.stream_lists.specs.Jobs.{Job}
use Rattle.graph_base.proofs.Registered.{registrations-phasers}
use Rattle.graph_runs.specs.Moments.{Moment}
use Rattle.graph_runs.specs.Turned.{after_register, after_register_now}
use Rattle.stream_members.specs.Members.{Spot}
use Rattle.stream_members.specs.AnyMembers.{member_in}
use Rattle.stream_members.specs.declared.any_member.AnyMember.{AnyMember}
use Rattle.graph_runs.specs.Nexts.{registrations_at}
use Rattle.graph_runs.specs.TaskPlaces.{registration_at}
use Rattle.graph_runs.proofs.ChildMoments.{with_child}
use Rattle.graph_runs.proofs.KnownOthers.{known_nowhere}
use Rattle.graph_runs.proofs.PartsLemmas.{with_history}
use Rattle.graph_runs.specs.TaskEnds.{IsChildOf}
use Rattle.stream_tasks.specs.Holds.{HoldGoesOn, HasSeenOthers}
use Rattle.stream_tasks.specs.Children.{IsNextOn, IsNextNow}
use Rattle.stream_tasks.specs.Registering.{MemberHasAdded, AddsTo, MemberHasAddedNow, AddsNowTo, HasFirstHolds, IsRegistering}
use Rattle.stream_tasks.specs.Tasks.{IsDue, IsTask, IsOwnTaskAt, IsTaskChild, IsWhole}
use Rattle.stream_tasks.specs.declared.child.Child.{Child}
use Rattle.stream_tasks.specs.declared.hold.Hold.{Hold}
use Rattle.stream_tasks.specs.declared.hold.Hold.TheVariants.{On, Gone}
use Rattle.stream_tasks.specs.declared.task_state.TaskState.{TaskState}
use Rattle.stream_tasks.proofs.Keeping.{places_stay}
use Rattle.stream_tasks.proofs.Turning.{held, goes}
use Rattle.stream_tasks.proofs.ChildHolds.{first_holds_begin, first_holds_wait}
use Rattle.stream_tasks.proofs.ChildAdded.{HasGivenOne, written, unwritten}
use Rattle.stream_tasks.proofs.ChildRegisters.{first_holds_register}
use Rattle.stream_tasks.proofs.ChildJoinsNow.{first_holds_register_now}

-- ---- a child begins

-- a child of which nothing is registered has no number
pub registering_begins : (job : Job) (spots : ℕ → Spot) (s : TaskState) (i : ℕ) → s.met ≡ false
    → (due : IsDue job s i) → due.missing.kid.numbers.items ≡ [] → s.child_holds.items ≡ []
    → IsTask job spots s → IsRegistering job spots s i
registering_begins job spots s i met due none empty task =
    let kid = due.missing.kid in
    let c = kid.task in
    let whole = task.whole in
    let m = (task.stands met).0 in
    let at = (task.stands met).1 in
    let is = whole.children.each i kid due.missing.found in
    let child = is.of_task in
    let has = at.given i kid due.missing.found in
    let boundary : s.begun ≡ child.parent.at = sym due.missing.now ∙ is.at in
    let nowhere : (p : ℕ) → m.number p c ≡ None =
    known_nowhere job m s.number c child.parent whole.graph child.there child.has child.by
    (λ k few. has.numbered k few ∙ ap (λ l. slice_get l k) none
    ∙ slice_get_past [] k (omega arith)) at.knows in
    let then = first_holds_begin job spots m s c whole at child boundary due.going due.owes.2 nowhere in
    record {
      kid = kid;
      found = due.missing.found;
      child = child;
      boundary = boundary;
      going = due.going;
      owes = due.owes;
      moment = with_child c m;
      at = then.1;
      first_holds = rw empty (rw none then.2);
      start = λ joins some. absurd (omega (arith, some, ap length none));
    }

-- ---- registrations

-- the child has no number yet on the phaser of its next registration
next_absent : (job : Job) (spots : ℕ → Spot) (m : Moment) (c : ℕ) (numbers : List ℕ)
    (child_holds : List Hold) → HasFirstHolds job spots m c numbers child_holds
    → length numbers < length (registrations_at job c)
    → m.number (registration_at job c (length numbers)).phaser c ≡ None
next_absent job spots m c numbers child_holds first_holds room =
    (first_holds.joining.place 1).numbered (length numbers) room
    ∙ slice_get_past numbers (length numbers) (omega arith)

-- a child that joins now has one registration
one_now : (job : Job) (c : ℕ) → IsGraph job.graph → c < length job.graph.tasks
    → (task_at job.graph c).joins_now ≡ true → length (registrations_at job c) ≡ 1
one_now job c is there joins =
    let line = is.tasks c there in
    let rs = registrations_at job c in
    let inputs = (task_at job.graph c).inputs in
    let outputs = (task_at job.graph c).outputs in
    let sink : length inputs ≡ 1 × length outputs ≡ 0 =
    subst (λ kind. HasEnds kind (length inputs) (length outputs)) (line.now joins).0 line.ends in
    let one = sink.0 in
    let none = sink.1 in
    let long : length rs ≡ length (inputs ++ outputs) =
    sym (length-map rs (λ r. r.phaser))
    ∙ ap length (registrations-phasers job.graph c (task_at job.graph c) line) in
    omega (arith, length-append inputs outputs)

-- where its next registration is to be made, that is its first, which none was before
pub next_now : (job : Job) (spots : ℕ → Spot) (s : TaskState) (i k : ℕ) (r : Registration)
    → IsWhole job s → (n : IsNextOn job spots s i k r)
    → (task_at job.graph n.registering.kid.task).joins_now ≡ true
    → IsNextNow job spots s i k r.phaser
next_now job spots s i k r whole n joins =
    let c = n.registering.kid.task in
    let room = n.room in
    let one : length (registrations_at job c) ≡ 1 =
    one_now job c whole.graph n.registering.child.there joins in
    let none : length n.registering.kid.numbers.items ≡ 0 = omega arith in
    record {
      registering = n.registering;
      none = nil_from_length n.registering.kid.numbers.items none;
      now = joins;
      first = ap (λ x. (registration_at job c x).phaser) (sym none) ∙ ap (λ x. x.phaser) (sym n.is);
      on = n.on;
    }

-- a hold that has added a child has gone on
pub adds_goes : (mode : Mode) (old new : Hold) (child : AnyMember) → AddsTo mode old new child
    → HoldGoesOn (λ x y. MemberHasAdded mode x y child) old new
adds_goes mode (On old) (On new) child added = added
adds_goes mode (On old) Gone child added = absurd added
adds_goes mode Gone new child added = absurd added

-- a call that registered nothing
pub registering_waits : (job : Job) (spots : ℕ → Spot) (s : TaskState) (i k : ℕ) (old new : Hold)
    → IsWhole job s → (n : IsRegistering job spots s i)
    → length n.kid.numbers.items < length (registrations_at job n.kid.task)
    → k < length (registrations_at job s.number)
    → (registration_at job s.number k).phaser
    ≡ (registration_at job n.kid.task (length n.kid.numbers.items)).phaser
    → old ≡ get_or s.holds.items k old → HoldGoesOn HasSeenOthers old new
    → IsRegistering job spots (record s { holds = with_item s.holds k new }) i
registering_waits job spots s i k old new whole n room few here looked g =
    let p = (registration_at job n.kid.task (length n.kid.numbers.items)).phaser in
    let none : length s.lefts.items ≡ 0 = whole.staying n.going in
    let both = goes HasSeenOthers job spots n.moment s.number p old new g
    (held job spots n.moment s k p old whole n.at few here (omega arith) looked) in
    let y = both.1.0 in
    let then = first_holds_wait job spots n.moment s n.kid.task k p n.kid.numbers.items s.child_holds.items
    both.0 y whole n.at n.first_holds n.child n.going n.owes.2 few here
    (next_absent job spots n.moment n.kid.task n.kid.numbers.items s.child_holds.items n.first_holds room)
    both.1.4 both.1.3 in
    let after = with_history p (member_in y).seen n.moment in
    record {
      kid = n.kid;
      found = n.found;
      child = n.child;
      boundary = n.boundary;
      going = n.going;
      owes = n.owes;
      moment = after;
      at = rw (← both.1.2) at then.1;
      first_holds = then.2;
      start = n.start;
    }

-- a hold that has added a child that joins now has gone on
pub adds_now_goes : (old new : Hold) (child : AnyMember) (start : ℕ) → AddsNowTo old new child start
    → HoldGoesOn (λ x y. MemberHasAddedNow x y child start) old new
adds_now_goes (On old) (On new) child start added = added
adds_now_goes (On old) Gone child start added = absurd added
adds_now_goes Gone new child start added = absurd added

-- such a call that registered nothing
pub registering_waits_now : (job : Job) (spots : ℕ → Spot) (s : TaskState) (i k p : ℕ)
    (old new : Hold) → IsWhole job s → IsNextNow job spots s i k p
    → old ≡ get_or s.holds.items k old → HoldGoesOn HasSeenOthers old new
    → IsRegistering job spots (record s { holds = with_item s.holds k new }) i
registering_waits_now job spots s i k p old new whole next looked g =
    let n = next.registering in
    let c = n.kid.task in
    let none : length n.kid.numbers.items ≡ 0 = ap length next.none in
    let one : length (registrations_at job c) ≡ 1 =
    one_now job c whole.graph n.child.there next.now in
    registering_waits job spots s i k old new whole n (omega arith) next.on.few
    (next.on.here ∙ sym next.first ∙ ap (λ x. (registration_at job c x).phaser) (sym none)) looked g

-- what the parent has registered of the child at this place has one number more
module _ (job : Job) (spots : ℕ → Spot) (s : TaskState) (i : ℕ) (a : ℕ) (kid : Child)
    (kids : Vec Child Global) (n : IsRegistering job spots s i) (whole : IsWhole job s)
    (is_kids : kids.items ≡ set s.children.items i kid) (same_task : kid.task ≡ n.kid.task)
    (same_numbers : kid.numbers.items ≡ n.kid.numbers.items ++ a ∷ []) where
  at_place : i < length s.children.items
  at_place = slice_get_within s.children.items i n.kid n.found

  -- it is the one child that it was given to
  given_one : HasGivenOne s.children.items kids.items n.kid.task a n.kid.numbers.items
  given_one = record {
    place = i;
    kid = kid;
    few = at_place;
    is = is_kids;
    task = same_task;
    numbers_are = same_numbers;
    one = λ j other found same. whole.children.apart j i other n.kid found n.found same;
  }

  -- the moment after serves both
  registering_more : (k : ℕ) (new : Hold) (child_holds : Vec Hold Global) (after : Moment)
      → IsOwnTaskAt job spots after (record s { holds = with_item s.holds k new; children = kids })
      → HasFirstHolds job spots after n.kid.task kid.numbers.items child_holds.items
      → ((task_at job.graph n.kid.task).joins_now ≡ true → after.offset n.kid.task ≡ kid.start)
      → IsRegistering job spots
      (record s { holds = with_item s.holds k new; children = kids; child_holds = child_holds }) i
  registering_more k new child_holds after task_now first_holds start =
      let D : ℕ → Type 0 = λ d. (w : IsChildOf job d s.number) × (s.begun ≡ w.parent.at) in
      let kid_child = subst D (sym same_task) (n.child, n.boundary) in
      record {
        kid = kid;
        found = ap (λ l. slice_get l i) is_kids ∙ written s.children.items i kid at_place;
        child = kid_child.0;
        boundary = kid_child.1;
        going = n.going;
        owes = n.owes;
        moment = after;
        at = record {
          part = task_now.part;
          own = task_now.own;
          knows = task_now.knows;
          place = task_now.place;
          deals = task_now.deals;
          start = task_now.start;
          holds = task_now.holds;
          filter = task_now.filter;
          lines = task_now.lines;
          given = task_now.given;
          at_end = λ over. absurd (let no : false ≡ true = sym n.going ∙ over in cc);
        };
        first_holds = subst (λ (d : ℕ). HasFirstHolds job spots after d kid.numbers.items
            child_holds.items) (sym same_task) first_holds;
        start = λ joins some. (subst (λ (d : ℕ). (task_at job.graph d).joins_now ≡ true →
            after.offset d ≡ kid.start) (sym same_task) start) joins;
      }

-- a call that registered the child once more
pub registering_adds : (job : Job) (spots : ℕ → Spot) (s : TaskState) (i k : ℕ) (old new : Hold)
    (child : AnyMember) (kid : Child) (kids : Vec Child Global) (child_holds : Vec Hold Global)
    → IsWhole job s → (n : IsRegistering job spots s i)
    → (task_at job.graph n.kid.task).joins_now ≡ false
    → length n.kid.numbers.items < length (registrations_at job n.kid.task)
    → k < length (registrations_at job s.number)
    → (registration_at job s.number k).phaser
    ≡ (registration_at job n.kid.task (length n.kid.numbers.items)).phaser
    → old ≡ get_or s.holds.items k old
    → HoldGoesOn (λ x y. MemberHasAdded
    (registration_at job n.kid.task (length n.kid.numbers.items)).mode x y child) old new
    → kids.items ≡ set s.children.items i kid → kid.task ≡ n.kid.task
    → kid.numbers.items ≡ n.kid.numbers.items ++ (member_in child).number ∷ []
    → child_holds.items ≡ s.child_holds.items ++ On child ∷ []
    → IsRegistering job spots
    (record s { holds = with_item s.holds k new; children = kids; child_holds = child_holds }) i
registering_adds job spots s i k old new child kid kids child_holds whole n stays room few here
    looked g is_kids same_task same_numbers are_child_holds =
    let c = n.kid.task in
    let numbers = n.kid.numbers.items in
    let a = (member_in child).number in
    let p = (registration_at job c (length numbers)).phaser in
    let mode = (registration_at job c (length numbers)).mode in
    let none : length s.lefts.items ≡ 0 = whole.staying n.going in
    let both = goes (λ x y. MemberHasAdded mode x y child) job spots n.moment s.number p old new g
    (held job spots n.moment s k p old whole n.at few here (omega arith) looked) in
    let x = both.0 in
    let y = both.1.0 in
    let added : MemberHasAdded mode x y child = both.1.3 in
    let then = first_holds_register job spots n.moment s c k numbers s.child_holds.items x y child
    kids whole n.at n.first_holds n.child n.boundary n.going n.owes stays room few here both.1.4 added
    (given_one job spots s i a kid kids n whole is_kids same_task same_numbers) in
    let after = after_register p (member_in x).number c a mode
    (with_history p added.before n.moment) in
    registering_more job spots s i a kid kids n whole is_kids same_task same_numbers k new
    child_holds after (rw (← both.1.2) at then.0)
    (rw (← same_numbers) at (rw (← are_child_holds) at then.1))
    (λ joins. absurd (let no : false ≡ true = sym stays ∙ joins in cc))

-- a call that registered a child that joins now
pub registering_adds_now : (job : Job) (spots : ℕ → Spot) (s : TaskState) (i k p : ℕ)
    (old new : Hold) (child : AnyMember) (start : ℕ) (kid : Child) (kids : Vec Child Global)
    (child_holds : Vec Hold Global) → IsWhole job s → (next : IsNextNow job spots s i k p)
    → old ≡ get_or s.holds.items k old → HoldGoesOn (λ x y. MemberHasAddedNow x y child start) old new
    → kids.items ≡ set s.children.items i kid → kid.task ≡ next.registering.kid.task
    → kid.numbers.items ≡ next.registering.kid.numbers.items ++ (member_in child).number ∷ []
    → kid.start ≡ start → child_holds.items ≡ s.child_holds.items ++ On child ∷ []
    → IsRegistering job spots
    (record s { holds = with_item s.holds k new; children = kids; child_holds = child_holds }) i
registering_adds_now job spots s i k p old new child start kid kids child_holds whole next looked
    g is_kids same_task same_numbers starts are_child_holds =
    let n = next.registering in
    let c = n.kid.task in
    let a = (member_in child).number in
    let q = (registration_at job c 0).phaser in
    let here : (registration_at job s.number k).phaser ≡ q = next.on.here ∙ sym next.first in
    let none : length s.lefts.items ≡ 0 = whole.staying n.going in
    let both = goes (λ x y. MemberHasAddedNow x y child start) job spots n.moment s.number q old new g
    (held job spots n.moment s k q old whole n.at next.on.few here (omega arith) looked) in
    let x = both.0 in
    let y = both.1.0 in
    let added : MemberHasAddedNow x y child start = both.1.3 in
    let then = first_holds_register_now job spots n.moment s c k s.child_holds.items x y child start
    kids whole n.at (rw (← next.none) n.first_holds) n.child n.boundary n.going n.owes next.now
    next.on.few here both.1.4 added
    (rw (← next.none)
    (given_one job spots s i a kid kids n whole is_kids same_task same_numbers)) in
    let after = after_register_now q (member_in x).number c a
    (with_history q added.before n.moment) in
    registering_more job spots s i a kid kids n whole is_kids same_task same_numbers k new
    child_holds after (rw (← both.1.2) at then.0)
    (rw (← (same_numbers ∙ ap (λ l. l ++ a ∷ []) next.none)) at (rw (← are_child_holds) at then.1))
    (λ joins. then.2 ∙ sym starts)

-- ---- what holds always

-- with other holds, and another state of one child
pub whole_keeps : (job : Job) (s : TaskState) (i k : ℕ) (new : Hold) (kids : Vec Child Global)
    (child_holds : Vec Hold Global) (before kid : Child) → IsWhole job s
    → slice_get s.children.items i ≡ Some before → kids.items ≡ set s.children.items i kid
    → kid.task ≡ before.task → kid.at ≡ before.at
    → IsWhole job (record s { holds = with_item s.holds k new; children = kids; child_holds = child_holds })
whole_keeps job s i k new kids child_holds before kid whole found is_kids task at = record {
  graph = whole.graph;
  there = whole.there;
  samples = whole.samples;
  numbers = whole.numbers;
  holds = length-set s.holds.items k new ∙ whole.holds;
  children = record {
    each = λ j other e. one j other e (cases_lt j i) (cases_lt i j);
    all = λ c u there has by.
        (let known = whole.children.all c u there has by in
        knows c u.at known.0 known.1.0 known.1.1 known.1.2 known.1.3
        (cases_lt known.0 i) (cases_lt i known.0));
    apart = λ j k x y e f same.
        (let a = was j x e (cases_lt j i) (cases_lt i j) in
        let b = was k y f (cases_lt k i) (cases_lt i k) in
        whole.children.apart j k a.0 b.0 a.1.0 b.1.0 (a.1.1 ∙ same ∙ sym b.1.1));
  };
  staying = whole.staying;
  room = whole.room;
  places = places_stay job s
      (record s { holds = with_item s.holds k new; children = kids; child_holds = child_holds })
      refl refl refl refl refl refl refl whole.places;
  makers = whole.makers;
  others = whole.others;
  splitters = whole.splitters;
  dealers = whole.dealers;
}
  where
    few : i < length s.children.items
    few = slice_get_within s.children.items i before found

    here : slice_get kids.items i ≡ Some kid
    here = ap (λ l. slice_get l i) is_kids ∙ written s.children.items i kid few

    elsewhere : (j : ℕ) → j ≢ i → slice_get kids.items j ≡ slice_get s.children.items j
    elsewhere j apart =
        ap (λ l. slice_get l j) is_kids ∙ unwritten s.children.items i j kid apart

    knows : (c steps j : ℕ) (child : Child) → slice_get s.children.items j ≡ Some child
        → child.task ≡ c → child.at ≡ steps → (j < i) ⊎ (i ≤ j) → (i < j) ⊎ (j ≤ i)
        → (x : ℕ) × ((other : Child) × (slice_get kids.items x ≡ Some other) × (other.task ≡ c)
        × (other.at ≡ steps))
    knows c steps j child e is_c is_at (inl low) d =
        (j, (child, elsewhere j (λ same. omega arith) ∙ e, is_c, is_at))
    knows c steps j child e is_c is_at (inr le) (inl high) =
        (j, (child, elsewhere j (λ same. omega arith) ∙ e, is_c, is_at))
    knows c steps j child e is_c is_at (inr le) (inr ge) =
        let same : j ≡ i = omega arith in
        let was : child ≡ before =
        same_Some child before (sym e ∙ ap (λ x. slice_get s.children.items x) same ∙ found) in (
          i,
          (
            kid,
            here,
            task ∙ ap (λ (x : Child). x.task) (sym was) ∙ is_c,
            at ∙ ap (λ (x : Child). x.at) (sym was) ∙ is_at,
          ),
        )

    -- what stood at a place before: the same task, and it comes after as many steps
    was : (j : ℕ) (other : Child) → slice_get kids.items j ≡ Some other → (j < i) ⊎ (i ≤ j)
        → (i < j) ⊎ (j ≤ i)
        → (old : Child) × ((slice_get s.children.items j ≡ Some old) × (old.task ≡ other.task)
        × (old.at ≡ other.at))
    was j other e (inl low) d =
        (other, (sym (elsewhere j (λ same. omega arith)) ∙ e, refl, refl))
    was j other e (inr le) (inl high) =
        (other, (sym (elsewhere j (λ same. omega arith)) ∙ e, refl, refl))
    was j other e (inr le) (inr ge) =
        let same : j ≡ i = omega arith in
        let is_kid : kid ≡ other =
        same_Some kid other (sym here ∙ ap (λ x. slice_get kids.items x) (sym same) ∙ e) in (
          before,
          (
            ap (λ x. slice_get s.children.items x) same ∙ found,
            sym task ∙ ap (λ (x : Child). x.task) is_kid,
            sym at ∙ ap (λ (x : Child). x.at) is_kid,
          ),
        )

    one : (j : ℕ) (other : Child) → slice_get kids.items j ≡ Some other → (j < i) ⊎ (i ≤ j)
        → (i < j) ⊎ (j ≤ i) → IsTaskChild job s.number other
    one j other e c d =
        let old = was j other e c d in
        let child = whole.children.each j old.0 old.1.0 in
        let now = subst (λ (x : ℕ). (w : IsChildOf job x s.number) × (old.0.at ≡ w.parent.at))
        old.1.1 (child.of_task, child.at) in
        record { of_task = now.0; at = sym old.1.2 ∙ now.1 }

-- ---- tasks

-- a task that registers a child is one of its run
pub registering_task : (job : Job) (spots : ℕ → Spot) (s : TaskState) (i : ℕ) → IsWhole job s
    → (s.met ≡ false → IsRegistering job spots s i) → IsTask job spots s
registering_task job spots s i whole n = record {
  whole = whole;
  stands = λ met. (let registering = n met in (registering.moment, registering.at));
}
