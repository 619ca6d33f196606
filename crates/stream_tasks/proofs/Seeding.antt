-- How a root begins: its founders' registrations, one after the other, and then its first moment.
use Rattle.std.proofs.Common.{◌≡◌, ◌≢◌, ◌⊎◌, inl, inr, ℕ, zero, suc, ◌+◌, ◌<◌, ◌≤◌, true, false, List, [], ◌∷◌, ◌++◌, length, Some, None, refl, sym, ap, subst, ◌∙◌, arith}
use Rattle.std.specs.Prelude.{slice_get, get_or, IfSome, IsSome}
use Rattle.std.proofs.lemmas.List.{length-append}
use Rattle.std.proofs.lemmas.Option.{same_Some}
use Rattle.phase_history.specs.Histories.{History}
use Rattle.graph_base.specs.declared.line.Parent.{Parent}
use Rattle.graph_base.specs.Graphs.{task_at}
use Rattle.graph_base.specs.TaskLines.{IsGraph, IsParent}
use Rattle.stream_lists.specs.Jobs.{Job}
use Rattle.stream_members.specs.Members.{Spot}
use Rattle.stream_members.specs.AnyMembers.{member_in}
use Rattle.stream_members.specs.declared.any_member.AnyMember.{AnyMember}
use Rattle.graph_runs.specs.Moments.{Moment}
use Rattle.graph_runs.specs.Nexts.{registrations_at}
use Rattle.graph_runs.specs.TaskPlaces.{Owed, StandsUpTo, registration_at, nothing}
use Rattle.graph_runs.specs.Steps.{HasFilter}
use Rattle.graph_runs.specs.declared.owed.Owed.TheVariants.{Nothing}
use Rattle.graph_runs.specs.Places.{IsRootOn, IsFirstMoment}
use Rattle.graph_runs.specs.TaskEnds.{HasOwnCalls}
use Rattle.stream_tasks.specs.Openings.{IsRootMember}
use Rattle.graph_runs.proofs.KnownOthers.{known_first}
use Rattle.stream_tasks.specs.declared.child.Child.{Child}
use Rattle.stream_tasks.specs.declared.hold.Hold.{Hold}
use Rattle.stream_tasks.specs.declared.hold.Hold.TheVariants.{On, Gone}
use Rattle.stream_tasks.specs.declared.task_state.TaskState.{TaskState}
use Rattle.stream_tasks.specs.Tasks.{IsTask, IsOwnTaskAt, IsWhole, KnowsChildren, AreDistinctChildren, IsHeldOn, owed_by, place_of_state}
use Rattle.stream_tasks.specs.Seeds.{HasNoRegistration, AreChildrenBelow, IsSeed, HasRegistration, HasReceivedFirst}

-- ---- lists

get_at : (xs : List ℕ) (i x : ℕ) → slice_get xs i ≡ Some x → get_or xs i 0 ≡ x
get_at [] i x e = absurd (cc)
get_at (y ∷ xs) zero x e = same_Some y x e
get_at (y ∷ xs) (suc i) x e = get_at xs i x e

hold_at : (holds : List Hold) (i : ℕ) (hold : Hold) → slice_get holds i ≡ Some hold
    → get_or holds i Gone ≡ hold
hold_at [] i hold e = absurd (cc)
hold_at (y ∷ holds) zero hold e = same_Some y hold e
hold_at (y ∷ holds) (suc i) hold e = hold_at holds i hold e

-- an item of a list stands at its place of the longer one
pub found-push : {X : Type 0} (xs : List X) (y x : X) (i : ℕ) → slice_get xs i ≡ Some x
    → slice_get (xs ++ y ∷ []) i ≡ Some x
found-push [] y x i e = absurd (cc)
found-push (z ∷ xs) y x zero e = e
found-push (z ∷ xs) y x (suc i) e = found-push xs y x i e

pub last_at : {X : Type 0} (xs : List X) (y : X) → slice_get (xs ++ y ∷ []) (length xs) ≡ Some y
last_at [] y = refl
last_at (z ∷ xs) y = last_at xs y

-- what holds of each, and of one more, holds of each of the longer list
pub each-push : {X : Type 0} (P : X → Type 0) (xs : List X) (x : X)
    → ((i : ℕ) (y : X) → slice_get xs i ≡ Some y → P y) → P x
    → (i : ℕ) (y : X) → slice_get (xs ++ x ∷ []) i ≡ Some y → P y
each-push P [] x each new zero y e = subst P (same_Some x y e) new
each-push P [] x each new (suc i) y e = absurd (cc)
each-push P (z ∷ xs) x each new zero y e = each zero y e
each-push P (z ∷ xs) x each new (suc i) y e =
    each-push P xs x (λ k w f. each (suc k) w f) new i y e

-- ---- children

pub no_children : (job : Job) (t : ℕ) → AreChildrenBelow job t 0 []
no_children job t = record {
  each = λ i child e. absurd (cc);
  all = λ c u lt has by. absurd (omega arith);
  below = λ i child e. absurd (cc);
  apart = λ i j x y e f same. absurd (cc);
}

-- with one more behind those below it no two are the same
apart-push : (children : List Child) (child : Child) (n : ℕ)
    → ((i : ℕ) (x : Child) → slice_get children i ≡ Some x → x.task < n) → AreDistinctChildren children
    → child.task ≡ n → AreDistinctChildren (children ++ child ∷ [])
apart-push children child n under apart is i j x y e f same =
    by (in_push children child i x e) (in_push children child j y f)
  where
    -- what is in the longer list
    in_push : (xs : List Child) (new : Child) (k : ℕ) (z : Child)
        → slice_get (xs ++ new ∷ []) k ≡ Some z
        → (slice_get xs k ≡ Some z) ⊎ ((k ≡ length xs) × (z ≡ new))
    in_push [] new zero z e = inr (refl, sym (same_Some new z e))
    in_push [] new (suc k) z e = absurd (cc)
    in_push (w ∷ xs) new zero z e = inl e
    in_push (w ∷ xs) new (suc k) z e = up (in_push xs new k z e)
      where
        up : (slice_get xs k ≡ Some z) ⊎ ((k ≡ length xs) × (z ≡ new))
            → (slice_get xs k ≡ Some z) ⊎ ((suc k ≡ suc (length xs)) × (z ≡ new))
        up (inl old) = inl old
        up (inr last) = inr (ap suc last.0, last.1)

    by : (slice_get children i ≡ Some x) ⊎ ((i ≡ length children) × (x ≡ child))
        → (slice_get children j ≡ Some y) ⊎ ((j ≡ length children) × (y ≡ child)) → i ≡ j
    by (inl old) (inl other) = apart i j x y old other same
    by (inl old) (inr last) =
        absurd (let low : x.task < n = under i x old in
        let high : x.task ≡ n = same ∙ ap (λ (z : Child). z.task) last.1 ∙ is in omega arith)
    by (inr last) (inl old) =
        absurd (let low : y.task < n = under j y old in
        let high : y.task ≡ n = sym same ∙ ap (λ (z : Child). z.task) last.1 ∙ is in omega arith)
    by (inr last) (inr other) = last.0 ∙ sym other.0

-- what is below the next number is below this one, or is it
split : (c n : ℕ) → c ≤ n → (c < n) ⊎ (c ≡ n)
split zero zero le = inr refl
split zero (suc n) le = inl (omega arith)
split (suc c) zero le = absurd (omega arith)
split (suc c) (suc n) le = up c n (split c n (omega arith))
  where
    up : (c n : ℕ) → (c < n) ⊎ (c ≡ n) → (suc c < suc n) ⊎ (suc c ≡ suc n)
    up c n (inl lt) = inl (omega arith)
    up c n (inr e) = inr (ap suc e)

below : (c n : ℕ) → c < n + 1 → (c < n) ⊎ (c ≡ n)
below c n lt = split c n (omega arith)

-- one more task, which is a child
pub one_child : (job : Job) (t n : ℕ) (children : List Child) (child : Child) (u : Parent)
    → AreChildrenBelow job t n children → n < length job.graph.tasks → child.task ≡ n
    → (task_at job.graph n).parent ≡ Some u → u.task ≡ t → child.at ≡ u.at
    → child.numbers.items ≡ [] → AreChildrenBelow job t (n + 1) (children ++ child ∷ [])
one_child job t n children child u are few is has by at none = record {
  each = each-push (HasNoRegistration job t) children child are.each (record {
    there = subst (λ c. c < length job.graph.tasks) (sym is) few;
    parent = u;
    has = ap (λ c. (task_at job.graph c).parent) is ∙ has;
    by = by;
    at = at;
    none = none;
  });
  all = λ c v lt has_c by_v. more c v (below c n lt) has_c by_v;
  below = each-push (λ (x : Child). x.task < n + 1) children child
      (λ i x e. (let low : x.task < n = are.below i x e in omega arith)) (omega arith);
  apart = apart-push children child n are.below are.apart is;
}
  where
    more : (c : ℕ) (v : Parent) → (c < n) ⊎ (c ≡ n) → (task_at job.graph c).parent ≡ Some v
        → v.task ≡ t
        → (i : ℕ) × ((one : Child) × (slice_get (children ++ child ∷ []) i ≡ Some one)
        × (one.task ≡ c) × (one.at ≡ v.at))
    more c v (inl lt) has_c by_v =
        let old = are.all c v lt has_c by_v in
        (old.0, (old.1.0, found-push children child old.1.0 old.0 old.1.1, old.1.2, old.1.3))
    more c v (inr e) has_c by_v =
        let same : u ≡ v = same_Some u v (sym has ∙ ap (λ x. (task_at job.graph x).parent) (sym e) ∙ has_c) in
        (length children, (child, last_at children child, is ∙ sym e, at ∙ ap (λ (x : Parent). x.at) same))

-- one more task, which is none of its children
pub other_task : (job : Job) (t n : ℕ) (children : List Child) → AreChildrenBelow job t n children
    → ((u : Parent) → (task_at job.graph n).parent ≡ Some u → u.task ≢ t)
    → AreChildrenBelow job t (n + 1) children
other_task job t n children are none = record {
  each = are.each;
  all = λ c v lt has by. more c v (below c n lt) has by;
  below = λ i x e. (let low : x.task < n = are.below i x e in omega arith);
  apart = are.apart;
}
  where
    more : (c : ℕ) (v : Parent) → (c < n) ⊎ (c ≡ n) → (task_at job.graph c).parent ≡ Some v
        → v.task ≡ t
        → (i : ℕ) × ((one : Child) × (slice_get children i ≡ Some one) × (one.task ≡ c)
        × (one.at ≡ v.at))
    more c v (inl lt) has by = are.all c v lt has by
    more c v (inr e) has by =
        absurd (none v (ap (λ x. (task_at job.graph x).parent) (sym e) ∙ has) by)

-- ---- registrations

-- the next registration that is received
pub receives : (job : Job) (spots : ℕ → Spot) (t : ℕ) (holds : List Hold) (numbers : List ℕ)
    (x : AnyMember) → length numbers ≡ length holds
    → ((i : ℕ) → i < length holds → HasRegistration job spots t i holds numbers)
    → IsRootMember job spots t (length holds) x → (i : ℕ) → i < length (holds ++ On x ∷ [])
    → HasRegistration job spots t i (holds ++ On x ∷ []) (numbers ++ (member_in x).number ∷ [])
receives job spots t holds numbers x long each root i lt =
    let more = length-append holds (On x ∷ []) in
    by (below i (length holds) (omega arith))
  where
    by : (i < length holds) ⊎ (i ≡ length holds)
        → HasRegistration job spots t i (holds ++ On x ∷ []) (numbers ++ (member_in x).number ∷ [])
    by (inl less) =
        let old = each i less in
        record {
          member = old.member;
          hold = found-push holds (On x) (On old.member) i old.hold;
          number = found-push numbers (member_in x).number (member_in old.member).number i old.number;
          root = old.root;
        }
    by (inr e) = record {
      member = x;
      hold = ap (slice_get (holds ++ On x ∷ [])) e ∙ last_at holds (On x);
      number = ap (slice_get (numbers ++ (member_in x).number ∷ [])) (e ∙ sym long)
          ∙ last_at numbers (member_in x).number;
      root = subst (λ k. IsRootMember job spots t k x) (sym e) root;
    }

-- a seed has received nothing
pub nothing_received : (job : Job) (spots : ℕ → Spot) (s : TaskState) → s.holds.items ≡ []
    → s.numbers.items ≡ [] → HasReceivedFirst job spots s
nothing_received job spots s no_holds no_numbers =
    let none : length s.holds.items ≡ 0 = ap length no_holds in
    record {
      long = ap length no_numbers ∙ sym none;
      each = λ i lt. absurd (omega arith);
    }

-- the lists of a seed with it
pub has_received : (job : Job) (spots : ℕ → Spot) (t n : ℕ) (holds later : List Hold)
    (numbers more : List ℕ) (x : AnyMember) → later ≡ holds ++ On x ∷ []
    → more ≡ numbers ++ n ∷ [] → n ≡ (member_in x).number → length numbers ≡ length holds
    → ((i : ℕ) → i < length holds → HasRegistration job spots t i holds numbers)
    → IsRootMember job spots t (length holds) x
    → (length more ≡ length later)
    × ((i : ℕ) → i < length later → HasRegistration job spots t i later more)
has_received job spots t n holds later numbers more x is are at long each root =
    let one = length-append holds (On x ∷ []) in
    let other = length-append numbers (n ∷ []) in
    let long_is : length later ≡ length (holds ++ On x ∷ []) = ap length is in
    let long_are : length more ≡ length (numbers ++ n ∷ []) = ap length are in
    let all = receives job spots t holds numbers x long each root in (
      omega arith,
      λ i lt. subst (λ xs. HasRegistration job spots t i xs more) (sym is)
          (subst (HasRegistration job spots t i (holds ++ On x ∷ []))
          (sym (are ∙ ap (λ k. numbers ++ k ∷ []) at))
          (all i (subst (λ xs. i < length xs) is lt))),
    )

-- ---- the first moment

-- what has been seen by a hold
abbrev pub seen_by : List Hold → ℕ → History
seen_by [] i = []
seen_by (On x ∷ holds) zero = (member_in x).seen
seen_by (Gone ∷ holds) zero = []
seen_by (hold ∷ holds) (suc i) = seen_by holds i

seen_at : (holds : List Hold) (i : ℕ) (x : AnyMember) → slice_get holds i ≡ Some (On x)
    → seen_by holds i ≡ (member_in x).seen
seen_at [] i x e = absurd (cc)
seen_at (On y ∷ holds) zero x e = one (same_Some (On y) (On x) e)
  where
    one : On y ≡ On x → (member_in y).seen ≡ (member_in x).seen
    one f = cc
seen_at (Gone ∷ holds) zero x e = absurd (cc)
seen_at (On y ∷ holds) (suc i) x e = seen_at holds i x e
seen_at (Gone ∷ holds) (suc i) x e = seen_at holds i x e

-- a founder's registrations are those of a root
pub are_roots : (job : Job) (spots : ℕ → Spot) (s : TaskState) → HasReceivedFirst job spots s
    → length s.holds.items ≡ length (registrations_at job s.number)
    → (i : ℕ) → i < length (registrations_at job s.number)
    → IsRootOn job (registration_at job s.number i) (get_or s.numbers.items i 0)
    (seen_by s.holds.items i)
are_roots job spots s has all i lt =
    let r = has.each i (omega arith) in
    subst (λ n. IsRootOn job (registration_at job s.number i) n (seen_by s.holds.items i))
    (sym (get_at s.numbers.items i (member_in r.member).number r.number))
    (subst (IsRootOn job (registration_at job s.number i) (member_in r.member).number)
    (sym (seen_at s.holds.items i r.member r.hold)) r.root.root)

-- a child of a task is another one
apart : (job : Job) (t c : ℕ) (u : Parent) → IsGraph job.graph → c < length job.graph.tasks
    → (task_at job.graph c).parent ≡ Some u → u.task ≡ t → c ≢ t
apart job t c u is few has by e =
    let line : IfSome (task_at job.graph c).parent (λ v. IsParent job.graph c (task_at job.graph c) v) =
    (is.tasks c few).parent in
    let parent : IsParent job.graph c (task_at job.graph c) u =
    subst (λ o. IfSome o (λ v. IsParent job.graph c (task_at job.graph c) v)) has line in
    omega (arith, parent.above)

-- a root does not join now
not_now : (job : Job) (t : ℕ) → IsGraph job.graph → t < length job.graph.tasks
    → (task_at job.graph t).parent ≡ None → (task_at job.graph t).joins_now ≡ true → ⊥
not_now job t is there root now = differ (subst IsSome root ((is.tasks t there).now now).1)
  where
    differ : false ≡ true → ⊥
    differ e = cc

-- a root stands at its first moment
pub stands_first : (job : Job) (spots : ℕ → Spot) (s : TaskState) (m : Moment) → IsGraph job.graph
    → (task_at job.graph s.number).parent ≡ None → IsSeed job s → HasReceivedFirst job spots s
    → length s.holds.items ≡ length (registrations_at job s.number)
    → IsFirstMoment job m s.number s.numbers.items (seen_by s.holds.items)
    → HasOwnCalls job m s.number → IsOwnTaskAt job spots m s
stands_first job spots s m is root seed has all first own = record {
  part = first.part;
  own = own;
  knows = known_first job m s.number s.numbers.items (seen_by s.holds.items) is first;
  place = λ none. place;
  deals = λ some. absurd (some seed.dealt);
  start = λ now. absurd (not_now job s.number is seed.there root now);
  holds = record {
    on = λ i lt le. held i lt;
    off = λ i left e. absurd (none left i (ap (λ xs. slice_get xs i) (sym seed.lefts) ∙ e));
  };
  filter = subst (HasFilter (task_at job.graph s.number) s.filter)
      (sym (first.nothing_taken 0)) seed.filter;
  lines = λ kind. seed.lines ∙ sym (first.nothing_taken 0);
  given = λ i child e.
      (let unregistered = seed.children.each i child e in
      let u = unregistered.parent in
      let other = apart job s.number child.task u is unregistered.there unregistered.has unregistered.by in
      let no_numbers : length child.numbers.items ≡ 0 = ap length unregistered.none in
      record {
        few = omega arith;
        numbered = λ k lt.
            first.others (registration_at job child.task k).phaser child.task other
            ∙ ap (λ xs. slice_get xs k) (sym unregistered.none);
        lines = λ p n f. absurd (never n (sym (first.others p child.task other) ∙ f));
      });
  at_end = λ over. absurd (differ (sym over ∙ seed.staying));
}
  where
    differ : true ≡ false → ⊥
    differ e = cc

    never : (n : ℕ) → None ≡ Some n → ⊥
    never n e = cc

    none : {X : Type 0} (x : X) (i : ℕ) → slice_get [] i ≡ Some x → ⊥
    none x i e = cc

    owes_nothing : owed_by s.owed s.made.items ≡ nothing
    owes_nothing = ap (λ o. owed_by o s.made.items) seed.owed ∙ ap (owed_by Nothing) seed.made

    place : StandsUpTo s.most job m s.number (place_of_state s)
    place =
        subst (λ (o : Owed). StandsUpTo s.most job m s.number (record {
          numbers = s.numbers.items;
          left = length s.lefts.items;
          begun = s.begun;
          owed = o;
        })) (sym owes_nothing)
        (subst (λ b. StandsUpTo s.most job m s.number (record {
          numbers = s.numbers.items;
          left = length s.lefts.items;
          begun = b;
          owed = nothing;
        })) (sym seed.begun)
        (subst (λ l. StandsUpTo s.most job m s.number (record {
          numbers = s.numbers.items;
          left = l;
          begun = 0;
          owed = nothing;
        })) (sym (ap length seed.lefts)) (first.place s.most)))

    held : (i : ℕ) → i < length (registrations_at job s.number)
        → IsHeldOn job spots m s.number (registration_at job s.number i).phaser
        (get_or s.holds.items i Gone)
    held i few =
        let r = has.each i (omega arith) in
        let on = r.root in
        subst (IsHeldOn job spots m s.number (registration_at job s.number i).phaser)
        (sym (hold_at s.holds.items i (On r.member) r.hold))
        (record {
          op = on.line.op_is;
          at = on.at;
          limits = on.line.limits_are;
          numbered = (first.place s.most).numbered i few ∙ r.number;
          seen = sym (first.history i few ∙ seen_at s.holds.items i r.member r.hold);
        })

-- a seed knows its children
pub knows_children : (job : Job) (t : ℕ) (children : List Child)
    → AreChildrenBelow job t (length job.graph.tasks) children → KnowsChildren job t children
knows_children job t children are = record {
  each = λ i child e.
      (let unregistered = are.each i child e in
      record {
        of_task = record {
          there = unregistered.there;
          parent = unregistered.parent;
          has = unregistered.has;
          by = unregistered.by;
        };
        at = unregistered.at;
      });
  all = are.all;
  apart = are.apart;
}

-- what holds of it always
pub is_whole : (job : Job) (spots : ℕ → Spot) (s : TaskState) → IsGraph job.graph → IsSeed job s
    → HasReceivedFirst job spots s → length s.holds.items ≡ length (registrations_at job s.number)
    → length (registrations_at job s.number) ≤ s.lefts.cap → IsWhole job s
is_whole job spots s is seed has all room = record {
  graph = is;
  there = seed.there;
  samples = seed.samples;
  numbers = has.long ∙ all;
  holds = all;
  children = knows_children job s.number s.children.items seed.children;
  staying = λ over. ap length seed.lefts;
  room = room;
  places = seed.places;
  makers = λ kind. seed.owed;
  others = λ kind. seed.made;
  splitters = λ kind. seed.owed;
  dealers = λ kind. seed.dealt;
}

-- a root that has received all its registrations is a task of its run
pub begins : (job : Job) (spots : ℕ → Spot) (s : TaskState) → IsGraph job.graph
    → (task_at job.graph s.number).parent ≡ None → IsSeed job s → HasReceivedFirst job spots s
    → length s.holds.items ≡ length (registrations_at job s.number)
    → length (registrations_at job s.number) ≤ s.lefts.cap
    → (m : Moment) × IsFirstMoment job m s.number s.numbers.items (seen_by s.holds.items)
    × HasOwnCalls job m s.number
    → IsTask job spots s
begins job spots s is root seed has all room first = record {
  whole = is_whole job spots s is seed has all room;
  stands = λ met. (first.0, stands_first job spots s first.0 is root seed has all first.1 first.2);
}
