-- What a task leaves behind that has left all its phasers.
use Rattle.std.proofs.Common.{◌≡◌, ℕ, zero, suc, ◌<◌, ◌≤◌, Bool, true, false, cond, eqb, List, [], ◌∷◌, Some, length, map, get_or, refl, sym, ap, subst, ◌∙◌, arith}
use Rattle.std.specs.Prelude.{slice_get}
use Rattle.std.proofs.lemmas.Bool.{eqb-true, eq-eqb}
use Rattle.std.proofs.lemmas.List.{length-map}
use Rattle.std.proofs.lemmas.Option.{slice_get-get_or, slice_get_within, same_Some}
use Rattle.stream_lists.specs.Jobs.{Job}
use Rattle.graph_runs.specs.Moments.{Moment}
use Rattle.stream_members.specs.Members.{Spot}
use Rattle.stream_members.specs.AnyMembers.{left_in}
use Rattle.stream_members.specs.declared.any_left.AnyLeft.{AnyLeft}
use Rattle.graph_runs.specs.Nexts.{registrations_at}
use Rattle.graph_runs.specs.TaskPlaces.{registration_at}
use Rattle.graph_runs.specs.TaskEnds.{HasNumbers}
use Rattle.stream_tasks.specs.TaskLefts.{IsGone, IsTaskLeft, left_by, given_to}
use Rattle.stream_tasks.specs.Tasks.{HasLeftOn, HasHolds, IsTask, place_of_state}
use Rattle.stream_tasks.specs.declared.hold.Hold.{Hold}
use Rattle.stream_tasks.specs.declared.child.Child.{Child}
use Rattle.stream_tasks.specs.declared.task_state.TaskState.{TaskState}

-- the history that was seen of the phaser at place i
seen_at : (ls : List AnyLeft) (i : ℕ) (l : AnyLeft) → slice_get ls i ≡ Some l
    → get_or (map (λ l. (left_in l).seen) ls) i [] ≡ (left_in l).seen
seen_at [] i l e = absurd (let no = slice_get_within {A = AnyLeft} [] i l e in omega arith)
seen_at (x ∷ ls) zero l e = ap (λ l. (left_in l).seen) (same_Some x l e)
seen_at (x ∷ ls) (suc i) l e = seen_at ls i l e

-- the numbers given to a child that stands in the list hold of it
given_holds : (job : Job) (m : Moment) (children : List Child) (c i : ℕ) (child : Child)
    → ((k : ℕ) (x : Child) → slice_get children k ≡ Some x → HasNumbers job m x.task x.numbers.items)
    → slice_get children i ≡ Some child → child.task ≡ c
    → HasNumbers job m c (given_to children c)
given_holds job m [] c i child all e is = absurd (let no = slice_get_within {A = Child} [] i child e in omega arith)
given_holds job m (x ∷ more) c i child all e is = at (given_holds job m more) i e (eqb x.task c) refl
  where
    at : ((c i : ℕ) (child : Child)
        → ((k : ℕ) (y : Child) → slice_get more k ≡ Some y → HasNumbers job m y.task y.numbers.items)
        → slice_get more i ≡ Some child → child.task ≡ c → HasNumbers job m c (given_to more c))
        → (i : ℕ) → slice_get (x ∷ more) i ≡ Some child → (b : Bool) → eqb x.task c ≡ b
        → HasNumbers job m c (cond b x.numbers.items (given_to more c))
    at rec i e true same =
        subst (λ y. HasNumbers job m y x.numbers.items) (eqb-true x.task c same) (all 0 x refl)
    at rec zero e false same =
        absurd (let first : x ≡ child = same_Some x child e in
        let yes : eqb x.task c ≡ true = eq-eqb x.task c (ap (λ y. y.task) first ∙ is) in
        let no = sym yes ∙ same in cc)
    at rec (suc i) e false same = rec c i child (λ k y is_at. all (suc k) y is_at) e is

-- all that was seen
seen_all : (job : Job) (spots : ℕ → Spot) (m : Moment) (t : ℕ) (holds : List Hold)
    (lefts : List AnyLeft) → HasHolds job spots m t holds lefts → (i : ℕ) → i < length lefts
    → m.history (registration_at job t i).phaser ≡ get_or (map (λ l. (left_in l).seen) lefts) i []
seen_all job spots m t holds lefts has i less = by lefts has.off i less
  where
    by : (ls : List AnyLeft)
        → ((i : ℕ) (l : AnyLeft) → slice_get ls i ≡ Some l
        → HasLeftOn job spots m t (registration_at job t i).phaser l)
        → (i : ℕ) → i < length ls
        → m.history (registration_at job t i).phaser ≡ get_or (map (λ l. (left_in l).seen) ls) i []
    by [] off i less = absurd (let no : i < 0 = less in omega arith)
    by (x ∷ ls) off i less =
        let found = slice_get-get_or (x ∷ ls) i x less in
        let l = get_or (x ∷ ls) i x in
        sym (off i l found).seen ∙ sym (seen_at (x ∷ ls) i l found)

-- a task that is gone has left all its phasers
pub gone_left : (job : Job) (spots : ℕ → Spot) (s : TaskState) → IsGone s → IsTask job spots s
    → IsTaskLeft job spots (left_by s)
gone_left job spots s gone task =
    let whole = task.whole in
    let m = (task.stands gone.met).0 in
    let at = (task.stands gone.met).1 in
    let undealt = (at.at_end gone.over).nothing_dealt in
    let all : length s.numbers.items ≡ length (registrations_at job s.number) = whole.numbers in
    let few : length s.lefts.items ≤ length s.numbers.items = (at.place undealt).few_left in
    let many : length s.numbers.items ≤ length s.lefts.items = gone.left in
    let count : length s.lefts.items ≡ length s.numbers.items = omega arith in
    record {
      there = whole.there;
      moment = m;
      has_left = record {
        part = at.part;
        own = at.own;
        most = s.most;
        at = place_of_state s;
        stands = at.place undealt;
        begun = refl;
        start = at.start;
        numbers = refl;
        whole = all;
        left = count;
        long = length-map s.lefts.items (λ l. (left_in l).seen) ∙ count ∙ all;
        seen = λ i less. seen_all job spots m s.number s.holds.items s.lefts.items at.holds i (omega arith);
        lines = λ sink. sym (at.lines sink);
        given = λ c child.
            (let known = whole.children.all c child.parent child.there child.has child.by in
            given_holds job m s.children.items c known.0 known.1.0 at.given known.1.1 known.1.2);
      };
      members = λ i n l number left.
          (let off = at.holds.off i l left in
          let less = slice_get_within s.numbers.items i n number in
          let same : Some off.number ≡ Some n =
          sym off.numbered ∙ (at.place undealt).numbered i (omega arith) ∙ number in
          record {
            op = off.op;
            at = off.at;
            limits = off.limits;
            numbers_are = off.numbers ∙ ap (λ x. x ∷ []) (same_Some off.number n same);
          });
    }
