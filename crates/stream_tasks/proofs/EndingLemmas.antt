-- The state of a task that makes no further step, and leaves.
use Rattle.std.proofs.Common.{◌≡◌, ◌≢◌, ℕ, zero, suc, ◌+◌, ◌<◌, ◌≤◌, ℤ, true, false, List, [], ◌∷◌, ◌++◌, Some, None, Ok, length, get_or, set, refl, sym, ap, subst, ◌∙◌, arith, ◌⊎◌, inl, inr}
use Rattle.std.specs.Global.{Global}
use Rattle.std.specs.Vec.{with_item}
use Rattle.std.specs.Prelude.{slice_get, is_some, Option, Bool, Vec, ◌==◌, ◌&&◌}
use Rattle.std.proofs.lemmas.Bool.{cases_lt, eqb-true, and_parts}
use Rattle.std.proofs.lemmas.List.{length-set, get_or-set_other, length-append}
use Rattle.std.proofs.lemmas.Option.{slice_get_within, slice_get-get_or, same_Some}
use Rattle.phase_history.specs.declared.event.Event.TheVariants.{Dropped}
use Rattle.phase_history.specs.declared.got.Got.TheVariants.{Ended}
use Rattle.phase_history.specs.Histories.{History}
use Rattle.phase_history.specs.Legal.{IsLegal}
use Rattle.phase_history.specs.Others.{OthersCame}
use Rattle.phase_history.specs.Replies.{wait_reply}
use Rattle.phase_accum.specs.Values.{value_by}
use Rattle.phase_accum.specs.declared.outcome.Outcome.{Outcome}
use Rattle.graph_base.specs.declared.line.Kind.TheVariants as kind
use Rattle.graph_base.specs.declared.line.Parent.{Parent}
use Rattle.graph_base.specs.declared.line.Kind.{Kind}
use Rattle.graph_base.specs.Graphs.{task_at, is_source}
use Rattle.graph_base.specs.TaskLines.{IsGraph}
use Rattle.stream_lists.specs.Jobs.{Job}
use Rattle.graph_runs.specs.Moments.{Moment, HasEnded, RanOut, input_at, first_input, limits_at, value_at}
use Rattle.stream_members.specs.Members.{Spot, limits_on}
use Rattle.stream_members.specs.AnyMembers.{member_in, left_in}
use Rattle.stream_members.specs.declared.any_member.AnyMember.{AnyMember}
use Rattle.stream_members.specs.declared.any_left.AnyLeft.{AnyLeft}
use Rattle.graph_runs.specs.Nexts.{registrations_at, comes_by}
use Rattle.graph_runs.specs.TaskPlaces as turns
use Rattle.graph_runs.specs.TaskPlaces.{StandsUpTo, registration_at}
use Rattle.graph_runs.proofs.Reaching.{one_registration}
use Rattle.graph_runs.specs.Turned.{after_leave}
use Rattle.graph_runs.specs.Parts.{HasSeen, SeesOthers, SeesOwn, HasMovedOn}
use Rattle.graph_runs.proofs.PartsLemmas.{with_history, sees_end, left_phaser}
use Rattle.graph_runs.proofs.KnownOthers.{known_moved}
use Rattle.graph_runs.proofs.FollowsPlace.{left_follows}
use Rattle.graph_runs.proofs.TellsNext.{staying_at, none_due_at, ended_no_input}
use Rattle.graph_runs.proofs.CallsFollow.{calls_left}
use Rattle.graph_runs.specs.Steps.{HasFilter}
use Rattle.stream_tasks.specs.Holds as holds
use Rattle.stream_tasks.specs.Holds.{HoldGoesOn, HasRunOut, HoldLeaves}
use Rattle.stream_tasks.specs.Tasks.{IsOn, HasLeftOn, IsHeldOn, HasHolds, IsOwnTaskAt, IsWhole, IsTask, HasAllNow, OwesNothing, owed_by, place_of_state}
use Rattle.stream_tasks.specs.Children.{HasChildrenNow}
use Rattle.stream_tasks.specs.declared.hold.Hold.{Hold}
use Rattle.stream_tasks.specs.declared.hold.Hold.TheVariants.{On, Gone}
use Rattle.stream_tasks.specs.declared.task_state.TaskState.{TaskState}
use Rattle.stream_tasks.proofs.Holding.{same_or_apart, sees_others, held_elsewhere, left_elsewhere}
use Rattle.stream_tasks.proofs.Keeping.{owed_none, places_stay}
use Rattle.stream_tasks.proofs.Turning.{state_sees, given_stay, children_stay, held, goes}

-- ---- lists

-- the last of a list with one more
last : (ls : List AnyLeft) (left l : AnyLeft) → slice_get (ls ++ left ∷ []) (length ls) ≡ Some l
    → l ≡ left
last [] left l e = sym (same_Some left l e)
last (x ∷ ls) left l e = last ls left l e

-- those before it
earlier : (ls : List AnyLeft) (left l : AnyLeft) (i : ℕ) → i < length ls
    → slice_get (ls ++ left ∷ []) i ≡ Some l → slice_get ls i ≡ Some l
earlier [] left l i less e = absurd (let no : i < 0 = less in omega arith)
earlier (x ∷ ls) left l zero less e = e
earlier (x ∷ ls) left l (suc i) less e = earlier ls left l i (omega arith) e

-- ---- children

both_right : (a b : Bool) → (a && b) ≡ true → b ≡ true
both_right true b e = e
both_right false b e = absurd (let no : false ≡ true = e in cc)

-- a child that comes now has its parent in its line, at this step
pub came : (t steps : ℕ) (parent : Option Parent) → comes_by t steps parent ≡ true
    → (u : Parent) × (parent ≡ Some u) × (u.task ≡ t) × (u.at ≡ steps)
came t steps None e = absurd (let no : false ≡ true = e in cc)
came t steps (Some u) e = (u, refl, eqb-true u.task t (and_parts (u.task == t) (u.at == steps) e).0, eqb-true u.at steps (both_right (u.task == t) (u.at == steps) e))

-- where each has as many numbers as registrations, all are there
pub all_now : (job : Job) (s : TaskState) → IsWhole job s → HasAllNow job s → HasChildrenNow job s
all_now job s whole all spots m at c there comes i less =
    let u = came s.number s.begun (task_at job.graph c).parent comes in
    let known = whole.children.all c u.0 there u.1 u.2 in
    let child = known.1.0 in
    let q = (registration_at job c i).phaser in
    let is_child : child.task ≡ c = known.1.2 in
    let less_here : i < length (registrations_at job child.task) =
    subst (λ x. i < length (registrations_at job x)) (sym is_child) less in
    let long : length (registrations_at job child.task) ≤ length child.numbers.items =
    all known.0 child known.1.1 (known.1.3 ∙ u.3) in
    let number = (at.given known.0 child known.1.1).numbered i less_here in
    let found = slice_get-get_or child.numbers.items i 0 (omega arith) in
    let has : is_some (m.number (registration_at job child.task i).phaser child.task) ≡ true =
    ap is_some (number ∙ found) in
    subst (λ x. is_some (m.number (registration_at job x i).phaser x) ≡ true) is_child has

-- ---- the end of the steps

-- what holds always
over_whole : (job : Job) (s : TaskState) → IsWhole job s → IsWhole job (record s { over = true })
over_whole job s whole = record {
  graph = whole.graph;
  there = whole.there;
  samples = whole.samples;
  numbers = whole.numbers;
  holds = whole.holds;
  children = whole.children;
  staying = λ no. absurd (let clash : true ≡ false = no in cc);
  room = whole.room;
  places = places_stay job s (record s { over = true }) refl refl refl refl refl refl refl
      whole.places;
  makers = whole.makers;
  others = whole.others;
  splitters = whole.splitters;
  dealers = whole.dealers;
}

-- a task that has ended makes no further step
pub at_end : (job : Job) (spots : ℕ → Spot) (s : TaskState) → s.met ≡ false → OwesNothing s
    → HasChildrenNow job s
    → ((m : Moment) → IsOwnTaskAt job spots m s → HasEnded job m s.number)
    → IsTask job spots s → IsTask job spots (record s { over = true })
at_end job spots s met owes children ended task = record {
  whole = over_whole job s task.whole;
  stands = λ again.
      let m = (task.stands met).0 in
      let at = (task.stands met).1 in (
        m,
        record {
          part = at.part;
          own = at.own;
          knows = at.knows;
          place = at.place;
          deals = at.deals;
          start = at.start;
          holds = at.holds;
          filter = at.filter;
          lines = at.lines;
          given = at.given;
          at_end = λ over. record {
            ended = ended m at;
            nothing_owed = owed_none s owes;
            nothing_dealt = owes.2;
            children = children spots m at;
          };
        },
      );
}

-- the input that its next step would wait for first has run out
pub runs_out : (job : Job) (spots : ℕ → Spot) (s : TaskState) (k p : ℕ) (old new : Hold)
    (lines : Vec ℤ Global) (entered : Bool) (outcomes : Vec Outcome Global) → s.met ≡ false
    → s.over ≡ false → OwesNothing s
    → ((task_at job.graph s.number).kind ≡ kind.Source → ⊥)
    → k ≡ first_input (task_at job.graph s.number) s.begun
    → k < length (task_at job.graph s.number).inputs
    → input_at (task_at job.graph s.number) k ≡ p
    → k < length (registrations_at job s.number) → (registration_at job s.number k).phaser ≡ p
    → old ≡ get_or s.holds.items k old → lines.items ≡ s.lines.items
    → length outcomes.items ≡ length s.outcomes.items
    → HasChildrenNow job s → HoldGoesOn HasRunOut old new → IsTask job spots s
    → IsTask job spots
    (record s {
      over = true;
      lines = lines;
      entered = entered;
      outcomes = outcomes;
      holds = with_item s.holds k new;
    })
runs_out job spots s k p old new lines entered outcomes met going owes never first input_there input few here looked same many children g task =
    let whole = task.whole in
    let t = s.number in
    let m = (task.stands met).0 in
    let at = (task.stands met).1 in
    let none : length s.lefts.items ≡ 0 = whole.staying going in
    let both = goes HasRunOut job spots m t p old new g
    (held job spots m s k p old whole at few here (omega arith) looked) in
    let x = both.0 in
    let y = both.1.0 in
    let out = both.1.3 in
    let on = both.1.4 in
    let n = (member_in x).number in
    let now = (member_in y).seen in
    let after = with_history p now m in
    let sees = sees_others job spots m t p x y on out.seen in
    let reply : wait_reply (value_at job p) (limits_at job p) now n ≡ Ok Ended =
    subst (λ l. wait_reply (value_at job p) l now n ≡ Ok Ended) (ap limits_on on.at ∙ on.limits)
    (subst (λ o. wait_reply (value_by o) (limits_on (member_in x).at) now n ≡ Ok Ended) on.op out.ended) in
    let ended = subst (λ (q : ℕ). HasSeen job m (with_history q now m) t q now × RanOut
    (with_history q now m) (task_at job.graph t) t k) input
    (sees_end job m t k n now whole.graph whole.there at.part
    (subst (λ q. SeesOthers job m t q n now) (sym input) sees)
    (staying_at job m t (place_of_state s) whole.graph whole.there at.part.ran (at.place owes.2) none)
    input_there
    (subst (λ q. wait_reply (value_at job q) (limits_at job q) now n ≡ Ok Ended) (sym input) reply)) in
    let then = state_sees job spots m after s k p x y lines entered outcomes s.places whole few (omega arith) here same at on
    out.seen ended.0 in
    let owed_is : owed_by s.owed s.made.items ≡ turns.nothing = owed_none s owes in
    record {
      whole = record {
        graph = whole.graph;
        there = whole.there;
        samples = whole.samples;
        numbers = whole.numbers;
        holds = length-set s.holds.items k new ∙ whole.holds;
        children = whole.children;
        staying = λ no. absurd (let clash : true ≡ false = no in cc);
        room = whole.room;
        places = places_stay job s
            (record s {
              over = true;
              lines = lines;
              entered = entered;
              outcomes = outcomes;
              holds = with_item s.holds k new;
            })
            refl refl refl refl refl refl many whole.places;
        makers = whole.makers;
        others = whole.others;
        splitters = whole.splitters;
        dealers = whole.dealers;
      };
      stands = λ again. (
        after,
        record {
          part = then.part;
          own = then.own;
          knows = then.knows;
          place = then.place;
          deals = then.deals;
          start = then.start;
          holds = subst (λ h. HasHolds job spots after t (set s.holds.items k h) s.lefts.items) (sym both.1.2) then.holds;
          filter = then.filter;
          lines = then.lines;
          given = then.given;
          at_end = λ over. record {
            ended = ended_no_input job after t (place_of_state s) whole.there then.part (then.place owes.2) owed_is never
                (let R : ℕ → Type 0 = λ i. RanOut after (task_at job.graph t) t i in subst R first ended.1);
            nothing_owed = owed_is;
            nothing_dealt = owes.2;
            children = children_stay job m after t p s.begun now ended.0.moved (children spots m at);
          };
        },
      );
    }

-- ---- leaving

-- task t leaves the next of its phasers
holds_leave : (job : Job) (spots : ℕ → Spot) (m after : Moment) (t p : ℕ) (now : History)
    (holds : List Hold) (lefts : List AnyLeft) (left : AnyLeft) → IsGraph job.graph
    → t < length job.graph.tasks → length lefts < length (registrations_at job t)
    → (registration_at job t (length lefts)).phaser ≡ p
    → HasMovedOn job m after t p now → HasHolds job spots m t holds lefts
    → HasLeftOn job spots after t p left
    → HasHolds job spots after t (set holds (length lefts) Gone) (lefts ++ left ∷ [])
holds_leave job spots m after t p now holds lefts left is there few here moved has on = record {
  on = λ i lt le. on_one i lt (longer i le);
  off = λ i l at. off_one i l at
      (same_or_apart i (length lefts) (cases_lt i (length lefts)) (cases_lt (length lefts) i));
}
  where
    longer : (i : ℕ) → length (lefts ++ left ∷ []) ≤ i → length lefts < i
    longer i le =
        omega (arith, length-append lefts (left ∷ []))

    other : (i : ℕ) → i < length (registrations_at job t) → i ≢ length lefts
        → (registration_at job t i).phaser ≢ p
    other i lt apart same =
        apart (one_registration job t i (length lefts) is there lt few (same ∙ sym here))

    on_one : (i : ℕ) → i < length (registrations_at job t) → length lefts < i
        → IsHeldOn job spots after t (registration_at job t i).phaser (get_or (set holds (length lefts) Gone) i Gone)
    on_one i lt high =
        let apart : i ≢ length lefts = λ e. omega arith in
        subst (λ h. IsHeldOn job spots after t (registration_at job t i).phaser h)
        (sym (get_or-set_other holds (length lefts) i Gone Gone apart))
        (held_elsewhere job spots m after t p (registration_at job t i).phaser now (get_or holds i Gone)
        moved (other i lt apart) (has.on i lt (omega arith)))

    off_one : (i : ℕ) (l : AnyLeft) → slice_get (lefts ++ left ∷ []) i ≡ Some l
        → (i ≡ length lefts) ⊎ (i ≢ length lefts)
        → HasLeftOn job spots after t (registration_at job t i).phaser l
    off_one i l at (inl same) =
        let is : l ≡ left = last lefts left l (subst (λ x. slice_get (lefts ++ left ∷ []) x ≡ Some l) same at) in
        subst (λ x. HasLeftOn job spots after t (registration_at job t i).phaser x) (sym is)
        (subst (λ q. HasLeftOn job spots after t q left)
        (sym (ap (λ x. (registration_at job t x).phaser) same ∙ here)) on)
    off_one i l at (inr apart) =
        let within = slice_get_within (lefts ++ left ∷ []) i l at in
        let sum : length (lefts ++ left ∷ []) ≡ length lefts + 1 = length-append lefts (left ∷ []) in
        let low : i < length lefts = omega arith in
        left_elsewhere job spots m after t p (registration_at job t i).phaser now l moved
        (other i (omega arith) apart) (has.off i l (earlier lefts left l i low at))

-- a task that has left the next of its phasers
pub task_leaves : (job : Job) (spots : ℕ → Spot) (s : TaskState) (p : ℕ) (old new : Hold)
    (left : AnyLeft) (lefts : Vec AnyLeft Global) → s.met ≡ false → s.over ≡ true
    → length s.lefts.items < length (registrations_at job s.number)
    → (registration_at job s.number (length s.lefts.items)).phaser ≡ p
    → old ≡ get_or s.holds.items (length s.lefts.items) old → HoldLeaves old new left
    → lefts.items ≡ s.lefts.items ++ left ∷ [] → s.lefts.cap ≤ lefts.cap → IsTask job spots s
    → IsTask job spots
    (record s { holds = with_item s.holds (length s.lefts.items) new; lefts = lefts })
task_leaves job spots s p old new left lefts met over few here looked g more room task =
    let whole = task.whole in
    let t = s.number in
    let k = length s.lefts.items in
    let m = (task.stands met).0 in
    let at = (task.stands met).1 in
    let x = leaver job spots m t p old new left g
    (held job spots m s k p old whole at few here (omega arith) looked) in
    let one = x.1.2 in
    let n = (member_in x.0).number in
    let now = Dropped n ∷ one.before in
    let after = after_leave p n (with_history p one.before m) in
    let end = at.at_end over in
    let on = x.1.3 in
    let sees : SeesOwn job m t p n (Dropped n) one.before = record {
      numbered = on.numbered;
      others = subst (λ h. OthersCame (n ∷ []) h one.before) on.seen one.others;
      legal = subst (λ h. IsLegal (limits_at job p) h) one.seen
          (subst (λ l. IsLegal l (left_in left).seen) (ap limits_on on.at ∙ on.limits) one.legal);
    } in
    let gone = left_phaser job m t p n one.before whole.graph whole.there at.part sees end.ended
    (none_due_at job m t p (place_of_state s) whole.graph at.part (at.place end.nothing_dealt) end.children) in
    let is_off : HasLeftOn job spots after t p left = record {
      op = one.op ∙ on.op;
      at = one.at ∙ on.at;
      limits = on.limits;
      number = n;
      numbered = gone.moved.numbers p t ∙ on.numbered;
      numbers = one.numbers;
      seen = one.seen ∙ sym gone.moved.here;
    } in
    let count : length lefts.items ≡ suc (length s.lefts.items) =
    ap length more ∙ length-append s.lefts.items (left ∷ []) ∙ (let sum : k + 1 ≡ suc k = omega arith in sum) in
    let all : length s.numbers.items ≡ length (registrations_at job t) = whole.numbers in
    let held_room : length (registrations_at job t) ≤ s.lefts.cap = whole.room in
    record {
      whole = record {
        graph = whole.graph;
        there = whole.there;
        samples = whole.samples;
        numbers = whole.numbers;
        holds = length-set s.holds.items k new ∙ whole.holds;
        children = whole.children;
        staying = λ no. absurd (let clash : true ≡ false = sym over ∙ no in cc);
        room = omega arith;
        places = places_stay job s
            (record s { holds = with_item s.holds (length s.lefts.items) new; lefts = lefts })
            refl refl refl refl refl refl refl whole.places;
        makers = whole.makers;
        others = whole.others;
        splitters = whole.splitters;
        dealers = whole.dealers;
      };
      stands = λ again. (
        after,
        record {
          part = gone.moved.part;
          own = calls_left job m after t p whole.graph whole.there n one.before sees gone at.own;
          knows = known_moved job m after t p now gone.moved at.knows;
          place = λ none. subst (λ i. StandsUpTo s.most job after t (record {
            numbers = s.numbers.items;
            left = i;
            begun = s.begun;
            owed = owed_by s.owed s.made.items;
          }))
              (sym count)
              (left_follows job m after t p n (place_of_state s) one.before whole.graph whole.there (at.place none)
              (omega arith) here on.numbered gone);
          deals = λ some. absurd (some end.nothing_dealt);
          start = λ joins. gone.moved.offset t ∙ at.start joins;
          holds = subst (λ ls. HasHolds job spots after t (set s.holds.items k new) ls) (sym more)
              (subst (λ h. HasHolds job spots after t (set s.holds.items k h) (s.lefts.items ++ left ∷ []))
              (sym x.1.1)
              (holds_leave job spots m after t p now s.holds.items s.lefts.items left whole.graph whole.there
              few here gone.moved at.holds is_off));
          filter = subst (λ taken. HasFilter (task_at job.graph t) s.filter taken) (sym (gone.same.taken 0)) at.filter;
          lines = λ sink. at.lines sink ∙ sym (gone.same.taken 0);
          given = given_stay job m after t p now s.children.items gone.moved at.given;
          at_end = λ yes. record {
            ended = gone.ended;
            nothing_owed = end.nothing_owed;
            nothing_dealt = end.nothing_dealt;
            children = children_stay job m after t p s.begun now gone.moved end.children;
          };
        },
      );
    }
  where
    leaver : (job : Job) (spots : ℕ → Spot) (m : Moment) (t p : ℕ) (old new : Hold) (left : AnyLeft)
        → HoldLeaves old new left → IsHeldOn job spots m t p old
        → (x : AnyMember) × ((old ≡ On x) × (new ≡ Gone) × holds.LeavesHold x left × IsOn job spots m t p x)
    leaver job spots m t p (On x) new left g on = (x, (refl, g.0, g.1, on))
    leaver job spots m t p Gone new left g on = absurd on

-- a task whose holds are as they were
pub task_held : (job : Job) (spots : ℕ → Spot) (s : TaskState) (holds : Vec Hold Global)
    → holds.items ≡ s.holds.items → IsTask job spots s → IsTask job spots (record s { holds = holds })
task_held job spots s holds same task = record {
  whole = held_whole job s holds same task.whole;
  stands = λ met.
      let m = (task.stands met).0 in
      let at = (task.stands met).1 in (
        m,
        record {
          part = at.part;
          own = at.own;
          knows = at.knows;
          place = at.place;
          deals = at.deals;
          start = at.start;
          holds = subst (λ l. HasHolds job spots m s.number l s.lefts.items) (sym same) at.holds;
          filter = at.filter;
          lines = at.lines;
          given = at.given;
          at_end = λ over. let end = at.at_end over in record {
            ended = end.ended;
            nothing_owed = end.nothing_owed;
            nothing_dealt = end.nothing_dealt;
            children = end.children;
          };
        },
      );
}
  where
    held_whole : (job : Job) (s : TaskState) (holds : Vec Hold Global)
        → holds.items ≡ s.holds.items → IsWhole job s → IsWhole job (record s { holds = holds })
    held_whole job s holds same whole = record {
      graph = whole.graph;
      there = whole.there;
      samples = whole.samples;
      numbers = whole.numbers;
      holds = ap length same ∙ whole.holds;
      children = whole.children;
      staying = whole.staying;
      room = whole.room;
      places = places_stay job s (record s { holds = holds }) refl refl refl refl refl refl refl
          whole.places;
      makers = whole.makers;
      others = whole.others;
      splitters = whole.splitters;
      dealers = whole.dealers;
    }

-- a task whose list has more room, or whose next step was entered
pub task_lines : (job : Job) (spots : ℕ → Spot) (s : TaskState) (lines : Vec ℤ Global)
    → lines.items ≡ s.lines.items → IsTask job spots s → IsTask job spots (record s { lines = lines })
task_lines job spots s lines same task = record {
  whole = lines_whole job s lines task.whole;
  stands = λ met.
      let m = (task.stands met).0 in
      let at = (task.stands met).1 in (
        m,
        record {
          part = at.part;
          own = at.own;
          knows = at.knows;
          place = at.place;
          deals = at.deals;
          start = at.start;
          holds = at.holds;
          filter = at.filter;
          lines = λ sink. same ∙ at.lines sink;
          given = at.given;
          at_end = λ over. let end = at.at_end over in record {
            ended = end.ended;
            nothing_owed = end.nothing_owed;
            nothing_dealt = end.nothing_dealt;
            children = end.children;
          };
        },
      );
}
  where
    lines_whole : (job : Job) (s : TaskState) (lines : Vec ℤ Global) → IsWhole job s
        → IsWhole job (record s { lines = lines })
    lines_whole job s lines whole = record {
      graph = whole.graph;
      there = whole.there;
      samples = whole.samples;
      numbers = whole.numbers;
      holds = whole.holds;
      children = whole.children;
      staying = whole.staying;
      room = whole.room;
      places = places_stay job s (record s { lines = lines }) refl refl refl refl refl refl refl
          whole.places;
      makers = whole.makers;
      others = whole.others;
      splitters = whole.splitters;
      dealers = whole.dealers;
    }

-- a kind that is a source's, and one that is not
pub source_is : (k : Kind) → is_source k ≡ true → k ≡ kind.Source
source_is kind.Source e = refl
source_is kind.Fir e = absurd (let no : false ≡ true = e in cc)
source_is kind.Split e = absurd (let no : false ≡ true = e in cc)
source_is kind.Decimate e = absurd (let no : false ≡ true = e in cc)
source_is kind.Join e = absurd (let no : false ≡ true = e in cc)
source_is kind.Peer e = absurd (let no : false ≡ true = e in cc)
source_is kind.Sink e = absurd (let no : false ≡ true = e in cc)

pub no_source : (k : Kind) → is_source k ≡ false → k ≡ kind.Source → ⊥
no_source k e is = let clash : true ≡ false = sym (ap is_source is) ∙ e in cc
