-- A task registers a child: what its state and the child's holds are after each call.
use Rattle.std.proofs.Common.{◌≡◌, ◌≢◌, ℕ, ◌<◌, ◌≤◌, true, false, List, [], Some, None, length, get_or, set, refl, sym, ap, subst, ◌∙◌, arith, ◌⊎◌, inl, inr}
use Rattle.std.specs.Prelude.{slice_get}
use Rattle.std.specs.Vec.{with_item}
use Rattle.std.proofs.lemmas.Bool.{cases_lt}
use Rattle.std.proofs.lemmas.List.{get_or-set_same, get_or-set_other}
use Rattle.std.proofs.lemmas.Option.{slice_get-get_or, slice_get_past, slice_get_within}
use Rattle.graph_base.specs.Graphs.{task_at}
use Rattle.graph_base.specs.TaskLines.{IsGraph}
use Rattle.stream_lists.specs.Jobs.{Job}
use Rattle.graph_runs.specs.Moments.{Moment}
use Rattle.graph_runs.proofs.Whole.{parent_of}
use Rattle.stream_members.specs.Members.{Spot}
use Rattle.stream_members.specs.AnyMembers.{member_in}
use Rattle.stream_members.specs.declared.any_member.AnyMember.{AnyMember}
use Rattle.stream_members.specs.declared.any_left.AnyLeft.{AnyLeft}
use Rattle.graph_runs.specs.Nexts.{registrations_at}
use Rattle.graph_runs.specs.TaskPlaces as turns
use Rattle.graph_runs.specs.TaskPlaces.{StandsUpTo, registration_at}
use Rattle.graph_runs.proofs.Reaching.{one_registration}
use Rattle.graph_runs.specs.Places.{HasNewChild, HasSeenBoth, KnowsOthers}
use Rattle.graph_runs.proofs.ChildMoments.{with_child, child_is_new, both_see}
use Rattle.graph_runs.proofs.KnownOthers.{known_moved, known_begins, known_child}
use Rattle.graph_runs.proofs.PartsLemmas.{with_history}
use Rattle.graph_runs.specs.TaskEnds.{IsChildOf, HasNumbers}
use Rattle.graph_runs.proofs.CallsFollow.{calls_begin, calls_wait}
use Rattle.graph_runs.specs.Steps.{HasFilter}
use Rattle.stream_tasks.specs.Holds.{HasSeenOthers}
use Rattle.stream_tasks.specs.Registering.{HasFirstHolds}
use Rattle.stream_tasks.specs.Tasks.{DealsNothing, IsOn, HasLeftOn, IsHeldOn, HasHolds, IsOwnTaskAt, IsWhole, OwesNothing, owed_by, place_of_state}
use Rattle.stream_tasks.specs.declared.child.Child.{Child}
use Rattle.stream_tasks.specs.declared.hold.Hold.{Hold}
use Rattle.stream_tasks.specs.declared.hold.Hold.TheVariants.{On, Gone}
use Rattle.stream_tasks.specs.declared.task_state.TaskState.{TaskState}
use Rattle.stream_tasks.proofs.Holding.{same_or_apart, sees_others, on_after}
use Rattle.stream_tasks.proofs.Keeping.{owed_none}

-- ---- holds at a later moment

-- of a task whose number on a phaser and whose history there are as they were
pub held_same : (job : Job) (spots : ℕ → Spot) (m after : Moment) (t q : ℕ) (hold : Hold)
    → after.number q t ≡ m.number q t → after.history q ≡ m.history q
    → IsHeldOn job spots m t q hold → IsHeldOn job spots after t q hold
held_same job spots m after t q (On x) number history on = record {
  op = on.op;
  at = on.at;
  limits = on.limits;
  numbered = number ∙ on.numbered;
  seen = on.seen ∙ sym history;
}
held_same job spots m after t q Gone number history on = on

left_same : (job : Job) (spots : ℕ → Spot) (m after : Moment) (t q : ℕ) (left : AnyLeft)
    → after.number q t ≡ m.number q t → after.history q ≡ m.history q
    → HasLeftOn job spots m t q left → HasLeftOn job spots after t q left
left_same job spots m after t q left number history off = record {
  op = off.op;
  at = off.at;
  limits = off.limits;
  number = off.number;
  numbered = number ∙ off.numbered;
  numbers = off.numbers;
  seen = off.seen ∙ sym history;
}

-- the numbers that a task has
pub numbers_same : (job : Job) (m after : Moment) (t : ℕ) (numbers : List ℕ)
    → ((q : ℕ) → after.number q t ≡ m.number q t) → HasNumbers job m t numbers
    → HasNumbers job after t numbers
numbers_same job m after t numbers same has = record {
  few = has.few;
  numbered = λ i lt. same (registration_at job t i).phaser ∙ has.numbered i lt;
  lines = λ p n at. has.lines p n (sym (same p) ∙ at);
}

-- all holds of a task, where only registration k has another
pub holds_go : (job : Job) (spots : ℕ → Spot) (m after : Moment) (t k p : ℕ) (holds : List Hold)
    (lefts : List AnyLeft) (new : Hold) → IsGraph job.graph → t < length job.graph.tasks
    → k < length (registrations_at job t) → (registration_at job t k).phaser ≡ p
    → length holds ≡ length (registrations_at job t) → length lefts ≤ k
    → ((q : ℕ) → after.number q t ≡ m.number q t)
    → ((q : ℕ) → q ≢ p → after.history q ≡ m.history q)
    → HasHolds job spots m t holds lefts → IsHeldOn job spots after t p new
    → HasHolds job spots after t (set holds k new) lefts
holds_go job spots m after t k p holds lefts new is there few here long kept numbers elsewhere has on =
    record {
      on = λ i lt le. on_one i lt le (same_or_apart i k (cases_lt i k) (cases_lt k i));
      off = λ i left at.
          (let within = slice_get_within lefts i left at in
          let q = (registration_at job t i).phaser in
          left_same job spots m after t q left (numbers q)
          (elsewhere q (other i (omega arith) (λ e. omega arith))) (has.off i left at));
    }
  where
    other : (i : ℕ) → i < length (registrations_at job t) → i ≢ k
        → (registration_at job t i).phaser ≢ p
    other i lt apart same = apart (one_registration job t i k is there lt few (same ∙ sym here))

    on_one : (i : ℕ) → i < length (registrations_at job t) → length lefts ≤ i → (i ≡ k) ⊎ (i ≢ k)
        → IsHeldOn job spots after t (registration_at job t i).phaser
        (get_or (set holds k new) i Gone)
    on_one i lt le (inl same) =
        rw same
        (rw (get_or-set_same holds k new Gone (omega arith)) (rw here on))
    on_one i lt le (inr apart) =
        let q = (registration_at job t i).phaser in
        rw (get_or-set_other holds k i new Gone apart)
        (held_same job spots m after t q (get_or holds i Gone) (numbers q)
        (elsewhere q (other i lt apart)) (has.on i lt le))

-- ---- the child begins

pub first_holds_begin : (job : Job) (spots : ℕ → Spot) (m : Moment) (s : TaskState) (c : ℕ)
    → IsWhole job s → IsOwnTaskAt job spots m s
    → (child : IsChildOf job c s.number) → s.begun ≡ child.parent.at → s.over ≡ false
    → DealsNothing s
    → ((p : ℕ) → m.number p c ≡ None)
    → HasNewChild job m (with_child c m) s.number c []
    × IsOwnTaskAt job spots (with_child c m) s × HasFirstHolds job spots (with_child c m) c [] []
first_holds_begin job spots m s c whole at child boundary going undealt nowhere =
    let t = s.number in
    let after = with_child c m in
    let new : HasNewChild job m after t c [] =
    child_is_new job m t c child.parent whole.graph whole.there child.there at.part child.has
    child.by nowhere in
    let calls = calls_begin job m after t c whole.graph whole.there child new
    ((at.place undealt).begun ∙ boundary) (at.knows.offset c) nowhere at.own in (
      new,
      record {
        part = new.part;
        own = calls.0;
        knows = known_begins job m after t c new at.knows;
        place = λ none. new.place s.most (place_of_state s) (at.place none);
        deals = λ some. absurd (some undealt);
        start = λ joins. new.offset t ∙ at.start joins;
        holds = record {
          on = λ i lt le.
              held_same job spots m after t (registration_at job t i).phaser
              (get_or s.holds.items i Gone) refl refl (at.holds.on i lt le);
          off = λ i left found.
              left_same job spots m after t (registration_at job t i).phaser left refl refl
              (at.holds.off i left found);
        };
        filter = rw (new.same.taken 0) at.filter;
        lines = λ sink. at.lines sink ∙ sym (new.same.taken 0);
        given = λ i kid found.
            numbers_same job m after kid.task kid.numbers.items (λ q. refl) (at.given i kid found);
        at_end = λ over. absurd (let no : false ≡ true = sym going ∙ over in cc);
      },
      record {
        joining = new.child;
        own = calls.1;
        long = refl;
        on = λ i lt. absurd (omega arith);
      },
    )

-- ---- others' events

pub first_holds_wait : (job : Job) (spots : ℕ → Spot) (m : Moment) (s : TaskState) (c k p : ℕ)
    (numbers : List ℕ) (child_holds : List Hold) (old new : AnyMember) → IsWhole job s
    → IsOwnTaskAt job spots m s → HasFirstHolds job spots m c numbers child_holds
    → IsChildOf job c s.number → s.over ≡ false → DealsNothing s
    → k < length (registrations_at job s.number)
    → (registration_at job s.number k).phaser ≡ p → m.number p c ≡ None
    → IsOn job spots m s.number p old → HasSeenOthers old new
    → HasSeenBoth job m (with_history p (member_in new).seen m) s.number c p numbers
    (member_in new).seen
    × IsOwnTaskAt job spots (with_history p (member_in new).seen m)
    (record s { holds = with_item s.holds k (On new) })
    × HasFirstHolds job spots (with_history p (member_in new).seen m) c numbers child_holds
first_holds_wait job spots m s c k p numbers child_holds old new whole at first_holds child going undealt few here nowhere on goes =
    let t = s.number in
    let now = (member_in new).seen in
    let after = with_history p now m in
    let none : length s.lefts.items ≡ 0 = whole.staying going in
    let sees = sees_others job spots m t p old new on goes in
    let both : HasSeenBoth job m after t c p numbers now =
    both_see job m t c p (member_in old).number child.parent numbers now whole.graph whole.there
    child.there at.part first_holds.joining child.has child.by nowhere sees in
    let moved = both.seen.moved in
    let calls = calls_wait job m after t c whole.graph whole.there child p (member_in old).number
    numbers now sees nowhere both at.own first_holds.own in (
      both,
      record {
        part = moved.part;
        own = calls.0;
        knows = known_moved job m after t p now moved at.knows;
        place = λ none. both.place s.most (place_of_state s) (at.place none);
        deals = λ some. absurd (some undealt);
        start = λ joins. moved.offset t ∙ at.start joins;
        holds = holds_go job spots m after t k p s.holds.items s.lefts.items (On new) whole.graph
            whole.there few here whole.holds (omega arith) (λ q. moved.numbers q t)
            moved.elsewhere at.holds
            (on_after job spots m after t p now old new on goes.same moved refl);
        filter = rw (both.seen.same.taken 0) at.filter;
        lines = λ sink. at.lines sink ∙ sym (both.seen.same.taken 0);
        given = λ i kid found.
            numbers_same job m after kid.task kid.numbers.items (λ q. moved.numbers q kid.task)
            (at.given i kid found);
        at_end = λ over. absurd (let no : false ≡ true = sym going ∙ over in cc);
      },
      record {
        joining = both.child;
        own = calls.1;
        long = first_holds.long;
        on = λ i lt.
            (let q = (registration_at job c i).phaser in
            held_same job spots m after c q (get_or child_holds i Gone) (moved.numbers q c)
            (moved.elsewhere q (apart i lt)) (first_holds.on i lt));
      },
    )
  where
    -- the child has a number on the phasers of the first of its registrations
    apart : (i : ℕ) → i < length numbers → (registration_at job c i).phaser ≢ p
    apart i lt same =
        let place = first_holds.joining.place s.most in
        let le : length numbers ≤ length (registrations_at job c) = place.few in
        (let wrong : Some (get_or numbers i 0) ≡ None =
        sym (slice_get-get_or numbers i 0 lt) ∙ sym (place.numbered i (omega arith))
        ∙ ap (λ q. m.number q c) same ∙ nowhere in cc)

-- ---- the child goes on alone

-- the place of a task that has done nothing
start_made : (ns ms : List ℕ) (left begun : ℕ) (owed : turns.Owed) → ms ≡ ns → left ≡ 0 → begun ≡ 0
    → owed ≡ turns.nothing
    → turns.at_start ns ≡ record { numbers = ms; left = left; begun = begun; owed = owed }
start_made ns ms left begun owed a b c d =
    ap (λ x. turns.at_start x) (sym a)
    ∙ ap (λ x. left_at ms x 0 turns.nothing) (sym b)
    ∙ ap (λ x. left_at ms left x turns.nothing) (sym c)
    ∙ ap (λ x. left_at ms left begun x) (sym d)
  where
    left_at : List ℕ → ℕ → ℕ → turns.Owed → turns.TaskPlace
    left_at ns l b o = record { numbers = ns; left = l; begun = b; owed = o }

-- a child of a child has no number yet
unnumbered : (job : Job) (m : Moment) (parent c d : ℕ) → IsGraph job.graph
    → IsChildOf job c parent → IsChildOf job d c → KnowsOthers job m parent
    → HasNumbers job m d []
unnumbered job m parent c d is child grandchild knows = record {
  few = omega arith;
  numbered = λ i lt.
      none (registration_at job d i).phaser ∙ sym (slice_get_past [] i (omega arith));
  lines = λ p n at. absurd (let wrong : Some n ≡ None = sym at ∙ none p in cc);
}
  where
    none : (p : ℕ) → m.number p d ≡ None
    none p =
        let low : child.parent.task < c = (parent_of job c child.parent is child.there child.has).above in
        let above : child.parent.task ≡ parent = child.by in
        let by : grandchild.parent.task ≡ c = grandchild.by in
        knows.unregistered p d grandchild.parent grandchild.there grandchild.has (omega arith)

no_left : (i : ℕ) (left : AnyLeft) → slice_get [] i ≡ Some left → ⊥
no_left i left found =
    let wrong : None ≡ Some left = sym (slice_get_past [] i (omega arith)) ∙ found in cc

-- a child with all its numbers stands at its parent's moment, in the state of one that has done
-- nothing
pub child_goes_alone : (job : Job) (spots : ℕ → Spot) (m : Moment) (parent : ℕ) (child : TaskState)
    (numbers : List ℕ) (child_holds : List Hold) → IsGraph job.graph
    → IsChildOf job child.number parent → KnowsOthers job m parent
    → HasFirstHolds job spots m child.number numbers child_holds
    → length numbers ≡ length (registrations_at job child.number)
    → child.numbers.items ≡ numbers → child.holds.items ≡ child_holds → child.lefts.items ≡ []
    → child.begun ≡ 0 → OwesNothing child → child.over ≡ false → child.lines.items ≡ []
    → ((task_at job.graph child.number).joins_now ≡ true → m.offset child.number ≡ child.start)
    → HasFilter (task_at job.graph child.number) child.filter []
    → ((i : ℕ) (kid : Child) → slice_get child.children.items i ≡ Some kid
    → (kid.numbers.items ≡ []) × IsChildOf job kid.task child.number)
    → IsOwnTaskAt job spots m child
child_goes_alone job spots m parent child numbers child_holds is of_task knows first_holds all same_numbers same_holds no_lefts begun owes going no_lines start filter kids =
    let d = child.number in
    let place_is = start_made numbers child.numbers.items (length child.lefts.items) child.begun
    (owed_by child.owed child.made.items) same_numbers (ap length no_lefts) begun
    (owed_none child owes) in
    let H : List Hold → ℕ → Type 0 =
    λ l i. IsHeldOn job spots m d (registration_at job d i).phaser (get_or l i Gone) in
    let L : AnyLeft → ℕ → List AnyLeft → Type 0 = λ left i l. slice_get l i ≡ Some left in
    record {
      part = first_holds.joining.part;
      own = first_holds.own;
      knows = known_child job m parent child.number of_task.parent is of_task.there of_task.has
          of_task.by knows;
      place = λ none. rw place_is at (first_holds.joining.place child.most);
      deals = λ some. absurd (some owes.2);
      start = start;
      holds = record {
        on = λ i lt le.
            subst (λ l. H l i) (sym same_holds) (first_holds.on i (omega arith));
        off = λ i left found. absurd (no_left i left (subst (λ l. L left i l) no_lefts found));
      };
      filter = rw (first_holds.joining.nothing_taken 0) filter;
      lines = λ sink. no_lines ∙ sym (first_holds.joining.nothing_taken 0);
      given = λ i kid found.
          (let own = kids i kid found in
          rw own.0 (unnumbered job m parent child.number kid.task is of_task own.1 knows));
      at_end = λ over. absurd (let no : false ≡ true = sym going ∙ over in cc);
    }
