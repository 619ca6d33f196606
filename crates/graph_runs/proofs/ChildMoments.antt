-- A parent's moment, while it registers a child, is one of the child's as well.
use Rattle.std.proofs.Common.{◌≡◌, ◌≢◌, ℕ, ◌+◌, ◌<◌, false, true, eqb, List, [], ◌∷◌, ◌++◌, Option, Some, None, length, refl, sym, ap, subst, ◌∙◌, arith, ◌⊎◌, inl, inr}
use Rattle.std.proofs.lemmas.Bool.{eq-eqb, ne_eqb}
use Rattle.std.proofs.lemmas.List.{length-map, length-append}
use Rattle.std.proofs.lemmas.Option.{slice_get_past}
use Rattle.phase_base.specs.declared.mode.Mode.{Mode}
use Rattle.phase_base.specs.declared.mode.Mode.TheVariants.{Wait}
use Rattle.phase_history.specs.declared.event.Event.{Event}
use Rattle.phase_history.specs.declared.event.Event.TheVariants.{Registered, RegisteredNow}
use Rattle.phase_history.specs.Histories.{History, IsBeginning, done_of, has_dropped, greatest_used}
use Rattle.phase_history.specs.Legal.{IsLegal, IsAccepted}
use Rattle.phase_history.proofs.Refused.{registers_from}
use Rattle.phase_history.proofs.Beginnings.{IsBeginning-refl}
use Rattle.graph_base.specs.declared.line.Parent.{Parent}
use Rattle.graph_base.specs.Graphs.{task_at}
use Rattle.graph_base.specs.TaskLines.{IsGraph, has_children}
use Rattle.stream_lists.specs.Jobs.{Job, index_in}
use Rattle.stream_lists.specs.Spans.{signalled_by}
use Rattle.graph_base.proofs.Registered.{registrations-phasers}
use Rattle.stream_lists.proofs.Ordered.{place-at}
use Rattle.graph_runs.specs.Moments.{Moment, TaskRan, OnLine, OnPhaser, IsChild, input_at, limits_at}
use Rattle.graph_runs.proofs.OutputLists.{puts-few}
use Rattle.graph_runs.proofs.Whole.{parent_of}
use Rattle.graph_runs.specs.Moves.{SameTask, HasGrown, PartStays, Registers, RegistersNow}
use Rattle.graph_runs.specs.Turned.{with_at, after_register, after_register_now, IsNextChild}
use Rattle.graph_runs.proofs.ChildBegins.{child_begins}
use Rattle.graph_runs.proofs.Framed.{ListsRan, task_later}
use Rattle.graph_runs.proofs.JoinsNow.{sink_line, join_now_is, own_join, child_joins}
use Rattle.graph_runs.proofs.Opened.{nothing_ran}
use Rattle.graph_runs.proofs.OwnEvents.{eq_case}
use Rattle.graph_runs.proofs.Registering.{own_register}
use Rattle.graph_runs.proofs.Turned.{next_child_is}
use Rattle.graph_runs.specs.Beginnings.{opening}
use Rattle.graph_runs.specs.Nexts.{first_owed, registrations_at}
use Rattle.graph_runs.specs.TaskPlaces.{nothing, TaskPlace, StandsUpTo, registration_at, at_start}
use Rattle.graph_runs.proofs.AtOpening.{opening_has_begun}
use Rattle.graph_runs.proofs.Boundaries.{all_put, all_taken, made_many}
use Rattle.graph_runs.proofs.Following.{SameSteps, same_steps, stays_same, GivesNumber, gives, gives_now, keeps_registered, child_stands}
use Rattle.graph_runs.proofs.Lacking.{first_none, nothing_lacks}
use Rattle.graph_runs.proofs.TurnRegistering.{is_for, on_parent, plain_takes}
use Rattle.graph_runs.specs.Parts.{HasPart, HasSeen, SeesOthers}
use Rattle.graph_runs.specs.Places.{IsJoining, HasNewChild, HasSeenBoth, HasAddedChild, HasAddedNow}
use Rattle.graph_runs.proofs.FollowsPlace.{seen_follows}
use Rattle.graph_runs.proofs.PartsLemmas.{with_history, same_at, other_at, where_at, no_change, seen}
use Rattle.graph_runs.proofs.TellsNext.{owes_as}

-- a parent stands above its child
above : (job : Job) (t c : ℕ) (u : Parent) → IsGraph job.graph → c < length job.graph.tasks
    → (task_at job.graph c).parent ≡ Some u → u.task ≡ t → t < c
above job t c u is there parent of_t =
    let low : u.task < c = (parent_of job c u is there parent).above in omega arith

-- ---- a child without a number

-- with nothing done by task c
abbrev pub with_child : ℕ → Moment → Moment
with_child c m = record m {
  begun = with_at c 0 m.begun;
  taken = with_at c (λ k. []) m.taken;
  put = with_at c (λ j. []) m.put;
}

pub child_is_new : (job : Job) (m : Moment) (t c : ℕ) (u : Parent) → IsGraph job.graph
    → t < length job.graph.tasks → c < length job.graph.tasks → HasPart job m t
    → (task_at job.graph c).parent ≡ Some u → u.task ≡ t → ((p : ℕ) → m.number p c ≡ None)
    → HasNewChild job m (with_child c m) t c []
child_is_new job m t c u is there there_c part parent of_t none = record {
  part = record { ran = parent_ran; legal = part.legal };
  same = same;
  place = λ most at stands.
      stays_same job m (with_child c m) t at stands
      (record { number = λ q. refl; left = λ q n at. refl }) same;
  child = record {
    part = record { ran = child_ran; legal = λ p on. legal p on };
    place = λ most. record {
      few = omega arith;
      few_left = omega arith;
      numbered = λ i lt.
          none (registration_at job c i).phaser ∙ sym (slice_get_past [] i (omega arith));
      leaves = λ i lt. absurd (omega arith);
      begun = begun_none;
      owes = first_none job (with_child c m) c
          (nothing_lacks job (with_child c m) c is child_ran there_c begun_none put_none);
      lacks = nothing_lacks job (with_child c m) c is child_ran there_c begun_none put_none;
    };
    nothing_put = put_none;
    nothing_taken = taken_none;
  };
  history = λ q. refl;
  numbers_stay = λ q x. refl;
  offset = λ x. refl;
  others_begun = λ x apart. others x apart;
}
  where
    low : t < c
    low = above job t c u is there_c parent of_t

    others : (x : ℕ) → x ≢ c → (with_child c m).begun x ≡ m.begun x
    others x apart = let no : eqb x c ≡ false = ne_eqb x c (λ e. apart e) in rw no refl

    same : SameTask m (with_child c m) t
    same =
        let less : t < c = low in
        let no : eqb t c ≡ false = ne_eqb t c (λ e. omega arith) in
        record {
          offset = refl;
          begun = rw no refl;
          taken = λ k. rw no refl;
          put = λ j. rw no refl;
        }

    begun_none : (with_child c m).begun c ≡ 0
    begun_none = let here : eqb c c ≡ true = eq-eqb c c refl in rw here refl

    put_none : (j : ℕ) → (with_child c m).put c j ≡ []
    put_none j = let here : eqb c c ≡ true = eq-eqb c c refl in rw here refl

    taken_none : (k : ℕ) → (with_child c m).taken c k ≡ []
    taken_none k = let here : eqb c c ≡ true = eq-eqb c c refl in rw here refl

    parent_ran : TaskRan job (with_child c m) t
    parent_ran =
        task_later job m (with_child c m) t is there
        (record { was = part.legal; legal = part.legal; beginning = λ q on. IsBeginning-refl (m.history q) })
        (record {
          same = same;
          number = λ q. refl;
          part = λ q n at. no_change n (m.history q);
          children = λ d q w there_d e by none. none;
          parent = λ w e.
              (let below : w.task < t = (parent_of job t w is there e).above in
              let less : t < c = low in
              let begun : (with_child c m).begun w.task ≡ m.begun w.task =
              others w.task (λ same. omega arith) in
              (refl, omega arith, λ r. r));
        }) part.ran

    legal : (p : ℕ) → OnLine (task_at job.graph c) p → IsLegal (limits_at job p) (m.history p)
    legal p on =
        part.legal p (rw of_t at (on_parent job c p u is there_c parent on))

    is_child : IsChild (task_at job.graph c).parent
    is_child = rw parent tt

    -- no number is its own
    no_number : (p n : ℕ) → m.number p c ≡ Some n → ⊥
    no_number p n at = let wrong : Some n ≡ None = sym at ∙ none p in cc

    outputs : (p : ℕ) → (place : Option ℕ)
        → index_in (signalled_by (task_at job.graph c)) p ≡ place
        → OnPhaser job (with_child c m) c p (index_in (signalled_by (task_at job.graph c)) p)
    outputs p None e =
        rw e (rw (none p) tt)
    outputs p (Some j) e =
        rw e (rw (none p) is_child)

    lists : ListsRan job (with_child c m) c
    lists = nothing_ran job (with_child c m) c begun_none put_none taken_none

    child_ran : TaskRan job (with_child c m) c
    child_ran = record {
      puts = lists.puts;
      exchanged = lists.exchanged;
      takes = lists.takes;
      samples = lists.samples;
      cut = lists.cut;
      lines = λ p n at. absurd (no_number p n at);
      outputs = λ p pp. outputs p (index_in (signalled_by (task_at job.graph c)) p) refl;
      inputs = λ k lt.
          (let p = input_at (task_at job.graph c) k in
          rw (none p) (taken_none k, is_child));
      joined = λ p n at. absurd (no_number p n at);
      children = λ d p n w there_d e same at absent on. absurd (no_number p n at);
    }

-- ---- others' events where the child has no number yet

pub both_see : (job : Job) (m : Moment) (t c p n : ℕ) (u : Parent) (numbers : List ℕ)
    (now : History) → IsGraph job.graph → t < length job.graph.tasks
    → c < length job.graph.tasks → HasPart job m t → IsJoining job m c numbers
    → (task_at job.graph c).parent ≡ Some u → u.task ≡ t → m.number p c ≡ None
    → SeesOthers job m t p n now
    → HasSeenBoth job m (with_history p now m) t c p numbers now
both_see job m t c p n u numbers now is there there_c part joining parent of_t absent sees =
    record {
      seen = has_seen;
      place = λ most at stands.
          seen_follows job m (with_history p now m) t p at now stands has_seen;
      child = record {
        part = record { ran = ran; legal = grown.legal };
        place = λ most.
            stays_same job m (with_history p now m) c (at_start numbers) (joining.place most)
            (record { number = λ q. refl; left = λ q b at. left q b at }) same;
        nothing_put = joining.nothing_put;
        nothing_taken = joining.nothing_taken;
      };
    }
  where
    has_seen : HasSeen job m (with_history p now m) t p now
    has_seen = seen job m t p n now sees is there part

    same : SameTask m (with_history p now m) c
    same = record { offset = refl; begun = refl; taken = λ k. refl; put = λ j. refl }

    -- it has no number there
    elsewhere : (q b : ℕ) → m.number q c ≡ Some b → q ≡ p → ⊥
    elsewhere q b at e =
        let wrong : Some b ≡ None = sym at ∙ ap (λ x. m.number x c) e ∙ absent in cc

    left : (q b : ℕ) → m.number q c ≡ Some b
        → has_dropped ((with_history p now m).history q) b ≡ has_dropped (m.history q) b
    left q b at =
        where_at p now m q (λ h. has_dropped h b ≡ has_dropped (m.history q) b)
        (λ e. absurd (elsewhere q b at e)) refl

    grown : HasGrown job m (with_history p now m) c
    grown = record {
      was = joining.part.legal;
      legal = λ q on.
          where_at p now m q (λ h. IsLegal (limits_at job q) h)
          (λ e. (rw e sees.legal))
          (joining.part.legal q on);
      beginning = λ q on.
          where_at p now m q (λ h. IsBeginning (m.history q) h)
          (λ e. (rw e (record { later = sees.others.later; is = sees.others.is })))
          (IsBeginning-refl (m.history q));
    }

    ran : TaskRan job (with_history p now m) c
    ran =
        task_later job m (with_history p now m) c is there_c grown
        (record {
          same = same;
          number = λ q. refl;
          part = λ q b at.
              where_at p now m q (λ h. PartStays b (m.history q) h)
              (λ e. absurd (elsewhere q b at e)) (no_change b (m.history q));
          children = λ d q w there_d e by none. none;
          parent = λ w e. (refl, omega arith, λ r. r);
        }) joining.part.ran

-- ---- a registration

-- a task that joins now has one
pub has_registration : (job : Job) (c : ℕ) → IsGraph job.graph → c < length job.graph.tasks
    → (task_at job.graph c).joins_now ≡ true → 0 < length (registrations_at job c)
has_registration job c is there now =
    let line = is.tasks c there in
    let rs = registrations_at job c in
    let inputs = (task_at job.graph c).inputs in
    let outputs = (task_at job.graph c).outputs in
    let long : length rs ≡ length (inputs ++ outputs) =
    sym (length-map rs (λ r. r.phaser))
    ∙ ap length (registrations-phasers job.graph c (task_at job.graph c) line) in
    omega (arith, length-append inputs outputs, (sink_line job c 0 is there (line.now now).0).0)

module _ (job : Job) (m : Moment) (t c n a : ℕ) (u : Parent) (at : TaskPlace) (most : ℕ)
    (numbers : List ℕ) (before : History) (is : IsGraph job.graph)
    (there : t < length job.graph.tasks) (there_c : c < length job.graph.tasks)
    (part : HasPart job m t) (stands : StandsUpTo most job m t at) (owed_is : at.owed ≡ nothing)
    (begun_is : at.begun ≡ u.at) (parent : (task_at job.graph c).parent ≡ Some u)
    (of_t : u.task ≡ t) (joining : IsJoining job m c numbers)
    (room : length numbers < length (registrations_at job c))
    (sees : SeesOthers job m t (registration_at job c (length numbers)).phaser n before) where
  abbrev p : ℕ
  p = (registration_at job c (length numbers)).phaser

  abbrev mode : Mode
  mode = (registration_at job c (length numbers)).mode

  abbrev now : Moment
  now = with_history (registration_at job c (length numbers)).phaser before m

  absent : m.number p c ≡ None
  absent =
      (joining.place most).numbered (length numbers) room
      ∙ slice_get_past numbers (length numbers) (omega arith)

  both : HasSeenBoth job m now t c p numbers before
  both =
      both_see job m t c p n u numbers before is there there_c part joining parent of_t absent sees

  apart : t ≢ c
  apart = λ same. (let low : t < c = above job t c u is there_c parent of_t in omega arith)

  accepted_now : (event : Event) → IsAccepted (limits_at job p) before event
      → IsAccepted (limits_at job p) (now.history p) event
  accepted_now event accepted =
      rw (same_at p before m) accepted

  legal_now : IsLegal (limits_at job p) (now.history p)
  legal_now =
      rw (same_at p before m) sees.legal

  plain : has_children (task_at job.graph t).kind ≡ true
  plain =
      rw of_t at (parent_of job c u is there_c parent).kind

  idle : first_owed job m t ≡ None
  idle = owes_as job m t at nothing stands owed_is

  taken_all : (k : ℕ) → k < length (task_at job.graph t).inputs → length (m.taken t k) ≡ m.begun t
  taken_all k lt =
      all_taken job m t is part.ran there idle k lt ∙ plain_takes job t (m.begun t) k plain

  on_line : OnLine (task_at job.graph c) p
  on_line = (is_for job c (length numbers) is there_c room).on_line

  -- ---- what either registration leaves

  -- whose part it is, its histories grew by the event
  grown : (after : Moment) (event : Event)
      → IsLegal (limits_at job p) (event ∷ now.history p)
      → after.history p ≡ event ∷ now.history p
      → ((q : ℕ) → q ≢ p → after.history q ≡ now.history q)
      → (x : ℕ) → HasPart job now x → HasGrown job now after x
  grown after event both_legal here elsewhere x own = record {
    was = own.legal;
    legal = λ q on. legal q on (eq_case q p);
    beginning = λ q on. begins q (eq_case q p);
  }
    where
      legal : (q : ℕ) → OnLine (task_at job.graph x) q → (q ≡ p) ⊎ (q ≢ p)
          → IsLegal (limits_at job q) (after.history q)
      legal q on (inl e) =
          rw e (rw here both_legal)
      legal q on (inr other) =
          rw (elsewhere q other) (own.legal q on)

      begins : (q : ℕ) → (q ≡ p) ⊎ (q ≢ p) → IsBeginning (now.history q) (after.history q)
      begins q (inl e) =
          rw e (record { later = event ∷ []; is = here })
      begins q (inr other) = record { later = []; is = elsewhere q other }

  -- the parent's place stays
  parent_place : (after : Moment) → GivesNumber now after p c a → SameTask now after t
      → (most : ℕ) (place : TaskPlace) → StandsUpTo most job m t place
      → StandsUpTo most job after t place
  parent_place after given same most place own =
      stays_same job now after t place (both.place most place own)
      (keeps_registered now after p c a t given apart) same

  -- the child has one number more
  child_place : (after : Moment) → GivesNumber now after p c a → SameSteps now after c
      → greatest_used (now.history p) < a → (most : ℕ)
      → StandsUpTo most job after c (at_start (numbers ++ a ∷ []))
  child_place after given same new most =
      child_stands job now after p c a (at_start numbers) is there_c legal_now given same
      (both.child.place most) room refl new

  -- ---- at the parent's phases

  module _ (child_offset : m.offset c ≡ (opening job).offset c)
      (own_offset : m.offset t ≡ (opening job).offset t)
      (accepted : IsAccepted (limits_at job p) before (Registered n a mode)) where
    abbrev after : Moment
    after = after_register p n c a mode now

    next : IsNextChild job now t p n c a mode u
    next = record {
      child = there_c;
      parent = parent;
      by = of_t;
      on_line = on_line;
      numbered = sees.numbered;
      absent = absent;
      accepted = accepted_now (Registered n a mode) accepted;
      signals = (is_for job c (length numbers) is there_c room).signals;
      waits = (is_for job c (length numbers) is there_c room).waits;
      boundary = stands.begun ∙ begun_is;
      offset = child_offset ∙ (opening_has_begun job is).offset c u there_c parent
          ∙ ap (λ x. (opening job).offset x + u.at) of_t ∙ ap (λ x. x + u.at) (sym own_offset);
      nothing_put = λ j place. joining.nothing_put j;
      nothing_taken = λ k lt here. joining.nothing_taken k;
      nothing_begun = (joining.place most).begun;
      all_put = λ i place.
          (let found = place-at (signalled_by (task_at job.graph t)) p i place in
          ap length (all_put job m t part.ran there idle i found.0)
          ∙ made_many job m t i is part.ran there found.0
          ∙ puts-few (task_at job.graph t) (m.begun t) i (is.tasks t there).ends plain);
      all_taken = λ k lt here. taken_all k lt;
    }

    s : Registers job now after t p n c a mode u
    s = next_child_is job now t p n c a mode u next

    given : GivesNumber now after p c a
    given = gives job now after t p n c a mode u s

    grows : (x : ℕ) → HasPart job now x → HasGrown job now after x
    grows = grown after (Registered n a mode) (legal_now, s.accepted) s.here s.elsewhere

    part_after : HasPart job after t
    part_after = record {
      ran = own_register job now after t p n c a mode u is there (grows t both.seen.moved.part) s
          both.seen.moved.part.ran;
      legal = (grows t both.seen.moved.part).legal;
    }

    child_after : HasPart job after c
    child_after = record {
      ran = child_begins job now after t p n c a mode u is there legal_now
          (grows c both.child.part) s both.seen.moved.part.ran both.child.part.ran;
      legal = (grows c both.child.part).legal;
    }

    pub child_is_added : HasAddedChild job m after t c p a numbers (Registered n a mode ∷ before)
    child_is_added = record {
      part = part_after;
      same = record {
        offset = (s.same t).offset;
        begun = (s.same t).begun;
        taken = (s.same t).taken;
        put = (s.same t).put;
      };
      place = parent_place after given (s.same t);
      child = record {
        part = child_after;
        place = child_place after given (same_steps now after c (s.same c))
            (registers_from (now.history p) n a mode s.accepted).new_number;
        nothing_put = λ j. (s.same c).put j ∙ joining.nothing_put j;
        nothing_taken = λ k. (s.same c).taken k ∙ joining.nothing_taken k;
      };
      here = s.here ∙ ap (λ h. Registered n a mode ∷ h) (same_at p before m);
      elsewhere = λ q other. s.elsewhere q other ∙ other_at p before m q other;
      number = s.number;
      other_numbers = s.other_numbers;
      offset = λ x. (s.same x).offset;
      begun = λ x. (s.same x).begun;
    }

  -- ---- at the first phase that is not complete

  module _ (joins : (task_at job.graph c).joins_now ≡ true) (first : numbers ≡ [])
      (accepted : IsAccepted (limits_at job p) before (RegisteredNow n a)) where
    abbrev joined : Moment
    joined = after_register_now p n c a now

    s_now : RegistersNow job now joined t p n c a u
    s_now = join_now_is job now t p n c a u (record {
      child = there_c;
      now = joins;
      parent = parent;
      by = of_t;
      on_line = on_line;
      numbered = sees.numbered;
      absent = absent;
      accepted = accepted_now (RegisteredNow n a) accepted;
      boundary = stands.begun ∙ begun_is;
      nothing_begun = (joining.place most).begun;
      nothing_taken = joining.nothing_taken;
      all_taken = λ k lt here. taken_all k lt;
    })

    given_now : GivesNumber now joined p c a
    given_now = gives_now job now joined t p n c a u s_now

    grows_now : (x : ℕ) → HasPart job now x → HasGrown job now joined x
    grows_now =
        grown joined (RegisteredNow n a) (legal_now, s_now.accepted) s_now.here s_now.elsewhere

    same_now : SameTask m joined t
    same_now = record {
      offset = (s_now.same t apart).offset;
      begun = (s_now.same t apart).begun;
      taken = (s_now.same t apart).taken;
      put = (s_now.same t apart).put;
    }

    child_now : IsJoining job joined c (numbers ++ a ∷ [])
    child_now = record {
      part = record {
        ran = child_joins job now joined t p n c a u is there legal_now s_now
            both.seen.moved.part.ran both.child.part.ran;
        legal = (grows_now c both.child.part).legal;
      };
      place = child_place joined given_now
          (record { begun = refl; taken = λ k. refl; put = λ j. refl })
          (registers_from (now.history p) n a Wait s_now.accepted).new_number;
      nothing_put = joining.nothing_put;
      nothing_taken = joining.nothing_taken;
    }

    pub child_is_added_now : HasAddedNow job m joined t c p a (done_of before)
        (RegisteredNow n a ∷ before)
    child_is_added_now = record {
      part = record {
        ran = own_join job now joined t p n c a u is there (grows_now t both.seen.moved.part) s_now
            both.seen.moved.part.ran;
        legal = (grows_now t both.seen.moved.part).legal;
      };
      same = same_now;
      place = parent_place joined given_now (s_now.same t apart);
      child = subst (λ l. IsJoining job joined c (l ++ a ∷ [])) first child_now;
      here = s_now.here ∙ ap (λ h. RegisteredNow n a ∷ h) (same_at p before m);
      elsewhere = λ q other. s_now.elsewhere q other ∙ other_at p before m q other;
      number = s_now.number;
      other_numbers = s_now.other_numbers;
      start_is = s_now.offset ∙ ap done_of (same_at p before m);
      offset = λ x other. (s_now.same x other).offset;
      begun = λ x. refl;
    }
