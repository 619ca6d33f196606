-- One task more is gathered: one that never came, and one that came.
use Rattle.std.proofs.Common.{◌≡◌, ℕ, zero, suc, ◌+◌, ◌<◌, ◌≤◌, List, [], ◌∷◌, ◌++◌, Option, Some, None, length, map, get_or, slice_get, slice_set, refl, sym, ap, ◌∙◌, arith, ◌⊎◌, inl, inr}
use Rattle.std.proofs.lemmas.Option.{same_Some, slice_get-get_or}
use Rattle.std.proofs.lemmas.List.{length-append, length-map}
use Rattle.phase_history.specs.Histories.{History}
use Rattle.graph_base.specs.TaskLines.{IsGraph}
use Rattle.stream_lists.specs.Jobs.{Job}
use Rattle.graph_runs.specs.Moments.{Moment}
use Rattle.graph_runs.proofs.OnLines.{on_phaser}
use Rattle.stream_members.specs.Members.{Spot}
use Rattle.stream_members.specs.AnyMembers.{left_in}
use Rattle.stream_members.specs.declared.any_left.AnyLeft.{AnyLeft}
use Rattle.graph_runs.specs.Nexts.{registrations_at}
use Rattle.graph_runs.specs.TaskPlaces.{registration_at}
use Rattle.graph_runs.proofs.TurnRegistering.{is_for}
use Rattle.graph_runs.specs.TaskEnds.{TaskEnd, HasLeftAt}
use Rattle.graph_runs.specs.RunEnds.{Ends, HasCome}
use Rattle.stream_tasks.specs.declared.ending.task_left.TaskKnowledge.{TaskKnowledge}
use Rattle.stream_tasks.specs.declared.ending.task_left.TaskLeft.{TaskLeft}
use Rattle.stream_tasks.specs.Joinings.{IsPlaced, HasPlaceFor, HasGrownTo, HaveGrown, IsTakenIn}
use Rattle.stream_tasks.specs.Gatherings.{TellsEnd, AreGathered}
use Rattle.stream_tasks.specs.TaskLefts.{HasLeftAs, IsTaskLeft, task_end_of}
use Rattle.stream_tasks.proofs.TakingIn.{grown_to_refl}
use Rattle.stream_tasks.proofs.Gathered.{in_longer, below_length, gathered_absent, IsAllTaken, gathered_more}

-- ---- the first

pub none_gathered : (job : Job) (founders : List (Option AnyLeft))
    → AreGathered job founders founders [] []
none_gathered job founders = record {
  long = refl;
  joined_long = refl;
  tasks = λ t end has. absurd (nobody t end has);
  tells = λ t part end has also. absurd (nothing t part has);
  phasers = λ p founder is. (
    founder,
    is,
    record {
      grown = grown_to_refl founder;
      tasks_came = λ t i n seen on. absurd (nobody t on.end on.came);
      not_founder = λ t i n seen on. absurd (nobody t on.end on.came);
      distinct = λ t u i j n seen other one two. absurd (nobody t one.end one.came);
    },
  );
}
  where
    nobody : (t : ℕ) (end : TaskEnd) → HasCome [] t end → ⊥
    nobody zero end has = (cc)
    nobody (suc t) end has = (cc)

    nothing : (t : ℕ) (part : Option TaskKnowledge) → slice_get {X = Option TaskKnowledge} [] t ≡ Some part → ⊥
    nothing zero part has = (cc)
    nothing (suc t) part has = (cc)

-- ---- the next

-- what both lists have at a place
tells_more : (parts : List (Option TaskKnowledge)) (ends : Ends) (part : Option TaskKnowledge)
    (end : Option TaskEnd) → length parts ≡ length ends
    → ((t : ℕ) (a : Option TaskKnowledge) (b : Option TaskEnd) → slice_get parts t ≡ Some a
    → slice_get ends t ≡ Some b → TellsEnd a b) → TellsEnd part end
    → (t : ℕ) (a : Option TaskKnowledge) (b : Option TaskEnd) → slice_get (parts ++ part ∷ []) t ≡ Some a
    → slice_get (ends ++ end ∷ []) t ≡ Some b → TellsEnd a b
tells_more parts ends part end long tells last t a b one two =
    by (in_longer parts part a t one) (in_longer ends end b t two)
  where
    by : (slice_get parts t ≡ Some a) ⊎ ((t ≡ length parts) × (part ≡ a))
        → (slice_get ends t ≡ Some b) ⊎ ((t ≡ length ends) × (end ≡ b)) → TellsEnd a b
    by (inl f) (inl g) = tells t a b f g
    by (inr f) (inr g) =
        rw f.1 at (rw g.1 at last)
    by (inl f) (inr g) =
        let low : t < length parts = below_length parts t a f in
        let at : t ≡ length ends = g.0 in
        absurd (omega arith)
    by (inr f) (inl g) =
        let low : t < length ends = below_length ends t b g in
        let at : t ≡ length parts = f.0 in
        absurd (omega arith)

longer : (parts : List (Option TaskKnowledge)) (ends : Ends) (part : Option TaskKnowledge) (end : Option TaskEnd)
    → length parts ≡ length ends → length (parts ++ part ∷ []) ≡ length (ends ++ end ∷ [])
longer parts ends part end long =
    length-append parts (part ∷ []) ∙ ap (λ n. n + 1) long ∙ sym (length-append ends (end ∷ []))

pub add_absent : (job : Job) (founders joined : List (Option AnyLeft)) (parts : List (Option TaskKnowledge))
    (ends : Ends) → AreGathered job founders joined parts ends
    → AreGathered job founders joined (parts ++ None ∷ []) (ends ++ None ∷ [])
add_absent job founders joined parts ends so = record {
  long = longer parts ends None None so.long;
  joined_long = so.joined_long;
  tasks = λ t end has. known t end (in_longer ends None (Some end) t has);
  tells = tells_more parts ends None None so.long so.tells tt;
  phasers = λ p founder is.
      (let g = so.phasers p founder is in
      (g.0, g.1, gathered_absent job ends p founder g.0 g.2));
}
  where
    known : (t : ℕ) (end : TaskEnd)
        → (slice_get ends t ≡ Some (Some end)) ⊎ ((t ≡ length ends) × (None ≡ Some end))
        → (end.task ≡ t) × (t < length job.graph.tasks) × ((m : Moment) × HasLeftAt job m end)
    known t end (inl has) = so.tasks t end has
    known t end (inr never) = absurd (let no : None ≡ Some end = never.1 in cc)

-- what the members have seen, one by one
seen_at : (lefts : List AnyLeft) (i : ℕ) (h : History)
    → slice_get (map (λ l. (left_in l).seen) lefts) i ≡ Some h
    → (one : AnyLeft) × (slice_get lefts i ≡ Some one) × ((left_in one).seen ≡ h)
seen_at [] zero h e = absurd (cc)
seen_at [] (suc i) h e = absurd (cc)
seen_at (l ∷ lefts) zero h e = (l, refl, same_Some (left_in l).seen h e)
seen_at (l ∷ lefts) (suc i) h e = seen_at lefts i h e

module _ (job : Job) (spots : ℕ → Spot) (t : ℕ) (part : TaskKnowledge) (lefts : List AnyLeft)
    (there : t < length job.graph.tasks) (m : Moment) (left_at : HasLeftAt job m (task_end_of t part lefts))
    (members : (i n : ℕ) (one : AnyLeft) → slice_get part.numbers.items i ≡ Some n
    → slice_get lefts i ≡ Some one → HasLeftAs job spots (registration_at job t i).phaser (n ∷ []) one) where
  pub lefts_long : length lefts ≡ length (registrations_at job t)
  lefts_long = sym (length-map lefts (λ l. (left_in l).seen)) ∙ left_at.long

  -- there is a place for each of its members
  pub have_places : (founders joined : List (Option AnyLeft)) → IsGraph job.graph
      → ((p : ℕ) → p < length job.graph.phasers → (founder : AnyLeft) × IsPlaced founders p founder
      × HasLeftAs job spots p (0 ∷ []) founder)
      → ((p : ℕ) (founder : AnyLeft) → IsPlaced founders p founder
      → (all : AnyLeft) × IsPlaced joined p all × HasGrownTo founder all)
      → (i : ℕ) (one : AnyLeft) → slice_get lefts i ≡ Some one
      → HasPlaceFor joined (registration_at job t i).phaser one
  have_places founders joined is founded grown i one e =
      let low : i < length lefts = below_length lefts i one e in
      let long : length lefts ≡ length (registrations_at job t) = lefts_long in
      let whole : length part.numbers.items ≡ length (registrations_at job t) = left_at.whole in
      let number : slice_get part.numbers.items i ≡ Some (get_or part.numbers.items i 0) =
      slice_get-get_or part.numbers.items i 0 (omega arith) in
      let mine = members i (get_or part.numbers.items i 0) one number e in
      let p = (registration_at job t i).phaser in
      let pp : p < length job.graph.phasers =
      on_phaser job t p is there (is_for job t i is there (omega arith)).on_line in
      let f = founded p pp in
      let g = grown p f.0 f.1 in
      record {
        one = g.0;
        is_at = g.1;
        at = mine.at ∙ sym f.2.at ∙ sym g.2.at;
        op = mine.op ∙ sym f.2.op ∙ sym g.2.op;
      }

  all_taken : (old new : List (Option AnyLeft))
      → ((i : ℕ) (one : AnyLeft) → slice_get lefts i ≡ Some one
      → IsTakenIn old new (registration_at job t i).phaser one)
      → IsAllTaken job (task_end_of t part lefts) t old new
  all_taken old new taken = record {
    taken = λ i n seen few number saw.
        (let s = seen_at lefts i seen saw in
        (s.0, (members i n s.0 number s.1).numbers_are, s.2, taken i s.0 s.1));
  }

  pub add_came : (founders old new : List (Option AnyLeft)) (parts : List (Option TaskKnowledge))
      (ends : Ends) → length ends ≡ t → AreGathered job founders old parts ends
      → length new ≡ length old → HaveGrown old new
      → ((i : ℕ) (one : AnyLeft) → slice_get lefts i ≡ Some one
      → IsTakenIn old new (registration_at job t i).phaser one)
      → AreGathered job founders new (parts ++ Some part ∷ [])
      (ends ++ Some (task_end_of t part lefts) ∷ [])
  add_came founders old new parts ends here so long grown taken = record {
    long = longer parts ends (Some part) (Some (task_end_of t part lefts)) so.long;
    joined_long = long ∙ so.joined_long;
    tasks = λ u end has. known u end (in_longer ends (Some (task_end_of t part lefts)) (Some end) u has);
    tells = tells_more parts ends (Some part) (Some (task_end_of t part lefts)) so.long so.tells
        (refl, refl, refl, refl, λ c. refl);
    phasers = λ p founder is.
        (let g = so.phasers p founder is in
        let now = grown p g.0 g.1 in (
          now.0,
          now.1,
          gathered_more job ends (task_end_of t part lefts) p old new founder g.0 now.0 g.1 now.1 g.2
              now.2 (rw here (all_taken old new taken)),
        ));
  }
    where
      known : (u : ℕ) (end : TaskEnd)
          → (slice_get ends u ≡ Some (Some end))
          ⊎ ((u ≡ length ends) × (Some (task_end_of t part lefts) ≡ Some end))
          → (end.task ≡ u) × (u < length job.graph.tasks) × ((m : Moment) × HasLeftAt job m end)
      known u end (inl has) = so.tasks u end has
      known u end (inr new) =
          let same : task_end_of t part lefts ≡ end = same_Some (task_end_of t part lefts) end new.1 in
          let at : u ≡ t = new.0 ∙ here in (
            ap (λ (e : TaskEnd). e.task) (sym same) ∙ sym at,
            omega arith,
            (m, rw same at left_at),
          )

-- ---- as the code finds it

-- a task that has left, as task t
pub record IsLeftAs (job : Job) (spots : ℕ → Spot) (t : ℕ) (part : TaskKnowledge) (lefts : List AnyLeft)
    : Type 0 where
  pub there : t < length job.graph.tasks
  pub moment : Moment
  pub has_left : HasLeftAt job moment (task_end_of t part lefts)
  pub members : (i n : ℕ) (one : AnyLeft) → slice_get part.numbers.items i ≡ Some n
      → slice_get lefts i ≡ Some one
      → HasLeftAs job spots (registration_at job t i).phaser (n ∷ []) one

pub left_as : (job : Job) (spots : ℕ → Spot) (t : ℕ) (left : TaskLeft) → IsTaskLeft job spots left
    → left.task ≡ t → IsLeftAs job spots t left.part left.lefts.items
left_as job spots t left is same =
    rw (← same) (record {
      there = is.there;
      moment = is.moment;
      has_left = is.has_left;
      members = is.members;
    })

-- what is taken out of a place stood there
pub taken_out : {X : Type 0} (xs : List (Option X)) (t : ℕ) (now r : Option X) (x : X)
    → now ≡ get_or xs t now → r ≡ now → r ≡ Some x → t < length xs → IsPlaced xs t x
taken_out xs t now r x at same is lt =
    slice_get-get_or xs t now lt ∙ ap (λ o. Some o) (sym at ∙ (sym same ∙ is))

-- the places behind one that is set stay
pub behind_set : {X : Type 0} (xs ys : List X) (t : ℕ) (x : X)
    → ((u : ℕ) → t ≤ u → slice_get xs u ≡ slice_get ys u) → (u : ℕ) → t + 1 ≤ u
    → slice_get (slice_set xs t x) u ≡ slice_get ys u
behind_set xs ys t x same u le = other xs t u x (omega arith) ∙ same u (omega arith)
  where
    other : {X : Type 0} (xs : List X) (t u : ℕ) (x : X) → t + 1 ≤ u
        → slice_get (slice_set xs t x) u ≡ slice_get xs u
    other [] t u x le = refl
    other (y ∷ xs) zero zero x le = absurd (omega arith)
    other (y ∷ xs) zero (suc u) x le = refl
    other (y ∷ xs) (suc t) zero x le = absurd (omega arith)
    other (y ∷ xs) (suc t) (suc u) x le = other xs t u x (omega arith)

-- what stands at the same place of both
pub same_place : {X : Type 0} (xs ys : List X) (t : ℕ) (a b : X) → t < length xs → t < length ys
    → slice_get xs t ≡ slice_get ys t → get_or xs t a ≡ get_or ys t b
same_place xs ys t a b low high same =
    same_Some (get_or xs t a) (get_or ys t b)
    (sym (slice_get-get_or xs t a low) ∙ (same ∙ slice_get-get_or ys t b high))
