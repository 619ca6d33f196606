-- Where a joiner stands that has taken values and has not put them.
use Rattle.std.proofs.Common.{◌≡◌, ◌≢◌, ℕ, suc, ◌+◌, ◌/◌, ◌%◌, ◌<◌, ◌≤◌, ◌⊎◌, inl, inr, ℤ, pos, true, false, cond, List, [], ◌∷◌, ◌++◌, Option, Some, None, length, map, get_or, drop, refl, sym, ap, subst, ◌∙◌, arith}
use Rattle.std.specs.Prelude.{Ok, Result}
use Rattle.std.specs.List.{range_with_len}
use Rattle.std.proofs.lemmas.List.{drop-append-le, length-append, length-drop, length-map, map-append}
use Rattle.std.proofs.lemmas.List.FromFn.{get_or-map-range_with_len, length-range_with_len}
use mathlib.Core.List.{IsPrefix}
use Rattle.stream_filters.specs.Range.{ranged}
use Rattle.stream_filters.specs.declared.fault.TooBigValue.{TooBigValue}
use Rattle.phase_accum.specs.declared.outcome.Outcome.{Outcome}
use Rattle.phase_history.specs.Histories.{History}
use Rattle.graph_base.specs.TaskLines.{IsGraph, has_children}
use Rattle.graph_base.specs.Graphs.{Task, task_at}
use Rattle.graph_base.specs.declared.line.Kind.{Kind}
use Rattle.graph_base.specs.declared.line.Kind.TheVariants.{Source, Fir, Split, Decimate, Join, Peer, Sink}
use Rattle.graph_base.specs.declared.line.Parent.{Parent}
use Rattle.graph_base.specs.Registrations.{signalled_by}
use Rattle.stream_lists.specs.Jobs.{Job}
use Rattle.stream_lists.specs.Lists.{entry, in_turn, number, turn_at}
use Rattle.stream_lists.specs.Ranges.{is_out_of_range}
use Rattle.stream_lists.specs.Spans.{puts_on, takes_from, turns_below}
use Rattle.graph_runs.specs.Answers.{output_at, values_up_to}
use Rattle.graph_runs.specs.Moments.{AtMost, HasExchanged, Moment, first_input, input_at, made_now, taken_now}
use Rattle.graph_runs.specs.Nexts.{exchanges, is_cut, signals, waits_first}
use Rattle.graph_runs.specs.Parts.{AreNextValues, BeginsSteps, HasGot, HasPart, HasPut}
use Rattle.graph_runs.specs.Places.{IsMost, after_steps, owing}
use Rattle.graph_runs.specs.TaskPlaces.{OwesUpTo, StandsUpTo, TaskPlace, lacking, nothing, owed_after_signal, values}
use Rattle.graph_runs.specs.declared.owed.Owed.TheVariants.{Nothing}
use Rattle.graph_runs.proofs.Boundaries.{made_many}
use Rattle.graph_runs.proofs.Entries.{IsPrefix-refl}
use Rattle.graph_runs.proofs.FirstWaits.{in_range_is, turn_count, behind}
use Rattle.graph_runs.proofs.Following.{Lacks, stays_at}
use Rattle.graph_runs.proofs.FollowsPlace.{put_follows, keeps_staying, lacks_as}
use Rattle.graph_runs.proofs.Lacking.{first_is, first_none, lacks_here, next_all}
use Rattle.graph_runs.proofs.OwnEvents.{eq_case, made_still, made_more}
use Rattle.graph_runs.proofs.PlacesLemmas.{place_of_output}
use Rattle.graph_runs.proofs.Ranged.{taken_ranged}
use Rattle.graph_runs.proofs.Signalling.{begins_some, owed}
use Rattle.graph_runs.proofs.Tasks.{first_looks, now_at}
use Rattle.graph_runs.proofs.TellsNext.{next_values_are, owes_as, ranged_values, staying_at}
use Rattle.stream_tasks.specs.Tasks.{MakesMany, owed_by}

-- ---- a joiner

-- a joiner has one output, and two inputs at least
pub join_ends : (job : Job) (t : ℕ) → IsGraph job.graph → t < length job.graph.tasks
    → (task_at job.graph t).kind ≡ Join
    → (length (signalled_by (task_at job.graph t)) ≡ 1)
    × (2 ≤ length (task_at job.graph t).inputs)
join_ends job t is there kind =
    let ends = rw kind at (is.tasks t there).ends in
    let outs : signalled_by (task_at job.graph t) ≡ (task_at job.graph t).outputs = rw kind refl in
    (ap length outs ∙ ends.2, ends.0)

-- it has no child
pub join_has_none : (job : Job) (t c : ℕ) (u : Parent) → IsGraph job.graph
    → (task_at job.graph t).kind ≡ Join → c < length job.graph.tasks
    → (task_at job.graph c).parent ≡ Some u → u.task ≡ t → ⊥
join_has_none job t c u is kind there has same =
    let parent = rw has at (is.tasks c there).parent in
    let no : true ≡ false =
    sym parent.kind ∙ ap (λ x. has_children (task_at job.graph x).kind) same
    ∙ ap has_children kind in cc

-- numbers as values in range
abbrev pub oks : List ℤ → List (Result ℤ TooBigValue)
oks vs = map (λ v. Ok v) vs

pub length-oks : (vs : List ℤ) → length (oks vs) ≡ length vs
length-oks [] = refl
length-oks (v ∷ vs) = ap suc (length-oks vs)

oks-append : (vs : List ℤ) (x : ℤ) → oks (vs ++ x ∷ []) ≡ oks vs ++ Ok x ∷ []
oks-append [] x = refl
oks-append (v ∷ vs) x = ap (λ l. Ok v ∷ l) (oks-append vs x)

-- ---- signals

-- who makes many values has one output, and exchanges nothing
made_once : (job : Job) (t : ℕ) → IsGraph job.graph → t < length job.graph.tasks
    → MakesMany (task_at job.graph t).kind
    → (length (signalled_by (task_at job.graph t)) ≡ 1)
    × ((j put taken : ℕ) → HasExchanged (task_at job.graph t).kind j put taken)
    × ((j : ℕ) (vs : List ℤ) → owed_after_signal (task_at job.graph t) j vs ≡ nothing)
made_once job t is there many = by (task_at job.graph t).kind refl
  where
    Once : Type 0
    Once =
        (length (signalled_by (task_at job.graph t)) ≡ 1)
        × ((j put taken : ℕ) → HasExchanged (task_at job.graph t).kind j put taken)
        × ((j : ℕ) (vs : List ℤ) → owed_after_signal (task_at job.graph t) j vs ≡ nothing)

    by : (kind : Kind) → (task_at job.graph t).kind ≡ kind → Once
    by Fir e =
        let ends = rw e at (is.tasks t there).ends in
        let outs : signalled_by (task_at job.graph t) ≡ (task_at job.graph t).outputs = rw e refl in
        (ap length outs ∙ ends.1, λ j put taken. rw e tt, λ j vs. rw e refl)
    by Decimate e =
        let ends = rw e at (is.tasks t there).ends in
        let outs : signalled_by (task_at job.graph t) ≡ (task_at job.graph t).outputs = rw e refl in
        (ap length outs ∙ ends.1, λ j put taken. rw e tt, λ j vs. rw e refl)
    by Join e =
        let ends = rw e at (is.tasks t there).ends in
        let outs : signalled_by (task_at job.graph t) ≡ (task_at job.graph t).outputs = rw e refl in
        (ap length outs ∙ ends.2, λ j put taken. rw e tt, λ j vs. rw e refl)
    by Source e = absurd (rw e at many)
    by Split e = absurd (rw e at many)
    by Peer e = absurd (rw e at many)
    by Sink e = absurd (rw e at many)

made_next : (job : Job) (m : Moment) (t j most : ℕ) (vs : List ℤ) (at : TaskPlace)
    → IsGraph job.graph → t < length job.graph.tasks → HasPart job m t
    → MakesMany (task_at job.graph t).kind → StandsUpTo most job m t at → at.left ≡ 0
    → at.owed ≡ values j (oks vs) → AreNextValues job m t j (output_at job t j) vs
made_next job m t j most vs at is there part many stands none owed_is =
    let owes = owes_as job m t at (values j (oks vs)) stands owed_is in
    let o = owed job m t j owes.0 in
    let next : values_up_to most job m t j ≡ vs =
    ranged_values (values_up_to most job m t j) vs owes.2 in
    record {
      place = place_of_output job.graph t (task_at job.graph t) j (is.tasks t there) o.0;
      staying = staying_at job m t at is there part.ran stands none;
      entries = rw next at (begins_some most (m.put t j) (made_now job m t j) (part.ran.puts j o.0));
      exchanged = (made_once job t is there many).1 j (length (m.put t j) + length vs)
          (length (m.taken t 1));
    }

made_follows : (job : Job) (m after : Moment) (t j p most : ℕ) (vs : List ℤ) (at : TaskPlace)
    (now : History) → IsGraph job.graph → t < length job.graph.tasks → HasPart job m t
    → MakesMany (task_at job.graph t).kind → StandsUpTo most job m t at → at.left ≡ 0
    → at.owed ≡ values j (oks vs) → HasPut job m after t j p vs (m.begun t) now
    → StandsUpTo most job after t (owing (owed_after_signal (task_at job.graph t) j vs) at)
made_follows job m after t j p most vs at now is there part many stands none owed_is put =
    let task = task_at job.graph t in
    let staying = staying_at job m t at is there part.ran stands none in
    let owes = owes_as job m t at (values j (oks vs)) stands owed_is in
    let o = owed job m t j owes.0 in
    let once = made_once job t is there many in
    let one = once.0 in
    let then : owed_after_signal task j vs ≡ nothing = once.2 j vs in
    let lacks : Lacks job after t nothing =
    λ i lt.
    (let same : i ≡ j = omega (arith, o.0, one, lt) in
    let still = made_still job m after t i put.taken put.begun_is in
    let was = lacks_as job m t at (values j (oks vs)) stands owed_is j o.0 in
    let here = lacks_here task.kind j (oks vs) in
    let long = length-oks vs in
    let more : length (after.put t i) ≡ length (m.put t j) + length vs =
    ap (λ x. length (after.put t x)) same ∙ ap length put.put ∙ length-append (m.put t j) vs in
    let made : length (made_now job after t i) ≡ length (made_now job m t j) =
    ap length still ∙ ap (λ x. length (made_now job m t x)) same in
    omega (arith, made, was, here, long, more)) in
    subst (λ o. StandsUpTo most job after t (owing o at)) (sym then)
    (stays_at job m after t at.begun nothing at stands
    (keeps_staying m after t put.moved.numbers staying put.staying)
    (put.begun_is ∙ stands.begun) (first_none job after t lacks) lacks)

-- values that are owed are next, whichever the kind
pub values_next : (job : Job) (m : Moment) (t j most : ℕ) (vs : List ℤ) (at : TaskPlace)
    → IsGraph job.graph → t < length job.graph.tasks → HasPart job m t
    → ((task_at job.graph t).kind ≢ Decimate → (task_at job.graph t).kind ≢ Join
    → IsMost job t most) → StandsUpTo most job m t at → at.left ≡ 0 → at.owed ≡ values j (oks vs)
    → AreNextValues job m t j (output_at job t j) vs
values_next job m t j most vs at is there part able stands none owed_is =
    by (task_at job.graph t).kind refl
  where
    other : (task_at job.graph t).kind ≢ Decimate → (task_at job.graph t).kind ≢ Join
        → AreNextValues job m t j (output_at job t j) vs
    other no_keeper apart =
        next_values_are job m t j most vs at is there part (able no_keeper apart) stands none
        owed_is

    by : (kind : Kind) → (task_at job.graph t).kind ≡ kind
        → AreNextValues job m t j (output_at job t j) vs
    by Join e = made_next job m t j most vs at is there part (rw e tt) stands none owed_is
    by Source e =
        other (λ keeper. (let no : Source ≡ Decimate = sym e ∙ keeper in cc))
        (λ join. (let no : Source ≡ Join = sym e ∙ join in cc))
    by Fir e =
        other (λ keeper. (let no : Fir ≡ Decimate = sym e ∙ keeper in cc))
        (λ join. (let no : Fir ≡ Join = sym e ∙ join in cc))
    by Split e =
        other (λ keeper. (let no : Split ≡ Decimate = sym e ∙ keeper in cc))
        (λ join. (let no : Split ≡ Join = sym e ∙ join in cc))
    by Decimate e = made_next job m t j most vs at is there part (rw e tt) stands none owed_is
    by Peer e =
        other (λ keeper. (let no : Peer ≡ Decimate = sym e ∙ keeper in cc))
        (λ join. (let no : Peer ≡ Join = sym e ∙ join in cc))
    by Sink e =
        other (λ keeper. (let no : Sink ≡ Decimate = sym e ∙ keeper in cc))
        (λ join. (let no : Sink ≡ Join = sym e ∙ join in cc))

-- and so is where the task stands once they are put
pub values_follow : (job : Job) (m after : Moment) (t j p most : ℕ) (vs : List ℤ)
    (at : TaskPlace) (now : History) → IsGraph job.graph → t < length job.graph.tasks
    → HasPart job m t
    → ((task_at job.graph t).kind ≢ Decimate → (task_at job.graph t).kind ≢ Join
    → IsMost job t most) → StandsUpTo most job m t at → at.left ≡ 0 → at.owed ≡ values j (oks vs)
    → HasPut job m after t j p vs (m.begun t) now
    → StandsUpTo most job after t (owing (owed_after_signal (task_at job.graph t) j vs) at)
values_follow job m after t j p most vs at now is there part able stands none owed_is put =
    by (task_at job.graph t).kind refl
  where
    Then : Type 0
    Then =
        StandsUpTo most job after t (owing (owed_after_signal (task_at job.graph t) j vs) at)

    other : (task_at job.graph t).kind ≢ Decimate → (task_at job.graph t).kind ≢ Join → Then
    other no_keeper apart =
        put_follows job m after t j p most vs at now is there part (able no_keeper apart) stands
        none owed_is put

    by : (kind : Kind) → (task_at job.graph t).kind ≡ kind → Then
    by Join e =
        made_follows job m after t j p most vs at now is there part (rw e tt) stands none owed_is
        put
    by Source e =
        other (λ keeper. (let no : Source ≡ Decimate = sym e ∙ keeper in cc))
        (λ join. (let no : Source ≡ Join = sym e ∙ join in cc))
    by Fir e =
        other (λ keeper. (let no : Fir ≡ Decimate = sym e ∙ keeper in cc))
        (λ join. (let no : Fir ≡ Join = sym e ∙ join in cc))
    by Split e =
        other (λ keeper. (let no : Split ≡ Decimate = sym e ∙ keeper in cc))
        (λ join. (let no : Split ≡ Join = sym e ∙ join in cc))
    by Decimate e =
        made_follows job m after t j p most vs at now is there part (rw e tt) stands none owed_is
        put
    by Peer e =
        other (λ keeper. (let no : Peer ≡ Decimate = sym e ∙ keeper in cc))
        (λ join. (let no : Peer ≡ Join = sym e ∙ join in cc))
    by Sink e =
        other (λ keeper. (let no : Sink ≡ Decimate = sym e ∙ keeper in cc))
        (λ join. (let no : Sink ≡ Join = sym e ∙ join in cc))

-- ---- its waits

-- one step more, where `until` does not cut
cut_after : (until : Option ℕ) (begun : ℕ) → AtMost begun until → is_cut until begun ≡ false
    → AtMost (begun + 1) until
cut_after None begun high uncut = tt
cut_after (Some limit) begun high uncut =
    let most : begun ≤ limit = high in
    let apart = uncut in
    grind (arith)

-- a joiner may begin its next step, whatever it owes
pub join_begins : (job : Job) (m : Moment) (t most : ℕ) (at : TaskPlace) → IsGraph job.graph
    → t < length job.graph.tasks → HasPart job m t → (task_at job.graph t).kind ≡ Join
    → StandsUpTo most job m t at → at.left ≡ 0
    → is_cut (task_at job.graph t).until at.begun ≡ false
    → BeginsSteps job m t (first_input (task_at job.graph t) at.begun)
    (input_at (task_at job.graph t) (first_input (task_at job.graph t) at.begun)) 1
join_begins job m t most at is there part kind stands none uncut = record {
  few = (first_looks (task_at job.graph t) at.begun (is.tasks t there).ends
      (λ source. (let no : Join ≡ Source = sym kind ∙ source in cc))).0;
  place = refl;
  staying = staying_at job m t at is there part.ran stands none;
  first = ap (λ b. first_input (task_at job.graph t) b) (sym stands.begun);
  block = rw kind refl;
  may_begin = record {
    taken = λ k lt. join_taken job m t k is there kind part lt;
    cut = cut_after (task_at job.graph t).until (m.begun t) part.ran.cut
        (ap (λ b. is_cut (task_at job.graph t).until b) stands.begun ∙ uncut);
    samples = rw kind tt;
    children = λ p c n u there_c e same on absent line.
        absurd (join_has_none job t c u is kind there_c e same);
  };
}
  where
    -- it has taken all that its begun steps take
    join_taken : (job : Job) (m : Moment) (t k : ℕ) → IsGraph job.graph → t < length job.graph.tasks
        → (task_at job.graph t).kind ≡ Join → HasPart job m t
        → k < length (task_at job.graph t).inputs
        → length (m.taken t k) ≡ takes_from (task_at job.graph t) (m.begun t) k
    join_taken job m t k is there kind part lt =
        let plain : takes_from (task_at job.graph t) (m.begun t) k
        ≡ turns_below (length (task_at job.graph t).inputs) k (m.begun t) = rw kind refl in
        let took : length (m.taken t k) ≡ takes_from (task_at job.graph t) (m.begun t) k =
        rw kind at (part.ran.takes k lt) in
        took

-- ---- what it owes then

-- what lacks on the output of a list that is owed
lacks_list : (kind : Kind) (vs : List ℤ) → lacking kind (owed_by Nothing vs) 0 ≡ length vs
lacks_list kind [] = refl
lacks_list kind (v ∷ vs) =
    lacks_here kind 0 (oks (v ∷ vs)) ∙ length-oks (v ∷ vs)

-- the rest of what was made is the list that is owed
rest_is : (most : ℕ) (job : Job) (m : Moment) (t : ℕ) (vs : List ℤ)
    → OwesUpTo most job m t (owed_by Nothing vs)
    → length (made_now job m t 0) ≡ length (m.put t 0) + length vs → length vs ≤ most
    → (drop (length (m.put t 0)) (made_now job m t 0) ≡ vs)
    × (map ranged vs ≡ oks vs)
rest_is most job m t [] owes long few =
    let none : length (drop (length (m.put t 0)) (made_now job m t 0)) ≡ 0 =
    length-drop (length (m.put t 0)) (made_now job m t 0) ∙ omega (arith, long) in
    (empty (drop (length (m.put t 0)) (made_now job m t 0)) none, refl)
  where
    empty : (xs : List ℤ) → length xs ≡ 0 → xs ≡ []
    empty [] e = refl
    empty (x ∷ xs) e = absurd (omega arith)
rest_is most job m t (v ∷ vs) owes long few =
    let next : values_up_to most job m t 0 ≡ v ∷ vs =
    ranged_values (values_up_to most job m t 0) (v ∷ vs) owes.2 in
    let all = next_all most job m t 0 (omega (arith, long, few)) in
    (sym all ∙ next, ap (λ l. map ranged l) (sym next) ∙ owes.2)

-- a list with one more is owed as such
owed_more : (vs : List ℤ) (x : ℤ)
    → owed_by Nothing (vs ++ x ∷ []) ≡ values 0 (oks (vs ++ x ∷ []))
owed_more [] x = refl
owed_more (v ∷ vs) x = refl

-- a list with the same beginning and one more ends with that one
one_more : (xs ys : List ℤ) (x : ℤ) → IsPrefix xs ys → length ys ≡ length xs + 1
    → get_or ys (length xs) (pos 0) ≡ x → ys ≡ xs ++ x ∷ []
one_more xs ys x begins long last =
    let ends : length (xs ++ begins.0) ≡ length ys = ap length begins.1 in
    let many : length begins.0 ≡ 1 = omega (arith, ends, long, length-append xs begins.0) in
    let here : get_or (xs ++ begins.0) (length xs) (pos 0) ≡ x =
    ap (λ l. get_or l (length xs) (pos 0)) begins.1 ∙ last in
    sym begins.1 ∙ by begins.0 many here
  where
    by : (zs : List ℤ) → length zs ≡ 1 → get_or (xs ++ zs) (length xs) (pos 0) ≡ x
        → xs ++ zs ≡ xs ++ x ∷ []
    by [] many here = absurd (omega arith)
    by (z ∷ []) many here = ap (λ v. xs ++ v ∷ []) (sym (behind xs z (length xs) refl) ∙ here)
    by (z ∷ (w ∷ ws)) many here = absurd (omega arith)

module _ (job : Job) (m after : Moment) (t k p most : ℕ) (vs : List ℤ) (o : Outcome)
    (at : TaskPlace) (now : History) (is : IsGraph job.graph)
    (there : t < length job.graph.tasks) (part : HasPart job m t)
    (kind : (task_at job.graph t).kind ≡ Join) (stands : StandsUpTo most job m t at)
    (none : at.left ≡ 0) (owed_is : at.owed ≡ owed_by Nothing vs)
    (begins : BeginsSteps job m t k p 1) (room : length vs < most)
    (got : HasGot job m after t k p (o ∷ []) (m.begun t + 1) now) where
  abbrev task : Task
  task = task_at job.graph t

  ends : (length (signalled_by (task_at job.graph t)) ≡ 1)
      × (2 ≤ length (task_at job.graph t).inputs)
  ends = join_ends job t is there kind

  -- so much is made before and after
  made_before : length (made_now job m t 0) ≡ m.begun t
  made_before =
      let plain : puts_on (task_at job.graph t) (m.begun t) 0 ≡ m.begun t = rw kind refl in
      made_many job m t 0 is part.ran there (omega (arith, ends.0)) ∙ plain

  made_after : length (made_now job after t 0) ≡ m.begun t + 1
  made_after =
      let plain : puts_on (task_at job.graph t) (after.begun t) 0 ≡ after.begun t =
      rw kind refl in
      made_many job after t 0 is got.moved.part.ran there (omega (arith, ends.0)) ∙ plain
      ∙ got.begun_is

  lacks_before : length (made_now job m t 0) ≡ length (m.put t 0) + length vs
  lacks_before =
      lacks_as job m t at (owed_by Nothing vs) stands owed_is 0 (omega (arith, ends.0))
      ∙ ap (λ n. length (m.put t 0) + n) (lacks_list task.kind vs)

  -- the value of the step is behind what was made before
  grows : (i : ℕ) → i < length (task_at job.graph t).inputs
      → IsPrefix (m.taken t i) (after.taken t i)
  grows i lt = by (eq_case i k)
    where
      by : (i ≡ k) ⊎ (i ≢ k) → IsPrefix (m.taken t i) (after.taken t i)
      by (inl same) = rw same (map number (o ∷ []), sym got.taken)
      by (inr apart) = rw (got.other_takes i apart) (IsPrefix-refl (m.taken t i))

  begins_with : IsPrefix (made_now job m t 0) (made_now job after t 0)
  begins_with =
      made_more job m after t 0 (made_now job m t 0) (is.tasks t there) part.ran
      (omega (arith, ends.0)) (omega (arith, got.begun_is)) grows (rw kind tt)
      (IsPrefix-refl (made_now job m t 0))

  at_turn : get_or (made_now job after t 0) (length (made_now job m t 0)) (pos 0) ≡ number o
  at_turn =
      let b = m.begun t in
      let lists = taken_now after task t in
      let long : length lists ≡ length task.inputs =
      length-map (range_with_len 0 (length task.inputs)) (after.taken t)
      ∙ length-range_with_len 0 (length task.inputs) in
      let first : k ≡ b % length task.inputs = begins.first ∙ rw kind refl in
      let plain : takes_from task b k ≡ turns_below (length task.inputs) k b = rw kind refl in
      let count : length (m.taken t k) ≡ b / length task.inputs =
      begins.may_begin.taken k begins.few ∙ plain
      ∙ ap (λ i. turns_below (length task.inputs) i b) first
      ∙ turn_count (length task.inputs) b (omega (arith, ends.1)) in
      let made : made_now job after t 0 ≡ in_turn lists (after.begun t) = rw kind refl in
      let below : b < after.begun t = omega (arith, got.begun_is) in
      let from : 0 + b ≡ b = omega arith in
      let here : turn_at lists b ≡ number o =
      ap (λ n. entry (get_or lists (b % n) []) (b / n)) long
      ∙ ap (λ i. entry (get_or lists i []) (b / length task.inputs)) (sym first)
      ∙ ap (λ l. entry l (b / length task.inputs))
      (now_at after task t k begins.few ∙ got.taken)
      ∙ behind (m.taken t k) (number o) (b / length task.inputs) (sym count) in
      ap (λ l. get_or l (length (made_now job m t 0)) (pos 0)) made
      ∙ ap (λ i. get_or (in_turn lists (after.begun t)) i (pos 0)) made_before
      ∙ get_or-map-range_with_len (turn_at lists) 0 (after.begun t) b b (pos 0) below from
      ∙ here

  made_is : made_now job after t 0 ≡ made_now job m t 0 ++ number o ∷ []
  made_is =
      one_more (made_now job m t 0) (made_now job after t 0) (number o) begins_with
      (omega (arith, made_before, made_after)) at_turn

  -- it is in range
  in_range : ranged (number o) ≡ Ok (number o)
  in_range =
      let all = taken_ranged job after t k got.moved.part.ran
      (got.moved.part.legal (input_at task k) (inr (k, begins.few, refl))) begins.few in
      let last : get_or (after.taken t k) (length (m.taken t k)) (pos 0) ≡ number o =
      ap (λ l. get_or l (length (m.taken t k)) (pos 0)) got.taken
      ∙ behind (m.taken t k) (number o) (length (m.taken t k)) refl in
      in_range_is (number o) (ap is_out_of_range (sym last) ∙ all.at (length (m.taken t k)))

  rest : drop (length (after.put t 0)) (made_now job after t 0) ≡ vs ++ number o ∷ []
  rest =
      let was = rest_is most job m t vs
      (owes_as job m t at (owed_by Nothing vs) stands owed_is) lacks_before
      (omega (arith, room)) in
      ap (λ l. drop (length l) (made_now job after t 0)) (got.put 0)
      ∙ ap (λ l. drop (length (m.put t 0)) l) made_is
      ∙ drop-append-le (length (m.put t 0)) (made_now job m t 0) (number o ∷ [])
      (omega (arith, lacks_before))
      ∙ ap (λ l. l ++ number o ∷ []) was.0

  lacks_after : Lacks job after t (values 0 (oks (vs ++ number o ∷ [])))
  lacks_after i lt =
      let same : i ≡ 0 = omega (arith, lt, ends.0) in
      let here = lacks_here task.kind 0 (oks (vs ++ number o ∷ [])) in
      let many = length-oks (vs ++ number o ∷ []) in
      let long = length-append vs (number o ∷ []) in
      let put : length (after.put t 0) ≡ length (m.put t 0) = ap length (got.put 0) in
      let all : length (made_now job after t 0) ≡ length (after.put t 0)
      + lacking task.kind (values 0 (oks (vs ++ number o ∷ []))) 0 =
      omega (arith, made_after, made_before, lacks_before, here, many, long, put) in
      rw same all

  owes_after : OwesUpTo most job after t (values 0 (oks (vs ++ number o ∷ [])))
  owes_after =
      let here = lacks_here task.kind 0 (oks (vs ++ number o ∷ [])) in
      let many = length-oks (vs ++ number o ∷ []) in
      let long = length-append vs (number o ∷ []) in
      let put : length (after.put t 0) ≡ length (m.put t 0) = ap length (got.put 0) in
      let was = rest_is most job m t vs
      (owes_as job m t at (owed_by Nothing vs) stands owed_is) lacks_before
      (omega (arith, room)) in
      let single : waits_first task.kind 0 (length (after.put t 0)) (length (after.taken t 1))
      ≡ false = rw kind refl in (
        first_is job after t 0 (values 0 (oks (vs ++ number o ∷ []))) lacks_after
            (omega (arith, ends.0)) (omega (arith, here, many, long)) (λ i lt. absurd (omega arith)),
        ap (λ b. cond b exchanges (signals 0)) single,
        ap (λ l. map ranged l)
            (next_all most job after t 0
            (omega (arith, made_after, made_before, lacks_before, put, room)) ∙ rest)
            ∙ map-append ranged vs (number o ∷ [])
            ∙ ap (λ l. l ++ ranged (number o) ∷ []) was.1
            ∙ ap (λ r. oks vs ++ r ∷ []) in_range
            ∙ sym (oks-append vs (number o)),
      )

  -- with the value of its next step it owes one more
  pub join_takes : StandsUpTo most job after t
      (after_steps 1 (owed_by Nothing (vs ++ number o ∷ [])) at)
  join_takes =
      subst (λ owed. StandsUpTo most job after t (after_steps 1 owed at))
      (sym (owed_more vs (number o)))
      (stays_at job m after t (at.begun + 1) (values 0 (oks (vs ++ number o ∷ []))) at
      stands
      (keeps_staying m after t got.moved.numbers
      (staying_at job m t at is there part.ran stands none) got.staying)
      (got.begun_is ∙ ap (λ b. b + 1) stands.begun) owes_after lacks_after)
