-- Where a joiner stands that has taken a share of each of its inputs: it owes them in turn.
use Rattle.std.proofs.Common.{◌≡◌, ℕ, ◌+◌, ◌-◌, ◌*◌, ◌/◌, ◌%◌, ◌<◌, ◌≤◌, false, ℤ, pos, cond, List, [], ◌∷◌, ◌++◌, length, map, get_or, drop, refl, sym, ap, subst, ◌∙◌, arith, inr}
use Rattle.std.specs.Prelude.{Ok}
use Rattle.std.specs.List.{range_with_len}
use Rattle.std.proofs.lemmas.List.{get_or-append-add, get_or-drop, length-drop}
use Rattle.std.proofs.lemmas.List.FromFn.{get_or-map-range_with_len, length-map-range_with_len}
use Rattle.std.proofs.lemmas.Nat.{mod_below, div-add-mod', div-mul-add, mod-mul-add}
use Rattle.stream_filters.specs.Range.{ranged}
use Rattle.phase_accum.specs.declared.outcome.Outcome.{Outcome}
use Rattle.graph_base.specs.Graphs.{Task, task_at}
use Rattle.stream_lists.specs.Jobs.{Job}
use Rattle.stream_lists.specs.Lists.{entry, in_turn, number, turn_at}
use Rattle.stream_lists.specs.Ranges.{is_out_of_range}
use Rattle.stream_lists.specs.Spans.{puts_on, signalled_by}
use Rattle.graph_runs.specs.Moments.{Moment, TaskRan, input_at, made_now, taken_now}
use Rattle.graph_runs.specs.Moves.{IsStaying}
use Rattle.graph_runs.specs.Nexts.{exchanges, signals, waits_first}
use Rattle.graph_runs.specs.Places.{after_steps}
use Rattle.graph_runs.specs.TaskPlaces.{OwesUpTo, StandsUpTo, TaskPlace, lacking, nothing, values}
use Rattle.graph_runs.specs.declared.owed.Owed.TheVariants.{Nothing}
use Rattle.graph_runs.proofs.Boundaries.{all_put, made_many}
use Rattle.graph_runs.proofs.FirstWaits.{in_range_is}
use Rattle.graph_runs.proofs.Following.{Lacks, stays_at}
use Rattle.graph_runs.proofs.Lacking.{first_is, lacks_here, next_all}
use Rattle.graph_runs.proofs.Ranged.{taken_ranged}
use Rattle.graph_runs.proofs.Tasks.{now_at}
use Rattle.stream_lists.proofs.Growing.{map-same}
use Rattle.stream_tasks.specs.Tasks.{owed_by}
use Rattle.stream_tasks.proofs.JoinMoments.{GetsShares, MayGetShares, ends, shares_ran, staying_after, taken_before}
use Rattle.graph_runs.proofs.FollowsPlace.{keeps_staying}
use Rattle.stream_tasks.proofs.JoinSteps.{length-oks, oks}
use Rattle.stream_tasks.proofs.JoinTurns.{same_entries}

-- the numbers of the shares
abbrev pub lists_of : ℕ → (ℕ → List Outcome) → List (List ℤ)
lists_of inputs outcomes = map (λ k. map number (outcomes k)) (range_with_len 0 inputs)

-- ---- lists

map-map : {X Y Z : Type 0} (g : Y → Z) (f : X → Y) (xs : List X)
    → map g (map f xs) ≡ map (λ x. g (f x)) xs
map-map g f [] = refl
map-map g f (x ∷ xs) = ap (λ l. g (f x) ∷ l) (map-map g f xs)

-- who has made some values owes them
pub owed_some : (vs : List ℤ) → 1 ≤ length vs → owed_by Nothing vs ≡ values 0 (oks vs)
owed_some [] some = absurd (omega arith)
owed_some (v ∷ vs) some = refl

-- ---- turns

-- so many turns of all, and then step i
turn_of : (n c i : ℕ) → 0 < n → ((c * n + i) % n ≡ i % n) × ((c * n + i) / n ≡ c + i / n)
turn_of n c i some =
    let split : i / n * n + i % n ≡ i = div-add-mod' i n in
    let rest : i % n < n = mod_below i n some in
    let is : (c + i / n) * n + i % n ≡ c * n + i = grind (arith, split) in (
      ap (λ x. x % n) (sym is) ∙ mod-mul-add (c + i / n) n (i % n) rest,
      ap (λ x. x / n) (sym is) ∙ div-mul-add (c + i / n) n (i % n) rest,
    )

module _ (job : Job) (m after : Moment) (t each most : ℕ) (outcomes : ℕ → List Outcome)
    (at : TaskPlace) (may : MayGetShares job m t each)
    (gets : GetsShares job m after t each outcomes) (stands : StandsUpTo most job m t at)
    (owes : at.owed ≡ nothing) (some : 1 ≤ each)
    (room : length (task_at job.graph t).inputs * each ≤ most) where
  abbrev task : Task
  task = task_at job.graph t

  abbrev n : ℕ
  n = length (task_at job.graph t).inputs

  abbrev steps : ℕ
  steps = length (task_at job.graph t).inputs * each

  abbrev made : List ℤ
  made = in_turn (lists_of (length (task_at job.graph t).inputs) outcomes)
      (length (task_at job.graph t).inputs * each)

  two : (length (signalled_by (task_at job.graph t)) ≡ 1)
      × (2 ≤ length (task_at job.graph t).inputs)
  two = ends job m after t each outcomes may gets

  ran_after : TaskRan job after t
  ran_after = shares_ran job m after t each outcomes may gets

  -- so many turns of all inputs were before
  turns : m.begun t ≡ m.begun t / n * n
  turns =
      let split : m.begun t / n * n + m.begun t % n ≡ m.begun t = div-add-mod' (m.begun t) n in
      omega (arith, split, may.first)

  taken_turns : (k : ℕ) → k < n → length (m.taken t k) ≡ m.begun t / n
  taken_turns k lt =
      let c = m.begun t / n in
      taken_before job m after t each outcomes may gets k lt
      ∙ ap (λ b. (b + (n - 1 - k)) / n) turns ∙ div-mul-add c n (n - 1 - k) (omega (arith, lt))

  -- each value of the block is that of its turn
  at_turn : (i : ℕ) → i < steps
      → turn_at (taken_now after task t) (m.begun t + i) ≡ turn_at (lists_of n outcomes) i
  at_turn i lt =
      let c = m.begun t / n in
      let k = i % n in
      let below : k < n = mod_below i n (omega (arith, two.1)) in
      let all = taken_now after task t in
      let long : length all ≡ n = length-map-range_with_len (after.taken t) 0 n in
      let short : length (lists_of n outcomes) ≡ n =
      length-map-range_with_len (λ k. map number (outcomes k)) 0 n in
      let of = turn_of n c i (omega (arith, two.1)) in
      let turn : (m.begun t + i) % n ≡ k = ap (λ b. (b + i) % n) turns ∙ of.0 in
      let place : (m.begun t + i) / n ≡ c + i / n = ap (λ b. (b + i) / n) turns ∙ of.1 in
      let from : 0 + k ≡ k = omega arith in
      let list : get_or all k [] ≡ m.taken t k ++ map number (outcomes k) =
      now_at after task t k below ∙ gets.taken k below in
      let share : get_or (lists_of n outcomes) k [] ≡ map number (outcomes k) =
      get_or-map-range_with_len (λ k. map number (outcomes k)) 0 n k k [] below from in
      let entry_is : entry (m.taken t k ++ map number (outcomes k)) (c + i / n)
      ≡ entry (map number (outcomes k)) (i / n) =
      ap (λ x. entry (m.taken t k ++ map number (outcomes k)) (x + i / n))
      (sym (taken_turns k below))
      ∙ get_or-append-add (m.taken t k) (map number (outcomes k)) (i / n) (pos 0) in
      ap (λ x. entry (get_or all ((m.begun t + i) % x) []) ((m.begun t + i) / x)) long
      ∙ ap (λ x. entry (get_or all x []) ((m.begun t + i) / n)) turn
      ∙ ap (λ x. entry (get_or all k []) x) place
      ∙ ap (λ l. entry l (c + i / n)) list
      ∙ entry_is
      ∙ ap (λ l. entry l (i / n)) (sym share)
      ∙ ap (λ x. entry (get_or (lists_of n outcomes) (i % x) []) (i / x)) (sym short)

  -- ---- what is made

  made_before : length (made_now job m t 0) ≡ m.begun t
  made_before =
      let kind = may.kind in
      let plain : puts_on (task_at job.graph t) (m.begun t) 0 ≡ m.begun t = rw kind refl in
      made_many job m t 0 may.graph may.part.ran may.there (omega (arith, two.0)) ∙ plain

  made_after : length (made_now job after t 0) ≡ m.begun t + steps
  made_after =
      let kind = may.kind in
      let plain : puts_on (task_at job.graph t) (after.begun t) 0 ≡ after.begun t =
      rw kind refl in
      made_many job after t 0 may.graph ran_after may.there (omega (arith, two.0)) ∙ plain
      ∙ gets.begun

  made_long : length made ≡ steps
  made_long = length-map-range_with_len (turn_at (lists_of n outcomes)) 0 steps

  rest_is : drop (m.begun t) (made_now job after t 0) ≡ made
  rest_is =
      let kind = may.kind in
      let all = taken_now after task t in
      let b = m.begun t in
      let is : made_now job after t 0 ≡ in_turn all (after.begun t) = rw kind refl in
      let now : made_now job after t 0 ≡ in_turn all (b + steps) =
      is ∙ ap (in_turn all) gets.begun in
      let long : length (drop b (made_now job after t 0)) ≡ length made =
      length-drop b (made_now job after t 0) ∙ omega (arith, made_after, made_long) in
      same_entries (pos 0) (drop b (made_now job after t 0)) made long
      (λ i lt.
      (let few : i < steps = omega (arith, lt, long, made_long) in
      let whole : b + i < b + steps = omega (arith, few) in
      let from : 0 + (b + i) ≡ b + i = omega arith in
      let here : 0 + i ≡ i = omega arith in
      get_or-drop b (made_now job after t 0) i (pos 0)
      ∙ ap (λ l. get_or l (b + i) (pos 0)) now
      ∙ get_or-map-range_with_len (turn_at all) 0 (b + steps) (b + i) (b + i) (pos 0) whole from
      ∙ at_turn i few
      ∙ sym (get_or-map-range_with_len (turn_at (lists_of n outcomes)) 0 steps i i (pos 0) few
      here)))

  -- each value is in range
  in_range : (i : ℕ) → i < steps
      → ranged (turn_at (lists_of n outcomes) i) ≡ Ok (turn_at (lists_of n outcomes) i)
  in_range i lt =
      let all = taken_now after task t in
      let b = m.begun t in
      let k = (b + i) % n in
      let below : k < n = mod_below (b + i) n (omega (arith, two.1)) in
      let long : length all ≡ n = length-map-range_with_len (after.taken t) 0 n in
      let ranged_list = taken_ranged job after t k ran_after
      (gets.legal (input_at task k) (inr (k, below, refl))) below in
      let is : turn_at (lists_of n outcomes) i ≡ entry (after.taken t k) ((b + i) / n) =
      sym (at_turn i lt)
      ∙ ap (λ x. entry (get_or all ((b + i) % x) []) ((b + i) / x)) long
      ∙ ap (λ l. entry l ((b + i) / n)) (now_at after task t k below) in
      in_range_is (turn_at (lists_of n outcomes) i)
      (ap is_out_of_range is ∙ ranged_list.at ((b + i) / n))

  all_in_range : map ranged made ≡ oks made
  all_in_range =
      map-map ranged (turn_at (lists_of n outcomes)) (range_with_len 0 steps)
      ∙ map-same (λ i. ranged (turn_at (lists_of n outcomes) i))
      (λ i. Ok (turn_at (lists_of n outcomes) i)) 0 steps
      (λ i lt. in_range i (omega (arith, lt)))
      ∙ sym (map-map (λ v. Ok v) (turn_at (lists_of n outcomes)) (range_with_len 0 steps))

  -- ---- what is owed

  none_owed : m.put t 0 ≡ made_now job m t 0
  none_owed =
      all_put job m t may.part.ran may.there
      (subst (λ o. OwesUpTo most job m t o) owes stands.owes) 0 (omega (arith, two.0))

  put_before : length (after.put t 0) ≡ m.begun t
  put_before = ap length (gets.put 0 ∙ none_owed) ∙ made_before

  lacks_after : Lacks job after t (values 0 (oks made))
  lacks_after j lt =
      let same : j ≡ 0 = omega (arith, lt, two.0) in
      let here = lacks_here (task_at job.graph t).kind 0 (oks made) in
      let many = length-oks made in
      let all : length (made_now job after t 0) ≡ length (after.put t 0)
      + lacking (task_at job.graph t).kind (values 0 (oks made)) 0 =
      omega (arith, made_after, put_before, here, many, made_long) in
      rw same all

  owes_after : OwesUpTo most job after t (values 0 (oks made))
  owes_after =
      let kind = may.kind in
      let here = lacks_here (task_at job.graph t).kind 0 (oks made) in
      let many = length-oks made in
      let one : 1 ≤ steps = grind (arith, two.1, some) in
      let single : waits_first (task_at job.graph t).kind 0 (length (after.put t 0))
      (length (after.taken t 1)) ≡ false = rw kind refl in (
        first_is job after t 0 (values 0 (oks made)) lacks_after (omega (arith, two.0))
            (omega (arith, here, many, made_long, one)) (λ i lt. absurd (omega arith)),
        ap (λ b. cond b exchanges (signals 0)) single,
        ap (λ l. map ranged l)
            (next_all most job after t 0 (omega (arith, made_after, put_before, room))
            ∙ ap (λ b. drop b (made_now job after t 0)) put_before ∙ rest_is)
            ∙ all_in_range,
      )

  -- with the shares it owes them
  pub shares_stand : IsStaying m t → StandsUpTo most job after t
      (after_steps (length (task_at job.graph t).inputs * each)
      (owed_by Nothing
      (in_turn (lists_of (length (task_at job.graph t).inputs) outcomes)
      (length (task_at job.graph t).inputs * each))) at)
  shares_stand staying =
      let one : 1 ≤ steps = grind (arith, two.1, some) in
      subst (λ owed. StandsUpTo most job after t (after_steps steps owed at))
      (sym (owed_some made (omega (arith, made_long, one))))
      (stays_at job m after t (at.begun + steps) (values 0 (oks made)) at stands
      (keeps_staying m after t gets.numbers staying
      (staying_after job m after t each outcomes may gets))
      (gets.begun ∙ ap (λ b. b + steps) stands.begun) owes_after lacks_after)
