-- Where a decimator stands that has taken a block: it owes what it keeps of it.
use Rattle.std.proofs.Common.{◌≡◌, ℕ, zero, suc, ◌+◌, ◌*◌, ◌/◌, ◌%◌, ◌<◌, ◌≤◌, false, ℤ, pos, cond, List, [], ◌∷◌, ◌++◌, length, map, get_or, drop, refl, sym, ap, subst, ◌∙◌, arith, inr}
use Rattle.std.specs.Prelude.{Ok}
use Rattle.std.specs.List.{range_with_len}
use mathlib.Core.List.{IsPrefix}
use Rattle.std.proofs.Math.Seq.{drop-append_seam}
use Rattle.std.proofs.lemmas.List.{length-append, length-map}
use Rattle.stream_filters.specs.Range.{ranged}
use Rattle.phase_accum.specs.declared.outcome.Outcome.{Outcome}
use Rattle.phase_history.specs.Histories.{History}
use Rattle.graph_base.specs.TaskLines.{IsGraph}
use Rattle.graph_base.specs.Graphs.{task_at}
use Rattle.graph_base.specs.declared.line.Kind.TheVariants.{Decimate, Source}
use Rattle.stream_lists.specs.Jobs.{Job}
use Rattle.stream_lists.specs.Lists.{entry, every, number}
use Rattle.stream_lists.specs.Ranges.{is_out_of_range}
use Rattle.stream_lists.specs.Spans.{signalled_by, turns_below}
use Rattle.graph_runs.specs.Moments.{Moment, input_at, made_now, taken_now}
use Rattle.graph_runs.specs.Nexts.{exchanges, signals, waits_first}
use Rattle.graph_runs.specs.Parts.{HasGot, HasPart}
use Rattle.graph_runs.specs.Places.{after_steps}
use Rattle.graph_runs.specs.TaskPlaces.{OwesUpTo, StandsUpTo, TaskPlace, lacking, nothing, values}
use Rattle.graph_runs.specs.declared.owed.Owed.TheVariants.{Nothing}
use Rattle.graph_runs.proofs.Boundaries.{all_put}
use Rattle.graph_runs.proofs.Entries.{prefix_whole}
use Rattle.graph_runs.proofs.FirstWaits.{in_range_is}
use Rattle.graph_runs.proofs.Following.{Lacks, stays_at}
use Rattle.graph_runs.proofs.FollowsPlace.{keeps_staying}
use Rattle.graph_runs.proofs.Lacking.{first_is, first_none, lacks_here, next_all}
use Rattle.graph_runs.proofs.Ranged.{AreRanged, drop_ranged, taken_ranged}
use Rattle.graph_runs.proofs.Tasks.{now_at}
use Rattle.graph_runs.proofs.TellsNext.{owes_as, staying_at}
use Rattle.stream_tasks.specs.Tasks.{owed_by}
use Rattle.stream_tasks.proofs.JoinSteps.{length-oks, oks}
use Rattle.stream_tasks.proofs.OneInputs.{TakesOne, taken_by}
use Rattle.stream_tasks.proofs.Shares.{length-every, share_next, turns_few, turns_first, turns_then}

-- ---- a decimator

-- a decimator has one output
pub decimate_output : (job : Job) (t : ℕ) → IsGraph job.graph → t < length job.graph.tasks
    → (task_at job.graph t).kind ≡ Decimate → length (signalled_by (task_at job.graph t)) ≡ 1
decimate_output job t is there kind =
    let ends = rw kind at (is.tasks t there).ends in
    let outs : signalled_by (task_at job.graph t) ≡ (task_at job.graph t).outputs = rw kind refl in
    ap length outs ∙ ends.1

-- it has one input, of which a step takes a value
pub decimate_takes : (job : Job) (t : ℕ) → IsGraph job.graph → t < length job.graph.tasks
    → (task_at job.graph t).kind ≡ Decimate → TakesOne job t
decimate_takes job t is there kind = record {
  input = (let ends = rw kind at (is.tasks t there).ends in ends.0);
  first = λ begun. rw kind refl;
  block = rw kind refl;
  source = λ source. (let no : Decimate ≡ Source = sym kind ∙ source in cc);
  exchanged = λ j put taken. rw kind tt;
  samples = λ begun samples. rw kind tt;
  takes = λ begun. rw kind refl;
  has_taken = λ begun taken has. rw kind at has;
  taken_is = λ begun taken is. rw kind is;
}

-- what it makes, over what it has taken
decimate_made : (job : Job) (m : Moment) (t : ℕ) → TakesOne job t
    → (task_at job.graph t).kind ≡ Decimate
    → made_now job m t 0 ≡ every (task_at job.graph t).every 0 (m.taken t 0)
decimate_made job m t takes kind =
    let task = task_at job.graph t in
    let made : made_now job m t 0 ≡ every task.every 0 (get_or (taken_now m task t) 0 []) =
    rw kind refl in
    made ∙ ap (λ l. every task.every 0 l) (now_at m task t 0 (omega (arith, takes.input)))

-- ---- numbers in range

-- each of so many entries of a list in range is in range
every_ranged : (n i : ℕ) (xs : List ℤ) → AreRanged xs → AreRanged (every n i xs)
every_ranged n i xs are =
    record { at = λ j. at (range_with_len 0 (turns_below n i (length xs))) j }
  where
    at : (ks : List ℕ) (j : ℕ)
        → is_out_of_range (get_or (map (λ k. entry xs (i + k * n)) ks) j (pos 0)) ≡ false
    at [] j = refl
    at (k ∷ ks) zero = are.at (i + k * n)
    at (k ∷ ks) (suc j) = at ks j

-- numbers in range are owed as they are
ranged_oks : (vs : List ℤ) → AreRanged vs → map ranged vs ≡ oks vs
ranged_oks [] are = refl
ranged_oks (v ∷ vs) are =
    ap (λ r. r ∷ map ranged vs) (in_range_is v (are.at 0))
    ∙ ap (λ l. Ok v ∷ l) (ranged_oks vs (record { at = λ i. are.at (suc i) }))

-- ---- the block

module _ (job : Job) (m after : Moment) (t p most first : ℕ) (os : List Outcome)
    (at : TaskPlace) (now : History) (is : IsGraph job.graph)
    (there : t < length job.graph.tasks) (part : HasPart job m t)
    (kind : (task_at job.graph t).kind ≡ Decimate) (stands : StandsUpTo most job m t at)
    (none : at.left ≡ 0) (owed_is : at.owed ≡ nothing) (room : length os ≤ most)
    (below : first < (task_at job.graph t).every)
    (next : (at.begun + first) % (task_at job.graph t).every ≡ 0)
    (got : HasGot job m after t 0 p os (m.begun t + length os) now) where
  abbrev n : ℕ
  n = (task_at job.graph t).every

  abbrev xs : List ℤ
  xs = map number os

  abbrev kept : List ℤ
  kept = every (task_at job.graph t).every first (map number os)

  takes : TakesOne job t
  takes = decimate_takes job t is there kind

  one : length (signalled_by (task_at job.graph t)) ≡ 1
  one = decimate_output job t is there kind

  many : length xs ≡ length os
  many = length-map os number

  taken_before : length (m.taken t 0) ≡ at.begun
  taken_before = taken_by job m t takes part ∙ stands.begun

  -- it has put all that it made
  all_before : m.put t 0 ≡ every n 0 (m.taken t 0)
  all_before =
      all_put job m t part.ran there (owes_as job m t at nothing stands owed_is) 0
      (omega (arith, one))
      ∙ decimate_made job m t takes kind

  put_before : length (m.put t 0) ≡ (at.begun + first) / n
  put_before =
      ap length all_before ∙ length-every n 0 (m.taken t 0)
      ∙ ap (λ b. turns_below n 0 b) taken_before
      ∙ ap (λ k. turns_below n k at.begun) (sym next)
      ∙ turns_first n at.begun first below

  taken_after : drop at.begun (after.taken t 0) ≡ xs
  taken_after =
      ap (λ l. drop at.begun l) got.taken
      ∙ ap (λ b. drop b (m.taken t 0 ++ xs)) (sym taken_before)
      ∙ drop-append_seam (m.taken t 0) xs

  taken_long : length (after.taken t 0) ≡ at.begun + length xs
  taken_long =
      ap length got.taken ∙ length-append (m.taken t 0) xs
      ∙ ap (λ b. b + length xs) taken_before

  made_all : made_now job after t 0 ≡ every n ((at.begun + first) % n) (after.taken t 0)
  made_all =
      decimate_made job after t takes kind
      ∙ ap (λ k. every n k (after.taken t 0)) (sym next)

  -- what it makes now is what it has put and what it keeps
  made_after : after.put t 0 ++ kept ≡ made_now job after t 0
  made_after =
      let few : 0 < length (signalled_by (task_at job.graph t)) = omega (arith, one) in
      let begins : IsPrefix (m.put t 0) (made_now job after t 0) =
      subst (λ l. IsPrefix l (made_now job after t 0)) (got.put 0)
      (got.moved.part.ran.puts 0 few) in
      let more : IsPrefix (m.put t 0 ++ kept) (every n ((at.begun + first) % n) (after.taken t 0)) =
      share_next n at.begun first (after.taken t 0) xs (m.put t 0) below taken_after taken_long
      (subst (λ l. IsPrefix (m.put t 0) l) made_all begins) put_before in
      let long : length (every n ((at.begun + first) % n) (after.taken t 0))
      ≡ (at.begun + first) / n + turns_below n first (length xs) =
      length-every n ((at.begun + first) % n) (after.taken t 0)
      ∙ ap (λ b. turns_below n ((at.begun + first) % n) b) taken_long
      ∙ turns_then n at.begun (length xs) first below in
      let short : length (m.put t 0 ++ kept)
      ≡ (at.begun + first) / n + turns_below n first (length xs) =
      length-append (m.put t 0) kept
      ∙ ap (λ k. length (m.put t 0) + k) (length-every n first xs)
      ∙ ap (λ k. k + turns_below n first (length xs)) put_before in
      ap (λ l. l ++ kept) (got.put 0)
      ∙ prefix_whole (m.put t 0 ++ kept) (every n ((at.begun + first) % n) (after.taken t 0))
      more (omega (arith, long, short))
      ∙ sym made_all

  -- it keeps no more than it has taken, and all of it is in range
  kept_few : length kept ≤ most
  kept_few = omega (arith, length-every n first xs, turns_few n (length xs) first below, many, room)

  kept_ranged : map ranged kept ≡ oks kept
  kept_ranged =
      let few : 0 < length (task_at job.graph t).inputs = omega (arith, takes.input) in
      let all : AreRanged (after.taken t 0) =
      taken_ranged job after t 0 got.moved.part.ran
      (got.moved.part.legal (input_at (task_at job.graph t) 0) (inr (0, few, refl))) few in
      ranged_oks kept
      (every_ranged n first xs
      (subst AreRanged taken_after (drop_ranged at.begun (after.taken t 0) all)))

  -- it stands where it owes these, where they are what it has made and not put
  owing : (vs : List ℤ) → after.put t 0 ++ vs ≡ made_now job after t 0 → length vs ≤ most
      → map ranged vs ≡ oks vs
      → StandsUpTo most job after t (after_steps (length os) (owed_by Nothing vs) at)
  owing [] is_made few in_range =
      let lacks : Lacks job after t nothing =
      λ j lt.
      (let same : j ≡ 0 = omega (arith, lt, one) in
      let all : length (made_now job after t 0) ≡ length (after.put t 0) + 0 =
      omega (arith, ap length is_made, length-append (after.put t 0) []) in
      rw same all) in
      stays_at job m after t (at.begun + length os) nothing at stands
      (keeps_staying m after t got.moved.numbers
      (staying_at job m t at is there part.ran stands none) got.staying)
      (got.begun_is ∙ ap (λ b. b + length os) stands.begun) (first_none job after t lacks) lacks
  owing (v ∷ vs) is_made few in_range =
      let all = v ∷ vs in
      let here = lacks_here (task_at job.graph t).kind 0 (oks all) in
      let long : length (made_now job after t 0) ≡ length (after.put t 0) + length all =
      sym (ap length is_made) ∙ length-append (after.put t 0) all in
      let lacks : Lacks job after t (values 0 (oks all)) =
      λ j lt.
      (let same : j ≡ 0 = omega (arith, lt, one) in
      let lack : length (made_now job after t 0)
      ≡ length (after.put t 0) + lacking (task_at job.graph t).kind (values 0 (oks all)) 0 =
      omega (arith, long, here, length-oks all) in
      rw same lack) in
      let single : waits_first (task_at job.graph t).kind 0 (length (after.put t 0))
      (length (after.taken t 1)) ≡ false = rw kind refl in
      let owes : OwesUpTo most job after t (values 0 (oks all)) = (
        first_is job after t 0 (values 0 (oks all)) lacks (omega (arith, one))
            (omega (arith, here, length-oks all)) (λ i lt. absurd (omega arith)),
        ap (λ b. cond b exchanges (signals 0)) single,
        ap (λ l. map ranged l)
            (next_all most job after t 0 (omega (arith, long, few))
            ∙ ap (λ l. drop (length (after.put t 0)) l) (sym is_made)
            ∙ drop-append_seam (after.put t 0) all)
            ∙ in_range,
      ) in
      stays_at job m after t (at.begun + length os) (values 0 (oks all)) at stands
      (keeps_staying m after t got.moved.numbers
      (staying_at job m t at is there part.ran stands none) got.staying)
      (got.begun_is ∙ ap (λ b. b + length os) stands.begun) owes lacks

  -- with the block it owes what it keeps of it
  pub kept_stands : StandsUpTo most job after t
      (after_steps (length os)
      (owed_by Nothing (every (task_at job.graph t).every first (map number os))) at)
  kept_stands = owing kept made_after kept_few kept_ranged
