-- How far the lists of a graph can reach: the list of phaser number p has at most 2 ^ (60 + p)
-- phases. A joiner of m inputs is m times as long as the shortest of them, of which one stands m
-- phasers above its output or further; sources that follow each other add 2 ^ 53 phases each.
use Rattle.std.proofs.Common.{◌≡◌, ℕ, zero, suc, ◌+◌, ◌-◌, ◌*◌, ◌%◌, ◌<◌, ◌≤◌, Bool, true, false, ◌&&◌, List, [], ◌∷◌, length, map, get_or, Some, None, refl, sym, ap, subst, ◌∙◌, arith, ◌⊎◌, inl, inr}
use Rattle.std.specs.Prelude.{Option, min, max, nat_le, if◌then◌else◌}
use Rattle.std.specs.List.{All, range_with_len, fold}
use Rattle.std.proofs.lemmas.Bool.{cases_lt, and_parts}
use Rattle.std.proofs.lemmas.Bool.Decides.{nat_tests}
use Rattle.std.proofs.lemmas.List.{length-map, get_or-map, get_or_default}
use Rattle.std.proofs.lemmas.Nat.{div-add-mod', mul-le}
use Rattle.std.proofs.Math.Nat.{add-mul, div-zero}
use native.Mathlib.Nat.{zero-max}
use Rattle.graph_base.specs.Graphs.{Graph, Task, task_at, source_number}
use Rattle.graph_base.specs.TaskLines.{IsGraph, IsTaskLine, IsParent, HasEnds, has_children}
use Rattle.phase_base.specs.Lists.{is_distinct}
use Rattle.graph_base.specs.declared.line.Kind.{Kind}
use Rattle.graph_base.specs.declared.line.Kind.TheVariants.{Source, Fir, Split, Decimate, Join, Peer, Sink}
use Rattle.graph_base.specs.declared.line.Parent.{Parent}
use Rattle.stream_lists.specs.Jobs.{Job, counted, samples_at, start_at}
use Rattle.stream_lists.specs.Spans.{nowhere, turns_below, puts_on, run_out, first_run_out, enough_for, offset_of, values_from, span_at, span_of, spans_up_to, spans_over, end_on, end_of, length_on, lengths_up_to}
use Rattle.stream_lists.specs.declared.span.Span.{Span}
use Rattle.stream_lists.specs.declared.span.TheConstants.{LENGTH_MAX}
use Rattle.stream_lists.specs.JobFields.{IsShort, IsStage}
use Rattle.stream_lists.proofs.AsMany.{length-counted}
use Rattle.stream_lists.proofs.Distances.{far_one, distinct_front}
use Rattle.stream_lists.proofs.Growing.{grown-at, length-grown}
use Rattle.stream_lists.proofs.SpansAbove.{parent-is}
use Rattle.stream_lists.proofs.Basics.{cut_below}

-- a number of samples is no greater than each may be
count-few : (counts : List ℕ) (k most : ℕ) → All (λ n. n ≤ most) counts → get_or counts k 0 ≤ most
count-few [] k most all = omega arith
count-few (n ∷ ns) zero most all = all 0 n (omega arith)
count-few (n ∷ ns) (suc k) most all = count-few ns k most (λ i d lt. all (suc i) d (omega arith))

-- ---- numbers that double

-- 2 ^ (60 + n)
abbrev pub bound : ℕ → ℕ
bound zero = 1152921504606846976
bound (suc n) = bound n + bound n

-- the bound of the last of n lists
abbrev top : ℕ → ℕ
top zero = 0
top (suc n) = bound n

bound-least : (n : ℕ) → 1152921504606846976 ≤ bound n
bound-least zero = omega arith
bound-least (suc n) = let rest = bound-least n in omega arith

bound-more : (n d : ℕ) → bound n ≤ bound (n + d)
bound-more n zero =
    let same : n + 0 ≡ n = omega arith in
    let here : bound (n + 0) ≡ bound n = ap bound same in omega arith
bound-more n (suc d) =
    let same : n + suc d ≡ suc (n + d) = omega arith in
    omega (arith, ap bound same, bound-more n d)

pub bound-mono : (a b : ℕ) → a ≤ b → bound a ≤ bound b
bound-mono a b le =
    let same : a + (b - a) ≡ b = omega arith in
    omega (arith, ap bound same, bound-more a (b - a))

bound-times : (n m : ℕ) → suc m * bound n ≤ bound (n + m)
bound-times n zero =
    let same : n + 0 ≡ n = omega arith in
    let here : bound (n + 0) ≡ bound n = ap bound same in
    let one : 1 * bound n ≡ bound n = omega arith in omega arith
bound-times n (suc m) =
    let same : n + suc m ≡ suc (n + m) = omega arith in
    let here : bound (n + suc m) ≡ bound (n + m) + bound (n + m) = ap bound same in
    let one : 1 * bound n ≡ bound n = omega arith in
    let next : suc (suc m) * bound n ≡ suc m * bound n + bound n =
    (let split : suc (suc m) ≡ suc m + 1 = omega arith in
    ap (λ k. k * bound n) split ∙ (add-mul (suc m) 1 (bound n)
    ∙ ap (λ k. suc m * bound n + k) one)) in
    omega (arith, bound-times n m, bound-more n m)

-- so many lists that stand so far above the last of n
top-times : (n x m : ℕ) → 0 < m → x + m ≤ n → m * bound x ≤ top n
top-times n x zero some fits = absurd (omega arith)
top-times zero x (suc m) some fits = absurd (omega arith)
top-times (suc n) x (suc m) some fits =
    let times = bound-times x m in
    let far = bound-mono (x + m) n (omega arith) in omega arith

-- ---- lists of lengths

-- the lengths of the lists of n phasers
pub record AreBounded (lengths : List ℕ) (n : ℕ) : Type 0 where
  pub count : length lengths ≡ n
  pub each : (p : ℕ) → p < n → get_or lengths p 0 ≤ bound p

get_or-past : {X : Type 0} (xs : List X) (k : ℕ) (d : X) → length xs ≤ k → get_or xs k d ≡ d
get_or-past [] k d le = refl
get_or-past (x ∷ xs) zero d le = absurd (omega arith)
get_or-past (x ∷ xs) (suc k) d le = get_or-past xs k d (omega arith)

length-top : (lengths : List ℕ) (n p : ℕ) → AreBounded lengths n → get_or lengths p 0 ≤ top n
length-top lengths zero p are =
    let none = get_or-past lengths p 0 (omega (arith, are.count)) in omega arith
length-top lengths (suc n) p are = by (cases_lt p (suc n))
  where
    by : (p < suc n) ⊎ (suc n ≤ p) → get_or lengths p 0 ≤ bound n
    by (inl lt) =
        let here = are.each p lt in
        let more = bound-mono p n (omega arith) in omega arith
    by (inr far) =
        let none = get_or-past lengths p 0 (omega (arith, are.count)) in omega arith

-- ---- how many steps

fold-min_start : (a : ℕ) (xs : List ℕ) → fold min a xs ≤ a
fold-min_start a [] = omega arith
fold-min_start a (x ∷ xs) = let rest = fold-min_start (min a x) xs in omega arith

fold-min_at : (f : ℕ → ℕ) (a from many k : ℕ) → from ≤ k → k < from + many
    → fold min a (map f (range_with_len from many)) ≤ f k
fold-min_at f a from zero k low high = absurd (omega arith)
fold-min_at f a from (suc many) k low high =
    by (cases_lt from k)
    (λ more. fold-min_at f (min a (f from)) (from + 1) many k (omega arith) (omega arith))
  where
    by : (from < k) ⊎ (k ≤ from)
        → (from < k
        → fold min (min a (f from)) (map f (range_with_len (from + 1) many)) ≤ f k)
        → fold min (min a (f from)) (map f (range_with_len (from + 1) many)) ≤ f k
    by (inl more) rec = rec more
    by (inr here) rec =
        let same : from ≡ k = omega arith in
        let start = fold-min_start (min a (f from)) (map f (range_with_len (from + 1) many)) in
        omega (arith, ap f same)

-- a joiner stops in time
join_steps : (inputs lengths : List ℕ) (n : ℕ) → AreBounded lengths n → 2 ≤ length inputs
    → length inputs ≤ 8 → is_distinct inputs ≡ true
    → first_run_out (map (λ p. get_or lengths p 0 - 0) inputs) ≤ top n + 7
join_steps inputs lengths n are some few e = by (far_one n inputs (omega arith) e)
  where
    values : List ℕ
    values = map (λ p. get_or lengths p 0 - 0) inputs

    by : (k : ℕ) × (k < length inputs)
        × ((n ≤ get_or inputs k 0) ⊎ (get_or inputs k 0 + length inputs ≤ n))
        → first_run_out (map (λ p. get_or lengths p 0 - 0) inputs) ≤ top n + 7
    by (k, lt, side) =
        let long : length values ≡ length inputs =
        length-map inputs (λ p. get_or lengths p 0 - 0) in
        let stops : first_run_out values ≤ run_out values k =
        fold-min_at (run_out values) (run_out values 0) 0 (length values) k (omega arith)
        (omega arith) in
        let value : get_or values k 0 ≡ get_or lengths (get_or inputs k 0) 0 - 0 =
        get_or-map (λ p. get_or lengths p 0 - 0) inputs k 0 0 lt in
        let is : run_out values k
        ≡ k + length inputs * get_or lengths (get_or inputs k 0) 0 =
        ap (λ m. k + m * get_or values k 0) long
        ∙ ap (λ v. k + length inputs * v) (value ∙ minus_none _) in
        let product = split k lt side in omega arith
      where
        minus_none : (a : ℕ) → a - 0 ≡ a
        minus_none a = omega arith

        split : (k : ℕ) → k < length inputs
            → (n ≤ get_or inputs k 0) ⊎ (get_or inputs k 0 + length inputs ≤ n)
            → length inputs * get_or lengths (get_or inputs k 0) 0 ≤ top n
        split k lt (inl far) =
            let none = get_or-past lengths (get_or inputs k 0) 0 (omega (arith, are.count)) in
            let zero_is : length inputs * 0 ≡ 0 = omega arith in
            let here : length inputs * get_or lengths (get_or inputs k 0) 0 ≡ length inputs * 0 =
            ap (λ v. length inputs * v) none in omega arith
        split k lt (inr above) =
            let x = get_or inputs k 0 in
            let small = are.each x (omega arith) in
            let more : length inputs * get_or lengths x 0 ≤ length inputs * bound x =
            mul-le (length inputs) (get_or lengths x 0) (length inputs) (bound x) (omega arith)
            small in
            let times = top-times n x (length inputs) (omega arith) above in omega arith

first_top : (inputs lengths : List ℕ) (offset n : ℕ) → AreBounded lengths n
    → get_or (map (λ p. get_or lengths p 0 - offset) inputs) 0 0 ≤ top n - offset
first_top [] lengths offset n are = omega arith
first_top (p ∷ ps) lengths offset n are = let here = length-top lengths n p are in omega arith

-- the reach of the first t tasks: their offset and their steps together
abbrev reach : ℕ → ℕ → ℕ
reach n t = top n + 7 + t * 9007199254740992

-- from an offset within the reach of the tasks above, enough is within that of one more
enough_reach : (task : Task) (samples offset n t : ℕ) (lengths : List ℕ) → AreBounded lengths n
    → HasEnds task.kind (length task.inputs) (length task.outputs)
    → is_distinct task.inputs ≡ true → samples ≤ 9007199254740992
    → (task.kind ≡ Join → offset ≡ 0) → offset ≤ reach n t
    → offset + enough_for task samples (values_from task lengths offset) ≤ reach n (suc t)
enough_reach task samples offset n t lengths are ends distinct few root at = by task.kind refl
  where
    values : List ℕ
    values = values_from task lengths offset

    next : reach n (suc t) ≡ reach n t + 9007199254740992
    next = omega arith

    first : enough_for task samples (values_from task lengths offset)
        ≡ get_or (values_from task lengths offset) 0 0
        → offset + enough_for task samples (values_from task lengths offset) ≤ reach n (suc t)
    first is =
        omega (arith, first_top task.inputs lengths offset n are)

    by : (kind : Kind) → task.kind ≡ kind
        → offset + enough_for task samples (values_from task lengths offset) ≤ reach n (suc t)
    by Source e =
        let is : enough_for task samples (values_from task lengths offset) ≡ samples = rw e refl in
        omega arith
    by Fir e = first (rw e refl)
    by Split e = first (rw e refl)
    by Decimate e = first (rw e refl)
    by Peer e = first (rw e refl)
    by Sink e = first (rw e refl)
    by Join e =
        let both : (2 ≤ length task.inputs) × (length task.inputs ≤ 8) × (length task.outputs ≡ 1) =
        rw e at ends in
        let is : enough_for task samples (values_from task lengths offset)
        ≡ first_run_out (values_from task lengths offset) = rw e refl in
        let begins = root e in
        let same : first_run_out (values_from task lengths offset)
        ≡ first_run_out (values_from task lengths 0) =
        ap (λ o. first_run_out (values_from task lengths o)) begins in
        omega (arith, join_steps task.inputs lengths n are both.0 both.1 distinct)

-- ---- spans

abbrev pub Reaches : Span → ℕ → Type 0
Reaches span most = span.offset + span.steps ≤ most

-- an offset is at most where the parent has come to
offset_reach : (above : List Span) (start : ℕ) (parent : Option Parent) (most : ℕ) → start ≡ 0
    → ((u : Parent) → parent ≡ Some u → Reaches (get_or above u.task nowhere) most)
    → (offset : ℕ) → offset_of above start parent ≡ Some offset → offset ≤ most
offset_reach above start None most first each offset e =
    let none : 0 ≡ offset = some_same 0 offset e in omega arith
  where
    some_same : (a b : ℕ) → Some a ≡ Some b → a ≡ b
    some_same a b f = cc
offset_reach above start (Some u) most first each offset e =
    by ((get_or above u.task nowhere).live && nat_le u.at (get_or above u.task nowhere).steps)
    refl e
  where
    by : (b : Bool)
        → ((get_or above u.task nowhere).live && nat_le u.at (get_or above u.task nowhere).steps)
        ≡ b
        → (if b then Some (max start ((get_or above u.task nowhere).offset + u.at)) else None)
        ≡ Some offset
        → offset ≤ most
    by false dead f = absurd (cc)
    by true live f =
        let span = get_or above u.task nowhere in
        let parts = and_parts span.live (nat_le u.at span.steps) live in
        let within : u.at ≤ span.steps = grind (arith, nat_tests, parts.1) in
        let reaches : span.offset + span.steps ≤ most = each u refl in
        let same : max start (span.offset + u.at) ≡ offset = cc in
        let least : max start (span.offset + u.at) ≡ span.offset + u.at =
        ap (λ n. max n (span.offset + u.at)) first ∙ zero-max (span.offset + u.at) in omega arith

-- what is known of a job's graph and samples
pub record IsGiven (job : Job) : Type 0 where
  pub graph : IsGraph job.graph
  pub few : (t : ℕ) → length (samples_at job t) ≤ 9007199254740992
  pub least : (t : ℕ) → start_at job t ≡ 0

span_reach : (job : Job) (lengths : List ℕ) (n : ℕ) → IsGiven job → AreBounded lengths n
    → (limit t : ℕ) → t < limit → t < length job.graph.tasks
    → Reaches (span_of job lengths (spans_up_to job lengths t) t) (reach n (suc t))
span_reach job lengths n is are zero t below there = absurd (omega arith)
span_reach job lengths n is are (suc limit) t below there =
    by (offset_of (spans_up_to job lengths t) (start_at job t) task.parent) refl
    (offset_reach (spans_up_to job lengths t) (start_at job t) task.parent (reach n t) (is.least t)
    (λ u e. parent_case u e
    (λ (v : ℕ) less. span_reach job lengths n is are limit v (omega arith) (omega arith))))
  where
    task : Task
    task = task_at job.graph t

    line : IsTaskLine job.graph t (task_at job.graph t)
    line = is.graph.tasks t there

    parent_case : (u : Parent) → (task_at job.graph t).parent ≡ Some u
        → ((v : ℕ) → v < t
        → Reaches (span_of job lengths (spans_up_to job lengths v) v) (reach n (suc v)))
        → Reaches (get_or (spans_up_to job lengths t) u.task nowhere) (reach n t)
    parent_case u e rec =
        let parent : IsParent job.graph t (task_at job.graph t) u =
        parent-is job.graph t (task_at job.graph t) u line e in
        let above : u.task < t = parent.above in
        let same : get_or (spans_up_to job lengths t) u.task nowhere
        ≡ span_of job lengths (spans_up_to job lengths u.task) u.task =
        grown-at (span_of job lengths) t u.task nowhere above in
        let one = rec u.task above in
        let fewer : reach n (suc u.task) ≤ reach n t =
        (let more : suc u.task ≤ t = omega arith in omega arith) in
        subst (λ (s : Span). Reaches s (reach n t)) (sym same) (omega arith)

    root : (offset : ℕ) → offset_of (spans_up_to job lengths t) (start_at job t)
        (task_at job.graph t).parent
        ≡ Some offset → (task_at job.graph t).kind ≡ Join → offset ≡ 0
    root offset e join = none_case (task_at job.graph t).parent refl e
      where
        none_case : (parent : Option Parent) → (task_at job.graph t).parent ≡ parent
            → offset_of (spans_up_to job lengths t) (start_at job t) parent ≡ Some offset → offset
            ≡ 0
        none_case None p f = let same : 0 ≡ offset = cc in omega arith
        none_case (Some u) p f =
            let parent : IsParent job.graph t (task_at job.graph t) u =
            parent-is job.graph t (task_at job.graph t) u line p in
            absurd (let b : true ≡ false = sym parent.child_kind ∙ ap has_children join in cc)

    by : (o : Option ℕ) → offset_of (spans_up_to job lengths t) (start_at job t)
        (task_at job.graph t).parent ≡ o
        → ((offset : ℕ) → offset_of (spans_up_to job lengths t) (start_at job t)
        (task_at job.graph t).parent
        ≡ Some offset → offset ≤ reach n t)
        → Reaches (span_at (task_at job.graph t) (length (samples_at job t)) lengths o)
        (reach n (suc t))
    by None e within = omega arith
    by (Some offset) e within =
        let few = is.few t in
        let enough = enough_for task (length (samples_at job t))
        (values_from task lengths offset) in
        let fits = enough_reach task (length (samples_at job t)) offset n t lengths are line.ends
        (distinct_front task.inputs task.outputs line.distinct) few (root offset e)
        (within offset e) in
        let cut = cut_below task.until enough in omega arith

-- ---- lengths

some-most : (m k n : ℕ) → 0 < m → turns_below m k n ≤ n
some-most m k n some = by (cases_lt n (turns_below m k n))
  where
    by : (n < turns_below m k n) ⊎ (turns_below m k n ≤ n) → turns_below m k n ≤ n
    by (inr le) = le
    by (inl more) =
        let q = turns_below m k n in
        let split : q * m + (n + (m - 1 - k)) % m ≡ n + (m - 1 - k) =
        div-add-mod' (n + (m - 1 - k)) m in
        let under : (n + 1) * m ≤ q * m = mul-le (n + 1) m q m (omega arith) (omega arith) in
        let one : 1 * m ≡ m = omega arith in
        let next : (n + 1) * m ≡ n * m + m = add-mul n 1 m ∙ ap (λ k. n * m + k) one in
        let wide : n * 1 ≤ n * m = mul-le n 1 n m (omega arith) (omega arith) in
        let same : n * 1 ≡ n = omega arith in
        absurd (omega arith)

-- turns are at most the steps
turns-most : (m k n : ℕ) → turns_below m k n ≤ n
turns-most zero k n = omega (arith, div-zero (n + (0 - 1 - k)))
turns-most (suc m) k n = some-most (suc m) k n (omega arith)

puts-most : (task : Task) (steps j : ℕ) → puts_on task steps j ≤ steps
puts-most task steps j = by task.kind refl
  where
    same : puts_on task steps j ≡ steps → puts_on task steps j ≤ steps
    same e = omega arith

    turns : (m i : ℕ) → puts_on task steps j ≡ turns_below m i steps → puts_on task steps j ≤ steps
    turns m i e = let few = turns-most m i steps in omega arith

    by : (kind : Kind) → task.kind ≡ kind → puts_on task steps j ≤ steps
    by Source e = same (rw e refl)
    by Fir e = same (rw e refl)
    by Join e = same (rw e refl)
    by Peer e = same (rw e refl)
    by Sink e = same (rw e refl)
    by Split e = turns (length task.outputs) j (rw e refl)
    by Decimate e = turns task.every 0 (rw e refl)

end_reach : (task : Task) (span : Span) (place : Option ℕ) (most : ℕ) → Reaches span most
    → end_on task span place ≤ most
end_reach task span None most reaches = omega arith
end_reach task span (Some j) most reaches = by span.live
  where
    by : (b : Bool) → (if b then span.offset + puts_on task span.steps j else 0) ≤ most
    by false = omega arith
    by true = let few = puts-most task span.steps j in omega arith

fold-max : (f : ℕ → ℕ) (a from many most : ℕ) → a ≤ most
    → ((t : ℕ) → t < from + many → f t ≤ most)
    → fold max a (map f (range_with_len from many)) ≤ most
fold-max f a from zero most start each = start
fold-max f a from (suc many) most start each =
    let here = each from (omega arith) in
    fold-max f (max a (f from)) (from + 1) many most (omega arith)
    (λ t lt. each t (omega arith))

-- ---- all lengths

span_at_reach : (job : Job) (lengths : List ℕ) (n t : ℕ) → IsGiven job → AreBounded lengths n
    → t < length job.graph.tasks
    → Reaches (get_or (spans_over job lengths) t nowhere) (reach n (suc t))
span_at_reach job lengths n t is are there =
    let same : get_or (spans_over job lengths) t nowhere
    ≡ span_of job lengths (spans_up_to job lengths t) t =
    grown-at (span_of job lengths) (length job.graph.tasks) t nowhere there in
    subst (λ (s : Span). Reaches s (reach n (suc t))) (sym same)
    (span_reach job lengths n is are (suc t) t (omega arith) there)

-- no reach is past the bound
reach-bound : (n t : ℕ) → t ≤ 64 → reach n t ≤ bound n
reach-bound zero t few = omega arith
reach-bound (suc n) t few = let most = bound-least n in omega arith

length_bound : (job : Job) (lengths : List ℕ) (n : ℕ) → IsGiven job → AreBounded lengths n
    → length_on job.graph (spans_over job lengths) n ≤ bound n
length_bound job lengths n is are =
    fold-max (end_of job.graph (spans_over job lengths) n) 0 0 (length job.graph.tasks) (bound n)
    (omega arith)
    (λ t lt. (let there : t < length job.graph.tasks = omega arith in
    let many : length job.graph.tasks ≤ 64 = is.graph.few_tasks in
    let span = span_at_reach job lengths n t is are there in
    let most = reach-bound n (suc t) (omega arith) in
    end_reach (task_at job.graph t) (get_or (spans_over job lengths) t nowhere) _ (bound n)
    (omega arith)))

pub lengths_bounded : (job : Job) (n : ℕ) → IsGiven job → AreBounded (lengths_up_to job n) n
lengths_bounded job n is = record {
  count = length-grown (λ above p. length_on job.graph (spans_over job above) p) n;
  each = λ p lt. each_bounded job is (suc p) p n (omega arith) lt;
}
  where
    each_bounded : (job : Job) → IsGiven job → (limit p n : ℕ) → p < limit → p < n
        → get_or (lengths_up_to job n) p 0 ≤ bound p
    each_bounded job is zero p n below lt = absurd (omega arith)
    each_bounded job is (suc limit) p n below lt =
        let same : get_or (lengths_up_to job n) p 0
        ≡ length_on job.graph (spans_over job (lengths_up_to job p)) p =
        grown-at (λ above q. length_on job.graph (spans_over job above) q) n p 0 lt in
        let here = length_bound job (lengths_up_to job p) p is (record {
          count = length-grown (λ above q. length_on job.graph (spans_over job above) q) p;
          each = λ q less. each_bounded job is limit q p (omega arith) less;
        }) in
        omega arith

-- each span is within the bound
pub span_bounded : (job : Job) (n t : ℕ) → IsGiven job → t < length job.graph.tasks
    → Reaches (span_of job (lengths_up_to job n) (spans_up_to job (lengths_up_to job n) t) t)
    (bound n)
span_bounded job n t is there =
    let are = lengths_bounded job n is in
    let span = span_reach job (lengths_up_to job n) n is are (suc t) t (omega arith) there in
    let many : length job.graph.tasks ≤ 64 = is.graph.few_tasks in
    let most = reach-bound n (suc t) (omega arith) in omega arith

-- ---- as the code has it

-- the samples of each task are few where each number of samples is
counted_few : (graph : Graph) (counts : List ℕ) → All (λ n. n ≤ 9007199254740992) counts
    → (t : ℕ) → length (samples_at (counted graph counts) t) ≤ 9007199254740992
counted_few graph counts few t =
    let is = length-counted graph counts t in
    let short = count-few counts (source_number graph.tasks t) 9007199254740992 few in
    omega (arith, is, short)

-- the least starts
pub no_start : (b : Bool) (n : ℕ) → n ≡ 0 → (if b then n else 0) ≡ 0
no_start true n none = none
no_start false n none = refl

pub start_of_counted : (graph : Graph) (counts : List ℕ) (t : ℕ)
    → start_at (counted graph counts) t ≡ 0
start_of_counted graph counts t = no_start (task_at graph t).joins_now 0 refl

pub stage_counted : (graph : Graph) (counts lengths : List ℕ)
    → IsStage graph counts lengths → IsGiven (counted graph counts)
stage_counted graph counts lengths stage =
    record {
      graph = stage.read;
      few = counted_few graph counts stage.few;
      least = λ t. start_of_counted graph counts t;
    }

-- the lengths at each stage are short
pub stage_lengths : (graph : Graph) (counts lengths : List ℕ)
    → IsStage graph counts lengths → All (λ n. n ≤ LENGTH_MAX) lengths
stage_lengths graph counts lengths stage =
    subst (λ ns. All (λ n. n ≤ LENGTH_MAX) ns) (sym stage.are)
    (λ p d lt. short p d lt)
  where
    are : AreBounded (lengths_up_to (counted graph counts) stage.count) stage.count
    are = lengths_bounded (counted graph counts) stage.count
        (stage_counted graph counts lengths stage)

    short : (p d : ℕ) → p < length (lengths_up_to (counted graph counts) stage.count)
        → get_or (lengths_up_to (counted graph counts) stage.count) p d ≤ LENGTH_MAX
    short p d lt =
        let below : p < stage.count = omega (arith, are.count) in
        let few : stage.count ≤ 64 = stage.count_few in
        let here = are.each p below in
        let same : get_or (lengths_up_to (counted graph counts) stage.count) p d
        ≡ get_or (lengths_up_to (counted graph counts) stage.count) p 0 =
        get_or_default (lengths_up_to (counted graph counts) stage.count) p d 0 lt in
        let most : bound p ≤ bound 64 = bound-mono p 64 (omega arith) in
        let limit : bound 64 ≡ LENGTH_MAX = refl in
        omega arith

-- the next span is
pub stage_span : (graph : Graph) (counts lengths : List ℕ)
    (above : List Span) (t : ℕ)
    → IsStage graph counts lengths → t < length graph.tasks
    → above ≡ spans_up_to (counted graph counts) lengths t
    → IsShort (span_of (counted graph counts) lengths above t)
stage_span graph counts lengths above t stage there above_is =
    let job = counted graph counts in
    let few : stage.count ≤ 64 = stage.count_few in
    let most : bound stage.count ≤ bound 64 = bound-mono stage.count 64 (omega arith) in
    let limit : bound 64 ≡ LENGTH_MAX = refl in
    let reaches = span_bounded job stage.count t (stage_counted graph counts lengths stage) there in
    let here : IsShort (span_of job (lengths_up_to job stage.count)
    (spans_up_to job (lengths_up_to job stage.count) t) t) = omega arith in
    subst (λ (a : List Span). IsShort (span_of job lengths a t)) (sym above_is)
    (subst (λ (ns : List ℕ). IsShort (span_of job ns (spans_up_to job ns t) t)) (sym stage.are)
    here)
