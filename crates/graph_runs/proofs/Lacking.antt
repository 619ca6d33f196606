-- What the outputs of a task lack tells what it owes first, and which values are next.
use Rattle.std.proofs.Common.{◌≡◌, ℕ, zero, suc, ◌+◌, ◌-◌, ◌<◌, ◌≤◌, ◌*◌, ◌/◌, Bool, true, false, cond, eqb, List, [], ◌∷◌, Some, None, length, get_or, ℤ, pos, refl, ap, ◌∙◌, arith, ◌⊎◌, inl, inr}
use Rattle.std.specs.Prelude.{Result, take, drop}
use Rattle.std.specs.List.{find, range_with_len}
use Rattle.std.proofs.Math.Nat.{div-zero}
use Rattle.std.proofs.Math.Seq.{drop-cons, take-nil}
use Rattle.std.proofs.Math.ListN.{drop_of_length-le}
use Rattle.std.proofs.lemmas.Bool.{cases_lt, lt-ltb, le-ltb, eq-eqb}
use Rattle.std.proofs.lemmas.List.{length-drop}
use Rattle.std.proofs.lemmas.Nat.{div-mul-add}
use Rattle.stream_filters.specs.declared.fault.TooBigValue.{TooBigValue}
use Rattle.graph_base.specs.declared.line.Kind.{Kind}
use Rattle.graph_base.specs.declared.line.Kind.TheVariants.{Source, Fir, Split, Decimate, Join, Peer, Sink}
use Rattle.graph_base.specs.Graphs.{Task, task_at}
use Rattle.graph_base.specs.TaskLines.{IsGraph}
use Rattle.stream_lists.specs.Jobs.{Job}
use Rattle.stream_lists.specs.Spans.{signalled_by, puts_on, turns_below}
use Rattle.graph_runs.specs.Moments.{Moment, TaskRan, made_now}
use Rattle.graph_runs.specs.Nexts.{first_owed, is_owed}
use Rattle.graph_runs.specs.Answers.{values_up_to}
use Rattle.graph_runs.specs.TaskPlaces.{Owed, nothing, values, lacking}
use Rattle.graph_runs.proofs.Boundaries.{made_many}
use Rattle.graph_runs.proofs.Following.{Lacks}

-- ---- the first that is owed

find_nothing : (test : ℕ → Bool) (from many : ℕ)
    → ((i : ℕ) → from ≤ i → i < from + many → test i ≡ false)
    → find test (range_with_len from many) ≡ None
find_nothing test from zero none = refl
find_nothing test from (suc many) none =
    ap (λ b. cond b (Some from) (find test (range_with_len (from + 1) many)))
    (none from (omega arith) (omega arith))
    ∙ find_nothing test (from + 1) many (λ i low high. none i (omega arith) (omega arith))

find_first : (test : ℕ → Bool) (from many j : ℕ) → from ≤ j → j < from + many → test j ≡ true
    → ((i : ℕ) → from ≤ i → i < j → test i ≡ false)
    → find test (range_with_len from many) ≡ Some j
find_first test from zero j low high is none = absurd (omega arith)
find_first test from (suc many) j low high is none =
    by (cases_lt from j)
    (λ more. find_first test (from + 1) many j (omega arith) (omega arith) is
    (λ i low less. none i (omega arith) less))
  where
    by : (from < j) ⊎ (j ≤ from)
        → (from < j → find test (range_with_len (from + 1) many) ≡ Some j)
        → cond (test from) (Some from) (find test (range_with_len (from + 1) many)) ≡ Some j
    by (inl more) later =
        ap (λ b. cond b (Some from) (find test (range_with_len (from + 1) many)))
        (none from (omega arith) more) ∙ later more
    by (inr here) later =
        let same : from ≡ j = omega arith in
        ap (λ b. cond b (Some from) (find test (range_with_len (from + 1) many)))
        (ap test same ∙ is) ∙ ap (λ x. Some x) same

-- an output that lacks nothing is not owed, and one that lacks values is
not_owed : (job : Job) (m : Moment) (t j : ℕ) (owed : Owed) → Lacks job m t owed
    → j < length (signalled_by (task_at job.graph t))
    → lacking (task_at job.graph t).kind owed j ≡ 0 → is_owed job m t j ≡ false
not_owed job m t j owed lacks lt none =
    le-ltb (length (m.put t j)) (length (made_now job m t j)) (omega (arith, lacks j lt))

is_lacking : (job : Job) (m : Moment) (t j : ℕ) (owed : Owed) → Lacks job m t owed
    → j < length (signalled_by (task_at job.graph t))
    → 0 < lacking (task_at job.graph t).kind owed j → is_owed job m t j ≡ true
is_lacking job m t j owed lacks lt some =
    lt-ltb (length (m.put t j)) (length (made_now job m t j)) (omega (arith, lacks j lt))

pub first_none : (job : Job) (m : Moment) (t : ℕ) → Lacks job m t nothing
    → first_owed job m t ≡ None
first_none job m t lacks =
    find_nothing (is_owed job m t) 0 (length (signalled_by (task_at job.graph t)))
    (λ i low high. not_owed job m t i nothing lacks (omega arith) refl)

pub first_is : (job : Job) (m : Moment) (t j : ℕ) (owed : Owed) → Lacks job m t owed
    → j < length (signalled_by (task_at job.graph t))
    → 0 < lacking (task_at job.graph t).kind owed j
    → ((i : ℕ) → i < j → lacking (task_at job.graph t).kind owed i ≡ 0)
    → first_owed job m t ≡ Some j
first_is job m t j owed lacks lt some none =
    find_first (is_owed job m t) 0 (length (signalled_by (task_at job.graph t))) j (omega arith)
    (omega arith) (is_lacking job m t j owed lacks lt some)
    (λ i low less. not_owed job m t i owed lacks (omega arith) (none i less))

-- what lacks of these values on an output
pub lacks_here : (kind : Kind) (j : ℕ) (vs : List (Result ℤ TooBigValue))
    → lacking kind (values j vs) j ≡ length vs
lacks_here kind j vs = let here : eqb j j ≡ true = eq-eqb j j refl in rw here refl

-- ---- which values are next

take_all : (n : ℕ) (xs : List ℤ) → length xs ≤ n → take n xs ≡ xs
take_all n [] le = take-nil n
take_all zero (x ∷ xs) le = absurd (omega arith)
take_all (suc n) (x ∷ xs) le = ap (λ l. x ∷ l) (take_all n xs (omega arith))

-- all that the output lacks, where there is room for it
pub next_all : (most : ℕ) (job : Job) (m : Moment) (t j : ℕ)
    → length (made_now job m t j) ≤ length (m.put t j) + most
    → values_up_to most job m t j ≡ drop (length (m.put t j)) (made_now job m t j)
next_all most job m t j le =
    let long : length (drop (length (m.put t j)) (made_now job m t j))
    ≡ length (made_now job m t j) - length (m.put t j) =
    length-drop (length (m.put t j)) (made_now job m t j) in
    take_all most (drop (length (m.put t j)) (made_now job m t j)) (omega arith)

-- the first of them stands behind what was put
pub next_begins : (most : ℕ) (job : Job) (m : Moment) (t j : ℕ) → 1 ≤ most
    → length (m.put t j) < length (made_now job m t j)
    → values_up_to most job m t j
    ≡ get_or (made_now job m t j) (length (m.put t j)) (pos 0)
    ∷ take (most - 1) (drop (suc (length (m.put t j))) (made_now job m t j))
next_begins most job m t j some more =
    let made = made_now job m t j in
    let put = length (m.put t j) in
    let cut : most ≡ suc (most - 1) = omega arith in
    ap (λ l. take most l) (drop-cons made put (pos 0) more)
    ∙ ap (λ n. take n (get_or made put (pos 0) ∷ drop (suc put) made)) cut

-- where it lacks one, that is all
pub next_one : (most : ℕ) (job : Job) (m : Moment) (t j : ℕ) → 1 ≤ most
    → length (made_now job m t j) ≡ length (m.put t j) + 1
    → values_up_to most job m t j
    ≡ get_or (made_now job m t j) (length (m.put t j)) (pos 0) ∷ []
next_one most job m t j some one =
    let made = made_now job m t j in
    let put = length (m.put t j) in
    let n = most - 1 in
    let none : drop (suc put) made ≡ [] = drop_of_length-le made {i = suc put} (omega arith) in
    next_begins most job m t j some (omega arith)
    ∙ ap (λ l. get_or made put (pos 0) ∷ take n l) none
    ∙ ap (λ l. get_or made put (pos 0) ∷ l) (take-nil n)

-- ---- what lacks at the start

no_turn : (m k : ℕ) → turns_below m k 0 ≡ 0
no_turn zero k = div-zero (0 + (0 - 1 - k))
no_turn (suc m) k =
    let is : 0 + (suc m - 1 - k) ≡ 0 * suc m + (suc m - 1 - k) = omega arith in
    ap (λ x. x / suc m) is ∙ div-mul-add 0 (suc m) (suc m - 1 - k) (omega arith)

-- before its first step a task has made nothing
pub none_put : (task : Task) (j : ℕ) → j < length (signalled_by task) → puts_on task 0 j ≡ 0
none_put task j lt = by task.kind refl
  where
    by : (kind : Kind) → task.kind ≡ kind → puts_on task 0 j ≡ 0
    by Source e = rw e refl
    by Fir e = rw e refl
    by Join e = rw e refl
    by Peer e = rw e refl
    by Sink e = rw e refl
    by Split e = rw e (no_turn (length task.outputs) j)
    by Decimate e = rw e (no_turn task.every 0)

-- a task that has begun no step and put nothing lacks nothing
pub nothing_lacks : (job : Job) (m : Moment) (t : ℕ) → IsGraph job.graph → TaskRan job m t
    → t < length job.graph.tasks → m.begun t ≡ 0 → ((j : ℕ) → m.put t j ≡ [])
    → Lacks job m t nothing
nothing_lacks job m t is ran there begun put j lt =
    let many : length (made_now job m t j) ≡ puts_on (task_at job.graph t) (m.begun t) j =
    made_many job m t j is ran there lt in
    let none : puts_on (task_at job.graph t) 0 j ≡ 0 = none_put (task_at job.graph t) j lt in
    let at : puts_on (task_at job.graph t) (m.begun t) j ≡ puts_on (task_at job.graph t) 0 j =
    ap (λ b. puts_on (task_at job.graph t) b j) begun in
    omega (arith, ap length (put j))
