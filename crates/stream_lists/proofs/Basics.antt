-- What several crates above use, and std does not have.
use Rattle.std.proofs.Common.{◌≡◌, ℕ, zero, suc, ◌+◌, ◌<◌, ◌≤◌, ◌⊎◌, inl, inr, Bool, true, false, cond, List, [], ◌∷◌, ◌++◌, ℤ, Option, Some, None, Ok, Err, slice_get, length, take, refl, sym, ap, subst, ◌∙◌, arith, rules, take-append-drop, length-append, drop}
use Rattle.std.specs.List.{count_by, filter, find, range_with_len}
use Rattle.std.proofs.lemmas.Bool.{cases_lt}
use Rattle.std.proofs.lemmas.List.Elements.{filter-append}
use Rattle.std.proofs.lemmas.List.Sums.{count_by_more_yes, length-filter}
use Rattle.std.proofs.lemmas.Option.{same_Some}
use Rattle.graph_base.specs.Graphs.{Graph, Task, no_task, task_at, is_sink, is_source, source_number, sources_of}
use Rattle.graph_base.specs.declared.line.Kind.{Kind}
use Rattle.graph_base.specs.declared.line.Kind.TheVariants.{Source, Fir, Split, Decimate, Join, Peer, Sink}
use Rattle.stream_lists.specs.Jobs.{Job}
use Rattle.stream_lists.specs.Ranges.{Fits, Where, answer_of, first_too_big}
use Rattle.stream_lists.specs.Spans.{cut_at}

-- ---- kinds of tasks

pub sink_kind : (kind : Kind) → is_sink kind ≡ true → kind ≡ Sink
sink_kind Sink e = refl
sink_kind Source e = absurd (cc)
sink_kind Fir e = absurd (cc)
sink_kind Split e = absurd (cc)
sink_kind Decimate e = absurd (cc)
sink_kind Join e = absurd (cc)
sink_kind Peer e = absurd (cc)

pub source_kind : (kind : Kind) → is_source kind ≡ true → kind ≡ Source
source_kind Source is = refl
source_kind Fir is = absurd (cc)
source_kind Split is = absurd (cc)
source_kind Decimate is = absurd (cc)
source_kind Join is = absurd (cc)
source_kind Peer is = absurd (cc)
source_kind Sink is = absurd (cc)

-- what is counted in front is no more than all
pub count_by-take : {X : Type 0} (p : X → Bool) (n : ℕ) (xs : List X)
    → count_by p (take n xs) ≤ count_by p xs
count_by-take p n xs =
    let parts = ap (λ ys. length (filter p ys)) (sym (take-append-drop n xs))
    ∙ (ap length (filter-append p (take n xs) (drop n xs))
    ∙ length-append (filter p (take n xs)) (filter p (drop n xs))) in
    omega (arith, parts, length-filter p xs, length-filter p (take n xs))

-- a source is one of the sources
pub source_within : (graph : Graph) (t : ℕ) → t < length graph.tasks
    → is_source (task_at graph t).kind ≡ true → source_number graph.tasks t < sources_of graph
source_within graph t within is =
    let is_source_task : Task → Bool = λ task. is_source task.kind in
    let one = count_by_more_yes is_source_task graph.tasks t no_task within is in
    let most = count_by-take is_source_task (t + 1) graph.tasks in
    omega (arith, one, most)

pub cut_below : (until : Option ℕ) (n : ℕ) → cut_at until n ≤ n
cut_below None n = omega arith
cut_below (Some until) n = omega arith

pub cut_less : (until : Option ℕ) (n k : ℕ) → n ≤ k → cut_at until n ≤ cut_at until k
cut_less None n k less = less
cut_less (Some u) n k less = omega arith

-- a job with an answer has values that all fit
pub answer_fits : (job : Job) (lines : List (ℕ × List ℤ)) → answer_of job ≡ Ok lines → Fits job
answer_fits job lines is = by (first_too_big job) refl
  where
    by : (found : Option Where) → first_too_big job ≡ found → first_too_big job ≡ None
    by None e = e
    by (Some place) e =
        let both : Err place ≡ Ok lines = rw e at is in
        search rules

-- ---- searches

pub find-same : {X : Type 0} (f g : X → Bool) (xs : List X) → ((x : X) → f x ≡ g x)
    → find f xs ≡ find g xs
find-same f g [] same = refl
find-same f g (x ∷ xs) same =
    ap (λ b. cond b (Some x) (find f xs)) (same x)
    ∙ ap (λ o. cond (g x) (Some x) o) (find-same f g xs same)

-- the first number from a on that passes
find_from : (test : ℕ → Bool) (a n c : ℕ) → c < n → ((d : ℕ) → d < c → test (a + d) ≡ false)
    → test (a + c) ≡ true → find test (range_with_len a n) ≡ Some (a + c)
find_from test a zero c lt below here = absurd (omega arith)
find_from test a (suc n) zero lt below here =
    let first : a + 0 ≡ a = omega arith in
    let hit : test a ≡ true = ap test (sym first) ∙ here in
    rw hit (ap (λ x. Some x) (sym first))
find_from test a (suc n) (suc c) lt below here =
    let first : a ≡ a + 0 = omega arith in
    let no_hit : test a ≡ false = ap test first ∙ below 0 (omega arith) in
    let next : a + 1 + c ≡ a + suc c = omega arith in
    rw no_hit (find_from test (a + 1) n c (omega arith)
    (λ d less. let behind : a + 1 + d ≡ a + suc d = omega arith in
    ap test behind ∙ below (suc d) (omega arith))
    (ap test next ∙ here) ∙ ap (λ x. Some x) next)

-- the first number that passes
pub find_in_range : (test : ℕ → Bool) (n c : ℕ) → c < n → ((d : ℕ) → d < c → test d ≡ false)
    → test c ≡ true → find test (range_with_len 0 n) ≡ Some c
find_in_range test n c lt below here =
    let plain : (d : ℕ) → 0 + d ≡ d = λ d. omega arith in
    find_from test 0 n c lt (λ d less. ap test (plain d) ∙ below d less) (ap test (plain c) ∙ here)
    ∙ ap (λ x. Some x) (plain c)

find_none_from : (test : ℕ → Bool) (a n : ℕ) → ((d : ℕ) → d < n → test (a + d) ≡ false)
    → find test (range_with_len a n) ≡ None
find_none_from test a zero below = refl
find_none_from test a (suc n) below =
    let first : a ≡ a + 0 = omega arith in
    let no_hit : test a ≡ false = ap test first ∙ below 0 (omega arith) in
    rw no_hit (find_none_from test (a + 1) n
    (λ d less. let behind : a + 1 + d ≡ a + suc d = omega arith in
    ap test behind ∙ below (suc d) (omega arith)))

-- none passes
pub find_none_in_range : (test : ℕ → Bool) (n : ℕ) → ((d : ℕ) → d < n → test d ≡ false)
    → find test (range_with_len 0 n) ≡ None
find_none_in_range test n below =
    let plain : (d : ℕ) → 0 + d ≡ d = λ d. omega arith in
    find_none_from test 0 n (λ d less. ap test (plain d) ∙ below d less)

-- what holds below n, and of n, holds below the next
pub one_more : (P : ℕ → Type 0) (n : ℕ) → ((d : ℕ) → d < n → P d) → P n → (d : ℕ) → d < n + 1
    → P d
one_more P n below here d lt = by (cases_lt d n)
  where
    by : (d < n) ⊎ (n ≤ d) → P d
    by (inl less) = below d less
    by (inr past) =
        let same : n ≡ d = omega arith in
        subst P same here

-- a number of a range that passes the test stands behind those below it that pass
pub passes-at : (test : ℕ → Bool) (from before more : ℕ) → test (from + before) ≡ true
    → slice_get (filter test (range_with_len from (before + suc more)))
    (length (filter test (range_with_len from before))) ≡ Some (from + before)
passes-at test from zero more e =
    let here : from + 0 ≡ from = omega arith in
    let yes : test from ≡ true = ap test (sym here) ∙ e in
    let one : 0 + suc more ≡ suc more = omega arith in
    ap (λ n. slice_get (filter test (range_with_len from n)) 0) one
    ∙ (rw yes (ap (λ n. Some n) (sym here)))
passes-at test from (suc before) more e =
    let there : from + 1 + before ≡ from + suc before = omega arith in
    let long : suc before + suc more ≡ suc (before + suc more) = omega arith in
    ap (λ n. slice_get (filter test (range_with_len from n))
    (length (filter test (range_with_len from (suc before))))) long
    ∙ by (test from) (passes-at test (from + 1) before more (ap test there ∙ e))
    ∙ ap (λ n. Some n) there
  where
    by : (b : Bool)
        → slice_get (filter test (range_with_len (from + 1) (before + suc more)))
        (length (filter test (range_with_len (from + 1) before))) ≡ Some (from + 1 + before)
        → slice_get
        (cond b (from ∷ filter test (range_with_len (from + 1) (before + suc more)))
        (filter test (range_with_len (from + 1) (before + suc more))))
        (length (cond b (from ∷ filter test (range_with_len (from + 1) before))
        (filter test (range_with_len (from + 1) before)))) ≡ Some (from + 1 + before)
    by true f = f
    by false f = f

-- ---- a list that is made element by element

pub each-push : {X : Type 0} (P : ℕ → X → Type 0) (xs : List X) (x : X)
    → ((i : ℕ) (y : X) → slice_get xs i ≡ Some y → P i y) → P (length xs) x
    → (i : ℕ) (y : X) → slice_get (xs ++ x ∷ []) i ≡ Some y → P i y
each-push P [] x each new zero y e = subst (P 0) (same_Some x y e) new
each-push P [] x each new (suc i) y e = absurd (cc)
each-push P (z ∷ zs) x each new zero y e = each zero y e
each-push P (z ∷ zs) x each new (suc i) y e =
    each-push (λ k w. P (suc k) w) zs x (λ k w f. each (suc k) w f) new i y e

-- what is found in a longer list is the last one or was there
pub push_found : {X : Type 0} (xs : List X) (x y : X) (k : ℕ) → slice_get (xs ++ x ∷ []) k ≡ Some y
    → (slice_get xs k ≡ Some y) ⊎ ((k ≡ length xs) × (x ≡ y))
push_found [] x y zero found = inr (refl, same_Some x y found)
push_found [] x y (suc k) found = absurd (cc)
push_found (z ∷ xs) x y zero found = inl found
push_found (z ∷ xs) x y (suc k) found = by (push_found xs x y k found)
  where
    by : (slice_get xs k ≡ Some y) ⊎ ((k ≡ length xs) × (x ≡ y))
        → (slice_get xs k ≡ Some y) ⊎ ((suc k ≡ suc (length xs)) × (x ≡ y))
    by (inl was) = inl was
    by (inr last) = inr (ap suc last.0, last.1)
