-- Where the phasers of a line stand among its outputs and among its registrations.
use Rattle.std.proofs.Common.{◌≡◌, ℕ, zero, suc, ◌+◌, ◌-◌, ◌<◌, ◌≤◌, Bool, true, false, not, cond, List, [], ◌∷◌, ◌++◌, Option, Some, None, is_some, length, map, get_or, refl, sym, ap, ◌∙◌, arith, inl, inr, eqb}
use Rattle.std.specs.Prelude.{unwrap_or}
use Rattle.std.specs.List.{find, list_any}
use Rattle.std.proofs.lemmas.Bool.{and_parts}
use Rattle.std.proofs.lemmas.Option.{same_Some}
use Rattle.std.proofs.lemmas.List.{append-nil, length-map, get_or-map, length-append, get_or-append_right, get_or_append_left}
use Rattle.graph_base.specs.Graphs.{Graph, Task, task_at}
use Rattle.graph_base.specs.TaskLines.{IsTaskLine}
use Rattle.phase_base.specs.Lists.{is_distinct}
use Rattle.graph_base.specs.Registrations.{no_registration}
use Rattle.graph_base.specs.declared.line.Kind.{Kind}
use Rattle.graph_base.specs.declared.line.Kind.TheVariants.{Source, Fir, Split, Decimate, Join, Peer, Sink}
use Rattle.stream_lists.specs.Jobs.{Job, index_in}
use Rattle.stream_lists.specs.Spans.{signalled_by}
use Rattle.stream_lists.proofs.Ordered.{place-at, place-distinct}
use Rattle.graph_runs.specs.Moments.{Moment, OnLine}
use Rattle.graph_runs.specs.Nexts.{first_missing, number_on, registrations_at, has_registered}

-- ---- outputs

distinct-behind : (xs ys : List ℕ) → is_distinct (xs ++ ys) ≡ true → is_distinct ys ≡ true
distinct-behind [] ys d = d
distinct-behind (x ∷ xs) ys d =
    distinct-behind xs ys
    (and_parts (not (list_any (λ q. eqb q x) (xs ++ ys))) (is_distinct (xs ++ ys)) d).1

peer-distinct : (ins outs : List ℕ) → length ins ≡ 2 → length outs ≡ 1
    → is_distinct (ins ++ outs) ≡ true
    → is_distinct (get_or ins 1 0 ∷ get_or outs 0 0 ∷ []) ≡ true
peer-distinct [] outs a b d = absurd (omega arith)
peer-distinct (x ∷ []) outs a b d = absurd (omega arith)
peer-distinct (x ∷ e ∷ []) [] a b d = absurd (omega arith)
peer-distinct (x ∷ e ∷ []) (y ∷ []) a b d = distinct-behind (x ∷ []) (e ∷ y ∷ []) d
peer-distinct (x ∷ e ∷ []) (y ∷ z ∷ outs) a b d = absurd (omega arith)
peer-distinct (x ∷ e ∷ f ∷ ins) outs a b d = absurd (omega arith)

-- no phaser stands twice among those that a task signals
pub distinct-signalled : (graph : Graph) (t : ℕ) (task : Task) → IsTaskLine graph t task
    → is_distinct (signalled_by task) ≡ true
distinct-signalled graph t task line = by task.kind refl
  where
    plain : signalled_by task ≡ task.outputs → is_distinct (signalled_by task) ≡ true
    plain same =
        ap (λ qs. is_distinct qs) same ∙ distinct-behind task.inputs task.outputs line.distinct

    by : (kind : Kind) → task.kind ≡ kind → is_distinct (signalled_by task) ≡ true
    by Source e = plain (rw e refl)
    by Fir e = plain (rw e refl)
    by Split e = plain (rw e refl)
    by Decimate e = plain (rw e refl)
    by Join e = plain (rw e refl)
    by Sink e = plain (rw e refl)
    by Peer e =
        let both : (length task.inputs ≡ 2) × (length task.outputs ≡ 1) = rw e at line.ends in
        let is : signalled_by task ≡ get_or task.inputs 1 0 ∷ get_or task.outputs 0 0 ∷ [] =
        rw e refl in
        ap (λ qs. is_distinct qs) is
        ∙ peer-distinct task.inputs task.outputs both.0 both.1 line.distinct

-- each output of a task stands at its own place
pub place_of_output : (graph : Graph) (t : ℕ) (task : Task) (j : ℕ) → IsTaskLine graph t task
    → j < length (signalled_by task)
    → index_in (signalled_by task) (get_or (signalled_by task) j 0) ≡ Some j
place_of_output graph t task j line lt =
    let qs = signalled_by task in
    let d : is_distinct (qs ++ []) ≡ true =
    ap (λ l. is_distinct l) (append-nil qs) ∙ distinct-signalled graph t task line in
    let same : 0 + j ≡ j = omega arith in
    place-distinct 0 qs [] j lt d ∙ ap (λ i. Some i) same

-- ---- searches

pub find-none : {X : Type 0} (test : X → Bool) (xs : List X) (i : ℕ) (d : X) → find test xs ≡ None
    → i < length xs → test (get_or xs i d) ≡ false
find-none test [] i d e lt = absurd (omega arith)
find-none test (x ∷ xs) i d e lt =
    by (test x) refl e i lt (λ f k below. find-none test xs k d f below)
  where
    by : (b : Bool) → test x ≡ b → cond b (Some x) (find test xs) ≡ None → (i : ℕ)
        → i < suc (length xs)
        → (find test xs ≡ None → (k : ℕ) → k < length xs → test (get_or xs k d) ≡ false)
        → test (get_or (x ∷ xs) i d) ≡ false
    by true is f i lt more = absurd (cc)
    by false is f zero lt more = is
    by false is f (suc k) lt more = more f k (omega arith)

-- what was found answers so, and stands in the list
pub find-some : {X : Type 0} (test : X → Bool) (xs : List X) (x d : X) → find test xs ≡ Some x
    → (test x ≡ true) × ((i : ℕ) × (i < length xs) × (get_or xs i d ≡ x))
find-some test [] x d e = absurd (cc)
find-some test (y ∷ ys) x d e = by (test y) refl e (λ f. find-some test ys x d f)
  where
    by : (b : Bool) → test y ≡ b → cond b (Some y) (find test ys) ≡ Some x
        → (find test ys ≡ Some x
        → (test x ≡ true) × ((i : ℕ) × (i < length ys) × (get_or ys i d ≡ x)))
        → (test x ≡ true) × ((i : ℕ) × (i < suc (length ys)) × (get_or (y ∷ ys) i d ≡ x))
    by true is f more =
        let same : y ≡ x = same_Some y x f in
        (ap test (sym same) ∙ is, (0, omega arith, same))
    by false is f more =
        let r = more f in (r.0, (suc r.1.0, omega arith, r.1.2))

-- ---- the phasers on a line

-- a phaser on the line of a task is one of its inputs or of its outputs
pub on_ends : (graph : Graph) (t : ℕ) (task : Task) (p : ℕ) → IsTaskLine graph t task → OnLine task p
    → (i : ℕ) × (i < length (task.inputs ++ task.outputs))
    × (get_or (task.inputs ++ task.outputs) i 0 ≡ p)
on_ends graph t task p line (inr into) = front into.0 into.1 into.2
  where
    front : (k : ℕ) → k < length task.inputs → get_or task.inputs k 0 ≡ p
        → (i : ℕ) × (i < length (task.inputs ++ task.outputs))
        × (get_or (task.inputs ++ task.outputs) i 0 ≡ p)
    front k lt at =
        let l = length-append task.inputs task.outputs in
        (k, omega arith, get_or_append_left task.inputs task.outputs 0 k lt ∙ at)
on_ends graph t task p line (inl out) = by task.kind refl
  where
    Found : Type 0
    Found = (i : ℕ) × (i < length (task.inputs ++ task.outputs))
        × (get_or (task.inputs ++ task.outputs) i 0 ≡ p)

    behind : (j : ℕ) → j < length task.outputs → get_or task.outputs j 0 ≡ p → Found
    behind j lt at =
        let l = length-append task.inputs task.outputs in
        let low : length task.inputs ≤ length task.inputs + j = omega arith in
        let off : length task.inputs + j - length task.inputs ≡ j = omega arith in (
          length task.inputs + j,
          omega arith,
          get_or-append_right task.inputs task.outputs (length task.inputs)
              (length task.inputs + j) 0 refl low ∙ ap (λ i. get_or task.outputs i 0) off ∙ at,
        )

    plain : signalled_by task ≡ task.outputs → Found
    plain same =
        let at = place-at (signalled_by task) p out.0 out.1 in
        let long : length (signalled_by task) ≡ length task.outputs = ap length same in
        behind out.0 (omega arith) (sym (ap (λ qs. get_or qs out.0 0) same) ∙ at.1)

    of_peer : length task.inputs ≡ 2 → length task.outputs ≡ 1 → (j : ℕ) → j < 2
        → get_or (get_or task.inputs 1 0 ∷ get_or task.outputs 0 0 ∷ []) j 0 ≡ p → Found
    of_peer two one zero lt at =
        let l = length-append task.inputs task.outputs in
        (1, omega arith, get_or_append_left task.inputs task.outputs 0 1 (omega arith) ∙ at)
    of_peer two one (suc zero) lt at = behind 0 (omega arith) at
    of_peer two one (suc (suc j)) lt at = absurd (omega arith)

    by : (kind : Kind) → task.kind ≡ kind → Found
    by Source e = plain (rw e refl)
    by Fir e = plain (rw e refl)
    by Split e = plain (rw e refl)
    by Decimate e = plain (rw e refl)
    by Join e = plain (rw e refl)
    by Sink e = plain (rw e refl)
    by Peer e =
        let both : (length task.inputs ≡ 2) × (length task.outputs ≡ 1) = rw e at line.ends in
        let is : signalled_by task ≡ get_or task.inputs 1 0 ∷ get_or task.outputs 0 0 ∷ [] =
        rw e refl in
        let at = place-at (signalled_by task) p out.0 out.1 in
        of_peer both.0 both.1 out.0 (omega (arith, ap length is))
        (sym (ap (λ qs. get_or qs out.0 0) is) ∙ at.1)

-- a task that misses no registration has its number on each phaser of its line
pub numbered : (job : Job) (m : Moment) (t p : ℕ)
    → IsTaskLine job.graph t (task_at job.graph t)
    → map (λ r. r.phaser) (registrations_at job t)
    ≡ (task_at job.graph t).inputs ++ (task_at job.graph t).outputs
    → first_missing job m t ≡ None → OnLine (task_at job.graph t) p
    → m.number p t ≡ Some (number_on m t p)
numbered job m t p line phasers none on =
    let at = on_ends job.graph t (task_at job.graph t) p line on in
    let rs = registrations_at job t in
    let long : length rs ≡ length ((task_at job.graph t).inputs ++ (task_at job.graph t).outputs) =
    sym (length-map rs (λ r. r.phaser)) ∙ ap length phasers in
    let lt : at.0 < length rs = omega arith in
    let here : (get_or rs at.0 no_registration).phaser ≡ p =
    sym (get_or-map (λ r. r.phaser) rs at.0 no_registration 0 lt)
    ∙ ap (λ ps. get_or ps at.0 0) phasers ∙ at.2 in
    let there : not (has_registered m t (get_or rs at.0 no_registration)) ≡ false =
    find-none (λ r. not (has_registered m t r)) rs at.0 no_registration none lt in
    some (m.number p t) (rw here at there)
  where
    some : (o : Option ℕ) → not (is_some o) ≡ false → o ≡ Some (unwrap_or o 0)
    some (Some n) e = refl
    some None e = absurd (cc)
