-- The phasers that a task's steps and outputs look at stand above those that it signals.
use Rattle.std.proofs.Common.{◌≡◌, ℕ, zero, suc, ◌+◌, ◌<◌, Bool, true, false, not, ◌||◌, cond, eqb, List, [], ◌∷◌, ◌++◌, length, get_or, Some, refl, sym, ap, subst, ◌∙◌, arith, eqb-true, eq-eqb, Contains}
use Rattle.std.specs.Prelude.{Option}
use Rattle.std.specs.List.{position_from, list_any}
use Rattle.std.proofs.lemmas.Bool.{and_parts}
use Rattle.std.proofs.lemmas.Option.{same_Some}
use Rattle.graph_base.specs.Graphs.{Graph, Task, task_at}
use Rattle.graph_base.specs.TaskLines.{IsGraph, IsTaskLine, IsParent, HasEnds, has_children}
use Rattle.phase_base.specs.Lists.{is_distinct}
use Rattle.graph_base.specs.declared.line.Kind.{Kind}
use Rattle.graph_base.specs.declared.line.Kind.TheVariants.{Source, Fir, Split, Decimate, Join, Peer, Sink}
use Rattle.graph_base.specs.declared.line.Parent.{Parent}
use Rattle.stream_lists.specs.Jobs.{index_in}
use Rattle.stream_lists.specs.Spans.{signalled_by, LooksAt}
use Rattle.stream_lists.proofs.SpansAbove.{parent-is}

-- ---- the place of a phaser on a line

-- the place of a phaser, in a list that begins at place n
abbrev place_from : ℕ → List ℕ → ℕ → Option ℕ
place_from n qs p = position_from (λ q. eqb q p) n qs

-- what stands at the place that was found
found-at : (n : ℕ) (qs : List ℕ) (p j : ℕ) → place_from n qs p ≡ Some j
    → (k : ℕ) × (k < length qs) × (get_or qs k 0 ≡ p) × (j ≡ n + k)
found-at n [] p j e = absurd (cc)
found-at n (q ∷ qs) p j e = by (eqb q p) refl e (found-at (n + 1) qs p j)
  where
    by : (b : Bool) → eqb q p ≡ b → cond b (Some n) (place_from (n + 1) qs p) ≡ Some j
        → (place_from (n + 1) qs p ≡ Some j
        → (k : ℕ) × (k < length qs) × (get_or qs k 0 ≡ p) × (j ≡ n + 1 + k))
        → (k : ℕ) × (k < suc (length qs)) × (get_or (q ∷ qs) k 0 ≡ p) × (j ≡ n + k)
    by true same found later =
        let at : n ≡ j = same_Some n j found in
        (0, omega arith, eqb-true q p same, omega arith)
    by false other found later =
        let f = later found in
        let at : j ≡ n + 1 + f.0 = f.3 in
        (suc f.0, omega arith, f.2, omega arith)

pub place-at : (qs : List ℕ) (p j : ℕ) → index_in qs p ≡ Some j
    → (j < length qs) × (get_or qs j 0 ≡ p)
place-at qs p j e =
    let f = found-at 0 qs p j e in
    let at : f.0 ≡ j = omega arith in
    let At : ℕ → Type 0 = λ k. (k < length qs) × (get_or qs k 0 ≡ p) in
    subst At at (f.1, f.2)

-- a phaser of the line has a place
has-place : (n : ℕ) (qs : List ℕ) (k : ℕ) → k < length qs
    → (j : ℕ) × (place_from n qs (get_or qs k 0) ≡ Some j)
has-place n [] k lt = absurd (omega arith)
has-place n (q ∷ qs) zero lt = (n, rw (eq-eqb q q refl) refl)
has-place n (q ∷ qs) (suc k) lt =
    by (eqb q (get_or qs k 0)) (has-place (n + 1) qs k (omega arith))
  where
    by : (b : Bool) → (j : ℕ) × (place_from (n + 1) qs (get_or qs k 0) ≡ Some j)
        → (j : ℕ) × (cond b (Some n) (place_from (n + 1) qs (get_or qs k 0)) ≡ Some j)
    by true later = (n, refl)
    by false later = later

-- ---- the place of an input

-- a number that stands among the first of two lists stands in both together
pub any_front : (test : ℕ → Bool) (xs ys : List ℕ) (k : ℕ) → k < length xs
    → test (get_or xs k 0) ≡ true → list_any test (xs ++ ys) ≡ true
any_front test [] ys k lt e = absurd (omega arith)
any_front test (x ∷ xs) ys zero lt e = ap (λ b. b || list_any test (xs ++ ys)) e
any_front test (x ∷ xs) ys (suc k) lt e =
    ap (λ b. test x || b) (any_front test xs ys k (omega arith) e) ∙ or_right (test x)
  where
    or_right : (b : Bool) → (b || true) ≡ true
    or_right true = refl
    or_right false = refl

-- where no number stands twice, each stands at its own place
pub place-distinct : (n : ℕ) (xs ys : List ℕ) (k : ℕ) → k < length xs
    → is_distinct (xs ++ ys) ≡ true → place_from n xs (get_or xs k 0) ≡ Some (n + k)
place-distinct n [] ys k lt d = absurd (omega arith)
place-distinct n (x ∷ xs) ys zero lt d =
    let here : eqb x x ≡ true = eq-eqb x x refl in
    let same : n ≡ n + 0 = omega arith in
    rw here (ap (λ i. Some i) same)
place-distinct n (x ∷ xs) ys (suc k) lt d =
    let parts =
    and_parts (not (list_any (λ q. eqb q x) (xs ++ ys))) (is_distinct (xs ++ ys)) d in
    let rest = place-distinct (n + 1) xs ys k (omega arith) parts.1 in
    let next : n + 1 + k ≡ n + suc k = omega arith in
    by (eqb x (get_or xs k 0)) refl parts.0 (rest ∙ ap (λ i. Some i) next)
  where
    by : (b : Bool) → eqb x (get_or xs k 0) ≡ b
        → not (list_any (λ q. eqb q x) (xs ++ ys)) ≡ true
        → place_from (n + 1) xs (get_or xs k 0) ≡ Some (n + suc k)
        → cond b (Some n) (place_from (n + 1) xs (get_or xs k 0)) ≡ Some (n + suc k)
    by false e out rest = rest
    by true e out rest =
        let same : x ≡ get_or xs k 0 = eqb-true x (get_or xs k 0) e in
        let turned : eqb (get_or xs k 0) x ≡ true = eq-eqb (get_or xs k 0) x (sym same) in
        let found : list_any (λ q. eqb q x) (xs ++ ys) ≡ true =
        any_front (λ q. eqb q x) xs ys k (omega arith) turned in
        absurd (let f : false ≡ true = sym (ap not found) ∙ out in cc)

-- each input of a task stands at its own place
pub place_of_input : (graph : Graph) (t k : ℕ) → IsGraph graph → t < length graph.tasks
    → k < length (task_at graph t).inputs
    → index_in (task_at graph t).inputs (get_or (task_at graph t).inputs k 0) ≡ Some k
place_of_input graph t k is there lt =
    let task = task_at graph t in
    let same : 0 + k ≡ k = omega arith in
    place-distinct 0 task.inputs task.outputs k lt (is.tasks t there).distinct
    ∙ ap (λ i. Some i) same

-- ---- the order

-- two lists by phasers have the same entries at these inputs of a task
abbrev pub AreSameAt : {X : Type 0} → X → Task → List X → List X → (ℕ → Type 0) → Type 0
AreSameAt d task xs ys At = (k : ℕ) → k < length task.inputs → At k
    → get_or xs (get_or task.inputs k 0) d ≡ get_or ys (get_or task.inputs k 0) d

-- the first output looks at what the steps look at, and so does each other
pub looks-first : (kind : Kind) (j k : ℕ) → LooksAt kind 0 k → LooksAt kind j k
looks-first Source j k e = tt
looks-first Fir j k e = tt
looks-first Split j k e = tt
looks-first Decimate j k e = tt
looks-first Join j k e = tt
looks-first Peer zero k e = e
looks-first Peer (suc j) k e = tt
looks-first Sink j k e = tt

input_above : (graph : Graph) (t : ℕ) (task : Task) (j k p : ℕ) → IsTaskLine graph t task
    → index_in task.outputs p ≡ Some j → k < length task.inputs → get_or task.inputs k 0 < p
input_above graph t task j k p line place lt =
    let at = place-at task.outputs p j place in
    rw at.1 at (line.in_order k 0 lt j 0 at.0)

-- E and Y of a peer
abbrev of_peer : Task → List ℕ
of_peer task = get_or task.inputs 1 0 ∷ get_or task.outputs 0 0 ∷ []

-- an input that an output looks at stands above it
pub looked_above : (graph : Graph) (t : ℕ) (task : Task) (j k p : ℕ) → IsTaskLine graph t task
    → index_in (signalled_by task) p ≡ Some j → k < length task.inputs → LooksAt task.kind j k
    → get_or task.inputs k 0 < p
looked_above graph t task j k p line place lt looks = by task.kind refl
  where
    plain : signalled_by task ≡ task.outputs → get_or task.inputs k 0 < p
    plain same =
        input_above graph t task j k p line (ap (λ qs. index_in qs p) (sym same) ∙ place) lt

    -- X stands above E and above Y, and E above Y
    peer : (j : ℕ) → j < 2 → get_or (of_peer task) j 0 ≡ p → LooksAt Peer j k
        → get_or task.inputs 0 0 < get_or task.inputs 1 0 → length task.outputs ≡ 1
        → get_or task.inputs k 0 < p
    peer zero few at looks below one =
        let first : get_or task.inputs k 0 ≡ get_or task.inputs 0 0 =
        ap (λ i. get_or task.inputs i 0) looks in
        omega arith
    peer (suc zero) few at looks below one =
        let above : get_or task.inputs k 0 < get_or task.outputs 0 0 =
        line.in_order k 0 lt 0 0 (omega arith) in
        omega arith
    peer (suc (suc j)) few at looks below one = absurd (omega arith)

    by : (kind : Kind) → task.kind ≡ kind → get_or task.inputs k 0 < p
    by Source e = plain (rw e refl)
    by Fir e = plain (rw e refl)
    by Split e = plain (rw e refl)
    by Decimate e = plain (rw e refl)
    by Join e = plain (rw e refl)
    by Sink e = plain (rw e refl)
    by Peer e =
        let Ends : Kind → Type 0 = λ kind.
        HasEnds kind (length task.inputs) (length task.outputs) in
        let ends : (length task.inputs ≡ 2) × (length task.outputs ≡ 1) =
        subst Ends e line.ends in
        let signals : signalled_by task ≡ of_peer task = rw e refl in
        let at = place-at (of_peer task) p j (ap (λ qs. index_in qs p) (sym signals) ∙ place) in
        peer j at.0 at.1 (rw e at looks) (rw e at line.exchange) ends.1

pub outputs_look_above : (graph : Graph) (t j k p : ℕ) → IsGraph graph → t < length graph.tasks
    → index_in (signalled_by (task_at graph t)) p ≡ Some j → k < length (task_at graph t).inputs
    → LooksAt (task_at graph t).kind j k → get_or (task_at graph t).inputs k 0 < p
outputs_look_above graph t j k p is there place lt looks =
    looked_above graph t (task_at graph t) j k p (is.tasks t there) place lt looks

-- ---- parents

plain_ends : (task : Task) → has_children task.kind ≡ true → signalled_by task ≡ task.outputs
plain_ends task e = by task.kind refl
  where
    by : (kind : Kind) → task.kind ≡ kind → signalled_by task ≡ task.outputs
    by Source k = rw k refl
    by Fir k = rw k refl
    by Sink k = rw k refl
    by Split k = rw k refl
    by Decimate k = rw k refl
    by Join k = rw k refl
    by Peer k = absurd (let b : true ≡ false = sym e ∙ ap has_children k in cc)

-- an entry of a list is the same whatever stands for one that is not there
within : (k : ℕ) (qs : List ℕ) (p : ℕ) → k < length qs → get_or qs k p ≡ p → get_or qs k 0 ≡ p
within k [] p lt e = absurd (omega arith)
within zero (q ∷ qs) p lt e = e
within (suc k) (q ∷ qs) p lt e = within k qs p (omega arith) e

-- what is among these phasers has a place there
among_place : (qs : List ℕ) (p : ℕ) → Contains qs p → (i : ℕ) × (index_in qs p ≡ Some i)
among_place qs p among =
    rw (within among.0 qs p among.1 among.2) at (has-place 0 qs among.0 among.1)

-- a parent signals what its child signals
pub parent_signals : (graph : Graph) (t : ℕ) (task : Task) (u : Parent) (p j : ℕ)
    → IsParent graph t task u → index_in (signalled_by task) p ≡ Some j
    → (i : ℕ) × (index_in (signalled_by (task_at graph u.task)) p ≡ Some i)
parent_signals graph t task u p j is place =
    let above = task_at graph u.task in
    let here : index_in task.outputs p ≡ Some j =
    rw (plain_ends task is.child_kind) at place in
    let at = place-at task.outputs p j here in
    let among : Contains above.outputs p = rw at.1 at (is.signals j 0 at.0) in
    rw (plain_ends above is.kind) (among_place above.outputs p among)

pub parents_signal : (graph : Graph) (t p j : ℕ) (u : Parent) → IsGraph graph
    → t < length graph.tasks → (task_at graph t).parent ≡ Some u
    → index_in (signalled_by (task_at graph t)) p ≡ Some j
    → (i : ℕ) × (index_in (signalled_by (task_at graph u.task)) p ≡ Some i)
parents_signal graph t p j u is there e place =
    parent_signals graph t (task_at graph t) u p j
    (parent-is graph t (task_at graph t) u (is.tasks t there) e) place

-- and waits for what it waits for
pub parent_waits : (graph : Graph) (t : ℕ) (task : Task) (u : Parent) (k : ℕ)
    → IsParent graph t task u → k < length task.inputs
    → (i : ℕ) × (i < length (task_at graph u.task).inputs)
    × (get_or (task_at graph u.task).inputs i 0 ≡ get_or task.inputs k 0)
parent_waits graph t task u k is lt =
    let x = get_or task.inputs k 0 in
    let among = is.waits k 0 lt in
    (among.0, among.1, within among.0 (task_at graph u.task).inputs x among.1 among.2)

pub parents_wait : (graph : Graph) (t k : ℕ) (u : Parent) → IsGraph graph
    → t < length graph.tasks → (task_at graph t).parent ≡ Some u
    → k < length (task_at graph t).inputs
    → (i : ℕ) × (i < length (task_at graph u.task).inputs)
    × (get_or (task_at graph u.task).inputs i 0 ≡ get_or (task_at graph t).inputs k 0)
parents_wait graph t k u is there e lt =
    parent_waits graph t (task_at graph t) u k
    (parent-is graph t (task_at graph t) u (is.tasks t there) e) lt
