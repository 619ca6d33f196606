-- How many steps: by kind.
use Rattle.std.proofs.Common.{◌≡◌, ℕ, zero, suc, ◌+◌, ◌*◌, ◌%◌, ◌<◌, ◌≤◌, List, [], ◌∷◌, length, map, get_or, min, Option, Some, None, refl, sym, ap, subst, ◌∙◌, arith}
use Rattle.std.specs.List.{range_with_len, fold}
use Rattle.std.proofs.lemmas.List.FromFn.{length-map-range_with_len, get_or-map-range_with_len}
use Rattle.std.proofs.lemmas.Nat.{mod_below}
use Rattle.std.proofs.lemmas.Option.{same_Some}
use Rattle.graph_base.specs.declared.line.Kind.{Kind}
use Rattle.graph_base.specs.declared.line.Kind.TheVariants.{Source, Fir, Split, Decimate, Join, Peer, Sink}
use Rattle.graph_base.specs.Graphs.{Task}
use Rattle.graph_base.specs.TaskLines.{HasEnds}
use Rattle.stream_lists.specs.Spans.{turns_below, takes_from, run_out, first_run_out, enough_for, cut_at, LooksAt}
use Rattle.graph_runs.specs.Moments.{first_input, HasTaken, HasSamples, AtMost}
use Rattle.graph_runs.proofs.TurnsLemmas.{turns-mono, turns-before, turns-after}

-- ---- the least of a list

min-front : (ns : List ℕ) (a : ℕ) → fold min a ns ≤ a
min-front [] a = omega arith
min-front (n ∷ ns) a =
    let r : fold min (min a n) ns ≤ min a n = min-front ns (min a n) in omega arith

min-entry : (ns : List ℕ) (a k : ℕ) → k < length ns → fold min a ns ≤ get_or ns k 0
min-entry [] a k lt = absurd (omega arith)
min-entry (n ∷ ns) a zero lt =
    let r : fold min (min a n) ns ≤ min a n = min-front ns (min a n) in omega arith
min-entry (n ∷ ns) a (suc k) lt = min-entry ns (min a n) k (omega arith)

min-above : (ns : List ℕ) (a b : ℕ) → b ≤ a → ((k : ℕ) → k < length ns → b ≤ get_or ns k 0)
    → b ≤ fold min a ns
min-above [] a b le each = le
min-above (n ∷ ns) a b le each =
    let here : b ≤ n = each 0 (omega arith) in
    min-above ns (min a n) b (omega arith) (λ k lt. each (suc k) (omega arith))

run_outs-at : (values : List ℕ) (k : ℕ) → k < length values
    → get_or (map (run_out values) (range_with_len 0 (length values))) k 0 ≡ run_out values k
run_outs-at values k lt =
    let same : 0 + k ≡ k = omega arith in
    get_or-map-range_with_len (run_out values) 0 (length values) k k 0 lt same

run_outs-long : (values : List ℕ)
    → length (map (run_out values) (range_with_len 0 (length values))) ≡ length values
run_outs-long values = length-map-range_with_len (run_out values) 0 (length values)

-- no input has run out before
pub first_run_out-above : (values : List ℕ) (b : ℕ) → 0 < length values
    → ((k : ℕ) → k < length values → turns_below (length values) k b ≤ get_or values k 0)
    → b ≤ first_run_out values
first_run_out-above values b some each =
    min-above (map (run_out values) (range_with_len 0 (length values))) (run_out values 0) b
    (at 0 some)
    (λ k lt. (let long : length (map (run_out values) (range_with_len 0 (length values)))
    ≡ length values = run_outs-long values in
    let here : get_or (map (run_out values) (range_with_len 0 (length values))) k 0
    ≡ run_out values k = run_outs-at values k (omega arith) in
    let r : b ≤ run_out values k = at k (omega arith) in
    omega arith))
  where
    at : (k : ℕ) → k < length values → b ≤ run_out values k
    at k lt = turns-before (length values) k b (get_or values k 0) lt (each k lt)

-- the input that step b waits for has
pub first_run_out-below : (values : List ℕ) (b : ℕ) → 0 < length values
    → get_or values (b % length values) 0 ≤ turns_below (length values) (b % length values) b
    → first_run_out values ≤ b
first_run_out-below values b some le =
    let k = b % length values in
    let lt : k < length values = mod_below b (length values) some in
    let long : length (map (run_out values) (range_with_len 0 (length values))) ≡ length values =
    run_outs-long values in
    let low : first_run_out values
    ≤ get_or (map (run_out values) (range_with_len 0 (length values))) k 0 =
    min-entry (map (run_out values) (range_with_len 0 (length values))) (run_out values 0) k
    (omega arith) in
    let after : k + length values * get_or values k 0 ≤ b =
    turns-after (length values) b (get_or values k 0) some le in
    omega (arith, run_outs-at values k lt)

-- ---- steps

pub within_cut : (until : Option ℕ) (b n : ℕ) → AtMost b until → b ≤ n → b ≤ cut_at until n
within_cut None b n cut le = le
within_cut (Some u) b n cut le = omega arith

pub cut_below : (until : Option ℕ) (b n : ℕ) → n ≤ b → cut_at until n ≤ b
cut_below None b n le = le
cut_below (Some u) b n le = omega arith

pub cut_until : (until : Option ℕ) (b n : ℕ) → until ≡ Some b → cut_at until n ≤ b
cut_until None b n is = absurd (cc)
cut_until (Some u) b n is = let same : u ≡ b = same_Some _ _ is in omega arith

pub has_inputs : (kind : Kind) (inputs outputs : ℕ) → HasEnds kind inputs outputs
    → (kind ≡ Source → ⊥) → 0 < inputs
has_inputs Source inputs outputs ends not = absurd (not refl)
has_inputs Fir inputs outputs ends not = omega (arith, ends.0)
has_inputs Split inputs outputs ends not = omega (arith, ends.0)
has_inputs Decimate inputs outputs ends not = omega (arith, ends.0)
has_inputs Join inputs outputs ends not = omega (arith, ends.0)
has_inputs Peer inputs outputs ends not = omega (arith, ends.0)
has_inputs Sink inputs outputs ends not = omega (arith, ends.0)

pub no_inputs : (kind : Kind) (inputs outputs : ℕ) → HasEnds kind inputs outputs → kind ≡ Source
    → inputs ≡ 0
no_inputs kind inputs outputs ends is =
    (rw is at ends).0

-- what a step needs is there
pub enough-above : (task : Task) (samples : ℕ) (values : List ℕ) (b : ℕ)
    → HasEnds task.kind (length task.inputs) (length task.outputs)
    → length values ≡ length task.inputs → HasSamples task.kind b samples
    → ((k : ℕ) → k < length task.inputs → LooksAt task.kind 0 k
    → takes_from task b k ≤ get_or values k 0)
    → b ≤ enough_for task samples values
enough-above task samples values b ends long has each = by task.kind refl
  where
    first : (task.kind ≡ Source → ⊥) → LooksAt task.kind 0 0 → takes_from task b 0 ≡ b
        → enough_for task samples values ≡ get_or values 0 0 → b ≤ enough_for task samples values
    first not looks one is =
        let some : 0 < length task.inputs = has_inputs task.kind _ _ ends not in
        let r : takes_from task b 0 ≤ get_or values 0 0 = each 0 some looks in
        omega arith

    by : (kind : Kind) → task.kind ≡ kind → b ≤ enough_for task samples values
    by Source e =
        let few : b ≤ samples = rw e at has in
        let is : enough_for task samples values ≡ samples = rw e refl in
        omega arith
    by Fir e =
        first (λ s. (let no : Fir ≡ Source = sym e ∙ s in cc)) (rw e tt) (rw e refl) (rw e refl)
    by Split e =
        first (λ s. (let no : Split ≡ Source = sym e ∙ s in cc)) (rw e tt) (rw e refl) (rw e refl)
    by Decimate e =
        first (λ s. (let no : Decimate ≡ Source = sym e ∙ s in cc)) (rw e tt) (rw e refl)
        (rw e refl)
    by Peer e =
        first (λ s. (let no : Peer ≡ Source = sym e ∙ s in cc)) (rw e refl) (rw e refl) (rw e refl)
    by Sink e =
        first (λ s. (let no : Sink ≡ Source = sym e ∙ s in cc)) (rw e tt) (rw e refl) (rw e refl)
    by Join e =
        let some : 0 < length task.inputs =
        has_inputs task.kind _ _ ends (λ s. (let no : Join ≡ Source = sym e ∙ s in cc)) in
        let is : enough_for task samples values ≡ first_run_out values = rw e refl in
        let r : b ≤ first_run_out values = first_run_out-above values b (omega arith)
        (λ k lt. (let here : takes_from task b k ≡ turns_below (length task.inputs) k b =
        rw e refl in
        let same : turns_below (length values) k b ≡ turns_below (length task.inputs) k b =
        ap (λ n. turns_below n k b) long in
        let v : takes_from task b k ≤ get_or values k 0 = each k (omega arith) (rw e tt) in
        omega arith)) in
        omega arith

-- where the input of the next step is used up, no more is
pub enough-below : (task : Task) (samples : ℕ) (values : List ℕ) (b : ℕ)
    → HasEnds task.kind (length task.inputs) (length task.outputs)
    → length values ≡ length task.inputs → (task.kind ≡ Source → ⊥)
    → get_or values (first_input task b) 0 ≤ takes_from task b (first_input task b)
    → enough_for task samples values ≤ b
enough-below task samples values b ends long not le = by task.kind refl
  where
    some : 0 < length task.inputs
    some = has_inputs task.kind (length task.inputs) (length task.outputs) ends not

    first : first_input task b ≡ 0 → takes_from task b 0 ≡ b
        → enough_for task samples values ≡ get_or values 0 0 → enough_for task samples values ≤ b
    first at one is =
        let P : ℕ → Type 0 = λ k. get_or values k 0 ≤ takes_from task b k in
        omega (arith, subst P at le)

    by : (kind : Kind) → task.kind ≡ kind → enough_for task samples values ≤ b
    by Source e = absurd (not e)
    by Fir e = first (rw e refl) (rw e refl) (rw e refl)
    by Split e = first (rw e refl) (rw e refl) (rw e refl)
    by Decimate e = first (rw e refl) (rw e refl) (rw e refl)
    by Peer e = first (rw e refl) (rw e refl) (rw e refl)
    by Sink e = first (rw e refl) (rw e refl) (rw e refl)
    by Join e =
        let is : enough_for task samples values ≡ first_run_out values = rw e refl in
        let at : first_input task b ≡ b % length task.inputs = rw e refl in
        let turned : b % length task.inputs ≡ b % length values = ap (λ n. b % n) (sym long) in
        let here : get_or values (b % length values) 0 ≤ takes_from task b (b % length values) =
        rw (at ∙ turned) at le in
        let count : takes_from task b (b % length values)
        ≡ turns_below (length values) (b % length values) b =
        (let c : takes_from task b (b % length values)
        ≡ turns_below (length task.inputs) (b % length values) b = rw e refl in c)
        ∙ ap (λ n. turns_below n (b % length values) b) (sym long) in
        let lv : 0 < length values = (let n : 0 < length task.inputs = some in omega arith) in
        let r : first_run_out values ≤ b = first_run_out-below values b lv (omega arith) in
        omega arith

-- ---- what is taken

pub takes-mono : (task : Task) (a b k : ℕ) → k < length task.inputs → a ≤ b
    → takes_from task a k ≤ takes_from task b k
takes-mono task a b k lt le = by task.kind refl
  where
    by : (kind : Kind) → task.kind ≡ kind → takes_from task a k ≤ takes_from task b k
    by Source e = rw e le
    by Fir e = rw e le
    by Split e = rw e le
    by Decimate e = rw e le
    by Peer e = rw e le
    by Sink e = rw e le
    by Join e = rw e (turns-mono (length task.inputs) k a b (omega arith) le)

-- an input that the steps look at has given all that they take
pub taken_count : (task : Task) (b k n : ℕ)
    → HasEnds task.kind (length task.inputs) (length task.outputs) → k < length task.inputs
    → LooksAt task.kind 0 k → HasTaken task b k n → n ≡ takes_from task b k
taken_count task b k n ends lt looks has = by task.kind k refl refl
  where
    by : (kind : Kind) (i : ℕ) → task.kind ≡ kind → k ≡ i → n ≡ takes_from task b k
    by Source i e at =
        let none : length task.inputs ≡ 0 = no_inputs task.kind _ _ ends e in absurd (omega arith)
    by Fir i e at =
        (let r : n ≡ takes_from (record task { kind = Fir }) b k = rw e at has in r ∙ rw e refl)
    by Split i e at =
        (let r : n ≡ takes_from (record task { kind = Split }) b k = rw e at has in r ∙ rw e refl)
    by Decimate i e at =
        (let r : n ≡ takes_from (record task { kind = Decimate }) b k = rw e at has in
        r ∙ rw e refl)
    by Join i e at =
        (let r : n ≡ takes_from (record task { kind = Join }) b k = rw e at has in r ∙ rw e refl)
    by Sink i e at =
        (let r : n ≡ takes_from (record task { kind = Sink }) b k = rw e at has in r ∙ rw e refl)
    by Peer zero e at =
        let Q : ℕ → Type 0 = λ k. HasTaken task b k n in
        let r : n ≡ b = rw e at (subst Q at has) in
        r ∙ rw e refl
    by Peer (suc i) e at =
        absurd (omega (arith, rw e at looks))

-- and no input more
pub taken_most : (task : Task) (b k n : ℕ)
    → HasEnds task.kind (length task.inputs) (length task.outputs) → k < length task.inputs
    → HasTaken task b k n → n ≤ takes_from task b k
taken_most task b k n ends lt has = by task.kind k refl refl
  where
    exact : LooksAt task.kind 0 k → n ≤ takes_from task b k
    exact looks =
        let same : n ≡ takes_from task b k = taken_count task b k n ends lt looks has in omega arith

    by : (kind : Kind) (i : ℕ) → task.kind ≡ kind → k ≡ i → n ≤ takes_from task b k
    by Source i e at = exact (rw e tt)
    by Fir i e at = exact (rw e tt)
    by Split i e at = exact (rw e tt)
    by Decimate i e at = exact (rw e tt)
    by Join i e at = exact (rw e tt)
    by Sink i e at = exact (rw e tt)
    by Peer zero e at = exact (rw e at)
    by Peer (suc i) e at =
        let Q : ℕ → Type 0 = λ k. HasTaken task b k n in
        let r : (n ≤ b) × (b ≤ n + 1) = rw e at (subst Q at has) in
        let is : takes_from task b k ≡ b = rw e refl in
        let le : n ≤ b = r.0 in
        omega arith
