-- The output lists: over less that was taken they begin what they are over more.
use Rattle.std.proofs.Common.{◌≡◌, ℕ, zero, suc, ◌+◌, ◌*◌, ◌/◌, ◌%◌, ◌<◌, ◌≤◌, true, false, List, [], ℤ, pos, length, map, get_or, take, refl, sym, ap, subst, ◌∙◌, arith}
use Rattle.std.specs.Prelude.{nat_lt, ◌*ℤ◌, ◌-ℤ◌}
use Rattle.std.specs.List.{range_with_len}
use mathlib.Core.List.{IsPrefix}
use Rattle.std.proofs.lemmas.List.FromFn.{length-map-range_with_len, get_or-map-range_with_len}
use Rattle.std.proofs.lemmas.Bool.{le-leb}
use Rattle.std.proofs.lemmas.Nat.{mod_below}
use Rattle.phase_history.proofs.Streams.{IsPrefix-trans}
use Rattle.stream_filters.specs.declared.form.Form.{Form}
use Rattle.stream_filters.specs.Filter.{outputs, outputs_of_block}
use Rattle.stream_filters.proofs.Outputs.{outputs-block}
use Rattle.graph_base.specs.declared.line.Kind.{Kind}
use Rattle.graph_base.specs.declared.line.Kind.TheVariants.{Source, Fir, Split, Decimate, Join, Peer, Sink}
use Rattle.graph_base.specs.Graphs.{Task}
use Rattle.graph_base.specs.TaskLines.{HasEnds, HasEvery, has_children}
use Rattle.stream_lists.specs.Spans.{turns_below, takes_from, puts_on, signalled_by, LooksAt}
use Rattle.stream_lists.specs.Lists.{entry, every, turn_at, in_turn, mixed_at, mixed, output_list}
use Rattle.stream_lists.proofs.ListLengths.{steps_long}
use Rattle.graph_runs.specs.Moments.{HasExchanged, HasSamples}
use Rattle.graph_runs.proofs.Entries.{prefix_length, prefix_at, prefix_by, take_prefix, take_of_prefix}
use Rattle.graph_runs.proofs.TurnsLemmas.{turns-mono, turn-within, turn-taken}
use Rattle.graph_runs.proofs.StepsLemmas.{has_inputs}

-- entry i of what f gives for the numbers below n
at_range : (f : ℕ → ℤ) (n i : ℕ) → i < n → get_or (map f (range_with_len 0 n)) i (pos 0) ≡ f i
at_range f n i lt =
    let same : 0 + i ≡ i = omega arith in get_or-map-range_with_len f 0 n i i (pos 0) lt same

range_long : (f : ℕ → ℤ) (n : ℕ) → length (map f (range_with_len 0 n)) ≡ n
range_long f n = length-map-range_with_len f 0 n

-- what two functions give for a numbers and for more, where they give the same for the a
ranges_begin : (f g : ℕ → ℤ) (a b : ℕ) → a ≤ b → ((i : ℕ) → i < a → g i ≡ f i)
    → IsPrefix (map f (range_with_len 0 a)) (map g (range_with_len 0 b))
ranges_begin f g a b le same =
    let long_a : length (map f (range_with_len 0 a)) ≡ a = range_long f a in
    let long_b : length (map g (range_with_len 0 b)) ≡ b = range_long g b in
    prefix_by (map f (range_with_len 0 a)) (map g (range_with_len 0 b)) (pos 0) (omega arith)
    (λ i lt. (let below : i < a = omega arith in
    at_range g b i (omega arith) ∙ same i below ∙ sym (at_range f a i below)))

-- ---- kind by kind

fir_begins : (taps : List ℤ) (form : Form) (xs ys : List ℤ) → IsPrefix xs ys
    → IsPrefix (outputs taps form xs) (outputs taps form ys)
fir_begins taps form xs ys a = (
  outputs_of_block taps form xs a.0,
  sym (outputs-block taps form xs a.0) ∙ ap (λ l. outputs taps form l) a.1,
)

every_begins : (m j : ℕ) (xs ys : List ℤ) → j < m → IsPrefix xs ys
    → IsPrefix (every m j xs) (every m j ys)
every_begins m j xs ys lt a =
    ranges_begin (λ k. entry xs (j + k * m)) (λ k. entry ys (j + k * m))
    (turns_below m j (length xs)) (turns_below m j (length ys))
    (turns-mono m j (length xs) (length ys) (omega arith) (prefix_length xs ys a))
    (λ k turn. prefix_at xs ys (j + k * m) (pos 0) a (turn-within m j (length xs) k lt turn))

in_turn_begins : (xs ys : List (List ℤ)) (a b : ℕ) → a ≤ b → 0 < length xs → length ys ≡ length xs
    → ((k : ℕ) → k < length xs → IsPrefix (get_or xs k []) (get_or ys k []))
    → ((k : ℕ) → k < length xs → length (get_or xs k []) ≡ turns_below (length xs) k a)
    → IsPrefix (in_turn xs a) (in_turn ys b)
in_turn_begins xs ys a b le some long each counts =
    ranges_begin (turn_at xs) (turn_at ys) a b le
    (λ i lt. (let k = i % length xs in
    let below : k < length xs = mod_below i (length xs) some in
    ap (λ m. entry (get_or ys (i % m) []) (i / m)) long
    ∙ prefix_at (get_or xs k []) (get_or ys k []) (i / length xs) (pos 0) (each k below)
    (omega (arith, turn-taken (length xs) i a some lt, counts k below))))

-- a peer's Y, as far as both are there
mixed_begins : (mul : ℤ) (xs es ys fs put : List ℤ) → IsPrefix xs ys → IsPrefix es fs
    → length put ≤ length es
    → IsPrefix put (mixed mul xs es) → IsPrefix put (mixed mul ys fs)
mixed_begins mul xs es ys fs put a b fits is =
    let long : length (mixed mul xs es) ≡ length xs = range_long (mixed_at mul xs es) (length xs) in
    let longer : length (mixed mul ys fs) ≡ length ys =
    range_long (mixed_at mul ys fs) (length ys) in
    let within : length put ≤ length (mixed mul xs es) = prefix_length put (mixed mul xs es) is in
    let more : length xs ≤ length ys = prefix_length xs ys a in
    prefix_by put (mixed mul ys fs) (pos 0) (omega arith)
    (λ i lt. (at_range (mixed_at mul ys fs) (length ys) i (omega arith)
    ∙ ap (λ v. (mul *ℤ v) -ℤ entry fs i) (prefix_at xs ys i (pos 0) a (omega arith))
    ∙ ap (λ v. (mul *ℤ entry xs i) -ℤ v) (prefix_at es fs i (pos 0) b (omega arith))
    ∙ sym (at_range (mixed_at mul xs es) (length xs) i (omega arith))
    ∙ prefix_at put (mixed mul xs es) i (pos 0) is lt))

-- ---- what was put begins the whole output list

-- over what was taken, in b steps; over what is there, in all
pub outputs_begin : (samples : List ℤ) (task : Task) (now all : List (List ℤ)) (b steps j : ℕ)
    (put : List ℤ)
    → HasEnds task.kind (length task.inputs) (length task.outputs) → HasEvery task.kind task.every
    → j < length (signalled_by task) → b ≤ steps
    → length now ≡ length task.inputs → length all ≡ length task.inputs
    → ((k : ℕ) → k < length task.inputs → LooksAt task.kind j k
    → IsPrefix (get_or now k []) (get_or all k []))
    → ((k : ℕ) → k < length task.inputs → LooksAt task.kind 0 k
    → length (get_or now k []) ≡ takes_from task b k)
    → HasExchanged task.kind j (length put) (length (get_or now 1 []))
    → IsPrefix put (output_list samples now task b j)
    → IsPrefix put (output_list samples all task steps j)
outputs_begin samples task now all b steps j put ends every_is lt le long_now long_all each counts
    exchanged is = by task.kind j refl refl
  where
    one : (task.kind ≡ Source → ⊥) → LooksAt task.kind j 0
        → IsPrefix (get_or now 0 []) (get_or all 0 [])
    one not looks = each 0 (has_inputs task.kind _ _ ends not) looks

    after : (xs ys : List ℤ) → output_list samples now task b j ≡ xs
        → output_list samples all task steps j ≡ ys → IsPrefix xs ys
        → IsPrefix put (output_list samples all task steps j)
    after xs ys now_is all_is begins =
        rw all_is (IsPrefix-trans put xs ys (rw now_is at is) begins)

    turns : (m i : ℕ) → i < m → (task.kind ≡ Source → ⊥) → LooksAt task.kind j 0
        → output_list samples now task b j ≡ every m i (get_or now 0 [])
        → output_list samples all task steps j ≡ every m i (get_or all 0 [])
        → IsPrefix put (output_list samples all task steps j)
    turns m i few not looks now_is all_is =
        after (every m i (get_or now 0 [])) (every m i (get_or all 0 [])) now_is all_is
        (every_begins m i (get_or now 0 []) (get_or all 0 []) few (one not looks))

    by : (kind : Kind) (i : ℕ) → task.kind ≡ kind → j ≡ i
        → IsPrefix put (output_list samples all task steps j)
    by Source i e at =
        after (take b samples) (take steps samples) (rw e refl) (rw e refl)
        (take_prefix b steps samples le)
    by Fir i e at =
        after (outputs task.taps task.form (get_or now 0 []))
        (outputs task.taps task.form (get_or all 0 [])) (rw e refl) (rw e refl)
        (fir_begins task.taps task.form (get_or now 0 []) (get_or all 0 [])
        (one (λ s. (let no : Fir ≡ Source = sym e ∙ s in cc)) (rw e tt)))
    by Split i e at =
        turns (length task.outputs) j (rw e at lt)
        (λ s. (let no : Split ≡ Source = sym e ∙ s in cc)) (rw e tt) (rw e refl) (rw e refl)
    by Decimate i e at =
        let some : (1 ≤ task.every) × (task.every ≤ 65536) = rw e at every_is in
        turns task.every 0 (omega (arith, some.0))
        (λ s. (let no : Decimate ≡ Source = sym e ∙ s in cc)) (rw e tt) (rw e refl) (rw e refl)
    by Join i e at =
        let some : 0 < length task.inputs =
        has_inputs task.kind _ _ ends (λ s. (let no : Join ≡ Source = sym e ∙ s in cc)) in
        after (in_turn now b) (in_turn all steps) (rw e refl) (rw e refl)
        (in_turn_begins now all b steps le (omega arith) (long_all ∙ sym long_now)
        (λ k below. each k (omega arith) (rw e tt))
        (λ k below. counts k (omega arith) (rw e tt)
        ∙ (let c : takes_from task b k ≡ turns_below (length task.inputs) k b = rw e refl in c)
        ∙ ap (λ n. turns_below n k b) (sym long_now)))
    by Sink i e at = after [] [] (rw e refl) (rw e refl) ([], refl)
    by Peer zero e at =
        after (get_or now 0 []) (get_or all 0 []) (rw (e, at) refl) (rw (e, at) refl)
        (one (λ s. (let no : Peer ≡ Source = sym e ∙ s in cc)) (rw (e, at) refl))
    by Peer (suc i) e at =
        let both : (length task.inputs ≡ 2) × (length task.outputs ≡ 1) = rw e at ends in
        let two : length task.inputs ≡ 2 = both.0 in
        let J : ℕ → Type 0 =
        λ j. HasExchanged task.kind j (length put) (length (get_or now 1 [])) in
        let fits : length put ≤ length (get_or now 1 []) = rw e at (subst J at exchanged) in
        let yes : nat_lt 0 (suc i) ≡ true = le-leb 1 (suc i) (omega arith) in
        let now_is : output_list samples now task b j
        ≡ mixed task.mul (get_or now 0 []) (get_or now 1 []) = rw (e, at, yes) refl in
        let all_is : output_list samples all task steps j
        ≡ mixed task.mul (get_or all 0 []) (get_or all 1 []) = rw (e, at, yes) refl in
        rw all_is
        (mixed_begins task.mul (get_or now 0 []) (get_or now 1 []) (get_or all 0 [])
        (get_or all 1 []) put
        (each 0 (omega arith) (rw (e, at) tt)) (each 1 (omega arith) (rw (e, at) tt)) fits
        (rw now_is at is))

-- ---- how long it is

-- what b steps put out, over what they took
pub length_made : (samples : List ℤ) (task : Task) (now : List (List ℤ)) (b j : ℕ)
    → HasEnds task.kind (length task.inputs) (length task.outputs) → j < length (signalled_by task)
    → HasSamples task.kind b (length samples)
    → ((k : ℕ) → k < length task.inputs → LooksAt task.kind 0 k
    → length (get_or now k []) ≡ takes_from task b k)
    → length (output_list samples now task b j) ≡ puts_on task b j
length_made samples task now b j ends lt has counts =
    steps_long samples now task b j ends lt (λ source. rw source at has) counts

-- and no more than its steps
pub puts-few : (task : Task) (b j : ℕ)
    → HasEnds task.kind (length task.inputs) (length task.outputs)
    → has_children task.kind ≡ true → puts_on task b j ≡ b
puts-few task b j ends plain = by task.kind refl
  where
    by : (kind : Kind) → task.kind ≡ kind → puts_on task b j ≡ b
    by Source e = rw e refl
    by Fir e = rw e refl
    by Sink e = rw e refl
    by Join e = rw e refl
    by Peer e = rw e refl
    by Split e =
        absurd (let b : true ≡ false =
        sym plain ∙ ap has_children e in cc)
    by Decimate e =
        absurd (let b : true ≡ false =
        sym plain ∙ ap has_children e in cc)
