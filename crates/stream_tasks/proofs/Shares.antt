-- The shares of what a splitter deals: which output has its turn, how many values each gets, and that
-- they go on with what it has got before.
use Rattle.std.proofs.Common.{◌≡◌, ◌≢◌, ℕ, zero, suc, ◌+◌, ◌-◌, ◌*◌, ◌/◌, ◌%◌, ◌<◌, ◌≤◌, ◌⊎◌, inl, inr, ℤ, pos, List, ◌++◌, length, get_or, drop, sym, ap, ◌∙◌, arith}
use mathlib.Core.List.{IsPrefix}
use Rattle.std.proofs.Math.Nat.{mul-add-div_right, mul-le-mul_right}
use Rattle.std.proofs.lemmas.Bool.{cases_lt}
use Rattle.std.proofs.lemmas.List.{get_or_append_left, get_or-append-add, length-append}
use Rattle.std.proofs.lemmas.List.FromFn.{get_or-map-range_with_len, length-map-range_with_len}
use Rattle.std.proofs.lemmas.Nat.{div-add-mod', div-mul-add, mod-mul-add, mod_below}
use Rattle.graph_runs.proofs.Entries.{get_or-drop, prefix_at, prefix_by}
use Rattle.graph_runs.proofs.Nexts.{turns-next, turns-stay}
use Rattle.graph_runs.proofs.OwnEvents.{eq_case}
use Rattle.stream_lists.specs.Lists.{entry, every}
use Rattle.stream_lists.specs.Spans.{turns_below}

-- ---- turns

-- how many turns an output had before its next one, at most so many steps ahead
pub turns_first : (outputs first i : ℕ) → i < outputs
    → turns_below outputs ((first + i) % outputs) first ≡ (first + i) / outputs
turns_first outputs first i less =
    let c = (first + i) / outputs in
    let j = (first + i) % outputs in
    let split : c * outputs + j ≡ first + i = div-add-mod' (first + i) outputs in
    let below : j < outputs = mod_below (first + i) outputs (omega arith) in
    let is : first + (outputs - 1 - j) ≡ c * outputs + (outputs - 1 - i) = omega arith in
    ap (λ x. x / outputs) is ∙ div-mul-add c outputs (outputs - 1 - i) (omega arith)

-- how many it has behind so many more steps
pub turns_then : (outputs first n i : ℕ) → i < outputs
    → turns_below outputs ((first + i) % outputs) (first + n)
    ≡ (first + i) / outputs + turns_below outputs i n
turns_then outputs first n i less =
    let c = (first + i) / outputs in
    let j = (first + i) % outputs in
    let split : c * outputs + j ≡ first + i = div-add-mod' (first + i) outputs in
    let below : j < outputs = mod_below (first + i) outputs (omega arith) in
    let is : first + n + (outputs - 1 - j) ≡ c * outputs + (n + (outputs - 1 - i)) = omega arith in
    ap (λ x. x / outputs) is ∙ mul-add-div_right (omega arith) c (n + (outputs - 1 - i))

-- an output whose turn does not come has no share
pub turns_none : (outputs n i : ℕ) → i < outputs → n ≤ i → turns_below outputs i n ≡ 0
turns_none outputs n i less past =
    let is : n + (outputs - 1 - i) ≡ 0 * outputs + (n + (outputs - 1 - i)) = omega arith in
    ap (λ x. x / outputs) is ∙ div-mul-add 0 outputs (n + (outputs - 1 - i)) (omega arith)

-- no output has more turns than there are steps
pub turns_few : (outputs n i : ℕ) → i < outputs → turns_below outputs i n ≤ n
turns_few outputs zero i less =
    let none = turns_none outputs 0 i less (omega arith) in omega arith
turns_few outputs (suc n) i less = by (turns_few outputs n i less) (eq_case i (n % outputs))
  where
    by : turns_below outputs i n ≤ n → (i ≡ n % outputs) ⊎ (i ≢ n % outputs)
        → turns_below outputs i (suc n) ≤ suc n
    by few (inl e) = omega (arith, turns-next outputs n i less e)
    by few (inr apart) = omega (arith, turns-stay outputs n i less apart)

-- one whose turn comes has some
pub turns_some : (outputs n i : ℕ) → i < outputs → i < n → 1 ≤ turns_below outputs i n
turns_some outputs n i less comes =
    let is : n + (outputs - 1 - i) ≡ 1 * outputs + (n - 1 - i) = omega arith in
    let one : turns_below outputs i n ≡ 1 + (n - 1 - i) / outputs =
    ap (λ x. x / outputs) is ∙ mul-add-div_right (omega arith) 1 (n - 1 - i) in
    omega arith

-- each output has its turn within as many steps as there are outputs
pub turn_of : (outputs first j : ℕ) → j < outputs
    → (i : ℕ) × (i < outputs) × ((first + i) % outputs ≡ j)
turn_of outputs first j less = by (cases_lt j (first % outputs))
  where
    q : ℕ
    q = first / outputs

    split : q * outputs + first % outputs ≡ first
    split = div-add-mod' first outputs

    below : first % outputs < outputs
    below = mod_below first outputs (omega arith)

    by : (j < first % outputs) ⊎ (first % outputs ≤ j)
        → (i : ℕ) × (i < outputs) × ((first + i) % outputs ≡ j)
    by (inl less_j) =
        let next : (q + 1) * outputs ≡ q * outputs + outputs = omega arith in
        let is : first + (j + outputs - first % outputs) ≡ (q + 1) * outputs + j =
        omega (arith, split, below, next) in (
          j + outputs - first % outputs,
          omega (arith, below),
          ap (λ x. x % outputs) is ∙ mod-mul-add (q + 1) outputs j less,
        )
    by (inr more) =
        let is : first + (j - first % outputs) ≡ q * outputs + j = omega (arith, split) in (
          j - first % outputs,
          omega arith,
          ap (λ x. x % outputs) is ∙ mod-mul-add q outputs j less,
        )

-- and no two have it at one step
pub turn_once : (outputs first i k : ℕ) → i < outputs → k < outputs
    → (first + i) % outputs ≡ (first + k) % outputs → i ≡ k
turn_once outputs first i k less_i less_k same =
    by (cases_lt ((first + i) / outputs) ((first + k) / outputs))
    (cases_lt ((first + k) / outputs) ((first + i) / outputs))
  where
    split_i : (first + i) / outputs * outputs + (first + i) % outputs ≡ first + i
    split_i = div-add-mod' (first + i) outputs

    split_k : (first + k) / outputs * outputs + (first + k) % outputs ≡ first + k
    split_k = div-add-mod' (first + k) outputs

    -- the later of two turns is a round behind
    later : (c d : ℕ) → c < d → c * outputs + outputs ≤ d * outputs
    later c d less =
        let all : suc c * outputs ≤ d * outputs = mul-le-mul_right outputs (omega arith) in
        let one : suc c * outputs ≡ c * outputs + outputs = omega arith in omega arith

    by : ((first + i) / outputs < (first + k) / outputs)
        ⊎ ((first + k) / outputs ≤ (first + i) / outputs)
        → ((first + k) / outputs < (first + i) / outputs)
        ⊎ ((first + i) / outputs ≤ (first + k) / outputs) → i ≡ k
    by (inl less) other =
        absurd (omega (arith, split_i, split_k, same, later ((first + i) / outputs) ((first + k) / outputs) less))
    by (inr le) (inl less) =
        absurd (omega (arith, split_i, split_k, same, later ((first + k) / outputs) ((first + i) / outputs) less))
    by (inr le) (inr ge) =
        let e : (first + i) / outputs ≡ (first + k) / outputs = omega arith in
        let f : (first + i) / outputs * outputs ≡ (first + k) / outputs * outputs =
        ap (λ x. x * outputs) e in omega (arith, split_i, split_k)

-- ---- shares

pub length-every : (outputs i : ℕ) (values : List ℤ)
    → length (every outputs i values) ≡ turns_below outputs i (length values)
length-every outputs i values =
    length-map-range_with_len (λ k. entry values (i + k * outputs)) 0
    (turns_below outputs i (length values))

-- what an output has got, and its share of the values behind the first ones, begin what it gets of
-- all
pub share_next : (outputs first i : ℕ) (taken values put : List ℤ) → i < outputs
    → drop first taken ≡ values → length taken ≡ first + length values
    → IsPrefix put (every outputs ((first + i) % outputs) taken)
    → length put ≡ (first + i) / outputs
    → IsPrefix (put ++ every outputs i values) (every outputs ((first + i) % outputs) taken)
share_next outputs first i taken values put less are long begins count =
    prefix_by (put ++ share) all (pos 0) (omega (arith, many, whole)) (λ n lt. at n lt (cases_lt n (length put)))
  where
    j : ℕ
    j = (first + i) % outputs

    share : List ℤ
    share = every outputs i values

    all : List ℤ
    all = every outputs j taken

    many : length (put ++ share) ≡ length put + turns_below outputs i (length values)
    many = length-append put share ∙ ap (λ n. length put + n) (length-every outputs i values)

    whole : length all ≡ length put + turns_below outputs i (length values)
    whole =
        length-every outputs j taken ∙ ap (λ n. turns_below outputs j n) long
        ∙ turns_then outputs first (length values) i less
        ∙ ap (λ n. n + turns_below outputs i (length values)) (sym count)

    -- of the share
    behind : (n : ℕ) → n < turns_below outputs i (length values)
        → get_or all (length put + n) (pos 0) ≡ get_or share n (pos 0)
    behind n lt =
        let split : (first + i) / outputs * outputs + j ≡ first + i =
        div-add-mod' (first + i) outputs in
        let there : (length put + n) * outputs ≡ length put * outputs + n * outputs = omega arith in
        let here : length put * outputs ≡ (first + i) / outputs * outputs =
        ap (λ x. x * outputs) count in
        let place : j + (length put + n) * outputs ≡ first + (i + n * outputs) =
        omega (arith, split, there, here) in
        get_or-map-range_with_len (λ k. entry taken (j + k * outputs)) 0
        (turns_below outputs j (length taken)) (length put + n) (length put + n) (pos 0)
        (omega (arith, whole, length-every outputs j taken)) (omega arith)
        ∙ ap (λ k. entry taken k) place
        ∙ sym (get_or-drop taken first (i + n * outputs) (pos 0))
        ∙ ap (λ l. entry l (i + n * outputs)) are
        ∙ sym (get_or-map-range_with_len (λ k. entry values (i + k * outputs)) 0
        (turns_below outputs i (length values)) n n (pos 0) lt (omega arith))

    at : (n : ℕ) → n < length (put ++ share) → (n < length put) ⊎ (length put ≤ n)
        → get_or all n (pos 0) ≡ get_or (put ++ share) n (pos 0)
    at n lt (inl low) =
        prefix_at put all n (pos 0) begins low ∙ sym (get_or_append_left put share (pos 0) n low)
    at n lt (inr high) =
        let rest = n - length put in
        let is : length put + rest ≡ n = omega arith in
        ap (λ k. get_or all k (pos 0)) (sym is)
        ∙ behind rest (omega (arith, many))
        ∙ sym (get_or-append-add put share rest (pos 0))
        ∙ ap (λ k. get_or (put ++ share) k (pos 0)) is
